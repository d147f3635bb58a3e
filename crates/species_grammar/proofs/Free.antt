-- The readers that no depth bounds, step by step.
use Rattle.std.proofs.Common.{◌≡◌, ◌∙◌, ap, sym, refl, subst, ℕ, zero, suc, ◌+◌, ◌<◌, List, [], ◌∷◌, ◌++◌, length, Option, Some, None, Bool, true, false, arith, append_assoc, append-nil, inl, inr}
use Rattle.std.specs.Prelude.{if◌then◌else◌}
use Rattle.species_grammar.specs.Reader.{Answer, Reader, ◌>>=◌, Word, is_of, starts, said, one, word, nothing, both, mapped, choose, skip, ends, cons_of, many, until, joined, level, deep, repeated, closed, level_tail, prepended}
use Rattle.species_grammar.specs.Lawful.{Less, Under, Enough, Takes, Advances}
use Rattle.species_grammar.proofs.Depth.{bind_less, under_same, both_under, mapped_under, choose_under, less_on, grow, one_enough, many_under, until_under, many_enough, until_enough, same_depth, both_takes, mapped_takes, choose_takes, fewer_takes, one_takes}

-- ---- a choice, once its test is known

pub choose_then : {Tok A : Type 0} (c : Tok → Bool) (r q : Reader Tok A) (ts : List Tok) → starts c ts ≡ true → choose c r q ts ≡ r ts
choose_then c r q ts e = ap (λ b. if b then r ts else q ts) e

pub choose_else : {Tok A : Type 0} (c : Tok → Bool) (r q : Reader Tok A) (ts : List Tok) → starts c ts ≡ false → choose c r q ts ≡ q ts
choose_else c r q ts e = ap (λ b. if b then r ts else q ts) e

pub word_starts : {Tok A : Type 0} (w : Word Tok A) (ts : List Tok) (x : A) (us : List Tok) → word w ts ≡ Answer.read x us → starts (is_of w) ts ≡ true
word_starts w [] x us h = cc
word_starts {Tok} {A} w (t ∷ ts) x us h = go (w.says t) refl
  where
    go : (o : Option A) → w.says t ≡ o → starts (is_of w) (t ∷ ts) ≡ true
    go None e = let d : Path (Answer Tok A) (Answer.stuck (t ∷ ts)) (Answer.read x us) = sym (ap (λ z. said z ts (t ∷ ts)) e) ∙ h in cc
    go (Some y) e = cc

-- ---- what is read one by one

-- a first thing and the others
cons_prepended : {Tok A : Type 0} (x : A) (a : Answer Tok (List A)) → (a >>= (λ y rest. Answer.read (x, y) rest) >>= (λ p rest. Answer.read (cons_of p) rest)) ≡ prepended (x ∷ []) a
cons_prepended x (Answer.read ys rest) = refl
cons_prepended x (Answer.stuck ts) = refl
cons_prepended x Answer.shallow = refl

prepended_twice : {Tok A : Type 0} (xs ys : List A) (a : Answer Tok (List A)) → prepended xs (prepended ys a) ≡ prepended (xs ++ ys) a
prepended_twice xs ys (Answer.read zs rest) = ap (λ l. Answer.read l rest) (sym (append_assoc xs ys zs))
prepended_twice xs ys (Answer.stuck ts) = refl
prepended_twice xs ys Answer.shallow = refl

then_done : {Tok A : Type 0} (all a : Answer Tok (List A)) (xs : List A) (us : List Tok) → all ≡ prepended xs a → a ≡ Answer.read [] us → all ≡ Answer.read xs us
then_done all a xs us h e = h ∙ ap (prepended xs) e ∙ ap (λ l. Answer.read l us) (append-nil xs)

then_more : {Tok A : Type 0} (all a b : Answer Tok (List A)) (xs : List A) (x : A) → all ≡ prepended xs a → a ≡ prepended (x ∷ []) b → all ≡ prepended (xs ++ x ∷ []) b
then_more all a b xs x h e = h ∙ ap (prepended xs) e ∙ prepended_twice xs (x ∷ []) b

then_stuck : {Tok A : Type 0} (all a : Answer Tok (List A)) (xs : List A) (us : List Tok) → all ≡ prepended xs a → a ≡ Answer.stuck us → all ≡ Answer.stuck us
then_stuck all a xs us h e = h ∙ ap (prepended xs) e

-- a thing, and others at a depth where they read as at another
first_read : {Tok A : Type 0} (r : Reader Tok A) (q q' : Reader Tok (List A)) (ts : List Tok) (x : A) (us : List Tok) → r ts ≡ Answer.read x us → q us ≡ q' us → mapped cons_of (both r q) ts ≡ prepended (x ∷ []) (q' us)
first_read {Tok} {A} r q q' ts x us e same = ap go_on e ∙ ap (λ a. a >>= paired x >>= consed) same ∙ cons_prepended x (q' us)
  where
    paired : A → List A → Reader Tok (A × List A)
    paired x ys rest = Answer.read (x, ys) rest

    consed : A × List A → Reader Tok (List A)
    consed p rest = Answer.read (cons_of p) rest

    go_on : Answer Tok A → Answer Tok (List A)
    go_on a = a >>= (λ x us. q us >>= paired x) >>= consed

first_stuck : {Tok A : Type 0} (r : Reader Tok A) (q : Reader Tok (List A)) (ts us : List Tok) → r ts ≡ Answer.stuck us → mapped cons_of (both r q) ts ≡ Answer.stuck us
first_stuck r q ts us e = ap (λ a. a >>= (λ x us. q us >>= (λ ys rest. Answer.read (x, ys) rest)) >>= (λ p rest. Answer.read (cons_of p) rest)) e

pub ever_enough : {Tok A : Type 0} (r : Reader Tok A) (n : ℕ) → Advances r → Enough r n
ever_enough r n h ts lt d = h.never ts d

-- ---- as long as a test holds

pub repeated_end : {Tok A : Type 0} (c : Tok → Bool) (r : Reader Tok A) (ts : List Tok) → starts c ts ≡ false → repeated c r ts ≡ Answer.read [] ts
unfolding repeated
repeated_end c r ts e = choose_else c (mapped cons_of (both r (many (length ts) c r))) (nothing []) ts e

pub repeated_next : {Tok A : Type 0} (c : Tok → Bool) (r : Reader Tok A) → Advances r → (ts : List Tok) (x : A) (us : List Tok) → starts c ts ≡ true → r ts ≡ Answer.read x us → repeated c r ts ≡ prepended (x ∷ []) (repeated c r us)
unfolding repeated
repeated_next c r h ts x us e f =
    let lt : length us < length ts = omega (arith, h.takes ts x us f) in
    let more : length us < suc (length us) = omega arith in
    let same = same_depth (λ m. many m c r) (λ m. many_under m c r r (under_same r)) (λ m. many_enough m c r h.takes (ever_enough r m h)) (length ts) (suc (length us)) us lt more in
    choose_then c (mapped cons_of (both r (many (length ts) c r))) (nothing []) ts e ∙ first_read r (many (length ts) c r) (many (suc (length us)) c r) ts x us f same

pub repeated_fail : {Tok A : Type 0} (c : Tok → Bool) (r : Reader Tok A) (ts us : List Tok) → starts c ts ≡ true → r ts ≡ Answer.stuck us → repeated c r ts ≡ Answer.stuck us
unfolding repeated
repeated_fail c r ts us e f = choose_then c (mapped cons_of (both r (many (length ts) c r))) (nothing []) ts e ∙ first_stuck r (many (length ts) c r) ts us f

pub repeated_done : {Tok A : Type 0} (c : Tok → Bool) (r : Reader Tok A) (all : Answer Tok (List A)) (xs : List A) (ts : List Tok) → all ≡ prepended xs (repeated c r ts) → starts c ts ≡ false → all ≡ Answer.read xs ts
repeated_done c r all xs ts h e = then_done all (repeated c r ts) xs ts h (repeated_end c r ts e)

pub repeated_more : {Tok A : Type 0} (c : Tok → Bool) (r : Reader Tok A) → Advances r → (all : Answer Tok (List A)) (xs : List A) (ts : List Tok) (x : A) (us : List Tok)
    → all ≡ prepended xs (repeated c r ts) → starts c ts ≡ true → r ts ≡ Answer.read x us → all ≡ prepended (xs ++ x ∷ []) (repeated c r us)
repeated_more c r l all xs ts x us h e f = then_more all (repeated c r ts) (repeated c r us) xs x h (repeated_next c r l ts x us e f)

pub repeated_stuck : {Tok A : Type 0} (c : Tok → Bool) (r : Reader Tok A) → Advances r → (all : Answer Tok (List A)) (xs : List A) (ts us : List Tok)
    → all ≡ prepended xs (repeated c r ts) → starts c ts ≡ true → r ts ≡ Answer.stuck us → all ≡ Answer.stuck us
repeated_stuck c r l all xs ts us h e f = then_stuck all (repeated c r ts) xs us h (repeated_fail c r ts us e f)

-- ---- up to a token of a class

pub closed_end : {Tok A B : Type 0} (w : Word Tok A) (r : Reader Tok B) (ts : List Tok) (place : A) (us : List Tok) → word w ts ≡ Answer.read place us → closed w r ts ≡ Answer.read [] us
unfolding closed
closed_end {Tok} {A} {B} w r ts place us e =
    choose_then (is_of w) (skip w (nothing [])) (mapped cons_of (both r (until (length ts) w r))) ts (word_starts w ts place us e) ∙ ap go_on e
  where
    paired : A → List B → Reader Tok (A × List B)
    paired x ys rest = Answer.read (x, ys) rest

    second : A × List B → Reader Tok (List B)
    second p rest = Answer.read p.1 rest

    go_on : Answer Tok A → Answer Tok (List B)
    go_on a = a >>= (λ x us. nothing [] us >>= paired x) >>= second

pub closed_next : {Tok A B : Type 0} (w : Word Tok A) (r : Reader Tok B) → Advances r → (ts : List Tok) (x : B) (us : List Tok) → starts (is_of w) ts ≡ false → r ts ≡ Answer.read x us → closed w r ts ≡ prepended (x ∷ []) (closed w r us)
unfolding closed
closed_next w r h ts x us e f =
    let lt : length us < length ts = omega (arith, h.takes ts x us f) in
    let more : length us < suc (length us) = omega arith in
    let same = same_depth (λ m. until m w r) (λ m. until_under m w r r (under_same r)) (λ m. until_enough m w r h.takes (ever_enough r m h)) (length ts) (suc (length us)) us lt more in
    choose_else (is_of w) (skip w (nothing [])) (mapped cons_of (both r (until (length ts) w r))) ts e ∙ first_read r (until (length ts) w r) (until (suc (length us)) w r) ts x us f same

pub closed_fail : {Tok A B : Type 0} (w : Word Tok A) (r : Reader Tok B) (ts us : List Tok) → starts (is_of w) ts ≡ false → r ts ≡ Answer.stuck us → closed w r ts ≡ Answer.stuck us
unfolding closed
closed_fail w r ts us e f = choose_else (is_of w) (skip w (nothing [])) (mapped cons_of (both r (until (length ts) w r))) ts e ∙ first_stuck r (until (length ts) w r) ts us f

pub closed_done : {Tok A B : Type 0} (w : Word Tok A) (r : Reader Tok B) (all : Answer Tok (List B)) (xs : List B) (ts : List Tok) → all ≡ prepended xs (closed w r ts) → (place : A) (us : List Tok) → word w ts ≡ Answer.read place us → all ≡ Answer.read xs us
closed_done w r all xs ts h place us e = then_done all (closed w r ts) xs us h (closed_end w r ts place us e)

pub closed_more : {Tok A B : Type 0} (w : Word Tok A) (r : Reader Tok B) → Advances r → (all : Answer Tok (List B)) (xs : List B) (ts : List Tok) (x : B) (us : List Tok)
    → all ≡ prepended xs (closed w r ts) → starts (is_of w) ts ≡ false → r ts ≡ Answer.read x us → all ≡ prepended (xs ++ x ∷ []) (closed w r us)
closed_more w r l all xs ts x us h e f = then_more all (closed w r ts) (closed w r us) xs x h (closed_next w r l ts x us e f)

pub closed_stuck : {Tok A B : Type 0} (w : Word Tok A) (r : Reader Tok B) → Advances r → (all : Answer Tok (List B)) (xs : List B) (ts us : List Tok)
    → all ≡ prepended xs (closed w r ts) → starts (is_of w) ts ≡ false → r ts ≡ Answer.stuck us → all ≡ Answer.stuck us
closed_stuck w r l all xs ts us h e f = then_stuck all (closed w r ts) xs us h (closed_fail w r ts us e f)

-- ---- the operators of one level

-- joined to what was joined before
joined_next : {Tok A O : Type 0} (g : A → O → A → A) (x : A) (p : O × A) (a : Answer Tok (List (O × A)))
    → (prepended (p ∷ []) a >>= (λ ps rest. Answer.read (joined g x ps) rest)) ≡ (a >>= (λ ps rest. Answer.read (joined g (g x p.0 p.1) ps) rest))
joined_next g x p (Answer.read ps rest) = refl
joined_next g x p (Answer.stuck ts) = refl
joined_next g x p Answer.shallow = refl

both_reads : {Tok A B : Type 0} (r : Reader Tok A) (q : Reader Tok B) (ts : List Tok) (x : A) (us : List Tok) (y : B) (vs : List Tok) → r ts ≡ Answer.read x us → q us ≡ Answer.read y vs → both r q ts ≡ Answer.read (x, y) vs
both_reads r q ts x us y vs e f = ap (λ a. a >>= (λ x us. q us >>= (λ y rest. Answer.read (x, y) rest))) e ∙ ap (λ a. a >>= (λ y rest. Answer.read (x, y) rest)) f

both_stuck : {Tok A B : Type 0} (r : Reader Tok A) (q : Reader Tok B) (ts : List Tok) (x : A) (us vs : List Tok) → r ts ≡ Answer.read x us → q us ≡ Answer.stuck vs → both r q ts ≡ Answer.stuck vs
both_stuck r q ts x us vs e f = ap (λ a. a >>= (λ x us. q us >>= (λ y rest. Answer.read (x, y) rest))) e ∙ ap (λ a. a >>= (λ y rest. Answer.read (x, y) rest)) f

both_stuck_first : {Tok A B : Type 0} (r : Reader Tok A) (q : Reader Tok B) (ts us : List Tok) → r ts ≡ Answer.stuck us → both r q ts ≡ Answer.stuck us
both_stuck_first r q ts us e = ap (λ a. a >>= (λ x us. q us >>= (λ y rest. Answer.read (x, y) rest))) e

pub tail_done : {Tok A O : Type 0} (g : A → O → A → A) (c : Tok → Bool) (o : Reader Tok O) (r : Reader Tok A) (x : A) (ts : List Tok) → starts c ts ≡ false → level_tail g c o r x ts ≡ Answer.read x ts
unfolding level_tail
tail_done g c o r x ts e = ap (λ a. a >>= (λ ps rest. Answer.read (joined g x ps) rest)) (repeated_end c (both o r) ts e)

pub tail_more : {Tok A O : Type 0} (g : A → O → A → A) (c : Tok → Bool) (o : Reader Tok O) (r : Reader Tok A) → Advances (both o r) → (x : A) (ts : List Tok) (y : O) (us : List Tok) (z : A) (vs : List Tok)
    → starts c ts ≡ true → o ts ≡ Answer.read y us → r us ≡ Answer.read z vs → level_tail g c o r x ts ≡ level_tail g c o r (g x y z) vs
unfolding level_tail
tail_more g c o r h x ts y us z vs e f k =
    ap (λ a. a >>= (λ ps rest. Answer.read (joined g x ps) rest)) (repeated_next c (both o r) h ts (y, z) vs e (both_reads o r ts y us z vs f k)) ∙ joined_next g x (y, z) (repeated c (both o r) vs)

pub tail_stuck : {Tok A O : Type 0} (g : A → O → A → A) (c : Tok → Bool) (o : Reader Tok O) (r : Reader Tok A) → Advances (both o r) → (x : A) (ts : List Tok) (y : O) (us vs : List Tok)
    → starts c ts ≡ true → o ts ≡ Answer.read y us → r us ≡ Answer.stuck vs → level_tail g c o r x ts ≡ Answer.stuck vs
unfolding level_tail
tail_stuck g c o r h x ts y us vs e f k = ap (λ a. a >>= (λ ps rest. Answer.read (joined g x ps) rest)) (repeated_fail c (both o r) ts vs e (both_stuck o r ts y us vs f k))

pub tail_stuck_first : {Tok A O : Type 0} (g : A → O → A → A) (c : Tok → Bool) (o : Reader Tok O) (r : Reader Tok A) → Advances (both o r) → (x : A) (ts us : List Tok)
    → starts c ts ≡ true → o ts ≡ Answer.stuck us → level_tail g c o r x ts ≡ Answer.stuck us
unfolding level_tail
tail_stuck_first g c o r h x ts us e f = ap (λ a. a >>= (λ ps rest. Answer.read (joined g x ps) rest)) (repeated_fail c (both o r) ts us e (both_stuck_first o r ts us f))

-- ---- what advances

-- never too shallow
abbrev pub Never : {Tok A : Type 0} → Reader Tok A → Type 0
Never {Tok} r = (ts : List Tok) → r ts ≡ Answer.shallow → ⊥

never_bind : {Tok A B : Type 0} (o : Answer Tok A) (f : A → Reader Tok B) → (o ≡ Answer.shallow → ⊥) → ((x : A) (us : List Tok) → f x us ≡ Answer.shallow → ⊥) → (o >>= f) ≡ Answer.shallow → ⊥
never_bind (Answer.read x us) f h k d = k x us d
never_bind (Answer.stuck us) f h k d = cc
never_bind Answer.shallow f h k d = h refl

pub never_both : {Tok A B : Type 0} (r : Reader Tok A) (q : Reader Tok B) → Never r → Never q → Never (both r q)
never_both r q h k ts d = never_bind (r ts) (λ x us. q us >>= (λ y rest. Answer.read (x, y) rest)) (h ts) (λ x us. never_bind (q us) (λ y rest. Answer.read (x, y) rest) (k us) (λ y rest e. cc)) d

pub never_one : {Tok A : Type 0} (says : Tok → Option A) → Never (one says)
never_one says ts d = let lt : length ts < suc (length ts) = omega arith in one_enough says (suc (length ts)) ts lt d

pub advances_one : {Tok A : Type 0} (says : Tok → Option A) → Advances (one says)
advances_one says = record { takes = one_takes says; never = never_one says }

pub advances_both : {Tok A B : Type 0} (r : Reader Tok A) (q : Reader Tok B) → Advances r → Never q → Takes q 0 → Advances (both r q)
advances_both r q h k t = record { takes = both_takes r q 1 0 h.takes t; never = never_both r q h.never k }

-- ---- a reader of each depth, and the one that no depth bounds

-- at a depth that is enough both answer the same
pub free_same : {Tok A : Type 0} (at : ℕ → Reader Tok A) (r : Reader Tok A) → ((n : ℕ) → Under (at n) r) → ((n : ℕ) → Enough (at n) n) → (n : ℕ) (ts : List Tok) → length ts < n → at n ts ≡ r ts
free_same at r under enough n ts lt = settle (under n ts)
  where
    settle : Less (at n ts) (r ts) → at n ts ≡ r ts
    settle (inl e) = absurd (enough n ts lt e)
    settle (inr e) = e

pub deep_under : {Tok A : Type 0} (at : ℕ → Reader Tok A) → ((n : ℕ) → Under (at n) (at (suc n))) → ((n : ℕ) → Enough (at n) n) → (n : ℕ) → Under (at n) (deep at)
deep_under at under enough n ts = settle (grow at under n (suc (length ts)) ts)
  where
    same : at (suc (length ts) + n) ts ≡ deep at ts
    same = same_depth at under enough (suc (length ts) + n) (suc (length ts)) ts (omega arith) (omega arith)

    settle : Less (at n ts) (at (suc (length ts) + n) ts) → Less (at n ts) (deep at ts)
    settle (inl e) = inl e
    settle (inr e) = inr (e ∙ same)

-- what is read takes a token at each depth
pub free_advances : {Tok A : Type 0} (at : ℕ → Reader Tok A) (r : Reader Tok A) → ((n : ℕ) → Under (at n) r) → ((n : ℕ) → Enough (at n) n) → ((n : ℕ) → Takes (at n) 1) → Advances r
free_advances {Tok} {A} at r under enough takes = record { takes = taken; never = told }
  where
    same : (ts : List Tok) → at (suc (length ts)) ts ≡ r ts
    same ts = free_same at r under enough (suc (length ts)) ts (omega arith)

    taken : Takes r 1
    taken ts x rest d = takes (suc (length ts)) ts x rest (same ts ∙ d)

    told : Never r
    told ts d = enough (suc (length ts)) ts (omega arith) (same ts ∙ d)

-- at the same depth
many_less : {Tok A : Type 0} (m : ℕ) (c : Tok → Bool) (r r' : Reader Tok A) → Under r r' → Under (many m c r) (many m c r')
many_less zero c r r' h = λ ts. inl refl
many_less (suc m) c r r' h = choose_under c _ _ _ _ (mapped_under cons_of _ _ (both_under _ _ _ _ h (many_less m c r r' h))) (under_same (nothing []))

until_less : {Tok A B : Type 0} (m : ℕ) (w : Word Tok A) (r r' : Reader Tok B) → Under r r' → Under (until m w r) (until m w r')
until_less zero w r r' h = λ ts. inl refl
until_less (suc m) w r r' h = choose_under (is_of w) _ _ _ _ (under_same (skip w (nothing []))) (mapped_under cons_of _ _ (both_under _ _ _ _ h (until_less m w r r' h)))

pub many_repeated : {Tok A : Type 0} (c : Tok → Bool) (r r' : Reader Tok A) → Under r r' → Advances r' → (m : ℕ) → Under (many m c r) (repeated c r')
unfolding repeated
many_repeated c r r' h k m ts = less_on (many m c r ts) (many m c r' ts) _ (many_less m c r r' h ts) (deep_under (λ m. many m c r') (λ m. many_under m c r' r' (under_same r')) (λ m. many_enough m c r' k.takes (ever_enough r' m k)) m ts)

pub until_closed : {Tok A B : Type 0} (w : Word Tok A) (r r' : Reader Tok B) → Under r r' → Advances r' → (m : ℕ) → Under (until m w r) (closed w r')
unfolding closed
until_closed w r r' h k m ts = less_on (until m w r ts) (until m w r' ts) _ (until_less m w r r' h ts) (deep_under (λ m. until m w r') (λ m. until_under m w r' r' (under_same r')) (λ m. until_enough m w r' k.takes (ever_enough r' m k)) m ts)

-- ---- a level, as its first operand and what follows it

abbrev paired : {Tok A B : Type 0} → A → B → Reader Tok (A × B)
paired x y rest = Answer.read (x, y) rest

level_split : {Tok A O : Type 0} (g : A → O → A → A) (q : Reader Tok (List (O × A))) (a : Answer Tok A)
    → (a >>= (λ x us. q us >>= paired x) >>= (λ p rest. Answer.read (joined g p.0 p.1) rest)) ≡ (a >>= (λ x. mapped (joined g x) q))
level_split {Tok} {A} {O} g q (Answer.read x us) = go (q us)
  where
    go : (b : Answer Tok (List (O × A))) → (b >>= paired x >>= (λ p rest. Answer.read (joined g p.0 p.1) rest)) ≡ (b >>= (λ ps rest. Answer.read (joined g x ps) rest))
    go (Answer.read ps rest) = refl
    go (Answer.stuck ts) = refl
    go Answer.shallow = refl
level_split g q (Answer.stuck us) = refl
level_split g q Answer.shallow = refl

pub level_free : {Tok A O : Type 0} (g : A → O → A → A) (c : Tok → Bool) (o : Reader Tok O) (r r' : Reader Tok A) → Under r r' → Advances (both o r') → (m : ℕ) → Under (level g m c o r) (λ ts. r' ts >>= level_tail g c o r')
unfolding level_tail
level_free g c o r r' h k m ts =
    let more = many_repeated c (both o r) (both o r') (both_under o o r r' (under_same o) h) k m in
    subst (λ z. Less z (r' ts >>= (λ x. mapped (joined g x) (repeated c (both o r'))))) (sym (level_split g (many m c (both o r)) (r ts)))
    (bind_less (r ts) (r' ts) _ _ (h ts) (λ x us. mapped_under (joined g x) _ _ more us))
