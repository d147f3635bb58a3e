-- More depth changes no answer, and enough of it is enough.
use Rattle.std.proofs.Common.{◌≡◌, ◌∙◌, ap, sym, refl, subst, ℕ, zero, suc, ◌+◌, ◌<◌, ◌≤◌, List, [], ◌∷◌, length, Option, Some, None, Bool, true, false, arith, length-append, inl, inr}
use Rattle.std.specs.Prelude.{if◌then◌else◌}
use Rattle.species_grammar.specs.Reader.{Answer, Reader, ◌>>=◌, Word, is_of, starts, said, one, word, nothing, both, mapped, choose, skip, ends, maybe, maybe_word, cons_of, many, until, joined, level}
use Rattle.species_grammar.specs.Lawful.{Spelled, Before, Lawful, Less, Under, Enough, Takes}
use Rattle.species_grammar.proofs.Laws.{Reads, bind_read, same_rest}

-- ---- more depth

pub under_same : {Tok A : Type 0} (r : Reader Tok A) → Under r r
under_same r ts = inr refl

pub bind_less : {Tok A B : Type 0} (a b : Answer Tok A) (f g : A → Reader Tok B) → Less a b → ((x : A) (us : List Tok) → Less (f x us) (g x us)) → Less (a >>= f) (b >>= g)
bind_less a b f g (inl e) h = inl (ap (λ z. z >>= f) e)
bind_less (Answer.read x us) b f g (inr e) h = subst (λ z. Less (f x us) (z >>= g)) e (h x us)
bind_less (Answer.stuck us) b f g (inr e) h = inr (ap (λ z. z >>= g) e)
bind_less Answer.shallow b f g (inr e) h = inr (ap (λ z. z >>= g) e)

pub both_under : {Tok A B : Type 0} (r r' : Reader Tok A) (q q' : Reader Tok B) → Under r r' → Under q q' → Under (both r q) (both r' q')
both_under r r' q q' h k ts = bind_less (r ts) (r' ts) _ _ (h ts) (λ x us. bind_less (q us) (q' us) _ _ (k us) (λ y rest. inr refl))

pub mapped_under : {Tok A B : Type 0} (f : A → B) (r r' : Reader Tok A) → Under r r' → Under (mapped f r) (mapped f r')
mapped_under f r r' h ts = bind_less (r ts) (r' ts) _ _ (h ts) (λ y rest. inr refl)

pub choose_under : {Tok A : Type 0} (c : Tok → Bool) (r r' q q' : Reader Tok A) → Under r r' → Under q q' → Under (choose c r q) (choose c r' q')
choose_under c r r' q q' h k ts = go (starts c ts)
  where
    go : (d : Bool) → Less (if d then r ts else q ts) (if d then r' ts else q' ts)
    go true = h ts
    go false = k ts

pub skip_under : {Tok A B : Type 0} (w : Word Tok A) (r r' : Reader Tok B) → Under r r' → Under (skip w r) (skip w r')
skip_under w r r' h = mapped_under (λ p. p.1) _ _ (both_under _ _ _ _ (under_same (word w)) h)

pub ends_under : {Tok A B : Type 0} (r r' : Reader Tok B) (w : Word Tok A) → Under r r' → Under (ends r w) (ends r' w)
ends_under r r' w h = mapped_under (λ p. p.0) _ _ (both_under _ _ _ _ h (under_same (word w)))

pub maybe_under : {Tok A B : Type 0} (w : Word Tok A) (r r' : Reader Tok B) → Under r r' → Under (maybe w r) (maybe w r')
maybe_under w r r' h = choose_under (is_of w) _ _ _ _ (mapped_under Some _ _ (skip_under w r r' h)) (under_same (nothing None))

pub many_under : {Tok A : Type 0} (m : ℕ) (c : Tok → Bool) (r r' : Reader Tok A) → Under r r' → Under (many m c r) (many (suc m) c r')
many_under zero c r r' h = λ ts. inl refl
many_under (suc m) c r r' h = choose_under c _ _ _ _ (mapped_under cons_of _ _ (both_under _ _ _ _ h (many_under m c r r' h))) (under_same (nothing []))

pub until_under : {Tok A B : Type 0} (m : ℕ) (w : Word Tok A) (r r' : Reader Tok B) → Under r r' → Under (until m w r) (until (suc m) w r')
until_under zero w r r' h = λ ts. inl refl
until_under (suc m) w r r' h = choose_under (is_of w) _ _ _ _ (under_same (skip w (nothing []))) (mapped_under cons_of _ _ (both_under _ _ _ _ h (until_under m w r r' h)))

pub level_under : {Tok A O : Type 0} (g : A → O → A → A) (m : ℕ) (c : Tok → Bool) (o : Reader Tok O) (r r' : Reader Tok A) → Under r r' → Under (level g m c o r) (level g (suc m) c o r')
level_under g m c o r r' h = mapped_under (λ p. joined g p.0 p.1) _ _ (both_under _ _ _ _ h (many_under m c _ _ (both_under _ _ _ _ (under_same o) h)))

pub less_on : {Tok A : Type 0} (a b c : Answer Tok A) → Less a b → Less b c → Less a c
less_on a b c (inl e) h = inl e
less_on a b c (inr e) (inl d) = inl (e ∙ d)
less_on a b c (inr e) (inr d) = inr (e ∙ d)

-- any more of it
pub grow : {Tok A : Type 0} (at : ℕ → Reader Tok A) → ((n : ℕ) → Under (at n) (at (suc n))) → (n j : ℕ) → Under (at n) (at (j + n))
grow at h n zero ts = let e : 0 + n ≡ n = omega arith in subst (λ m. Less (at n ts) (at m ts)) (sym e) (inr refl)
grow at h n (suc j) ts =
    let e : suc j + n ≡ suc (j + n) = omega arith in
    subst (λ m. Less (at n ts) (at m ts)) (sym e) (less_on (at n ts) (at (j + n) ts) (at (suc (j + n)) ts) (grow at h n j ts) (h (j + n) ts))

-- ---- enough depth

pub data Shallow {Tok A B : Type 0} (o : Answer Tok A) (f : A → Reader Tok B) : Type 0 where
  first : o ≡ Answer.shallow → Shallow o f
  second : (x : A) (us : List Tok) → o ≡ Answer.read x us → f x us ≡ Answer.shallow → Shallow o f

pub bind_shallow : {Tok A B : Type 0} (o : Answer Tok A) (f : A → Reader Tok B) → (o >>= f) ≡ Answer.shallow → Shallow o f
bind_shallow (Answer.read x us) f h = Shallow.second x us refl h
bind_shallow (Answer.stuck us) f h = cc
bind_shallow Answer.shallow f h = Shallow.first refl

-- fewer tokens
pub fewer_enough : {Tok A : Type 0} (r : Reader Tok A) (n m : ℕ) → m ≤ n → Enough r n → Enough r m
fewer_enough r n m le h ts lt d = let l : length ts < n = omega (arith, lt, le) in h ts l d

pub both_enough : {Tok A B : Type 0} (r : Reader Tok A) (q : Reader Tok B) (k n m : ℕ) → Takes r k → Enough r n → Enough q m → n ≤ k + m → Enough (both r q) n
both_enough {Tok} {A} {B} r q k n m t h e le ts lt d = go (bind_shallow (r ts) (λ x us. q us >>= paired x) d)
  where
    paired : A → B → Reader Tok (A × B)
    paired x y rest = Answer.read (x, y) rest

    go2 : (x : A) (us : List Tok) → length us < m → Shallow (q us) (paired x) → ⊥
    go2 x us l (Shallow.first f) = e us l f
    go2 x us l (Shallow.second y vs o f) = cc

    go : Shallow (r ts) (λ x us. q us >>= paired x) → ⊥
    go (Shallow.first f) = h ts lt f
    go (Shallow.second x us o f) =
        let s = t ts x us o in
        let l : length us < m = omega (arith, lt, s, le) in
        go2 x us l (bind_shallow (q us) (paired x) f)

pub mapped_enough : {Tok A B : Type 0} (f : A → B) (r : Reader Tok A) (n : ℕ) → Enough r n → Enough (mapped f r) n
mapped_enough {Tok} {A} {B} f r n h ts lt d = go (bind_shallow (r ts) (λ x rest. Answer.read (f x) rest) d)
  where
    go : Shallow (r ts) (λ x rest. Answer.read (f x) rest) → ⊥
    go (Shallow.first e) = h ts lt e
    go (Shallow.second y us o e) = cc

pub choose_enough : {Tok A : Type 0} (c : Tok → Bool) (r q : Reader Tok A) (n : ℕ) → Enough r n → Enough q n → Enough (choose c r q) n
choose_enough c r q n h k ts lt d = go (starts c ts) d
  where
    go : (b : Bool) → (if b then r ts else q ts) ≡ Answer.shallow → ⊥
    go true e = h ts lt e
    go false e = k ts lt e

pub nothing_enough : {Tok A : Type 0} (x : A) (n : ℕ) → Enough {Tok = Tok} (nothing x) n
nothing_enough x n ts lt d = cc

pub one_enough : {Tok A : Type 0} (says : Tok → Option A) (n : ℕ) → Enough (one says) n
one_enough says n [] lt d = cc
one_enough {Tok} {A} says n (u ∷ ts) lt d = go (says u) d
  where
    go : (o : Option A) → said o ts (u ∷ ts) ≡ Answer.shallow → ⊥
    go None e = cc
    go (Some x) e = cc

pub one_takes : {Tok A : Type 0} (says : Tok → Option A) → Takes (one says) 1
one_takes says [] x rest d = cc
one_takes {Tok} {A} says (u ∷ ts) x rest d = go (says u) d
  where
    go : (o : Option A) → said o ts (u ∷ ts) ≡ Answer.read x rest → 1 + length rest ≤ length (u ∷ ts)
    go None e = cc
    go (Some y) e = let k : ts ≡ rest = cc in omega (arith, ap length k)

pub both_takes : {Tok A B : Type 0} (r : Reader Tok A) (q : Reader Tok B) (k j : ℕ) → Takes r k → Takes q j → Takes (both r q) (k + j)
both_takes {Tok} {A} {B} r q k j h t ts p rest d = go (bind_read (r ts) (λ x us. q us >>= paired x) p rest d)
  where
    paired : A → B → Reader Tok (A × B)
    paired x y vs = Answer.read (x, y) vs

    go2 : (us : List Tok) (x : A) → k + length us ≤ length ts → Reads (q us) (paired x) p rest → (k + j) + length rest ≤ length ts
    go2 us x le (Reads.reads y vs o e) = let i : vs ≡ rest = same_rest e in omega (arith, le, t us y vs o, ap length i)

    go : Reads (r ts) (λ x us. q us >>= paired x) p rest → (k + j) + length rest ≤ length ts
    go (Reads.reads x us o e) = go2 us x (h ts x us o) (bind_read (q us) (paired x) p rest e)

pub fewer_takes : {Tok A : Type 0} (r : Reader Tok A) (k : ℕ) → Takes r k → Takes r 0
fewer_takes r k h ts x rest d = omega (arith, h ts x rest d)

pub mapped_takes : {Tok A B : Type 0} (f : A → B) (r : Reader Tok A) (k : ℕ) → Takes r k → Takes (mapped f r) k
mapped_takes {Tok} {A} {B} f r k h ts y rest d = go (bind_read (r ts) (λ x us. Answer.read (f x) us) y rest d)
  where
    go : Reads (r ts) (λ x us. Answer.read (f x) us) y rest → k + length rest ≤ length ts
    go (Reads.reads x us o e) = let i : us ≡ rest = same_rest e in omega (arith, h ts x us o, ap length i)

pub choose_takes : {Tok A : Type 0} (c : Tok → Bool) (r q : Reader Tok A) (k : ℕ) → Takes r k → Takes q k → Takes (choose c r q) k
choose_takes {Tok} {A} c r q k h j ts x rest d = go (starts c ts) d
  where
    go : (b : Bool) → (if b then r ts else q ts) ≡ Answer.read x rest → k + length rest ≤ length ts
    go true e = h ts x rest e
    go false e = j ts x rest e

-- what is spelled by at least k tokens is read from k
pub takes_of : {Tok A : Type 0} (r : Reader Tok A) (s f : Before Tok A) (v : Spelled Tok A) (k : ℕ) → Lawful r s f v → ((x : A) (front : List Tok) → v x front → k ≤ length front) → Takes r k
takes_of r s f v k l h ts x rest d =
    let t = l.took ts x rest d in
    omega (arith, ap length t.is, length-append t.front rest, h x t.front (l.weak x t.front rest t.spelled))

pub takes_none : {Tok A : Type 0} (r : Reader Tok A) (s f : Before Tok A) (v : Spelled Tok A) → Lawful r s f v → Takes r 0
takes_none r s f v l = takes_of r s f v 0 l (λ x front h. omega arith)

pub nothing_takes : {Tok A : Type 0} (y : A) → Takes {Tok = Tok} (nothing y) 0
nothing_takes y ts x rest d = let i = same_rest d in omega (arith, ap length i)

pub maybe_word_takes : {Tok A : Type 0} (w : Word Tok A) → Takes (maybe_word w) 0
maybe_word_takes w = choose_takes (is_of w) _ _ 0 (mapped_takes Some (word w) 0 (fewer_takes (word w) 1 (one_takes w.says))) (nothing_takes None)

pub skip_takes : {Tok A B : Type 0} (w : Word Tok A) (r : Reader Tok B) (k : ℕ) → Takes r k → Takes (skip w r) (1 + k)
skip_takes w r k h = mapped_takes (λ p. p.1) _ (1 + k) (both_takes (word w) r 1 k (one_takes w.says) h)

pub skip_enough : {Tok A B : Type 0} (w : Word Tok A) (r : Reader Tok B) (n : ℕ) → Enough r n → Enough (skip w r) (suc n)
skip_enough w r n h = let l : suc n ≤ 1 + n = omega arith in mapped_enough (λ p. p.1) _ (suc n) (both_enough (word w) r 1 (suc n) n (one_takes w.says) (one_enough w.says (suc n)) h l)

pub ends_enough : {Tok A B : Type 0} (r : Reader Tok B) (w : Word Tok A) (n : ℕ) → Takes r 0 → Enough r n → Enough (ends r w) n
ends_enough r w n k h = let l : n ≤ 0 + n = omega arith in mapped_enough (λ p. p.0) _ n (both_enough r (word w) 0 n n k h (one_enough w.says n) l)

pub maybe_enough : {Tok A B : Type 0} (w : Word Tok A) (r : Reader Tok B) (n : ℕ) → Enough r n → Enough (maybe w r) (suc n)
maybe_enough w r n h = choose_enough (is_of w) _ _ (suc n) (mapped_enough Some _ (suc n) (skip_enough w r n h)) (nothing_enough None (suc n))

pub maybe_word_enough : {Tok A : Type 0} (w : Word Tok A) (n : ℕ) → Enough (maybe_word w) n
maybe_word_enough w n = choose_enough (is_of w) _ _ n (mapped_enough Some _ n (one_enough w.says n)) (nothing_enough None n)

-- a list of things of at least one token each
pub many_enough : {Tok A : Type 0} (m : ℕ) (c : Tok → Bool) (r : Reader Tok A) → Takes r 1 → Enough r m → Enough (many m c r) m
many_enough zero c r k h = λ ts lt d. omega (arith, lt)
many_enough (suc m) c r k h =
    let l : suc m ≤ 1 + m = omega arith in
    let le : m ≤ suc m = omega arith in
    choose_enough c _ _ (suc m) (mapped_enough cons_of _ (suc m) (both_enough r (many m c r) 1 (suc m) m k h (many_enough m c r k (fewer_enough r (suc m) m le h)) l)) (nothing_enough [] (suc m))

pub until_enough : {Tok A B : Type 0} (m : ℕ) (w : Word Tok A) (r : Reader Tok B) → Takes r 1 → Enough r m → Enough (until m w r) m
until_enough zero w r k h = λ ts lt d. omega (arith, lt)
until_enough (suc m) w r k h =
    let l : suc m ≤ 1 + m = omega arith in
    let le : m ≤ suc m = omega arith in
    choose_enough (is_of w) _ _ (suc m) (skip_enough w (nothing []) m (nothing_enough [] m))
    (mapped_enough cons_of _ (suc m) (both_enough r (until m w r) 1 (suc m) m k h (until_enough m w r k (fewer_enough r (suc m) m le h)) l))

pub many_takes : {Tok A : Type 0} (m : ℕ) (c : Tok → Bool) (r : Reader Tok A) → Takes r 0 → Takes (many m c r) 0
many_takes zero c r h = λ ts x rest d. cc
many_takes (suc m) c r h = choose_takes c _ _ 0 (mapped_takes cons_of _ 0 (both_takes r (many m c r) 0 0 h (many_takes m c r h))) (nothing_takes [])

pub level_takes : {Tok A O : Type 0} (g : A → O → A → A) (m : ℕ) (c : Tok → Bool) (o : Reader Tok O) (r : Reader Tok A) → Takes o 0 → Takes r 1 → Takes (level g m c o r) 1
level_takes g m c o r k h = mapped_takes (λ p. joined g p.0 p.1) _ 1 (both_takes r (many m c (both o r)) 1 0 h (many_takes m c (both o r) (both_takes o r 0 0 k (fewer_takes r 1 h))))

pub level_enough : {Tok A O : Type 0} (g : A → O → A → A) (m : ℕ) (c : Tok → Bool) (o : Reader Tok O) (r : Reader Tok A) → Takes o 1 → Enough o m → Takes r 1 → Enough r m → Enough (level g m c o r) m
level_enough {Tok} {A} {O} g m c o r ko ho k h =
    let l0 : m ≤ 0 + m = omega arith in
    let l1 : m ≤ 1 + m = omega arith in
    mapped_enough (λ p. joined g p.0 p.1) _ m
    (both_enough r (many m c (both o r)) 1 m m k h (many_enough m c (both o r) (both_takes o r 1 0 ko (fewer_takes r 1 k)) (both_enough o r 1 m m ko ho h l1)) l1)

-- each depth that is enough gives the same answer
pub same_depth : {Tok A : Type 0} (at : ℕ → Reader Tok A) → ((n : ℕ) → Under (at n) (at (suc n))) → ((n : ℕ) → Enough (at n) n) → (n m : ℕ) (ts : List Tok) → length ts < n → length ts < m → at n ts ≡ at m ts
same_depth {Tok} {A} at under enough n m ts ln lm = once n m ln ∙ ap (λ k. at k ts) sum ∙ sym (once m n lm)
  where
    sum : m + n ≡ n + m
    sum = omega arith

    settle : (k j : ℕ) → length ts < k → Less (at k ts) (at (j + k) ts) → at k ts ≡ at (j + k) ts
    settle k j lt (inl e) = absurd (enough k ts lt e)
    settle k j lt (inr e) = e

    once : (k j : ℕ) → length ts < k → at k ts ≡ at (j + k) ts
    once k j lt = settle k j lt (grow at under k j ts)
