-- The laws of the readers that the combinators make.
use Rattle.std.proofs.Common.{◌≡◌, ◌∙◌, ap, sym, refl, subst, ℕ, zero, suc, ◌<◌, List, [], ◌∷◌, ◌++◌, length, Option, Some, None, Bool, true, false, arith, append_assoc, inl, inr}
use Rattle.std.specs.Prelude.{if◌then◌else◌, is_some}
use Rattle.species_grammar.specs.Reader.{Answer, Reader, ◌>>=◌, Word, is_of, starts, said, one, word, nothing, both, mapped, choose, skip, ends, maybe, maybe_word, cons_of, too_shallow, many, until}
use Rattle.species_grammar.specs.Lawful.{Spelled, Before, SameFirst, IsWord, Took, Failed, Lawful, plain, nothing_spelled, one_spelled, word_spelled, both_before, both_spelled, mapped_before, mapped_spelled, choose_before, choose_spelled, skip_before, skip_spelled, ends_before, ends_spelled, maybe_before, maybe_spelled, maybe_word_before, maybe_word_spelled, Short, many_before, many_spelled, until_before, until_spelled}

-- ---- answers

-- a value is of the first and then of the second
pub data Reads {Tok A B : Type 0} (o : Answer Tok A) (f : A → Reader Tok B) (y : B) (rest : List Tok) : Type 0 where
  reads : (x : A) (us : List Tok) → o ≡ Answer.read x us → f x us ≡ Answer.read y rest → Reads o f y rest

pub bind_read : {Tok A B : Type 0} (o : Answer Tok A) (f : A → Reader Tok B) (y : B) (rest : List Tok) → (o >>= f) ≡ Answer.read y rest → Reads o f y rest
bind_read (Answer.read x us) f y rest h = Reads.reads x us refl h
bind_read (Answer.stuck ts) f y rest h = cc
bind_read Answer.shallow f y rest h = cc

-- a stop is of the first or of the second
pub data Stops {Tok A B : Type 0} (o : Answer Tok A) (f : A → Reader Tok B) (back : List Tok) : Type 0 where
  first : o ≡ Answer.stuck back → Stops o f back
  second : (x : A) (us : List Tok) → o ≡ Answer.read x us → f x us ≡ Answer.stuck back → Stops o f back

pub bind_stuck : {Tok A B : Type 0} (o : Answer Tok A) (f : A → Reader Tok B) (back : List Tok) → (o >>= f) ≡ Answer.stuck back → Stops o f back
bind_stuck (Answer.read x us) f back h = Stops.second x us refl h
bind_stuck (Answer.stuck us) f back h = let e : us ≡ back = cc in Stops.first (ap Answer.stuck e)
bind_stuck Answer.shallow f back h = cc

pub same_value : {Tok A : Type 0} {x y : A} {u v : List Tok} → Answer.read x u ≡ Answer.read y v → x ≡ y
same_value h = cc

pub same_rest : {Tok A : Type 0} {x y : A} {u v : List Tok} → Answer.read x u ≡ Answer.read y v → u ≡ v
same_rest h = cc

pub same_first : {Tok : Type 0} (f a b : List Tok) → SameFirst a b → SameFirst (f ++ a) (f ++ b)
same_first [] a b h = h
same_first (t ∷ f) a b h = refl

pub moved : {Tok A : Type 0} {r : Reader Tok A} {s : Before Tok A} {ts : List Tok} {x y : A} {u w : List Tok} → Answer.read x u ≡ Answer.read y w → Took r s ts x u → Took r s ts y w
moved {Tok} {A} {r} {s} {ts} {x} {y} {u} {w} h t = subst (λ z. Took r s ts y z) (same_rest h) (subst (λ z. Took r s ts z u) (same_value h) t)

-- ---- both

module _ {Tok A B : Type 0} (r : Reader Tok A) (q : Reader Tok B) (s f : Before Tok A) (s' f' : Before Tok B) (v : Spelled Tok A) (v' : Spelled Tok B) (lr : Lawful r s f v) (lq : Lawful q s' f' v')
    (w : Spelled Tok (A × B))
    (early : (x : A) (a : List Tok) → v x a → (p : A × B) × (m : List Tok) × w p (a ++ m))
    (later : (x : A) (a next : List Tok) → s x a next → (y : B) (c back more : List Tok) → next ≡ c ++ back → v' y (c ++ more) → (p : A × B) × (m : List Tok) × w p (a ++ (c ++ m)))
    (weak : (p : A × B) (front rest : List Tok) → both_before s s' p front rest → w p front) where
  abbrev paired : A → B → Reader Tok (A × B)
  paired x y rest = Answer.read (x, y) rest

  abbrev second_of : A → Answer Tok B → Answer Tok (A × B)
  second_of x o = o >>= paired x

  abbrev go_on : Answer Tok A → Answer Tok (A × B)
  go_on o = o >>= (λ x us. second_of x (q us))

  both_took : (ts : List Tok) (p : A × B) (rest : List Tok) → both r q ts ≡ Answer.read p rest → Took (both r q) (both_before s s') ts p rest
  both_took ts p rest h = go (bind_read (r ts) (λ x us. second_of x (q us)) p rest h)
    where
      go_later : (x : A) (us : List Tok) → Took r s ts x us → Reads (q us) (paired x) p rest → Took (both r q) (both_before s s') ts p rest
      go_later x us t (Reads.reads y vs o e) =
          let u = lq.took us y vs o in
          moved e (record {
            front = t.front ++ u.front;
            is = t.is ∙ ap (λ z. t.front ++ z) u.is ∙ sym (append_assoc t.front u.front vs);
            spelled = (t.front, u.front, refl, subst (λ z. s x t.front z) u.is t.spelled, u.spelled);
            steady = λ b e.
                let first = subst (λ z. SameFirst z (u.front ++ b)) (sym u.is) (same_first u.front vs b e) in
                ap (both r q) (append_assoc t.front u.front b) ∙ ap go_on (t.steady (u.front ++ b) first) ∙ ap (second_of x) (u.steady b e);
          })

      go : Reads (r ts) (λ x us. second_of x (q us)) p rest → Took (both r q) (both_before s s') ts p rest
      go (Reads.reads x us o e) = go_later x us (lr.took ts x us o) (bind_read (q us) (paired x) p rest e)

  both_failed : (ts back : List Tok) → both r q ts ≡ Answer.stuck back → Failed (both r q) w ts back
  both_failed ts back h = go (bind_stuck (r ts) (λ x us. second_of x (q us)) back h)
    where
      go_later : (x : A) (us : List Tok) → r ts ≡ Answer.read x us → Stops (q us) (paired x) back → Failed (both r q) w ts back
      go_later x us e (Stops.second y vs o d) = cc
      go_later x us e (Stops.first d) =
          let t = lr.took ts x us e in
          let u = lq.failed us back d in
          let k = later x t.front us t.spelled u.value u.front back u.more u.is u.viable in
          record {
            front = t.front ++ u.front;
            is = t.is ∙ ap (λ z. t.front ++ z) u.is ∙ sym (append_assoc t.front u.front back);
            steady = λ b e.
                let first = subst (λ z. SameFirst z (u.front ++ b)) (sym u.is) (same_first u.front back b e) in
                ap (both r q) (append_assoc t.front u.front b) ∙ ap go_on (t.steady (u.front ++ b) first) ∙ ap (second_of x) (u.steady b e);
            value = k.0;
            more = k.1;
            viable = subst (w k.0) (sym (append_assoc t.front u.front k.1)) k.2;
          }

      go : Stops (r ts) (λ x us. second_of x (q us)) back → Failed (both r q) w ts back
      go (Stops.first d) =
          let u = lr.failed ts back d in
          let k = early u.value (u.front ++ u.more) u.viable in
          record {
            front = u.front;
            is = u.is;
            steady = λ b e. ap go_on (u.steady b e);
            value = k.0;
            more = u.more ++ k.1;
            viable = subst (w k.0) (append_assoc u.front u.more k.1) k.2;
          }
      go (Stops.second x us o d) = go_later x us o (bind_stuck (q us) (paired x) back d)

  -- Where a completion of the first is not always one of both: `early` and `later` say which is taken after a stop.
  pub both_with : Lawful (both r q) (both_before s s') (both_before f f') w
  both_with = record {
    took = both_took;
    failed = both_failed;
    full = λ p front rest h.
        ap (λ z. both r q (z ++ rest)) h.2 ∙ ap (both r q) (append_assoc h.0 h.1 rest)
        ∙ ap go_on (lr.full p.0 h.0 (h.1 ++ rest) h.3) ∙ ap (second_of p.0) (lq.full p.1 h.1 rest h.4);
    weak = weak;
    some = (early lr.some lr.some_text lr.some_spelled).0;
    some_text = lr.some_text ++ (early lr.some lr.some_text lr.some_spelled).1;
    some_spelled = (early lr.some lr.some_text lr.some_spelled).2;
  }

pub both_lawful : {Tok A B : Type 0} (r : Reader Tok A) (q : Reader Tok B) (s f : Before Tok A) (s' f' : Before Tok B) (v : Spelled Tok A) (v' : Spelled Tok B) (lr : Lawful r s f v) (lq : Lawful q s' f' v')
    → Lawful (both r q) (both_before s s') (both_before f f') (both_spelled v v')
both_lawful r q s f s' f' v v' lr lq =
    both_with r q s f s' f' v v' lr lq (both_spelled v v')
    (λ x a h. ((x, lq.some), lq.some_text, (a, lq.some_text, refl, h, lq.some_spelled)))
    (λ x a next h y c back more e k. ((x, y), more, (a, c ++ more, refl, lr.weak x a next h, k)))
    (λ p front rest h. (h.0, h.1, h.2, lr.weak p.0 h.0 (h.1 ++ rest) h.3, lq.weak p.1 h.1 rest h.4))

-- ---- the same reader, in other words

pub recast : {Tok A : Type 0} (r : Reader Tok A) (s f s' f' : Before Tok A) (v v' : Spelled Tok A) → Lawful r s f v
    → ((x : A) (front rest : List Tok) → s x front rest → s' x front rest) → ((x : A) (front rest : List Tok) → f' x front rest → f x front rest)
    → ((x : A) (front : List Tok) → v x front → v' x front) → ((x : A) (front rest : List Tok) → s' x front rest → v' x front) → Lawful r s' f' v'
recast r s f s' f' v v' l ss ff vv sv = record {
  took = λ ts x rest h. let t = l.took ts x rest h in record { front = t.front; is = t.is; spelled = ss x t.front rest t.spelled; steady = t.steady };
  failed = λ ts back h.
      let u = l.failed ts back h in
      record { front = u.front; is = u.is; steady = u.steady; value = u.value; more = u.more; viable = vv u.value (u.front ++ u.more) u.viable };
  full = λ x front rest h. l.full x front rest (ff x front rest h);
  weak = sv;
  some = l.some;
  some_text = l.some_text;
  some_spelled = vv l.some l.some_text l.some_spelled;
}

-- where nothing is said of the tokens that follow
pub recast_plain : {Tok A : Type 0} (r : Reader Tok A) (s f f' : Before Tok A) (v v' : Spelled Tok A) → Lawful r s f v
    → ((x : A) (front rest : List Tok) → f' x front rest → f x front rest) → ((x : A) (front : List Tok) → v x front → v' x front) → Lawful r (plain v') f' v'
recast_plain r s f f' v v' l ff vv = recast r s f (plain v') f' v v' l (λ x front rest h. vv x front (l.weak x front rest h)) ff vv (λ x front rest h. h)

-- where no depth is left nothing is read
pub shallow_lawful : {Tok A : Type 0} (s f : Before Tok A) (v : Spelled Tok A) (x : A) (text : List Tok) → v x text → ((y : A) (front rest : List Tok) → s y front rest → v y front)
    → ((y : A) (front rest : List Tok) → f y front rest → ⊥) → Lawful too_shallow s f v
shallow_lawful s f v x text d weak bad = record {
  took = λ ts y rest h. cc;
  failed = λ ts back h. cc;
  full = λ y front rest h. absurd (bad y front rest h);
  weak = weak;
  some = x;
  some_text = text;
  some_spelled = d;
}

-- ---- mapped

module _ {Tok A B : Type 0} (g : A → B) (r : Reader Tok A) (s f : Before Tok A) (v : Spelled Tok A) (l : Lawful r s f v) where
  abbrev changed : A → Reader Tok B
  changed x rest = Answer.read (g x) rest

  mapped_took : (ts : List Tok) (y : B) (rest : List Tok) → Reads (r ts) changed y rest → Took (mapped g r) (mapped_before g s) ts y rest
  mapped_took ts y rest (Reads.reads x us o e) =
      let t = l.took ts x us o in
      moved e (record { front = t.front; is = t.is; spelled = (x, refl, t.spelled); steady = λ b e. ap (λ o. o >>= changed) (t.steady b e) })

  mapped_failed : (ts back : List Tok) → Stops (r ts) changed back → Failed (mapped g r) (mapped_spelled g v) ts back
  mapped_failed ts back (Stops.second x us o d) = cc
  mapped_failed ts back (Stops.first d) =
      let u = l.failed ts back d in
      record { front = u.front; is = u.is; steady = λ b e. ap (λ o. o >>= changed) (u.steady b e); value = g u.value; more = u.more; viable = (u.value, refl, u.viable) }

  pub mapped_lawful : Lawful (mapped g r) (mapped_before g s) (mapped_before g f) (mapped_spelled g v)
  mapped_lawful = record {
    took = λ ts y rest h. mapped_took ts y rest (bind_read (r ts) changed y rest h);
    failed = λ ts back h. mapped_failed ts back (bind_stuck (r ts) changed back h);
    full = λ y front rest h. ap (λ o. o >>= changed) (l.full h.0 front rest h.2) ∙ ap (λ z. Answer.read z rest) h.1;
    weak = λ y front rest h. (h.0, h.1, l.weak h.0 front rest h.2);
    some = g l.some;
    some_text = l.some_text;
    some_spelled = (l.some, refl, l.some_spelled);
  }

-- ---- nothing

pub nothing_lawful : {Tok A : Type 0} (x : A) → Lawful {Tok = Tok} (nothing x) (plain (nothing_spelled x)) (plain (nothing_spelled x)) (nothing_spelled x)
nothing_lawful x = record {
  took = λ ts y rest h. moved h (record { front = []; is = refl; spelled = (refl, refl); steady = λ b e. refl });
  failed = λ ts back h. cc;
  full = λ y front rest h. ap (λ z. Answer.read z (front ++ rest)) h.0 ∙ ap (λ z. Answer.read y (z ++ rest)) h.1;
  weak = λ y front rest h. h;
  some = x;
  some_text = [];
  some_spelled = (refl, refl);
}

-- ---- one token

module _ {Tok A : Type 0} (says : Tok → Option A) (t : Tok) (x : A) (own : says t ≡ Some x) where
  one_took : (u : Tok) (ts : List Tok) (y : A) (rest : List Tok) (o : Option A) → says u ≡ o → said o ts (u ∷ ts) ≡ Answer.read y rest → Took (one says) (plain (one_spelled says)) (u ∷ ts) y rest
  one_took u ts y rest None n h = cc
  one_took u ts y rest (Some z) n h = moved h (record { front = u ∷ []; is = refl; spelled = (u, refl, n); steady = λ b e. ap (λ o. said o b (u ∷ b)) n })

  one_stuck : (u : Tok) (ts b : List Tok) → says u ≡ None → SameFirst (u ∷ ts) b → one says b ≡ Answer.stuck b
  one_stuck u ts [] n e = absurd e
  one_stuck u ts (w ∷ b) n e = ap (λ o. said o b (w ∷ b)) (ap says (sym e) ∙ n)

  one_none : (b : List Tok) → SameFirst [] b → one says b ≡ Answer.stuck b
  one_none [] e = refl
  one_none (w ∷ b) e = absurd e

  one_here : (ts back : List Tok) → Path (Answer Tok A) (Answer.stuck ts) (Answer.stuck back) → ((b : List Tok) → SameFirst ts b → one says b ≡ Answer.stuck b) → Failed (one says) (one_spelled says) ts back
  one_here ts back h st =
      let e : ts ≡ back = cc in
      subst (Failed (one says) (one_spelled says) ts) e (record { front = []; is = refl; steady = st; value = x; more = t ∷ []; viable = (t, refl, own) })

  one_failed : (u : Tok) (ts back : List Tok) (o : Option A) → says u ≡ o → said o ts (u ∷ ts) ≡ Answer.stuck back → Failed (one says) (one_spelled says) (u ∷ ts) back
  one_failed u ts back None is h = one_here (u ∷ ts) back h (λ b e. one_stuck u ts b is e)
  one_failed u ts back (Some y) is h = cc

  one_took_at : (ts : List Tok) (y : A) (rest : List Tok) → one says ts ≡ Answer.read y rest → Took (one says) (plain (one_spelled says)) ts y rest
  one_took_at [] y rest h = cc
  one_took_at (u ∷ ts) y rest h = one_took u ts y rest (says u) refl h

  one_failed_at : (ts back : List Tok) → one says ts ≡ Answer.stuck back → Failed (one says) (one_spelled says) ts back
  one_failed_at [] back h = one_here [] back h one_none
  one_failed_at (u ∷ ts) back h = one_failed u ts back (says u) refl h

  -- t is any token that it reads
  pub one_lawful : Lawful (one says) (plain (one_spelled says)) (plain (one_spelled says)) (one_spelled says)
  one_lawful = record {
    took = one_took_at;
    failed = one_failed_at;
    full = λ y front rest h. ap (λ z. one says (z ++ rest)) h.1 ∙ ap (λ o. said o rest (h.0 ∷ rest)) h.2;
    weak = λ y front rest h. h;
    some = x;
    some_text = t ∷ [];
    some_spelled = (t, refl, own);
  }

pub word_lawful : {Tok A : Type 0} (w : Word Tok A) (k : IsWord w) → Lawful (word w) (plain (word_spelled w)) (plain (word_spelled w)) (word_spelled w)
word_lawful w k =
    recast_plain (word w) _ _ (plain (word_spelled w)) (one_spelled w.says) (word_spelled w) (one_lawful w.says (w.token k.some) k.some (k.own k.some))
    (λ x front rest h. (w.token x, h, k.own x))
    (λ x front h. h.1 ∙ ap (λ z. z ∷ []) (k.is h.0 x h.2))

-- ---- choose

pub starts_same : {Tok : Type 0} (c : Tok → Bool) (a b : List Tok) → SameFirst a b → starts c a ≡ starts c b
starts_same c [] [] e = refl
starts_same c [] (u ∷ b) e = absurd e
starts_same c (u ∷ a) [] e = absurd e
starts_same c (u ∷ a) (w ∷ b) e = ap c e

module _ {Tok A : Type 0} (c : Tok → Bool) (r q : Reader Tok A) (s f s' f' : Before Tok A) (v v' : Spelled Tok A) (l : Lawful r s f v) (m : Lawful q s' f' v') where
  abbrev pick : Bool → Reader Tok A
  pick d ts = if d then r ts else q ts

  choose_took : (ts : List Tok) (x : A) (rest : List Tok) (d : Bool) → starts c ts ≡ d → pick d ts ≡ Answer.read x rest → Took (choose c r q) (choose_before c s s') ts x rest
  choose_took ts x rest true is h =
      let k = l.took ts x rest h in
      let here : starts c (k.front ++ rest) ≡ true = ap (starts c) (sym k.is) ∙ is in
      record {
        front = k.front;
        is = k.is;
        spelled = inl (here, k.spelled);
        steady = λ b e. ap (λ d. pick d (k.front ++ b)) (sym (starts_same c (k.front ++ rest) (k.front ++ b) (same_first k.front rest b e)) ∙ here) ∙ k.steady b e;
      }
  choose_took ts x rest false is h =
      let k = m.took ts x rest h in
      let here : starts c (k.front ++ rest) ≡ false = ap (starts c) (sym k.is) ∙ is in
      record {
        front = k.front;
        is = k.is;
        spelled = inr (here, k.spelled);
        steady = λ b e. ap (λ d. pick d (k.front ++ b)) (sym (starts_same c (k.front ++ rest) (k.front ++ b) (same_first k.front rest b e)) ∙ here) ∙ k.steady b e;
      }

  choose_failed : (ts back : List Tok) (d : Bool) → starts c ts ≡ d → pick d ts ≡ Answer.stuck back → Failed (choose c r q) (choose_spelled v v') ts back
  choose_failed ts back true is h =
      let k = l.failed ts back h in
      record {
        front = k.front;
        is = k.is;
        steady = λ b e. ap (λ d. pick d (k.front ++ b)) (sym (starts_same c (k.front ++ back) (k.front ++ b) (same_first k.front back b e)) ∙ ap (starts c) (sym k.is) ∙ is) ∙ k.steady b e;
        value = k.value;
        more = k.more;
        viable = inl k.viable;
      }
  choose_failed ts back false is h =
      let k = m.failed ts back h in
      record {
        front = k.front;
        is = k.is;
        steady = λ b e. ap (λ d. pick d (k.front ++ b)) (sym (starts_same c (k.front ++ back) (k.front ++ b) (same_first k.front back b e)) ∙ ap (starts c) (sym k.is) ∙ is) ∙ k.steady b e;
        value = k.value;
        more = k.more;
        viable = inr k.viable;
      }

  choose_full : (x : A) (front rest : List Tok) → choose_before c f f' x front rest → choose c r q (front ++ rest) ≡ Answer.read x rest
  choose_full x front rest (inl h) = ap (λ d. pick d (front ++ rest)) h.0 ∙ l.full x front rest h.1
  choose_full x front rest (inr h) = ap (λ d. pick d (front ++ rest)) h.0 ∙ m.full x front rest h.1

  choose_weak : (x : A) (front rest : List Tok) → choose_before c s s' x front rest → choose_spelled v v' x front
  choose_weak x front rest (inl h) = inl (l.weak x front rest h.1)
  choose_weak x front rest (inr h) = inr (m.weak x front rest h.1)

  pub choose_lawful : Lawful (choose c r q) (choose_before c s s') (choose_before c f f') (choose_spelled v v')
  choose_lawful = record {
    took = λ ts x rest h. choose_took ts x rest (starts c ts) refl h;
    failed = λ ts back h. choose_failed ts back (starts c ts) refl h;
    full = choose_full;
    weak = choose_weak;
    some = l.some;
    some_text = l.some_text;
    some_spelled = inl l.some_spelled;
  }

-- ---- skip

pub its_own : {Tok A : Type 0} (w : Word Tok A) (k : IsWord w) (x : A) → is_of w (w.token x) ≡ true
its_own w k x = ap is_some (k.own x)

module _ {Tok A B : Type 0} (w : Word Tok A) (k : IsWord w) (r : Reader Tok B) (s f : Before Tok B) (v : Spelled Tok B) (l : Lawful r s f v) where
  pub skip_lawful : Lawful (skip w r) (skip_before w s) (skip_before w f) (skip_spelled w v)
  skip_lawful =
      recast (skip w r) _ _ (skip_before w s) (skip_before w f) _ (skip_spelled w v)
      (mapped_lawful (λ p. p.1) (both (word w) r) _ _ _ (both_lawful (word w) r _ _ _ _ _ _ (word_lawful w k) l))
      (λ y front rest (p, e, (a, b, i, j, d)). (p.0, b, i ∙ ap (λ z. z ++ b) j, subst (λ z. s z b rest) e d))
      (λ y front rest h. ((h.0, y), refl, (w.token h.0 ∷ [], h.1, h.2, refl, h.3)))
      (λ y front (p, e, (a, b, i, j, d)). (p.0, b, i ∙ ap (λ z. z ++ b) j, subst (λ z. v z b) e d))
      (λ y front rest h. (h.0, h.1, h.2, l.weak y h.1 rest h.3))

-- ---- ends

module _ {Tok A B : Type 0} (r : Reader Tok B) (w : Word Tok A) (k : IsWord w) (s f : Before Tok B) (v : Spelled Tok B) (l : Lawful r s f v) where
  pub ends_lawful : Lawful (ends r w) (ends_before s w) (ends_before f w) (ends_spelled v w)
  ends_lawful =
      recast (ends r w) _ _ (ends_before s w) (ends_before f w) _ (ends_spelled v w)
      (mapped_lawful (λ p. p.0) (both r (word w)) _ _ _ (both_lawful r (word w) _ _ _ _ _ _ l (word_lawful w k)))
      (λ y front rest (p, e, (a, b, i, d, j)). (p.1, a, i ∙ ap (λ z. a ++ z) j, subst (λ z. s z a (w.token p.1 ∷ rest)) e (subst (λ z. s p.0 a (z ++ rest)) j d)))
      (λ y front rest h. ((y, h.0), refl, (h.1, w.token h.0 ∷ [], h.2, h.3, refl)))
      (λ y front (p, e, (a, b, i, d, j)). (p.1, a, i ∙ ap (λ z. a ++ z) j, subst (λ z. v z a) e d))
      (λ y front rest h. (h.0, h.1, h.2, l.weak y h.1 (w.token h.0 ∷ rest) h.3))

-- ---- maybe

module _ {Tok A B : Type 0} (w : Word Tok A) (k : IsWord w) (r : Reader Tok B) (s f : Before Tok B) (v : Spelled Tok B) (l : Lawful r s f v) where
  maybe_said : (o : Option B) (front rest : List Tok) → choose_before (is_of w) (mapped_before Some (skip_before w s)) (plain (nothing_spelled None)) o front rest → maybe_before w s o front rest
  maybe_said o front rest (inl (h, (x, e, d))) = subst (λ z. maybe_before w s z front rest) e d
  maybe_said o front rest (inr (h, (e, d))) = subst (λ z. maybe_before w s z front rest) e (d, ap (λ z. starts (is_of w) (z ++ rest)) (sym d) ∙ h)

  maybe_full : (o : Option B) (front rest : List Tok) → maybe_before w f o front rest → choose_before (is_of w) (mapped_before Some (skip_before w f)) (plain (nothing_spelled None)) o front rest
  maybe_full None front rest h = inr (ap (λ z. starts (is_of w) (z ++ rest)) h.0 ∙ h.1, (refl, h.0))
  maybe_full (Some x) front rest h = inl (ap (λ z. starts (is_of w) (z ++ rest)) h.2 ∙ its_own w k h.0, (x, refl, h))

  maybe_viable : (o : Option B) (front : List Tok) → choose_spelled (mapped_spelled Some (skip_spelled w v)) (nothing_spelled None) o front → maybe_spelled w v o front
  maybe_viable o front (inl (x, e, d)) = subst (λ z. maybe_spelled w v z front) e d
  maybe_viable o front (inr (e, d)) = subst (λ z. maybe_spelled w v z front) e d

  maybe_weak : (o : Option B) (front rest : List Tok) → maybe_before w s o front rest → maybe_spelled w v o front
  maybe_weak None front rest h = h.0
  maybe_weak (Some x) front rest h = (h.0, h.1, h.2, l.weak x h.1 rest h.3)

  pub maybe_lawful : Lawful (maybe w r) (maybe_before w s) (maybe_before w f) (maybe_spelled w v)
  maybe_lawful =
      recast (maybe w r) _ _ (maybe_before w s) (maybe_before w f) _ (maybe_spelled w v)
      (choose_lawful (is_of w) (mapped Some (skip w r)) (nothing None) _ _ _ _ _ _ (mapped_lawful Some (skip w r) _ _ _ (skip_lawful w k r s f v l)) (nothing_lawful None))
      maybe_said
      maybe_full
      maybe_viable
      maybe_weak

module _ {Tok A : Type 0} (w : Word Tok A) (k : IsWord w) where
  word_maybe_said : (o : Option A) (front rest : List Tok) → choose_before (is_of w) (mapped_before Some (plain (word_spelled w))) (plain (nothing_spelled None)) o front rest → maybe_word_before w o front rest
  word_maybe_said o front rest (inl (h, (x, e, d))) = subst (λ z. maybe_word_before w z front rest) e d
  word_maybe_said o front rest (inr (h, (e, d))) = subst (λ z. maybe_word_before w z front rest) e (d, ap (λ z. starts (is_of w) (z ++ rest)) (sym d) ∙ h)

  word_maybe_full : (o : Option A) (front rest : List Tok) → maybe_word_before w o front rest → choose_before (is_of w) (mapped_before Some (plain (word_spelled w))) (plain (nothing_spelled None)) o front rest
  word_maybe_full None front rest h = inr (ap (λ z. starts (is_of w) (z ++ rest)) h.0 ∙ h.1, (refl, h.0))
  word_maybe_full (Some x) front rest h = inl (ap (λ z. starts (is_of w) (z ++ rest)) h ∙ its_own w k x, (x, refl, h))

  word_maybe_viable : (o : Option A) (front : List Tok) → choose_spelled (mapped_spelled Some (word_spelled w)) (nothing_spelled None) o front → maybe_word_spelled w o front
  word_maybe_viable o front (inl (x, e, d)) = subst (λ z. maybe_word_spelled w z front) e d
  word_maybe_viable o front (inr (e, d)) = subst (λ z. maybe_word_spelled w z front) e d

  word_maybe_weak : (o : Option A) (front rest : List Tok) → maybe_word_before w o front rest → maybe_word_spelled w o front
  word_maybe_weak None front rest h = h.0
  word_maybe_weak (Some x) front rest h = h

  pub maybe_word_lawful : Lawful (maybe_word w) (maybe_word_before w) (maybe_word_before w) (maybe_word_spelled w)
  maybe_word_lawful =
      recast (maybe_word w) _ _ (maybe_word_before w) (maybe_word_before w) _ (maybe_word_spelled w)
      (choose_lawful (is_of w) (mapped Some (word w)) (nothing None) _ _ _ _ _ _ (mapped_lawful Some (word w) _ _ _ (word_lawful w k)) (nothing_lawful None))
      word_maybe_said
      word_maybe_full
      word_maybe_viable
      word_maybe_weak

-- ---- many

module _ {Tok A : Type 0} (r : Reader Tok A) (c : Tok → Bool) (s f : Before Tok A) (v : Spelled Tok A) (l : Lawful r s f v) (own : (x : A) (a rest : List Tok) → f x a rest → starts c (a ++ rest) ≡ true) where
  many_weak : (xs : List A) (front rest : List Tok) → many_before c s xs front rest → many_spelled v xs front
  many_weak [] front rest h = h.0
  many_weak (x ∷ xs) front rest h = (h.0, h.1, h.2, l.weak x h.0 (h.1 ++ rest) h.3, many_weak xs h.1 rest h.4)

  abbrev Many : ℕ → Type 0
  Many m = Lawful (many m c r) (many_before c s) (Short m (many_before c f)) (many_spelled v)

  many_zero : Many zero
  many_zero = record {
    took = λ ts x rest h. cc;
    failed = λ ts back h. cc;
    full = λ xs front rest h. let z : ⊥ = omega (arith, h.0) in absurd z;
    weak = many_weak;
    some = [];
    some_text = [];
    some_spelled = refl;
  }

  many_said : (xs : List A) (front rest : List Tok) → choose_before c (mapped_before cons_of (both_before s (many_before c s))) (plain (nothing_spelled [])) xs front rest → many_before c s xs front rest
  many_said xs front rest (inl (h, (p, e, d))) = subst (λ z. many_before c s z front rest) e d
  many_said xs front rest (inr (h, (e, d))) = subst (λ z. many_before c s z front rest) e (d, ap (λ z. starts c (z ++ rest)) (sym d) ∙ h)

  many_full : (m : ℕ) (xs : List A) (front rest : List Tok) → Short (suc m) (many_before c f) xs front rest → choose_before c (mapped_before cons_of (both_before f (Short m (many_before c f)))) (plain (nothing_spelled [])) xs front rest
  many_full m [] front rest (n, h) = inr (ap (λ z. starts c (z ++ rest)) h.0 ∙ h.1, (refl, h.0))
  many_full m (x ∷ xs) front rest (n, h) =
      let lt : length xs < m = omega (arith, n) in
      inl (ap (λ z. starts c (z ++ rest)) h.2 ∙ ap (starts c) (append_assoc h.0 h.1 rest) ∙ own x h.0 (h.1 ++ rest) h.3, ((x, xs), refl, (h.0, h.1, h.2, h.3, (lt, h.4))))

  many_viable : (xs : List A) (front : List Tok) → choose_spelled (mapped_spelled cons_of (both_spelled v (many_spelled v))) (nothing_spelled []) xs front → many_spelled v xs front
  many_viable xs front (inl (p, e, d)) = subst (λ z. many_spelled v z front) e d
  many_viable xs front (inr (e, d)) = subst (λ z. many_spelled v z front) e d

  pub many_lawful : (m : ℕ) → Many m
  many_lawful zero = many_zero
  many_lawful (suc m) =
      recast (many (suc m) c r) _ _ (many_before c s) (Short (suc m) (many_before c f)) _ (many_spelled v)
      (choose_lawful c (mapped cons_of (both r (many m c r))) (nothing []) _ _ _ _ _ _
      (mapped_lawful cons_of (both r (many m c r)) _ _ _ (both_lawful r (many m c r) _ _ _ _ _ _ l (many_lawful m)))
      (nothing_lawful []))
      many_said
      (many_full m)
      many_viable
      many_weak

-- ---- until

module _ {Tok A B : Type 0} (r : Reader Tok B) (w : Word Tok A) (k : IsWord w) (s f : Before Tok B) (v : Spelled Tok B) (l : Lawful r s f v)
    (other : (x : B) (a rest : List Tok) → f x a rest → starts (is_of w) (a ++ rest) ≡ false) where
  until_weak : (xs : List B) (front rest : List Tok) → until_before w s xs front rest → until_spelled w v xs front
  until_weak [] front rest h = h
  until_weak (x ∷ xs) front rest h = (h.0, h.1, h.2, l.weak x h.0 (h.1 ++ rest) h.3, until_weak xs h.1 rest h.4)

  abbrev Until : ℕ → Type 0
  Until m = Lawful (until m w r) (until_before w s) (Short m (until_before w f)) (until_spelled w v)

  until_zero : Until zero
  until_zero = record {
    took = λ ts x rest h. cc;
    failed = λ ts back h. cc;
    full = λ xs front rest h. let z : ⊥ = omega (arith, h.0) in absurd z;
    weak = until_weak;
    some = [];
    some_text = w.token k.some ∷ [];
    some_spelled = (k.some, refl);
  }

  until_said : (xs : List B) (front rest : List Tok) → choose_before (is_of w) (skip_before w (plain (nothing_spelled []))) (mapped_before cons_of (both_before s (until_before w s))) xs front rest → until_before w s xs front rest
  until_said xs front rest (inl (h, (x, b, i, d))) = subst (λ z. until_before w s z front rest) d.0 (x, i ∙ ap (λ z. w.token x ∷ z) d.1)
  until_said xs front rest (inr (h, (p, e, d))) = subst (λ z. until_before w s z front rest) e d

  until_full : (m : ℕ) (xs : List B) (front rest : List Tok) → Short (suc m) (until_before w f) xs front rest
      → choose_before (is_of w) (skip_before w (plain (nothing_spelled []))) (mapped_before cons_of (both_before f (Short m (until_before w f)))) xs front rest
  until_full m [] front rest (n, h) = inl (ap (λ z. starts (is_of w) (z ++ rest)) h.1 ∙ its_own w k h.0, (h.0, [], h.1, (refl, refl)))
  until_full m (x ∷ xs) front rest (n, h) =
      let lt : length xs < m = omega (arith, n) in
      inr (ap (λ z. starts (is_of w) (z ++ rest)) h.2 ∙ ap (starts (is_of w)) (append_assoc h.0 h.1 rest) ∙ other x h.0 (h.1 ++ rest) h.3, ((x, xs), refl, (h.0, h.1, h.2, h.3, (lt, h.4))))

  until_viable : (xs : List B) (front : List Tok) → choose_spelled (skip_spelled w (nothing_spelled [])) (mapped_spelled cons_of (both_spelled v (until_spelled w v))) xs front → until_spelled w v xs front
  until_viable xs front (inl (x, b, i, d)) = subst (λ z. until_spelled w v z front) d.0 (x, i ∙ ap (λ z. w.token x ∷ z) d.1)
  until_viable xs front (inr (p, e, d)) = subst (λ z. until_spelled w v z front) e d

  pub until_lawful : (m : ℕ) → Until m
  until_lawful zero = until_zero
  until_lawful (suc m) =
      recast (until (suc m) w r) _ _ (until_before w s) (Short (suc m) (until_before w f)) _ (until_spelled w v)
      (choose_lawful (is_of w) (skip w (nothing [])) (mapped cons_of (both r (until m w r))) _ _ _ _ _ _
      (skip_lawful w k (nothing []) _ _ _ (nothing_lawful []))
      (mapped_lawful cons_of (both r (until m w r)) _ _ _ (both_lawful r (until m w r) _ _ _ _ _ _ l (until_lawful m))))
      until_said
      (until_full m)
      until_viable
      until_weak
