-- One element, and what all iterations did so far.
use Rattle.std.proofs.Common.{◌≡◌, ◌≢◌, ℕ, zero, suc, ◌<◌, ◌≤◌, List, [], ◌∷◌, ◌++◌, length, take, Option, Some, None, false, refl, ap, sym, ◌∙◌, arith}
use Rattle.std.specs.Prelude.{slice_get, slice_set, ◌||◌}
use Rattle.species_ast.specs.declared.tree.Value.{Value}
use Rattle.species_ast.specs.declared.action.Action.{Action}
use Rattle.species_ast.specs.declared.action.Action.TheVariants.{Done}
use Rattle.species_ast.specs.Accesses.{Joins, Element, Tree, Ret, Stop, Read, Write, Add, read_of, write_of, add_of, acts}
use Rattle.bones_meaning.specs.Plays.{Turn}
use Rattle.bones_commute.specs.Scripts.{Act, Get, Put, Plus, told, Ends, writes, adds, value_after, nth, answers_in, Along, past, done_at}
use Rattle.bones_commute.proofs.Elements.{or_false, after_append, after_silent, after_trade}
use Rattle.bones_commute.specs.Trades.{Trades}

abbrev pub Silent : Element → List Act → Type 0
Silent p s = (writes p s ≡ false) × (adds p s ≡ false)

suc_differs : (j : ℕ) → suc j ≢ zero
suc_differs j e = let x : ⊥ = omega (arith, e) in x

zero_differs : (j : ℕ) → zero ≢ suc j
zero_differs j e = let x : ⊥ = omega (arith, e) in x

sucs_differ : (j k : ℕ) → j ≢ k → suc j ≢ suc k
sucs_differ j k h e = h (omega (arith, e))

module _ (join : Joins) (trades : Trades join) where
  module _ (p : Element) where
    pub past_silent : (ss : List (List Act)) (ts : List Turn) (c : Value) → ((j : ℕ) → Silent p (nth ss j)) → value_after join p (past ss ts) c ≡ c
    past_silent [] ts c h = refl
    past_silent (s ∷ ss) [] c h = refl
    past_silent (s ∷ ss) (t ∷ ts) c h =
        let n = h zero in
        (after_append join) p (take t.done s) (past ss ts) c ∙ ap (value_after join p (past ss ts)) (after_silent join p s t.done c n.0 n.1) ∙ past_silent ss ts c (λ j. h (suc j))

    -- what only one iteration touches
    pub past_own : (ss : List (List Act)) (ts : List Turn) (k : ℕ) (c : Value) → Along ss ts → ((j : ℕ) → j ≢ k → Silent p (nth ss j))
        → value_after join p (past ss ts) c ≡ value_after join p (take (done_at ts k) (nth ss k)) c
    past_own [] [] zero c a h = refl
    past_own [] [] (suc k) c a h = refl
    past_own [] (t ∷ ts) k c a h = absurd a
    past_own (s ∷ ss) [] k c a h = absurd a
    past_own (s ∷ ss) (t ∷ ts) zero c a h =
        (after_append join) p (take t.done s) (past ss ts) c ∙ past_silent ss ts _ (λ j. h (suc j) (suc_differs j))
    past_own (s ∷ ss) (t ∷ ts) (suc k) c a h =
        let n = h zero (zero_differs k) in
        (after_append join) p (take t.done s) (past ss ts) c ∙ ap (value_after join p (past ss ts)) (after_silent join p s t.done c n.0 n.1)
        ∙ past_own ss ts k c a.2 (λ j d. h (suc j) (sucs_differ j k d))

    -- an action that does not change it
    pub past_same : (ss : List (List Act)) (ts : List Turn) (k : ℕ) (c : Value) (t u : Turn) → slice_get ts k ≡ Some t
        → ((x : Value) → value_after join p (take u.done (nth ss k)) x ≡ value_after join p (take t.done (nth ss k)) x)
        → value_after join p (past ss (slice_set ts k u)) c ≡ value_after join p (past ss ts) c
    past_same [] ts k c t u g h = refl
    past_same (s ∷ ss) [] k c t u g h = cc
    past_same (s ∷ ss) (r ∷ ts) zero c t u g h =
        let e : t ≡ r = cc in
        (after_append join) p (take u.done s) (past ss ts) c ∙ ap (value_after join p (past ss ts)) (h c ∙ ap (λ x. (value_after join) p (take x.done s) c) e) ∙ sym (after_append join p (take r.done s) (past ss ts) c)
    past_same (s ∷ ss) (r ∷ ts) (suc k) c t u g h =
        (after_append join) p (take r.done s) (past ss (slice_set ts k u)) c ∙ past_same ss ts k _ t u g h ∙ sym (after_append join p (take r.done s) (past ss ts) c)

    past_trade : (ss : List (List Act)) (ts : List Turn) (c v : Value) → ((j : ℕ) → writes p (nth ss j) ≡ false)
        → value_after join p (past ss ts) (join p.array c v) ≡ join p.array (value_after join p (past ss ts) c) v
    past_trade [] ts c v w = refl
    past_trade (s ∷ ss) [] c v w = refl
    past_trade (s ∷ ss) (t ∷ ts) c v w =
        (after_append join) p (take t.done s) (past ss ts) _ ∙ ap (value_after join p (past ss ts)) (after_trade join trades p s t.done c v (w zero))
        ∙ past_trade ss ts _ v (λ j. w (suc j))
        ∙ ap (λ x. join p.array x v) (sym (after_append join p (take t.done s) (past ss ts) c))

    -- one more value is added
    pub past_added : (ss : List (List Act)) (ts : List Turn) (k : ℕ) (c v : Value) (t u : Turn) → slice_get ts k ≡ Some t → ((j : ℕ) → writes p (nth ss j) ≡ false)
        → ((x : Value) → value_after join p (take u.done (nth ss k)) x ≡ join p.array (value_after join p (take t.done (nth ss k)) x) v) → k < length ss
        → value_after join p (past ss (slice_set ts k u)) c ≡ join p.array (value_after join p (past ss ts) c) v
    past_added [] ts k c v t u g w e b = let x : ⊥ = omega (arith, b) in absurd x
    past_added (s ∷ ss) [] k c v t u g w e b = cc
    past_added (s ∷ ss) (r ∷ ts) zero c v t u g w e b =
        let q : t ≡ r = cc in
        (after_append join) p (take u.done s) (past ss ts) c ∙ ap (value_after join p (past ss ts)) (e c ∙ ap (λ x. join p.array (value_after join p (take x.done s) c) v) q)
        ∙ past_trade ss ts _ v (λ j. w (suc j))
        ∙ ap (λ x. join p.array x v) (sym (after_append join p (take r.done s) (past ss ts) c))
    past_added (s ∷ ss) (r ∷ ts) (suc k) c v t u g w e b =
        (after_append join) p (take r.done s) (past ss (slice_set ts k u)) c
        ∙ past_added ss ts k _ v t u g (λ j. w (suc j)) e (omega (arith, b))
        ∙ ap (λ x. join p.array x v) (sym (after_append join p (take r.done s) (past ss ts) c))

pub writes_append : (p : Element) (s u : List Act) (d : ℕ) → writes p s ≡ false → writes p u ≡ false → writes p (take d s ++ u) ≡ false
writes_append p [] u zero a b = b
writes_append p [] u (suc d) a b = b
writes_append p (x ∷ s) u zero a b = b
writes_append p (Get q v ∷ s) u (suc d) a b = writes_append p s u d a b
writes_append p (Put q v ∷ s) u (suc d) a b = let n = or_false _ _ a in ap (λ x. x || writes p (take d s ++ u)) n.0 ∙ writes_append p s u d n.1 b
writes_append p (Plus q v ∷ s) u (suc d) a b = writes_append p s u d a b

pub past_unwritten : (p : Element) (ss : List (List Act)) (ts : List Turn) → ((j : ℕ) → writes p (nth ss j) ≡ false) → writes p (past ss ts) ≡ false
past_unwritten p [] ts h = refl
past_unwritten p (s ∷ ss) [] h = refl
past_unwritten p (s ∷ ss) (t ∷ ts) h = writes_append p s (past ss ts) t.done (h zero) (past_unwritten p ss ts (λ j. h (suc j)))

-- ---- counts and answers

pub done_at_set : (ts : List Turn) (k : ℕ) (t u : Turn) → slice_get ts k ≡ Some t → done_at (slice_set ts k u) k ≡ u.done
done_at_set [] k t u h = cc
done_at_set (r ∷ ts) zero t u h = refl
done_at_set (r ∷ ts) (suc k) t u h = done_at_set ts k t u h

pub along_set : (ss : List (List Act)) (ts : List Turn) (k : ℕ) (u : Turn) → Along ss ts → u.done ≤ length (nth ss k) → u.got ≡ answers_in (take u.done (nth ss k)) → Along ss (slice_set ts k u)
along_set [] [] k u a b g = tt
along_set [] (t ∷ ts) k u a b g = absurd a
along_set (s ∷ ss) [] k u a b g = absurd a
along_set (s ∷ ss) (t ∷ ts) zero u a b g = (b, g, a.2)
along_set (s ∷ ss) (t ∷ ts) (suc k) u a b g = (a.0, a.1, along_set ss ts k u a.2 b g)

abbrev pub extended : List Value → Act → List Value
extended g (Get p v) = g ++ v ∷ []
extended g (Put p v) = g ++ []
extended g (Plus p v) = g ++ []

abbrev pub gone : Turn → Act → Turn
gone t a = record { done = suc t.done; got = extended t.got a }

extended_cons : (v : Value) (g : List Value) (a : Act) → extended (v ∷ g) a ≡ v ∷ extended g a
extended_cons v g (Get p w) = refl
extended_cons v g (Put p w) = refl
extended_cons v g (Plus p w) = refl

pub answers_next : (s : List Act) (d : ℕ) (a : Act) → slice_get s d ≡ Some a → answers_in (take (suc d) s) ≡ extended (answers_in (take d s)) a
answers_next [] d a h = cc
answers_next (Get q v ∷ s) zero a h = let e : Get q v ≡ a = cc in ap (extended []) e
answers_next (Put q v ∷ s) zero a h = let e : Put q v ≡ a = cc in ap (extended []) e
answers_next (Plus q v ∷ s) zero a h = let e : Plus q v ≡ a = cc in ap (extended []) e
answers_next (Get q v ∷ s) (suc d) a h = ap (λ g. v ∷ g) (answers_next s d a h) ∙ sym (extended_cons v (answers_in (take d s)) a)
answers_next (Put q v ∷ s) (suc d) a h = answers_next s d a h
answers_next (Plus q v ∷ s) (suc d) a h = answers_next s d a h

pub below_length : {A : Type 0} (s : List A) (d : ℕ) (a : A) → slice_get s d ≡ Some a → suc d ≤ length s
below_length [] d a h = cc
below_length (b ∷ s) zero a h = omega arith
below_length (b ∷ s) (suc d) a h = omega (arith, below_length s d a h)

-- the action of an entry of the script
abbrev pub plain : Option Act → Action
plain None = Done
plain (Some (Get p v)) = read_of p
plain (Some (Put p v)) = write_of p v
plain (Some (Plus p v)) = add_of p v

pub next_is : {X : Type 0} (p : Tree X) (vs : List Value) (d : ℕ) → Ends p vs → d ≤ length (told p vs) → slice_get (acts p (answers_in (take d (told p vs)))) d ≡ Some (plain (slice_get (told p vs) d))
next_is (Ret x) vs zero e b = refl
next_is (Ret x) vs (suc d) e b = let x : ⊥ = omega (arith, b) in absurd x
next_is (Stop si why) vs d e b = absurd e
next_is (Read si p k) [] d e b = absurd e
next_is (Read si p k) (v ∷ vs) zero e b = refl
next_is (Read si p k) (v ∷ vs) (suc d) e b = next_is (k v) vs d e (omega (arith, b))
next_is (Write si p v k) vs zero e b = refl
next_is (Write si p v k) vs (suc d) e b = next_is k vs d e (omega (arith, b))
next_is (Add si p v k) vs zero e b = refl
next_is (Add si p v k) vs (suc d) e b = next_is k vs d e (omega (arith, b))
