-- The laws.
use Rattle.std.proofs.Common.{◌≡◌, ◌≢◌, ℕ, zero, suc, ◌≤◌, List, [], ◌∷◌, ◌++◌, length, take, Option, Some, None, refl, ap, sym, ◌∙◌, subst, arith, inl, inr, ◌⊎◌, map}
use Rattle.std.specs.Prelude.{slice_get}
use Rattle.species_ast.specs.declared.tree.Value.{Value}
use Rattle.species_ast.specs.declared.action.Action.TheVariants.{Done, Fault}
use Rattle.species_ast.specs.Accesses.{Joins, Element, Cells, look, cell, Tree, acts}
use Rattle.species_ast.specs.Evaluation.{Frame}
use Rattle.bones_meaning.specs.Plays.{Turn, State, next_of, step_by, try_turn, step_of}
use Rattle.bones_commute.specs.Scripts.{Act, Get, Put, Plus, Ends, Scripted, script_of, AllEnd, act_on, value_after, nth, answers_in, Along, past, through, Follows, IsScripted, trees, StepsFollow, Complete, StatesGoOn, EndsAreEqual}
use Rattle.bones_commute.proofs.Past.{gone, next_is, plain}
use Rattle.bones_commute.proofs.Even.{moved, Even, follows_of, even_of, even_next, answer_is}
use Rattle.bones_commute.specs.Trades.{Trades}

pub record Found {X : Type 0} (xs : List (Scripted X)) (ts : List Turn) (k : ℕ) : Type 0 where
  pub part : Scripted X
  pub turn : Turn
  pub tree_at : slice_get (trees xs) k ≡ Some part.tree
  pub turn_at : slice_get ts k ≡ Some turn
  pub script_is : nth (map script_of xs) k ≡ script_of part
  pub next_at : next_of part.tree turn ≡ Some (plain (slice_get (nth (map script_of xs) k) turn.done))

pub found : {X : Type 0} (xs : List (Scripted X)) (ts : List Turn) (k : ℕ) → AllEnd xs → Along (map script_of xs) ts → (slice_get (trees xs) k ≡ None) ⊎ Found xs ts k
found [] ts k e a = inl refl
found (x ∷ xs) [] k e a = absurd a
found (x ∷ xs) (t ∷ ts) zero e a =
    inr (record {
      part = x;
      turn = t;
      tree_at = refl;
      turn_at = refl;
      script_is = refl;
      next_at = ap (λ g. slice_get (acts x.tree g) t.done) a.1 ∙ next_is x.tree x.answers t.done e.0 a.0;
    })
found (x ∷ xs) (t ∷ ts) (suc k) e a =
    elim (found xs ts k e.1 a.2) [
      | inl n ↦ inl n
      | inr f ↦ inr (record { part = f.part; turn = f.turn; tree_at = f.tree_at; turn_at = f.turn_at; script_is = f.script_is; next_at = f.next_at })
    ]

module _ (join : Joins) (trades : Trades join) where
  module _ (first : Cells) (xs : List (Scripted Frame)) (st : State) (nest : IsScripted join first xs) (f : Follows join first (map script_of xs) st) where
    abbrev ss : List (List Act)
    ss = map script_of xs

    even : Even join first ss st
    even = even_of join trades first ss nest.apart st f

    pub step_at : (k : ℕ) (w : Found xs st.turns k) → step_of join (trees xs) st k ≡ step_by join st k w.turn (Some (plain (slice_get (nth ss k) w.turn.done)))
    step_at k w =
        ap (λ o. (try_turn join) st k o (slice_get st.turns k)) w.tree_at ∙ ap (try_turn join st k (Some w.part.tree)) w.turn_at ∙ ap (step_by join st k w.turn) w.next_at

    -- what a step leads to
    by_entry : (k : ℕ) (t : Turn) → slice_get st.turns k ≡ Some t → (o : Option Act) → slice_get (nth ss k) t.done ≡ o → (new : State) → step_by join st k t (Some (plain o)) ≡ Some new → Even join first ss new
    by_entry k t at None h new e = cc
    by_entry k t at (Some (Get q v)) h new e =
        let value = answer_is join trades first ss nest.fits nest.apart st even k t at q v h in
        let n = even_next join trades first ss nest.fits nest.apart st even k t at (Get q v) h in
        let same : moved st k st.cells (record { done = suc t.done; got = t.got ++ cell st.cells q ∷ [] }) ≡ new = cc in
        subst (Even join first ss) (ap (λ x. moved st k st.cells (record { done = suc t.done; got = t.got ++ x ∷ [] })) (sym value) ∙ same) n
    by_entry k t at (Some (Put q v)) h new e =
        let n = even_next join trades first ss nest.fits nest.apart st even k t at (Put q v) h in
        let same : moved st k (act_on join (Put q v) st.cells) (gone t (Put q v)) ≡ new = cc in
        subst (Even join first ss) same n
    by_entry k t at (Some (Plus q v)) h new e =
        let n = even_next join trades first ss nest.fits nest.apart st even k t at (Plus q v) h in
        let same : moved st k (act_on join (Plus q v) st.cells) (gone t (Plus q v)) ≡ new = cc in
        subst (Even join first ss) same n

    pub step_follows : (k : ℕ) (new : State) → step_of join (trees xs) st k ≡ Some new → Follows join first ss new
    step_follows k new e =
        elim (found xs st.turns k nest.ends even.along) [
          | inl n ↦ let none : step_of join (trees xs) st k ≡ None = ap (λ o. (try_turn join) st k o (slice_get st.turns k)) n in cc
          | inr w ↦ (follows_of join trades) first ss nest.apart new (by_entry k w.turn w.turn_at _ refl new (sym (step_at k w) ∙ e))
        ]

  pub law_step : StepsFollow join
  law_step first xs st nest f = step_follows first xs st nest f

-- ---- going on

not_fault : (o : Option Act) → plain o ≢ Fault
not_fault None e = cc
not_fault (Some (Get q v)) e = cc
not_fault (Some (Put q v)) e = cc
not_fault (Some (Plus q v)) e = cc

module _ (join : Joins) where
  -- each is done, or one can move
  module _ (st : State) where
    pub moves : (k : ℕ) (t : Turn) (o : Option Act) → (o ≡ None) ⊎ ((new : State) × (step_by join st k t (Some (plain o)) ≡ Some new))
    moves k t None = inl refl
    moves k t (Some (Get q v)) = inr (_, refl)
    moves k t (Some (Put q v)) = inr (_, refl)
    moves k t (Some (Plus q v)) = inr (_, refl)

complete_or : {X : Type 0} (xs : List (Scripted X)) (ts : List Turn) → AllEnd xs → Along (map script_of xs) ts
    → Complete (trees xs) ts ⊎ ((k : ℕ) × (w : Found xs ts k) × (a : Act) × (slice_get (nth (map script_of xs) k) w.turn.done ≡ Some a))
complete_or [] [] e a = inl tt
complete_or [] (t ∷ ts) e a = absurd a
complete_or (x ∷ xs) [] e a = absurd a
complete_or (x ∷ xs) (t ∷ ts) e a =
    let next : next_of x.tree t ≡ Some (plain (slice_get (script_of x) t.done)) = ap (λ g. slice_get (acts x.tree g) t.done) a.1 ∙ next_is x.tree x.answers t.done e.0 a.0 in
    go (slice_get (script_of x) t.done) refl next (complete_or xs ts e.1 a.2)
  where
    go : (o : Option Act) → slice_get (script_of x) t.done ≡ o → next_of x.tree t ≡ Some (plain (slice_get (script_of x) t.done))
        → Complete (trees xs) ts ⊎ ((k : ℕ) × (w : Found xs ts k) × (a : Act) × (slice_get (nth (map script_of xs) k) w.turn.done ≡ Some a))
        → Complete (trees (x ∷ xs)) (t ∷ ts) ⊎ ((k : ℕ) × (w : Found (x ∷ xs) (t ∷ ts) k) × (a : Act) × (slice_get (nth (map script_of (x ∷ xs)) k) w.turn.done ≡ Some a))
    go (Some b) h n r = inr (zero, record { part = x; turn = t; tree_at = refl; turn_at = refl; script_is = refl; next_at = n }, b, h)
    go None h n (inl c) = inl (n ∙ ap (λ o. Some (plain o)) h, c)
    go None h n (inr w) = let f = w.1 in inr (suc w.0, record { part = f.part; turn = f.turn; tree_at = f.tree_at; turn_at = f.turn_at; script_is = f.script_is; next_at = f.next_at }, w.2, w.3)

module _ (join : Joins) (trades : Trades join) where
  pub law_goes : StatesGoOn join
  law_goes first xs st nest f = (no_fault, goes)
    where
      no_fault : (k : ℕ) (p : Tree Frame) (t : Turn) → slice_get (trees xs) k ≡ Some p → slice_get st.turns k ≡ Some t → next_of p t ≢ Some Fault
      no_fault k p t tree turn e =
          elim (found xs st.turns k nest.ends f.along) [
            | inl n ↦ cc
            | inr w ↦
                let x : w.part.tree ≡ p = let y = w.tree_at in cc in
                let z : w.turn ≡ t = let y = w.turn_at in cc in
                let q : Some (plain (slice_get (nth (map script_of xs) k) w.turn.done)) ≡ Some Fault = sym w.next_at ∙ ap (λ r. next_of r w.turn) x ∙ ap (next_of p) z ∙ e in
                not_fault (slice_get (nth (map script_of xs) k) w.turn.done) cc
          ]

      goes : Complete (trees xs) st.turns ⊎ ((k : ℕ) × (new : State) × (step_of join (trees xs) st k ≡ Some new))
      goes =
          elim (complete_or xs st.turns nest.ends f.along) [
            | inl c ↦ inl c
            | inr w ↦ elim (moves join st w.0 w.1.turn (slice_get (nth (map script_of xs) w.0) w.1.turn.done)) [
              | inl n ↦ let h = w.3 in cc
              | inr m ↦ inr (w.0, m.0, step_at join trades first xs st nest f w.0 w.1 ∙ m.1)
            ]
          ]

-- ---- the end

ends_at : (s : List Act) (d : ℕ) → plain (slice_get s d) ≡ Done → take d s ≡ s
ends_at [] zero h = refl
ends_at [] (suc d) h = refl
ends_at (Get q v ∷ s) zero h = cc
ends_at (Put q v ∷ s) zero h = cc
ends_at (Plus q v ∷ s) zero h = cc
ends_at (a ∷ s) (suc d) h = ap (λ l. a ∷ l) (ends_at s d h)

pub last_at : (s : List Act) (d : ℕ) → plain (slice_get s d) ≡ Done → length s ≤ d
last_at [] d h = omega arith
last_at (Get q v ∷ s) zero h = cc
last_at (Put q v ∷ s) zero h = cc
last_at (Plus q v ∷ s) zero h = cc
last_at (a ∷ s) (suc d) h = omega (arith, last_at s d h)

pub complete_at : {X : Type 0} (x : Scripted X) (t : Turn) → Ends x.tree x.answers → t.done ≤ length (script_of x) → t.got ≡ answers_in (take t.done (script_of x)) → next_of x.tree t ≡ Some Done → plain (slice_get (script_of x) t.done) ≡ Done
complete_at x t e b g q =
    let next : next_of x.tree t ≡ Some (plain (slice_get (script_of x) t.done)) = ap (λ g. slice_get (acts x.tree g) t.done) g ∙ next_is x.tree x.answers t.done e b in
    cc

abbrev pub whole : List (List Act) → List Act
whole [] = []
whole (s ∷ ss) = s ++ whole ss

pub past_complete : {X : Type 0} (xs : List (Scripted X)) (ts : List Turn) → AllEnd xs → Along (map script_of xs) ts → Complete (trees xs) ts → past (map script_of xs) ts ≡ whole (map script_of xs)
past_complete [] [] e a c = refl
past_complete [] (t ∷ ts) e a c = refl
past_complete (x ∷ xs) [] e a c = absurd a
past_complete (x ∷ xs) (t ∷ ts) e a c =
    let last = complete_at x t e.0 a.0 a.1 c.0 in
    ap (λ l. l ++ past (map script_of xs) ts) (ends_at (script_of x) t.done last) ∙ ap (λ l. script_of x ++ l) (past_complete xs ts e.1 a.2 c.1)

row_same : (r s : List Value) → length r ≡ length s → ((i : ℕ) → slice_get r i ≡ slice_get s i) → r ≡ s
row_same [] [] n h = refl
row_same [] (y ∷ s) n h = let e = h zero in cc
row_same (x ∷ r) [] n h = let e = h zero in cc
row_same (x ∷ r) (y ∷ s) n h =
    let e : x ≡ y = let g = h zero in cc in
    ap (λ z. z ∷ r) e ∙ ap (λ l. y ∷ l) (row_same r s (omega (arith, n)) (λ i. h (suc i)))

pub cells_same : (m n : Cells) → map length m ≡ map length n → ((p : Element) → look m p ≡ look n p) → m ≡ n
cells_same [] [] l h = refl
cells_same [] (s ∷ n) l h = cc
cells_same (r ∷ m) [] l h = cc
cells_same (r ∷ m) (s ∷ n) l h =
    let e : length r ≡ length s = cc in
    let f : map length m ≡ map length n = cc in
    ap (λ z. z ∷ m) (row_same r s e (λ i. h (record { array = zero; at = i }))) ∙ ap (λ z. s ∷ z) (cells_same m n f (λ p. h (record { array = suc p.array; at = p.at })))

module _ (join : Joins) (trades : Trades join) where
  pub law_end : EndsAreEqual join
  law_end first xs st other nest f g c d =
      let e = even_of join trades first (map script_of xs) nest.apart st f in
      let o = even_of join trades first (map script_of xs) nest.apart other g in
      let same : past (map script_of xs) st.turns ≡ past (map script_of xs) other.turns = past_complete xs st.turns nest.ends e.along c ∙ sym (past_complete xs other.turns nest.ends o.along d) in
      cells_same st.cells other.cells (e.sizes ∙ sym o.sizes)
      (λ p. e.each p ∙ ap (λ l. through (value_after join p l) (look first p)) same ∙ sym (o.each p))
