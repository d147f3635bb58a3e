-- Which orders are plays.
use Rattle.std.proofs.Common.{◌≡◌, ◌≢◌, ℕ, zero, suc, ◌+◌, ◌<◌, ◌≤◌, List, [], ◌∷◌, ◌++◌, length, Some, None, refl, ap, sym, ◌∙◌, subst, arith, nat_eq, inl, inr, map, length-append, append-nil}
use Rattle.std.proofs.lemmas.Bool.{cases_Bool, eqb-true, eq-eqb}
use Rattle.std.specs.Prelude.{slice_get, slice_set, if◌then◌else◌}
use Rattle.species_ast.specs.Accesses.{Joins, Cells, Tree}
use Rattle.bones_meaning.specs.Plays.{Turn, State, not_begun, start, step_of}
use Rattle.bones_commute.specs.Scripts.{Act, Scripted, script_of, nth, done_at, Follows, IsScripted, trees, Complete}
use Rattle.bones_commute.specs.Orders.{count_of, rank_times, in_order}
use Rattle.bones_commute.specs.ScriptsOfRuns.{then_state, plays, scripts, total}
use Rattle.bones_commute.proofs.Elements.{neq}
use Rattle.bones_commute.proofs.Past.{done_at_set, plain}
use Rattle.bones_commute.proofs.Even.{done_at_get}
use Rattle.bones_commute.proofs.Steps.{found, moves, step_at, step_follows}
use Rattle.bones_commute.proofs.NestPlays.{starts, by_action, scripted, parts, scripts_parts, trees_parts, NestRuns, law_plays}
use Rattle.species_ast.specs.Evaluation.{Frame}
use Rattle.bones_commute.specs.Trades.{Trades}

get_below : {A : Type 0} (s : List A) (d : ℕ) → suc d ≤ length s → (a : A) × (slice_get s d ≡ Some a)
get_below [] d h = let x : ⊥ = omega (arith, h) in absurd x
get_below (a ∷ s) zero h = (a, refl)
get_below (a ∷ s) (suc d) h = get_below s d (omega (arith, h))

done_at_other : (ts : List Turn) (k j : ℕ) (u : Turn) → k ≢ j → done_at (slice_set ts k u) j ≡ done_at ts j
done_at_other [] k j u h = refl
done_at_other (t ∷ ts) zero zero u h = absurd (h refl)
done_at_other (t ∷ ts) zero (suc j) u h = refl
done_at_other (t ∷ ts) (suc k) zero u h = refl
done_at_other (t ∷ ts) (suc k) (suc j) u h = done_at_other ts k j u (λ e. h (ap suc e))

no_script : {X : Type 0} (xs : List (Scripted X)) (k : ℕ) → slice_get (trees xs) k ≡ None → length (nth (map script_of xs) k) ≡ 0
no_script [] zero h = refl
no_script [] (suc k) h = refl
no_script (x ∷ xs) zero h = cc
no_script (x ∷ xs) (suc k) h = no_script xs k h

module _ (join : Joins) (trades : Trades join) where
  module _ (first : Cells) (xs : List (Scripted Frame)) (nest : IsScripted join first xs) where
    abbrev ss : List (List Act)
    ss = map script_of xs

    abbrev HasRoom : List ℕ → State → Type 0
    HasRoom ks st = (k : ℕ) → done_at st.turns k + count_of k ks ≤ length (nth ss k)

    any_order : (ks : List ℕ) (st : State) → Follows join first ss st → HasRoom ks st → (last : State) × (plays join (trees xs) ks st ≡ Some last)
    any_order [] st f room = (st, refl)
    any_order (k ∷ ks) st f room =
        let here : suc (done_at st.turns k) ≤ length (nth ss k) = let r = room k in let c = ap (λ b. if b then suc (count_of k ks) else count_of k ks) (eq-eqb k k refl) in omega (arith, r, c) in
        elim (found xs st.turns k nest.ends f.along) [
          | inl n ↦ let x : ⊥ = omega (arith, here, no_script xs k n) in absurd x
          | inr w ↦
              let d = done_at_get st.turns k w.turn w.turn_at in
              let a = get_below (nth ss k) w.turn.done (omega (arith, here, d)) in
              elim (moves join st k w.turn (slice_get (nth ss k) w.turn.done)) [
                | inl n ↦ let e = a.1 in cc
                | inr m ↦
                    let e : step_of join (trees xs) st k ≡ Some m.0 = step_at join trades first xs st nest f k w ∙ m.1 in
                    let u = by_action join st k w.turn (Some (plain (slice_get (nth ss k) w.turn.done))) m.0 m.1 in
                    let r = any_order ks m.0 (step_follows join trades first xs st nest f k m.0 e) (room_after k ks st m.0 w.turn w.turn_at u.0 u.1 u.2 d room) in
                    (r.0, ap (λ o. then_state o (plays join (trees xs) ks)) e ∙ r.1)
              ]
        ]
      where
        room_after : (k : ℕ) (ks : List ℕ) (st new : State) (t : Turn) → slice_get st.turns k ≡ Some t → (u : Turn) → new.turns ≡ slice_set st.turns k u → u.done ≡ suc t.done → done_at st.turns k ≡ t.done
            → HasRoom (k ∷ ks) st → HasRoom ks new
        room_after k ks st new t at u is more d room j =
            elim (cases_Bool (nat_eq k j)) [
              | inl y ↦
                  let e = eqb-true k j y in
                  let n : done_at new.turns j ≡ suc (done_at st.turns j) =
                  ap (λ l. done_at l j) is ∙ ap (done_at (slice_set st.turns k u)) (sym e) ∙ done_at_set st.turns k t u at ∙ more ∙ ap suc (sym d) ∙ ap (λ x. suc (done_at st.turns x)) e in
                  let c = ap (λ b. if b then suc (count_of j ks) else count_of j ks) y in
                  omega (arith, room j, n, c)
              | inr nf ↦
                  let n : done_at new.turns j ≡ done_at st.turns j = ap (λ l. done_at l j) is ∙ done_at_other st.turns k j u (neq k j nf) in
                  let c = ap (λ b. if b then suc (count_of j ks) else count_of j ks) nf in
                  omega (arith, room j, n, c)
            ]

done_at_start : {X : Type 0} (ps : List (Tree X)) (k : ℕ) → done_at (map (λ p. not_begun) ps) k ≡ 0
done_at_start [] k = refl
done_at_start (p ∷ ps) zero = refl
done_at_start (p ∷ ps) (suc k) = done_at_start ps k

module _ (join : Joins) (trades : Trades join) where
  -- Any order in which no iteration moves more often than its script is long is a play.
  pub law_orders : (ps : List (Tree Frame)) (first last : Cells) (ks : List ℕ) → NestRuns join ps first last → ((k : ℕ) → count_of k ks ≤ length (nth (scripts join ps first) k))
      → (st : State) × (plays join ps ks (start ps first) ≡ Some st)
  law_orders ps first last ks o room =
      let xs = parts join trades ps first in
      let nest = scripted join trades ps first last o in
      let there : (k : ℕ) → done_at (start (trees xs) first).turns k + count_of k ks ≤ length (nth (map script_of xs) k) =
      λ k. omega (arith, done_at_start (trees xs) k, room k, ap (λ s. length (nth s k)) (scripts_parts join trades ps first)) in
      subst (λ q. (st : State) × (plays join q ks (start q first) ≡ Some st)) (trees_parts join trades ps first)
      (any_order join trades first xs nest ks (start (trees xs) first) (starts join trades first xs nest) there)

-- ---- the source's order

count_times : (j k : ℕ) (s : List Act) (rest : List ℕ) → count_of j (rank_times k s rest) ≡ (if nat_eq k j then length s + count_of j rest else count_of j rest)
count_times j k [] rest =
    elim (cases_Bool (nat_eq k j)) [
      | inl y ↦ let e : count_of j rest ≡ 0 + count_of j rest = omega arith in e ∙ ap (λ b. if b then 0 + count_of j rest else count_of j rest) (sym y)
      | inr n ↦ ap (λ b. if b then 0 + count_of j rest else count_of j rest) (sym n)
    ]
count_times j k (a ∷ s) rest =
    elim (cases_Bool (nat_eq k j)) [
      | inl y ↦
          let r : count_of j (rank_times k s rest) ≡ length s + count_of j rest = count_times j k s rest ∙ ap (λ b. if b then length s + count_of j rest else count_of j rest) y in
          let e : suc (count_of j (rank_times k s rest)) ≡ length (a ∷ s) + count_of j rest = omega (arith, r) in
          ap (λ b. if b then suc (count_of j (rank_times k s rest)) else count_of j (rank_times k s rest)) y ∙ e
          ∙ ap (λ b. if b then length (a ∷ s) + count_of j rest else count_of j rest) (sym y)
      | inr n ↦
          ap (λ b. if b then suc (count_of j (rank_times k s rest)) else count_of j (rank_times k s rest)) n ∙ count_times j k s rest
          ∙ ap (λ b. if b then length s + count_of j rest else count_of j rest) n
          ∙ ap (λ b. if b then length (a ∷ s) + count_of j rest else count_of j rest) (sym n)
    ]

other_rank : (j k : ℕ) (s : List Act) (rest : List ℕ) → k ≢ j → count_of j (rank_times k s rest) ≡ count_of j rest
other_rank j k s rest h =
    elim (cases_Bool (nat_eq k j)) [
      | inl y ↦ absurd (h (eqb-true k j y))
      | inr n ↦ count_times j k s rest ∙ ap (λ b. if b then length s + count_of j rest else count_of j rest) n
    ]

count_below : (ss : List (List Act)) (b j : ℕ) → j < b → count_of j (in_order b ss) ≡ 0
count_below [] b j h = refl
count_below (s ∷ ss) b j h = other_rank j b s (in_order (suc b) ss) (λ e. let x : ⊥ = omega (arith, e, h) in x) ∙ count_below ss (suc b) j (omega (arith, h))

pub count_in : (ss : List (List Act)) (b k : ℕ) → count_of (b + k) (in_order b ss) ≡ length (nth ss k)
count_in [] b zero = refl
count_in [] b (suc k) = refl
count_in (s ∷ ss) b zero =
    let e : b ≡ b + 0 = omega arith in
    let z : count_of (b + 0) (in_order (suc b) ss) ≡ 0 = count_below ss (suc b) (b + 0) (omega arith) in
    let c = count_times (b + 0) b s (in_order (suc b) ss) ∙ ap (λ x. if x then length s + count_of (b + 0) (in_order (suc b) ss) else count_of (b + 0) (in_order (suc b) ss)) (eq-eqb b (b + 0) e) in
    omega (arith, c, z)
count_in (s ∷ ss) b (suc k) =
    let e : b + suc k ≡ suc b + k = omega arith in
    other_rank (b + suc k) b s (in_order (suc b) ss) (λ q. let x : ⊥ = omega (arith, q) in x) ∙ ap (λ j. count_of j (in_order (suc b) ss)) e ∙ count_in ss (suc b) k

length_times : (k : ℕ) (s : List Act) (rest : List ℕ) → length (rank_times k s rest) ≡ length s + length rest
length_times k [] rest = omega arith
length_times k (a ∷ s) rest = omega (arith, length_times k s rest)

pub length_order : (b : ℕ) (ss : List (List Act)) → length (in_order b ss) ≡ total ss
length_order b [] = refl
length_order b (s ∷ ss) = length_times b s (in_order (suc b) ss) ∙ ap (λ n. length s + n) (length_order (suc b) ss)

module _ (join : Joins) (trades : Trades join) where
  -- An order in which each iteration moves as often as its script is long leads to the end, and to the last arrays.
  pub law_full : (ps : List (Tree Frame)) (first last : Cells) (ks : List ℕ) → NestRuns join ps first last → ((k : ℕ) → count_of k ks ≤ length (nth (scripts join ps first) k))
      → length ks ≡ total (scripts join ps first) → (st : State) × (plays join ps ks (start ps first) ≡ Some st) × Complete ps st.turns × (st.cells ≡ last)
  law_full ps first last ks o in_room full =
      let w = law_orders join trades ps first last ks o in_room in
      let p = law_plays join trades ps first last ks w.0 o w.1 in
      let more = p.goes_on in
      let longer = (law_plays join trades ps first last (ks ++ more.0) more.1 o more.2).no_longer in
      let none : more.0 ≡ [] = nothing more.0 (omega (arith, longer, length-append ks more.0, full)) in
      let same : w.0 ≡ more.1 = some_same (sym w.1 ∙ ap (λ l. (plays join) ps l (start ps first)) (sym (append-nil ks) ∙ ap (λ l. ks ++ l) (sym none)) ∙ more.2) in
      let c = subst (λ st. Complete ps st.turns) (sym same) more.3 in
      (w.0, w.1, c, (p.ends c).0)
    where
      nothing : (l : List ℕ) → length l ≤ 0 → l ≡ []
      nothing [] h = refl
      nothing (x ∷ l) h = let y : ⊥ = omega (arith, h) in absurd y

      some_same : {A : Type 0} {x y : A} → Some x ≡ Some y → x ≡ y
      some_same e = cc

  -- So the source's order is one, and it ends in the source's arrays.
  pub law_source : (ps : List (Tree Frame)) (first last : Cells) → NestRuns join ps first last
      → (st : State) × (plays join ps (in_order 0 (scripts join ps first)) (start ps first) ≡ Some st) × Complete ps st.turns × (st.cells ≡ last)
  law_source ps first last o =
      let all = scripts join ps first in
      let in_room : (k : ℕ) → count_of k (in_order 0 all) ≤ length (nth all k) =
      λ k. let e : 0 + k ≡ k = omega arith in omega (arith, ap (λ j. count_of j (in_order 0 all)) e, count_in all 0 k) in
      law_full ps first last (in_order 0 all) o in_room (length_order 0 all)
