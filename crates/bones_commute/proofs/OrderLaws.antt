-- Which orders are plays of a nest that can be played.
use Rattle.std.proofs.Common.{◌≡◌, ℕ, zero, suc, ◌+◌, ◌≤◌, List, [], ◌∷◌, ◌++◌, length, map, refl, ap, sym, ◌∙◌, subst, arith, nat_eq, Bool, true, false, length-append}
use Rattle.std.specs.Prelude.{if◌then◌else◌}
use Rattle.species_ast.specs.Accesses.{Joins, Cells, Tree, run}
use Rattle.species_ast.specs.Evaluation.{Frame}
use Rattle.species_nests.specs.Nests.{traces}
use Rattle.bones_commute.specs.Joined.{both, pairs}
use Rattle.bones_commute.specs.Orders.{count_of, in_order, AnyOrderPlays, SourceOrderPlays, OrderOfTwoPlays}
use Rattle.bones_commute.specs.Scripts.{Act, nth, AreApart}
use Rattle.bones_commute.specs.ScriptsOfRuns.{left_by, scripts, total}
use Rattle.bones_commute.proofs.Apart.{act_of, scripts_are, are_apart}
use Rattle.bones_commute.proofs.JoinedLaws.{joined_runs}
use Rattle.bones_commute.proofs.JoinedTraces.{map_pairs}
use Rattle.bones_commute.proofs.NestPlays.{NestRuns}
use Rattle.bones_commute.proofs.Orders.{law_orders, law_full, law_source, count_in, length_order}
use Rattle.bones_commute.proofs.PlayLaws.{nest_runs}

pub any_order_plays : AnyOrderPlays
any_order_plays join ps first last ks o room = law_orders join o.trades ps first last ks (nest_runs join ps first last o) room

pub source_order_plays : SourceOrderPlays
source_order_plays join ps first last o = law_source join o.trades ps first last (nest_runs join ps first last o)

-- ---- the order of two nests

count_both : (k : ℕ) (ks js : List ℕ) → count_of k (ks ++ js) ≡ count_of k ks + count_of k js
count_both k [] js = omega arith
count_both k (i ∷ ks) js = go (nat_eq i k) (count_both k ks js)
  where
    go : (c : Bool) → count_of k (ks ++ js) ≡ count_of k ks + count_of k js
        → (if c then suc (count_of k (ks ++ js)) else count_of k (ks ++ js)) ≡ (if c then suc (count_of k ks) else count_of k ks) + count_of k js
    go true h = omega (arith, h)
    go false h = h

count_at : (ss : List (List Act)) (k : ℕ) → count_of k (in_order 0 ss) ≡ length (nth ss k)
count_at ss k = let e : k ≡ 0 + k = omega arith in ap (λ j. count_of j (in_order 0 ss)) e ∙ count_in ss 0 k

length_scripts : (join : Joins) (ts : List (Tree Frame)) (m : Cells) → length (scripts join ts m) ≡ length ts
length_scripts join [] m = refl
length_scripts join (t ∷ ts) m = omega (arith, length_scripts join ts (left_by (run join t m) m))

nth_pairs : (ss us : List (List Act)) (k : ℕ) → length ss ≡ length us → length (nth (pairs ss us) k) ≡ length (nth ss k) + length (nth us k)
nth_pairs [] [] zero h = refl
nth_pairs [] [] (suc k) h = refl
nth_pairs [] (u ∷ us) k h = let x : ⊥ = omega (arith, h) in absurd x
nth_pairs (s ∷ ss) [] k h = let x : ⊥ = omega (arith, h) in absurd x
nth_pairs (s ∷ ss) (u ∷ us) zero h = length-append s u
nth_pairs (s ∷ ss) (u ∷ us) (suc k) h = nth_pairs ss us k (omega (arith, h))

total_pairs : (ss us : List (List Act)) → length ss ≡ length us → total (pairs ss us) ≡ total ss + total us
total_pairs [] [] h = refl
total_pairs [] (u ∷ us) h = let x : ⊥ = omega (arith, h) in absurd x
total_pairs (s ∷ ss) [] h = let x : ⊥ = omega (arith, h) in absurd x
total_pairs (s ∷ ss) (u ∷ us) h = omega (arith, length-append s u, total_pairs ss us (omega (arith, h)))

pub order_of_two_plays : OrderOfTwoPlays
order_of_two_plays join trades ps qs first mid last len h g apart =
    let ss = scripts join ps first in
    let us = scripts join qs mid in
    let same : pairs ss us ≡ map (map act_of) (pairs (traces join ps first) (traces join qs mid)) =
    (λ i. pairs (scripts_are join ps first mid h i) (scripts_are join qs mid last g i)) ∙ map_pairs act_of (traces join ps first) (traces join qs mid) in
    let are : AreApart (pairs ss us) = subst AreApart (sym same) (are_apart (pairs (traces join ps first) (traces join qs mid)) apart) in
    let r = joined_runs join trades ps qs first mid last len h g are in
    let nest : NestRuns join (both ps qs) first last = (r.0, subst AreApart (sym r.1) are) in
    let sizes : length ss ≡ length us = length_scripts join ps first ∙ len ∙ sym (length_scripts join qs mid) in
    let room : (k : ℕ) → count_of k (in_order 0 ss ++ in_order 0 us) ≤ length (nth (scripts join (both ps qs) first) k) =
    λ k. omega (arith, count_both k (in_order 0 ss) (in_order 0 us), count_at ss k, count_at us k, nth_pairs ss us k sizes, ap (λ l. length (nth l k)) r.1) in
    let full : length (in_order 0 ss ++ in_order 0 us) ≡ total (scripts join (both ps qs) first) =
    omega (arith, length-append (in_order 0 ss) (in_order 0 us), length_order 0 ss, length_order 0 us, total_pairs ss us sizes, ap total r.1) in
    law_full join trades (both ps qs) first last (in_order 0 ss ++ in_order 0 us) nest room full
