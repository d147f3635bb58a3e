-- A loop of a well made unit, wherever it stands, is a band by itself.
use Rattle.std.proofs.Common.{◌≡◌, refl, ap, sym, ◌∙◌, subst, arith, ℕ, suc, ◌<◌, ◌≤◌, Bool, true, false, ◌&&◌, ◌||◌, not, nat_le, nat_lt, List, [], ◌∷◌, ◌++◌, map, length, take}
use Rattle.std.specs.List.{list_all}
use Rattle.std.specs.Prelude.{is_some}
use Rattle.std.proofs.lemmas.Bool.{and_parts}
use Rattle.std.proofs.lemmas.Bool.Decides.{nat_tests}
use Rattle.std.proofs.lemmas.List.{append-nil}
use Rattle.species_ast.specs.declared.tree.Stmt.TheVariants as stmt
use Rattle.species_ast.specs.declared.tree.Loop.{Loop, out-Loop}
use Rattle.species_ast.specs.declared.tree.Unit.{Unit as Program}
use Rattle.species_ast.specs.Scope.Forms.{form_of, iterators_in}
use Rattle.species_ast.specs.Scope.Hulls.{Range}
use Rattle.species_ast.specs.Scope.Limits.{goes}
use Rattle.species_ast.specs.Scope.Nests.{Bounds, front_step, front_layer, front_of, named_in, only_loops}
use Rattle.species_ast.specs.Scope.WellMade.{Around, Made, made, made_at, made_loop, list_holds, is_made_bound, head_holds, has_depth, IsWellMade}
use Rattle.species_ast.proofs.Folds.{fold_stmt-For, fold_loop-out, folded_layer}
use Rattle.species_loops.specs.Bands.{is_of_band, names_band, is_band, IsLongestBand}
use Rattle.species_classify.specs.Places.{StandsIn}
use Rattle.species_classify.proofs.StandLemmas.{stands_well}

-- ---- the header of a loop

pub record HoldsHead (head : Loop) (level : ℕ) : Type 0 where
  pub start : is_made_bound level (out-Loop head).start ≡ true
  pub limit : is_made_bound level (out-Loop head).limit ≡ true
  pub step : goes (out-Loop head).test (out-Loop head).step ≡ true

pub holds_head : (head : Loop) (w : Around) → (made (stmt.For head)).holds w ≡ true → HoldsHead head w.level
holds_head head w h =
    let l = out-Loop head in
    let all : (head_holds l w && list_holds (map made l.body) (record w { level = suc w.level })) ≡ true =
    sym (ap (λ (m : Made). m.holds w) (fold_stmt-For made_at made_loop head ∙ fold_loop-out made_at made_loop head)) ∙ h in
    let own = (and_parts (head_holds l w) (list_holds (map made l.body) (record w { level = suc w.level })) all).0 in
    let start = and_parts (is_made_bound w.level l.start) (is_made_bound w.level l.limit && (goes l.test l.step && has_depth l.mark)) own in
    let limit = and_parts (is_made_bound w.level l.limit) (goes l.test l.step && has_depth l.mark) start.1 in
    let step = and_parts (goes l.test l.step) (has_depth l.mark) limit.1 in
    record { start = start.0; limit = limit.0; step = step.0 }

-- ---- a band of one loop

-- iterators of loops around are none of a band below them
none_named : (level : ℕ) (is : List ℕ) → list_all (λ i. nat_lt i level) is ≡ true → names_band level 1 is ≡ false
none_named level [] h = refl
none_named level (i ∷ is) h =
    let parts = and_parts (nat_lt i level) (list_all (λ i. nat_lt i level) is) h in
    let test : is_of_band level 1 i ≡ false = grind (arith, nat_tests, parts.0) in
    rw test (none_named level is parts.1)

or_false : (a b : Bool) → (a || b) ≡ false → (a ≡ false) × (b ≡ false)
or_false true b h = absurd cc
or_false false b h = (refl, h)

both_named : (level : ℕ) (is js : List ℕ) → names_band level 1 is ≡ false → names_band level 1 js ≡ false → names_band level 1 (is ++ js) ≡ false
both_named level [] js h k = k
both_named level (i ∷ is) js h k = let parts = or_false (is_of_band level 1 i) (names_band level 1 is) h in rw parts.0 (both_named level is js parts.1 k)

band_one : (level : ℕ) (b : Bounds) (rest : List Bounds) → names_band level 1 (iterators_in b.start ++ iterators_in b.limit) ≡ false → is_band level (b ∷ rest) 1 ≡ true
band_one level b rest h =
    let long : nat_le 1 (length (b ∷ rest)) ≡ true = grind (arith, nat_tests) in
    ap (λ t. t && not (names_band level 1 (named_in (take 1 (b ∷ rest))))) long
    ∙ ap not (ap (names_band level 1) (append-nil (iterators_in b.start ++ iterators_in b.limit)) ∙ h)

-- a loop that names only iterators of the loops around it is a band by itself
pub band_of_one : (head : Loop) (level : ℕ) → HoldsHead head level → is_band level (front_of head) 1 ≡ true
band_of_one head level holds =
    let l = out-Loop head in
    let b : Bounds = record { start = l.start; limit = l.limit } in
    let start = none_named level (iterators_in l.start) (and_parts (is_some (form_of l.start)) _ holds.start).1 in
    let limit = none_named level (iterators_in l.limit) (and_parts (is_some (form_of l.limit)) _ holds.limit).1 in
    ap (λ (bs : List Bounds). is_band level bs 1) (fold_loop-out front_step front_layer head)
    ∙ band_one level b (only_loops (folded_layer front_step front_layer l).body) (both_named level (iterators_in l.start) (iterators_in l.limit) start limit)

-- so the longest band that begins with a loop of a unit has one
pub some_band : (u : Program) (head : Loop) (path : List Range) (n : ℕ) → IsWellMade u → StandsIn u head path → IsLongestBand (length path) (front_of head) n → 0 < n
some_band u head path n well stands longest =
    let here = stands_well u head path well stands in
    let holds = subst (λ (k : ℕ). HoldsHead head k) here.level (holds_head head here.around here.holds) in
    let least : 1 ≤ n = longest.longest 1 (band_of_one head (length path) holds) in
    omega (arith, least)

-- and is no longer than the loops that are perfectly nested there
pub band_within : (level n : ℕ) (front : List Bounds) → IsLongestBand level front n → n ≤ length front
band_within level n front longest =
    let test : nat_le n (length front) ≡ true = (and_parts (nat_le n (length front)) _ longest.is_one).0 in
    grind (arith, nat_tests, test)
