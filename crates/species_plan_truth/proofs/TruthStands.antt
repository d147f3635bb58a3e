-- A loop that stands under others is one of the placed loops of its unit, with the ranges of these around it.
use Rattle.std.proofs.Common.{◌≡◌, refl, sym, subst, arith, ℕ, zero, suc, List, [], ◌∷◌, ◌++◌, map, length}
use Rattle.std.specs.List.{Contains}
use Rattle.species_ast.specs.Scope.Hulls.{Range, range_of}
use Rattle.species_ast.specs.Scope.Loops as placing
use Rattle.species_ast.specs.Scope.Loops.{PlacedLoop, numbered, standing_in, list_loops, loops_in, outside_loops}
use Rattle.species_ast.specs.declared.tree.Loop.{Loop, out-Loop, roll-out-Loop}
use Rattle.species_ast.specs.declared.tree.Stmt.{Stmt}
use Rattle.species_ast.specs.declared.tree.Stmt.TheVariants as stmt
use Rattle.species_ast.specs.declared.tree.Unit.{Unit as Program}
use Rattle.species_classify.specs.Places.{StandsIn}
use Rattle.species_lines.specs.Lines.{Standing}
use Rattle.species_nests.proofs.RunningLaws.{contains_later}
use Rattle.species_occurrences.specs.Iterators.{ranges_of}
use Rattle.species_occurrences.proofs.PositionLaws.{loops_in-If, loops_in-For, loops_in-Block}
use Rattle.species_plan_truth.specs.Truth.{StandsUnder, here, in_loop, in_branch, in_otherwise, in_block}

-- one of these has this loop as its head, with these ranges around it
abbrev HasPlaced : Loop → List Range → List PlacedLoop → Type 0
HasPlaced head path ls = (l : PlacedLoop) × Contains ls l × (l.head ≡ head) × (l.stands.around.path ≡ path)

contains_first : (xs ys : List PlacedLoop) (l : PlacedLoop) → Contains xs l → Contains (xs ++ ys) l
contains_first [] ys l c = let below = c.1 in absurd (omega (arith, below))
contains_first (x ∷ xs) ys l (zero, below, is) = (0, omega arith, is)
contains_first (x ∷ xs) ys l (suc k, below, is) = contains_later x l (xs ++ ys) (contains_first xs ys l (k, omega (arith, below), is))

contains_second : (xs ys : List PlacedLoop) (l : PlacedLoop) → Contains ys l → Contains (xs ++ ys) l
contains_second [] ys l c = c
contains_second (x ∷ xs) ys l c = contains_later x l (xs ++ ys) (contains_second xs ys l c)

has_first : (head : Loop) (path : List Range) (xs ys : List PlacedLoop) → HasPlaced head path xs → HasPlaced head path (xs ++ ys)
has_first head path xs ys (l, c, is, ranges) = (l, contains_first xs ys l c, is, ranges)

has_second : (head : Loop) (path : List Range) (xs ys : List PlacedLoop) → HasPlaced head path ys → HasPlaced head path (xs ++ ys)
has_second head path xs ys (l, c, is, ranges) = (l, contains_second xs ys l c, is, ranges)

-- what is placed in a statement of a list, wherever that stands, is placed in the list
in_list : (head : Loop) (path : List Range) (xs : List Stmt) (x : Stmt) → Contains xs x → (s : placing.Standing) (k : ℕ) → ((j : ℕ) → HasPlaced head path (loops_in x (numbered s j)))
    → HasPlaced head path (list_loops (map loops_in xs) s k)
in_list head path [] x c s k h = let below = c.1 in absurd (omega (arith, below))
in_list head path (y ∷ xs) x (zero, below, is) s k h =
    has_first head path (loops_in y (numbered s k)) (list_loops (map loops_in xs) s (suc k)) (subst (λ z. HasPlaced head path (loops_in z (numbered s k))) (sym is) (h k))
in_list head path (y ∷ xs) x (suc j, below, is) s k h =
    has_second head path (loops_in y (numbered s k)) (list_loops (map loops_in xs) s (suc k)) (in_list head path xs x (j, omega (arith, below), is) s (suc k) h)

loops_for : (l : Loop) → loops_in (stmt.For l) ≡ (λ s. record { head = l; stands = s } ∷ list_loops (map loops_in (out-Loop l).body) (standing_in (out-Loop l) s) 0)
loops_for l = subst (λ k. loops_in (stmt.For k) ≡ (λ s. record { head = k; stands = s } ∷ list_loops (map loops_in (out-Loop l).body) (standing_in (out-Loop l) s) 0)) (roll-out-Loop l) (loops_in-For (out-Loop l))

placed_there : (head : Loop) (around : List Loop) (xs : List Stmt) → StandsUnder head around xs → (s : placing.Standing) (k : ℕ)
    → HasPlaced head (ranges_of s.around.path around) (list_loops (map loops_in xs) s k)
placed_there head around xs (here _ c) s k = in_list head s.around.path xs (stmt.For head) c s k (λ j.
    subst (λ f. HasPlaced head s.around.path (f (numbered s j))) (sym (loops_for head)) (record { head = head; stands = numbered s j }, (0, omega arith, refl), refl, refl))
placed_there head around xs (in_loop l rest _ c inner) s k =
    let path = ranges_of (s.around.path ++ range_of s.around.path (out-Loop l) ∷ []) rest in
    in_list head path xs (stmt.For l) c s k (λ j.
    let there = standing_in (out-Loop l) (numbered s j) in
    subst (λ f. HasPlaced head path (f (numbered s j))) (sym (loops_for l))
    (has_second head path (record { head = l; stands = numbered s j } ∷ []) (list_loops (map loops_in (out-Loop l).body) there 0) (placed_there head rest (out-Loop l).body inner there 0)))
placed_there head around xs (in_branch place test first second _ _ c inner) s k = in_list head (ranges_of s.around.path around) xs (stmt.If place test first second) c s k (λ j.
    let there = numbered s j in
    subst (λ f. HasPlaced head (ranges_of s.around.path around) (f there)) (sym (loops_in-If place test first second))
    (has_first head (ranges_of s.around.path around) (list_loops (map loops_in first) there 0) (list_loops (map loops_in second) there (length first)) (placed_there head around first inner there 0)))
placed_there head around xs (in_otherwise place test first second _ _ c inner) s k = in_list head (ranges_of s.around.path around) xs (stmt.If place test first second) c s k (λ j.
    let there = numbered s j in
    subst (λ f. HasPlaced head (ranges_of s.around.path around) (f there)) (sym (loops_in-If place test first second))
    (has_second head (ranges_of s.around.path around) (list_loops (map loops_in first) there 0) (list_loops (map loops_in second) there (length first)) (placed_there head around second inner there (length first))))
placed_there head around xs (in_block body _ _ c inner) s k = in_list head (ranges_of s.around.path around) xs (stmt.Block body) c s k (λ j.
    subst (λ f. HasPlaced head (ranges_of s.around.path around) (f (numbered s j))) (sym (loops_in-Block body)) (placed_there head around body inner (numbered s j) 0))

-- the law
pub stands_placed : (u : Program) (s : Standing) → StandsUnder s.head s.around u.body → StandsIn u s.head (ranges_of [] s.around)
stands_placed u s h =
    let one = placed_there s.head s.around u.body h outside_loops 0 in
    record { placed = one.0; there = one.1; loop = one.2; path = one.3 }
