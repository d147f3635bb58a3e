-- The loops of a nest are the first of those that are perfectly nested there, so a mark that fits has its loops.
use Rattle.std.proofs.Common.{◌≡◌, refl, ap, sym, ◌∙◌, arith, ℕ, zero, suc, ◌-◌, ◌≤◌, Bool, true, false, ◌||◌, List, [], ◌∷◌, ◌++◌, map, take, length, Option, Some, None}
use Rattle.std.specs.Prelude.{nat_lt}
use Rattle.std.proofs.lemmas.List.{length-map, length-take-le}
use Rattle.std.proofs.lemmas.Bool.Decides.{nat_tests}
use Rattle.species_ast.specs.declared.tree.Loop.{Loop, roll-Loop, out-Loop}
use Rattle.species_ast.specs.declared.tree.Stmt.{Stmt, fold-Stmt}
use Rattle.species_ast.specs.declared.tree.Stmt.TheVariants as stmt
use Rattle.species_ast.specs.Scope.Nests.{Bounds, only_loops, front_step, front_layer, front_of}
use Rattle.species_ast.proofs.Folds.{fold_stmt-Assign, fold_stmt-AddTo, fold_stmt-Declare, fold_stmt-SetLocal, fold_stmt-If, fold_stmt-For, fold_stmt-Block, fold_loop-out}
use Rattle.species_ast.proofs.Induction.{Each, each_all, stmt_ind}
use Rattle.species_ast.proofs.Paras.{para_stmt-Assign, para_stmt-AddTo, para_stmt-Declare, para_stmt-SetLocal, para_stmt-If}
use Rattle.species_nests.specs.Nests.{Placed, sole_at, sole, only, nest_in, nest_of}
use Rattle.species_nests.proofs.NestLaws.{no_loops, sole-For, sole-Block, under}
use Rattle.species_occurrences.specs.Nesting.{bounds_in_nest, NestsAreFronts, FittingNestsAreDeep}

-- ---- the sole loop of a statement, and its front

-- the bounds of the loops that are perfectly nested in a statement
abbrev pub front_in : Stmt → List Bounds
front_in = fold-Stmt (List Bounds) (List Bounds) front_step front_layer

abbrev front_at : Option Placed → List Bounds
front_at None = []
front_at (Some p) = front_of p.loop

abbrev IsFront : Stmt → Type 0
IsFront x = (at : List ℕ) → front_in x ≡ front_at (sole x at)

no_front : (x : Stmt) (o : List ℕ → Option Placed) → front_in x ≡ [] → sole x ≡ o → o ≡ (λ at. None) → IsFront x
no_front x o h is none at = h ∙ ap (λ s. front_at (s at)) (sym (is ∙ none))

only_front : (ss : List Stmt) → Each IsFront ss → (at : List ℕ) → only_loops (map front_in ss) ≡ front_at (only ss at)
only_front [] h at = refl
only_front (x ∷ []) h at = h.0 (at ++ 0 ∷ [])
only_front (x ∷ y ∷ ss) h at = refl

pub front_is : (x : Stmt) → IsFront x
front_is = stmt_ind IsFront (record {
  assign = λ place a subs value. no_front (stmt.Assign place a subs value) _ (fold_stmt-Assign front_step front_layer place a subs value) (para_stmt-Assign sole_at no_loops place a subs value) refl;
  add_to = λ place a subs value atomic.
      no_front (stmt.AddTo place a subs value atomic) _ (fold_stmt-AddTo front_step front_layer place a subs value atomic) (para_stmt-AddTo sole_at no_loops place a subs value atomic) refl;
  declare = λ place x init. no_front (stmt.Declare place x init) _ (fold_stmt-Declare front_step front_layer place x init) (para_stmt-Declare sole_at no_loops place x init) refl;
  set_local = λ place x value. no_front (stmt.SetLocal place x value) _ (fold_stmt-SetLocal front_step front_layer place x value) (para_stmt-SetLocal sole_at no_loops place x value) refl;
  choice = λ place test body otherwise h k.
      no_front (stmt.If place test body otherwise) _ (fold_stmt-If front_step front_layer place test body otherwise) (para_stmt-If sole_at no_loops place test body otherwise) refl;
  loop = λ l h at. fold_stmt-For front_step front_layer (roll-Loop l) ∙ ap (λ s. front_at (s at)) (sym (sole-For (roll-Loop l)));
  block = λ body h at. fold_stmt-Block front_step front_layer body ∙ only_front body h at ∙ ap (λ s. front_at (s at)) (sym (sole-Block body));
})

-- ---- nests

-- the front of a loop: its bounds, and what is perfectly nested in its body
front_of-body : (l : Loop) (at : List ℕ) → front_of l ≡ bounds_in_nest (record { loop = l; at = at }) ∷ only_loops (map front_in (out-Loop l).body)
front_of-body l at = fold_loop-out front_step front_layer l

nest_front : (d : ℕ) (body : List Stmt) (at : List ℕ) → map bounds_in_nest (nest_in d body at).loops ≡ take d (only_loops (map front_in body))
nest_front zero body at = refl
nest_front (suc d) body at =
    go (λ body at. nest_front d body at) (only body at) ∙ ap (take (suc d)) (sym (only_front body (each_all IsFront front_is body) at))
  where
    go : ((body : List Stmt) (at : List ℕ) → map bounds_in_nest (nest_in d body at).loops ≡ take d (only_loops (map front_in body)))
        → (o : Option Placed) → map bounds_in_nest (under d body at o).loops ≡ take (suc d) (front_at o)
    go ih None = refl
    go ih (Some p) = ap (λ bs. bounds_in_nest p ∷ bs) (ih (out-Loop p.loop).body p.at) ∙ ap (take (suc d)) (sym (front_of-body p.loop p.at))

-- The loops of a nest are the first of those that are perfectly nested there.
pub nests_are_fronts : NestsAreFronts
nests_are_fronts d l at =
    ap (λ bs. bounds_in_nest (record { loop = l; at = at }) ∷ bs) (nest_front d (out-Loop l).body at) ∙ ap (take (suc d)) (sym (front_of-body l at))

-- ---- marks that fit

neither : (a b : Bool) → (a || b) ≡ false → a ≡ false
neither true b h = absurd cc
neither false b h = refl

not_below : (n d : ℕ) → nat_lt n d ≡ false → d ≤ n
not_below n d h = grind (arith, nat_tests, h)

-- A nest with a mark that fits has as many loops as the mark is deep.
pub fitting_nests_are_deep : FittingNestsAreDeep
fitting_nests_are_deep level depth schedule l at some fits =
    let enough : depth ≤ length (front_of l) = not_below (length (front_of l)) depth (neither (nat_lt (length (front_of l)) depth) _ fits) in
    let whole : suc (depth - 1) ≡ depth = omega (arith, some) in
    sym (length-map (nest_of (depth - 1) l at).loops bounds_in_nest)
    ∙ ap length (nests_are_fronts (depth - 1) l at)
    ∙ ap (λ n. length (take n (front_of l))) whole
    ∙ length-take-le depth (front_of l) enough
