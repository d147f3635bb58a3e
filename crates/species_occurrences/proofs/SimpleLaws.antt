-- All accesses of a statement without statements inside are made by its references.
use Rattle.std.proofs.Common.{sym, subst, ℕ, suc, Bool, true, false, List, [], ◌∷◌, ◌++◌, map, ℤ, Option, Some, None, Ok, Err}
use Rattle.species_ast.specs.declared.tree.Binary.TheVariants as binary
use Rattle.species_ast.specs.declared.tree.Expr.{Expr}
use Rattle.species_ast.specs.declared.tree.Kind.{Kind}
use Rattle.species_ast.specs.declared.tree.Value.{Value}
use Rattle.species_ast.specs.Operators.{Answer, is_true, binary_of}
use Rattle.species_ast.specs.Accesses.{Access, access, Site, Direction, Reads, Writes, Adds, Tree}
use Rattle.species_ast.specs.Evaluation.{Frame, Context, Spot, sense, array_kind, local_kind, with_local, answered, sizes_of, site_at, element_at, target_of, elements_in}
use Rattle.species_ast.specs.Run.{assignment, addition, adding, initial, declaring, setting, branching}
use Rattle.species_ast.specs.Scope.Forms.{form_of}
use Rattle.species_ast.specs.Scope.References.{Where, Reference, subscripts, elements_of, target_reference, value_references, addition_references, init_references}
use Rattle.species_ast.proofs.Induction.{Each, each_all}
use Rattle.species_runs.specs.Every.{Every, Anything}
use Rattle.species_runs.proofs.EveryLaws.{every-then_do, every_weaker, every_one}
use Rattle.species_occurrences.specs.Affine.{IsValueOf}
use Rattle.species_occurrences.specs.Made.{IsMade}
use Rattle.species_occurrences.proofs.ExpressionLaws.{ExprMade, expr_made, AreIndicesFor, made_here, count_same, every_target}
use Rattle.species_occurrences.proofs.HeaderLaws.{StandsAt, HasIters, stands, expr_in}
use Rattle.species_occurrences.proofs.MadeLaws.{among_left, every_left, every_right, every_then}

-- from a frame with these iterators, what is done is done by these references, and leaves the iterators
abbrev pub IsDoneBy : (ℕ → List ℕ) → List Reference → List ℤ → (Frame → Tree Frame) → Type 0
IsDoneBy sizes rs iters does = (f : Frame) → HasIters iters f → Every (IsMade sizes iters rs) (HasIters iters) (does f)

pub all_made : (w : Context) (xs : List Expr) → Each (ExprMade w) xs
all_made w xs = each_all (ExprMade w) (expr_made w) xs

pub any_in : (w : Context) (x : Expr) (s : Spot) (n : ℕ) (g : Where) (iters : List ℤ) (f : Frame) → HasIters iters f → StandsAt s.statement g iters
    → Every (IsMade (sizes_of w) iters ((elements_of x).references g n)) Anything ((sense w x).does s n f)
any_in w x s n g iters f p h =
    let P = IsMade (sizes_of w) iters ((elements_of x).references g n) in
    every_weaker P P (IsValueOf (form_of x) iters) Anything ((sense w x).does s n f) (λ a m. m) (λ v _. tt) (expr_in w x s n g iters f p h)

pub target_in : (w : Context) (a : ℕ) (subs : List Expr) (s : Spot) (g : Where) (iters : List ℤ) (f : Frame) → HasIters iters f → StandsAt s.statement g iters
    → Every (IsMade (sizes_of w) iters ((subscripts subs).references g 0)) (AreIndicesFor (sizes_of w) a (map form_of subs) iters) (target_of w a (map (sense w) subs) s 0 f)
target_in w a subs s g iters f p h =
    subst (λ z. Every (IsMade (sizes_of w) z ((subscripts subs).references g 0)) (AreIndicesFor (sizes_of w) a (map form_of subs) z) (target_of w a (map (sense w) subs) s 0 f)) p
    (every_target w a subs (all_made w subs) s 0 f g (stands s.statement g iters f p h))

-- the value behind a target
value_in : (w : Context) (subs : List Expr) (x : Expr) (s : Spot) (g : Where) (iters : List ℤ) (f : Frame) → HasIters iters f → StandsAt s.statement g iters
    → Every (IsMade (sizes_of w) iters (value_references subs x g)) Anything ((sense w x).does s (suc (elements_in (map (sense w) subs))) f)
value_in w subs x s g iters f p h =
    subst (λ k. Every (IsMade (sizes_of w) iters ((elements_of x).references g (suc k))) Anything ((sense w x).does s (suc (elements_in (map (sense w) subs))) f)) (count_same w subs (all_made w subs))
    (any_in w x s (suc (elements_in (map (sense w) subs))) g iters f p h)

-- the target itself
pub target_made : (w : Context) (a : ℕ) (subs : List Expr) (d : Direction) (s : Spot) (g : Where) (iters : List ℤ) (f : Frame) (is : List ℕ) (v : Value) → HasIters iters f → StandsAt s.statement g iters
    → AreIndicesFor (sizes_of w) a (map form_of subs) iters is
    → IsMade (sizes_of w) iters (target_reference subs d a g ∷ []) (access (site_at s (elements_in (map (sense w) subs)) f is) d (element_at w a is) v)
target_made w a subs d s g iters f is v p h of =
    subst (λ z. IsMade (sizes_of w) z (target_reference subs d a g ∷ []) (access (site_at s (elements_in (map (sense w) subs)) f is) d (element_at w a is) v)) p
    (made_here w s f g _ _ d a (map form_of subs) is v (stands s.statement g iters f p h) (count_same w subs (all_made w subs)) (subst (λ z. AreIndicesFor (sizes_of w) a (map form_of subs) z is) (sym p) of))

-- ---- statements

pub assignment_done : (w : Context) (a : ℕ) (subs : List Expr) (x : Expr) (s : Spot) (g : Where) (iters : List ℤ) → StandsAt s.statement g iters
    → IsDoneBy (sizes_of w) ((subscripts subs).references g 0 ++ (value_references subs x g ++ target_reference subs Writes a g ∷ [])) iters (assignment w a (map (sense w) subs) (sense w x) s)
assignment_done w a subs x s g iters h f p =
    every_then (sizes_of w) iters ((subscripts subs).references g 0) _ (AreIndicesFor (sizes_of w) a (map form_of subs) iters) (HasIters iters) (target_of w a (map (sense w) subs) s 0 f) _
    (target_in w a subs s g iters f p h)
    (λ is of. every_then (sizes_of w) iters (value_references subs x g) (target_reference subs Writes a g ∷ []) Anything (HasIters iters) ((sense w x).does s (suc (elements_in (map (sense w) subs))) f) _
    (value_in w subs x s g iters f p h) (λ v _. (target_made w a subs Writes s g iters f is _ p h of, p)))

every_sum : (P : Access → Type 0) (s : Site) (a : Answer) → Every P Anything (answered s a)
every_sum P s (Ok v) = tt
every_sum P s (Err why) = tt

addition_done : (w : Context) (a : ℕ) (atomic : Bool) (subs : List Expr) (x : Expr) (s : Spot) (g : Where) (iters : List ℤ) (f : Frame) (is : List ℕ) → HasIters iters f → StandsAt s.statement g iters
    → AreIndicesFor (sizes_of w) a (map form_of subs) iters is
    → Every (IsMade (sizes_of w) iters (addition_references atomic a subs x g)) (HasIters iters) (addition w a atomic (elements_in (map (sense w) subs)) (sense w x) s is f)
addition_done w a false subs x s g iters f is p h of =
    let z = sizes_of w in
    let n = elements_in (map (sense w) subs) in
    let last = target_reference subs Writes a g ∷ [] in
    let rest = value_references subs x g ++ last in
    λ old.
    let read = target_made w a subs Reads s g iters f is old p h of in (
      (among_left z (target_reference subs Reads a g ∷ []) rest _ read.0, read.1),
      every_right z iters (target_reference subs Reads a g ∷ []) rest (HasIters iters) _
          (every_then z iters (value_references subs x g) last Anything (HasIters iters) ((sense w x).does s (suc n) f) _ (value_in w subs x s g iters f p h)
          (λ v _. every-then_do (IsMade z iters last) Anything (HasIters iters) (answered (site_at s n f is) (binary_of binary.Add old v)) _
          (every_sum (IsMade z iters last) _ (binary_of binary.Add old v)) (λ sum _. (target_made w a subs Writes s g iters f is _ p h of, p)))),
    )
addition_done w a true subs x s g iters f is p h of =
    let z = sizes_of w in
    let n = elements_in (map (sense w) subs) in
    let last = target_reference subs Adds a g ∷ [] in
    every_then z iters (value_references subs x g) last Anything (HasIters iters) ((sense w x).does s (suc n) f) _ (value_in w subs x s g iters f p h)
    (λ v _. every_one (IsMade z iters last) (HasIters iters) (w.may_add a (array_kind w a)) _ _ (λ _. (target_made w a subs Adds s g iters f is _ p h of, p)) (λ _. tt))

pub adding_done : (w : Context) (a : ℕ) (atomic : Bool) (subs : List Expr) (x : Expr) (s : Spot) (g : Where) (iters : List ℤ) → StandsAt s.statement g iters
    → IsDoneBy (sizes_of w) ((subscripts subs).references g 0 ++ addition_references atomic a subs x g) iters (adding w a atomic (map (sense w) subs) (sense w x) s)
adding_done w a atomic subs x s g iters h f p =
    every_then (sizes_of w) iters ((subscripts subs).references g 0) (addition_references atomic a subs x g) (AreIndicesFor (sizes_of w) a (map form_of subs) iters) (HasIters iters)
    (target_of w a (map (sense w) subs) s 0 f) _ (target_in w a subs s g iters f p h) (λ is of. addition_done w a atomic subs x s g iters f is p h of)

pub initial_done : (w : Context) (k : Kind) (s : Spot) (init : Option Expr) (g : Where) (iters : List ℤ) (f : Frame) → HasIters iters f → StandsAt s.statement g iters
    → Every (IsMade (sizes_of w) iters (init_references init g)) Anything (initial w k s init f)
initial_done w k s None g iters f p h = tt
initial_done w k s (Some x) g iters f p h =
    every-then_do (IsMade (sizes_of w) iters ((elements_of x).references g 0)) Anything Anything ((sense w x).does s 0 f) _ (any_in w x s 0 g iters f p h) (λ v _. tt)

pub declaring_done : (w : Context) (x : ℕ) (init : Option Expr) (s : Spot) (g : Where) (iters : List ℤ) → StandsAt s.statement g iters
    → IsDoneBy (sizes_of w) (init_references init g) iters (declaring w x init s)
declaring_done w x init s g iters h f p =
    every-then_do (IsMade (sizes_of w) iters (init_references init g)) Anything (HasIters iters) (initial w (local_kind w x) s init (with_local f x None)) _
    (initial_done w (local_kind w x) s init g iters (with_local f x None) p h) (λ v _. p)

pub setting_done : (w : Context) (n : ℕ) (x : Expr) (s : Spot) (g : Where) (iters : List ℤ) → StandsAt s.statement g iters
    → IsDoneBy (sizes_of w) ((elements_of x).references g 0) iters (setting w n (sense w x) s)
setting_done w n x s g iters h f p =
    let P = IsMade (sizes_of w) iters ((elements_of x).references g 0) in
    every-then_do P Anything (HasIters iters) ((sense w x).does s 0 f) _ (any_in w x s 0 g iters f p h)
    (λ v _. every_one P (HasIters iters) (w.may_set n) _ _ (λ _. p) (λ _. tt))

pub branching_done : (w : Context) (x : Expr) (rs ps : List Reference) (body otherwise : Frame → Tree Frame) (s : Spot) (g : Where) (iters : List ℤ) → StandsAt s.statement g iters
    → IsDoneBy (sizes_of w) rs iters body → IsDoneBy (sizes_of w) ps iters otherwise
    → IsDoneBy (sizes_of w) ((elements_of x).references g 0 ++ (rs ++ ps)) iters (branching (sense w x) body otherwise s)
branching_done w x rs ps body otherwise s g iters st h k f p =
    let z = sizes_of w in
    every_then z iters ((elements_of x).references g 0) (rs ++ ps) Anything (HasIters iters) ((sense w x).does s 0 f) _ (any_in w x s 0 g iters f p st)
    (λ v _. every_one (IsMade z iters (rs ++ ps)) (HasIters iters) (is_true v) _ _ (λ _. every_left z iters rs ps (HasIters iters) (body f) (h f p)) (λ _. every_right z iters rs ps (HasIters iters) (otherwise f) (k f p)))
