-- The header of a loop gives values that the loop's range has, and accesses nothing.
use Rattle.std.proofs.Common.{◌≡◌, refl, sym, subst, ap, ℕ, true, List, [], ◌∷◌, ◌++◌, ℤ, Option, Some, None}
use Rattle.std.specs.Prelude.{is_some}
use Rattle.species_ast.specs.declared.tree.Expr.{Expr}
use Rattle.species_ast.specs.declared.tree.Kind.TheVariants as kind
use Rattle.species_ast.specs.declared.tree.Stmt.TheOpen.{Loop-F}
use Rattle.species_ast.specs.Operators.{number_of, reduced}
use Rattle.species_ast.specs.Accesses.{Access, Tree}
use Rattle.species_ast.specs.Evaluation.{Frame, Context, Spot, sense, sizes_of}
use Rattle.species_ast.specs.Run.{inside, outside, turns, looping, iterator_values}
use Rattle.species_ast.specs.Scope.Forms.{Form, form_of, form_value}
use Rattle.species_ast.specs.Scope.Hulls.{Range, range_of}
use Rattle.species_ast.specs.Scope.Limits.{goes}
use Rattle.species_ast.specs.Scope.References.{Where, elements_of}
use Rattle.species_ast.proofs.Induction.{Each}
use Rattle.species_runs.specs.Every.{Every, Anything}
use Rattle.species_runs.proofs.EveryLaws.{every-then_do, every_weaker}
use Rattle.species_nests.specs.Arrivals.{heading}
use Rattle.species_nests.proofs.ArrivalLaws.{looping_is}
use Rattle.species_occurrences.specs.Iterators.{IsInt, AreInts, MayTake, AreTaken}
use Rattle.species_occurrences.specs.Affine.{IsFormValue, IsValueOf}
use Rattle.species_occurrences.specs.Made.{IsMade}
use Rattle.species_occurrences.proofs.AffineLaws.{bound_number}
use Rattle.species_occurrences.proofs.BareLaws.{is_bare}
use Rattle.species_occurrences.proofs.ExpressionLaws.{Stands, expr_made}
use Rattle.species_occurrences.proofs.TakenLaws.{values_taken}

-- ---- where the iterators are named

-- the position is that of the text, and the iterators are values that the loops there take
abbrev pub StandsAt : List ℕ → Where → List ℤ → Type 0
StandsAt at g iters = (at ≡ g.statement) × AreTaken g.path iters × AreInts iters

abbrev pub HasIters : List ℤ → Frame → Type 0
HasIters iters f = f.iters ≡ iters

pub stands : (at : List ℕ) (g : Where) (iters : List ℤ) (f : Frame) → HasIters iters f → StandsAt at g iters → Stands at f g
stands at g iters f p h = (h.0, subst (AreTaken g.path) (sym p) h.1, subst AreInts (sym p) h.2)

pub expr_in : (w : Context) (x : Expr) (s : Spot) (n : ℕ) (g : Where) (iters : List ℤ) (f : Frame) → HasIters iters f → StandsAt s.statement g iters
    → Every (IsMade (sizes_of w) iters ((elements_of x).references g n)) (IsValueOf (form_of x) iters) ((sense w x).does s n f)
expr_in w x s n g iters f p h =
    subst (λ z. Every (IsMade (sizes_of w) z ((elements_of x).references g n)) (IsValueOf (form_of x) z) ((sense w x).does s n f)) p
    ((expr_made w x).1 s n f g (stands s.statement g iters f p h))

-- an affine expression gives the value of its form, and accesses nothing
pub bound_in : (w : Context) (x : Expr) (b : Form) (s : Spot) (n : ℕ) (g : Where) (iters : List ℤ) (f : Frame) → form_of x ≡ Some b → HasIters iters f → StandsAt s.statement g iters
    → (P : Access → Type 0) → Every P (IsFormValue b iters) ((sense w x).does s n f)
bound_in w x b s n g iters f is p h P =
    every_weaker (IsMade (sizes_of w) iters []) P (IsFormValue b iters) (IsFormValue b iters) ((sense w x).does s n f) (λ a m. absurd m.0) (λ v q. q)
    (subst (λ o. Every (IsMade (sizes_of w) iters []) (IsValueOf o iters) ((sense w x).does s n f)) is
    (subst (λ rs. Every (IsMade (sizes_of w) iters rs) (IsValueOf (form_of x) iters) ((sense w x).does s n f)) (is_bare x b is g n) (expr_in w x s n g iters f p h)))

pub some_is : (o : Option Form) → is_some o ≡ true → (f : Form) × (o ≡ Some f)
some_is (Some f) h = (f, refl)
some_is None h = absurd cc

-- ---- headers

-- the bounds of a loop are affine, and its step goes in the direction of the test
pub record HasBounds {X Y : Type 0} (l : Loop-F X Y) : Type 0 where
  pub start : Form
  pub limit : Form
  pub start_is : form_of l.start ≡ Some start
  pub limit_is : form_of l.limit ≡ Some limit
  pub steps : goes l.test l.step ≡ true

-- the iterator may take each of these values, which are numbers of the kind `int`
abbrev pub AllTaken : Range → List ℤ → Type 0
AllTaken r is = Each (λ i. MayTake r i × IsInt i) is

-- the law: a header gives the values from the value of the start's form to that of the limit's, and the iterator may take each
pub header_is : {X Y : Type 0} (w : Context) (l : Loop-F X Y) (bounds : HasBounds l) (s : Spot) (g : Where) (iters : List ℤ) (f : Frame) → HasIters iters f → StandsAt s.statement g iters
    → (P : Access → Type 0)
    → Every P (λ is. (is ≡ iterator_values l.test (form_value bounds.start iters) (form_value bounds.limit iters) l.step) × AllTaken (range_of g.path l) is) (heading l.test l.step (sense w l.start) (sense w l.limit) s f)
header_is w l bounds s g iters f p st P =
    let A = IsFormValue bounds.start iters in
    let B = IsFormValue bounds.limit iters in
    let values = iterator_values l.test (form_value bounds.start iters) (form_value bounds.limit iters) l.step in
    let Q : List ℤ → Type 0 = λ is. (is ≡ values) × AllTaken (range_of g.path l) is in
    every-then_do P A Q ((sense w l.start).does s 0 f) _ (bound_in w l.start bounds.start s 0 g iters f bounds.start_is p st P) (λ v of_v.
    every-then_do P B Q ((sense w l.limit).does s (sense w l.start).elements f) _ (bound_in w l.limit bounds.limit s (sense w l.start).elements g iters f bounds.limit_is p st P) (λ u of_u.
    let same : iterator_values l.test (reduced kind.Int (number_of v)) (reduced kind.Int (number_of u)) l.step ≡ values =
    (λ i. iterator_values l.test (bound_number v (form_value bounds.start iters) of_v.0 of_v.1 i) (bound_number u (form_value bounds.limit iters) of_u.0 of_u.1 i) l.step)
    in
    (same, subst (AllTaken (range_of g.path l)) (sym same) (values_taken g.path l bounds.start bounds.limit iters bounds.start_is bounds.limit_is bounds.steps st.1 of_v.1 of_u.1))))

pub header_taken : {X Y : Type 0} (w : Context) (l : Loop-F X Y) → HasBounds l → (s : Spot) (g : Where) (iters : List ℤ) (f : Frame) → HasIters iters f → StandsAt s.statement g iters
    → (P : Access → Type 0) → Every P (AllTaken (range_of g.path l)) (heading l.test l.step (sense w l.start) (sense w l.limit) s f)
header_taken w l bounds s g iters f p st P =
    every_weaker P P _ (AllTaken (range_of g.path l)) (heading l.test l.step (sense w l.start) (sense w l.limit) s f) (λ a h. h) (λ is q. q.1) (header_is w l bounds s g iters f p st P)

-- ---- turns

-- what holds of all accesses of the turns
turns_every : (P : Access → Type 0) (iters : List ℤ) (R : ℤ → Type 0) (body : Frame → Tree Frame)
    → ((i : ℤ) → R i → (f : Frame) → HasIters (iters ++ i ∷ []) f → Every P Anything (body f))
    → (is : List ℤ) → Each R is → (f : Frame) → HasIters iters f → Every P (HasIters iters) (turns is body f)
turns_every P iters R body h [] each f p = p
turns_every P iters R body h (i ∷ is) each f p =
    every-then_do P Anything (HasIters iters) (body (inside f i)) _ (h i each.0 (inside f i) (ap (λ l. l ++ i ∷ []) p)) (λ g _. turns_every P iters R body h is each.1 (outside f g) p)

-- the law: what holds of all accesses of a body, under each value that the iterator may take, holds of those of the loop
pub looping_every : {X Y : Type 0} (w : Context) (P : Access → Type 0) (l : Loop-F X Y) → HasBounds l → (body : Frame → Tree Frame) (s : Spot) (g : Where) (iters : List ℤ)
    → StandsAt s.statement g iters
    → ((i : ℤ) → MayTake (range_of g.path l) i → IsInt i → (f : Frame) → HasIters (iters ++ i ∷ []) f → Every P Anything (body f))
    → (f : Frame) → HasIters iters f → Every P (HasIters iters) (looping l.test l.step (sense w l.start) (sense w l.limit) body s f)
looping_every w P l bounds body s g iters st h f p =
    subst (Every P (HasIters iters)) (sym (looping_is l.test l.step (sense w l.start) (sense w l.limit) body s f))
    (every-then_do P (AllTaken (range_of g.path l)) (HasIters iters) (heading l.test l.step (sense w l.start) (sense w l.limit) s f) _ (header_taken w l bounds s g iters f p st P)
    (λ is taken. turns_every P iters (λ i. MayTake (range_of g.path l) i × IsInt i) body (λ i of e q. h i of.0 of.1 e q) is taken f p))
