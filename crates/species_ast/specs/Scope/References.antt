-- The references to arrays in a loop nest, in order of evaluation.
use Rattle.std.specs.Prelude.{◌≡◌, ℕ, zero, suc, ◌+◌, ◌-◌, Bool, true, false, nat_lt, if◌then◌else◌, List, [], ◌∷◌, ◌++◌, map, length, Option, Some, None}
use Rattle.species_ast.specs.declared.tree.Expr.{Expr, para-Expr}
use Rattle.species_ast.specs.declared.tree.Expr.TheOpen.{Expr-F}
use Rattle.species_ast.specs.declared.tree.Stmt.{Stmt, fold-Stmt}
use Rattle.species_ast.specs.declared.tree.Loop.{Loop, fold-Loop, out-Loop}
use Rattle.species_ast.specs.declared.tree.Stmt.TheOpen.{Stmt-F, Loop-F}
use Rattle.species_ast.specs.declared.tree.Unit.{Unit}
use Rattle.species_ast.specs.Accesses.{Direction, Reads, Writes, Adds}
use Rattle.species_ast.specs.Scope.Forms.{Form, form_of}
use Rattle.species_ast.specs.Scope.Hulls.{Range, has_empty, range_of}
use Rattle.species_ast.specs.Scope.Limits.{most_references}
use Rattle.species_ast.specs.Scope.Loops.{outermost_loops}
use Rattle.species_ast.specs.Scope.Refusals.{places_where}

-- Where something is evaluated: in the statement at this position, as a Site says it, in loops with these ranges, by level;
-- and whether only on a condition, within the nest.
pub record Where : Type 0 where
  pub statement : List ℕ
  pub path : List Range
  pub conditional : Bool

-- A reference. Its statement and the number of the element in it are those of the sites of its accesses. In an expression
-- elements are evaluated in the order of their numbers. The target of an assignment or addition has a lower number than the
-- elements of the value, since its indices are tested before, and is written after these are read.
pub record Reference : Type 0 where
  pub statement : List ℕ
  pub number : ℕ
  pub direction : Direction
  pub array : ℕ
  -- the form of each subscript that is affine
  pub subs : List (Option Form)
  pub conditional : Bool
  -- the ranges of all loops around it
  pub path : List Range

abbrev pub reference : Where → ℕ → Direction → ℕ → List (Option Form) → Reference
reference g number d a subs =
    record { statement = g.statement; number = number; direction = d; array = a; subs = subs; conditional = g.conditional; path = g.path }

-- evaluated on a condition
abbrev pub perhaps : Where → Where
perhaps g = record g { conditional = true }

-- ---- expressions

-- The elements in an expression: how many, and the references to them, where the first has this number.
pub record Elements : Type 0 where
  pub count : ℕ
  pub references : Where → ℕ → List Reference

abbrev pub no_elements : Elements
no_elements = record { count = 0; references = λ g n. [] }

-- of two parts the first and then the second
abbrev pub then_elements : Elements → Elements → Elements
then_elements a b = record { count = a.count + b.count; references = λ g n. a.references g n ++ b.references g (n + a.count) }

abbrev pub on_condition : Elements → Elements
on_condition a = record a { references = λ g n. a.references (perhaps g) n }

abbrev pub all_elements : List Elements → Elements
all_elements [] = no_elements
all_elements (e ∷ es) = then_elements e (all_elements es)

-- an element after those in its subscripts
abbrev pub element_with : ℕ → List (Option Form) → Elements → Elements
element_with a forms subs = record {
  count = suc subs.count;
  references = λ g n. subs.references g n ++ reference g (n + subs.count) Reads a forms ∷ [];
}

abbrev pub elements_at : Expr-F (Expr × Elements) → Elements
elements_at (Expr-F.Literal v) = no_elements
elements_at (Expr-F.Iter level) = no_elements
elements_at (Expr-F.Local x) = no_elements
elements_at (Expr-F.Elem a subs) = element_with a (map (λ s. form_of s.0) subs) (all_elements (map (λ s. s.1) subs))
elements_at (Expr-F.Unary op a) = a.1
elements_at (Expr-F.Binary op a b) = then_elements a.1 b.1
elements_at (Expr-F.And a b) = then_elements a.1 (on_condition b.1)
elements_at (Expr-F.Or a b) = then_elements a.1 (on_condition b.1)
elements_at (Expr-F.Cond c a b) = then_elements c.1 (then_elements (on_condition a.1) (on_condition b.1))
elements_at (Expr-F.Cast k a) = a.1

abbrev pub elements_of : Expr → Elements
elements_of = para-Expr Elements elements_at

-- ---- statements

-- which `+=` are adds: by the array and by the atomic mark
abbrev pub Adding : Type 0
Adding = ℕ → Bool → Bool

-- each is a read and a write
abbrev pub no_adds : Adding
no_adds a atomic = false

-- the subscripts of a target
abbrev pub subscripts : List Expr → Elements
subscripts subs = all_elements (map elements_of subs)

-- a target: its number is that of the elements in its subscripts
abbrev pub target_reference : List Expr → Direction → ℕ → Where → Reference
target_reference subs d a g = reference g (subscripts subs).count d a (map form_of subs)

-- the value that a target is set to, or that is added to it
abbrev pub value_references : List Expr → Expr → Where → List Reference
value_references subs value g = (elements_of value).references g (suc (subscripts subs).count)

-- `+=`, of which the subscripts are evaluated: an add or not
abbrev pub addition_references : Bool → ℕ → List Expr → Expr → Where → List Reference
addition_references true a subs value g = value_references subs value g ++ target_reference subs Adds a g ∷ []
addition_references false a subs value g =
    target_reference subs Reads a g ∷ (value_references subs value g ++ target_reference subs Writes a g ∷ [])

abbrev pub init_references : Option Expr → Where → List Reference
init_references (Some e) g = (elements_of e).references g 0
init_references None g = []

-- a statement where it stands, of which this many loops still belong to the band
abbrev pub Referring : Type 0
Referring = Where → ℕ → List Reference

abbrev pub placed : Where → ℕ → Where
placed g k = record g { statement = g.statement ++ k ∷ [] }

-- the statements of a list, of which the first has number k inside the statement around it
abbrev pub list_references : List Referring → Where → ℕ → ℕ → List Reference
list_references [] g k band = []
list_references (s ∷ ss) g k band = s (placed g k) band ++ list_references ss g (suc k) band

abbrev pub references_at : Adding → Stmt-F Referring Referring → Referring
references_at adds (Stmt-F.Assign place a subs value) g band =
    (subscripts subs).references g 0 ++ (value_references subs value g ++ target_reference subs Writes a g ∷ [])
references_at adds (Stmt-F.AddTo place a subs value atomic) g band =
    (subscripts subs).references g 0 ++ addition_references (adds a atomic) a subs value g
references_at adds (Stmt-F.Declare place x init) g band = init_references init g
references_at adds (Stmt-F.SetLocal place x value) g band = (elements_of value).references g 0
references_at adds (Stmt-F.If place test body otherwise) g band =
    (elements_of test).references g 0
    ++ (list_references body (perhaps g) 0 band ++ list_references otherwise (perhaps g) (length body) band)
references_at adds (Stmt-F.For l) g band = l g band
references_at adds (Stmt-F.Block body) g band = list_references body g 0 band

-- what stands in a loop below the band is left out where the loop's hull is empty
abbrev pub unless_empty : ℕ → List Range → List Reference → List Reference
unless_empty zero path found = if has_empty path then [] else found
unless_empty (suc band) path found = found

abbrev pub in_turn : {X Y : Type 0} → Where → Loop-F X Y → Where
in_turn g l = record g { path = g.path ++ range_of g.path l ∷ [] }

abbrev pub references_inside : Adding → Loop-F Referring Referring → Referring
references_inside adds l g band = unless_empty band (in_turn g l).path (list_references l.body (in_turn g l) 0 (band - 1))

abbrev pub stmt_references : Adding → Stmt → Referring
stmt_references adds = fold-Stmt Referring Referring (references_at adds) (references_inside adds)

abbrev pub loop_references : Adding → Loop → Referring
loop_references adds = fold-Loop Referring Referring (references_at adds) (references_inside adds)

-- The references of the nest of a loop that stands at this position in loops with these ranges, whose band is this many loops.
abbrev pub references_of : Adding → Loop → List ℕ → List Range → ℕ → List Reference
references_of adds head at path depth = loop_references adds head (record { statement = at; path = path; conditional = false }) depth

-- ---- how many an outermost loop has

-- the plain references of an outermost loop
abbrev pub reference_count : Loop → ℕ
reference_count head = length (references_of no_adds head [] [] 1)

-- LimitPassed(References): the outermost loops of a unit that have more than so many
abbrev pub larger_than : ℕ → Unit → List ℕ
larger_than most u = places_where (λ head. nat_lt most (reference_count head)) (λ head. (out-Loop head).place) (outermost_loops u)

-- A unit has the size of one that is read. A pass may make larger ones.
abbrev pub HasReadSize : Unit → Type 0
HasReadSize u = larger_than most_references u ≡ []
