-- What expressions do: each is a tree of accesses, put together from the trees of its parts in the order of evaluation (C17 6.5).
use Rattle.std.specs.Prelude.{ℕ, suc, ◌+◌, ◌*◌, List, [], ◌∷◌, Bool, true, false, nat_lt, if◌then◌else◌, ℤ, pos, negsuc, Option, Some, None, option_map, option_and_then, unwrap_or, slice_get, slice_set, Ok, Err}
use Rattle.species_ast.specs.declared.tree.Kind.{Kind}
use Rattle.species_ast.specs.declared.tree.Kind.TheVariants as kind
use Rattle.species_ast.specs.declared.tree.Value.{Value}
use Rattle.species_ast.specs.declared.tree.Value.TheVariants.{Int}
use Rattle.species_ast.specs.declared.tree.Expr.{Expr, fold-Expr}
use Rattle.species_ast.specs.declared.tree.Expr.TheOpen.{Expr-F}
use Rattle.species_ast.specs.declared.tree.Array.{Array}
use Rattle.species_ast.specs.declared.tree.LocalInfo.{LocalInfo}
use Rattle.species_ast.specs.declared.trap.Undefined.{Undefined}
use Rattle.species_ast.specs.declared.trap.Undefined.TheVariants as undefined
use Rattle.species_ast.specs.declared.trap.Trap.{Trap}
use Rattle.species_ast.specs.declared.trap.Trap.TheVariants as trap
use Rattle.species_ast.specs.Operators.{Answer, kind_of, number_of, joint, converted, truth, is_true, unary_of, unary_kind, binary_of, binary_kind}
use Rattle.species_ast.specs.Accesses.{Element, Site, Trapped, Tree, Ret, Stop, Read, then_do}

-- ---- what a place in the program knows

-- the iterators in force, by level, and the locals by number, with None for one that has no value
pub record Frame : Type 0 where
  pub iters : List ℤ
  pub locals : List (Option Value)

-- the declarations; and which locals may be set, and to which arrays may be added atomically, by number and kind
pub record Context : Type 0 where
  pub arrays : List Array
  pub locals : List LocalInfo
  pub may_set : ℕ → Bool
  pub may_add : ℕ → Kind → Bool

-- a statement: where it stands, as a Site says it, and its place
pub record Spot : Type 0 where
  pub statement : List ℕ
  pub place : ℕ

abbrev pub array_kind : Context → ℕ → Kind
array_kind w a = unwrap_or (option_map (λ x. x.kind) (slice_get w.arrays a)) kind.Int

-- the sizes of an array, the first dimension first; what is no array has no element
abbrev pub sizes_of : Context → ℕ → List ℕ
sizes_of w a = unwrap_or (option_map (λ x. x.dims) (slice_get w.arrays a)) (0 ∷ [])

abbrev pub local_kind : Context → ℕ → Kind
local_kind w x = unwrap_or (option_map (λ l. l.kind) (slice_get w.locals x)) kind.Int

abbrev pub iterator : Frame → ℕ → ℤ
iterator f level = unwrap_or (slice_get f.iters level) (pos 0)

abbrev pub local_of : Frame → ℕ → Option Value
local_of f x = unwrap_or (slice_get f.locals x) None

abbrev pub with_local : Frame → ℕ → Option Value → Frame
with_local f x v = record f { locals = slice_set f.locals x v }

abbrev pub site_at : Spot → ℕ → Frame → List ℕ → Site
site_at s number f indices =
    record { statement = s.statement; place = s.place; number = number; iters = f.iters; indices = indices }

-- ---- what has no value

abbrev pub trap_of : Undefined → Trap
trap_of undefined.Overflow = trap.Overflow
trap_of undefined.DivZero = trap.DivZero
trap_of undefined.BadShift = trap.BadShift

abbrev pub answered : Site → Answer → Tree Value
answered s (Ok v) = Ret v
answered s (Err why) = Stop s (Trapped (trap_of why))

-- a local that is read
abbrev pub known : Site → Option Value → Tree Value
known s (Some v) = Ret v
known s None = Stop s (Trapped trap.Unset)

-- indices that were tested
abbrev pub tested : Site → Option (List ℕ) → Tree (List ℕ)
tested s (Some indices) = Ret indices
tested s None = Stop s (Trapped trap.Index)

-- ---- elements

-- a subscript as an index: its number is from 0 to the size minus 1
abbrev pub index_in : ℕ → ℤ → Option ℕ
index_in size (pos n) = if nat_lt n size then Some n else None
index_in size (negsuc n) = None

-- the indices that the subscripts give, the first dimension tested first
abbrev pub indices_in : List ℕ → List Value → Option (List ℕ)
indices_in [] [] = Some []
indices_in [] (v ∷ values) = None
indices_in (size ∷ sizes) [] = None
indices_in (size ∷ sizes) (v ∷ values) =
    option_and_then (λ i. option_map (λ rest. i ∷ rest) (indices_in sizes values)) (index_in size (number_of v))

abbrev pub product : List ℕ → ℕ
product [] = 1
product (size ∷ sizes) = size * product sizes

-- the place of an element in row order (C17 6.5.2.1)
abbrev pub row_order : List ℕ → List ℕ → ℕ
row_order [] indices = 0
row_order (size ∷ sizes) [] = 0
row_order (size ∷ sizes) (i ∷ indices) = i * product sizes + row_order sizes indices

abbrev pub element_at : Context → ℕ → List ℕ → Element
element_at w a indices = record { array = a; at = row_order (sizes_of w a) indices }

-- ---- expressions

-- An expression: its kind, how many elements are written in it, and what it does, where its first element has this number.
pub record Sense : Type 0 where
  pub kind : Kind
  pub elements : ℕ
  pub does : Spot → ℕ → Frame → Tree Value

abbrev pub elements_in : List Sense → ℕ
elements_in [] = 0
elements_in (e ∷ es) = e.elements + elements_in es

-- from left to right
abbrev pub values_of : List Sense → Spot → ℕ → Frame → Tree (List Value)
values_of [] s n f = Ret []
values_of (e ∷ es) s n f = then_do (e.does s n f) (λ v. then_do (values_of es s (n + e.elements) f) (λ vs. Ret (v ∷ vs)))

-- the indices of an element: all subscripts, then the test; the element's own number comes after those in its subscripts
abbrev pub target_of : Context → ℕ → List Sense → Spot → ℕ → Frame → Tree (List ℕ)
target_of w a subs s n f =
    then_do (values_of subs s n f) (λ vs. tested (site_at s (n + elements_in subs) f []) (indices_in (sizes_of w a) vs))

abbrev pub sense_at : Context → Expr-F Sense → Sense
sense_at w (Expr-F.Literal v) = record { kind = kind_of v; elements = 0; does = λ s n f. Ret v }
sense_at w (Expr-F.Iter level) = record { kind = kind.Int; elements = 0; does = λ s n f. Ret (Int (iterator f level)) }
sense_at w (Expr-F.Local x) =
    record { kind = local_kind w x; elements = 0; does = λ s n f. known (site_at s n f []) (local_of f x) }
sense_at w (Expr-F.Elem a subs) = record {
  kind = array_kind w a;
  elements = suc (elements_in subs);
  does = λ s n f. then_do (target_of w a subs s n f) (λ is. Read (site_at s (n + elements_in subs) f is) (element_at w a is) (λ v. Ret v));
}
sense_at w (Expr-F.Unary op a) = record {
  kind = unary_kind op a.kind;
  elements = a.elements;
  does = λ s n f. then_do (a.does s n f) (λ x. answered (site_at s n f []) (unary_of op x));
}
sense_at w (Expr-F.Binary op a b) = record {
  kind = binary_kind op a.kind b.kind;
  elements = a.elements + b.elements;
  does = λ s n f. then_do (a.does s n f) (λ x. then_do (b.does s (n + a.elements) f) (λ y. answered (site_at s n f []) (binary_of op x y)));
}
sense_at w (Expr-F.And a b) = record {
  kind = kind.Int;
  elements = a.elements + b.elements;
  does = λ s n f. then_do (a.does s n f) (λ x. if is_true x then then_do (b.does s (n + a.elements) f) (λ y. Ret (truth (is_true y))) else Ret (truth false));
}
sense_at w (Expr-F.Or a b) = record {
  kind = kind.Int;
  elements = a.elements + b.elements;
  does = λ s n f. then_do (a.does s n f) (λ x. if is_true x then Ret (truth true) else then_do (b.does s (n + a.elements) f) (λ y. Ret (truth (is_true y))));
}
sense_at w (Expr-F.Cond c a b) = record {
  kind = joint a.kind b.kind;
  elements = c.elements + a.elements + b.elements;
  does = λ s n f. then_do (c.does s n f) (λ x. then_do (if is_true x then a.does s (n + c.elements) f else b.does s (n + c.elements + a.elements) f) (λ v. Ret (converted (joint a.kind b.kind) v)));
}
sense_at w (Expr-F.Cast k a) =
    record { kind = k; elements = a.elements; does = λ s n f. then_do (a.does s n f) (λ v. Ret (converted k v)) }

abbrev pub sense : Context → Expr → Sense
sense w = fold-Expr Sense (sense_at w)
