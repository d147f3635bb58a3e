-- What walks through expressions and statements do, without the sites of their accesses.
use Rattle.std.specs.Prelude.{ℕ, List, [], ◌∷◌, map, flat_map, Bool, true, false, if◌then◌else◌, ◌&&◌, ℤ, pos, int_lt, int_le, Option, Some, None, Ok, Err}
use Rattle.species_ast.specs.declared.action.Action.TheVariants as action
use Rattle.species_ast.specs.declared.tree.Kind.{Kind}
use Rattle.species_ast.specs.declared.tree.Kind.TheVariants as kind
use Rattle.species_ast.specs.declared.tree.Value.{Value}
use Rattle.species_ast.specs.declared.tree.Value.TheVariants.{Int}
use Rattle.species_ast.specs.declared.tree.Binary.TheVariants as binary
use Rattle.species_ast.specs.declared.tree.Test.{Test}
use Rattle.species_ast.specs.declared.tree.Test.TheVariants.{Lt, Le, Gt, Ge}
use Rattle.species_ast.specs.declared.tree.Expr.{Expr, fold-Expr}
use Rattle.species_ast.specs.declared.tree.Expr.TheOpen.{Expr-F}
use Rattle.species_ast.specs.declared.tree.Stmt.{Stmt, fold-Stmt}
use Rattle.species_ast.specs.declared.tree.Loop.{Loop, fold-Loop, out-Loop}
use Rattle.species_ast.specs.declared.tree.Stmt.TheOpen.{Stmt-F, Loop-F}
use Rattle.species_ast.specs.declared.tree.Unit.{Unit as Program}
use Rattle.species_ast.specs.Operators.{Answer, kind_of, number_of, reduced, joint, converted, truth, is_true, unary_of, unary_kind, binary_of, binary_kind}
use Rattle.species_ast.specs.Evaluation.{Frame, Context, array_kind, sizes_of, local_kind, iterator, local_of, with_local, indices_in}
use Rattle.species_ast.specs.Run.{cleared, inside, outside, iterator_values, source_context, iteration_in, sums_take}
use Rattle.bones_meaning.specs.Tapes.{Tape, passed, Walked, and_then, fault, change, ask}
use Rattle.bones_meaning.specs.Places.{placed_in}

-- the statements of an iteration of a nest of a unit
abbrev pub context : Program → List Stmt → Context
context u body = iteration_in sums_take (source_context u) body

-- ---- expressions

-- an expression: its kind, and what a walk through it does
pub record Reads : Type 0 where
  pub kind : Kind
  pub gives : Frame → Tape → Walked Value

abbrev pub answer_in : Answer → Tape → Walked Value
answer_in (Ok v) t = Ok (passed v t)
answer_in (Err why) t = fault t

abbrev pub known_in : Option Value → Tape → Walked Value
known_in (Some v) t = Ok (passed v t)
known_in None t = fault t

abbrev pub all_given : List Reads → Frame → Tape → Walked (List Value)
all_given [] f t = Ok (passed [] t)
all_given (e ∷ es) f t = and_then (e.gives f t) (λ v u. and_then (all_given es f u) (λ vs s. Ok (passed (v ∷ vs) s)))

-- the place in row order of the element that these subscripts name
abbrev pub target : Context → ℕ → List Reads → Frame → Tape → Walked ℕ
target w a subs f t = and_then (all_given subs f t) (λ vs u. placed_in (sizes_of w a) (indices_in (sizes_of w a) vs) u)

abbrev pub reads_at : Context → Expr-F Reads → Reads
reads_at w (Expr-F.Literal v) = record { kind = kind_of v; gives = λ f t. Ok (passed v t) }
reads_at w (Expr-F.Iter level) = record { kind = kind.Int; gives = λ f t. Ok (passed (Int (iterator f level)) t) }
reads_at w (Expr-F.Local x) = record { kind = local_kind w x; gives = λ f t. known_in (local_of f x) t }
reads_at w (Expr-F.Elem a subs) = record { kind = array_kind w a; gives = λ f t. and_then (target w a subs f t) (λ at u. ask (action.Read a at) u) }
reads_at w (Expr-F.Unary op a) = record { kind = unary_kind op a.kind; gives = λ f t. and_then (a.gives f t) (λ x u. answer_in (unary_of op x) u) }
reads_at w (Expr-F.Binary op a b) = record {
  kind = binary_kind op a.kind b.kind;
  gives = λ f t. and_then (a.gives f t) (λ x u. and_then (b.gives f u) (λ y s. answer_in (binary_of op x y) s));
}
reads_at w (Expr-F.And a b) = record {
  kind = kind.Int;
  gives = λ f t. and_then (a.gives f t) (λ x u. if is_true x then and_then (b.gives f u) (λ y s. Ok (passed (truth (is_true y)) s)) else Ok (passed (truth false) u));
}
reads_at w (Expr-F.Or a b) = record {
  kind = kind.Int;
  gives = λ f t. and_then (a.gives f t) (λ x u. if is_true x then Ok (passed (truth true) u) else and_then (b.gives f u) (λ y s. Ok (passed (truth (is_true y)) s)));
}
reads_at w (Expr-F.Cond c a b) = record {
  kind = joint a.kind b.kind;
  gives = λ f t. and_then (c.gives f t) (λ x u. and_then (if is_true x then a.gives f u else b.gives f u) (λ v s. Ok (passed (converted (joint a.kind b.kind) v) s)));
}
reads_at w (Expr-F.Cast k a) = record { kind = k; gives = λ f t. and_then (a.gives f t) (λ v u. Ok (passed (converted k v) u)) }

abbrev pub reads : Context → Expr → Reads
reads w = fold-Expr Reads (reads_at w)

abbrev pub value : Context → Expr → Frame → Tape → Walked Value
value w e = (reads w e).gives

abbrev pub values : Context → List Expr → Frame → Tape → Walked (List Value)
values w es = all_given (map (reads w) es)

abbrev pub target_of : Context → ℕ → List Expr → Frame → Tape → Walked ℕ
target_of w a subs = target w a (map (reads w) subs)

-- ---- statements

abbrev pub Effect : Type 0
Effect = Frame → Tape → Walked Frame

pub record Act : Type 0 where
  pub declares : List ℕ
  pub does : Effect

abbrev pub all_done : List Act → Effect
all_done [] f t = Ok (passed f t)
all_done (x ∷ xs) f t = and_then (x.does f t) (all_done xs)

abbrev pub declared : List Act → List ℕ
declared xs = flat_map (λ x. x.declares) xs

abbrev pub scope_done : List Act → Effect
scope_done xs f t = and_then (all_done xs f t) (λ g u. Ok (passed (cleared (declared xs) g) u))

abbrev pub turns_done : List ℤ → Effect → Effect
turns_done [] body f t = Ok (passed f t)
turns_done (i ∷ is) body f t = and_then (body (inside f i) t) (λ g u. turns_done is body (outside f g) u)

abbrev pub assigned : Context → ℕ → List Reads → Reads → Effect
assigned w a subs v f t =
    and_then (target w a subs f t) (λ at u.
    and_then (v.gives f u) (λ x s. change (action.Write a at (converted (array_kind w a) x)) f s))

abbrev pub summed : Context → ℕ → Bool → ℕ → Reads → Effect
summed w a false at v f t =
    and_then (ask (action.Read a at) t) (λ old u.
    and_then (v.gives f u) (λ x s.
    and_then (answer_in (binary_of binary.Add old x) s) (λ sum r. change (action.Write a at (converted (array_kind w a) sum)) f r)))
summed w a true at v f t =
    and_then (v.gives f t) (λ x u. if w.may_add a (array_kind w a) then change (action.Add a at (converted (array_kind w a) x)) f u else fault u)

abbrev pub added_to : Context → ℕ → Bool → List Reads → Reads → Effect
added_to w a atomic subs v f t = and_then (target w a subs f t) (λ at u. summed w a atomic at v f u)

abbrev pub initialised : Context → ℕ → Option Expr → Effect
initialised w x None f t = Ok (passed (with_local f x None) t)
initialised w x (Some e) f t =
    and_then (value w e (with_local f x None) t) (λ v u. Ok (passed (with_local f x (Some (converted (local_kind w x) v))) u))

abbrev pub local_set : Context → ℕ → Reads → Effect
local_set w x v f t =
    and_then (v.gives f t) (λ y u. if w.may_set x then Ok (passed (with_local f x (Some (converted (local_kind w x) y))) u) else fault u)

abbrev pub chosen : Reads → Effect → Effect → Effect
chosen test body otherwise f t = and_then (test.gives f t) (λ v u. if is_true v then body f u else otherwise f u)

abbrev pub looped : Test → ℤ → Reads → Reads → Effect → Effect
looped test step start limit body f t =
    and_then (start.gives f t) (λ a u. and_then (limit.gives f u) (λ b s.
    turns_done (iterator_values test (reduced kind.Int (number_of a)) (reduced kind.Int (number_of b)) step) body f s))

abbrev pub bare : Effect → Act
bare does = record { declares = []; does = does }

abbrev pub act_at : Context → Stmt-F Act Effect → Act
act_at w (Stmt-F.Assign place a subs v) = bare (assigned w a (map (reads w) subs) (reads w v))
act_at w (Stmt-F.AddTo place a subs v atomic) = bare (added_to w a atomic (map (reads w) subs) (reads w v))
act_at w (Stmt-F.Declare place x init) = record { declares = x ∷ []; does = initialised w x init }
act_at w (Stmt-F.SetLocal place x v) = bare (local_set w x (reads w v))
act_at w (Stmt-F.If place test body otherwise) = bare (chosen (reads w test) (scope_done body) (scope_done otherwise))
act_at w (Stmt-F.For l) = bare l
act_at w (Stmt-F.Block body) = bare (scope_done body)

abbrev pub effect_at : Context → Loop-F Act Effect → Effect
effect_at w l = looped l.test l.step (reads w l.start) (reads w l.limit) (scope_done l.body)

abbrev pub act : Context → Stmt → Act
act w = fold-Stmt Act Effect (act_at w) (effect_at w)

abbrev pub effect : Context → Stmt → Effect
effect w s = (act w s).does

abbrev pub loop_effect : Context → Loop → Effect
loop_effect w = fold-Loop Act Effect (act_at w) (effect_at w)

abbrev pub effects : Context → List Stmt → Effect
effects w ss = all_done (map (act w) ss)

abbrev pub scope_effect : Context → List Stmt → Effect
scope_effect w ss = scope_done (map (act w) ss)

abbrev pub locals_declared : Context → List Stmt → List ℕ
locals_declared w ss = declared (map (act w) ss)

-- ---- a loop as code goes: while there is a turn, the turn and a step

abbrev pub has_turn : Test → ℤ → ℤ → ℤ → Bool
has_turn Lt at limit step = int_lt (pos 0) step && int_lt at limit
has_turn Le at limit step = int_lt (pos 0) step && int_le at limit
has_turn Gt at limit step = int_lt step (pos 0) && int_lt limit at
has_turn Ge at limit step = int_lt step (pos 0) && int_le limit at

-- ---- by the parts of a statement in code

abbrev pub assigning : Context → ℕ → List Expr → Expr → Effect
assigning w a subs v = assigned w a (map (reads w) subs) (reads w v)

abbrev pub adding : Context → ℕ → Bool → List Expr → Expr → Effect
adding w a atomic subs v = added_to w a atomic (map (reads w) subs) (reads w v)

abbrev pub turn_effect : Context → Loop → ℤ → Effect
turn_effect w l at f t = and_then (scope_effect w (out-Loop l).body (inside f at) t) (λ g u. Ok (passed (outside f g) u))

abbrev pub turns_effect : Context → Loop → ℤ → ℤ → Effect
turns_effect w l start limit = turns_done (iterator_values (out-Loop l).test start limit (out-Loop l).step) (scope_effect w (out-Loop l).body)
