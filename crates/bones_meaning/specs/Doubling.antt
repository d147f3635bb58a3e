-- A worked example: in `int A[4]; int B[4];` the loop `for (int i = 0; i < 4; i++) { B[i] = 2 * A[i]; }`, and its iteration where
-- i is 1.
use Rattle.std.specs.Prelude.{◌≡◌, codes, List, [], ◌∷◌, None, pos}
use Rattle.species_ast.specs.declared.action.Action.{Action}
use Rattle.species_ast.specs.declared.action.Action.TheVariants as action
use Rattle.species_ast.specs.declared.tree.Binary.TheVariants.{Mul}
use Rattle.species_ast.specs.declared.tree.Expr.{Expr}
use Rattle.species_ast.specs.declared.tree.Expr.TheVariants as expr
use Rattle.species_ast.specs.declared.tree.Kind.TheVariants as kind
use Rattle.species_ast.specs.declared.tree.Loop.{Loop, roll-Loop}
use Rattle.species_ast.specs.declared.tree.Mark.TheVariants.{Plain}
use Rattle.species_ast.specs.declared.tree.Stmt.{Stmt}
use Rattle.species_ast.specs.declared.tree.Stmt.TheOpen.{Loop-F}
use Rattle.species_ast.specs.declared.tree.Stmt.TheVariants as stmt
use Rattle.species_ast.specs.declared.tree.Test.TheVariants.{Lt}
use Rattle.species_ast.specs.declared.tree.Unit.{Unit as Program}
use Rattle.species_ast.specs.declared.tree.Value.{Value}
use Rattle.species_ast.specs.declared.tree.Value.TheVariants.{Int}
use Rattle.species_ast.specs.Evaluation.{Frame}
use Rattle.species_ast.specs.Run.{source_context, sums_take, actions}

abbrev pub element : Expr
element = expr.Elem 0 (expr.Iter 0 ∷ [])

abbrev pub twice : Expr
twice = expr.Binary Mul (expr.Literal (Int (pos 2))) element

abbrev pub body : List Stmt
body = stmt.Assign 20 1 (expr.Iter 0 ∷ []) twice ∷ []

abbrev pub head : Loop-F Stmt Loop
head = record {
  place = 10;
  iter = codes "i";
  start = expr.Literal (Int (pos 0));
  test = Lt;
  limit = expr.Literal (Int (pos 4));
  step = pos 1;
  body = body;
  line = None;
  mark = Plain;
}

abbrev pub loop : Loop
loop = roll-Loop head

abbrev pub unit : Program
unit = record {
  includes = [];
  arrays = record { name = codes "A"; kind = kind.Int; dims = 4 ∷ [] } ∷ record { name = codes "B"; kind = kind.Int; dims = 4 ∷ [] } ∷ [];
  locals = [];
  function = codes "k";
  body = stmt.For loop ∷ [];
}

abbrev pub frame : Frame
frame = record { iters = pos 1 ∷ []; locals = [] }

-- the actions of the iteration whose reads get these answers
abbrev pub doubling : List Value → List Action
doubling answers = actions sums_take (source_context unit) body frame answers

-- A read that is answered by 6, a write and the end; or the read alone.
abbrev pub DoublingActs : Type 0
DoublingActs =
    (doubling (Int (pos 6) ∷ []) ≡ action.Read 0 1 ∷ action.Write 1 1 (Int (pos 12)) ∷ action.Done ∷ [])
    × (doubling [] ≡ action.Read 0 1 ∷ [])
