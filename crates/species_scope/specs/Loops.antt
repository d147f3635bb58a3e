-- The header of a loop, and a loop.
use Rattle.std.specs.Prelude.{ℕ, Bool, List, ◌∷◌, ◌++◌, map, ℤ, pos, Option, option_map, unwrap_or}
use Rattle.species_ast.specs.declared.tree.Expr.{Expr}
use Rattle.species_ast.specs.declared.tree.Stmt.{Stmt}
use Rattle.species_ast.specs.declared.tree.Loop.{Loop, roll-Loop}
use Rattle.species_ast.specs.declared.raw.RawWhat.{RawWhat}
use Rattle.species_ast.specs.declared.raw.RawStmt.{RawStmt}
use Rattle.species_ast.specs.declared.raw.RawLoop.{RawLoop, fold-RawLoop}
use Rattle.species_ast.specs.declared.raw.RawWhat.TheOpen.{RawLoop-F}
use Rattle.species_ast.specs.Grammar.Expressions.{place_of}
use Rattle.species_ast.specs.Scope.Meanings.{Scope, in_loop, InHeader, Occurrence, occurrence}
use Rattle.species_ast.specs.Scope.Expressions.{reading}
use Rattle.species_ast.specs.Scope.Statements.{LoopSite, Walk, PlacedWalk, step_reading, iterator_role, line_of, mark_of, what_at, loop_at, stmt_at}

abbrev pub Layer : Type 0
Layer = RawLoop-F RawWhat RawLoop RawStmt

abbrev pub loop_walk : RawLoop → PlacedWalk
loop_walk = fold-RawLoop PlacedWalk PlacedWalk Walk what_at loop_at stmt_at

-- where limit, step and body stand
abbrev pub inner_of : Layer → Scope → Scope
inner_of l s = in_loop l.iter s

-- the names in a header
abbrev pub header_names : Layer → Scope → List Occurrence
header_names l s =
    occurrence (iterator_role l.typed) s l.iter ∷ ((reading l.start s).names ++ ((reading l.limit (inner_of l s)).names
    ++ (map (occurrence InHeader (inner_of l s)) (l.tested ∷ (step_reading l.step (inner_of l s)).variables) ++ (step_reading l.step (inner_of l s)).names)))

-- a loop of these parts
abbrev pub made_of : Layer → ℕ → Expr → Expr → Option ℤ → List Stmt → Loop
made_of l p start limit number body = roll-Loop (record {
  place = p;
  iter = l.iter.text;
  start = start;
  test = l.test;
  limit = limit;
  step = unwrap_or number (pos 0);
  body = body;
  line = option_map line_of l.line;
  mark = mark_of l.parallel;
})

-- a loop where it is written
abbrev pub site_of : Layer → ℕ → ℕ → Loop → Bool → Option ℤ → LoopSite
site_of l p level made one_variable number = record {
  loop = made;
  level = level;
  place = p;
  start = place_of l.start;
  limit = place_of l.limit;
  one_variable = one_variable;
  step = number;
}
