-- How many references loops have.
use Rattle.std.specs.Prelude.{◌≡◌, ℕ, nat_lt, List, flat_map, length}
use Rattle.species_ast.specs.declared.tree.Expr.{Expr}
use Rattle.species_ast.specs.declared.tree.Loop.{Loop, out-Loop, fold-Loop}
use Rattle.species_ast.specs.Scope.Hulls.{Range}
use Rattle.species_ast.specs.Scope.Limits.{most_references}
use Rattle.species_ast.specs.Scope.Loops.{Nesting}
use Rattle.species_ast.specs.Scope.References.{Where, subscripts, reference_count}
use Rattle.species_ast.specs.Scope.Refusals.{Limit, Refusal, Finding}
use Rattle.species_ast.specs.Scope.WellMade.{Made, made_at, made_loop}
use Rattle.species_names.specs.Kept.{refused_if}

-- the elements in several expressions
abbrev pub elements_in : List Expr → ℕ
elements_in es = (subscripts es).count

abbrev pub head_made : Loop → Made
head_made = fold-Loop Made Made made_at made_loop

-- statements stand in loops with these ranges
pub record Reached (path : List Range) (n : Nesting) (g : Where) : Type 0 where
  pub around : n.path ≡ path
  pub ranges : g.path ≡ path
  pub level : n.level ≡ length path

-- what is refused of an outermost loop
abbrev pub large_at : Loop → List Finding
large_at head = refused_if (nat_lt most_references (reference_count head)) (Refusal.LimitPassed Limit.References) (out-Loop head).place

abbrev pub large_in : List Loop → List Finding
large_in heads = flat_map large_at heads
