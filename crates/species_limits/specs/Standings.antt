-- Where the walk stands, as the definitions have it.
use Rattle.std.specs.Prelude.{◌≡◌, false, List, length}
use Rattle.species_ast.specs.Scope.Hulls.{Range}
use Rattle.species_ast.specs.Scope.Loops.{Standing}
use Rattle.species_limits.specs.declared.walk.At.{At}

-- The ranges around matter only where no loop around passes Loops, Hull or Bound.
pub record StandsAt (at : At) (ranges : List Range) (s : Standing) : Type 0 where
  pub level : s.around.level ≡ at.level
  pub in_nest : s.around.in_nest ≡ at.in_nest
  pub passed : s.passed ≡ at.passed
  pub path : at.passed ≡ false → s.around.path ≡ ranges
  pub depth : at.passed ≡ false → length ranges ≡ at.level
