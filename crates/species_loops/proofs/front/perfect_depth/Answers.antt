use Rattle.std.proofs.Common.{◌∙◌, sym, rules}
use Rattle.species_ast.specs.Scope.Nests.{front_of}
use Rattle.species_loops.proofs.FrontLaws.{as_many}
use Rattle.species_loops.proofs.front.perfect_depth.Goals as goal

pub returns : goal.returns
returns c = as_many c.args.level c.loop-depth.depth (front_of c.args.head.now) c.loop-depth.invariant (sym c.has_longer.ensures ∙ c.loop-depth-test.false) (search rules)
