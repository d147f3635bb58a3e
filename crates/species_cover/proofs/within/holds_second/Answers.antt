use Rattle.std.proofs.Common.{rules, FitsSigned}
use Rattle.std.specs.Int.{w128}
use Rattle.std.proofs.lemmas.Int.{to_z-of_z}
use Rattle.species_cover.proofs.within.holds_second.Goals as goal

pub returns : goal.returns
returns c = let fits : FitsSigned w128 c.second_of.result = search rules in rw (← c.second_of.ensures) (simp to_z-of_z at c.holds.ensures)
