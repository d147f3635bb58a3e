use Rattle.std.proofs.Common.{◌≡◌, drop}
use Rattle.species_notation.specs.Meaning.{each_some, given_arc}
use Rattle.species_notation.proofs.GivenForms.{behind_all}
use Rattle.species_notation.proofs.meaning.put_side.Given as goal

-- the others come behind those so far
abbrev pub invariant-loop-arc : goal.invariant-loop-arc
invariant-loop-arc l =
    behind_all l.initial.given (each_some (given_arc l.names l.right) l.arcs) ≡ behind_all l.given (each_some (given_arc l.names l.right) (drop l.arc-index l.arcs))
