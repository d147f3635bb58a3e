-- What the loop of `parts_of` keeps, and what falls in each turn.
use Rattle.std.proofs.Common.{◌≡◌, ◌-◌, ◌≤◌, length, drop}
use Rattle.species_notation.specs.Parts.{parts_of}
use Rattle.species_notation.proofs.Fronts.{behind_parts}
use Rattle.species_notation.proofs.scan.parts_of.Given as goal

abbrev pub invariant-loop-at : goal.invariant-loop-at
invariant-loop-at l = (l.at ≤ length l.text) × (parts_of l.text ≡ behind_parts l.parts (parts_of (drop l.at l.text)))

abbrev pub decreases-loop-at : goal.decreases-loop-at
decreases-loop-at l = length l.text - l.at
