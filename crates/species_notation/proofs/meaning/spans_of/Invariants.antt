use Rattle.std.proofs.Common.{◌≡◌, drop}
use Rattle.species_notation.specs.Meaning.{each_some, offset_of}
use Rattle.species_notation.proofs.GivenForms.{behind_all}
use Rattle.species_notation.proofs.meaning.spans_of.Given as goal

-- the others come behind those so far
abbrev pub invariant-loop-offset : goal.invariant-loop-offset
invariant-loop-offset l = each_some offset_of l.offsets ≡ behind_all l.spans (each_some offset_of (drop l.offset-index l.offsets))
