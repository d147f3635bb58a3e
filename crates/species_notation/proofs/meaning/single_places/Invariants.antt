use Rattle.std.proofs.Common.{◌≡◌, drop}
use Rattle.species_notation.specs.declared.raw.RawForm.{RawForm}
use Rattle.species_notation.specs.declared.raw.RawSpan.{RawSpan}
use Rattle.species_notation.specs.Meaning.{each_some, offset_of}
use Rattle.species_notation.proofs.GivenForms.{behind_all, no_offsets}
use Rattle.species_notation.proofs.meaning.single_places.Given as goal

-- the others come behind those so far
abbrev pub invariant-loop-number : goal.invariant-loop-number
invariant-loop-number l =
    each_some offset_of (no_offsets RawForm RawSpan l.forms) ≡ behind_all l.spans (each_some offset_of (no_offsets RawForm RawSpan (drop l._number l.forms)))
