use Rattle.std.proofs.Common.{◌≡◌, drop}
use Rattle.species_notation.specs.Meaning.{each_some, sums_of}
use Rattle.species_notation.proofs.GivenForms.{behind_all}
use Rattle.species_notation.proofs.meaning.sums_of_each.Given as goal

-- the others come behind those so far
abbrev pub invariant-loop-form : goal.invariant-loop-form
invariant-loop-form l = each_some sums_of l.forms ≡ behind_all l.sums (each_some sums_of (drop l.form-index l.forms))
