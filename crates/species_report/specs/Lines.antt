-- The lines of references.
use Rattle.std.specs.Prelude.{◌≡◌, ℕ, List}
use Rattle.species_arcs.specs.Pairwise.{Pairwise}
use Rattle.species_merge.specs.declared.bands.BandBound.{BandBound}
use Rattle.species_notation.specs.declared.given.Names.{Names}
use Rattle.species_references.specs.declared.nest.Reference.{Reference}
use Rattle.species_report.specs.Table.{joined, IsLineOf}

-- The text has a line for each of the references, and nothing more.
pub record HaveLines (names : Names) (bound : BandBound) (refs : List Reference) (text : List ℕ) : Type 0 where
  pub lines : List (List ℕ)
  pub each : Pairwise (IsLineOf names bound) refs lines
  pub is : text ≡ joined lines
