-- Lists of one and of two, for the tests.
use Rattle.std.proofs.Common.{[], ◌∷◌, All}
use Rattle.species_references.specs.declared.nest.Reference.{Reference}
use Rattle.species_merge.specs.Sizes.{IsMergeable, IsSmallBound}
use Rattle.species_merge.specs.declared.bands.BandBound.{BandBound}
use Rattle.species_merge.proofs.MemberLemmas.{all_one, all_two}

pub two_mergeable : (r q : Reference) → IsMergeable r → IsMergeable q → All IsMergeable (r ∷ q ∷ [])
two_mergeable r q p s = all_two IsMergeable r q p s

pub one_bound : (b : BandBound) → IsSmallBound b → All IsSmallBound (b ∷ [])
one_bound b p = all_one IsSmallBound b p
