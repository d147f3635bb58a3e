use Rattle.species_affine.proofs.Terms.{AreTermsOf}
use Rattle.species_affine.proofs.subscript.sparse.Given as goal

abbrev pub invariant-loop-level : goal.invariant-loop-level
invariant-loop-level l = AreTermsOf l.c-items l.level l.terms
