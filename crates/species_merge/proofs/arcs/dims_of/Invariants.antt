use Rattle.species_merge.specs.Classes.{members}
use Rattle.species_merge.proofs.ArcLemmas.{AreDimsSoFar}
use Rattle.species_merge.proofs.arcs.dims_of.Given as goal

abbrev pub invariant-loop-number : goal.invariant-loop-number
invariant-loop-number l = AreDimsSoFar l.outer l.bands (members l.class) l.subs l.number l.dims l.hulls.items
