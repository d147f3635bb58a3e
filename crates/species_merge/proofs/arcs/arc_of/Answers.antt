use Rattle.species_merge.proofs.arcs.arc_of.Goals as goal

pub dims_of-requires-clause-boxes : goal.dims_of-requires-clause-boxes
dims_of-requires-clause-boxes c = λ k d l. (c.requires.refs k d l).boxes

pub is_exact-requires-clause-refs : goal.is_exact-requires-clause-refs
is_exact-requires-clause-refs c = λ k d l. (c.requires.refs k d l).boxes
