-- The laws of the moments of a run at which statements begin.
use Rattle.std.specs.Prelude.{◌≡◌, List, ◌++◌}
use Rattle.species_ast.specs.declared.tree.Unit.{Unit as Program}
use Rattle.species_ast.specs.Accesses.{Joins, Cells, Access, Ended, run, accesses}
use Rattle.species_ast.specs.Evaluation.{Frame}
use Rattle.species_ast.specs.Run.{source_context, source_run, source_accesses}
use Rattle.species_nests.specs.Arrivals.{Moment, begun_at, Begins}

-- Where the run of a unit ends, so does that of each statement that begins in it, and the accesses of this one stand in a row
-- among those of the unit.
abbrev pub MomentsArePartsOfTheRun : Type 0
MomentsArePartsOfTheRun = (join : Joins) (u : Program) (m : Cells) (q : Moment) (end : Frame) (last : Cells) → Begins join u m q
    → source_run join u m ≡ Ended end last
    → let does = begun_at (source_context u) q in
    ((after : Frame) × (arrays : Cells) × (run join does q.arrays ≡ Ended after arrays))
    × ((before behind : List Access) × (source_accesses join u m ≡ before ++ accesses join does q.arrays ++ behind))

-- No two moments of a run have the same position and the same iterators.
abbrev pub MomentsAreDistinct : Type 0
MomentsAreDistinct = (join : Joins) (u : Program) (m : Cells) (p q : Moment) → Begins join u m p → Begins join u m q
    → p.at ≡ q.at → p.frame.iters ≡ q.frame.iters → p ≡ q
