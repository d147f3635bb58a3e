use Rattle.std.proofs.Common.{[]}
use Rattle.species_ast.specs.Run.{source_context, first_frame}
use Rattle.species_nests.proofs.ArrivalLaws.{reaches_in_part}
use Rattle.species_nests.proofs.Unique.{unique_in}
use Rattle.species_nests.proofs.law_moments.Goals as goal

pub returns : goal.returns
returns c = record {
  parts = λ join u m q end last begins ended. reaches_in_part join (source_context u) q u.body [] [] 0 (first_frame u) m begins end last ended;
  distinct = λ join u m p q first second. unique_in join (source_context u) p q u.body [] [] 0 (first_frame u) m first second;
}
