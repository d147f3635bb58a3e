use Rattle.std.specs.Prelude.{[]}
use Rattle.species_ast.specs.Run.{iteration}
use Rattle.species_ast.proofs.AccessLaws.{acts_grow, acts_of_run}
use Rattle.bones_meaning.proofs.ActionsExample.{doubling_acts}
use Rattle.bones_meaning.proofs.laws.law_actions.Goals as goal

pub returns : goal.returns
returns c = record {
  grow = λ takes w body f answers more. acts_grow (iteration takes w body [] f) answers more;
  of_run = λ join takes w body f m. acts_of_run join (iteration takes w body [] f) m;
  example = doubling_acts;
}
