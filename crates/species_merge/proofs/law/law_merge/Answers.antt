use Rattle.species_merge.proofs.SetLaws.{sets_hold_boxes, sets_lie_in_domains}
use Rattle.species_merge.proofs.ExactLaws.{exact_sets_are_touched}
use Rattle.species_merge.proofs.SettledLaws.{references_are_settled}
use Rattle.species_merge.proofs.law.law_merge.Goals as goal

pub returns-clause-sets : goal.returns-clause-sets
returns-clause-sets c = sets_hold_boxes

pub returns-clause-domains : goal.returns-clause-domains
returns-clause-domains c = sets_lie_in_domains

pub returns-clause-exact : goal.returns-clause-exact
returns-clause-exact c = exact_sets_are_touched

pub returns-clause-settled : goal.returns-clause-settled
returns-clause-settled c = references_are_settled
