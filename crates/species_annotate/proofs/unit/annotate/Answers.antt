use Rattle.species_annotate.proofs.UnitLemmas.{annotated}
use Rattle.species_annotate.proofs.unit.annotate.Goals as goal

pub returns-clause-plan : goal.returns-clause-plan
returns-clause-plan c = (annotated c.args.unit.now c.in_ok-source.source c.in_ok-body.body c.requires c.in_ok-source.ensures.value c.in_ok-body.ensures).plan

pub returns-clause-source : goal.returns-clause-source
returns-clause-source c = (annotated c.args.unit.now c.in_ok-source.source c.in_ok-body.body c.requires c.in_ok-source.ensures.value c.in_ok-body.ensures).source

pub returns-clause-unmarked : goal.returns-clause-unmarked
returns-clause-unmarked c = (annotated c.args.unit.now c.in_ok-source.source c.in_ok-body.body c.requires c.in_ok-source.ensures.value c.in_ok-body.ensures).unmarked

pub returns-clause-well_made : goal.returns-clause-well_made
returns-clause-well_made c = (annotated c.args.unit.now c.in_ok-source.source c.in_ok-body.body c.requires c.in_ok-source.ensures.value c.in_ok-body.ensures).well_made

pub returns-clause-size : goal.returns-clause-size
returns-clause-size c = (annotated c.args.unit.now c.in_ok-source.source c.in_ok-body.body c.requires c.in_ok-source.ensures.value c.in_ok-body.ensures).size
