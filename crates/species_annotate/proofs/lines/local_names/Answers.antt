use Rattle.std.proofs.Common.{◌∙◌, ◌++◌, ◌∷◌, [], ap}
use Rattle.species_annotate.proofs.NameLemmas.{mapped_next, mapped_end}
use Rattle.species_annotate.proofs.lines.local_names.Goals as goal

pub loop-local-preserved : goal.loop-local-preserved
loop-local-preserved c =
    mapped_next (λ x. x.name) c.args.locals.now c.loop-local.local-index c.local-item.result c.loop-local.names c.push.new.self c.local-item.is c.loop-local-test.true c.loop-local.invariant
    (c.in_ok-push.ensures.ok ∙ ap (λ n. c.loop-local.names ++ n ∷ []) c.in_ok-copy.ensures)

pub returns : goal.returns
returns c = mapped_end (λ x. x.name) c.args.locals.now c.loop-local.local-index c.loop-local.names c.loop-local-test.false c.loop-local.invariant
