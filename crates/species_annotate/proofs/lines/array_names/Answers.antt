use Rattle.std.proofs.Common.{◌∙◌, ◌++◌, ◌∷◌, [], ap}
use Rattle.species_annotate.proofs.NameLemmas.{mapped_next, mapped_end}
use Rattle.species_annotate.proofs.lines.array_names.Goals as goal

pub loop-array-preserved : goal.loop-array-preserved
loop-array-preserved c =
    mapped_next (λ a. a.name) c.args.arrays.now c.loop-array.array-index c.array-item.result c.loop-array.names c.push.new.self c.array-item.is c.loop-array-test.true c.loop-array.invariant
    (c.in_ok-push.ensures.ok ∙ ap (λ n. c.loop-array.names ++ n ∷ []) c.in_ok-copy.ensures)

pub returns : goal.returns
returns c = mapped_end (λ a. a.name) c.args.arrays.now c.loop-array.array-index c.loop-array.names c.loop-array-test.false c.loop-array.invariant
