use Rattle.std.proofs.Common.{ap, ◌∙◌}
use Rattle.species_ast.specs.Accesses.{changed, added}
use Rattle.species_meaning.specs.Effects.{element}
use Rattle.species_meaning.proofs.Elements.{changed_at}
use Rattle.species_meaning.proofs.arrays.Arrays.add.Goals as goal

pub returns : goal.returns
returns c n h =
    c.put.ensures n h
    ∙ ap (λ v. changed c.args.self.now (element c.args.array n) (λ x. v)) (c.added.ensures ∙ ap (added c.args.value) (c.cell-old.ensures n h))
    ∙ changed_at c.args.self.now c.args.array n (added c.args.value)
