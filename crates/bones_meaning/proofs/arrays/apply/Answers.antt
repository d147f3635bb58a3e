use Rattle.std.proofs.Common.{ap, sym, ◌∙◌}
use Rattle.species_ast.specs.Accesses.{sums, changed, added}
use Rattle.species_meaning.proofs.Elements.{changed_at}
use Rattle.bones_meaning.specs.Acted.{acted}
use Rattle.bones_meaning.specs.Plays.{element}
use Rattle.bones_meaning.proofs.arrays.apply.Goals as goal

pub returns-in-Add-clause-arrays : goal.returns-in-Add-clause-arrays
returns-in-Add-clause-arrays c =
    c.set-in-Add.ensures
    ∙ ap (λ v. changed c.args.arrays.now (element c.in-Add.array c.in-Add.at) (λ x. v)) (c.added.ensures ∙ ap (λ old. added c.in-Add.value old) c.get-old.ensures)
    ∙ changed_at c.args.arrays.now c.in-Add.array c.in-Add.at (λ x. added c.in-Add.value x)
    ∙ ap (λ a. acted sums a c.args.arrays.now) (sym c.in-Add.is)
