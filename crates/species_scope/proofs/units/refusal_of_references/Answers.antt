-- What is kept of references is what is reported of them.
use Rattle.std.proofs.Common.{◌∙◌, ap}
use Rattle.species_ast.specs.Scope.Conditions.{refused_references}
use Rattle.species_names.specs.Kept.{kept}
use Rattle.species_names.proofs.JoinLaws.{kept_first}
use Rattle.species_scope.proofs.units.refusal_of_references.Goals as goal

pub returns : goal.returns
returns c keeps =
    let all = refused_references c.args.unit.now in
    c.first.ensures ∙ c.in_ok-note_references.ensures keeps ∙ ap (λ o. kept o all) c.new-references.ensures ∙ kept_first all
