-- What a target becomes.
use Rattle.species_ast.specs.Scope.Meanings.{Taken}
use Rattle.species_scope.proofs.ReadingLaws.{value-out, names-out}
use Rattle.species_scope.proofs.expressions.+expression.Goals as goal
use Rattle.std.proofs.Common.{◌∙◌}

pub taken-returns-clause-value : goal.taken-returns-clause-value
taken-returns-clause-value t c =
    c.value.ensures ∙ value-out c.args.target.now c.args.place.now _ _ _ c.meaning-means.ensures c.as_slice.ensures c.in_ok-subs.ensures.value

pub taken-returns-clause-noted : goal.taken-returns-clause-noted
taken-returns-clause-noted t c =
    names-out Taken c.args.target.now c.args.place.now _ _ _ _ _ _ _ c.iterators.ensures c.meaning-means.ensures c.len.ensures c.as_slice.ensures c.note_name.ensures c.in_ok-subs.ensures.noted
