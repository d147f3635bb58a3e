-- What a target that is set becomes.
use Rattle.species_ast.specs.Scope.Meanings.{Assigned}
use Rattle.species_scope.proofs.ReadingLaws.{names-out, bare-out}
use Rattle.species_scope.proofs.changes.set_target.Goals as goal

pub returns-clause-value : goal.returns-clause-value
returns-clause-value c = bare-out c.args.raw.now c.args.place.now _ _ _ c.meaning-means.ensures c.as_slice.ensures c.in_ok-subs.ensures.value

pub returns-clause-noted : goal.returns-clause-noted
returns-clause-noted c =
    names-out Assigned c.args.raw.now c.args.place.now _ _ _ _ _ _ _ c.iterators.ensures c.meaning-means.ensures c.len.ensures c.as_slice.ensures c.note_name.ensures c.in_ok-subs.ensures.noted
