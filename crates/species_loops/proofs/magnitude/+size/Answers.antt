use Rattle.std.proofs.Common.{◌∙◌, ap, sym}
use Rattle.species_ast.proofs.Folds.{fold_expr-Unary, fold_expr-Binary}
use Rattle.species_ast.specs.Scope.Magnitudes.{magnitude, magnitude_at}
use Rattle.species_loops.specs.Ranges.{ranges_seen}
use Rattle.species_loops.specs.Sizes.{size_within}
use Rattle.species_loops.proofs.magnitude.+size.Goals as goal

pub returns-in-Unary-clause-value : goal.returns-in-Unary-clause-value
returns-in-Unary-clause-value t c =
    let path = ranges_seen c.args.path.now in
    c.of_unary.ensures.value path (magnitude path c.in-Unary.a) (c.size-a.ensures.value ∙ ap (λ x. size_within (magnitude path x)) c.get.ensures)
    ∙ ap size_within (sym (ap (magnitude path) c.in-Unary.is ∙ fold_expr-Unary (magnitude_at path) c.in-Unary.op c.in-Unary.a))

pub returns-in-Binary-clause-value : goal.returns-in-Binary-clause-value
returns-in-Binary-clause-value t c =
    let path = ranges_seen c.args.path.now in
    c.of_binary.ensures.value path (magnitude path c.in-Binary.a) (magnitude path c.in-Binary.b)
    (c.size-a-in-Binary.ensures.value ∙ ap (λ x. size_within (magnitude path x)) c.get-in-Binary.ensures)
    (c.size-b.ensures.value ∙ ap (λ x. size_within (magnitude path x)) c.get-in-Binary-2.ensures)
    ∙ ap size_within (sym (ap (magnitude path) c.in-Binary.is ∙ fold_expr-Binary (magnitude_at path) c.in-Binary.op c.in-Binary.a c.in-Binary.b))
