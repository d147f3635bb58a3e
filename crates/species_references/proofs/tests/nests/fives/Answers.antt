use Rattle.std.proofs.Common.{◌≡◌, pos, [], ◌∷◌, ◌++◌, ap, ◌∙◌}
use Rattle.species_ast.specs.declared.tree.Expr.TheVariants as expr
use Rattle.species_ast.specs.declared.tree.Stmt.TheVariants as stmt
use Rattle.species_ast.specs.declared.tree.Value.TheVariants as value
use Rattle.species_references.specs.References.{adds_of}
use Rattle.species_references.proofs.OneLemmas.{one_reference}
use Rattle.species_references.proofs.tests.nests.fives.Goals as goal

pub returns-clause-one : goal.returns-clause-one
returns-clause-one c =
    let five = expr.Literal (value.Int (pos 5)) in
    let subs : c.push.new.self ≡ expr.Iter 0 ∷ [] = c.in_ok-push.ensures.ok ∙ ap (λ xs. xs ++ expr.Iter 0 ∷ []) c.new-subs.ensures in
    let body : c.push-2.new.self ≡ stmt.Assign 0 0 (expr.Iter 0 ∷ []) five ∷ [] =
    c.in_ok-push-2.ensures.ok ∙ (λ i. c.new-body.ensures i ++ stmt.Assign 0 0 (subs i) five ∷ [])
    in
    one_reference (adds_of []) _ 0 0 0 (value.Int (pos 5)) body
