use Rattle.std.proofs.Common.{ap, ◌∙◌, ◌++◌, ◌∷◌, []}
use Rattle.species_ast.specs.declared.tree.Stmt.TheVariants as stmt
use Rattle.species_print.proofs.NamedLaws.{one_named}
use Rattle.species_print.proofs.tests.calls.idle.Goals as goal

pub returns : goal.returns
returns c = λ u.
    one_named u c.idle_loop-head.result c.push.new.self
    (c.in_ok-push.ensures.ok ∙ ap (λ x. x ++ stmt.For c.idle_loop-head.result ∷ []) c.new-all.ensures) (c.idle_loop-head.ensures u)
