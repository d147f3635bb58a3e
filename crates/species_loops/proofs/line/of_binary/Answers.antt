use Rattle.std.proofs.Common.{rules}
use Rattle.species_ast.specs.Scope.Forms.{limited, sum_form, negated}
use Rattle.species_loops.proofs.LineLaws.{line_both}
use Rattle.species_loops.proofs.line.of_binary.Goals as goal

pub returns-in-Sub-clause-value : goal.returns-in-Sub-clause-value
returns-in-Sub-clause-value c level f g h k =
    rw c.in-Sub.is (line_both (λ f g. limited (sum_form f (negated g))) c.args.a c.args.b c.sum-in-Sub.result level
    (λ f g h k. c.sum-in-Sub.ensures.value level f (negated g) h (c.negation.ensures.value level g k)) f g h k)
