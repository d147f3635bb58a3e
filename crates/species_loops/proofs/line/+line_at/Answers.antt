use Rattle.std.proofs.Common.{◌∙◌, ap, sym, subst}
use Rattle.species_ast.specs.Scope.Forms.{form_of, form_step}
use Rattle.species_ast.proofs.Folds.{fold_expr-Literal}
use Rattle.species_loops.specs.Lines.{IsLine}
use Rattle.species_loops.proofs.line.+line_at.Goals as goal

pub returns-in-Literal-clause-value : goal.returns-in-Literal-clause-value
returns-in-Literal-clause-value t c =
    subst (IsLine c.of_literal.result c.args.level) (sym (ap form_of c.in-Literal.is ∙ fold_expr-Literal form_step c.in-Literal.value)) (c.of_literal.ensures.value c.args.level)
