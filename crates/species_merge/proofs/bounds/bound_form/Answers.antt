use Rattle.std.proofs.Common.{arith}
use Rattle.species_ast.specs.Scope.Forms.{form_limit}
use Rattle.species_merge.proofs.bounds.bound_form.Goals as goal

pub returns-in-Other-clause-numbers : goal.returns-in-Other-clause-numbers
returns-in-Other-clause-numbers c = c.constant.ensures.numbers form_limit (omega arith)
