use Rattle.species_ast.proofs.FirstRefusal.{reports_the_first}
use Rattle.species_ast.proofs.scope_law.law_refusals.Goals as goal

pub returns : goal.returns
returns c = reports_the_first
