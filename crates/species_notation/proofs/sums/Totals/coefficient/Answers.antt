use Rattle.species_notation.proofs.Adding.{sum_told, sum_untold}
use Rattle.species_notation.proofs.sums.Totals.coefficient.Goals as goal

pub returns-in-Some-clause-value : goal.returns-in-Some-clause-value
returns-in-Some-clause-value c = (sum_told c.args.name.now c.self.inside.constant c.in-Some.sum.now c.self.inside.names c.args.self.now c.self.invariant c.self.view_is c.in-Some.ensures.value).0

pub returns-in-Some-clause-small : goal.returns-in-Some-clause-small
returns-in-Some-clause-small c = (sum_told c.args.name.now c.self.inside.constant c.in-Some.sum.now c.self.inside.names c.args.self.now c.self.invariant c.self.view_is c.in-Some.ensures.value).1

pub returns-in-None-clause-value : goal.returns-in-None-clause-value
returns-in-None-clause-value c = sum_untold c.args.name.now c.self.inside.constant c.self.inside.names c.args.self.now c.self.view_is c.in-None.ensures.value
