-- The goals of `add_name` that need an answer.
use Rattle.std.proofs.Common.{rules}
use Rattle.species_notation.specs.Meaning.{with_product}
use Rattle.species_notation.specs.Tables.{sums_seen}
use Rattle.std.specs.Prelude.{Some}
use Rattle.species_notation.proofs.Adding.{name_stored, name_refused, still_limited}
use Rattle.species_notation.proofs.sums.Totals.add_name.Goals as goal

pub returns-in-None : goal.returns-in-None
returns-in-None c =
    name_refused c.args.self.now c.self.inside.constant c.self.inside.names c.args.name.now c.args.number c.coefficient.result c.self.invariant c.self.view_is c.coefficient.ensures.value
    (search rules)

pub returns-in_ok-insert-in-Some : goal.returns-in_ok-insert-in-Some
returns-in_ok-insert-in-Some c =
    name_stored c.args.self.now c.self.inside.constant c.self.inside.names c.insert.new.self c.args.name c.args.number c.coefficient.result c.in-Some.sum
    c.self.invariant c.self.view_is c.coefficient.ensures.value (search rules) c.in_ok-insert-in-Some.ensures.entries

pub invariant_of-self-in-Some : goal.invariant_of-self-in-Some
invariant_of-self-in-Some c =
    still_limited (with_product c.args.number (Some c.args.name.now) c.args.self.now) (sums_seen c.self.inside.constant c.insert.new.self)
    (name_stored c.args.self.now c.self.inside.constant c.self.inside.names c.insert.new.self c.args.name c.args.number c.coefficient.result c.in-Some.sum
    c.self.invariant c.self.view_is c.coefficient.ensures.value (search rules) c.in_ok-insert-in-Some.ensures.entries)
