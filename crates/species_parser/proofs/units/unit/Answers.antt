-- The goals of `unit` that need an answer.
use Rattle.std.proofs.Common.{rules, ◌∙◌, ap, sym}
use Rattle.species_grammar.specs.Reader.{◌>>=◌}
use Rattle.species_parser.specs.Parsing.{unit, after_items}
use Rattle.species_parser.proofs.UnitTurns.{unit_start, unit_turn, turn}
use Rattle.species_parser.proofs.units.unit.Goals as goal

pub loop-items-init : goal.loop-items-init
loop-items-init c = rw c.new-items.ensures (unit_start _)

pub returns-in_err-item : goal.returns-in_err-item
returns-in_err-item c =
    let step = unit_turn c.loop-items.items c.loop-items.cursor in
    rw (c.loop-items.invariant, step) (search rules)

pub loop-items-preserved : goal.loop-items-preserved
loop-items-preserved c =
    c.loop-items.invariant
    ∙ unit_turn c.loop-items.items c.loop-items.cursor
    ∙ ap (λ a. a >>= turn c.loop-items.items) c.in_ok-item.ensures.value
    ∙ ap (λ o. turn c.loop-items.items o c.next_item.new.cursor) c.in-Some.is
    ∙ ap (λ xs. after_items xs (unit c.next_item.new.cursor)) (sym c.in_ok-push.ensures.ok)

pub returns : goal.returns
returns c =
    let step = unit_turn c.loop-items.items c.loop-items.cursor
    ∙ ap (λ a. a >>= turn c.loop-items.items) c.in_ok-item.ensures.value
    ∙ ap (λ o. turn c.loop-items.items o c.next_item.new.cursor) c.in_default.is in
    rw (c.loop-items.invariant, step) c.function_behind.ensures
