use Rattle.std.proofs.Common.{◌≡◌, ◌≤◌, ◌-◌, length}
use Rattle.species_ast.specs.Text.Characters.{is_blank}
use Rattle.species_decimal.specs.Words.{words_at}
use Rattle.bones_schedule.specs.Schedule.{numbers_of}
use Rattle.bones_schedule.proofs.ScheduleLemmas.{before, left}
use Rattle.bones_schedule.proofs.read_schedule.Given as goal

abbrev pub invariant-loop-at : goal.invariant-loop-at
invariant-loop-at l = record {
  within : l.at ≤ length l.text;
  read : numbers_of (words_at is_blank l.base l.text) ≡ before l.numbers.items (left l.base l.at l.text);
}

abbrev pub decreases-loop-at : goal.decreases-loop-at
decreases-loop-at l = length l.text - l.at
