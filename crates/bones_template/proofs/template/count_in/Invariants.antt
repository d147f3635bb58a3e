use Rattle.std.proofs.Common.{◌≡◌, ◌≤◌, ◌+◌, drop}
use Rattle.bones_template.specs.Filling.{count_in}
use Rattle.bones_template.proofs.template.count_in.Given as goal

abbrev pub invariant-loop-at : goal.invariant-loop-at
invariant-loop-at l = record {
  few : l.count ≤ l.at;
  counted : count_in l.hole l.text ≡ l.count + count_in l.hole (drop l.at l.text);
}
