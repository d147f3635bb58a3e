use Rattle.std.proofs.Common.{◌≡◌, ◌≤◌, ◌-◌, ◌++◌, length, drop}
use Rattle.bones_template.specs.Holes.{contents_of}
use Rattle.bones_template.specs.Filling.{filled_of}
use Rattle.bones_template.proofs.template.fill.Given as goal

abbrev pub invariant-loop-at : goal.invariant-loop-at
invariant-loop-at l = record {
  within : l.at ≤ length l.text;
  filled : filled_of (contents_of l.holes) l.text ≡ l.filled.items ++ filled_of (contents_of l.holes) (drop l.at l.text);
}

abbrev pub decreases-loop-at : goal.decreases-loop-at
decreases-loop-at l = length l.text - l.at
