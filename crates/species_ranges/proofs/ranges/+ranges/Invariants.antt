use Rattle.std.proofs.Common.{◌≡◌, ◌++◌, true, take}
use Rattle.species_linear.specs.Box.{HasSmallPath}
use Rattle.species_references.specs.Ranges.{ranges_seen, ranges_in_list}
use Rattle.species_ranges.specs.Fitting.{fits_in_list}
use Rattle.species_ranges.proofs.ranges.+ranges.Given as goal

abbrev pub invariant-add_list-loop-statement : goal.invariant-add_list-loop-statement
invariant-add_list-loop-statement l = record {
  same : l.path ≡ l.initial.path;
  ends : HasSmallPath l.initial.found → HasSmallPath l.found;
  found : fits_in_list l.statements l.initial.path ≡ true → ranges_seen l.found ≡ ranges_seen l.initial.found ++ ranges_in_list (take l.statement-index l.statements) l.initial.path;
}
