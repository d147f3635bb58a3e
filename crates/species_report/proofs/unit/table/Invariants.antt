use Rattle.std.proofs.Common.{◌≡◌, [], map, take}
use Rattle.species_report.specs.Heads.{loops_seen}
use Rattle.species_report.specs.Table.{HaveParts}
use Rattle.species_report.proofs.unit.table.Given as goal

abbrev pub invariant-loop-head : goal.invariant-loop-head
invariant-loop-head l = record {
  arrays : l.names.arrays ≡ map (λ a. a.name) l.unit.arrays;
  locals : l.names.locals ≡ [];
  parts : HaveParts l.unit (loops_seen (take l.head-index l.head-items)) l.text.items;
}
