use Rattle.std.proofs.Common.{◌≡◌, map, take}
use Rattle.species_annotate.proofs.lines.local_names.Given as goal

abbrev pub invariant-loop-local : goal.invariant-loop-local
invariant-loop-local l = l.names ≡ map (λ x. x.name) (take l.local-index l.locals)
