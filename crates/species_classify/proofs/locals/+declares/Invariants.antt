use Rattle.std.proofs.Common.{◌≡◌, drop}
use Rattle.species_ast.specs.Run.{locals_in}
use Rattle.species_ast.specs.Scope.Meanings.{is_among}
use Rattle.species_classify.proofs.locals.+declares.Given as goal

abbrev pub invariant-declares-loop-s : goal.invariant-declares-loop-s
invariant-declares-loop-s l = is_among (locals_in l.all) l.local ≡ is_among (locals_in (drop l.s-index l.all)) l.local
