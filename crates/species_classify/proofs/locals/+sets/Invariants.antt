use Rattle.std.proofs.Common.{◌≡◌, drop}
use Rattle.std.specs.Prelude.{slice_get}
use Rattle.species_ast.specs.Run.{locals_in}
use Rattle.species_runs.specs.Scopes.{sets_in, without}
use Rattle.species_classify.proofs.locals.+sets.Given as goal

abbrev pub invariant-first_set-loop-s : goal.invariant-first_set-loop-s
invariant-first_set-loop-s l = slice_get (without (sets_in l.all) (locals_in l.body)) 0 ≡ slice_get (without (sets_in (drop l.s-index l.all)) (locals_in l.body)) 0
