use Rattle.std.proofs.Common.{◌≡◌, drop}
use Rattle.std.specs.Prelude.{nat_eq}
use Rattle.std.specs.List.{list_any}
use Rattle.species_ast.specs.Run.{locals_in}
use Rattle.bones_meaning.proofs.locals.+declares.Given as goal

-- what all declare is what is left declares
abbrev pub invariant-declares-loop-s : goal.invariant-declares-loop-s
invariant-declares-loop-s l = list_any (nat_eq l.x) (locals_in l.all) ≡ list_any (nat_eq l.x) (locals_in (drop l.s-index l.all))
