use Rattle.std.proofs.Common.{◌≡◌, ℕ, take, get_or, false}
use Rattle.species_ast.specs.Scope.Meanings.{is_among}
use Rattle.species_names.proofs.iterators.flags.Given as goal

abbrev pub invariant-loop-serial : goal.invariant-loop-serial
invariant-loop-serial l = (n : ℕ) → get_or l.all.items n false ≡ is_among (take l.serial-index l.serials) n
