use Rattle.std.proofs.Common.{◌≡◌, ℕ, suc, ◌-◌, length, get_or, false}
use Rattle.species_names.proofs.iterators.set_flag.Given as goal

abbrev pub invariant-loop-all : goal.invariant-loop-all
invariant-loop-all l = (n : ℕ) → get_or l.all.items n false ≡ get_or l.initial.all.items n false

abbrev pub decreases-loop-all : goal.decreases-loop-all
decreases-loop-all l = suc l.at - length l.all.items
