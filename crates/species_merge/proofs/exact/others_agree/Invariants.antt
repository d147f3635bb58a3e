use Rattle.std.proofs.Common.{◌≡◌, ◌≢◌, ℕ, ◌<◌, All}
use Rattle.species_merge.specs.Classes.{members, box_in}
use Rattle.species_merge.proofs.exact.others_agree.Given as goal

abbrev pub invariant-loop-other : goal.invariant-loop-other
invariant-loop-other l = (j : ℕ) → j < l.other → j ≢ l.number → All (λ r. box_in j r ≡ box_in j l.class.first) (members l.class)
