-- The next action of an iteration by walking its tree.
use Rattle.std.proofs.Common.{◌≡◌}
use Rattle.species_ast.specs.Accesses.{Tree}
use Rattle.species_runs.specs.Walks.{walk, entry}
use Rattle.species_runs.proofs.WalkLaws.{walk-acts}
use Rattle.bones_meaning.specs.Plays.{Turn, next_of}

pub next_is_entry : {X : Type 0} (t : Tree X) (turn : Turn) → next_of t turn ≡ entry (walk t turn.got turn.done)
next_is_entry t turn = walk-acts t turn.got turn.done
