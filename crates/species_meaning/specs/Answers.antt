-- What a run's answers say.
use Rattle.std.specs.Prelude.{◌≡◌, ℕ, Result, Ok, Err}
use Rattle.species_ast.specs.Accesses.{Cells, Cause, Trapped, Outcome, Ended, Stopped}
use Rattle.species_ast.specs.Evaluation.{Frame}
use Rattle.species_ast.specs.declared.trap.Trap.{Trap}
use Rattle.species_meaning.specs.declared.answer.RunAnswer.{RunAnswer}
use Rattle.species_meaning.specs.declared.answer.RunAnswer.TheVariants as answer
use Rattle.species_meaning.specs.declared.expressions.Typed.{Typed}
use Rattle.species_meaning.specs.Effects.{Reads, and_then}

-- a call that leaves this frame and these arrays ran to this outcome; of one that had no memory nothing is said
abbrev pub Runs : {X : Type 0} → Result X RunAnswer → Frame → Cells → Outcome Frame → Type 0
Runs (Ok x) f m o = o ≡ Ended f m
Runs (Err (answer.Undefined why place)) f m o = o ≡ Stopped (Trapped why) place
Runs (Err answer.Memory) f m o = Prim.Unit {0}

-- what a run ends in, without the frame: the arrays, or why and where it stopped
abbrev pub answer_of : Outcome Frame → Result Cells (Cause × ℕ)
answer_of (Ended f m) = Ok m
answer_of (Stopped why place) = Err (why, place)

-- a call that gives this answer to a run; of one that had no memory nothing is said
abbrev pub Gives : Result Cells RunAnswer → Outcome Frame → Type 0
Gives (Ok m) o = answer_of o ≡ Ok m
Gives (Err (answer.Undefined why place)) o = answer_of o ≡ Err (Trapped why, place)
Gives (Err answer.Memory) o = Prim.Unit {0}

-- what an expression gives, with its kind
abbrev pub typed : Reads → Frame → Cells → Result Typed Trap
typed e f m = and_then (e.gives f m) (λ v. Ok (record { value = v; kind = e.kind }))
