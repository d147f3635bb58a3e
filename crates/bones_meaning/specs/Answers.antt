-- What calls that walk through statements answer.
use Rattle.std.specs.Prelude.{◌≡◌, Result, Ok, Err}
use Rattle.species_ast.specs.Evaluation.{Frame}
use Rattle.bones_meaning.specs.declared.tape.Stop.{Stop}
use Rattle.bones_meaning.specs.declared.tape.Stop.TheVariants as stop
use Rattle.bones_meaning.specs.Tapes.{Tape, passed, Walked}

-- a call that leaves this frame and this tape walked so; of one that had no memory nothing is said
abbrev pub Walks : {X : Type 0} → Result X Stop → Frame → Tape → Walked Frame → Type 0
Walks (Ok x) f t o = o ≡ Ok (passed f t)
Walks (Err (stop.At why)) f t o = o ≡ Err why
Walks (Err stop.Memory) f t o = Prim.Unit {0}
