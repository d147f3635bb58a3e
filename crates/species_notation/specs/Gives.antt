-- What the functions that read answer.
use Rattle.std.specs.Prelude.{◌≡◌, List, Option, Some, None, Result, Ok, Err}
use Rattle.species_grammar.specs.Reader.{Answer}
use Rattle.species_notation.specs.declared.parts.Part.{Part}
use Rattle.species_notation.specs.declared.refusal.NotationRefusal.{NotationRefusal}
use Rattle.species_notation.specs.declared.refusal.NotationRefusal.TheVariants.{Syntax, Memory}

-- What a function returned, and the parts that it left, are what a reader answers, unless memory ran out.
abbrev pub Gives : {X : Type 0} → Result X NotationRefusal → List Part → Answer Part X → Type 0
Gives (Ok x) left answer = answer ≡ Answer.read x left
Gives (Err Syntax) left answer = answer ≡ Answer.stuck left
Gives (Err Memory) left answer = Unit {0}

-- What a function returned is what a definition has, and Syntax where it has nothing, unless memory ran out.
abbrev pub Finds : {X : Type 0} → Result X NotationRefusal → Option X → Type 0
Finds (Ok x) found = found ≡ Some x
Finds (Err Syntax) found = found ≡ None
Finds (Err Memory) found = Unit {0}

-- What a function left behind is what a definition has, and Syntax where it has nothing, unless memory ran out.
abbrev pub Leaves : {X : Type 0} → Result (Unit {0}) NotationRefusal → X → Option X → Type 0
Leaves (Ok x) left found = found ≡ Some left
Leaves (Err Syntax) left found = found ≡ None
Leaves (Err Memory) left found = Unit {0}
