-- Pieces of program as what they do, and the places of their statements in the text.
use Rattle.std.specs.Prelude.{◌≡◌, []}
use Rattle.species_ast.specs.Accesses.{Site, Tree, Ret, Stop, Read, Write, Add}

-- a site of which only the place is known
abbrev pub only_place : Site → Site
only_place s = record { statement = []; place = s.place; number = 0; iters = []; indices = [] }

abbrev pub placed : {X : Type 0} → Tree X → Tree X
placed (Ret x) = Ret x
placed (Stop s why) = Stop (only_place s) why
placed (Read s e more) = Read (only_place s) e (λ v. placed (more v))
placed (Write s e v more) = Write (only_place s) e v (placed more)
placed (Add s e v more) = Add (only_place s) e v (placed more)

-- two pieces of program do the same, and are undefined in statements at the same places
abbrev pub DoSame : {X : Type 0} → Tree X → Tree X → Type 0
DoSame t u = placed t ≡ placed u
