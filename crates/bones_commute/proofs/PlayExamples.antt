-- Plays of two iterations on one element: additions are never lost, and a read and a write may lose one.
use Rattle.std.proofs.Common.{◌≡◌, refl, ℕ, [], ◌∷◌, Some, None}
use Rattle.species_ast.specs.declared.tree.Value.TheVariants.{Unsigned}
use Rattle.species_ast.specs.Accesses.{sums, Element, Cells, Site, Tree, Ret, Read, Write, Add, added}
use Rattle.species_ast.specs.Evaluation.{Frame}
use Rattle.bones_meaning.specs.Courses.{Course, Over, Writing, Together}
use Rattle.bones_meaning.specs.Plays.{Finished, enter, moves}
use Rattle.bones_commute.specs.Orderly.{ranks_of}

abbrev site : Site
site = record { statement = []; place = 0; number = 0; iters = []; indices = [] }

abbrev frame : Frame
frame = record { iters = []; locals = [] }

abbrev el : Element
el = record { array = 0; at = 1 }

abbrev adding : ℕ → Tree Frame
adding n = Add site el (Unsigned n) (Ret frame)

abbrev summing : ℕ → Tree Frame
summing n = Read site el (λ v. Write site el (added (Unsigned n) v) (Ret frame))

abbrev start_cells : Cells
start_cells = (Unsigned 5 ∷ Unsigned 4294967295 ∷ []) ∷ []

abbrev two_adds : Course Frame
two_adds = Together sums (adding 2 ∷ adding 3 ∷ []) (Over frame)

abbrev two_sums : Course Frame
two_sums = Together sums (summing 2 ∷ summing 3 ∷ []) (Over frame)

in_order : moves sums (0 ∷ 1 ∷ []) (enter sums two_adds start_cells) ≡ Some (Finished ((Unsigned 5 ∷ Unsigned 4 ∷ []) ∷ []))
in_order = refl

turned : moves sums (1 ∷ 0 ∷ []) (enter sums two_adds start_cells) ≡ Some (Finished ((Unsigned 5 ∷ Unsigned 4 ∷ []) ∷ []))
turned = refl

kept : moves sums (0 ∷ 0 ∷ 1 ∷ 1 ∷ []) (enter sums two_sums start_cells) ≡ Some (Finished ((Unsigned 5 ∷ Unsigned 4 ∷ []) ∷ []))
kept = refl

lost : moves sums (0 ∷ 1 ∷ 0 ∷ 1 ∷ []) (enter sums two_sums start_cells) ≡ Some (Finished ((Unsigned 5 ∷ Unsigned 2 ∷ []) ∷ []))
lost = refl

-- no rank of an iteration that is done, and none past the last
done : moves sums (0 ∷ 0 ∷ []) (enter sums two_adds start_cells) ≡ None
done = refl

past : moves sums (2 ∷ []) (enter sums two_adds start_cells) ≡ None
past = refl

-- a nest without actions takes no rank
empty : moves sums [] (enter sums (Together sums (Ret frame ∷ Ret frame ∷ []) (Over frame)) start_cells) ≡ Some (Finished start_cells)
empty = refl

-- behind the barrier the next nest begins: rank 0 is then an iteration of it, and no earlier
abbrev two_nests : Course Frame
two_nests = Together sums (adding 2 ∷ []) (Writing site el (Unsigned 7) (Together sums (summing 1 ∷ []) (Over frame)))

barrier : moves sums (0 ∷ 0 ∷ 0 ∷ []) (enter sums two_nests start_cells) ≡ Some (Finished ((Unsigned 5 ∷ Unsigned 8 ∷ []) ∷ []))
barrier = refl

count : ranks_of sums (Together sums (summing 2 ∷ adding 3 ∷ []) (Over frame)) start_cells ≡ 3
count = refl

count_both : ranks_of sums two_nests start_cells ≡ 3
count_both = refl
