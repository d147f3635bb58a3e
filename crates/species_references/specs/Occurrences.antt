-- What the elements of a nest show of its references before their forms and boxes are found, wherever the nest stands.
use Rattle.std.specs.Prelude.{◌≡◌, ℕ, true, false, ◌&&◌, nat_eq, Bool, List, [], ◌∷◌, ◌++◌, map}
use Rattle.species_ast.specs.declared.tree.Expr.{Expr}
use Rattle.species_ast.specs.declared.tree.Stmt.{Stmt}
use Rattle.species_ast.specs.declared.tree.Loop.{Loop}
use Rattle.species_ast.specs.Accesses.{Direction, Reads, Writes, Adds}
use Rattle.species_ast.specs.Scope.Forms.{form_of}
use Rattle.species_ast.specs.Scope.Hulls.{Range}
use Rattle.species_ast.specs.Scope.References.{Where, Reference, reference, elements_of, Adding, stmt_references, loop_references}
use Rattle.species_occurrences.specs.Anywhere.{unplaced}
use Rattle.species_references.specs.declared.occurrences.Occurrence.{Occurrence}
use Rattle.species_references.specs.References.{direction_of}
use Rattle.species_references.specs.Ranges.{ranges_seen}

-- in loops with these ranges, at no position
abbrev pub there : List Range → Bool → Where
there path conditional = record { statement = []; path = path; conditional = conditional }

-- an element with these subscripts
abbrev pub one_seen : Direction → ℕ → List Expr → List Range → Bool → Reference
one_seen d a subs path conditional = reference (there path conditional) 0 d a (map form_of subs)

abbrev pub seen : Occurrence → Reference
seen o = one_seen (direction_of o.dir) o.array o.subs.now (ranges_seen o.path) o.conditional

abbrev pub all_seen : List Occurrence → List Reference
all_seen os = map seen os

-- ---- what is seen in parts of a nest

abbrev pub seen_in : Expr → List Range → Bool → List Reference
seen_in x path conditional = map unplaced ((elements_of x).references (there path conditional) 0)

abbrev pub seen_in_all : List Expr → List Range → Bool → List Reference
seen_in_all [] path conditional = []
seen_in_all (x ∷ xs) path conditional = seen_in x path conditional ++ seen_in_all xs path conditional

-- a `+=` behind its subscripts: an add or not
abbrev pub seen_addition : Bool → ℕ → List Expr → Expr → List Range → Bool → List Reference
seen_addition true a subs x path c = seen_in x path c ++ one_seen Adds a subs path c ∷ []
seen_addition false a subs x path c = one_seen Reads a subs path c ∷ (seen_in x path c ++ one_seen Writes a subs path c ∷ [])

abbrev pub seen_in_stmt : Adding → Stmt → List Range → Bool → ℕ → List Reference
seen_in_stmt adds x path conditional band = map unplaced (stmt_references adds x (there path conditional) band)

abbrev pub seen_in_list : Adding → List Stmt → List Range → Bool → ℕ → List Reference
seen_in_list adds [] path conditional band = []
seen_in_list adds (x ∷ xs) path conditional band = seen_in_stmt adds x path conditional band ++ seen_in_list adds xs path conditional band

abbrev pub seen_in_loop : Adding → Loop → List Range → Bool → ℕ → List Reference
seen_in_loop adds l path conditional band = map unplaced (loop_references adds l (there path conditional) band)

-- what stands in a loop below the band is left out where the loop's hull is empty
abbrev pub is_left_out : ℕ → Bool → Bool
is_left_out band empty = nat_eq band 0 && empty

-- Of ranges that begin with the loops' own the others are left, and so much more is seen.
abbrev pub Collected : List Range → List Range → List Range → List Reference → List Reference → List Reference → Type 0
Collected ranges own rest old more new = (left : List Range) → ranges ≡ own ++ left → (rest ≡ left) × (new ≡ old ++ more)
