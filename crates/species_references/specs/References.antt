-- The references that the analysis holds, beside those that the text has by definition.
use Rattle.std.specs.Prelude.{◌≡◌, ℕ, ◌+◌, List, [], ◌∷◌, nat_eq, All}
use Rattle.std.specs.List.{list_any}
use Rattle.species_affine.specs.Subscript.{IsSubscript, HasFormNumbers}
use Rattle.species_arcs.specs.Pairwise.{Pairwise}
use Rattle.species_arcs.specs.declared.places.Dir.{Dir}
use Rattle.species_arcs.specs.declared.places.Dir.TheVariants as dir
use Rattle.species_ast.specs.Accesses.{Direction, Reads, Writes, Adds}
use Rattle.species_ast.specs.Scope.References as text
use Rattle.species_references.specs.declared.nest.Reference.{Reference}
use Rattle.species_references.specs.Boxes.{AreBoxes}
use Rattle.species_references.specs.Ranges.{ranges_seen}

abbrev pub direction_of : Dir → Direction
direction_of dir.Read = Reads
direction_of dir.Write = Writes
direction_of dir.Add = Adds

-- `+=` on one of these arrays is an add, whatever its mark
abbrev pub adds_of : List ℕ → text.Adding
adds_of gathered a atomic = list_any (nat_eq a) gathered

-- The reference shows one of the text, where the arrays have these sizes and the inner loops are those from a level on. All
-- numbers of its forms are within the limit of a form.
pub record IsReference (sizes : ℕ → List ℕ) (inner : ℕ) (r : Reference) (q : text.Reference) : Type 0 where
  pub array : r.array ≡ q.array
  pub direction : direction_of r.dir ≡ q.direction
  pub subs : Pairwise IsSubscript r.subs q.subs
  pub numbers : All HasFormNumbers r.subs
  pub conditional : r.conditional ≡ q.conditional
  pub path : ranges_seen r.path ≡ q.path
  pub boxes : AreBoxes inner q.path (sizes q.array) q.subs r.boxes

-- the numbers of the references go up by one from n
abbrev pub AreNumberedFrom : ℕ → List Reference → Type 0
AreNumberedFrom n [] = Unit {0}
AreNumberedFrom n (r ∷ rs) = (r.number ≡ n) × AreNumberedFrom (n + 1) rs
