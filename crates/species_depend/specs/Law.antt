-- What refuted pairs, and levels that carry none, say of the accesses of a run.
use Rattle.std.specs.Prelude.{◌≡◌, ◌≢◌, ℕ, ◌+◌, ◌<◌, List, ℤ, Contains}
use Rattle.std.specs.List.{Any}
use Rattle.species_ast.specs.Accesses.{Access, Reads}
use Rattle.species_ast.specs.Scope.References as text
use Rattle.species_linear.specs.declared.loops.LoopRange.{LoopRange}
use Rattle.species_linear.specs.declared.loops.Direction.{Direction}
use Rattle.species_linear.specs.Point.{Point, point_of}
use Rattle.species_occurrences.specs.Made.{IsMadeBy}
use Rattle.species_references.specs.declared.nest.Reference.{Reference}
use Rattle.species_references.specs.References.{IsReference}
use Rattle.species_region.specs.Coordinate.{iterators_at}
use Rattle.species_region.specs.Region.{IsInRegion}
use Rattle.species_depend.specs.Refuted.{IsTestable, IsRefuted}
use Rattle.species_depend.specs.Carried.{AreAsked, CarriesNone}

-- the iterators at these coordinates
abbrev pub AreIteratorsAt : List LoopRange → Point → List ℤ → Type 0
AreIteratorsAt path x iters = (k : ℕ) → iterators_at path x k ≡ point_of iters k

-- The access is made by a reference of the text that the analysis holds as p, at these coordinates.
pub record IsMadeAt (sizes : ℕ → List ℕ) (inner : ℕ) (p : Reference) (a : Access) (x : Point) : Type 0 where
  pub reference : text.Reference
  pub shown : IsReference sizes inner p reference
  pub made : IsMadeBy sizes reference a
  pub coordinates : AreIteratorsAt p.path x a.site.iters

-- In whatever run: accesses that are made by the two references of a pair which is refuted in a direction, at a pair of points
-- of its region, are not to one element.
abbrev pub RefutedNeverMeet : Type 0
RefutedNeverMeet = (at : Direction) (p q : Reference) (sizes : ℕ → List ℕ) (inner : ℕ) (a b : Access) (x y : Point) → IsTestable at p q → IsRefuted at p q
    → IsMadeAt sizes inner p a x → IsMadeAt sizes inner q b y → IsInRegion at p.path q.path x y → a.element ≢ b.element

-- ---- levels that carry no pair

-- Two lists of iterators agree in the outer loops, and differ at a level of a band of this depth: they are of one running of a
-- nest, and of two iterations of the band.
pub record DifferInBand (outer depth : ℕ) (is js : List ℤ) : Type 0 where
  pub same : (k : ℕ) → k < outer → point_of is k ≡ point_of js k
  pub level : ℕ
  pub below : level < depth
  pub differ : point_of is (outer + level) ≢ point_of js (outer + level)

-- the access is made by a reference of the text that the list holds
abbrev pub IsMadeByOne : (ℕ → List ℕ) → ℕ → List Reference → Access → Type 0
IsMadeByOne sizes inner refs a = Any (λ p. (q : text.Reference) × IsReference sizes inner p q × IsMadeBy sizes q a) refs

-- In whatever run: where no level of a band carries a pair, two accesses that are made by references of the list, in one running
-- and in two iterations of the band, are not to one element, unless both read it or its array is exempt.
abbrev pub FreeBandsNeverMeet : Type 0
FreeBandsNeverMeet = (refs : List Reference) (outer depth : ℕ) (exempt : List ℕ) (sizes : ℕ → List ℕ) (inner : ℕ) (a b : Access)
    → ((level : ℕ) → level < depth → AreAsked refs outer level) → ((level : ℕ) → level < depth → CarriesNone refs outer level exempt)
    → IsMadeByOne sizes inner refs a → IsMadeByOne sizes inner refs b → DifferInBand outer depth a.site.iters b.site.iters
    → a.element ≡ b.element → ¬ Contains exempt a.element.array → (a.direction ≡ Reads) × (b.direction ≡ Reads)
