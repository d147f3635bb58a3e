-- What arcs of references say of a nest in a run, in each turn of the innermost loop of its band: the body of a loop is executed once
-- a turn (C17 6.8.5p4, 6.8.5.3).
use Rattle.std.specs.Prelude.{◌≡◌, ℕ, ◌+◌, ◌<◌, true, ℤ, pos, List, [], ◌∷◌, ◌++◌, map, length, All, IsTrue}
use Rattle.std.specs.List.{Any, Contains}
use Rattle.species_arcs.specs.Pairwise.{Pairwise}
use Rattle.species_arcs.specs.Sets.{IsInSet, IsInDomain}
use Rattle.species_arcs.specs.declared.places.Arc.{Arc}
use Rattle.species_ast.specs.declared.tree.Loop.{Loop, out-Loop}
use Rattle.species_ast.specs.declared.tree.Stmt.TheVariants as stmt
use Rattle.species_ast.specs.declared.tree.Unit.{Unit as Program}
use Rattle.species_ast.specs.Accesses.{Joins, Cells, Access, IsDefined, run, accesses}
use Rattle.species_ast.specs.Evaluation.{sizes_of}
use Rattle.species_ast.specs.Marks.{IsUnmarked}
use Rattle.species_ast.specs.Run.{source_context}
use Rattle.species_ast.specs.Scope.References.{Reference, Adding, no_adds, references_of}
use Rattle.species_ast.specs.Scope.WellMade.{IsWellMade}
use Rattle.species_linear.specs.Point.{Point, point_of}
use Rattle.species_linear.specs.Value.{NamesOnly}
use Rattle.species_merge.specs.Arcs.{AreArcsOf}
use Rattle.species_merge.specs.Bounds.{IsBoundOf}
use Rattle.species_merge.specs.declared.bands.BandBound.{BandBound}
use Rattle.species_nests.specs.Arrivals.{Running, ComesTo, turn_of}
use Rattle.species_nests.specs.Nests.{Nest, nest_of}
use Rattle.species_occurrences.specs.Iterators.{ranges_of}
use Rattle.species_occurrences.specs.Made.{IsMadeAmong}
use Rattle.species_occurrences.specs.Regular.{as_marked, is_regular}
use Rattle.species_occurrences.specs.Surely.{IsOneOf}
use Rattle.species_occurrences.specs.Turns.{Turn, loop_turns}
use Rattle.species_references.specs.References.{direction_of, IsReference}
use Rattle.species_references.specs.declared.nest.Reference.{Reference as Held}

-- ---- accesses and arcs

-- the place of its array that an access names
abbrev pub place_of : Access → List ℤ
place_of a = map pos a.site.indices

-- The arc is one of the access's array and direction, and has its place in its set and in its domain, where the iterators have these
-- values.
pub record IsIn (iters : List ℤ) (a : Access) (arc : Arc) : Type 0 where
  pub array : arc.array ≡ a.element.array
  pub direction : direction_of arc.dir ≡ a.direction
  pub set : IsInSet arc (point_of iters) (place_of a)
  pub domain : IsInDomain arc (point_of iters) (place_of a)

-- The access is made by one of the references, in the arc's array and direction, at this place.
pub record IsTouch (sizes : ℕ → List ℕ) (qs : List Reference) (arc : Arc) (place : List ℤ) (a : Access) : Type 0 where
  pub made : IsMadeAmong sizes qs a
  pub array : a.element.array ≡ arc.array
  pub direction : a.direction ≡ direction_of arc.dir
  pub stands : place_of a ≡ place

-- ---- nests

-- A nest where it stands: the loops around it, the outermost first, its first loop, the position of this, and how many loops its band
-- has below it, where there are so many.
pub record Standing : Type 0 where
  pub around : List Loop
  pub head : Loop
  pub at : List ℕ
  pub below : ℕ

abbrev pub standing_nest : Standing → Nest
standing_nest s = nest_of s.below s.head s.at

-- the loops of the band
abbrev pub band_loops : Standing → List Loop
band_loops s = map (λ p. p.loop) (standing_nest s).loops

-- all loops around the nest's body
abbrev pub loops_of : Standing → List Loop
loops_of s = s.around ++ band_loops s

abbrev pub nest_references : Adding → Standing → List Reference
nest_references adds s = references_of adds s.head s.at (ranges_of [] s.around) (length (standing_nest s).loops)

-- the running is one of the innermost loop of the band
pub record IsInnermost (s : Standing) (r : Running) : Type 0 where
  pub loops : r.around ++ r.loop ∷ [] ≡ loops_of s
  pub at : r.at ≡ (standing_nest s).at

-- These arcs are those of some references of the nest, for a band with the bounds of its loops.
pub record AreNestArcs (sizes : ℕ → List ℕ) (adds : Adding) (s : Standing) (qs : List Reference) (arcs : List Arc) : Type 0 where
  pub among : All (λ q. IsOneOf q (nest_references adds s)) qs
  pub bands : List BandBound
  pub bounds : Pairwise (λ (l : Loop) (b : BandBound). IsBoundOf (out-Loop l) b) (band_loops s) bands
  pub refs : List Held
  pub shown : Pairwise (IsReference sizes (length s.around + length bands)) refs qs
  pub merged : AreArcsOf (length s.around) bands refs arcs

-- ---- what holds

-- Where the iterators have these values, of the accesses that are made, which may end with a trap: each is made by one of the
-- references of the nest; each that is made by one of `qs` lies in an arc; and if there was no trap, each place of the set of an
-- exact arc is touched by one of `qs`.
pub record HoldIn (sizes : ℕ → List ℕ) (iters : List ℤ) (own qs : List Reference) (arcs : List Arc) (done : List Access) (ended : Type 0) : Type 0 where
  pub made : All (IsMadeAmong sizes own) done
  pub inside : All (λ a. IsMadeAmong sizes qs a → Any (IsIn iters a) arcs) done
  pub filled : ended → All (λ arc. IsTrue arc.exact → (place : List ℤ) → IsInSet arc (point_of iters) place → Any (IsTouch sizes qs arc place) done) arcs

-- In each run of a well made unit the arcs of references of a nest hold in each turn of the innermost loop of its band, if what adds
-- is counted as an add there.
abbrev pub LinesHold : Type 0
LinesHold = (join : Joins) (u : Program) (m : Cells) (r : Running) (adds : Adding) (s : Standing) (qs : List Reference) (arcs : List Arc) (t : Turn)
    → IsWellMade u → ComesTo join u m r → IsInnermost s r → is_regular adds (stmt.For r.loop) ≡ true
    → AreNestArcs (sizes_of (source_context u)) adds s qs arcs
    → Contains (loop_turns join (source_context u) r.loop r.at r.frame r.arrays) t
    → HoldIn (sizes_of (source_context u)) t.frame.iters (nest_references adds s) qs arcs
    (accesses join (turn_of (source_context u) r.loop r.at t.frame) t.arrays) (IsDefined (run join (turn_of (source_context u) r.loop r.at t.frame) t.arrays))

-- ---- domains

-- the bound names iterators of levels below `outer` alone
abbrev pub NamesOutside : ℕ → BandBound → Type 0
NamesOutside outer b = NamesOnly b.least outer × NamesOnly b.greatest outer

-- the points agree there
abbrev pub AgreeOutside : ℕ → Point → Point → Type 0
AgreeOutside outer p q = (level : ℕ) → level < outer → p level ≡ q level

-- The domains in `LinesHold` are taken at all iterators, those of the band too, which its bounds may name. Where they name none of
-- these, a domain has the same places whatever the iterators of the band are.
abbrev pub DomainsAreOutside : Type 0
DomainsAreOutside = (outer : ℕ) (bands : List BandBound) (refs : List Held) (arcs : List Arc) (p q : Point) (place : List ℤ) → AreArcsOf outer bands refs arcs
    → All (NamesOutside outer) bands → AgreeOutside outer p q → All (λ arc. IsInDomain arc p place → IsInDomain arc q place) arcs

-- ---- additions

-- What adds in a loop to which a run of a well made unit comes is what is marked, which is nothing in a unit without marks.
abbrev pub AdditionsAreMarked : Type 0
AdditionsAreMarked = (join : Joins) (u : Program) (m : Cells) (r : Running) → IsWellMade u → ComesTo join u m r
    → (is_regular as_marked (stmt.For r.loop) ≡ true) × (IsUnmarked u → is_regular no_adds (stmt.For r.loop) ≡ true)
