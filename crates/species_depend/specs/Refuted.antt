-- The pairs of references that the tests refute in a direction: the GCD test and Banerjee's test, dimension by dimension.
use Rattle.std.specs.Prelude.{ℕ, Bool, List, slice_index_or, ◌⊎◌, All}
use Rattle.species_affine.specs.declared.subscript.Subscript.{Subscript}
use Rattle.species_affine.specs.declared.subscript.Subscript.TheVariants.{Affine, Other}
use Rattle.species_linear.specs.declared.forms.Form.{Form}
use Rattle.species_linear.specs.declared.loops.LoopRange.{LoopRange}
use Rattle.species_linear.specs.declared.loops.Direction.{Direction}
use Rattle.species_references.specs.declared.nest.Reference.{Reference}
use Rattle.species_region.specs.Region.{IsEmptyRegion}
use Rattle.species_region.specs.Asked.{ShareLoops, IsSmallPath, IsFormOver}
use Rattle.species_gcd.specs.Divisor.{DividesDifference}
use Rattle.species_banerjee.specs.Excluded.{IsExcluded}

-- Two forms of one dimension rule a pair out: the greatest common divisor of the coefficients of their difference does not
-- divide its constant; or the region has no pair, or the difference has one sign, never 0, at each.
abbrev pub FormsRuleOut : Direction → (ps qs : List LoopRange) → Form → Form → Type 0
FormsRuleOut at ps qs f g = (¬ DividesDifference f g at ps qs) ⊎ IsExcluded f g at ps qs

-- A dimension rules a pair out: its subscripts are affine on both sides, and their forms do.
abbrev pub RulesOut : Direction → (ps qs : List LoopRange) → Subscript → Subscript → Type 0
RulesOut at ps qs (Affine f) (Affine g) = FormsRuleOut at ps qs f g
RulesOut at ps qs (Affine f) Other = ⊥
RulesOut at ps qs Other t = ⊥

-- Some dimension does. Beyond the last one there is no form.
abbrev pub SomeRulesOut : Direction → (ps qs : List LoopRange) → List Subscript → List Subscript → Type 0
SomeRulesOut at ps qs ss ts = (k : ℕ) × RulesOut at ps qs (slice_index_or ss k Other) (slice_index_or ts k Other)

-- The pair is refuted in the direction: its region has no pair of points, or some dimension rules it out.
abbrev pub IsRefuted : Direction → Reference → Reference → Type 0
IsRefuted at p q = IsEmptyRegion at p.path q.path ⊎ SomeRulesOut at p.path q.path p.subs q.subs

-- ---- what the tests ask

-- the direction "less" (true) or "greater" (false) at a level of a nest, under so many outer loops
abbrev pub directed : ℕ → ℕ → Bool → Direction
directed outer level less = record { outer = outer; level = level; less = less }

-- a subscript over the iterators of the path, if it is affine
abbrev pub IsSubscriptOver : List LoopRange → Subscript → Type 0
IsSubscriptOver path (Affine f) = IsFormOver path f
IsSubscriptOver path Other = Unit {0}

-- A reference in at most 16 loops with steps and small ends, whose forms are over these loops and have small numbers.
pub record IsSmallReference (p : Reference) : Type 0 where
  pub path : IsSmallPath p.path
  pub forms : All (IsSubscriptOver p.path) p.subs

-- The pair may be tested in this direction: the loops around the two are the same down to its level.
pub record IsTestable (at : Direction) (p q : Reference) : Type 0 where
  pub loops : ShareLoops at p.path q.path
  pub first : IsSmallReference p
  pub second : IsSmallReference q
