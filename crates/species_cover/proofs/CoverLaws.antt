-- Each place of a derived arc that is covered is a place of a given arc.
use Rattle.std.proofs.Common.{◌≡◌, ap, sym, subst, arith, ℕ, List, [], ◌∷◌, slice_index_or, All, ℤ, ◌+ℤ◌, ◌-ℤ◌, Bool}
use Rattle.std.specs.Int.{◌∣◌}
use Rattle.std.specs.Int.RustNames.{unsigned_abs}
use Rattle.std.proofs.lemmas.Int.{ints}
use Rattle.species_linear.specs.Point.{Point}
use Rattle.species_linear.specs.Value.{sum_at}
use Rattle.species_arcs.specs.declared.places.Arc.{Arc}
use Rattle.species_arcs.specs.declared.places.ArcDim.{ArcDim}
use Rattle.species_arcs.specs.declared.spans.Span.{Span}
use Rattle.species_arcs.specs.Pairwise.{Pairwise}
use Rattle.species_arcs.specs.Spans.{IsInSpan}
use Rattle.species_arcs.specs.Sets.{IsInDim, IsInSet}
use Rattle.species_notation.specs.declared.given.GivenArc.{GivenArc}
use Rattle.species_notation.specs.declared.given.GivenDim.{GivenDim}
use Rattle.species_cover.specs.Cover.{CoversDim, Covers, IsCovered}
use Rattle.species_cover.specs.Places.{IsInGivenDim, HasPlace, IsInSome}

abbrev span : ℤ → ℤ → ℕ → Span
span low high stride = record { low = low; high = high; stride = stride }

-- the constant goes from the index to the offsets, and back
with_constant : (c s a b index : ℤ) (t : ℕ) → IsInSpan (span a b t) (index -ℤ (c +ℤ s)) → IsInSpan (span (c +ℤ a) (c +ℤ b) t) (index -ℤ s)
with_constant c s a b index t (low, high, divides) =
    let far : (index -ℤ (c +ℤ s)) -ℤ a ≡ (index -ℤ s) -ℤ (c +ℤ a) = omega (arith, ints) in
    let same : unsigned_abs ((index -ℤ (c +ℤ s)) -ℤ a) ≡ unsigned_abs ((index -ℤ s) -ℤ (c +ℤ a)) = ap unsigned_abs far in
    (omega (arith, ints, low), omega (arith, ints, high), subst (λ n. t ∣ n) same divides)

without_constant : (c s a b index : ℤ) (t : ℕ) → IsInSpan (span (c +ℤ a) (c +ℤ b) t) (index -ℤ s) → IsInSpan (span a b t) (index -ℤ (c +ℤ s))
without_constant c s a b index t (low, high, divides) =
    let far : (index -ℤ s) -ℤ (c +ℤ a) ≡ (index -ℤ (c +ℤ s)) -ℤ a = omega (arith, ints) in
    let same : unsigned_abs ((index -ℤ s) -ℤ (c +ℤ a)) ≡ unsigned_abs ((index -ℤ (c +ℤ s)) -ℤ a) = ap unsigned_abs far in
    (omega (arith, ints, low), omega (arith, ints, high), subst (λ n. t ∣ n) same divides)

dim_place : (exact : Bool) (iters : Point) (g : GivenDim) (d : ArcDim) (index : ℤ) → CoversDim exact g d → IsInDim d iters index → IsInGivenDim iters g index
dim_place exact iters g d index c is =
    let s = sum_at d.at.terms iters in
    let given = c.indices (index -ℤ s) (with_constant d.at.constant s d.a d.b index d.stride is) in
    let same : s ≡ sum_at g.at.terms iters = ap (λ ts. sum_at ts iters) (sym c.terms) in
    subst (λ z. IsInSpan (span g.a g.b g.stride) (index -ℤ (g.at.constant +ℤ z))) same
    (without_constant g.at.constant s g.a g.b index g.stride given)

arc_place : (exact : Bool) (iters : Point) (gs : List GivenDim) (ds : List ArcDim) (place : List ℤ) → Pairwise (CoversDim exact) gs ds
    → Pairwise (λ d index. IsInDim d iters index) ds place → Pairwise (IsInGivenDim iters) gs place
arc_place exact iters [] [] place c is = none place is
  where
    none : (place : List ℤ) → Pairwise (λ d index. IsInDim d iters index) [] place → Pairwise (IsInGivenDim iters) [] place
    none [] h = tt
    none (i ∷ place) h = absurd h
arc_place exact iters [] (d ∷ ds) place c is = absurd c
arc_place exact iters (g ∷ gs) [] place c is = absurd c
arc_place exact iters (g ∷ gs) (d ∷ ds) [] c is = absurd is
arc_place exact iters (g ∷ gs) (d ∷ ds) (i ∷ place) c is = (dim_place exact iters g d i c.0 is.0, arc_place exact iters gs ds place c.1 is.1)

place_of : (iters : Point) (place : List ℤ) (d : Arc) (g : GivenArc) → Covers g d → IsInSet d iters place → HasPlace d iters place g
place_of iters place d g c is = record {
  array = c.array;
  direction = c.direction;
  known = c.known;
  indices = arc_place g.exact iters g.dims d.dims place c.dims is;
}

some_place : (given : List GivenArc) (d : Arc) (iters : Point) (place : List ℤ) → IsCovered given d → IsInSet d iters place → IsInSome d iters place given
some_place given d iters place h is = (h.0, h.1, h.2, h.3, place_of iters place d h.1 h.4 is)

-- the law
pub covered_places : (given : List GivenArc) (derived : List Arc) (iters : Point) (place : List ℤ) → All (IsCovered given) derived
    → All (λ d. IsInSet d iters place → IsInSome d iters place given) derived
covered_places given derived iters place all i d l is = some_place given (slice_index_or derived i d) iters place (all i d l) is
