-- The extent of a form's inner terms on the way, term by term.
use Rattle.std.proofs.Common.{◌≡◌, ap, sym, ◌∙◌, subst, arith, ℕ, zero, suc, ◌+◌, ◌*◌, ◌^◌, ◌<◌, ◌≤◌, nat_eq, if◌then◌else◌, List, [], ◌∷◌, length, drop, ℤ, pos, negsuc, ◌+ℤ◌, ◌*ℤ◌}
use Rattle.std.specs.Prelude.{slice_index_or}
use Rattle.std.specs.Int.{◌∣◌, IsGcd}
use Rattle.std.specs.Int.RustNames.{unsigned_abs}
use Rattle.std.proofs.Math.IntN.{*ℤ_comm}
use Rattle.std.proofs.lemmas.Int.{ints}
use Rattle.std.proofs.lemmas.List.{at_drop_more, at_drop_all}
use Rattle.std.proofs.lemmas.Nat.Gcd.{dvd_refl, dvd_trans, dvd-zero}
use Rattle.species_integers.proofs.Products.{mul_zero}
use Rattle.species_arcs.specs.declared.spans.Span.{Span}
use Rattle.species_ast.specs.Scope.Forms as text
use Rattle.species_ast.specs.Scope.Hulls.{Range, least_product, greatest_product}
use Rattle.species_affine.specs.Subscript.{IsSameForm}
use Rattle.species_linear.specs.declared.forms.Form.{Form}
use Rattle.species_linear.specs.declared.forms.Term.{Term}
use Rattle.species_linear.specs.declared.loops.LoopRange.{LoopRange}
use Rattle.species_linear.specs.Rising.{IsRising, IsRisingFrom}
use Rattle.species_linear.specs.Value.{coefficient_at}
use Rattle.species_linear.specs.Box.{zero_range}
use Rattle.species_references.specs.declared.boxes.Extent.{Extent}
use Rattle.species_references.specs.Ranges.{range_seen, ranges_seen}
use Rattle.species_references.specs.Boxes.{gap_of, IsBoxOf}
use Rattle.species_references.proofs.LevelLemmas.{levels, DividesLevels, range_in, term_more, gap_more, no_levels, no_gaps, least_nothing, greatest_nothing, least_levels, greatest_levels, gap_levels}

-- the inner levels of loops with these ranges
abbrev inner_sum : (ℤ → Range → ℤ) → List Term → ℕ → List LoopRange → ℤ
inner_sum part ts inner path = levels part (coefficient_at ts) inner (drop inner (ranges_seen path))

abbrev DividesInner : ℕ → List Term → ℕ → List LoopRange → Type 0
DividesInner d ts inner path = DividesLevels d (coefficient_at ts) inner (drop inner (ranges_seen path))

-- The extent of the first i terms: with the others it is that of the whole, and it is small.
pub record IsExtent (ts : List Term) (constant : ℤ) (inner : ℕ) (path : List LoopRange) (i : ℕ) (e : Extent) : Type 0 where
  pub low : e.low +ℤ inner_sum least_product (drop i ts) inner path ≡ constant +ℤ inner_sum least_product ts inner path
  pub high : e.high +ℤ inner_sum greatest_product (drop i ts) inner path ≡ constant +ℤ inner_sum greatest_product ts inner path
  pub split : (d : ℕ) → DividesInner d ts inner path → (d ∣ e.divisor) × DividesInner d (drop i ts) inner path
  pub joined : (d : ℕ) → d ∣ e.divisor → DividesInner d (drop i ts) inner path → DividesInner d ts inner path
  pub small_low : unsigned_abs e.low ≤ (1 + i) * 2 ^ 94
  pub small_high : unsigned_abs e.high ≤ (1 + i) * 2 ^ 94

pub extent_none : (ts : List Term) (constant : ℤ) (inner : ℕ) (path : List LoopRange) (e : Extent) → unsigned_abs constant ≤ 2 ^ 94 → e.low ≡ constant → e.high ≡ constant → e.divisor ≡ 0
    → IsExtent ts constant inner path 0 e
extent_none ts constant inner path e small low high divisor = record {
  low = ap (λ z. z +ℤ inner_sum least_product ts inner path) low;
  high = ap (λ z. z +ℤ inner_sum greatest_product ts inner path) high;
  split = λ d h. (subst (λ n. d ∣ n) (sym divisor) (dvd-zero d), h);
  joined = λ d p h. h;
  small_low = omega (arith, small, ap unsigned_abs low);
  small_high = omega (arith, small, ap unsigned_abs high);
}

-- the terms that are left rise
rising_left : (k i : ℕ) (ts : List Term) (d : Term) → IsRisingFrom k ts → i < length ts → IsRisingFrom k (slice_index_or ts i d ∷ drop (i + 1) ts)
rising_left k i ts d rising below =
    let one : i + 1 ≡ suc i = omega arith in
    subst (λ n. IsRisingFrom k (slice_index_or ts i d ∷ drop n ts)) (sym one) (go k i ts rising below)
  where
    lower : (j k : ℕ) (us : List Term) → j ≤ k → IsRisingFrom k us → IsRisingFrom j us
    lower j k [] h r = tt
    lower j k (u ∷ us) h r = (omega (arith, h, r.0), r.1, r.2)

    go : (k i : ℕ) (us : List Term) → IsRisingFrom k us → i < length us → IsRisingFrom k (slice_index_or us i d ∷ drop (suc i) us)
    go k i [] r h = absurd (omega (arith, h))
    go k zero (u ∷ us) r h = r
    go k (suc i) (u ∷ us) r h = lower k (u.level + 1) (slice_index_or us i d ∷ drop (suc i) us) (omega (arith, r.0)) (go (u.level + 1) i us r.2 (omega (arith, h)))

-- there are at least as many levels before a term as there are terms
pub place_below_level : (k i : ℕ) (ts : List Term) (d : Term) → IsRisingFrom k ts → i < length ts → k + i ≤ (slice_index_or ts i d).level
place_below_level k i [] d r h = absurd (omega (arith, h))
place_below_level k zero (t ∷ ts) d r h = omega (arith, r.0)
place_below_level k (suc i) (t ∷ ts) d r h = omega (arith, r.0, place_below_level (t.level + 1) i ts d r.2 (omega (arith, h)))

pub extent_next : (ts : List Term) (constant : ℤ) (inner : ℕ) (path : List LoopRange) (i : ℕ) (d : Term) (range : LoopRange) (e next : Extent) → IsRising ts → i < length ts
    → range ≡ range_in path inner (slice_index_or ts i d).level
    → next.low ≡ e.low +ℤ least_product (slice_index_or ts i d).coefficient (range_seen range) → next.high ≡ e.high +ℤ greatest_product (slice_index_or ts i d).coefficient (range_seen range)
    → IsGcd e.divisor (gap_of (slice_index_or ts i d).coefficient (range_seen range)) next.divisor
    → unsigned_abs next.low ≤ unsigned_abs e.low + 2 ^ 94 → unsigned_abs next.high ≤ unsigned_abs e.high + 2 ^ 94
    → IsExtent ts constant inner path i e → IsExtent ts constant inner path (i + 1) next
extent_next ts constant inner path i d range e next rising below is low high divisor grows_low grows_high so =
    let t : Term = slice_index_or ts i d in
    let rest : List Term = drop (i + 1) ts in
    let left : IsRisingFrom 0 (t ∷ rest) = rising_left 0 i ts d rising below in
    let there : range_seen range ≡ range_seen (range_in path inner t.level) = ap range_seen is in
    record {
      low =
          let cut = at_drop_more (λ us. inner_sum least_product us inner path) ts i d below in
          let first = term_more least_product t rest inner 0 path least_nothing (least_single t.coefficient) left in
          omega (arith, ints, so.low, low, cut, first, ap (least_product t.coefficient) there);
      high =
          let cut = at_drop_more (λ us. inner_sum greatest_product us inner path) ts i d below in
          let first = term_more greatest_product t rest inner 0 path greatest_nothing (greatest_single t.coefficient) left in
          omega (arith, ints, so.high, high, cut, first, ap (greatest_product t.coefficient) there);
      split = λ n h.
          let parts = so.split n h in
          let first = (gap_more n t rest inner 0 path left).0 (at_drop_more_to n parts.1) in
          (divisor.2 n parts.0 (subst (λ m. n ∣ gap_of t.coefficient m) (sym there) first.0), first.1);
      joined = λ n p h.
          so.joined n (dvd_trans n p divisor.0)
          (at_drop_more_from n ((gap_more n t rest inner 0 path left).1 (subst (λ m. n ∣ gap_of t.coefficient m) there (dvd_trans n p divisor.1), h)));
      small_low = omega (arith, so.small_low, grows_low);
      small_high = omega (arith, so.small_high, grows_high);
    }
  where
    at_drop_more_to : (n : ℕ) → DividesInner n (drop i ts) inner path → DividesInner n (slice_index_or ts i d ∷ drop (i + 1) ts) inner path
    at_drop_more_to n h = subst (λ us. DividesInner n us inner path) (at_drop_more (λ us. us) ts i d below) h

    at_drop_more_from : (n : ℕ) → DividesInner n (slice_index_or ts i d ∷ drop (i + 1) ts) inner path → DividesInner n (drop i ts) inner path
    at_drop_more_from n h = subst (λ us. DividesInner n us inner path) (sym (at_drop_more (λ us. us) ts i d below)) h

    zero_times : (x : ℤ) → x *ℤ pos 0 ≡ pos 0
    zero_times x = *ℤ_comm x (pos 0) ∙ mul_zero x

    least_single : (x : ℤ) → least_product x (range_seen zero_range) ≡ pos 0
    least_single (pos n) = zero_times (pos n)
    least_single (negsuc n) = zero_times (negsuc n)

    greatest_single : (x : ℤ) → greatest_product x (range_seen zero_range) ≡ pos 0
    greatest_single (pos n) = zero_times (pos n)
    greatest_single (negsuc n) = zero_times (negsuc n)

-- the numbers of a form all of whose terms are taken
pub extent_all : (g : Form) (f : text.Form) (ts : List Term) (inner : ℕ) (path : List LoopRange) (i : ℕ) (e : Extent) (x : Span) → IsSameForm g f → ts ≡ g.terms → length ts ≤ i
    → IsExtent ts g.constant inner path i e → x ≡ record { low = e.low; high = e.high; stride = if nat_eq e.divisor 0 then 1 else e.divisor } → IsBoxOf inner (ranges_seen path) f x
extent_all g f ts inner path i e x same terms past first is =
    let so = subst (λ us. IsExtent us g.constant inner path i e) terms first in
    let none : drop i g.terms ≡ [] = ap (drop i) (sym terms) ∙ at_drop_all (λ us. us) ts i past in
    let rest = drop inner (ranges_seen path) in
    record {
      low =
          let left = no_levels least_product (drop i g.terms) inner rest none least_nothing in
          let sum = least_levels g.terms f.coefficients inner rest same.coefficients in
          omega (arith, ints, ap (λ y. y.low) is, so.low, left, sum, same.constant);
      high =
          let left = no_levels greatest_product (drop i g.terms) inner rest none greatest_nothing in
          let sum = greatest_levels g.terms f.coefficients inner rest same.coefficients in
          omega (arith, ints, ap (λ y. y.high) is, so.high, left, sum, same.constant);
      stride = (
        e.divisor,
        (
          (gap_levels e.divisor g.terms f.coefficients inner rest same.coefficients).0 (so.joined e.divisor (dvd_refl e.divisor) (no_gaps e.divisor (drop i g.terms) inner rest none)),
          (λ d h. (so.split d ((gap_levels d g.terms f.coefficients inner rest same.coefficients).1 h)).0),
        ),
        ap (λ y. y.stride) is,
      );
    }
