-- Each number of a box whose dimension has one inner iterator is taken.
use Rattle.std.proofs.Common.{◌≡◌, ◌≢◌, ◌⊎◌, inl, inr, ◌∙◌, refl, ap, sym, subst, arith, ℕ, zero, suc, ◌*◌, ◌/◌, Bool, true, false, nat_eq, if◌then◌else◌, List, [], ◌∷◌, drop, ℤ, pos, negsuc, ◌+ℤ◌, ◌-ℤ◌, ◌*ℤ◌, ◌≤ℤ◌, ◌<ℤ◌, All}
use Rattle.std.specs.Int.{◌∣◌}
use Rattle.std.specs.Int.RustNames.{unsigned_abs}
use Rattle.std.specs.Ordering.{int_eq}
use Rattle.std.proofs.lemmas.Int.{ints}
use Rattle.std.proofs.lemmas.Bool.{eqb-true}
use Rattle.std.proofs.lemmas.Bool.Decides.{Decides-int_eq}
use Rattle.std.proofs.Math.Nat.{dvd-mul_left, div-add-mod', mod-eq-zero_of_dvd}
use Rattle.std.proofs.lemmas.Nat.Gcd.{dvd_refl, dvd-zero}
use Rattle.species_arcs.specs.Spans.{IsInSpan}
use Rattle.species_arcs.specs.declared.spans.Span.{Span}
use Rattle.species_ast.specs.Scope.Forms.{Form, sum_of}
use Rattle.species_ast.specs.Scope.Hulls.{Range, least_product, greatest_product, least_sum, greatest_sum}
use Rattle.species_integers.proofs.Products.{mul_up, mul_down, mul_plus, mul_minus, mul_zero, mul_one}
use Rattle.species_occurrences.specs.Iterators.{MayTake, AreTaken}
use Rattle.species_references.specs.Boxes.{inner_part, unit_of, gap_of, gaps_of, IsGcdOf, IsBoxOf}
use Rattle.species_merge.proofs.Divides.{dvd_at, dvd_nothing, dvd_ways, dvd_turned, dvd_through, same_or_not}
use Rattle.species_merge.proofs.Folding.{Each, each_of, all_of}
use Rattle.species_merge.specs.Law.{IsFullyTaken}

-- a range that is not empty, all of whose numbers in whole units are taken
pub record IsWhole (r : Range) : Type 0 where
  pub some : r.low ≤ℤ r.high
  pub settled : IsFullyTaken r

abbrev pub AreWhole : List Range → Type 0
AreWhole path = Each IsWhole path

quotient : (d n : ℕ) → d ∣ n → (k : ℕ) × (n ≡ k * d)
quotient d n h = (n / d, omega (arith, div-add-mod' n d, mod-eq-zero_of_dvd d h))

-- ---- order, backwards

not_before : (x y : ℤ) → (x ≤ℤ y) ⊎ ((y +ℤ pos 1) ≤ℤ x)
not_before x y = grind (arith, ints)

back_up : (c x y : ℤ) → pos 0 <ℤ c → (c *ℤ x) ≤ℤ (c *ℤ y) → x ≤ℤ y
back_up c x y p h = elim (not_before x y) [
  | inl q ↦ q
  | inr q ↦ absurd (omega (arith, ints, p, h, mul_up c (y +ℤ pos 1) x (omega (arith, ints, p)) q, mul_plus c y (pos 1), mul_one c))
]

back_down : (c x y : ℤ) → c <ℤ pos 0 → (c *ℤ y) ≤ℤ (c *ℤ x) → x ≤ℤ y
back_down c x y p h = elim (not_before x y) [
  | inl q ↦ q
  | inr q ↦ absurd (omega (arith, ints, p, h, mul_down c (y +ℤ pos 1) x (omega (arith, ints, p)) q, mul_plus c y (pos 1), mul_one c))
]

-- ---- one term

abbrev Taken : ℤ → Range → ℤ → Type 0
Taken c r w = (i : ℤ) × MayTake r i × (c *ℤ i ≡ w)

turned : (n k u : ℕ) → n * (k * u) ≡ k * (n * u)
turned n k u = omega arith

steps_up : (n k u : ℕ) → pos n *ℤ pos (k * u) ≡ pos (k * (n * u))
steps_up n k u = ap pos (turned n k u)

steps_down : (m k u : ℕ) → negsuc m *ℤ pos (k * u) ≡ pos 0 -ℤ pos (k * (suc m * u))
steps_down m k u = omega (arith, ints, turned (suc m) k u)

above : (x y : ℤ) (k : ℕ) → y ≤ℤ x → unsigned_abs (x -ℤ y) ≡ k → x ≡ y +ℤ pos k
above x y k p e = grind (arith, ints)

taken_up : (n : ℕ) (r : Range) (w : ℤ) → IsWhole r → pos 0 <ℤ pos n → (pos n *ℤ r.low) ≤ℤ w → w ≤ℤ (pos n *ℤ r.high) → (n * unit_of r) ∣ unsigned_abs (w -ℤ pos n *ℤ r.low) → Taken (pos n) r w
taken_up n r w whole p a b d =
    let q = quotient (n * unit_of r) (unsigned_abs (w -ℤ pos n *ℤ r.low)) d in
    let far : ℤ = pos (q.0 * unit_of r) in
    let is : pos n *ℤ (r.low +ℤ far) ≡ w = omega (arith, ints, mul_plus (pos n) r.low far, steps_up n q.0 (unit_of r), above w (pos n *ℤ r.low) (q.0 * (n * unit_of r)) a q.1) in (
      r.low +ℤ far,
      whole.settled.taken (r.low +ℤ far) (omega (arith, ints)) (back_up (pos n) (r.low +ℤ far) r.high p (omega (arith, ints, is, b)))
          (dvd_at (unit_of r) far ((r.low +ℤ far) -ℤ r.low) (omega (arith, ints)) (dvd-mul_left (unit_of r) q.0)),
      is,
    )

taken_down : (m : ℕ) (r : Range) (w : ℤ) → IsWhole r → (negsuc m *ℤ r.high) ≤ℤ w → w ≤ℤ (negsuc m *ℤ r.low) → (suc m * unit_of r) ∣ unsigned_abs (w -ℤ negsuc m *ℤ r.high) → Taken (negsuc m) r w
taken_down m r w whole a b d =
    let q = quotient (suc m * unit_of r) (unsigned_abs (w -ℤ negsuc m *ℤ r.high)) d in
    let far : ℤ = pos (q.0 * unit_of r) in
    let p : negsuc m <ℤ pos 0 = omega (arith, ints) in
    let is : negsuc m *ℤ (r.high -ℤ far) ≡ w = omega (arith, ints, mul_minus (negsuc m) r.high far, steps_down m q.0 (unit_of r), above w (negsuc m *ℤ r.high) (q.0 * (suc m * unit_of r)) a q.1) in
    let back : unit_of r ∣ unsigned_abs ((r.high -ℤ far) -ℤ r.high) =
    dvd_turned (unit_of r) r.high (r.high -ℤ far) (dvd_at (unit_of r) far (r.high -ℤ (r.high -ℤ far)) (omega (arith, ints)) (dvd-mul_left (unit_of r) q.0)) in (
      r.high -ℤ far,
      whole.settled.taken (r.high -ℤ far) (back_down (negsuc m) r.low (r.high -ℤ far) p (omega (arith, ints, is, b))) (omega (arith, ints))
          (dvd_ways (unit_of r) (r.high -ℤ far) r.high r.low back whole.settled.whole),
      is,
    )

low_taken : (r : Range) → IsWhole r → MayTake r r.low
low_taken r whole = whole.settled.taken r.low (omega (arith, ints)) whole.some (dvd_nothing (unit_of r) r.low r.low refl)

pub taken : (c : ℤ) (r : Range) (w : ℤ) → c ≢ pos 0 → IsWhole r → least_product c r ≤ℤ w → w ≤ℤ greatest_product c r → gap_of c r ∣ unsigned_abs (w -ℤ least_product c r) → Taken c r w
taken (pos n) r w some whole a b d = go (int_eq r.low r.high) refl d
  where
    go : (t : Bool) → int_eq r.low r.high ≡ t → (if t then 0 else n * unit_of r) ∣ unsigned_abs (w -ℤ pos n *ℤ r.low) → Taken (pos n) r w
    go true is g =
        let ends = ap (λ z. pos n *ℤ z) ((Decides-int_eq r.low r.high).0 is) in (r.low, low_taken r whole, omega (arith, ints, a, b, ends))
    go false is g = taken_up n r w whole (omega (arith, ints, some)) a b g
taken (negsuc m) r w some whole a b d = go (int_eq r.low r.high) refl d
  where
    go : (t : Bool) → int_eq r.low r.high ≡ t → (if t then 0 else suc m * unit_of r) ∣ unsigned_abs (w -ℤ negsuc m *ℤ r.high) → Taken (negsuc m) r w
    go true is g =
        let ends = ap (λ z. negsuc m *ℤ z) ((Decides-int_eq r.low r.high).0 is) in (r.low, low_taken r whole, omega (arith, ints, a, b, ends))
    go false is g = taken_down m r w whole a b g

-- ---- coefficients

abbrev pub AreZero : List ℤ → Type 0
AreZero cs = Each (λ c. c ≡ pos 0) cs

-- at most one coefficient is other than 0
abbrev pub IsAlone : List ℤ → Type 0
IsAlone [] = Unit {0}
IsAlone (c ∷ cs) = ((c ≡ pos 0) × IsAlone cs) ⊎ AreZero cs

-- no iterator has a coefficient other than 0 in both
abbrev pub AreApart : List ℤ → List ℤ → Type 0
AreApart [] ds = Unit {0}
AreApart (c ∷ cs) [] = Unit {0}
AreApart (c ∷ cs) (d ∷ ds) = ((c ≡ pos 0) ⊎ (d ≡ pos 0)) × AreApart cs ds

least_product_zero : (c : ℤ) (r : Range) → c ≡ pos 0 → least_product c r ≡ pos 0
least_product_zero (pos n) r z = ap (λ x. x *ℤ r.low) z ∙ mul_zero r.low
least_product_zero (negsuc m) r z = absurd (cc z)

greatest_product_zero : (c : ℤ) (r : Range) → c ≡ pos 0 → greatest_product c r ≡ pos 0
greatest_product_zero (pos n) r z = ap (λ x. x *ℤ r.high) z ∙ mul_zero r.high
greatest_product_zero (negsuc m) r z = absurd (cc z)

sum_zero : (cs is : List ℤ) → AreZero cs → sum_of cs is ≡ pos 0
sum_zero [] is z = refl
sum_zero (c ∷ cs) [] z = refl
sum_zero (c ∷ cs) (i ∷ is) z = omega (arith, ints, ap (λ x. x *ℤ i) z.0, mul_zero i, sum_zero cs is z.1)

least_zero : (cs : List ℤ) (path : List Range) → AreZero cs → least_sum cs path ≡ pos 0
least_zero [] path z = refl
least_zero (c ∷ cs) [] z = refl
least_zero (c ∷ cs) (r ∷ path) z = omega (arith, ints, least_product_zero c r z.0, least_zero cs path z.1)

greatest_zero : (cs : List ℤ) (path : List Range) → AreZero cs → greatest_sum cs path ≡ pos 0
greatest_zero [] path z = refl
greatest_zero (c ∷ cs) [] z = refl
greatest_zero (c ∷ cs) (r ∷ path) z = omega (arith, ints, greatest_product_zero c r z.0, greatest_zero cs path z.1)

gap_zero : (c : ℤ) (r : Range) → c ≡ pos 0 → gap_of c r ≡ 0
gap_zero c r z = go (int_eq r.low r.high)
  where
    go : (t : Bool) → (if t then 0 else unsigned_abs c * unit_of r) ≡ 0
    go true = refl
    go false = rw z (omega arith)

gaps_zero : (d : ℕ) (cs : List ℤ) (path : List Range) → AreZero cs → Each (λ n. d ∣ n) (gaps_of cs path)
gaps_zero d [] path z = tt
gaps_zero d (c ∷ cs) [] z = tt
gaps_zero d (c ∷ cs) (r ∷ path) z = (rw (gap_zero c r z.0) (dvd-zero d), gaps_zero d cs path z.1)

-- ---- the sum

-- Iterators at which a dimension has a value, and each dimension apart from it the value that it had.
pub record Reached (cs : List ℤ) (path : List Range) (js : List ℤ) (w : ℤ) : Type 0 where
  pub iters : List ℤ
  pub on : AreTaken path iters
  pub sum : sum_of cs iters ≡ w
  pub kept : (ds : List ℤ) → AreApart cs ds → sum_of ds iters ≡ sum_of ds js

kept_after : (c i j : ℤ) (cs is js : List ℤ) → ((ds : List ℤ) → AreApart cs ds → sum_of ds is ≡ sum_of ds js) → (c ≢ pos 0) ⊎ (i ≡ j) →
    (ds : List ℤ) → AreApart (c ∷ cs) ds → sum_of ds (i ∷ is) ≡ sum_of ds (j ∷ js)
kept_after c i j cs is js kept first [] a = refl
kept_after c i j cs is js kept (inr e) (d ∷ ds) a = omega (arith, ints, ap (λ z. d *ℤ z) e, kept ds a.1)
kept_after c i j cs is js kept (inl some) (d ∷ ds) (inl z, a) = absurd (some z)
kept_after c i j cs is js kept (inl some) (d ∷ ds) (inr z, a) =
    omega (arith, ints, ap (λ z. z *ℤ i) z, ap (λ z. z *ℤ j) z, mul_zero i, mul_zero j, kept ds a)

reach_zero : (cs : List ℤ) (path : List Range) (js : List ℤ) (w : ℤ) → AreZero cs → AreTaken path js → w ≡ pos 0 → Reached cs path js w
reach_zero cs path js w z on e = record { iters = js; on = on; sum = omega (arith, ints, sum_zero cs js z, e); kept = λ ds a. refl }

-- where the ends and the common divisors allow it
pub reach : (cs : List ℤ) (path : List Range) (js : List ℤ) (w : ℤ) → IsAlone cs → AreWhole path → AreTaken path js → least_sum cs path ≤ℤ w → w ≤ℤ greatest_sum cs path →
    ((d : ℕ) → Each (λ n. d ∣ n) (gaps_of cs path) → d ∣ unsigned_abs (w -ℤ least_sum cs path)) → Reached cs path js w
reach [] path js w alone whole on a b ways = reach_zero [] path js w tt on (omega (arith, ints, a, b))
reach (c ∷ cs) [] [] w alone whole on a b ways = record { iters = []; on = tt; sum = omega (arith, ints, a, b); kept = λ ds h. refl }
reach (c ∷ cs) [] (j ∷ js) w alone whole on a b ways = absurd on
reach (c ∷ cs) (r ∷ path) [] w alone whole on a b ways = absurd on
reach (c ∷ cs) (r ∷ path) (j ∷ js) w (inl (z, alone)) whole on a b ways =
    let rest = reach cs path js w alone whole.1 on.1
    (omega (arith, ints, a, least_product_zero c r z)) (omega (arith, ints, b, greatest_product_zero c r z))
    (λ d g. dvd_at d (w -ℤ (least_product c r +ℤ least_sum cs path)) (w -ℤ least_sum cs path) (omega (arith, ints, least_product_zero c r z))
    (ways d (rw (gap_zero c r z) (dvd-zero d), g))) in
    record {
      iters = j ∷ rest.iters;
      on = (on.0, rest.on);
      sum = omega (arith, ints, rest.sum, ap (λ x. x *ℤ j) z, mul_zero j);
      kept = kept_after c j j cs rest.iters js rest.kept (inr refl);
    }
reach (c ∷ cs) (r ∷ path) (j ∷ js) w (inr zeros) whole on a b ways = elim (same_or_not c (pos 0)) [
  | inl z ↦ reach_zero (c ∷ cs) (r ∷ path) (j ∷ js) w (z, zeros) on (omega (arith, ints, a, b, least_product_zero c r z, greatest_product_zero c r z, least_zero cs path zeros, greatest_zero cs path zeros))
  | inr some ↦ at some (taken c r w some whole.0 (omega (arith, ints, a, least_zero cs path zeros)) (omega (arith, ints, b, greatest_zero cs path zeros))
      (dvd_at (gap_of c r) (w -ℤ (least_product c r +ℤ least_sum cs path)) (w -ℤ least_product c r) (omega (arith, ints, least_zero cs path zeros))
      (ways (gap_of c r) (dvd_refl (gap_of c r), gaps_zero (gap_of c r) cs path zeros))))
]
  where
    at : c ≢ pos 0 → Taken c r w → Reached (c ∷ cs) (r ∷ path) (j ∷ js) w
    at some t = record {
      iters = t.0 ∷ js;
      on = (t.1, on.1);
      sum = omega (arith, ints, t.2, sum_zero cs js zeros);
      kept = kept_after c t.0 j cs js js (λ ds h. refl) (inl some);
    }

-- ---- a box

-- where each gap is 0, the sum has one value
product_single : (c : ℤ) (r : Range) → IsWhole r → gap_of c r ≡ 0 → least_product c r ≡ greatest_product c r
product_single c r whole g = go (int_eq r.low r.high) refl g
  where
    both : (d : ℤ) → r.low ≡ r.high → least_product d r ≡ greatest_product d r
    both (pos n) e = ap (λ z. pos n *ℤ z) e
    both (negsuc m) e = ap (λ z. negsuc m *ℤ z) (sym e)

    none : (n u : ℕ) → n * u ≡ 0 → (n ≡ 0) ⊎ (u ≡ 0)
    none zero u e = inl refl
    none (suc n) zero e = inr refl
    none (suc n) (suc u) e = absurd (omega (arith, e))

    same : unit_of r ≡ 0 → r.low ≡ r.high
    same e = let q = quotient (unit_of r) (unsigned_abs (r.high -ℤ r.low)) whole.settled.whole in
        let none : q.0 * 0 ≡ 0 = omega arith in
        let far : unsigned_abs (r.high -ℤ r.low) ≡ 0 = q.1 ∙ ap (λ (z : ℕ). q.0 * z) e ∙ none in grind (arith, ints, far)

    go : (t : Bool) → int_eq r.low r.high ≡ t → (if t then 0 else unsigned_abs c * unit_of r) ≡ 0 → least_product c r ≡ greatest_product c r
    go true is e = both c ((Decides-int_eq r.low r.high).0 is)
    go false is e = elim (none (unsigned_abs c) (unit_of r) e) [
      | inl z ↦ (let zero_c : c ≡ pos 0 = grind (arith, ints, z) in least_product_zero c r zero_c ∙ sym (greatest_product_zero c r zero_c))
      | inr z ↦ both c (same z)
    ]

sum_single : (cs : List ℤ) (path : List Range) → AreWhole path → Each (λ n. n ≡ 0) (gaps_of cs path) → least_sum cs path ≡ greatest_sum cs path
sum_single [] path whole g = refl
sum_single (c ∷ cs) [] whole g = refl
sum_single (c ∷ cs) (r ∷ path) whole g = omega (arith, ints, product_single c r whole.0 g.0, sum_single cs path whole.1 g.1)

nothing_divided : (ns : List ℕ) → Each (λ n. 0 ∣ n) ns → Each (λ n. n ≡ 0) ns
nothing_divided [] h = tt
nothing_divided (n ∷ ns) h = let q = quotient 0 n h.0 in (omega (arith, q.1), nothing_divided ns h.1)

-- what divides each gap divides the way from the low end to each number of the box
pub box_ways : (inner : ℕ) (path more : List Range) (f : Form) (x : Span) (v : ℤ) → drop inner path ≡ more → AreWhole more → IsBoxOf inner path f x → IsInSpan x v
    → (d : ℕ) → Each (λ n. d ∣ n) (gaps_of (inner_part inner f).coefficients more) → d ∣ unsigned_abs (v -ℤ x.low)
box_ways inner path more f x v e whole b h d g = go (nat_eq b.stride.0 0) refl
  where
    cs : List ℤ
    cs = (inner_part inner f).coefficients

    gcd : IsGcdOf (gaps_of cs more) b.stride.0
    gcd = subst (λ p. IsGcdOf (gaps_of cs p) b.stride.0) e b.stride.1

    go : (t : Bool) → nat_eq b.stride.0 0 ≡ t → d ∣ unsigned_abs (v -ℤ x.low)
    go true is =
        let none : b.stride.0 ≡ 0 = eqb-true b.stride.0 0 is in
        let zeros = nothing_divided (gaps_of cs more) (each_of (λ n. 0 ∣ n) (gaps_of cs more) (subst (λ z. All (λ n. z ∣ n) (gaps_of cs more)) none gcd.0)) in
        let ends = sum_single cs more whole zeros in
        let low : x.low ≡ f.constant +ℤ least_sum cs more = b.low ∙ ap (λ p. f.constant +ℤ least_sum cs p) e in
        let high : x.high ≡ f.constant +ℤ greatest_sum cs more = b.high ∙ ap (λ p. f.constant +ℤ greatest_sum cs p) e in
        dvd_nothing d v x.low (omega (arith, ints, ends, low, high, h.0, h.1))
    go false is =
        let stride : x.stride ≡ b.stride.0 = b.stride.2 ∙ rw is refl in
        dvd_through d x.stride (unsigned_abs (v -ℤ x.low)) (subst (λ z. d ∣ z) (sym stride) (gcd.1 d (λ k n l. all k n l))) h.2
      where
        all : All (λ n. d ∣ n) (gaps_of cs more)
        all = all_of (λ n. d ∣ n) (gaps_of cs more) g

-- the inner part of the form takes each number of the box
pub reach_box : (inner : ℕ) (path more : List Range) (f : Form) (x : Span) (js : List ℤ) (v : ℤ) → drop inner path ≡ more → AreWhole more → IsAlone (drop inner f.coefficients) → AreTaken more js
    → IsBoxOf inner path f x → IsInSpan x v → Reached (drop inner f.coefficients) more js (v -ℤ f.constant)
reach_box inner path more f x js v e whole alone on b h =
    let cs = drop inner f.coefficients in
    let low : x.low ≡ f.constant +ℤ least_sum cs more = b.low ∙ ap (λ p. f.constant +ℤ least_sum cs p) e in
    let high : x.high ≡ f.constant +ℤ greatest_sum cs more = b.high ∙ ap (λ p. f.constant +ℤ greatest_sum cs p) e in
    reach cs more js (v -ℤ f.constant) alone whole on (omega (arith, ints, low, h.0)) (omega (arith, ints, high, h.1))
    (λ d g. dvd_at d (v -ℤ x.low) ((v -ℤ f.constant) -ℤ least_sum cs more) (omega (arith, ints, low)) (box_ways inner path more f x v e whole b h d g))
