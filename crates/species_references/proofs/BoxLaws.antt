-- What the iterators of inner loops add to an index lies in its box, in steps of its stride.
use Rattle.std.proofs.Common.{◌≡◌, refl, ap, sym, ◌∙◌, subst, arith, ℕ, zero, suc, ◌*◌, ◌/◌, Bool, true, false, ◌&&◌, nat_eq, if◌then◌else◌, List, [], ◌∷◌, ◌++◌, length, take, drop, append_assoc, append-nil, ℤ, pos, negsuc, ◌+ℤ◌, ◌-ℤ◌, ◌*ℤ◌, ◌≤ℤ◌, Some, All}
use Rattle.std.specs.Prelude.{int_le, is_some}
use Rattle.std.specs.Int.{◌∣◌}
use Rattle.std.specs.Int.RustNames.{unsigned_abs}
use Rattle.std.specs.Ordering.{int_eq}
use Rattle.std.proofs.lemmas.Int.{ints, unsigned_abs-mul}
use Rattle.std.proofs.lemmas.Nat.Gcd.{dvd_refl, dvd_trans, dvd-zero}
use Rattle.std.proofs.Math.Nat.{one-dvd, mul-dvd-mul_left}
use Rattle.species_integers.proofs.Divisors.{dvd_sum, dvd_difference, dvd_product_second}
use Rattle.species_integers.proofs.Products.{mul_minus}
use Rattle.species_arcs.specs.Spans.{IsInSpan}
use Rattle.species_arcs.specs.declared.spans.Span.{Span}
use Rattle.species_ast.specs.declared.tree.Loop.{Loop, out-Loop}
use Rattle.species_ast.specs.Scope.Forms.{Form, is_constant, form_value, sum_of}
use Rattle.species_ast.specs.Scope.Hulls.{Range, AreIn, has_empty, least_product, least_sum, least_of, greatest_of, last_value, last_form, bound_form, start_constant, fixed_range, wide_range, no_range, range_between, range_of}
use Rattle.species_ast.proofs.HullLaws.{least_of-below, greatest_of-above, least_of-attained, greatest_of-attained}
use Rattle.species_occurrences.specs.Iterators.{IsCounted, MayTake, AreTaken, ranges_of}
use Rattle.species_occurrences.proofs.TakenLaws.{taken_in}
use Rattle.species_references.specs.Boxes.{inner_part, has_constant_bounds, unit_of, gap_of, gaps_of, IsStrideOf, IsBoxOf}
use Rattle.species_references.specs.Law.{BoxesHoldIndices, BoxesAreExtremes}

-- ---- units

-- the number is whole units away from both ends
abbrev IsOnUnits : Range → ℤ → Type 0
IsOnUnits r i = (unit_of r ∣ unsigned_abs (i -ℤ r.low)) × (unit_of r ∣ unsigned_abs (i -ℤ r.high))

step_divides : (turn : ℕ) (step x : ℤ) → x ≡ pos turn *ℤ step → unsigned_abs step ∣ unsigned_abs x
step_divides turn step x h = subst (λ z. unsigned_abs step ∣ unsigned_abs z) (sym h) (dvd_product_second (unsigned_abs step) (pos turn) step (dvd_refl (unsigned_abs step)))

steps_divide : (turn other : ℕ) (step x : ℤ) → x ≡ (pos turn *ℤ step) -ℤ (pos other *ℤ step) → unsigned_abs step ∣ unsigned_abs x
steps_divide turn other step x h =
    subst (λ z. unsigned_abs step ∣ unsigned_abs z) (sym h)
    (dvd_difference (unsigned_abs step) (pos turn *ℤ step) (pos other *ℤ step) (step_divides turn step (pos turn *ℤ step) refl) (step_divides other step (pos other *ℤ step) refl))

on_fixed : (step first last i : ℤ) → (fixed_range step first last).low ≤ℤ i → i ≤ℤ (fixed_range step first last).high → IsCounted (Some first) step i
    → (unsigned_abs step ∣ unsigned_abs (i -ℤ (fixed_range step first last).low)) × (unsigned_abs step ∣ unsigned_abs (i -ℤ (fixed_range step first last).high))
on_fixed (pos n) first last i low high counted = (step_divides counted.0 (pos n) (i -ℤ first) (omega (arith, ints, counted.1)), go (int_le first last) refl high)
  where
    go : (t : Bool) → int_le first last ≡ t → i ≤ℤ (if t then last_value (pos n) first last else last) → n ∣ unsigned_abs (i -ℤ (if t then last_value (pos n) first last else last))
    go true is h = steps_divide counted.0 (unsigned_abs (last -ℤ first) / n) (pos n) (i -ℤ last_value (pos n) first last) (omega (arith, ints, counted.1))
    go false is h = let none : last ≤ℤ (first -ℤ pos 1) = grind (arith, ints) in absurd (omega (arith, ints, low, h, none))
on_fixed (negsuc n) first last i low high counted = (go (int_le last first) refl low, step_divides counted.0 (negsuc n) (i -ℤ first) (omega (arith, ints, counted.1)))
  where
    go : (t : Bool) → int_le last first ≡ t → (if t then last_value (negsuc n) first last else last) ≤ℤ i → suc n ∣ unsigned_abs (i -ℤ (if t then last_value (negsuc n) first last else last))
    go true is h = steps_divide counted.0 (unsigned_abs (last -ℤ first) / suc n) (negsuc n) (i -ℤ last_value (negsuc n) first last) (omega (arith, ints, counted.1))
    go false is h = let none : first ≤ℤ (last -ℤ pos 1) = grind (arith, ints) in absurd (omega (arith, ints, high, h, none))

fixed_unit : (step first last : ℤ) → unit_of (fixed_range step first last) ≡ unsigned_abs step
fixed_unit (pos n) first last = refl
fixed_unit (negsuc n) first last = refl

fixed_counted : (step first last i : ℤ) → IsCounted (fixed_range step first last).start (fixed_range step first last).step i → IsCounted (Some first) step i
fixed_counted (pos n) first last i h = h
fixed_counted (negsuc n) first last i h = h

on_fixed_range : (step first last i : ℤ) → MayTake (fixed_range step first last) i → IsOnUnits (fixed_range step first last) i
on_fixed_range step first last i h =
    let r = fixed_range step first last in
    let both = on_fixed step first last i h.0 h.1 (fixed_counted step first last i h.2) in
    (subst (λ u. u ∣ unsigned_abs (i -ℤ r.low)) (sym (fixed_unit step first last)) both.0, subst (λ u. u ∣ unsigned_abs (i -ℤ r.high)) (sym (fixed_unit step first last)) both.1)

-- of a loop whose bounds are not both constant
on_moving : (r : Range) (i : ℤ) → has_constant_bounds r ≡ false → IsOnUnits r i
on_moving r i h =
    let one : unit_of r ≡ 1 = ap (λ (t : Bool). if t then unsigned_abs r.step else 1) h in
    (subst (λ u. u ∣ unsigned_abs (i -ℤ r.low)) (sym one) (one-dvd _), subst (λ u. u ∣ unsigned_abs (i -ℤ r.high)) (sym one) (one-dvd _))

wide_moves : (path : List Range) (step : ℤ) (first last : Form) → has_constant_bounds (wide_range path step first last) ≡ (is_some (start_constant first) && is_constant last)
wide_moves path (pos n) first last = refl
wide_moves path (negsuc n) first last = refl

moving : (first last : Form) (t u : Bool) → is_constant first ≡ t → is_constant last ≡ u → (t && u) ≡ false → (is_some (start_constant first) && is_constant last) ≡ false
moving first last true true p q h = absurd cc
moving first last true false p q h = rw (p, q) refl
moving first last false u p q h = rw p refl

on_between : (path : List Range) (step : ℤ) (first last : Form) (i : ℤ) → MayTake (range_between path step first last) i → IsOnUnits (range_between path step first last) i
on_between path step first last i = go (is_constant first) (is_constant last) (has_empty path) refl refl
  where
    rest : (t u v : Bool) → is_constant first ≡ t → is_constant last ≡ u → (t && u) ≡ false → IsOnUnits (if v then no_range step first last else wide_range path step first last) i
    rest t u true p q h = on_moving (no_range step first last) i (moving first last t u p q h)
    rest t u false p q h = on_moving (wide_range path step first last) i (wide_moves path step first last ∙ moving first last t u p q h)

    go : (t u v : Bool) → is_constant first ≡ t → is_constant last ≡ u
        → MayTake (if t && u then fixed_range step first.constant last.constant else (if v then no_range step first last else wide_range path step first last)) i
        → IsOnUnits (if t && u then fixed_range step first.constant last.constant else (if v then no_range step first last else wide_range path step first last)) i
    go true true v p q h = on_fixed_range step first.constant last.constant i h
    go true false v p q h = rest true false v p q refl
    go false u v p q h = rest false u v p q refl

-- ---- loops in loops

abbrev AreOnUnits : List Range → List ℤ → Type 0
AreOnUnits [] is = Unit {0}
AreOnUnits (r ∷ path) [] = Unit {0}
AreOnUnits (r ∷ path) (i ∷ is) = IsOnUnits r i × AreOnUnits path is

-- the ranges of inner loops, behind those around them
abbrev Inside : List Range → List Loop → Type 0
Inside path loops = (more : List Range) × (ranges_of path loops ≡ path ++ more) × ((is : List ℤ) → AreTaken more is → AreOnUnits more is)

inside : (path : List Range) (loops : List Loop) → Inside path loops
inside path [] = ([], sym (append-nil path), (λ is h. tt))
inside path (l ∷ loops) =
    let r = range_of path (out-Loop l) in
    let rest = inside (path ++ r ∷ []) loops in
    (r ∷ rest.0, rest.1 ∙ append_assoc path (r ∷ []) rest.0, on r rest.0 (λ i h. on_between path (out-Loop l).step (bound_form (out-Loop l).start) (last_form (out-Loop l).test (bound_form (out-Loop l).limit)) i h) rest.2)
  where
    on : (r : Range) (more : List Range) → ((i : ℤ) → MayTake r i → IsOnUnits r i) → ((is : List ℤ) → AreTaken more is → AreOnUnits more is) → (is : List ℤ) → AreTaken (r ∷ more) is → AreOnUnits (r ∷ more) is
    on r more first rest [] h = tt
    on r more first rest (i ∷ is) h = (first i h.0, rest is h.1)

drop_front : {X : Type 0} (xs ys : List X) → drop (length xs) (xs ++ ys) ≡ ys
drop_front [] ys = refl
drop_front (x ∷ xs) ys = drop_front xs ys

taken_behind : (path more : List Range) (is : List ℤ) → AreTaken (path ++ more) is → AreTaken more (drop (length path) is)
taken_behind [] more is h = h
taken_behind (r ∷ path) more [] h = absurd h
taken_behind (r ∷ path) more (i ∷ is) h = taken_behind path more is h.1

-- ---- sums

sum_nothing : (cs : List ℤ) → sum_of cs [] ≡ pos 0
sum_nothing [] = refl
sum_nothing (c ∷ cs) = refl

sum_split : (n : ℕ) (cs is : List ℤ) → sum_of cs is ≡ sum_of (take n cs) is +ℤ sum_of (drop n cs) (drop n is)
sum_split zero cs is = omega (arith, ints)
sum_split (suc n) [] is = omega (arith, ints)
sum_split (suc n) (c ∷ cs) [] = omega (arith, ints, sum_nothing (drop n cs))
sum_split (suc n) (c ∷ cs) (i ∷ is) = omega (arith, ints, sum_split n cs is)

-- a multiple of the unit, times the coefficient
scaled_unit : (d : ℕ) (c y : ℤ) (u : ℕ) → d ∣ unsigned_abs c * u → u ∣ unsigned_abs y → d ∣ unsigned_abs (c *ℤ y)
scaled_unit d c y u h k =
    subst (λ n. d ∣ n) (sym (unsigned_abs-mul c y)) (dvd_trans d h (mul-dvd-mul_left u (unsigned_abs c) k))

zero_divisible : (d : ℕ) (c y : ℤ) → y ≡ pos 0 → d ∣ unsigned_abs (c *ℤ y)
zero_divisible d c y h = dvd_product_second d c y (subst (λ z. d ∣ unsigned_abs z) (sym h) (dvd-zero d))

-- the way from one end of the range to i, times the coefficient
way_divisible : (d : ℕ) (c : ℤ) (r : Range) (i y : ℤ) → d ∣ gap_of c r → (r.low ≡ r.high → y ≡ pos 0) → unit_of r ∣ unsigned_abs y → d ∣ unsigned_abs (c *ℤ y)
way_divisible d c r i y = go (int_eq r.low r.high) refl
  where
    go : (t : Bool) → int_eq r.low r.high ≡ t → d ∣ (if t then 0 else unsigned_abs c * unit_of r) → (r.low ≡ r.high → y ≡ pos 0) → unit_of r ∣ unsigned_abs y → d ∣ unsigned_abs (c *ℤ y)
    go true is h single unit = zero_divisible d c y (single (grind (arith, ints)))
    go false is h single unit = scaled_unit d c y (unit_of r) h unit

term_divisible : (d : ℕ) (c : ℤ) (r : Range) (i : ℤ) → d ∣ gap_of c r → r.low ≤ℤ i → i ≤ℤ r.high → IsOnUnits r i → d ∣ unsigned_abs ((c *ℤ i) -ℤ least_product c r)
term_divisible d (pos n) r i h low high on =
    subst (λ z. d ∣ unsigned_abs z) (mul_minus (pos n) i r.low) (way_divisible d (pos n) r i (i -ℤ r.low) h (λ e. omega (arith, ints, e, low, high)) on.0)
term_divisible d (negsuc n) r i h low high on =
    subst (λ z. d ∣ unsigned_abs z) (mul_minus (negsuc n) i r.high) (way_divisible d (negsuc n) r i (i -ℤ r.high) h (λ e. omega (arith, ints, e, low, high)) on.1)

sum_divisible : (d : ℕ) (cs : List ℤ) (path : List Range) (is : List ℤ) → All (λ n. d ∣ n) (gaps_of cs path) → AreIn path is → AreOnUnits path is
    → d ∣ unsigned_abs (sum_of cs is -ℤ least_sum cs path)
sum_divisible d [] path is gaps inside on = dvd-zero d
sum_divisible d (c ∷ cs) [] [] gaps inside on = dvd-zero d
sum_divisible d (c ∷ cs) [] (i ∷ is) gaps inside on = absurd inside
sum_divisible d (c ∷ cs) (r ∷ path) [] gaps inside on = absurd inside
sum_divisible d (c ∷ cs) (r ∷ path) (i ∷ is) gaps inside on =
    let first = term_divisible d c r i (gaps 0 0 (omega arith)) inside.0 inside.1 on.0 in
    let rest = sum_divisible d cs path is (λ k e below. gaps (suc k) e (omega (arith, below))) inside.2 on.1 in
    let split : ((c *ℤ i) -ℤ least_product c r) +ℤ (sum_of cs is -ℤ least_sum cs path) ≡ (c *ℤ i +ℤ sum_of cs is) -ℤ (least_product c r +ℤ least_sum cs path) = omega (arith, ints) in
    subst (λ z. d ∣ unsigned_abs z) split (dvd_sum d ((c *ℤ i) -ℤ least_product c r) (sum_of cs is -ℤ least_sum cs path) first rest)

stride_divides : (gaps : List ℕ) (stride n : ℕ) → IsStrideOf gaps stride → ((d : ℕ) → All (λ m. d ∣ m) gaps → d ∣ n) → stride ∣ n
stride_divides gaps stride n h each = subst (λ s. s ∣ n) (sym h.2) (go (nat_eq h.0 0))
  where
    go : (t : Bool) → (if t then 1 else h.0) ∣ n
    go true = one-dvd n
    go false = each h.0 h.1.0

-- ---- the laws

inner_in_box : (inner : ℕ) (path more : List Range) (f : Form) (x : Span) (is : List ℤ) → drop inner path ≡ more → IsBoxOf inner path f x → AreIn more is → AreOnUnits more is
    → IsInSpan x (form_value (inner_part inner f) is)
inner_in_box inner path more f x is e b inside on =
    let g = inner_part inner f in
    let low : x.low ≡ f.constant +ℤ least_sum g.coefficients more = b.low ∙ ap (λ p. f.constant +ℤ least_sum g.coefficients p) e in
    let way : form_value g is -ℤ x.low ≡ sum_of g.coefficients is -ℤ least_sum g.coefficients more = omega (arith, ints, low) in (
      omega (arith, ints, low, least_of-below more g is inside),
      omega (arith, ints, b.high ∙ ap (λ p. greatest_of p g) e, greatest_of-above more g is inside),
      stride_divides (gaps_of g.coefficients (drop inner path)) x.stride (unsigned_abs (form_value g is -ℤ x.low)) b.stride
          (λ d h. subst (λ z. d ∣ unsigned_abs z) (sym way) (sum_divisible d g.coefficients more is (subst (λ p. All (λ m. d ∣ m) (gaps_of g.coefficients p)) e h) inside on)),
    )

pub boxes_hold : BoxesHoldIndices
boxes_hold path loops f x iters b taken =
    let n = length path in
    let more = inside path loops in
    let behind : AreTaken more.0 (drop n iters) = taken_behind path more.0 iters (subst (λ p. AreTaken p iters) more.1 taken) in
    let same : form_value (inner_part n f) (drop n iters) ≡ form_value f iters -ℤ sum_of (take n f.coefficients) iters = omega (arith, ints, sum_split n f.coefficients iters) in
    subst (IsInSpan x) same
    (inner_in_box n (ranges_of path loops) more.0 f x (drop n iters) (ap (drop n) more.1 ∙ drop_front path more.0) b (taken_in more.0 (drop n iters) behind) (more.2 (drop n iters) behind))

pub boxes_extreme : BoxesAreExtremes
boxes_extreme path inner f x full b =
    let n = length path in
    let g = inner_part n f in
    let e : drop n (path ++ inner) ≡ inner = drop_front path inner in
    let low : x.low ≡ least_of inner g = b.low ∙ ap (λ p. least_of p g) e in
    let high : x.high ≡ greatest_of inner g = b.high ∙ ap (λ p. greatest_of p g) e in
    let first = least_of-attained inner g full in
    let last = greatest_of-attained inner g full in (
      ((λ is h. omega (arith, ints, low, least_of-below inner g is h)), (first.0, first.1, first.2 ∙ sym low)),
      ((λ is h. omega (arith, ints, high, greatest_of-above inner g is h)), (last.0, last.1, last.2 ∙ sym high)),
    )
