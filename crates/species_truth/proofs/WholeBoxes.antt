-- The boxes of a reference are whole: the stride divides the way from the least number to the greatest.
use Rattle.std.proofs.Common.{◌≡◌, refl, ap, sym, subst, arith, ℕ, zero, suc, ◌*◌, ◌≤◌, Bool, true, false, ◌||◌, nat_eq, if◌then◌else◌, List, [], ◌∷◌, drop, ℤ, pos, negsuc, ◌+ℤ◌, ◌-ℤ◌, ◌*ℤ◌, ◌≤ℤ◌, Option, Some, None, All}
use Rattle.std.specs.Prelude.{IsTrue}
use Rattle.std.specs.Int.{◌∣◌}
use Rattle.std.specs.Int.RustNames.{unsigned_abs}
use Rattle.std.specs.Ordering.{int_eq}
use Rattle.std.proofs.lemmas.Int.{ints, unsigned_abs-mul}
use Rattle.std.proofs.lemmas.Nat.Gcd.{dvd_trans, dvd-zero}
use Rattle.std.proofs.Math.Nat.{one-dvd, mul-dvd-mul_left}
use Rattle.species_integers.proofs.Divisors.{dvd_sum, dvd_product_second}
use Rattle.species_integers.proofs.Products.{mul_minus}
use Rattle.species_arcs.specs.declared.spans.Span.{Span}
use Rattle.species_ast.specs.Scope.Forms as text
use Rattle.species_ast.specs.Scope.Hulls.{Range, is_empty, has_empty, least_product, greatest_product, least_sum, greatest_sum}
use Rattle.species_ast.proofs.Induction.{Each}
use Rattle.species_merge.specs.Classes.{box_at}
use Rattle.species_merge.specs.Law.{IsFullyTaken}
use Rattle.species_merge.specs.Sizes.{IsSmallBox}
use Rattle.species_references.specs.Boxes.{has_constant_bounds, unit_of, gap_of, gaps_of, IsStrideOf, whole, IsBoxIn, AreBoxes}

-- ---- ranges

abbrev pub Settles : Range → Type 0
Settles r = IsTrue (has_constant_bounds r) → r.low ≤ℤ r.high → IsFullyTaken r

-- the unit divides the way from one end to the other, in either direction
abbrev IsWholeRange : Range → Type 0
IsWholeRange r = (unit_of r ∣ unsigned_abs (r.high -ℤ r.low)) × (unit_of r ∣ unsigned_abs (r.low -ℤ r.high))

turned : (d : ℕ) (x y : ℤ) → d ∣ unsigned_abs (x -ℤ y) → d ∣ unsigned_abs (y -ℤ x)
turned d x y h = let same : unsigned_abs (x -ℤ y) ≡ unsigned_abs (y -ℤ x) = grind (arith, ints) in subst (λ n. d ∣ n) same h

whole_range : (r : Range) → Settles r → r.low ≤ℤ r.high → IsWholeRange r
whole_range r settles some = let way = go (has_constant_bounds r) refl in (way, turned (unit_of r) r.high r.low way)
  where
    go : (t : Bool) → has_constant_bounds r ≡ t → unit_of r ∣ unsigned_abs (r.high -ℤ r.low)
    go true is = (settles is some).whole
    go false is =
        let one : unit_of r ≡ 1 = ap (λ (t : Bool). if t then unsigned_abs r.step else 1) is in
        subst (λ u. u ∣ unsigned_abs (r.high -ℤ r.low)) (sym one) (one-dvd _)

-- ---- sums

scaled_unit : (d : ℕ) (c y : ℤ) (u : ℕ) → d ∣ unsigned_abs c * u → u ∣ unsigned_abs y → d ∣ unsigned_abs (c *ℤ y)
scaled_unit d c y u h k = subst (λ n. d ∣ n) (sym (unsigned_abs-mul c y)) (dvd_trans d h (mul-dvd-mul_left u (unsigned_abs c) k))

zero_divisible : (d : ℕ) (c y : ℤ) → y ≡ pos 0 → d ∣ unsigned_abs (c *ℤ y)
zero_divisible d c y h = dvd_product_second d c y (subst (λ z. d ∣ unsigned_abs z) (sym h) (dvd-zero d))

way_divisible : (d : ℕ) (c : ℤ) (r : Range) (y : ℤ) → d ∣ gap_of c r → (r.low ≡ r.high → y ≡ pos 0) → unit_of r ∣ unsigned_abs y → d ∣ unsigned_abs (c *ℤ y)
way_divisible d c r y = go (int_eq r.low r.high) refl
  where
    go : (t : Bool) → int_eq r.low r.high ≡ t → d ∣ (if t then 0 else unsigned_abs c * unit_of r) → (r.low ≡ r.high → y ≡ pos 0) → unit_of r ∣ unsigned_abs y → d ∣ unsigned_abs (c *ℤ y)
    go true is h single unit = zero_divisible d c y (single (grind (arith, ints)))
    go false is h single unit = scaled_unit d c y (unit_of r) h unit

product_divisible : (d : ℕ) (c : ℤ) (r : Range) → d ∣ gap_of c r → IsWholeRange r → d ∣ unsigned_abs (greatest_product c r -ℤ least_product c r)
product_divisible d (pos n) r h on =
    subst (λ z. d ∣ unsigned_abs z) (mul_minus (pos n) r.high r.low) (way_divisible d (pos n) r (r.high -ℤ r.low) h (λ e. omega (arith, ints, e)) on.0)
product_divisible d (negsuc n) r h on =
    subst (λ z. d ∣ unsigned_abs z) (mul_minus (negsuc n) r.low r.high) (way_divisible d (negsuc n) r (r.low -ℤ r.high) h (λ e. omega (arith, ints, e)) on.1)

sum_divisible : (d : ℕ) (cs : List ℤ) (path : List Range) → All (λ n. d ∣ n) (gaps_of cs path) → Each IsWholeRange path → d ∣ unsigned_abs (greatest_sum cs path -ℤ least_sum cs path)
sum_divisible d [] path gaps on = dvd-zero d
sum_divisible d (c ∷ cs) [] gaps on = dvd-zero d
sum_divisible d (c ∷ cs) (r ∷ path) gaps on =
    let first = product_divisible d c r (gaps 0 0 (omega arith)) on.0 in
    let rest = sum_divisible d cs path (λ k e below. gaps (suc k) e (omega (arith, below))) on.1 in
    let split : (greatest_product c r -ℤ least_product c r) +ℤ (greatest_sum cs path -ℤ least_sum cs path) ≡ (greatest_product c r +ℤ greatest_sum cs path) -ℤ (least_product c r +ℤ least_sum cs path) = omega (arith, ints) in
    subst (λ z. d ∣ unsigned_abs z) split (dvd_sum d (greatest_product c r -ℤ least_product c r) (greatest_sum cs path -ℤ least_sum cs path) first rest)

stride_divides : (gaps : List ℕ) (stride n : ℕ) → IsStrideOf gaps stride → ((d : ℕ) → All (λ m. d ∣ m) gaps → d ∣ n) → stride ∣ n
stride_divides gaps stride n h each = subst (λ s. s ∣ n) (sym h.2) (go (nat_eq h.0 0))
  where
    go : (t : Bool) → (if t then 1 else h.0) ∣ n
    go true = one-dvd n
    go false = each h.0 h.1.0

-- ---- boxes

-- the stride of a box divides the way between its ends
abbrev IsEven : Span → Type 0
IsEven x = x.stride ∣ unsigned_abs (x.high -ℤ x.low)

even_ranges : (path : List Range) → has_empty path ≡ false → Each Settles path → Each IsWholeRange path
even_ranges [] full h = tt
even_ranges (r ∷ path) full h = go (is_empty r) refl full (λ e. even_ranges path e h.1)
  where
    go : (t : Bool) → is_empty r ≡ t → (t || has_empty path) ≡ false → (has_empty path ≡ false → Each IsWholeRange path) → Each IsWholeRange (r ∷ path)
    go true is e more = absurd cc
    go false is e more = let some : r.low ≤ℤ r.high = grind (arith, ints) in (whole_range r h.0 some, more e)

box_even : (inner : ℕ) (path : List Range) (size : ℕ) (o : Option text.Form) (x : Span) → Each IsWholeRange (drop inner path) → IsBoxIn inner path size o x → IsEven x
box_even inner path size (Some f) x on box =
    let more = drop inner path in
    let cs = drop inner f.coefficients in
    let way : x.high -ℤ x.low ≡ greatest_sum cs more -ℤ least_sum cs more = omega (arith, ints, box.low, box.high) in
    stride_divides (gaps_of cs more) x.stride (unsigned_abs (x.high -ℤ x.low)) box.stride (λ d h. subst (λ z. d ∣ unsigned_abs z) (sym way) (sum_divisible d cs more h on))
box_even inner path size None x on box =
    let one : x.stride ≡ 1 = ap (λ (y : Span). y.stride) box in
    subst (λ s. s ∣ unsigned_abs (x.high -ℤ x.low)) (sym one) (one-dvd _)

boxes_even : (inner : ℕ) (path : List Range) (sizes : List ℕ) (os : List (Option text.Form)) (xs : List Span) → Each IsWholeRange (drop inner path) → AreBoxes inner path sizes os xs → Each IsEven xs
boxes_even inner path sizes [] [] on boxes = tt
boxes_even inner path sizes [] (x ∷ xs) on boxes = absurd boxes
boxes_even inner path sizes (o ∷ os) [] on boxes = absurd boxes
boxes_even inner path [] (o ∷ os) (x ∷ xs) on boxes = (box_even inner path 0 o x on boxes.0, boxes_even inner path [] os xs on boxes.1)
boxes_even inner path (n ∷ sizes) (o ∷ os) (x ∷ xs) on boxes = (box_even inner path n o x on boxes.0, boxes_even inner path sizes os xs on boxes.1)

-- ---- the law

-- A box with small numbers, of which the stride divides the way between the ends.
pub record IsWholeBox (x : Span) : Type 0 where
  pub small : IsSmallBox x
  pub even : x.stride ∣ unsigned_abs (x.high -ℤ x.low)

both_whole : (xs : List Span) → Each IsSmallBox xs → Each IsEven xs → (k : ℕ) → IsWholeBox (box_at xs k)
both_whole [] h e k = record { small = record { ordered = omega (arith, ints); low = omega arith; high = omega arith; stride = (omega arith, omega arith) }; even = one-dvd _ }
both_whole (x ∷ xs) h e zero = record { small = h.0; even = e.0 }
both_whole (x ∷ xs) h e (suc k) = both_whole xs h.1 e.1 k

pub boxes_whole : (inner : ℕ) (path : List Range) (sizes : List ℕ) (os : List (Option text.Form)) (xs : List Span) → has_empty (drop inner path) ≡ false → Each Settles (drop inner path) → AreBoxes inner path sizes os xs
    → Each IsSmallBox xs → (k : ℕ) → IsWholeBox (box_at xs k)
boxes_whole inner path sizes os xs full settles boxes small = both_whole xs small (boxes_even inner path sizes os xs (even_ranges (drop inner path) full settles) boxes)
