-- The references of a nest of a well made unit can be merged: the numbers of their subscripts and their boxes are small.
use Rattle.std.proofs.Common.{◌≡◌, refl, ap, sym, ◌∙◌, subst, arith, ℕ, zero, suc, ◌+◌, ◌-◌, ◌*◌, ◌<◌, ◌≤◌, ◌^◌, Bool, true, false, ◌&&◌, nat_eq, if◌then◌else◌, List, [], ◌∷◌, length, drop, ℤ, pos, negsuc, ◌+ℤ◌, ◌-ℤ◌, ◌*ℤ◌, ◌≤ℤ◌, Option, Some, None, All, ◌⊎◌, inl, inr}
use Rattle.std.specs.Prelude.{slice_index_or}
use Rattle.std.specs.Int.{◌∣◌}
use Rattle.std.specs.Int.RustNames.{unsigned_abs}
use Rattle.std.specs.Ordering.{int_eq}
use Rattle.std.proofs.lemmas.Bool.Decides.{nat_tests}
use Rattle.std.proofs.lemmas.Int.{ints}
use Rattle.std.proofs.lemmas.Nat.{mul-le}
use Rattle.std.proofs.lemmas.Nat.Gcd.{dvd-zero, le_of_dvd}
use Rattle.std.proofs.Math.Nat.{div-add-mod', mod-eq-zero_of_dvd}
use Rattle.species_integers.proofs.Sizes.{abs_sum, abs_product}
use Rattle.species_affine.specs.Limited.{IsWithin}
use Rattle.species_affine.specs.Subscript.{IsSameForm, IsSubscript, HasFormNumbers}
use Rattle.species_affine.specs.declared.subscript.Subscript.{Subscript}
use Rattle.species_affine.specs.declared.subscript.Subscript.TheVariants.{Affine, Other}
use Rattle.species_arcs.specs.Pairwise.{Pairwise}
use Rattle.species_arcs.specs.declared.spans.Span.{Span}
use Rattle.species_ast.specs.declared.tree.Unit.{Unit as Program}
use Rattle.species_ast.specs.Evaluation.{sizes_of}
use Rattle.species_ast.specs.Run.{source_context}
use Rattle.species_ast.specs.Scope.Forms as text
use Rattle.species_ast.specs.Scope.Hulls.{Range, has_empty, least_product, greatest_product, least_sum, greatest_sum, least_of, greatest_of}
use Rattle.species_ast.specs.Scope.References as references
use Rattle.species_ast.proofs.HullLaws.{least_of-attained, greatest_of-above}
use Rattle.species_ast.proofs.Induction.{Each}
use Rattle.species_linear.specs.declared.forms.Term.{Term}
use Rattle.species_linear.specs.Value.{coefficient_at}
use Rattle.species_merge.specs.Sizes.{HasNumbers, IsSmallSubscript, IsSmallBox, IsMergeable}
use Rattle.species_references.specs.Boxes.{inner_part, has_constant_bounds, unit_of, gap_of, gaps_of, IsGcdOf, IsStrideOf, IsBoxOf, whole, IsBoxIn, AreBoxes}
use Rattle.species_references.specs.Law.{HasTurns}
use Rattle.species_references.specs.References.{IsReference}
use Rattle.species_references.specs.declared.nest.Reference.{Reference}
use Rattle.species_references.proofs.TurnLaws.{each_to_all}
use Rattle.species_ranges.proofs.BoundedLaws.{IsSize, IsBounded}
use Rattle.species_ranges.proofs.SmallLaws.{IsSmallRange}

-- ---- lists

pub each_of_all : {X : Type 0} (P : X → Type 0) (xs : List X) → All P xs → Each P xs
each_of_all P [] h = tt
each_of_all P (x ∷ xs) h = (h 0 x (omega arith), each_of_all P xs (λ k d l. h (suc k) d (omega (arith, l))))

each_weaker : {X : Type 0} (P Q : X → Type 0) → ((x : X) → P x → Q x) → (xs : List X) → Each P xs → Each Q xs
each_weaker P Q f [] h = tt
each_weaker P Q f (x ∷ xs) h = (f x h.0, each_weaker P Q f xs h.1)

each_dropped : {X : Type 0} (P : X → Type 0) (n : ℕ) (xs : List X) → Each P xs → Each P (drop n xs)
each_dropped P zero xs h = h
each_dropped P (suc n) [] h = tt
each_dropped P (suc n) (x ∷ xs) h = each_dropped P n xs h.1

each_by_index : {X : Type 0} (P : X → Type 0) (d : X) (xs : List X) → ((k : ℕ) → P (slice_index_or xs k d)) → Each P xs
each_by_index P d [] h = tt
each_by_index P d (x ∷ xs) h = (h 0, each_by_index P d xs (λ k. h (suc k)))

-- ---- coefficients

coefficient_within : (ts : List Term) (k : ℕ) → Each (λ t. IsWithin t.coefficient) ts → IsWithin (coefficient_at ts k)
coefficient_within [] k h = omega arith
coefficient_within (t ∷ ts) k h = go (nat_eq t.level k) (coefficient_within ts k h.1)
  where
    go : (b : Bool) → IsWithin (coefficient_at ts k) → IsWithin (if b then t.coefficient else coefficient_at ts k)
    go true rest = h.0
    go false rest = rest

-- each number of the form is within the limit
record HasLimit (f : text.Form) : Type 0 where
  constant : IsWithin f.constant
  coefficients : Each IsWithin f.coefficients

limit_of : (s : Subscript) (f : text.Form) → IsSubscript s (Some f) → HasFormNumbers s → HasLimit f
limit_of (Affine g) f same h = record {
  constant = subst IsWithin same.constant h.0;
  coefficients = each_by_index IsWithin (pos 0) f.coefficients (λ k. subst IsWithin (same.coefficients k) (coefficient_within g.terms k (each_of_all (λ t. IsWithin t.coefficient) g.terms h.1)));
}
limit_of Other f same h = absurd same

-- ---- ends

least_product_small : (c : ℤ) (r : Range) → IsWithin c → IsSmallRange r → unsigned_abs (least_product c r) ≤ 2 ^ 63
least_product_small (pos n) r h small = omega (arith, abs_product (pos n) r.low 2147483647 (2 ^ 32) h small.low)
least_product_small (negsuc n) r h small = omega (arith, abs_product (negsuc n) r.high 2147483647 (2 ^ 32) h small.high)

greatest_product_small : (c : ℤ) (r : Range) → IsWithin c → IsSmallRange r → unsigned_abs (greatest_product c r) ≤ 2 ^ 63
greatest_product_small (pos n) r h small = omega (arith, abs_product (pos n) r.high 2147483647 (2 ^ 32) h small.high)
greatest_product_small (negsuc n) r h small = omega (arith, abs_product (negsuc n) r.low 2147483647 (2 ^ 32) h small.low)

least_sum_small : (cs : List ℤ) (path : List Range) → Each IsWithin cs → Each IsSmallRange path → unsigned_abs (least_sum cs path) ≤ length path * 2 ^ 63
least_sum_small [] path h small = omega arith
least_sum_small (c ∷ cs) [] h small = omega arith
least_sum_small (c ∷ cs) (r ∷ path) h small =
    omega (arith, abs_sum (least_product c r) (least_sum cs path), least_product_small c r h.0 small.0, least_sum_small cs path h.1 small.1)

greatest_sum_small : (cs : List ℤ) (path : List Range) → Each IsWithin cs → Each IsSmallRange path → unsigned_abs (greatest_sum cs path) ≤ length path * 2 ^ 63
greatest_sum_small [] path h small = omega arith
greatest_sum_small (c ∷ cs) [] h small = omega arith
greatest_sum_small (c ∷ cs) (r ∷ path) h small =
    omega (arith, abs_sum (greatest_product c r) (greatest_sum cs path), greatest_product_small c r h.0 small.0, greatest_sum_small cs path h.1 small.1)

end_small : (z : ℤ) (n : ℕ) → unsigned_abs z ≤ n * 2 ^ 63 → n ≤ 8 → (c : ℤ) → IsWithin c → unsigned_abs (c +ℤ z) < 2 ^ 69
end_small z n h few c k = omega (arith, abs_sum c z, h, few, k)

-- ---- strides

-- the unit of a small range is small, and so is its product with a coefficient
gap_small : (c : ℤ) (r : Range) → IsWithin c → IsSmallRange r → gap_of c r ≤ 2 ^ 47
gap_small c r h small = go (int_eq r.low r.high) (has_constant_bounds r)
  where
    go : (t u : Bool) → (if t then 0 else unsigned_abs c * (if u then unsigned_abs r.step else 1)) ≤ 2 ^ 47
    go true u = omega arith
    go false true = omega (arith, mul-le (unsigned_abs c) (unsigned_abs r.step) 2147483647 65536 h small.step)
    go false false = omega (arith, h)

gaps_small : (cs : List ℤ) (path : List Range) → Each IsWithin cs → Each IsSmallRange path → Each (λ n. n ≤ 2 ^ 47) (gaps_of cs path)
gaps_small [] path h small = tt
gaps_small (c ∷ cs) [] h small = tt
gaps_small (c ∷ cs) (r ∷ path) h small = (gap_small c r h.0 small.0, gaps_small cs path h.1 small.1)

-- a divisor of numbers is at most as large as the greatest, if they are not all 0
divisor_small : (ns : List ℕ) (g most : ℕ) → Each (λ n. n ≤ most) ns → Each (λ n. g ∣ n) ns → (Each (λ n. n ≡ 0) ns) ⊎ (g ≤ most)
divisor_small [] g most h k = inl tt
divisor_small (zero ∷ ns) g most h k = go (divisor_small ns g most h.1 k.1)
  where
    go : (Each (λ n. n ≡ 0) ns) ⊎ (g ≤ most) → (Each (λ n. n ≡ 0) (0 ∷ ns)) ⊎ (g ≤ most)
    go (inl none) = inl (refl, none)
    go (inr small) = inr small
divisor_small (suc n ∷ ns) g most h k = let below : g ≤ suc n = le_of_dvd (omega arith) k.0 in inr (omega (arith, below, h.0))

zeros_divided : (ns : List ℕ) (d : ℕ) → Each (λ n. n ≡ 0) ns → Each (λ n. d ∣ n) ns
zeros_divided ns d h = each_weaker (λ n. n ≡ 0) (λ n. d ∣ n) (λ n e. subst (λ m. d ∣ m) (sym e) (dvd-zero d)) ns h

only_zero : (g : ℕ) → 0 ∣ g → g ≡ 0
only_zero g h = omega (arith, div-add-mod' g 0, mod-eq-zero_of_dvd 0 h)

stride_small : (ns : List ℕ) (t : ℕ) → Each (λ n. n ≤ 2 ^ 47) ns → IsStrideOf ns t → (0 < t) × (t ≤ 2 ^ 70)
stride_small ns t h stride =
    let g = stride.0 in
    let gcd = stride.1 in
    subst (λ s. (0 < s) × (s ≤ 2 ^ 70)) (sym stride.2) (go (nat_eq g 0) refl (divisor_small ns g (2 ^ 47) h (each_of_all (λ n. g ∣ n) ns gcd.0)))
  where
    go : (b : Bool) → nat_eq stride.0 0 ≡ b → (Each (λ n. n ≡ 0) ns) ⊎ (stride.0 ≤ 2 ^ 47) → (0 < (if b then 1 else stride.0)) × ((if b then 1 else stride.0) ≤ 2 ^ 70)
    go true is either = (omega arith, omega arith)
    go false is (inl none) =
        let no : stride.0 ≡ 0 = only_zero stride.0 (stride.1.1 0 (each_to_all (λ n. 0 ∣ n) ns (zeros_divided ns 0 none))) in
        let is_zero : nat_eq stride.0 0 ≡ true = grind (arith, nat_tests, no) in
        absurd (cc (is, is_zero))
    go false is (inr small) = (grind (arith, nat_tests, is), omega (arith, small))

-- ---- boxes

-- the inner loops are few, with small ranges, and have turns
record AreSmall (path : List Range) : Type 0 where
  few : length path ≤ 8
  each : Each IsSmallRange path
  turns : has_empty path ≡ false

box_small : (inner : ℕ) (path : List Range) (f : text.Form) (x : Span) → AreSmall (drop inner path) → HasLimit f → IsBoxOf inner path f x → IsSmallBox x
box_small inner path f x loops limit box =
    let more = drop inner path in
    let cs = drop inner f.coefficients in
    let within = each_dropped IsWithin inner f.coefficients limit.coefficients in
    let at = least_of-attained more (inner_part inner f) loops.turns in
    let above = greatest_of-above more (inner_part inner f) at.0 at.1 in
    record {
      ordered = omega (arith, ints, box.low, box.high, at.2, above);
      low = subst (λ z. unsigned_abs z < 2 ^ 69) (sym box.low) (end_small (least_sum cs more) (length more) (least_sum_small cs more within loops.each) loops.few f.constant limit.constant);
      high = subst (λ z. unsigned_abs z < 2 ^ 69) (sym box.high) (end_small (greatest_sum cs more) (length more) (greatest_sum_small cs more within loops.each) loops.few f.constant limit.constant);
      stride = stride_small (gaps_of cs more) x.stride (gaps_small cs more within loops.each) box.stride;
    }

whole_small : (n : ℕ) → IsSize n → IsSmallBox (whole n)
whole_small n h = record { ordered = omega (arith, ints, h.0); low = omega arith; high = high; stride = (omega arith, omega arith) }
  where
    high : unsigned_abs (pos n -ℤ pos 1) < 2 ^ 69
    high = grind (arith, ints, h.0, h.1)

box_in_small : (inner : ℕ) (path : List Range) (n : ℕ) (s : Subscript) (o : Option text.Form) (x : Span) → AreSmall (drop inner path) → IsSize n → IsSubscript s o → HasFormNumbers s → IsBoxIn inner path n o x → IsSmallBox x
box_in_small inner path n s (Some f) x loops size same numbers box = box_small inner path f x loops (limit_of s f same numbers) box
box_in_small inner path n s None x loops size same numbers box = subst IsSmallBox (sym box) (whole_small n size)

boxes_small : (inner : ℕ) (path : List Range) (sizes : List ℕ) (ss : List Subscript) (os : List (Option text.Form)) (xs : List Span) → AreSmall (drop inner path) → length sizes ≡ length os → Each IsSize sizes
    → Pairwise IsSubscript ss os → Each HasFormNumbers ss → AreBoxes inner path sizes os xs → Each IsSmallBox xs
boxes_small inner path sizes ss [] [] loops count size same numbers boxes = tt
boxes_small inner path sizes ss [] (x ∷ xs) loops count size same numbers boxes = absurd boxes
boxes_small inner path sizes ss (o ∷ os) [] loops count size same numbers boxes = absurd boxes
boxes_small inner path [] ss (o ∷ os) (x ∷ xs) loops count size same numbers boxes = absurd (omega (arith, count))
boxes_small inner path (n ∷ sizes) [] (o ∷ os) (x ∷ xs) loops count size same numbers boxes = absurd same
boxes_small inner path (n ∷ sizes) (s ∷ ss) (o ∷ os) (x ∷ xs) loops count size same numbers boxes =
    (box_in_small inner path n s o x loops size.0 same.0 numbers.0 boxes.0, boxes_small inner path sizes ss os xs loops (omega (arith, count)) size.1 same.1 numbers.1 boxes.1)

-- ---- the law

subscript_small : (s : Subscript) → HasFormNumbers s → IsSmallSubscript s
subscript_small (Affine f) h =
    (omega (arith, h.0), each_to_all (λ t. unsigned_abs t.coefficient ≤ 2 ^ 40) f.terms (each_weaker (λ t. IsWithin t.coefficient) (λ t. unsigned_abs t.coefficient ≤ 2 ^ 40) (λ t k. omega (arith, k)) f.terms (each_of_all (λ t. IsWithin t.coefficient) f.terms h.1)))
subscript_small Other h = tt

pub mergeable : (u : Program) (inner : ℕ) (r : Reference) (q : references.Reference) → IsReference (sizes_of (source_context u)) inner r q → IsBounded u inner q → HasTurns inner q → IsMergeable r
mergeable u inner r q shown bounded turns =
    let numbers = each_of_all HasFormNumbers r.subs shown.numbers in
    record {
      subs = each_to_all IsSmallSubscript r.subs (each_weaker HasFormNumbers IsSmallSubscript subscript_small r.subs numbers);
      boxes = each_to_all IsSmallBox r.boxes (boxes_small inner q.path (sizes_of (source_context u) q.array) r.subs q.subs r.boxes
          (record { few = bounded.short; each = bounded.small; turns = turns }) bounded.sizes.count bounded.sizes.each shown.subs numbers shown.boxes);
    }

-- so can all references of a nest
pub all_mergeable : (u : Program) (inner : ℕ) (rs : List Reference) (qs : List references.Reference) → Pairwise (IsReference (sizes_of (source_context u)) inner) rs qs → Each (IsBounded u inner) qs → Each (HasTurns inner) qs
    → Each IsMergeable rs
all_mergeable u inner [] [] shown bounded turns = tt
all_mergeable u inner [] (q ∷ qs) shown bounded turns = absurd shown
all_mergeable u inner (r ∷ rs) [] shown bounded turns = absurd shown
all_mergeable u inner (r ∷ rs) (q ∷ qs) shown bounded turns = (mergeable u inner r q shown.0 bounded.0 turns.0, all_mergeable u inner rs qs shown.1 bounded.1 turns.1)
