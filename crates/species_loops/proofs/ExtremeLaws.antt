-- The extremes of a form, a level at a time.
use Rattle.std.proofs.Common.{◌≡◌, ◌∙◌, refl, ap, sym, subst, arith, add-one, ℕ, zero, suc, ◌+◌, ◌*◌, ◌^◌, ◌≤◌, ◌<◌, Bool, true, false, List, [], ◌∷◌, map, drop, length, ℤ, pos, negsuc, ◌+ℤ◌, ◌*ℤ◌, if◌then◌else◌, FitsSigned, to_z, of_z}
use Rattle.std.specs.Prelude.{slice_index_or}
use Rattle.std.specs.Int.{w64, w128}
use Rattle.std.specs.Int.RustNames.{unsigned_abs, int_lt}
use Rattle.std.proofs.lemmas.Int.{ints, to_z-of_z, fits_signed_from_abs}
use Rattle.species_integers.proofs.Products.{mul_zero}
use Rattle.species_integers.proofs.Sizes.{abs_sum, abs_product}
use Rattle.species_ast.specs.Scope.Forms.{Form}
use Rattle.species_ast.specs.Scope.Hulls.{Range}
use Rattle.species_linear.specs.declared.loops.LoopRange.{LoopRange}
use Rattle.species_linear.specs.Corner.{end_of}
use Rattle.species_loops.specs.Ranges.{range_seen, ranges_seen}
use Rattle.species_loops.specs.Bounds.{moved}
use Rattle.species_loops.specs.Extremes.{extreme_product, extreme_sum, extreme_of}

pub unmoved : (f : Form) → moved (pos 0) f ≡ f
unmoved f = let same : f.constant +ℤ pos 0 ≡ f.constant = omega (arith, ints) in ap (λ z. record f { constant = z }) same

pub product_at : (lower : Bool) (c : ℤ) (r : LoopRange) → c *ℤ end_of lower c r ≡ extreme_product lower c (range_seen r)
product_at true (pos n) r = let rises : int_lt (pos n) (pos 0) ≡ false = grind (arith, ints) in ap (λ (b : Bool). pos n *ℤ (if b then r.high else r.low)) rises
product_at true (negsuc n) r = let falls : int_lt (negsuc n) (pos 0) ≡ true = grind (arith, ints) in ap (λ (b : Bool). negsuc n *ℤ (if b then r.high else r.low)) falls
product_at false (pos n) r = let rises : int_lt (pos n) (pos 0) ≡ false = grind (arith, ints) in ap (λ (b : Bool). pos n *ℤ (if b then r.low else r.high)) rises
product_at false (negsuc n) r = let falls : int_lt (negsuc n) (pos 0) ≡ true = grind (arith, ints) in ap (λ (b : Bool). negsuc n *ℤ (if b then r.low else r.high)) falls

-- a product of words of 64 bits in one of 128
pub word_times : (x y a b : ℤ) → x ≡ a → y ≡ b → unsigned_abs a ≤ 2147483647 → unsigned_abs b ≤ 2 ^ 40 →
    to_z w128 (of_z w128 (to_z w128 (of_z w128 x) *ℤ to_z w128 (of_z w128 y))) ≡ a *ℤ b
word_times x y a b h k small near =
    let left : FitsSigned w128 a = fits_signed_from_abs w128 a (omega (arith, small)) in
    let right : FitsSigned w128 b = fits_signed_from_abs w128 b (omega (arith, near)) in
    let size : unsigned_abs (a *ℤ b) ≤ 2147483647 * 2 ^ 40 = abs_product a b 2147483647 (2 ^ 40) small near in
    let both : FitsSigned w128 (a *ℤ b) = fits_signed_from_abs w128 (a *ℤ b) (omega (arith, size)) in
    (λ i. to_z w128 (of_z w128 (to_z w128 (of_z w128 (h i)) *ℤ to_z w128 (of_z w128 (k i)))))
    ∙ (λ i. to_z w128 (of_z w128 (to_z-of_z w128 a left i *ℤ to_z-of_z w128 b right i)))
    ∙ to_z-of_z w128 (a *ℤ b) both

-- a sum of two that are small
pub word_plus : (total p : ℤ) → unsigned_abs total ≤ 2 ^ 79 → unsigned_abs p ≤ 2 ^ 72 → to_z w128 (of_z w128 (total +ℤ to_z w128 (of_z w128 p))) ≡ total +ℤ p
word_plus total p h k =
    let right : FitsSigned w128 p = fits_signed_from_abs w128 p (omega (arith, k)) in
    let both : FitsSigned w128 (total +ℤ p) = fits_signed_from_abs w128 (total +ℤ p) (omega (arith, abs_sum total p, h, k)) in
    (λ i. to_z w128 (of_z w128 (total +ℤ to_z-of_z w128 p right i))) ∙ to_z-of_z w128 (total +ℤ p) both

-- a word of 64 bits in one of 128
pub word_wide : (x a : ℤ) → x ≡ to_z w64 (of_z w64 a) → unsigned_abs a ≤ 2 ^ 40 → to_z w128 (of_z w128 x) ≡ a
word_wide x a h small =
    let narrow : FitsSigned w64 a = fits_signed_from_abs w64 a (omega (arith, small)) in
    let wide : FitsSigned w128 a = fits_signed_from_abs w128 a (omega (arith, small)) in
    ap (λ z. to_z w128 (of_z w128 z)) (h ∙ to_z-of_z w64 a narrow) ∙ to_z-of_z w128 a wide

drop_nil : (k : ℕ) (xs : List ℤ) → xs ≡ [] → drop k xs ≡ []
drop_nil zero xs h = h
drop_nil (suc k) [] h = refl
drop_nil (suc k) (x ∷ xs) h = absurd cc

-- one level more
sum_step : (lower : Bool) (cs : List ℤ) (path : List LoopRange) (k : ℕ) (d : LoopRange) → k < length path →
    extreme_sum lower (drop k cs) (map range_seen (drop k path)) ≡
    extreme_product lower (slice_index_or cs k (pos 0)) (range_seen (slice_index_or path k d)) +ℤ extreme_sum lower (drop (suc k) cs) (map range_seen (drop (suc k) path))
sum_step lower cs [] k d h = absurd (omega (arith, h))
sum_step true [] (p ∷ ps) zero d h = omega (arith, ints, mul_zero p.low)
sum_step false [] (p ∷ ps) zero d h = omega (arith, ints, mul_zero p.high)
sum_step true (c ∷ cs) (p ∷ ps) zero d h = refl
sum_step false (c ∷ cs) (p ∷ ps) zero d h = refl
sum_step lower [] (p ∷ ps) (suc k) d h =
    subst (λ (xs : List ℤ). extreme_sum lower xs (map range_seen (drop k ps)) ≡ extreme_product lower (pos 0) (range_seen (slice_index_or ps k d)) +ℤ extreme_sum lower [] (map range_seen (drop (suc k) ps)))
    (drop_nil k [] refl) (sum_step lower [] ps k d (omega (arith, h)))
sum_step lower (c ∷ cs) (p ∷ ps) (suc k) d h = sum_step lower cs ps k d (omega (arith, h))

sum_nil : (lower : Bool) (cs : List ℤ) → extreme_sum lower cs [] ≡ pos 0
sum_nil true [] = refl
sum_nil true (c ∷ cs) = refl
sum_nil false [] = refl
sum_nil false (c ∷ cs) = refl

drop_all : (k : ℕ) (xs : List LoopRange) → length xs ≤ k → drop k xs ≡ []
drop_all zero [] h = refl
drop_all zero (x ∷ xs) h = absurd (omega (arith, h))
drop_all (suc k) [] h = refl
drop_all (suc k) (x ∷ xs) h = drop_all k xs (omega (arith, h))

extreme_is : (lower : Bool) (path : List Range) (f : Form) → extreme_of lower path f ≡ f.constant +ℤ extreme_sum lower f.coefficients path
extreme_is true path f = refl
extreme_is false path f = refl

-- The total of the constant and the first levels: with the others it is the whole, and it is small.
pub record IsRunning (lower : Bool) (f : Form) (path : List LoopRange) (k : ℕ) (total : ℤ) : Type 0 where
  pub rest : total +ℤ extreme_sum lower (drop k f.coefficients) (map range_seen (drop k path)) ≡ extreme_of lower (ranges_seen path) f
  pub small : unsigned_abs total ≤ (1 + k) * 2 ^ 72

pub running_first : (lower : Bool) (f : Form) (path : List LoopRange) (total : ℤ) → total ≡ f.constant → unsigned_abs total ≤ 2 ^ 32 → IsRunning lower f path 0 total
running_first lower f path total h small = record {
  rest = ap (λ z. z +ℤ extreme_sum lower f.coefficients (ranges_seen path)) h ∙ sym (extreme_is lower (ranges_seen path) f);
  small = omega (arith, small);
}

pub running_next : (lower : Bool) (f : Form) (path : List LoopRange) (k : ℕ) (d : LoopRange) (total slope p next : ℤ) → k < length path → IsRunning lower f path k total →
    slope ≡ slice_index_or f.coefficients k (pos 0) → p ≡ extreme_product lower slope (range_seen (slice_index_or path k d)) → unsigned_abs p ≤ 2 ^ 72 → next ≡ total +ℤ p →
    IsRunning lower f path (k + 1) next
running_next lower f path k d total slope p next h now hs hp small hn =
    let here : p ≡ extreme_product lower (slice_index_or f.coefficients k (pos 0)) (range_seen (slice_index_or path k d)) =
    hp ∙ ap (λ (z : ℤ). extreme_product lower z (range_seen (slice_index_or path k d))) hs in
    let step = sum_step lower f.coefficients path k d h in
    record {
      rest = rw (add-one k) (omega (arith, ints, now.rest, here, step, hn));
      small = omega (arith, abs_sum total p, now.small, small, ap unsigned_abs hn);
    }

pub running_small : (lower : Bool) (f : Form) (path : List LoopRange) (k : ℕ) (total : ℤ) → k ≤ 16 → IsRunning lower f path k total → unsigned_abs total ≤ 2 ^ 79
running_small lower f path k total few now = omega (arith, few, now.small)

pub running_done : (lower : Bool) (f : Form) (path : List LoopRange) (k : ℕ) (total : ℤ) → length path ≤ k → IsRunning lower f path k total →
    total ≡ extreme_of lower (ranges_seen path) f
running_done lower f path k total all now =
    let nothing : extreme_sum lower (drop k f.coefficients) (map range_seen (drop k path)) ≡ pos 0 =
    ap (λ rs. extreme_sum lower (drop k f.coefficients) (map range_seen rs)) (drop_all k path all) ∙ sum_nil lower (drop k f.coefficients) in
    omega (arith, ints, nothing, now.rest)
