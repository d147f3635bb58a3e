-- Forms of parts, at one level.
use Rattle.std.proofs.Common.{◌≡◌, ◌∙◌, refl, ap, sym, arith, ℕ, zero, suc, ◌≤◌, Bool, true, false, ◌&&◌, if◌then◌else◌, List, [], ◌∷◌, map, ℤ, pos, ◌+ℤ◌, ◌*ℤ◌, neg_ℤ, Option, Some, None, FitsSigned, to_z, of_z}
use Rattle.std.specs.Prelude.{slice_index_or}
use Rattle.std.specs.Int.{w64}
use Rattle.std.specs.Ordering.{int_eq}
use Rattle.std.specs.List.{list_all}
use Rattle.std.proofs.lemmas.Int.{ints, to_z-of_z, fits_signed_from_abs}
use Rattle.std.proofs.lemmas.Bool.{and_parts}
use Rattle.std.proofs.Math.IntN.{*ℤ_comm}
use Rattle.species_integers.proofs.Products.{mul_zero}
use Rattle.species_integers.proofs.Sizes.{abs_sum}
use Rattle.species_affine.specs.Limited.{IsWithin}
use Rattle.species_affine.proofs.Numbers.{added_at, passed}
use Rattle.species_ast.specs.Scope.Forms.{Form, coefficient_at, one_at, iterator_form, sum_form, scaled, negated, is_constant, is_within, limited, product_form, of_both, added_coefficients}
use Rattle.species_loops.specs.declared.line.Line.{Line}
use Rattle.species_loops.specs.Lines.{IsLineOf, IsLine}

-- ---- coefficients of parts

coefficient_within : (cs : List ℤ) (k : ℕ) → list_all is_within cs ≡ true → IsWithin (slice_index_or cs k (pos 0))
coefficient_within [] k h = omega (arith, ints)
coefficient_within (c ∷ cs) zero h = let parts = and_parts (is_within c) (list_all is_within cs) h in grind (arith, parts.0)
coefficient_within (c ∷ cs) (suc k) h = let parts = and_parts (is_within c) (list_all is_within cs) h in coefficient_within cs k parts.1

scaled_at : (n : ℤ) (cs : List ℤ) (k : ℕ) → slice_index_or (map (λ c. n *ℤ c) cs) k (pos 0) ≡ n *ℤ slice_index_or cs k (pos 0)
scaled_at n [] k = sym (*ℤ_comm n (pos 0) ∙ mul_zero n)
scaled_at n (c ∷ cs) zero = refl
scaled_at n (c ∷ cs) (suc k) = scaled_at n cs k

negated_at : (cs : List ℤ) (k : ℕ) → slice_index_or (map neg_ℤ cs) k (pos 0) ≡ neg_ℤ (slice_index_or cs k (pos 0))
negated_at [] k = refl
negated_at (c ∷ cs) zero = refl
negated_at (c ∷ cs) (suc k) = negated_at cs k

none_at : (cs : List ℤ) (k : ℕ) → list_all (λ c. int_eq c (pos 0)) cs ≡ true → slice_index_or cs k (pos 0) ≡ pos 0
none_at [] k h = refl
none_at (c ∷ cs) zero h = let parts = and_parts (int_eq c (pos 0)) (list_all (λ x. int_eq x (pos 0)) cs) h in grind (arith, ints, parts.0)
none_at (c ∷ cs) (suc k) h = let parts = and_parts (int_eq c (pos 0)) (list_all (λ x. int_eq x (pos 0)) cs) h in none_at cs k parts.1

pub iterator_here : (n : ℕ) → slice_index_or (one_at n) n (pos 0) ≡ pos 1
iterator_here zero = refl
iterator_here (suc n) = iterator_here n

pub iterator_away : (n k : ℕ) → (n ≡ k → ⊥) → slice_index_or (one_at n) k (pos 0) ≡ pos 0
iterator_away zero zero h = absurd (h refl)
iterator_away zero (suc k) h = refl
iterator_away (suc n) zero h = refl
iterator_away (suc n) (suc k) h = iterator_away n k (λ e. h (ap suc e))

-- ---- sums and products of words

pub word_sum : (a b : ℤ) → IsWithin a → IsWithin b → to_z w64 (of_z w64 (to_z w64 (of_z w64 a) +ℤ to_z w64 (of_z w64 b))) ≡ a +ℤ b
word_sum a b h k =
    let fits : FitsSigned w64 (a +ℤ b) = fits_signed_from_abs w64 (a +ℤ b) (omega (arith, abs_sum a b, h, k)) in
    (λ i. to_z w64 (of_z w64 (passed a h i +ℤ passed b k i))) ∙ to_z-of_z w64 (a +ℤ b) fits

pub word_product : (a b r : ℤ) → IsWithin a → IsWithin b → r ≡ to_z w64 (of_z w64 a) *ℤ to_z w64 (of_z w64 b) → r ≡ a *ℤ b
word_product a b r h k e = e ∙ (λ i. passed a h i *ℤ passed b k i)

-- a number that is kept if it is small, by another name
pub renamed : (n m r : ℤ) → (IsWithin n → r ≡ n) → n ≡ m → IsWithin m → r ≡ m
renamed n m r same e h = same (rw e h) ∙ e

-- ---- lines of parts

pub line_limited : (r : Line) (level : ℕ) (h : Form) → (IsWithin h.constant → r.constant ≡ h.constant) →
    (IsWithin (coefficient_at h level) → r.slope ≡ coefficient_at h level) → IsLine r level (limited h)
line_limited r level h c s = go (is_within h.constant && list_all is_within h.coefficients) refl
  where
    go : (b : Bool) → (is_within h.constant && list_all is_within h.coefficients) ≡ b → IsLine r level (if b then Some h else None)
    go true e =
        let parts = and_parts (is_within h.constant) (list_all is_within h.coefficients) e in
        (c (grind (arith, parts.0)), s (coefficient_within h.coefficients level parts.1))
    go false e = tt

pub line_negated : (a r : Line) → r.constant ≡ neg_ℤ a.constant → r.slope ≡ neg_ℤ a.slope → (level : ℕ) (f : Form) → IsLineOf a level f → IsLineOf r level (negated f)
line_negated a r hc hs level f h = (hc ∙ ap neg_ℤ h.0, hs ∙ ap neg_ℤ h.1 ∙ sym (negated_at f.coefficients level))

pub line_sum : (a b r : Line) → (IsWithin (a.constant +ℤ b.constant) → r.constant ≡ a.constant +ℤ b.constant) →
    (IsWithin (a.slope +ℤ b.slope) → r.slope ≡ a.slope +ℤ b.slope) →
    (level : ℕ) (f g : Form) → IsLineOf a level f → IsLineOf b level g → IsLine r level (limited (sum_form f g))
line_sum a b r hc hs level f g h k =
    let constant : a.constant +ℤ b.constant ≡ f.constant +ℤ g.constant = omega (arith, ints, h.0, k.0) in
    let slope : a.slope +ℤ b.slope ≡ coefficient_at (sum_form f g) level = omega (arith, ints, h.1, k.1, added_at f.coefficients g.coefficients level) in
    line_limited r level (sum_form f g) (rw (← constant) hc) (rw (← slope) hs)

-- where the first is constant
line_scaled : (n x : ℤ) (r : Line) (level : ℕ) (g : Form) → (IsWithin (n *ℤ g.constant) → r.constant ≡ n *ℤ g.constant) → (IsWithin (n *ℤ coefficient_at g level) → r.slope ≡ n *ℤ coefficient_at g level) →
    IsLine r level (limited (scaled n g))
line_scaled n x r level g hc hs = line_limited r level (scaled n g) hc (rw (scaled_at n g.coefficients level) hs)

pub line_product : (a b r : Line) → (IsWithin (a.constant *ℤ b.constant) → r.constant ≡ a.constant *ℤ b.constant) →
    (IsWithin (a.constant *ℤ b.slope +ℤ a.slope *ℤ b.constant) → r.slope ≡ a.constant *ℤ b.slope +ℤ a.slope *ℤ b.constant) →
    (level : ℕ) (f g : Form) → IsLineOf a level f → IsLineOf b level g → IsLine r level (product_form f g)
line_product a b r hc hs level f g h k = first (is_constant f) refl
  where
    second : (c : Bool) → is_constant g ≡ c → IsLine r level (if c then limited (scaled g.constant f) else None)
    second true e =
        let none : b.slope ≡ pos 0 = k.1 ∙ none_at g.coefficients level e in
        let constant : a.constant *ℤ b.constant ≡ g.constant *ℤ f.constant = (λ i. h.0 i *ℤ k.0 i) ∙ *ℤ_comm f.constant g.constant in
        let product : a.slope *ℤ b.constant ≡ g.constant *ℤ coefficient_at f level = (λ i. h.1 i *ℤ k.0 i) ∙ *ℤ_comm (coefficient_at f level) g.constant in
        let nothing : a.constant *ℤ b.slope ≡ pos 0 = ap (λ z. a.constant *ℤ z) none ∙ *ℤ_comm a.constant (pos 0) ∙ mul_zero a.constant in
        let slope : a.constant *ℤ b.slope +ℤ a.slope *ℤ b.constant ≡ g.constant *ℤ coefficient_at f level = omega (arith, ints, product, nothing) in
        line_scaled g.constant g.constant r level f (rw (← constant) hc) (rw (← slope) hs)
    second false e = tt

    first : (c : Bool) → is_constant f ≡ c → IsLine r level (if c then limited (scaled f.constant g) else (if is_constant g then limited (scaled g.constant f) else None))
    first true e =
        let none : a.slope ≡ pos 0 = h.1 ∙ none_at f.coefficients level e in
        let constant : a.constant *ℤ b.constant ≡ f.constant *ℤ g.constant = λ i. h.0 i *ℤ k.0 i in
        let product : a.constant *ℤ b.slope ≡ f.constant *ℤ coefficient_at g level = λ i. h.0 i *ℤ k.1 i in
        let nothing : a.slope *ℤ b.constant ≡ pos 0 = ap (λ z. z *ℤ b.constant) none ∙ mul_zero b.constant in
        let slope : a.constant *ℤ b.slope +ℤ a.slope *ℤ b.constant ≡ f.constant *ℤ coefficient_at g level = omega (arith, ints, product, nothing) in
        line_scaled f.constant f.constant r level g (rw (← constant) hc) (rw (← slope) hs)
    first false e = second (is_constant g) refl

-- ---- of parts that may have no form

pub line_both : (join : Form → Form → Option Form) (a b r : Line) (level : ℕ) →
    ((f g : Form) → IsLineOf a level f → IsLineOf b level g → IsLine r level (join f g)) →
    (f g : Option Form) → IsLine a level f → IsLine b level g → IsLine r level (of_both join f g)
line_both join a b r level step None g h k = tt
line_both join a b r level step (Some f) None h k = tt
line_both join a b r level step (Some f) (Some g) h k = step f g h k
