-- The values of forms of parts.
use Rattle.std.proofs.Common.{◌≡◌, refl, ap, sym, ◌∙◌, arith, ℕ, zero, suc, true, List, [], ◌∷◌, map, ℤ, pos, ◌+ℤ◌, ◌*ℤ◌, neg_ℤ}
use Rattle.std.specs.Prelude.{slice_get, unwrap_or}
use Rattle.std.specs.Ordering.{int_eq}
use Rattle.std.specs.List.{list_all}
use Rattle.std.proofs.lemmas.Int.{ints}
use Rattle.std.proofs.lemmas.Bool.{and_parts}
use Rattle.std.proofs.lemmas.Bool.Decides.{Decides-int_eq}
use Rattle.species_integers.proofs.Products.{mul_zero, plus_mul, mul_assoc, mul_plus, neg_mul, mul_one, mul_swap}
use Rattle.species_ast.specs.Scope.Forms.{Form, sum_of, form_value, constant_form, one_at, iterator_form, added_coefficients, sum_form, scaled, negated, is_constant}

pub value-constant : (n : ℤ) (is : List ℤ) → form_value (constant_form n) is ≡ n
value-constant n is = omega (arith, ints)

sum-one : (level : ℕ) (is : List ℤ) → sum_of (one_at level) is ≡ unwrap_or (slice_get is level) (pos 0)
sum-one zero [] = refl
sum-one zero (i ∷ is) = omega (arith, ints)
sum-one (suc level) [] = refl
sum-one (suc level) (i ∷ is) = omega (arith, ints, sum-one level is)

pub value-iterator : (level : ℕ) (is : List ℤ) → form_value (iterator_form level) is ≡ unwrap_or (slice_get is level) (pos 0)
value-iterator level is = omega (arith, ints, sum-one level is)

sum-added_coefficients : (cs ds is : List ℤ) → sum_of (added_coefficients cs ds) is ≡ sum_of cs is +ℤ sum_of ds is
sum-added_coefficients [] ds is = omega (arith, ints)
sum-added_coefficients (c ∷ cs) [] is = omega (arith, ints)
sum-added_coefficients (c ∷ cs) (d ∷ ds) [] = refl
sum-added_coefficients (c ∷ cs) (d ∷ ds) (i ∷ is) = omega (arith, ints, sum-added_coefficients cs ds is, plus_mul c d i)

pub value-sum : (f g : Form) (is : List ℤ) → form_value (sum_form f g) is ≡ form_value f is +ℤ form_value g is
value-sum f g is = omega (arith, ints, sum-added_coefficients f.coefficients g.coefficients is)

sum-negated : (cs is : List ℤ) → sum_of (map neg_ℤ cs) is ≡ neg_ℤ (sum_of cs is)
sum-negated [] is = refl
sum-negated (c ∷ cs) [] = refl
sum-negated (c ∷ cs) (i ∷ is) = omega (arith, ints, sum-negated cs is, neg_mul c i)

pub value-negated : (f : Form) (is : List ℤ) → form_value (negated f) is ≡ neg_ℤ (form_value f is)
value-negated f is = omega (arith, ints, sum-negated f.coefficients is)

sum-scaled : (n : ℤ) (cs is : List ℤ) → sum_of (map (λ c. n *ℤ c) cs) is ≡ n *ℤ sum_of cs is
sum-scaled n [] is = omega (arith, ints, mul_plus n (pos 0) (pos 0))
sum-scaled n (c ∷ cs) [] = omega (arith, ints, mul_plus n (pos 0) (pos 0))
sum-scaled n (c ∷ cs) (i ∷ is) = omega (arith, ints, sum-scaled n cs is, mul_assoc n c i, mul_plus n (c *ℤ i) (sum_of cs is))

pub value-scaled : (n : ℤ) (f : Form) (is : List ℤ) → form_value (scaled n f) is ≡ n *ℤ form_value f is
value-scaled n f is = omega (arith, ints, sum-scaled n f.coefficients is, mul_plus n f.constant (sum_of f.coefficients is))

mul_turn : (c x : ℤ) → c *ℤ x ≡ x *ℤ c
mul_turn c x = ap (λ y. c *ℤ y) (sym (mul_one x)) ∙ mul_swap c x (pos 1) ∙ ap (λ y. x *ℤ y) (mul_one c)

equal_of : (x y : ℤ) → int_eq x y ≡ true → x ≡ y
equal_of x y h = (Decides-int_eq x y).0 h

sum-zeros : (cs is : List ℤ) → list_all (λ c. int_eq c (pos 0)) cs ≡ true → sum_of cs is ≡ pos 0
sum-zeros [] is h = refl
sum-zeros (c ∷ cs) [] h = refl
sum-zeros (c ∷ cs) (i ∷ is) h =
    let parts = and_parts (int_eq c (pos 0)) (list_all (λ c. int_eq c (pos 0)) cs) h in
    let zero_product : c *ℤ i ≡ pos 0 = ap (λ x. x *ℤ i) (equal_of c (pos 0) parts.0) ∙ mul_zero i in
    omega (arith, ints, zero_product, sum-zeros cs is parts.1)

pub value-is_constant : (f : Form) (is : List ℤ) → is_constant f ≡ true → form_value f is ≡ f.constant
value-is_constant f is h = omega (arith, ints, sum-zeros f.coefficients is h)

pub value-scaled-left : (f g : Form) (is : List ℤ) → is_constant f ≡ true → form_value (scaled f.constant g) is ≡ form_value f is *ℤ form_value g is
value-scaled-left f g is h = value-scaled f.constant g is ∙ ap (λ x. x *ℤ form_value g is) (sym (value-is_constant f is h))

pub value-scaled-right : (f g : Form) (is : List ℤ) → is_constant g ≡ true → form_value (scaled g.constant f) is ≡ form_value f is *ℤ form_value g is
value-scaled-right f g is h = value-scaled-left g f is h ∙ mul_turn (form_value g is) (form_value f is)
