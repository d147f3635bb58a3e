-- Products of sizes, none of which is 0.
use Rattle.std.proofs.Common.{◌≡◌, ◌∙◌, sym, ap, arith, ℕ, zero, suc, ◌+◌, ◌*◌, ◌<◌, ◌≤◌, List, [], ◌∷◌, ◌++◌, take, length, get_or, true, nat_le}
use Rattle.std.specs.List.{list_all}
use Rattle.std.proofs.lemmas.Bool.{and_parts}
use Rattle.std.proofs.lemmas.List.{take_more}
use Rattle.std.proofs.Math.Nat.{mul-le-mul_left, mul_assoc}
use Rattle.species_ast.specs.Evaluation.{product}

product_last : (xs : List ℕ) (x : ℕ) → product (xs ++ x ∷ []) ≡ product xs * x
product_last [] x = omega arith
product_last (y ∷ xs) x = ap (λ n. y * n) (product_last xs x) ∙ sym (mul_assoc y (product xs) x)

pub product_next : (xs : List ℕ) (i d x now next : ℕ) → now ≡ product (take i xs) → x ≡ get_or xs i d → i < length xs → next ≡ now * x → next ≡ product (take (i + 1) xs)
product_next xs i d x now next h at within more =
    more ∙ ap (λ n. n * x) h ∙ sym (product_last (take i xs) x) ∙ ap product (sym (take_more xs i d within ∙ ap (λ y. take i xs ++ y ∷ []) (sym at)))

positive : (xs : List ℕ) → list_all (nat_le 1) xs ≡ true → 1 ≤ product xs
positive [] h = omega arith
positive (x ∷ xs) h =
    let parts = and_parts (nat_le 1 x) (list_all (nat_le 1) xs) h in
    let first : 1 ≤ x = grind (arith, parts.0) in
    omega (arith, first, mul-le-mul_left x (positive xs parts.1))

pub product_grows : (k : ℕ) (xs : List ℕ) → list_all (nat_le 1) xs ≡ true → product (take k xs) ≤ product xs
product_grows zero xs h = positive xs h
product_grows (suc k) [] h = omega arith
product_grows (suc k) (x ∷ xs) h =
    let parts = and_parts (nat_le 1 x) (list_all (nat_le 1) xs) h in mul-le-mul_left x (product_grows k xs parts.1)
