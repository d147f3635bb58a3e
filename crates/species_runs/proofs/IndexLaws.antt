-- Laws of indices: those that were tested are below their sizes, and an element has one tuple of indices.
use Rattle.std.proofs.Common.{◌≡◌, arith, refl, ap, sym, subst, ℕ, zero, suc, ◌+◌, ◌*◌, ◌<◌, ◌≤◌, List, [], ◌∷◌, Option, Some, None, Bool, true, false, if◌then◌else◌, ℤ, pos, negsuc}
use Rattle.std.specs.Prelude.{unwrap_or, option_map, option_and_then, nat_lt}
use Rattle.std.proofs.Math.Nat.{mul-le-mul_right}
use Rattle.std.proofs.lemmas.Bool.Decides.{nat_tests}
use Rattle.species_ast.specs.declared.tree.Value.{Value}
use Rattle.species_ast.specs.Operators.{number_of}
use Rattle.species_ast.specs.Evaluation.{index_in, indices_in, row_order, product}
use Rattle.species_runs.specs.Indices.{AreIndices}

-- ---- the test of indices

index_below : (size : ℕ) (n : ℤ) (i : ℕ) → index_in size n ≡ Some i → i < size
index_below size (pos m) i h = go (nat_lt m size) refl h
  where
    go : (t : Bool) → nat_lt m size ≡ t → (if t then Some m else None) ≡ Some i → i < size
    go true less same =
        let is : m ≡ i = ap (λ o. unwrap_or o 0) same in
        let below : m < size = grind (arith, nat_tests) in
        omega (arith, is, below)
    go false less same = absurd cc
index_below size (negsuc m) i h = absurd cc

pub indices_are : (sizes : List ℕ) (vs : List Value) (is : List ℕ) → indices_in sizes vs ≡ Some is → AreIndices sizes is
indices_are [] [] is h = let none : [] ≡ is = ap (λ o. unwrap_or o []) h in subst (AreIndices []) none tt
indices_are [] (v ∷ vs) is h = absurd cc
indices_are (size ∷ sizes) [] is h = absurd cc
indices_are (size ∷ sizes) (v ∷ vs) is h =
    go (λ rest e. indices_are sizes vs rest e) (index_in size (number_of v)) (indices_in sizes vs) refl refl h
  where
    go : ((rest : List ℕ) → indices_in sizes vs ≡ Some rest → AreIndices sizes rest)
        → (o : Option ℕ) (r : Option (List ℕ)) → index_in size (number_of v) ≡ o → indices_in sizes vs ≡ r
        → option_and_then (λ i. option_map (λ rest. i ∷ rest) r) o ≡ Some is → AreIndices (size ∷ sizes) is
    go inner (Some i) (Some rest) e f same =
        let all : i ∷ rest ≡ is = ap (λ o. unwrap_or o []) same in
        subst (AreIndices (size ∷ sizes)) all (index_below size (number_of v) i e, inner rest f)
    go inner (Some i) None e f same = absurd cc
    go inner None r e f same = absurd cc

-- ---- row order

pub row_below : (sizes is : List ℕ) → AreIndices sizes is → row_order sizes is < product sizes
row_below [] is h = omega arith
row_below (size ∷ sizes) [] h = absurd h
row_below (size ∷ sizes) (i ∷ is) h =
    let first : suc i ≤ size = h.0 in
    let more : suc i * product sizes ≤ size * product sizes = mul-le-mul_right (product sizes) first in
    omega (arith, more, row_below sizes is h.1)

first_same : (i j p a b : ℕ) → a < p → b < p → i * p + a ≡ j * p + b → i ≤ j
first_same zero j p a b below_a below_b same = omega arith
first_same (suc i) zero p a b below_a below_b same = absurd (omega (arith, same))
first_same (suc i) (suc j) p a b below_a below_b same =
    let less : i ≤ j = first_same i j p a b below_a below_b (omega (arith, same)) in omega (arith, less)

-- the law: indices with one place in row order are the same
pub row_injective : (sizes is js : List ℕ) → AreIndices sizes is → AreIndices sizes js → row_order sizes is ≡ row_order sizes js → is ≡ js
row_injective [] [] [] p q same = refl
row_injective [] (i ∷ is) js p q same = absurd p
row_injective [] [] (j ∷ js) p q same = absurd q
row_injective (size ∷ sizes) [] js p q same = absurd p
row_injective (size ∷ sizes) (i ∷ is) [] p q same = absurd q
row_injective (size ∷ sizes) (i ∷ is) (j ∷ js) p q same =
    let a = row_below sizes is p.1 in
    let b = row_below sizes js q.1 in
    let up : i ≤ j = first_same i j (product sizes) (row_order sizes is) (row_order sizes js) a b same in
    let down : j ≤ i = first_same j i (product sizes) (row_order sizes js) (row_order sizes is) b a (sym same) in
    let first : i ≡ j = omega (arith, up, down) in
    let scaled : i * product sizes ≡ j * product sizes = ap (λ k. k * product sizes) first in
    let rest : row_order sizes is ≡ row_order sizes js = omega (arith, same, scaled) in
    rw (first, row_injective sizes is js p.1 q.1 rest) refl
