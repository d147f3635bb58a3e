-- The extremes of a form over ranges are its least and its greatest value over all points of them.
use Rattle.std.proofs.Common.{◌≡◌, refl, ap, arith, ℕ, zero, suc, Bool, true, false, ◌||◌, List, [], ◌∷◌, map, ℤ, pos, negsuc, ◌+ℤ◌, ◌*ℤ◌, ◌≤ℤ◌}
use Rattle.std.proofs.lemmas.Int.{ints}
use Rattle.std.proofs.Math.IntN.{suc_ℤ-*ℤ, pred_ℤ-*ℤ, zero-*ℤ}
use Rattle.species_ast.specs.Scope.Forms.{Form, sum_of, form_value}
use Rattle.species_ast.specs.Scope.Hulls.{Range, is_empty, has_empty, AreIn, least_sum, greatest_sum, least_of, greatest_of}

mul_up : (n : ℕ) (x y : ℤ) → x ≤ℤ y → (pos n *ℤ x) ≤ℤ (pos n *ℤ y)
mul_up zero x y h = omega (arith, ints, zero-*ℤ x, zero-*ℤ y)
mul_up (suc n) x y h = omega (arith, ints, suc_ℤ-*ℤ (pos n) x, suc_ℤ-*ℤ (pos n) y, mul_up n x y h, h)

mul_down : (n : ℕ) (x y : ℤ) → x ≤ℤ y → (negsuc n *ℤ y) ≤ℤ (negsuc n *ℤ x)
mul_down zero x y h = omega (arith, ints, pred_ℤ-*ℤ (pos 0) x, pred_ℤ-*ℤ (pos 0) y, zero-*ℤ x, zero-*ℤ y, h)
mul_down (suc n) x y h = omega (arith, ints, pred_ℤ-*ℤ (negsuc n) x, pred_ℤ-*ℤ (negsuc n) y, mul_down n x y h, h)

-- ---- no point has less or more

least_below : (cs : List ℤ) (path : List Range) (is : List ℤ) → AreIn path is → least_sum cs path ≤ℤ sum_of cs is
least_below [] path is h = omega (arith, ints)
least_below (c ∷ cs) [] [] h = omega (arith, ints)
least_below (c ∷ cs) [] (i ∷ is) h = absurd h
least_below (c ∷ cs) (r ∷ path) [] h = absurd h
least_below (pos n ∷ cs) (r ∷ path) (i ∷ is) h = omega (arith, ints, mul_up n r.low i h.0, least_below cs path is h.2)
least_below (negsuc n ∷ cs) (r ∷ path) (i ∷ is) h = omega (arith, ints, mul_down n i r.high h.1, least_below cs path is h.2)

greatest_above : (cs : List ℤ) (path : List Range) (is : List ℤ) → AreIn path is → sum_of cs is ≤ℤ greatest_sum cs path
greatest_above [] path is h = omega (arith, ints)
greatest_above (c ∷ cs) [] [] h = omega (arith, ints)
greatest_above (c ∷ cs) [] (i ∷ is) h = absurd h
greatest_above (c ∷ cs) (r ∷ path) [] h = absurd h
greatest_above (pos n ∷ cs) (r ∷ path) (i ∷ is) h = omega (arith, ints, mul_up n i r.high h.1, greatest_above cs path is h.2)
greatest_above (negsuc n ∷ cs) (r ∷ path) (i ∷ is) h = omega (arith, ints, mul_down n r.low i h.0, greatest_above cs path is h.2)

pub least_of-below : (path : List Range) (f : Form) (is : List ℤ) → AreIn path is → least_of path f ≤ℤ form_value f is
least_of-below path f is h = omega (arith, ints, least_below f.coefficients path is h)

pub greatest_of-above : (path : List Range) (f : Form) (is : List ℤ) → AreIn path is → form_value f is ≤ℤ greatest_of path f
greatest_of-above path f is h = omega (arith, ints, greatest_above f.coefficients path is h)

-- ---- some point has them

-- no range is empty
abbrev IsFull : List Range → Type 0
IsFull [] = Unit {0}
IsFull (r ∷ path) = (r.low ≤ℤ r.high) × IsFull path

full_of : (path : List Range) → has_empty path ≡ false → IsFull path
full_of [] h = tt
full_of (r ∷ path) h = go (full_of path) (is_empty r) refl h
  where
    go : (has_empty path ≡ false → IsFull path) → (b : Bool) → is_empty r ≡ b → (b || has_empty path) ≡ false → IsFull (r ∷ path)
    go more true is k = absurd cc
    go more false is k = (grind (arith, ints), more k)

lows : (path : List Range) → IsFull path → AreIn path (map (λ r. r.low) path)
lows [] h = tt
lows (r ∷ path) h = (omega (arith, ints), h.0, lows path h.1)

least_at : (cs : List ℤ) (path : List Range) → IsFull path → (is : List ℤ) × AreIn path is × (sum_of cs is ≡ least_sum cs path)
least_at [] path h = (map (λ r. r.low) path, lows path h, refl)
least_at (c ∷ cs) [] h = ([], tt, refl)
least_at (pos n ∷ cs) (r ∷ path) h =
    let rest = least_at cs path h.1 in (r.low ∷ rest.0, (omega (arith, ints), h.0, rest.1), ap (λ z. pos n *ℤ r.low +ℤ z) rest.2)
least_at (negsuc n ∷ cs) (r ∷ path) h =
    let rest = least_at cs path h.1 in (r.high ∷ rest.0, (h.0, omega (arith, ints), rest.1), ap (λ z. negsuc n *ℤ r.high +ℤ z) rest.2)

greatest_at : (cs : List ℤ) (path : List Range) → IsFull path → (is : List ℤ) × AreIn path is × (sum_of cs is ≡ greatest_sum cs path)
greatest_at [] path h = (map (λ r. r.low) path, lows path h, refl)
greatest_at (c ∷ cs) [] h = ([], tt, refl)
greatest_at (pos n ∷ cs) (r ∷ path) h =
    let rest = greatest_at cs path h.1 in (r.high ∷ rest.0, (h.0, omega (arith, ints), rest.1), ap (λ z. pos n *ℤ r.high +ℤ z) rest.2)
greatest_at (negsuc n ∷ cs) (r ∷ path) h =
    let rest = greatest_at cs path h.1 in (r.low ∷ rest.0, (omega (arith, ints), h.0, rest.1), ap (λ z. negsuc n *ℤ r.low +ℤ z) rest.2)

pub least_of-attained : (path : List Range) (f : Form) → has_empty path ≡ false → (is : List ℤ) × AreIn path is × (form_value f is ≡ least_of path f)
least_of-attained path f h =
    let at = least_at f.coefficients path (full_of path h) in (at.0, at.1, ap (λ z. f.constant +ℤ z) at.2)

pub greatest_of-attained : (path : List Range) (f : Form) → has_empty path ≡ false → (is : List ℤ) × AreIn path is × (form_value f is ≡ greatest_of path f)
greatest_of-attained path f h =
    let at = greatest_at f.coefficients path (full_of path h) in (at.0, at.1, ap (λ z. f.constant +ℤ z) at.2)
