-- Differences of two products over pairs of numbers: bounds at corners are bounds.
use Rattle.std.proofs.Common.{◌≡◌, ℤ, pos, ◌+ℤ◌, ◌-ℤ◌, ◌*ℤ◌, ◌≤ℤ◌, ◌<ℤ◌, arith}
use Rattle.std.proofs.lemmas.Int.{ints, by_lt_z}
use Rattle.std.proofs.Math.IntN.{neg_ℤ}
use Rattle.species_integers.proofs.Products.{mul_plus, mul_minus, minus_mul, mul_one, neg_mul, mul_up, mul_down}
use Rattle.species_integers.proofs.Ranges.{line_above, line_below}

abbrev pub slope : (a b x y : ℤ) → ℤ
slope a b x y = (a *ℤ x) -ℤ (b *ℤ y)

-- equal numbers
pub equal_bound : (a b low high m x : ℤ) → low ≤ℤ x → x ≤ℤ high → m ≤ℤ slope a b low low → m ≤ℤ slope a b high high → m ≤ℤ slope a b x x
equal_bound a b low high m x above below at_low at_high =
    omega (
      arith,
      ints,
      minus_mul a b x,
      line_above (a -ℤ b) low high x m above below (omega (arith, ints, at_low, minus_mul a b low)) (omega (arith, ints, at_high, minus_mul a b high)),
    )

-- x below y: the slope along the diagonal, a - b, decides between (low, low + 1) and (high - 1, high)
pub less_bound : (a b low high m x y : ℤ) → low ≤ℤ x → x <ℤ y → y ≤ℤ high →
    m ≤ℤ slope a b low (low +ℤ pos 1) → m ≤ℤ slope a b low high → m ≤ℤ slope a b (high -ℤ pos 1) high → m ≤ℤ slope a b x y
less_bound a b low high m x y above less below at_near at_wide at_far = by_lt_z a (pos 0) negative nonnegative
  where
    next : (x +ℤ pos 1) ≤ℤ y
    next = omega (arith, ints)

    steeper : a <ℤ pos 0 → b <ℤ a → m ≤ℤ slope a b x y
    steeper ha hb =
        let up : pos 0 ≤ℤ (a -ℤ b) = omega (arith, ints) in
        let down : b ≤ℤ pos 0 = omega (arith, ints) in
        omega (
          arith,
          ints,
          at_near,
          mul_down b (x +ℤ pos 1) y down next,
          mul_plus b x (pos 1),
          mul_plus b low (pos 1),
          mul_one b,
          mul_up (a -ℤ b) low x up above,
          minus_mul a b low,
          minus_mul a b x,
        )

    flatter : a <ℤ pos 0 → a ≤ℤ b → m ≤ℤ slope a b x y
    flatter ha hb =
        let down : (a -ℤ b) ≤ℤ pos 0 = omega (arith, ints) in
        let falls : a ≤ℤ pos 0 = omega (arith, ints) in
        let before : x ≤ℤ (y -ℤ pos 1) = omega (arith, ints) in
        omega (
          arith,
          ints,
          at_far,
          mul_down a x (y -ℤ pos 1) falls before,
          mul_minus a y (pos 1),
          mul_minus a high (pos 1),
          mul_one a,
          mul_down (a -ℤ b) y high down below,
          minus_mul a b y,
          minus_mul a b high,
        )

    negative : a <ℤ pos 0 → m ≤ℤ slope a b x y
    negative ha = by_lt_z b a (steeper ha) (flatter ha)

    falling : pos 0 ≤ℤ a → b <ℤ pos 0 → m ≤ℤ slope a b x y
    falling ha hb =
        let down : b ≤ℤ pos 0 = omega (arith, ints) in
        let after : (low +ℤ pos 1) ≤ℤ y = omega (arith, ints) in
        omega (arith, ints, at_near, mul_up a low x ha above, mul_down b (low +ℤ pos 1) y down after)

    rising : pos 0 ≤ℤ a → pos 0 ≤ℤ b → m ≤ℤ slope a b x y
    rising ha hb = omega (arith, ints, at_wide, mul_up a low x ha above, mul_up b y high hb below)

    nonnegative : pos 0 ≤ℤ a → m ≤ℤ slope a b x y
    nonnegative ha = by_lt_z b (pos 0) (falling ha) (rising ha)

-- the same difference with the pair turned
slope_turned : (a b x y : ℤ) → slope (neg_ℤ b) (neg_ℤ a) y x ≡ slope a b x y
slope_turned a b x y = omega (arith, ints, neg_mul a x, neg_mul b y)

-- x above y
pub greater_bound : (a b low high m x y : ℤ) → x ≤ℤ high → y <ℤ x → low ≤ℤ y →
    m ≤ℤ slope a b (low +ℤ pos 1) low → m ≤ℤ slope a b high low → m ≤ℤ slope a b high (high -ℤ pos 1) → m ≤ℤ slope a b x y
greater_bound a b low high m x y below less above at_near at_wide at_far =
    rw (← slope_turned a b x y) (less_bound (neg_ℤ b) (neg_ℤ a) low high m y x above less below
    (rw (slope_turned a b (low +ℤ pos 1) low) at_near)
    (rw (slope_turned a b high low) at_wide)
    (rw (slope_turned a b high (high -ℤ pos 1)) at_far))

-- x and y of two ranges
pub any_bound : (a b low high left right m x y : ℤ) → low ≤ℤ x → x ≤ℤ high → left ≤ℤ y → y ≤ℤ right →
    m ≤ℤ slope a b low left → m ≤ℤ slope a b low right → m ≤ℤ slope a b high left → m ≤ℤ slope a b high right → m ≤ℤ slope a b x y
any_bound a b low high left right m x y x_above x_below y_above y_below at_near at_low at_high at_far =
    let at_start = line_below b left right y ((a *ℤ low) -ℤ m) y_above y_below (omega (arith, ints, at_near)) (omega (arith, ints, at_low)) in
    let at_end = line_below b left right y ((a *ℤ high) -ℤ m) y_above y_below (omega (arith, ints, at_high)) (omega (arith, ints, at_far)) in
    omega (
      arith,
      ints,
      line_above a low high x (m +ℤ (b *ℤ y)) x_above x_below (omega (arith, ints, at_start)) (omega (arith, ints, at_end)),
    )
