-- The common divisors of the coefficients, level by level.
use Rattle.std.proofs.Common.{◌≡◌, ℕ, ◌+◌, ◌<◌, ◌≤◌, ℤ, pos, ◌*ℤ◌, arith, subst, sym, List, Bool, true, false, nat_lt, ◌⊎◌, inl, inr, ◌↔◌}
use Rattle.std.specs.Int.{◌∣◌, IsGcd}
use Rattle.std.specs.Int.RustNames.{unsigned_abs}
use Rattle.std.proofs.lemmas.Nat.Gcd.{dvd_refl, dvd-zero, dvd_trans}
use Rattle.std.proofs.lemmas.Bool.Decides.{nat_tests}
use Rattle.species_integers.proofs.Products.{mul_zero}
use Rattle.species_linear.specs.declared.forms.Form.{Form}
use Rattle.species_linear.specs.declared.loops.LoopRange.{LoopRange}
use Rattle.species_linear.specs.declared.loops.Direction.{Direction}
use Rattle.species_linear.specs.Value.{coefficient_at, NamesOnly}
use Rattle.species_linear.specs.Box.{range_at}
use Rattle.species_linear.proofs.Coefficients.{coefficient_past}
use Rattle.species_region.specs.Coordinate.{unit_of}
use Rattle.species_region.specs.Region.{level_of}
use Rattle.species_gcd.specs.Divisor.{IsCommonDivisor, IsGcdOfDifference, DividesLevel}

-- d divides the coefficients of the level k
abbrev pub DividesAt : (p q : Form) (at : Direction) (ps qs : List LoopRange) → ℕ → ℕ → Type 0
DividesAt p q at ps qs k d =
    DividesLevel (nat_lt k (level_of at)) d (coefficient_at p.terms k) (coefficient_at q.terms k) (unit_of (range_at ps k)) (unit_of (range_at qs k))

-- d divides those of all levels below n
abbrev pub DividesBelow : (p q : Form) (at : Direction) (ps qs : List LoopRange) → ℕ → ℕ → Type 0
DividesBelow p q at ps qs n d = (k : ℕ) → k < n → DividesAt p q at ps qs k d

below_or_not : (k n : ℕ) → (nat_lt k n ≡ true) × (k < n) ⊎ ((nat_lt k n ≡ false) × (n ≤ k))
below_or_not k n = grind (arith, nat_tests)

pub at_level : (p q : Form) (at : Direction) (ps qs : List LoopRange) (d k : ℕ) → IsCommonDivisor p q at ps qs d → DividesAt p q at ps qs k d
at_level p q at ps qs d k common = elim (below_or_not k (level_of at)) [
  | inl t ↦ rw t.0 (common.shared k t.1)
  | inr t ↦ rw t.0 (common.first k t.1, common.second k t.1)
]

-- a coefficient 0
dvd_nothing : (d : ℕ) (a u : ℤ) → a ≡ pos 0 → d ∣ unsigned_abs (a *ℤ u)
dvd_nothing d a u e = rw (e, mul_zero u) (dvd-zero d)

shared_at : (p q : Form) (at : Direction) (ps qs : List LoopRange) (d k : ℕ) → nat_lt k (level_of at) ≡ true → DividesAt p q at ps qs k d →
    DividesLevel true d (coefficient_at p.terms k) (coefficient_at q.terms k) (unit_of (range_at ps k)) (unit_of (range_at qs k))
shared_at p q at ps qs d k t h =
    subst (λ (b : Bool). DividesLevel b d (coefficient_at p.terms k) (coefficient_at q.terms k) (unit_of (range_at ps k)) (unit_of (range_at qs k))) t h

separate_at : (p q : Form) (at : Direction) (ps qs : List LoopRange) (d k : ℕ) → nat_lt k (level_of at) ≡ false → DividesAt p q at ps qs k d →
    DividesLevel false d (coefficient_at p.terms k) (coefficient_at q.terms k) (unit_of (range_at ps k)) (unit_of (range_at qs k))
separate_at p q at ps qs d k t h =
    subst (λ (b : Bool). DividesLevel b d (coefficient_at p.terms k) (coefficient_at q.terms k) (unit_of (range_at ps k)) (unit_of (range_at qs k))) t h

is_below : (k n : ℕ) → k < n → nat_lt k n ≡ true
is_below k n h = grind (arith, nat_tests)

is_not_below : (k n : ℕ) → n ≤ k → nat_lt k n ≡ false
is_not_below k n h = grind (arith, nat_tests)

inside_or_past : (k n : ℕ) → (k < n) ⊎ (n ≤ k)
inside_or_past k n = grind arith

-- the levels of both forms are all that count
pub common_from_levels : (n : ℕ) (p q : Form) (at : Direction) (ps qs : List LoopRange) (d : ℕ) → NamesOnly p n → NamesOnly q n → level_of at ≤ n →
    DividesBelow p q at ps qs n d → IsCommonDivisor p q at ps qs d
common_from_levels n p q at ps qs d named_p named_q few all = record {
  shared = λ k h. shared_at p q at ps qs d k (is_below k (level_of at) h) (all k (omega (arith, h)));
  first = λ k h. elim (inside_or_past k n) [
    | inl s ↦ (separate_at p q at ps qs d k (is_not_below k (level_of at) h) (all k s)).0
    | inr s ↦ dvd_nothing d (coefficient_at p.terms k) (unit_of (range_at ps k)) (coefficient_past n k p.terms named_p s)
  ];
  second = λ k h. elim (inside_or_past k n) [
    | inl s ↦ (separate_at p q at ps qs d k (is_not_below k (level_of at) h) (all k s)).1
    | inr s ↦ dvd_nothing d (coefficient_at q.terms k) (unit_of (range_at qs k)) (coefficient_past n k q.terms named_q s)
  ];
}

-- ---- Euclid over the levels: the divisors of g are those of all levels below n
abbrev pub IsGcdBelow : (p q : Form) (at : Direction) (ps qs : List LoopRange) → ℕ → ℕ → Type 0
IsGcdBelow p q at ps qs n g = (d : ℕ) → (d ∣ g) ↔ DividesBelow p q at ps qs n d

before_or_here : (k n : ℕ) → k < n + 1 → (k < n) ⊎ (k ≡ n)
before_or_here k n h = grind arith

pub gcd_first : (p q : Form) (at : Direction) (ps qs : List LoopRange) → IsGcdBelow p q at ps qs 0 0
gcd_first p q at ps qs d = ((λ h k s. absurd (omega (arith, s))), (λ h. dvd-zero d))

pub gcd_next : (p q : Form) (at : Direction) (ps qs : List LoopRange) (n g h next : ℕ) → IsGcdBelow p q at ps qs n g →
    ((d : ℕ) → (d ∣ h) ↔ DividesAt p q at ps qs n d) → IsGcd g h next → IsGcdBelow p q at ps qs (n + 1) next
gcd_next p q at ps qs n g h next before here is d = (
  (λ divides k s. elim (before_or_here k n s) [
    | inl t ↦ (before d).0 (dvd_trans d divides is.0) k t
    | inr e ↦ subst (λ (j : ℕ). DividesAt p q at ps qs j d) (sym e) ((here d).0 (dvd_trans d divides is.1))
  ]),
  (λ all. is.2 d ((before d).1 (λ k s. all k (omega (arith, s)))) ((here d).1 (all n (omega arith)))),
)

pub gcd_end : (n : ℕ) (p q : Form) (at : Direction) (ps qs : List LoopRange) (g : ℕ) → NamesOnly p n → NamesOnly q n → level_of at ≤ n →
    IsGcdBelow p q at ps qs n g → IsGcdOfDifference p q at ps qs g
gcd_end n p q at ps qs g named_p named_q few is = record {
  common = common_from_levels n p q at ps qs g named_p named_q few ((is g).0 (dvd_refl g));
  greatest = λ d common. (is d).1 (λ k h. at_level p q at ps qs d k common);
}
