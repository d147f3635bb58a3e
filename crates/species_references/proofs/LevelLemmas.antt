-- The terms of a form in inner loops, one by one and by level.
use Rattle.std.proofs.Common.{◌≡◌, refl, ap, sym, ◌∙◌, subst, arith, ℕ, zero, suc, ◌+◌, ◌-◌, ◌*◌, ◌<◌, ◌≤◌, Bool, true, false, nat_eq, if◌then◌else◌, List, [], ◌∷◌, drop, ℤ, pos, ◌+ℤ◌, ◌*ℤ◌, All}
use Rattle.std.specs.Prelude.{slice_index_or, nat_lt}
use Rattle.std.specs.Int.{◌∣◌}
use Rattle.std.specs.Int.RustNames.{unsigned_abs}
use Rattle.std.specs.Ordering.{int_eq}
use Rattle.std.proofs.lemmas.Int.{ints}
use Rattle.std.proofs.lemmas.List.{get_or-drop}
use Rattle.std.proofs.lemmas.Bool.Decides.{nat_tests}
use Rattle.std.proofs.lemmas.Nat.Gcd.{dvd-zero}
use Rattle.species_ast.specs.Scope.Hulls.{Range, least_product, greatest_product, least_sum, greatest_sum}
use Rattle.species_linear.specs.declared.forms.Term.{Term}
use Rattle.species_linear.specs.declared.loops.LoopRange.{LoopRange}
use Rattle.species_linear.specs.Box.{zero_range, range_at}
use Rattle.species_linear.specs.Rising.{IsRisingFrom}
use Rattle.species_linear.specs.Value.{coefficient_at}
use Rattle.species_linear.proofs.Coefficients.{coefficient_before}
use Rattle.species_references.specs.Ranges.{range_seen, ranges_seen}
use Rattle.species_references.specs.Boxes.{unit_of, gap_of, gaps_of}

-- ---- the sum of the parts of the levels from k on

abbrev pub levels : (ℤ → Range → ℤ) → (ℕ → ℤ) → ℕ → List Range → ℤ
levels part c k [] = pos 0
levels part c k (r ∷ path) = part (c k) r +ℤ levels part c (suc k) path

-- d divides the gap of each level
abbrev pub DividesLevels : ℕ → (ℕ → ℤ) → ℕ → List Range → Type 0
DividesLevels d c k [] = Unit {0}
DividesLevels d c k (r ∷ path) = (d ∣ gap_of (c k) r) × DividesLevels d c (suc k) path

-- what a coefficient at level n gives
abbrev pub hit : {X : Type 0} → X → (ℤ → Range → X) → ℕ → ℕ → ℤ → List Range → X
hit none part k n x [] = none
hit none part k n x (r ∷ path) = if nat_eq n k then part x r else hit none part (suc k) n x path

hit_before : {X : Type 0} (none : X) (part : ℤ → Range → X) (k n : ℕ) (x : ℤ) (path : List Range) → n < k → hit none part k n x path ≡ none
hit_before none part k n x [] h = refl
hit_before none part k n x (r ∷ path) h =
    let other : nat_eq n k ≡ false = grind (arith, nat_tests) in
    rw other (hit_before none part (suc k) n x path (omega (arith, h)))

hit_from : {X : Type 0} (none : X) (part : ℤ → Range → X) (k j : ℕ) (x : ℤ) (path : List Range) (z : Range) → part x z ≡ none
    → hit none part k (k + j) x path ≡ part x (slice_index_or path j z)
hit_from none part k j x [] z h = sym h
hit_from none part k zero x (r ∷ path) z h =
    let here : nat_eq (k + zero) k ≡ true = grind (arith, nat_tests) in
    rw here refl
hit_from none part k (suc j) x (r ∷ path) z h =
    let other : nat_eq (k + suc j) k ≡ false = grind (arith, nat_tests) in
    let next : k + suc j ≡ suc k + j = omega arith in
    rw other (ap (λ n. hit none part (suc k) n x path) next ∙ hit_from none part (suc k) j x path z h)

-- the ranges of the code
ranges_at : (path : List LoopRange) (n : ℕ) → slice_index_or (ranges_seen path) n (range_seen zero_range) ≡ range_seen (range_at path n)
ranges_at [] n = refl
ranges_at (r ∷ path) zero = refl
ranges_at (r ∷ path) (suc n) = ranges_at path n

abbrev pub range_in : List LoopRange → ℕ → ℕ → LoopRange
range_in path inner n = if nat_lt n inner then zero_range else range_at path n

pub hit_is : {X : Type 0} (none : X) (part : ℤ → Range → X) (inner n : ℕ) (x : ℤ) (path : List LoopRange) → part x (range_seen zero_range) ≡ none
    → hit none part inner n x (drop inner (ranges_seen path)) ≡ part x (range_seen (range_in path inner n))
hit_is none part inner n x path h = go (nat_lt n inner) refl
  where
    go : (t : Bool) → nat_lt n inner ≡ t → hit none part inner n x (drop inner (ranges_seen path)) ≡ part x (range_seen (if t then zero_range else range_at path n))
    go true is =
        let below : n < inner = grind (arith, nat_tests) in
        hit_before none part inner n x (drop inner (ranges_seen path)) below ∙ sym h
    go false is =
        let above : inner ≤ n = grind (arith, nat_tests) in
        let there : n ≡ inner + (n - inner) = omega arith in
        ap (λ m. hit none part inner m x (drop inner (ranges_seen path))) there
        ∙ hit_from none part inner (n - inner) x (drop inner (ranges_seen path)) (range_seen zero_range) h
        ∙ ap (part x) (get_or-drop inner (ranges_seen path) (n - inner) (range_seen zero_range) ∙ ap (λ m. slice_index_or (ranges_seen path) m (range_seen zero_range)) (sym there) ∙ ranges_at path n)

-- ---- one term more

-- a coefficient x at level n, beside others
abbrev pub besides : ℕ → ℤ → (ℕ → ℤ) → ℕ → ℤ
besides n x c k = if nat_eq n k then x else c k

besides_past : (part : ℤ → Range → ℤ) (n k : ℕ) (x : ℤ) (c : ℕ → ℤ) (path : List Range) → n < k → levels part (besides n x c) k path ≡ levels part c k path
besides_past part n k x c [] h = refl
besides_past part n k x c (r ∷ path) h =
    let other : nat_eq n k ≡ false = grind (arith, nat_tests) in
    rw other (ap (λ z. part (c k) r +ℤ z) (besides_past part n (suc k) x c path (omega (arith, h))))

one_more : (part : ℤ → Range → ℤ) (n k : ℕ) (x : ℤ) (c : ℕ → ℤ) (path : List Range) → ((r : Range) → part (pos 0) r ≡ pos 0) → c n ≡ pos 0
    → levels part (besides n x c) k path ≡ hit (pos 0) part k n x path +ℤ levels part c k path
one_more part n k x c [] h z = omega (arith, ints)
one_more part n k x c (r ∷ path) h z = go (nat_eq n k) refl (one_more part n (suc k) x c path h z)
  where
    go : (t : Bool) → nat_eq n k ≡ t → levels part (besides n x c) (suc k) path ≡ hit (pos 0) part (suc k) n x path +ℤ levels part c (suc k) path
        → part (if t then x else c k) r +ℤ levels part (besides n x c) (suc k) path
        ≡ (if t then part x r else hit (pos 0) part (suc k) n x path) +ℤ (part (c k) r +ℤ levels part c (suc k) path)
    go true is more =
        let same : n ≡ k = grind (arith, nat_tests) in
        let nothing : part (c k) r ≡ pos 0 = ap (λ m. part (c m) r) (sym same) ∙ ap (λ w. part w r) z ∙ h r in
        omega (arith, ints, nothing, besides_past part n (suc k) x c path (omega (arith, same)))
    go false is more = omega (arith, ints, more)

-- the terms of a form that rise, of which this is the first
pub term_more : (part : ℤ → Range → ℤ) (t : Term) (ts : List Term) (inner k : ℕ) (path : List LoopRange) → ((r : Range) → part (pos 0) r ≡ pos 0) → part t.coefficient (range_seen zero_range) ≡ pos 0 → IsRisingFrom k (t ∷ ts)
    → levels part (coefficient_at (t ∷ ts)) inner (drop inner (ranges_seen path))
    ≡ part t.coefficient (range_seen (range_in path inner t.level)) +ℤ levels part (coefficient_at ts) inner (drop inner (ranges_seen path))
term_more part t ts inner k path h z rising =
    one_more part t.level inner t.coefficient (coefficient_at ts) (drop inner (ranges_seen path)) h (coefficient_before (t.level + 1) t.level ts rising.2 (omega arith))
    ∙ ap (λ w. w +ℤ levels part (coefficient_at ts) inner (drop inner (ranges_seen path))) (hit_is (pos 0) part inner t.level t.coefficient path z)

levels_none : (part : ℤ → Range → ℤ) (k : ℕ) (path : List Range) → ((r : Range) → part (pos 0) r ≡ pos 0) → levels part (coefficient_at []) k path ≡ pos 0
levels_none part k [] h = refl
levels_none part k (r ∷ path) h = omega (arith, ints, h r, levels_none part (suc k) path h)

pub no_levels : (part : ℤ → Range → ℤ) (ts : List Term) (k : ℕ) (path : List Range) → ts ≡ [] → ((r : Range) → part (pos 0) r ≡ pos 0) → levels part (coefficient_at ts) k path ≡ pos 0
no_levels part ts k path e h = ap (λ us. levels part (coefficient_at us) k path) e ∙ levels_none part k path h

-- ---- the same for gaps

gap_nothing : (r : Range) → gap_of (pos 0) r ≡ 0
gap_nothing r = go (int_eq r.low r.high)
  where
    go : (t : Bool) → (if t then 0 else unsigned_abs (pos 0) * unit_of r) ≡ 0
    go true = refl
    go false = omega arith

gap_single : (x : ℤ) → gap_of x (range_seen zero_range) ≡ 0
gap_single x = refl

divides_nothing : (d k : ℕ) (c : ℕ → ℤ) (r : Range) → c k ≡ pos 0 → d ∣ gap_of (c k) r
divides_nothing d k c r z = subst (λ n. d ∣ n) (sym (ap (λ w. gap_of w r) z ∙ gap_nothing r)) (dvd-zero d)

gaps_past : (d n k : ℕ) (x : ℤ) (c : ℕ → ℤ) (path : List Range) → n < k
    → (DividesLevels d (besides n x c) k path → DividesLevels d c k path) × (DividesLevels d c k path → DividesLevels d (besides n x c) k path)
gaps_past d n k x c [] h = ((λ p. tt), (λ p. tt))
gaps_past d n k x c (r ∷ path) h =
    let other : nat_eq n k ≡ false = grind (arith, nat_tests) in
    let more = gaps_past d n (suc k) x c path (omega (arith, h)) in
    let same : gap_of (besides n x c k) r ≡ gap_of (c k) r = ap (λ (t : Bool). gap_of (if t then x else c k) r) other in
    ((λ p. (subst (λ m. d ∣ m) same p.0, more.0 p.1)), (λ p. (subst (λ m. d ∣ m) (sym same) p.0, more.1 p.1)))

abbrev GapMore : ℕ → ℕ → ℕ → ℤ → (ℕ → ℤ) → List Range → Type 0
GapMore d n k x c path =
    (DividesLevels d (besides n x c) k path → (d ∣ hit 0 gap_of k n x path) × DividesLevels d c k path)
    × ((d ∣ hit 0 gap_of k n x path) × DividesLevels d c k path → DividesLevels d (besides n x c) k path)

gap_one_more : (d n k : ℕ) (x : ℤ) (c : ℕ → ℤ) (path : List Range) → c n ≡ pos 0 → GapMore d n k x c path
gap_one_more d n k x c [] z = ((λ p. (dvd-zero d, tt)), (λ p. tt))
gap_one_more d n k x c (r ∷ path) z = go (nat_eq n k) refl (gap_one_more d n (suc k) x c path z)
  where
    go : (t : Bool) → nat_eq n k ≡ t → GapMore d n (suc k) x c path
        → ((d ∣ gap_of (if t then x else c k) r) × DividesLevels d (besides n x c) (suc k) path → (d ∣ (if t then gap_of x r else hit 0 gap_of (suc k) n x path)) × ((d ∣ gap_of (c k) r) × DividesLevels d c (suc k) path))
        × ((d ∣ (if t then gap_of x r else hit 0 gap_of (suc k) n x path)) × ((d ∣ gap_of (c k) r) × DividesLevels d c (suc k) path) → (d ∣ gap_of (if t then x else c k) r) × DividesLevels d (besides n x c) (suc k) path)
    go true is more =
        let same : n ≡ k = grind (arith, nat_tests) in
        let past = gaps_past d n (suc k) x c path (omega (arith, same)) in
        ((λ p. (p.0, (divides_nothing d k c r (ap c (sym same) ∙ z), past.0 p.1))), (λ p. (p.0, past.1 p.1.1)))
    go false is more = ((λ p. let q = more.0 p.1 in (q.0, (p.0, q.1))), (λ p. (p.1.0, more.1 (p.0, p.1.1))))

pub gap_more : (d : ℕ) (t : Term) (ts : List Term) (inner k : ℕ) (path : List LoopRange) → IsRisingFrom k (t ∷ ts)
    → (DividesLevels d (coefficient_at (t ∷ ts)) inner (drop inner (ranges_seen path))
    → (d ∣ gap_of t.coefficient (range_seen (range_in path inner t.level))) × DividesLevels d (coefficient_at ts) inner (drop inner (ranges_seen path)))
    × ((d ∣ gap_of t.coefficient (range_seen (range_in path inner t.level))) × DividesLevels d (coefficient_at ts) inner (drop inner (ranges_seen path))
    → DividesLevels d (coefficient_at (t ∷ ts)) inner (drop inner (ranges_seen path)))
gap_more d t ts inner k path rising =
    let both = gap_one_more d t.level inner t.coefficient (coefficient_at ts) (drop inner (ranges_seen path)) (coefficient_before (t.level + 1) t.level ts rising.2 (omega arith)) in
    let is = hit_is 0 gap_of inner t.level t.coefficient path (gap_single t.coefficient) in (
      (λ p. let q = both.0 p in (subst (λ m. d ∣ m) is q.0, q.1)),
      (λ p. both.1 (subst (λ m. d ∣ m) (sym is) p.0, p.1)),
    )

gaps_none : (d k : ℕ) (path : List Range) → DividesLevels d (coefficient_at []) k path
gaps_none d k [] = tt
gaps_none d k (r ∷ path) = (divides_nothing d k (coefficient_at []) r refl, gaps_none d (suc k) path)

pub no_gaps : (d : ℕ) (ts : List Term) (k : ℕ) (path : List Range) → ts ≡ [] → DividesLevels d (coefficient_at ts) k path
no_gaps d ts k path e = subst (λ us. DividesLevels d (coefficient_at us) k path) (sym e) (gaps_none d k path)

-- ---- from levels to lists of coefficients

abbrev at_level : List ℤ → ℕ → ℤ
at_level cs k = slice_index_or cs k (pos 0)

levels_later : (part : ℤ → Range → ℤ) (b : ℤ) (cs : List ℤ) (k : ℕ) (path : List Range) → levels part (at_level (b ∷ cs)) (suc k) path ≡ levels part (at_level cs) k path
levels_later part b cs k [] = refl
levels_later part b cs k (r ∷ path) = ap (λ z. part (at_level cs k) r +ℤ z) (levels_later part b cs (suc k) path)

nowhere : (part : ℤ → Range → ℤ) (k : ℕ) (path : List Range) → ((r : Range) → part (pos 0) r ≡ pos 0) → levels part (at_level []) k path ≡ pos 0
nowhere part k [] h = refl
nowhere part k (r ∷ path) h = omega (arith, ints, h r, nowhere part (suc k) path h)

-- the sum over both lists
abbrev pub summed : (ℤ → Range → ℤ) → List ℤ → List Range → ℤ
summed part [] path = pos 0
summed part (c ∷ cs) [] = pos 0
summed part (c ∷ cs) (r ∷ path) = part c r +ℤ summed part cs path

levels_are : (part : ℤ → Range → ℤ) (cs : List ℤ) (n : ℕ) (path : List Range) → ((r : Range) → part (pos 0) r ≡ pos 0) → levels part (at_level cs) n path ≡ summed part (drop n cs) path
levels_are part [] zero path h = nowhere part zero path h
levels_are part [] (suc n) path h = nowhere part (suc n) path h
levels_are part (c ∷ cs) zero [] h = refl
levels_are part (c ∷ cs) zero (r ∷ path) h = ap (λ z. part c r +ℤ z) (levels_later part c cs zero path ∙ levels_are part cs zero path h)
levels_are part (c ∷ cs) (suc n) path h = levels_later part c cs n path ∙ levels_are part cs n path h

summed-least : (cs : List ℤ) (path : List Range) → summed least_product cs path ≡ least_sum cs path
summed-least [] path = refl
summed-least (c ∷ cs) [] = refl
summed-least (c ∷ cs) (r ∷ path) = ap (λ z. least_product c r +ℤ z) (summed-least cs path)

summed-greatest : (cs : List ℤ) (path : List Range) → summed greatest_product cs path ≡ greatest_sum cs path
summed-greatest [] path = refl
summed-greatest (c ∷ cs) [] = refl
summed-greatest (c ∷ cs) (r ∷ path) = ap (λ z. greatest_product c r +ℤ z) (summed-greatest cs path)

times_zero : (x : ℤ) → pos 0 *ℤ x ≡ pos 0
times_zero x = omega (arith, ints)

pub least_nothing : (r : Range) → least_product (pos 0) r ≡ pos 0
least_nothing r = times_zero r.low

pub greatest_nothing : (r : Range) → greatest_product (pos 0) r ≡ pos 0
greatest_nothing r = times_zero r.high

same_levels : (part : ℤ → Range → ℤ) (a b : ℕ → ℤ) (k : ℕ) (path : List Range) → ((n : ℕ) → a n ≡ b n) → levels part a k path ≡ levels part b k path
same_levels part a b k [] h = refl
same_levels part a b k (r ∷ path) h = (λ i. part (h k i) r +ℤ same_levels part a b (suc k) path h i)

pub least_levels : (ts : List Term) (cs : List ℤ) (n : ℕ) (path : List Range) → ((k : ℕ) → coefficient_at ts k ≡ slice_index_or cs k (pos 0)) → levels least_product (coefficient_at ts) n path ≡ least_sum (drop n cs) path
least_levels ts cs n path h = same_levels least_product (coefficient_at ts) (at_level cs) n path h ∙ levels_are least_product cs n path least_nothing ∙ summed-least (drop n cs) path

pub greatest_levels : (ts : List Term) (cs : List ℤ) (n : ℕ) (path : List Range) → ((k : ℕ) → coefficient_at ts k ≡ slice_index_or cs k (pos 0)) → levels greatest_product (coefficient_at ts) n path ≡ greatest_sum (drop n cs) path
greatest_levels ts cs n path h = same_levels greatest_product (coefficient_at ts) (at_level cs) n path h ∙ levels_are greatest_product cs n path greatest_nothing ∙ summed-greatest (drop n cs) path

-- ---- gaps as a list

abbrev IsAlike : ℕ → (ℕ → ℤ) → ℕ → List ℤ → List Range → Type 0
IsAlike d c k cs path = (DividesLevels d c k path → All (λ n. d ∣ n) (gaps_of cs path)) × (All (λ n. d ∣ n) (gaps_of cs path) → DividesLevels d c k path)

all_first : (P : ℕ → Type 0) (n : ℕ) (ns : List ℕ) → P n → All P ns → All P (n ∷ ns)
all_first P n ns p h zero e below = p
all_first P n ns p h (suc k) e below = h k e (omega (arith, below))

gaps_nowhere : (d k : ℕ) (path : List Range) → DividesLevels d (at_level []) k path
gaps_nowhere d k [] = tt
gaps_nowhere d k (r ∷ path) = (divides_nothing d k (at_level []) r refl, gaps_nowhere d (suc k) path)

gaps_later : (d : ℕ) (b : ℤ) (cs : List ℤ) (k : ℕ) (path : List Range)
    → (DividesLevels d (at_level (b ∷ cs)) (suc k) path → DividesLevels d (at_level cs) k path) × (DividesLevels d (at_level cs) k path → DividesLevels d (at_level (b ∷ cs)) (suc k) path)
gaps_later d b cs k [] = ((λ p. tt), (λ p. tt))
gaps_later d b cs k (r ∷ path) = let more = gaps_later d b cs (suc k) path in ((λ p. (p.0, more.0 p.1)), (λ p. (p.0, more.1 p.1)))

gaps_are : (d : ℕ) (cs : List ℤ) (n : ℕ) (path : List Range) → IsAlike d (at_level cs) n (drop n cs) path
gaps_are d [] zero path = ((λ p k e below. absurd (omega (arith, below))), (λ p. gaps_nowhere d zero path))
gaps_are d [] (suc n) path = ((λ p k e below. absurd (omega (arith, below))), (λ p. gaps_nowhere d (suc n) path))
gaps_are d (c ∷ cs) zero [] = ((λ p k e below. absurd (omega (arith, below))), (λ p. tt))
gaps_are d (c ∷ cs) zero (r ∷ path) =
    let later = gaps_later d c cs zero path in
    let more = gaps_are d cs zero path in (
      (λ p. all_first (λ n. d ∣ n) (gap_of c r) (gaps_of cs path) p.0 (more.0 (later.0 p.1))),
      (λ p. (p 0 0 (omega arith), later.1 (more.1 (λ k e below. p (suc k) e (omega (arith, below)))))),
    )
gaps_are d (c ∷ cs) (suc n) path =
    let later = gaps_later d c cs n path in
    let more = gaps_are d cs n path in
    ((λ p. more.0 (later.0 p)), (λ p. later.1 (more.1 p)))

same_gaps : (d : ℕ) (a b : ℕ → ℤ) (k : ℕ) (path : List Range) → ((n : ℕ) → a n ≡ b n) → DividesLevels d a k path → DividesLevels d b k path
same_gaps d a b k [] h p = tt
same_gaps d a b k (r ∷ path) h p = (subst (λ w. d ∣ gap_of w r) (h k) p.0, same_gaps d a b (suc k) path h p.1)

pub gap_levels : (d : ℕ) (ts : List Term) (cs : List ℤ) (n : ℕ) (path : List Range) → ((k : ℕ) → coefficient_at ts k ≡ slice_index_or cs k (pos 0))
    → (DividesLevels d (coefficient_at ts) n path → All (λ m. d ∣ m) (gaps_of (drop n cs) path)) × (All (λ m. d ∣ m) (gaps_of (drop n cs) path) → DividesLevels d (coefficient_at ts) n path)
gap_levels d ts cs n path h =
    let are = gaps_are d cs n path in
    ((λ p. are.0 (same_gaps d (coefficient_at ts) (at_level cs) n path h p)), (λ p. same_gaps d (at_level cs) (coefficient_at ts) n path (λ k. sym (h k)) (are.1 p)))
