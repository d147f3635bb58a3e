-- The start and the step of a loop's range, and the numbers of its turns.
use Rattle.std.proofs.Common.{◌≡◌, refl, sym, ◌∙◌, subst, arith, ℕ, zero, suc, ◌*◌, ◌/◌, ◌<◌, ◌≤◌, Bool, true, false, ◌&&◌, if◌then◌else◌, List, ℤ, pos, negsuc, neg_ℤ, ◌+ℤ◌, ◌-ℤ◌, ◌*ℤ◌, ◌<ℤ◌, ◌≤ℤ◌, Option, Some}
use Rattle.std.specs.Prelude.{int_lt, int_le, unsigned_abs}
use Rattle.std.proofs.lemmas.Int.{ints}
use Rattle.std.proofs.Math.Nat.{le-div_iff_mul-le, mul-le-mul_right}
use Rattle.species_ast.specs.declared.tree.Test.{Test}
use Rattle.species_ast.specs.declared.tree.Test.TheVariants.{Lt, Le, Gt, Ge}
use Rattle.species_ast.specs.Run.{distance, pace, turns_in, counted}
use Rattle.species_ast.specs.Scope.Forms.{Form, is_constant, form_value}
use Rattle.species_ast.specs.Scope.Hulls.{Range, last_form, last_value, start_constant, fixed_range, wide_range, no_range, range_between, has_empty}
use Rattle.species_ast.specs.Scope.Limits.{goes}
use Rattle.species_ast.proofs.Induction.{Each}
use Rattle.species_ast.proofs.IteratorLaws.{in_turn, turn_passes}
use Rattle.species_occurrences.specs.Iterators.{IsInt}

pub less_of : (x y : ℤ) → int_lt x y ≡ true → x <ℤ y
less_of x y h = grind (arith, ints)

-- ---- the range keeps the start and the step

pub fixed_start : (step first last : ℤ) → (fixed_range step first last).start ≡ Some first
fixed_start (pos n) first last = refl
fixed_start (negsuc n) first last = refl

pub fixed_step : (step first last : ℤ) → (fixed_range step first last).step ≡ step
fixed_step (pos n) first last = refl
fixed_step (negsuc n) first last = refl

pub wide_start : (path : List Range) (step : ℤ) (first last : Form) → (wide_range path step first last).start ≡ start_constant first
wide_start path (pos n) first last = refl
wide_start path (negsuc n) first last = refl

wide_step : (path : List Range) (step : ℤ) (first last : Form) → (wide_range path step first last).step ≡ step
wide_step path (pos n) first last = refl
wide_step path (negsuc n) first last = refl

abbrev HasStart : Option ℤ → Range → Type 0
HasStart o r = r.start ≡ o

abbrev HasStep : ℤ → Range → Type 0
HasStep step r = r.step ≡ step

pub range_start : (path : List Range) (step : ℤ) (first last : Form) → (range_between path step first last).start ≡ start_constant first
range_start path step first last = go (is_constant first) (is_constant last) (has_empty path) refl
  where
    go : (t u v : Bool) → is_constant first ≡ t
        → HasStart (start_constant first) (if t && u then fixed_range step first.constant last.constant else (if v then no_range step first last else wide_range path step first last))
    go true true v is = fixed_start step first.constant last.constant ∙ (rw is refl)
    go true false true is = refl
    go true false false is = wide_start path step first last
    go false u true is = refl
    go false u false is = wide_start path step first last

pub range_step : (path : List Range) (step : ℤ) (first last : Form) → (range_between path step first last).step ≡ step
range_step path step first last = go (is_constant first && is_constant last) (has_empty path)
  where
    go : (t v : Bool) → HasStep step (if t then fixed_range step first.constant last.constant else (if v then no_range step first last else wide_range path step first last))
    go true v = fixed_step step first.constant last.constant
    go false true = refl
    go false false = wide_step path step first last

-- ---- between the start and the last number

-- the last number that may pass
abbrev pub last_of : Test → ℤ → ℤ
last_of Lt limit = limit -ℤ pos 1
last_of Le limit = limit
last_of Gt limit = limit +ℤ pos 1
last_of Ge limit = limit

pub value-last_form : (test : Test) (f : Form) (iters : List ℤ) → form_value (last_form test f) iters ≡ last_of test (form_value f iters)
value-last_form Lt f iters = omega (arith, ints)
value-last_form Le f iters = refl
value-last_form Gt f iters = omega (arith, ints)
value-last_form Ge f iters = refl

-- in the direction of the step
abbrev pub IsBetween : ℤ → ℤ → ℤ → ℤ → Type 0
IsBetween (pos n) first last i = (first ≤ℤ i) × (i ≤ℤ last)
IsBetween (negsuc n) first last i = (last ≤ℤ i) × (i ≤ℤ first)

pub down : (k p : ℕ) → pos k *ℤ negsuc p ≡ neg_ℤ (pos (k * suc p))
down k p = refl

pub up : (k p : ℕ) → pos k *ℤ pos p ≡ pos (k * p)
up k p = refl

pub turn_between : (test : Test) (first limit step : ℤ) (k : ℕ) → goes test step ≡ true → k < turns_in (distance test first limit) (pace test step)
    → IsBetween step first (last_of test limit) (in_turn first step k)
turn_between Lt s l (pos (suc p)) k g h = (omega (arith, ints, up k (suc p)), omega (arith, ints, turn_passes Lt s l (pos (suc p)) k (omega (arith, ints)) h))
turn_between Le s l (pos (suc p)) k g h = (omega (arith, ints, up k (suc p)), omega (arith, ints, turn_passes Le s l (pos (suc p)) k (omega (arith, ints)) h))
turn_between Gt s l (negsuc p) k g h = (omega (arith, ints, turn_passes Gt s l (negsuc p) k (omega (arith, ints)) h), omega (arith, ints, down k p))
turn_between Ge s l (negsuc p) k g h = (omega (arith, ints, turn_passes Ge s l (negsuc p) k (omega (arith, ints)) h), omega (arith, ints, down k p))
turn_between Lt s l (pos zero) k g h = absurd cc
turn_between Le s l (pos zero) k g h = absurd cc
turn_between Lt s l (negsuc p) k g h = absurd cc
turn_between Le s l (negsuc p) k g h = absurd cc
turn_between Gt s l (pos p) k g h = absurd (omega (arith, ints, less_of (pos p) (pos 0) g))
turn_between Ge s l (pos p) k g h = absurd (omega (arith, ints, less_of (pos p) (pos 0) g))

-- a number between `int`s is one
pub int_between : (test : Test) (step first limit i : ℤ) → goes test step ≡ true → IsInt first → IsInt limit → IsBetween step first (last_of test limit) i → IsInt i
int_between Lt (pos n) s l i g p q b = (omega (arith, ints, p.0, b.0), omega (arith, ints, q.1, b.1))
int_between Le (pos n) s l i g p q b = (omega (arith, ints, p.0, b.0), omega (arith, ints, q.1, b.1))
int_between Gt (negsuc n) s l i g p q b = (omega (arith, ints, q.0, b.0), omega (arith, ints, p.1, b.1))
int_between Ge (negsuc n) s l i g p q b = (omega (arith, ints, q.0, b.0), omega (arith, ints, p.1, b.1))
int_between Lt (negsuc n) s l i g p q b = absurd cc
int_between Le (negsuc n) s l i g p q b = absurd cc
int_between Gt (pos n) s l i g p q b = absurd (omega (arith, ints, less_of (pos n) (pos 0) g))
int_between Ge (pos n) s l i g p q b = absurd (omega (arith, ints, less_of (pos n) (pos 0) g))

-- ---- the turns, one by one

next_turn : (start step : ℤ) (k : ℕ) → in_turn (start +ℤ step) step k ≡ in_turn start step (suc k)
next_turn start (pos s) k = omega (arith, ints)
next_turn start (negsuc s) k = omega (arith, ints, down k s, down (suc k) s)

first_turn : (start step : ℤ) → in_turn start step 0 ≡ start
first_turn start (pos s) = omega (arith, ints)
first_turn start (negsuc s) = omega (arith, ints)

pub each_counted : (P : ℤ → Type 0) (n : ℕ) (start step : ℤ) → ((k : ℕ) → k < n → P (in_turn start step k)) → Each P (counted n start step)
each_counted P zero start step h = tt
each_counted P (suc n) start step h = (
  subst P (first_turn start step) (h 0 (omega arith)),
  each_counted P n (start +ℤ step) step (λ k below. subst P (sym (next_turn start step k)) (h (suc k) (omega (arith, below)))),
)

-- ---- a turn lies in the range

-- a turn is not past the last one
few : (k p d : ℕ) → k * suc p ≤ d → k * suc p ≤ (d / suc p) * suc p
few k p d h = mul-le-mul_right (suc p) ((le-div_iff_mul-le (omega arith)).1 h)

pub in_fixed : (step first last : ℤ) (k : ℕ) → IsBetween step first last (in_turn first step k)
    → ((fixed_range step first last).low ≤ℤ in_turn first step k) × (in_turn first step k ≤ℤ (fixed_range step first last).high)
in_fixed (pos zero) s e k b = (b.0, go (int_le s e))
  where
    go : (t : Bool) → in_turn s (pos zero) k ≤ℤ (if t then last_value (pos zero) s e else e)
    go true = omega (arith, ints)
    go false = b.1
in_fixed (pos (suc p)) s e k b = (b.0, go (int_le s e))
  where
    go : (t : Bool) → in_turn s (pos (suc p)) k ≤ℤ (if t then last_value (pos (suc p)) s e else e)
    go true =
        let most : k * suc p ≤ unsigned_abs (e -ℤ s) = omega (arith, ints, up k (suc p), b.1) in
        let last = unsigned_abs (e -ℤ s) / suc p in
        omega (arith, ints, up k (suc p), up last (suc p), few k p (unsigned_abs (e -ℤ s)) most)
    go false = b.1
in_fixed (negsuc p) s e k b = (go (int_le e s), b.1)
  where
    go : (t : Bool) → (if t then last_value (negsuc p) s e else e) ≤ℤ in_turn s (negsuc p) k
    go true =
        let most : k * suc p ≤ unsigned_abs (e -ℤ s) = omega (arith, ints, down k p, b.0) in
        let last = unsigned_abs (e -ℤ s) / suc p in
        omega (arith, ints, down k p, down last p, few k p (unsigned_abs (e -ℤ s)) most)
    go false = b.0
