-- The turns of a loop one by one, lists of statements one by one, and frames.
use Rattle.std.proofs.Common.{◌≡◌, refl, ap, sym, ◌∙◌, arith, ℕ, zero, suc, ◌+◌, ◌-◌, ◌/◌, ◌<◌, ◌≤◌, List, [], ◌∷◌, ◌++◌, map, length, length-append, get_or, set, take, drop, drop-cons, add-one, ℤ, pos, negsuc, neg_ℤ, ◌+ℤ◌, ◌-ℤ◌, ◌<ℤ◌, ◌≤ℤ◌, ◌⊎◌, inl, inr, ⊎_elim, Option, None, Bool, true, false, ◌&&◌}
use Rattle.std.specs.Prelude.{int_lt, int_le, FitsSigned}
use Rattle.std.proofs.Common.{w32, rules}
use Rattle.std.proofs.Math.Seq.{take-append_seam}
use Rattle.std.proofs.lemmas.Int.{ints}
use Rattle.std.proofs.Math.Nat.{div-eq-sub-div, div-eq_of_lt}
use Rattle.species_ast.specs.declared.tree.Value.{Value}
use Rattle.species_ast.specs.declared.tree.Stmt.{Stmt}
use Rattle.species_ast.specs.declared.tree.Test.{Test}
use Rattle.species_ast.specs.declared.tree.Test.TheVariants.{Lt, Le, Gt, Ge}
use Rattle.species_ast.specs.Evaluation.{Frame, Context, with_local}
use Rattle.species_ast.specs.Run.{pace, turns_in, counted, iterator_values, cleared}
use Rattle.species_ast.proofs.IteratorLaws.{Passes}
use Rattle.bones_meaning.specs.Tapes.{Tape, and_then}
use Rattle.bones_meaning.specs.Walked.{act, effect, effects, locals_declared, has_turn}

order : (e p : ℕ) → (p ≤ e) ⊎ (e < p)
order e zero = inl (omega arith)
order zero (suc p) = inr (omega arith)
order (suc e) (suc p) = ⊎_elim (λ h. inl (omega (arith, h))) (λ h. inr (omega (arith, h))) (order e p)

above : (e p : ℕ) (d : ℤ) → p ≤ e → d ≡ pos e -ℤ pos p → turns_in d (pos (suc p)) ≡ e / suc p
above e p (pos n) less same =
    let is : n + p ≡ e = omega (arith, ints, less, same) in ap (λ k. k / suc p) is
above e p (negsuc n) less same = absurd (omega (arith, ints, less, same))

under : (e p : ℕ) (d : ℤ) → e < p → d ≡ pos e -ℤ pos p → turns_in d (pos (suc p)) ≡ e / suc p
under e p (pos n) less same = absurd (omega (arith, ints, less, same))
under e p (negsuc n) less same = sym (div-eq_of_lt (omega (arith, less)))

pub turns_next : (d : ℤ) (p : ℕ) → pos 0 <ℤ d → turns_in d (pos (suc p)) ≡ suc (turns_in (d -ℤ pos (suc p)) (pos (suc p)))
turns_next (negsuc n) p h = absurd (omega (arith, ints, h))
turns_next (pos zero) p h = absurd (omega (arith, ints, h))
turns_next (pos (suc e)) p h =
    let d = pos (suc e) -ℤ pos (suc p) in
    let same : d ≡ pos e -ℤ pos p = omega (arith, ints) in
    let one : (suc e + p) / suc p ≡ (suc e + p - suc p) / suc p + 1 = div-eq-sub-div (omega arith) (omega arith) in
    let less : suc e + p - suc p ≡ e = omega arith in
    let rest : turns_in d (pos (suc p)) ≡ e / suc p = ⊎_elim (λ h. above e p d h same) (λ h. under e p d h same) (order e p) in
    let first : (suc e + p - suc p) / suc p ≡ e / suc p = ap (λ k. k / suc p) less in
    omega (arith, one, rest, first)

pub turns_none : (d : ℤ) (p : ℕ) → d ≤ℤ pos 0 → turns_in d (pos (suc p)) ≡ 0
turns_none (pos zero) p h = div-eq_of_lt (omega arith)
turns_none (pos (suc e)) p h = absurd (omega (arith, ints, h))
turns_none (negsuc n) p h = refl

next_from : (start step : ℤ) (n m : ℕ) → n ≡ suc m → counted n start step ≡ start ∷ counted m (start +ℤ step) step
next_from start step n m same = ap (λ k. counted k start step) same

-- as a loop in code goes: while the test holds, a turn and a step
pub values_next : (test : Test) (start limit step : ℤ) → pos 0 <ℤ pace test step → Passes test start limit
    → iterator_values test start limit step ≡ start ∷ iterator_values test (start +ℤ step) limit step
values_next Lt start limit (pos (suc p)) h passes =
    let far : limit -ℤ (start +ℤ pos (suc p)) ≡ limit -ℤ start -ℤ pos (suc p) = omega (arith, ints) in
    next_from start (pos (suc p)) _ _ (turns_next (limit -ℤ start) p (omega (arith, ints, passes)) ∙ ap (λ d. suc (turns_in d (pos (suc p)))) (sym far))
values_next Le start limit (pos (suc p)) h passes =
    let far : limit +ℤ pos 1 -ℤ (start +ℤ pos (suc p)) ≡ limit +ℤ pos 1 -ℤ start -ℤ pos (suc p) = omega (arith, ints) in
    next_from start (pos (suc p)) _ _ (turns_next (limit +ℤ pos 1 -ℤ start) p (omega (arith, ints, passes)) ∙ ap (λ d. suc (turns_in d (pos (suc p)))) (sym far))
values_next Gt start limit (negsuc p) h passes =
    let far : start +ℤ negsuc p -ℤ limit ≡ start -ℤ limit -ℤ pos (suc p) = omega (arith, ints) in
    next_from start (negsuc p) _ _ (turns_next (start -ℤ limit) p (omega (arith, ints, passes)) ∙ ap (λ d. suc (turns_in d (pos (suc p)))) (sym far))
values_next Ge start limit (negsuc p) h passes =
    let far : start +ℤ negsuc p +ℤ pos 1 -ℤ limit ≡ start +ℤ pos 1 -ℤ limit -ℤ pos (suc p) = omega (arith, ints) in
    next_from start (negsuc p) _ _ (turns_next (start +ℤ pos 1 -ℤ limit) p (omega (arith, ints, passes)) ∙ ap (λ d. suc (turns_in d (pos (suc p)))) (sym far))
values_next Lt start limit (pos zero) h passes = absurd h.lt
values_next Le start limit (pos zero) h passes = absurd h.lt
values_next Lt start limit (negsuc p) h passes = absurd h.lt
values_next Le start limit (negsuc p) h passes = absurd h.lt
values_next Gt start limit (pos zero) h passes = absurd h.lt
values_next Ge start limit (pos zero) h passes = absurd h.lt
values_next Gt start limit (pos (suc p)) h passes = absurd h.lt
values_next Ge start limit (pos (suc p)) h passes = absurd h.lt

-- ---- as code goes

and_true : (a b : Bool) → (a && b) ≡ true → (a ≡ true) × (b ≡ true)
and_true true b h = (refl, h)
and_true false b h = absurd cc

lt_from : (a b : ℤ) → int_lt a b ≡ true → a <ℤ b
lt_from a b h = grind (arith, ints)

le_from : (a b : ℤ) → int_le a b ≡ true → a ≤ℤ b
le_from a b h = grind (arith, ints)

lt_not : (a b : ℤ) → int_lt a b ≡ false → b ≤ℤ a
lt_not a b h = grind (arith, ints)

le_not : (a b : ℤ) → int_le a b ≡ false → b <ℤ a
le_not a b h = grind (arith, ints)

pub turn_first : (test : Test) (at limit step : ℤ) → has_turn test at limit step ≡ true → iterator_values test at limit step ≡ at ∷ iterator_values test (at +ℤ step) limit step
turn_first Lt at limit step h =
    let b = and_true (int_lt (pos 0) step) (int_lt at limit) h in values_next Lt at limit step (lt_from (pos 0) step b.0) (lt_from at limit b.1)
turn_first Le at limit step h =
    let b = and_true (int_lt (pos 0) step) (int_le at limit) h in values_next Le at limit step (lt_from (pos 0) step b.0) (le_from at limit b.1)
turn_first Gt at limit step h =
    let b = and_true (int_lt step (pos 0)) (int_lt limit at) h in
    values_next Gt at limit step (omega (arith, ints, lt_from step (pos 0) b.0)) (lt_from limit at b.1)
turn_first Ge at limit step h =
    let b = and_true (int_lt step (pos 0)) (int_le limit at) h in
    values_next Ge at limit step (omega (arith, ints, lt_from step (pos 0) b.0)) (le_from limit at b.1)

and_false : {P : Type 0} (a b : Bool) → (a && b) ≡ false → (a ≡ false → P) → (a ≡ true → b ≡ false → P) → P
and_false true b h p q = q refl h
and_false false b h p q = p refl

-- no number is counted, by a pace that is none or where the distance is
no_pace : (d p : ℤ) → p ≤ℤ pos 0 → turns_in d p ≡ 0
no_pace (pos d) (pos zero) h = refl
no_pace (pos d) (pos (suc p)) h = absurd (omega (arith, ints, h))
no_pace (pos d) (negsuc p) h = refl
no_pace (negsuc d) p h = refl

no_distance : (d p : ℤ) → d ≤ℤ pos 0 → turns_in d p ≡ 0
no_distance d (pos (suc p)) h = turns_none d p h
no_distance (pos d) (pos zero) h = refl
no_distance (pos d) (negsuc p) h = refl
no_distance (negsuc d) (pos zero) h = refl
no_distance (negsuc d) (negsuc p) h = refl

none_counted : (n : ℕ) (start step : ℤ) → n ≡ 0 → counted n start step ≡ []
none_counted n start step h = ap (λ k. counted k start step) h

pub turn_none : (test : Test) (at limit step : ℤ) → has_turn test at limit step ≡ false → iterator_values test at limit step ≡ []
turn_none Lt at limit step h = none_counted _ at step (and_false (int_lt (pos 0) step) (int_lt at limit) h
    (λ p. no_pace _ step (lt_not (pos 0) step p)) (λ p q. no_distance (limit -ℤ at) step (omega (arith, ints, lt_not at limit q))))
turn_none Le at limit step h = none_counted _ at step (and_false (int_lt (pos 0) step) (int_le at limit) h
    (λ p. no_pace _ step (lt_not (pos 0) step p)) (λ p q. no_distance (limit +ℤ pos 1 -ℤ at) step (omega (arith, ints, le_not at limit q))))
turn_none Gt at limit step h = none_counted _ at step (and_false (int_lt step (pos 0)) (int_lt limit at) h
    (λ p. no_pace _ (neg_ℤ step) (omega (arith, ints, lt_not step (pos 0) p))) (λ p q. no_distance (at -ℤ limit) (neg_ℤ step) (omega (arith, ints, lt_not limit at q))))
turn_none Ge at limit step h = none_counted _ at step (and_false (int_lt step (pos 0)) (int_le limit at) h
    (λ p. no_pace _ (neg_ℤ step) (omega (arith, ints, lt_not step (pos 0) p))) (λ p q. no_distance (at +ℤ pos 1 -ℤ limit) (neg_ℤ step) (omega (arith, ints, le_not limit at q))))

-- a number outside the range of the limits has no turn, beyond a turn
pub turn_out : (test : Test) (at limit step : ℤ) → has_turn test at limit step ≡ true → FitsSigned w32 at → FitsSigned w32 limit → (FitsSigned w32 (at +ℤ step) → ⊥)
    → iterator_values test (at +ℤ step) limit step ≡ []
turn_out test at limit step h fits_at fits out = turn_none test (at +ℤ step) limit step (go (has_turn test (at +ℤ step) limit step) refl)
  where
    between : (test : Test) → has_turn test at limit step ≡ true → has_turn test (at +ℤ step) limit step ≡ true → FitsSigned w32 (at +ℤ step)
    between Lt h k =
        let b = and_true (int_lt (pos 0) step) (int_lt at limit) h in
        let d = and_true (int_lt (pos 0) step) (int_lt (at +ℤ step) limit) k in
        let up = lt_from (pos 0) step b.0 in let down = lt_from (at +ℤ step) limit d.1 in search (rules, ints, up, down)
    between Le h k =
        let b = and_true (int_lt (pos 0) step) (int_le at limit) h in
        let d = and_true (int_lt (pos 0) step) (int_le (at +ℤ step) limit) k in
        let up = lt_from (pos 0) step b.0 in let down = le_from (at +ℤ step) limit d.1 in search (rules, ints, up, down)
    between Gt h k =
        let b = and_true (int_lt step (pos 0)) (int_lt limit at) h in
        let d = and_true (int_lt step (pos 0)) (int_lt limit (at +ℤ step)) k in
        let up = lt_from step (pos 0) b.0 in let down = lt_from limit (at +ℤ step) d.1 in search (rules, ints, up, down)
    between Ge h k =
        let b = and_true (int_lt step (pos 0)) (int_le limit at) h in
        let d = and_true (int_lt step (pos 0)) (int_le limit (at +ℤ step)) k in
        let up = lt_from step (pos 0) b.0 in let down = le_from limit (at +ℤ step) d.1 in search (rules, ints, up, down)

    go : (b : Bool) → has_turn test (at +ℤ step) limit step ≡ b → has_turn test (at +ℤ step) limit step ≡ false
    go true k = absurd (out (between test h k))
    go false k = k

pub effects_next : (w : Context) (all : List Stmt) (i : ℕ) (f : Frame) (t : Tape) (e : Stmt) → e ≡ get_or all i e → i < length all
    → effects w (drop i all) f t ≡ and_then (effect w e f t) (λ g u. effects w (drop (i + 1) all) g u)
effects_next w all i f t e at within =
    let d : drop i all ≡ e ∷ drop (i + 1) all = rw (add-one, drop-cons all i e within) (ap (λ x. x ∷ drop (suc i) all) (sym at)) in
    ap (λ l. effects w l f t) d

cleared-append : (xs ys : List ℕ) (g : Frame) → cleared (xs ++ ys) g ≡ cleared ys (cleared xs g)
cleared-append [] ys g = refl
cleared-append (x ∷ xs) ys g = cleared-append xs ys (with_local g x None)

pub cleared_next : (w : Context) (all : List Stmt) (i : ℕ) (g : Frame) (e : Stmt) → e ≡ get_or all i e → i < length all
    → cleared (locals_declared w (drop i all)) g ≡ cleared (locals_declared w (drop (i + 1) all)) (cleared (act w e).declares g)
cleared_next w all i g e at within =
    let d : drop i all ≡ e ∷ drop (i + 1) all = rw (add-one, drop-cons all i e within) (ap (λ x. x ∷ drop (suc i) all) (sym at)) in
    ap (λ l. cleared (locals_declared w l) g) d ∙ cleared-append (act w e).declares (locals_declared w (drop (i + 1) all)) g

pub cleared_iters : (xs : List ℕ) (g : Frame) → (cleared xs g).iters ≡ g.iters
cleared_iters [] g = refl
cleared_iters (x ∷ xs) g = cleared_iters xs (with_local g x None)

pub popped : (xs ys : List ℤ) (a : ℤ) → ys ≡ xs ++ a ∷ [] → take (length ys - 1) ys ≡ xs
popped xs ys a e =
    let n : length ys - 1 ≡ length xs = omega (arith, ap length e, length-append xs (a ∷ [])) in
    ap (λ k. take k ys) n ∙ ap (take (length xs)) e ∙ take-append_seam xs (a ∷ [])

pub set_twice : (ls : List (Option Value)) (x : ℕ) (o p : Option Value) → set (set ls x o) x p ≡ set ls x p
set_twice [] x o p = refl
set_twice (l ∷ ls) zero o p = refl
set_twice (l ∷ ls) (suc x) o p = ap (λ k. l ∷ k) (set_twice ls x o p)
