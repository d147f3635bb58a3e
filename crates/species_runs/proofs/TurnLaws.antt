-- Laws of the values of an iterator: the loop's own equation, and that different turns have different values.
use Rattle.std.proofs.Common.{◌≡◌, refl, ap, sym, ◌∙◌, arith, ℕ, zero, suc, ◌+◌, ◌-◌, ◌/◌, ◌<◌, ◌≤◌, List, [], ◌∷◌, ℤ, pos, negsuc, ◌+ℤ◌, ◌-ℤ◌, ◌<ℤ◌, ◌≤ℤ◌, ◌⊎◌, inl, inr, ⊎_elim, subst, ◌++◌}
use Rattle.std.specs.List.{Contains}
use Rattle.std.proofs.lemmas.Int.{ints}
use Rattle.std.proofs.Math.Nat.{div-eq-sub-div, div-eq_of_lt}
use Rattle.species_ast.specs.declared.tree.Test.{Test}
use Rattle.species_ast.specs.declared.tree.Test.TheVariants.{Lt, Le, Gt, Ge}
use Rattle.species_ast.specs.Run.{distance, pace, turns_in, counted, iterator_values}
use Rattle.species_ast.proofs.IteratorLaws.{Passes}
use Rattle.species_runs.specs.Distinct.{Distinct}

order : (e p : ℕ) → (p ≤ e) ⊎ (e < p)
order e zero = inl (omega arith)
order zero (suc p) = inr (omega arith)
order (suc e) (suc p) = ⊎_elim (λ h. inl (omega (arith, h))) (λ h. inr (omega (arith, h))) (order e p)

above : (e p : ℕ) (d : ℤ) → p ≤ e → d ≡ pos e -ℤ pos p → turns_in d (pos (suc p)) ≡ e / suc p
above e p (pos n) less same =
    let is : n + p ≡ e = omega (arith, ints, less, same) in ap (λ k. k / suc p) is
above e p (negsuc n) less same = absurd (omega (arith, ints, less, same))

under : (e p : ℕ) (d : ℤ) → e < p → d ≡ pos e -ℤ pos p → turns_in d (pos (suc p)) ≡ e / suc p
under e p (pos n) less same = absurd (omega (arith, ints, less, same))
under e p (negsuc n) less same = sym (div-eq_of_lt (omega (arith, less)))

pub turns_next : (d : ℤ) (p : ℕ) → pos 0 <ℤ d → turns_in d (pos (suc p)) ≡ suc (turns_in (d -ℤ pos (suc p)) (pos (suc p)))
turns_next (negsuc n) p h = absurd (omega (arith, ints, h))
turns_next (pos zero) p h = absurd (omega (arith, ints, h))
turns_next (pos (suc e)) p h =
    let d = pos (suc e) -ℤ pos (suc p) in
    let same : d ≡ pos e -ℤ pos p = omega (arith, ints) in
    let one : (suc e + p) / suc p ≡ (suc e + p - suc p) / suc p + 1 = div-eq-sub-div (omega arith) (omega arith) in
    let less : suc e + p - suc p ≡ e = omega arith in
    let rest : turns_in d (pos (suc p)) ≡ e / suc p = ⊎_elim (λ h. above e p d h same) (λ h. under e p d h same) (order e p) in
    let first : (suc e + p - suc p) / suc p ≡ e / suc p = ap (λ k. k / suc p) less in
    omega (arith, one, rest, first)

pub turns_none : (d : ℤ) (p : ℕ) → d ≤ℤ pos 0 → turns_in d (pos (suc p)) ≡ 0
turns_none (pos zero) p h = div-eq_of_lt (omega arith)
turns_none (pos (suc e)) p h = absurd (omega (arith, ints, h))
turns_none (negsuc n) p h = refl

next_from : (start step : ℤ) (n m : ℕ) → n ≡ suc m → counted n start step ≡ start ∷ counted m (start +ℤ step) step
next_from start step n m same = ap (λ k. counted k start step) same

none_from : (start step : ℤ) (n : ℕ) → n ≡ 0 → counted n start step ≡ []
none_from start step n none = ap (λ k. counted k start step) none

compare : (a b d : ℤ) → d ≡ b -ℤ a → (a <ℤ b) ⊎ (b ≤ℤ a)
compare a b (pos (suc n)) e = inl (omega (arith, ints, e))
compare a b (pos zero) e = inr (omega (arith, ints, e))
compare a b (negsuc n) e = inr (omega (arith, ints, e))

not_less : (a b : ℤ) → (a <ℤ b → ⊥) → b ≤ℤ a
not_less a b h = ⊎_elim (λ l. absurd (h l)) (λ g. g) (compare a b (b -ℤ a) refl)

not_most : (a b : ℤ) → (a ≤ℤ b → ⊥) → b <ℤ a
not_most a b h = ⊎_elim (λ l. l) (λ g. absurd (h g)) (compare b a (a -ℤ b) refl)

-- the law, as a loop in code goes: while the test holds, a turn and a step
pub values_next : (test : Test) (start limit step : ℤ) → pos 0 <ℤ pace test step → Passes test start limit
    → iterator_values test start limit step ≡ start ∷ iterator_values test (start +ℤ step) limit step
values_next Lt start limit (pos (suc p)) h passes =
    let far : limit -ℤ (start +ℤ pos (suc p)) ≡ limit -ℤ start -ℤ pos (suc p) = omega (arith, ints) in
    next_from start (pos (suc p)) _ _ (turns_next (limit -ℤ start) p (omega (arith, ints, passes)) ∙ ap (λ d. suc (turns_in d (pos (suc p)))) (sym far))
values_next Le start limit (pos (suc p)) h passes =
    let far : limit +ℤ pos 1 -ℤ (start +ℤ pos (suc p)) ≡ limit +ℤ pos 1 -ℤ start -ℤ pos (suc p) = omega (arith, ints) in
    next_from start (pos (suc p)) _ _ (turns_next (limit +ℤ pos 1 -ℤ start) p (omega (arith, ints, passes)) ∙ ap (λ d. suc (turns_in d (pos (suc p)))) (sym far))
values_next Gt start limit (negsuc p) h passes =
    let far : start +ℤ negsuc p -ℤ limit ≡ start -ℤ limit -ℤ pos (suc p) = omega (arith, ints) in
    next_from start (negsuc p) _ _ (turns_next (start -ℤ limit) p (omega (arith, ints, passes)) ∙ ap (λ d. suc (turns_in d (pos (suc p)))) (sym far))
values_next Ge start limit (negsuc p) h passes =
    let far : start +ℤ negsuc p +ℤ pos 1 -ℤ limit ≡ start +ℤ pos 1 -ℤ limit -ℤ pos (suc p) = omega (arith, ints) in
    next_from start (negsuc p) _ _ (turns_next (start +ℤ pos 1 -ℤ limit) p (omega (arith, ints, passes)) ∙ ap (λ d. suc (turns_in d (pos (suc p)))) (sym far))
values_next Lt start limit (pos zero) h passes = absurd h.lt
values_next Le start limit (pos zero) h passes = absurd h.lt
values_next Lt start limit (negsuc p) h passes = absurd h.lt
values_next Le start limit (negsuc p) h passes = absurd h.lt
values_next Gt start limit (pos zero) h passes = absurd h.lt
values_next Ge start limit (pos zero) h passes = absurd h.lt
values_next Gt start limit (pos (suc p)) h passes = absurd h.lt
values_next Ge start limit (pos (suc p)) h passes = absurd h.lt

-- and where it fails, no turn
pub values_end : (test : Test) (start limit step : ℤ) → pos 0 <ℤ pace test step → (Passes test start limit → ⊥) → iterator_values test start limit step ≡ []
values_end Lt start limit (pos (suc p)) h fails = none_from start (pos (suc p)) _ (turns_none (limit -ℤ start) p (omega (arith, ints, not_less start limit fails)))
values_end Le start limit (pos (suc p)) h fails = none_from start (pos (suc p)) _ (turns_none (limit +ℤ pos 1 -ℤ start) p (omega (arith, ints, not_most start limit fails)))
values_end Gt start limit (negsuc p) h fails = none_from start (negsuc p) _ (turns_none (start -ℤ limit) p (omega (arith, ints, not_less limit start fails)))
values_end Ge start limit (negsuc p) h fails = none_from start (negsuc p) _ (turns_none (start +ℤ pos 1 -ℤ limit) p (omega (arith, ints, not_most limit start fails)))
values_end Lt start limit (pos zero) h fails = absurd h.lt
values_end Le start limit (pos zero) h fails = absurd h.lt
values_end Lt start limit (negsuc p) h fails = absurd h.lt
values_end Le start limit (negsuc p) h fails = absurd h.lt
values_end Gt start limit (pos zero) h fails = absurd h.lt
values_end Ge start limit (pos zero) h fails = absurd h.lt
values_end Gt start limit (pos (suc p)) h fails = absurd h.lt
values_end Ge start limit (pos (suc p)) h fails = absurd h.lt

-- ---- different turns have different values

pub contains_middle : {X : Type 0} (xs : List X) (x : X) (ys : List X) → Contains (xs ++ x ∷ ys) x
contains_middle [] x ys = (0, omega arith, refl)
contains_middle (y ∷ xs) x ys = let c = contains_middle xs x ys in (suc c.0, omega (arith, c.1), c.2)

pub empty_contains : {X : Type 0} (x : X) → Contains [] x → ⊥
empty_contains x c = let below = c.1 in omega (arith, below)

first_or_later : (x y : ℤ) (xs : List ℤ) → Contains (x ∷ xs) y → (x ≡ y) ⊎ Contains xs y
first_or_later x y xs (zero, under, is) = inl is
first_or_later x y xs (suc k, under, is) = inr (k, omega (arith, under), is)

up_from : (n : ℕ) (start : ℤ) (p : ℕ) (v : ℤ) → Contains (counted n start (pos (suc p))) v → start ≤ℤ v
up_from zero start p v c = absurd (empty_contains v c)
up_from (suc n) start p v c =
    ⊎_elim (λ (e : start ≡ v). omega (arith, ints, e)) (λ l. omega (arith, ints, up_from n (start +ℤ pos (suc p)) p v l)) (first_or_later start v (counted n (start +ℤ pos (suc p)) (pos (suc p))) c)

down_from : (n : ℕ) (start : ℤ) (p : ℕ) (v : ℤ) → Contains (counted n start (negsuc p)) v → v ≤ℤ start
down_from zero start p v c = absurd (empty_contains v c)
down_from (suc n) start p v c =
    ⊎_elim (λ (e : start ≡ v). omega (arith, ints, e)) (λ l. omega (arith, ints, down_from n (start +ℤ negsuc p) p v l)) (first_or_later start v (counted n (start +ℤ negsuc p) (negsuc p)) c)

up_distinct : (n : ℕ) (start : ℤ) (p : ℕ) → Distinct (counted n start (pos (suc p)))
up_distinct zero start p = tt
up_distinct (suc n) start p =
    ((λ c. let more = up_from n (start +ℤ pos (suc p)) p start c in let no_way : ⊥ = omega (arith, ints, more) in no_way), up_distinct n (start +ℤ pos (suc p)) p)

down_distinct : (n : ℕ) (start : ℤ) (p : ℕ) → Distinct (counted n start (negsuc p))
down_distinct zero start p = tt
down_distinct (suc n) start p =
    ((λ c. let less = down_from n (start +ℤ negsuc p) p start c in let no_way : ⊥ = omega (arith, ints, less) in no_way), down_distinct n (start +ℤ negsuc p) p)

no_turns : (n : ℕ) (start step : ℤ) → n ≡ 0 → Distinct (counted n start step)
no_turns zero start step h = tt
no_turns (suc n) start step h = let no_way : ⊥ = omega (arith, h) in absurd no_way

none_at_zero : (d : ℤ) → turns_in d (pos zero) ≡ 0
none_at_zero (pos d) = refl
none_at_zero (negsuc d) = refl

none_back : (d : ℤ) (p : ℕ) → turns_in d (negsuc p) ≡ 0
none_back (pos d) p = refl
none_back (negsuc d) p = refl

-- the law
pub values_distinct : (test : Test) (start limit step : ℤ) → Distinct (iterator_values test start limit step)
values_distinct Lt start limit (pos (suc p)) = up_distinct _ start p
values_distinct Lt start limit (pos zero) = no_turns _ start (pos zero) (none_at_zero (distance Lt start limit))
values_distinct Lt start limit (negsuc p) = no_turns _ start (negsuc p) (none_back (distance Lt start limit) p)
values_distinct Le start limit (pos (suc p)) = up_distinct _ start p
values_distinct Le start limit (pos zero) = no_turns _ start (pos zero) (none_at_zero (distance Le start limit))
values_distinct Le start limit (negsuc p) = no_turns _ start (negsuc p) (none_back (distance Le start limit) p)
values_distinct Gt start limit (negsuc p) = down_distinct _ start p
values_distinct Gt start limit (pos zero) = no_turns _ start (pos zero) (none_at_zero (distance Gt start limit))
values_distinct Gt start limit (pos (suc p)) = no_turns _ start (pos (suc p)) (none_back (distance Gt start limit) p)
values_distinct Ge start limit (negsuc p) = down_distinct _ start p
values_distinct Ge start limit (pos zero) = no_turns _ start (pos zero) (none_at_zero (distance Ge start limit))
values_distinct Ge start limit (pos (suc p)) = no_turns _ start (pos (suc p)) (none_back (distance Ge start limit) p)

-- one value stands at one place
pub same_before : (xs ys : List ℤ) (i : ℤ) (vs us : List ℤ) → Distinct (xs ++ i ∷ vs) → xs ++ i ∷ vs ≡ ys ++ i ∷ us → xs ≡ ys
same_before [] [] i vs us d h = refl
same_before [] (y ∷ ys) i vs us d h =
    let tail : vs ≡ ys ++ i ∷ us = cc in
    absurd (d.0 (subst (λ l. Contains l i) (sym tail) (contains_middle ys i us)))
same_before (x ∷ xs) [] i vs us d h =
    let head : i ≡ x = cc in
    absurd (d.0 (subst (Contains (xs ++ i ∷ vs)) head (contains_middle xs i vs)))
same_before (x ∷ xs) (y ∷ ys) i vs us d h =
    let head : x ≡ y = cc in
    let tail : xs ++ i ∷ vs ≡ ys ++ i ∷ us = cc in
    (λ j. head j ∷ same_before xs ys i vs us d.1 tail j)
