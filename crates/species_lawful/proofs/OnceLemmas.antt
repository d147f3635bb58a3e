-- Numbers one after another stand once each.
use Rattle.std.proofs.Common.{◌≡◌, ◌∙◌, refl, sym, ap, subst, ℕ, zero, suc, ◌+◌, ◌≤◌, ◌<◌, Bool, true, false, ◌&&◌, nat_eq, nat_lt, if◌then◌else◌, List, [], ◌∷◌, length, arith}
use Rattle.std.specs.List.{list_all, filter}
use Rattle.std.proofs.lemmas.Bool.{and_from}
use Rattle.species_ast.specs.Scope.WellMade.{below, is_declared_once}
use Rattle.species_lawful.proofs.MadeLemmas.{from}

apart : (x a : ℕ) → x < a → nat_eq x a ≡ false
apart x a h = grind (arith, h)

none_from : (x a n : ℕ) → x < a → filter (nat_eq x) (from a n) ≡ []
none_from x a zero h = refl
none_from x a (suc n) h = ap (λ b. if b then a ∷ filter (nat_eq x) (from (suc a) n) else filter (nat_eq x) (from (suc a) n)) (apart x a h) ∙ none_from x (suc a) n (omega (arith, h))

once : (x a n : ℕ) → a ≤ x → x < a + n → length (filter (nat_eq x) (from a n)) ≡ 1
once x a zero h k = absurd (omega (arith, h, k))
once x a (suc n) h k = go (λ p. once x (suc a) n p (omega (arith, k))) (nat_eq x a) refl
  where
    here : nat_eq x a ≡ true → x ≡ a
    here e = grind (arith, e)

    past : nat_eq x a ≡ false → suc a ≤ x
    past e = grind (arith, e, h)

    go : (suc a ≤ x → length (filter (nat_eq x) (from (suc a) n)) ≡ 1) → (b : Bool) → nat_eq x a ≡ b → length (if b then a ∷ filter (nat_eq x) (from (suc a) n) else filter (nat_eq x) (from (suc a) n)) ≡ 1
    go later true e = ap (λ l. suc (length l)) (none_from x (suc a) n (omega (arith, here e)))
    go later false e = later (past e)

is_one : (n : ℕ) → n ≡ 1 → nat_eq n 1 ≡ true
is_one n h = grind (arith, h)

is_less : (a b : ℕ) → a < b → nat_lt a b ≡ true
is_less a b h = grind (arith, h)

each_once : (m n : ℕ) → m ≤ n → list_all (λ x. nat_eq (length (filter (nat_eq x) (from 0 n))) 1) (below m) ≡ true
each_once zero n h = refl
each_once (suc m) n h = and_from _ _ (is_one _ (once m 0 n (omega arith) (omega (arith, h)))) (each_once m n (omega (arith, h)))

all_less : (a m n : ℕ) → a + m ≤ n → list_all (λ x. nat_lt x n) (from a m) ≡ true
all_less a zero n h = refl
all_less a (suc m) n h = and_from _ _ (is_less a n (omega (arith, h))) (all_less (suc a) m n (omega (arith, h)))

pub declared_once : (n : ℕ) → is_declared_once n (from 0 n) ≡ true
declared_once n = and_from _ _ (each_once n n (omega arith)) (all_less 0 n n (omega arith))
