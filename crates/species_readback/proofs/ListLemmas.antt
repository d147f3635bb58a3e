-- Tests of lists, and tests of either of two things.
use Rattle.std.proofs.Common.{◌≡◌, ap, refl, ℕ, zero, suc, Bool, true, false, List, [], ◌∷◌, ◌++◌, map, take, drop}
use Rattle.std.proofs.lemmas.Bool.{and_parts, and_from}
use Rattle.std.specs.Prelude.{◌||◌}
use Rattle.std.specs.List.{list_all}

pub or_false : (a b : Bool) → a || b ≡ false → (a ≡ false) × (b ≡ false)
or_false true b h = cc
or_false false b h = (refl, h)

pub or_true_right : (a : Bool) → a || true ≡ true
or_true_right true = refl
or_true_right false = refl

pub all_append : {X : Type 0} (p : X → Bool) (a b : List X) → list_all p a ≡ true → list_all p b ≡ true → list_all p (a ++ b) ≡ true
all_append p [] b x y = y
all_append p (c ∷ a) b x y = let k = and_parts (p c) (list_all p a) x in and_from (p c) (list_all p (a ++ b)) k.0 (all_append p a b k.1 y)

pub all_split : {X : Type 0} (p : X → Bool) (a b : List X) → list_all p (a ++ b) ≡ true → (list_all p a ≡ true) × (list_all p b ≡ true)
all_split p [] b h = (refl, h)
all_split p (x ∷ a) b h =
    let k = and_parts (p x) (list_all p (a ++ b)) h in
    let l = all_split p a b k.1 in
    (and_from (p x) (list_all p a) k.0 l.0, l.1)

pub all_take : {X : Type 0} (p : X → Bool) (n : ℕ) (xs : List X) → list_all p xs ≡ true → list_all p (take n xs) ≡ true
all_take p zero xs h = refl
all_take p (suc n) [] h = refl
all_take p (suc n) (x ∷ xs) h = let k = and_parts (p x) (list_all p xs) h in and_from (p x) (list_all p (take n xs)) k.0 (all_take p n xs k.1)

pub all_drop : {X : Type 0} (p : X → Bool) (n : ℕ) (xs : List X) → list_all p xs ≡ true → list_all p (drop n xs) ≡ true
all_drop p zero xs h = h
all_drop p (suc n) [] h = refl
all_drop p (suc n) (x ∷ xs) h = all_drop p n xs (and_parts (p x) (list_all p xs) h).1

pub map_append : {X Y : Type 0} (f : X → Y) (a b : List X) → map f (a ++ b) ≡ map f a ++ map f b
map_append f [] b = refl
map_append f (x ∷ a) b = ap (λ z. f x ∷ z) (map_append f a b)
