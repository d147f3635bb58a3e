-- Items of lists.
use Rattle.std.proofs.Common.{sym, subst, arith, ℕ, zero, suc, ◌<◌, List, [], ◌∷◌, length, All}
use Rattle.std.specs.Prelude.{slice_index_or}
use Rattle.std.specs.List.{Any, Contains}
use Rattle.species_ast.proofs.Induction.{Each}
use Rattle.species_references.proofs.TurnLaws.{each_to_all}

pub each_contains : {X : Type 0} (P : X → Type 0) (xs : List X) → Each P xs → (x : X) → Contains xs x → P x
each_contains P [] h x c = let below = c.1 in absurd (omega (arith, below))
each_contains P (y ∷ xs) h x (zero, below, is) = subst P is h.0
each_contains P (y ∷ xs) h x (suc k, below, is) = each_contains P xs h.1 x (k, omega (arith, below), is)

pub each_at : {X : Type 0} (P : X → Type 0) (xs : List X) → Each P xs → (k : ℕ) (d : X) → k < length xs → P (slice_index_or xs k d)
each_at P [] h k d l = absurd (omega (arith, l))
each_at P (x ∷ xs) h zero d l = h.0
each_at P (x ∷ xs) h (suc k) d l = each_at P xs h.1 k d (omega (arith, l))

pub weaker : {X : Type 0} (P Q : X → Type 0) → ((x : X) → P x → Q x) → (xs : List X) → Each P xs → Each Q xs
weaker P Q f [] h = tt
weaker P Q f (x ∷ xs) h = (f x h.0, weaker P Q f xs h.1)

pub each_of_all : {X : Type 0} (P : X → Type 0) (xs : List X) → All P xs → Each P xs
each_of_all P [] h = tt
each_of_all P (x ∷ xs) h = (h 0 x (omega arith), each_of_all P xs (λ k d l. h (suc k) d (omega (arith, l))))

-- ---- lists of one item

pub all_one : {X : Type 0} (P : X → Type 0) (x : X) → P x → All P (x ∷ [])
all_one P x h = each_to_all P (x ∷ []) (h, tt)

pub any_one : {X : Type 0} (P : X → Type 0) (x : X) → Any P (x ∷ []) → P x
any_one P x (zero, y, l, is, h) = subst P (sym is) h
any_one P x (suc k, y, l, is, h) = absurd (omega (arith, l))
