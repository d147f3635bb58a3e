-- The refusal that is reported is one of its group, and none of the group is earlier.
use Rattle.std.proofs.Common.{◌≡◌, refl, sym, ap, subst, ℕ, zero, suc, ◌<◌, List, [], ◌∷◌, length, Option, Some, None, Bool, true, false, arith, nat_lt, nat_eq, ◌&&◌, ◌||◌, if◌then◌else◌, slice_index_or}
use Rattle.std.specs.Prelude.{All}
use Rattle.std.specs.List.{Contains}
use Rattle.species_ast.specs.Scope.Refusals.{Finding, is_earlier, is_before, earlier_of, first_in, number, rank}
use Rattle.species_ast.specs.Scope.Law.{ReportsTheFirst}

-- one number, and what decides where it is equal
lexicographic : (p q u : ℕ) (x y z : Bool)
    → (nat_lt p q || (nat_eq p q && x)) ≡ false
    → (nat_lt q u || (nat_eq q u && y)) ≡ false
    → (x ≡ false → y ≡ false → z ≡ false)
    → (nat_lt p u || (nat_eq p u && z)) ≡ false
lexicographic p q u x y false h k both = grind arith
lexicographic p q u true y true h k both = grind arith
lexicographic p q u false true true h k both = grind arith
lexicographic p q u false false true h k both = let e : true ≡ false = both refl refl in grind (arith, e)

not_lt : (r t w : ℕ) → nat_lt r t ≡ false → nat_lt t w ≡ false → nat_lt r w ≡ false
not_lt r t w h k = grind arith

-- not to be earlier is transitive
not_earlier : (a b c : Finding) → is_earlier a b ≡ false → is_earlier b c ≡ false → is_earlier a c ≡ false
not_earlier a b c h k =
    lexicographic a.place b.place c.place (is_before a.refusal b.refusal) (is_before b.refusal c.refusal) (is_before a.refusal c.refusal) h k
    (λ i j. lexicographic (number a.refusal) (number b.refusal) (number c.refusal) (nat_lt (rank a.refusal) (rank b.refusal))
    (nat_lt (rank b.refusal) (rank c.refusal)) (nat_lt (rank a.refusal) (rank c.refusal)) i j (not_lt (rank a.refusal) (rank b.refusal) (rank c.refusal)))

not_itself : (p n r : ℕ) → (nat_lt p p || (nat_eq p p && (nat_lt n n || (nat_eq n n && nat_lt r r)))) ≡ false
not_itself p n r = grind arith

not_both : (p n r q m t : ℕ)
    → (nat_lt p q || (nat_eq p q && (nat_lt n m || (nat_eq n m && nat_lt r t)))) ≡ true
    → (nat_lt q p || (nat_eq q p && (nat_lt m n || (nat_eq m n && nat_lt t r)))) ≡ false
not_both p n r q m t h = grind arith

irreflexive : (a : Finding) → is_earlier a a ≡ false
irreflexive a = not_itself a.place (number a.refusal) (rank a.refusal)

asymmetric : (a b : Finding) → is_earlier a b ≡ true → is_earlier b a ≡ false
asymmetric a b = not_both a.place (number a.refusal) (rank a.refusal) b.place (number b.refusal) (rank b.refusal)

some_is : (a b : Finding) → Some a ≡ Some b → a ≡ b
some_is a b h = ap (λ o. elim o [ Some x ↦ x | None ↦ a ]) h

-- f is one of the group, and none of the group is earlier
abbrev NoneEarlier : Finding → List Finding → Type 0
NoneEarlier f fs = All (λ g. is_earlier g f ≡ false) fs

abbrev IsFirst : List Finding → Finding → Type 0
IsFirst group f = Contains group f × NoneEarlier f group

all_later : (a b : Finding) → is_earlier b a ≡ false → (fs : List Finding) → NoneEarlier b fs → NoneEarlier a fs
all_later a b h fs k = λ i d small. not_earlier (slice_index_or fs i d) b a (k i d small) h

none_earlier-cons : (f a : Finding) (fs : List Finding) → is_earlier a f ≡ false → NoneEarlier f fs → NoneEarlier f (a ∷ fs)
none_earlier-cons f a fs h k = go
  where
    go : (i : ℕ) (d : Finding) → i < length (a ∷ fs) → is_earlier (slice_index_or (a ∷ fs) i d) f ≡ false
    go zero d small = h
    go (suc i) d small = k i d (omega (arith, small))

none_earlier-nil : (f : Finding) → NoneEarlier f []
none_earlier-nil f = λ i d small. let e : ⊥ = omega (arith, small) in absurd e

behind_first : (a : Finding) (fs : List Finding) (f : Finding) → Contains fs f → Contains (a ∷ fs) f
behind_first a fs f (k, small, same) = (suc k, omega (arith, small), same)

never : (a b : Finding) (c : Bool) → (if c then Some b else Some a) ≡ None → ⊥
never a b true h = absurd (some_none b h)
  where
    some_none : (x : Finding) → Some x ≡ None → ⊥
    some_none x h = cc
never a b false h = absurd (some_none a h)
  where
    some_none : (x : Finding) → Some x ≡ None → ⊥
    some_none x h = cc

-- of a and a list whose first is b
chosen : (a b : Finding) (fs : List Finding) → IsFirst fs b → (c : Bool) → is_earlier b a ≡ c → (f : Finding) → (if c then Some b else Some a) ≡ Some f → IsFirst (a ∷ fs) f
chosen a b fs first true e f h = subst (IsFirst (a ∷ fs)) (some_is b f h) (behind_first a fs b first.0, none_earlier-cons b a fs (asymmetric b a e) first.1)
chosen a b fs first false e f h = subst (IsFirst (a ∷ fs)) (some_is a f h) ((0, omega arith, refl), none_earlier-cons a a fs (irreflexive a) (all_later a b e fs first.1))

empty-first : (fs : List Finding) → first_in fs ≡ None → fs ≡ []
empty-first [] h = refl
empty-first (a ∷ fs) h = go (first_in fs) h
  where
    go : (o : Option Finding) → earlier_of a o ≡ None → a ∷ fs ≡ []
    go None h = absurd (never a a true h)
    go (Some b) h = absurd (never a b (is_earlier b a) h)

is_first-first_in : (fs : List Finding) (f : Finding) → first_in fs ≡ Some f → IsFirst fs f
is_first-first_in [] f h = absurd (never f f true (sym h))
is_first-first_in (a ∷ fs) f h = step (first_in fs) refl (is_first-first_in fs) h
  where
    step : (o : Option Finding) → first_in fs ≡ o → ((b : Finding) → first_in fs ≡ Some b → IsFirst fs b) → earlier_of a o ≡ Some f → IsFirst (a ∷ fs) f
    step None e rest h =
        subst (λ gs. IsFirst (a ∷ gs) f) (sym (empty-first fs e)) (subst (IsFirst (a ∷ [])) (some_is a f h) ((0, omega arith, refl), none_earlier-cons a a [] (irreflexive a) (none_earlier-nil a)))
    step (Some b) e rest h = chosen a b fs (rest b e) (is_earlier b a) refl f h

pub reports_the_first : ReportsTheFirst
reports_the_first = record {
  is_one = λ group f h. (is_first-first_in group f h).0;
  is_first = λ group f h. (is_first-first_in group f h).1;
  is_empty = empty-first;
}
