-- Laws of what sorts of gatherings join: the order of what is joined does not matter.
use Rattle.std.proofs.Common.{◌≡◌, refl, ap, sym, ◌∙◌, arith, Bool, true, false, cond, Option, Some, None, ℤ, ◌+ℤ◌}
use Rattle.std.specs.Prelude.{int_lt}
use Rattle.std.specs.Int.{int_min, int_max}
use Rattle.std.proofs.lemmas.Int.{ints, int_min_is, int_max_is}
use Rattle.species_ast.specs.declared.tree.Kind.{Kind}
use Rattle.species_ast.specs.declared.tree.Kind.TheVariants as kind
use Rattle.species_ast.specs.declared.tree.Value.{Value}
use Rattle.species_ast.specs.declared.tree.Value.TheVariants.{Int, Unsigned, Long, UnsignedLong}
use Rattle.species_ast.specs.Operators.{is_signed, kind_of, number_of, in_kind, reduced, IsValue}
use Rattle.species_ast.specs.Accesses.{added}
use Rattle.species_ast.proofs.KindLaws.{kind-in_kind}
use Rattle.species_runs.specs.Values.{IsOf}
use Rattle.species_runs.proofs.ValueLaws.{sums_keep_values}
use Rattle.species_nests.proofs.SumLaws.{added_trade}
use Rattle.species_joins.specs.declared.sort.Sort.{Sort}
use Rattle.species_joins.specs.declared.sort.Sort.TheVariants as sort
use Rattle.species_joins.specs.Sorts.{int_in, long_in, with_one, extreme, joined_of, takes_kind}

-- ---- of two numbers one

record IsExtreme (f : ℤ → ℤ → ℤ) : Type 1 where
  one : (P : ℤ → Type 0) (a b : ℤ) → P a → P b → P (f a b)
  swaps : (a b : ℤ) → f a b ≡ f b a
  trades : (a b c : ℤ) → f (f a b) c ≡ f (f a c) b

of_two : (P : ℤ → Type 0) (t : Bool) (a b : ℤ) → P a → P b → P (cond t a b)
of_two P true a b p q = p
of_two P false a b p q = q

min_extreme : IsExtreme int_min
min_extreme = record {
  one = λ P a b p q. of_two P (int_lt b a) b a q p;
  swaps = λ a b. omega (arith, ints, int_min_is a b, int_min_is b a);
  trades = λ a b c. omega (arith, ints, int_min_is a b, int_min_is a c, int_min_is (int_min a b) c, int_min_is (int_min a c) b);
}

max_extreme : IsExtreme int_max
max_extreme = record {
  one = λ P a b p q. of_two P (int_lt b a) a b p q;
  swaps = λ a b. omega (arith, ints, int_max_is a b, int_max_is b a);
  trades = λ a b c. omega (arith, ints, int_max_is a b, int_max_is a c, int_max_is (int_max a b) c, int_max_is (int_max a c) b);
}

-- ---- least and greatest values

one_trades : (f : ℤ → ℤ → ℤ) → IsExtreme f → (a : ℤ) (o p : Option ℤ) → with_one f (with_one f a o) p ≡ with_one f (with_one f a p) o
one_trades f is a None None = refl
one_trades f is a None (Some c) = refl
one_trades f is a (Some b) None = refl
one_trades f is a (Some b) (Some c) = is.trades a b c

extreme_trades : (f : ℤ → ℤ → ℤ) → IsExtreme f → (c v w : Value) → extreme f (extreme f c v) w ≡ extreme f (extreme f c w) v
extreme_trades f is (Int a) v w = ap (λ n. Int n) (one_trades f is a (int_in v) (int_in w))
extreme_trades f is (Unsigned a) v w = refl
extreme_trades f is (Long a) v w = ap (λ n. Long n) (one_trades f is a (long_in v) (long_in w))
extreme_trades f is (UnsignedLong a) v w = refl

-- a value that is not of the element's kind is not joined, and of two of a kind one is given
extreme_closed : (f : ℤ → ℤ → ℤ) → IsExtreme f → (k : Kind) (c v : Value) → IsOf k c → IsOf k v → IsOf k (extreme f c v)
extreme_closed f is k (Int a) (Int b) p q = (p.0, is.one (λ n. IsValue (Int n)) a b p.1 q.1)
extreme_closed f is k (Int a) (Unsigned b) p q = p
extreme_closed f is k (Int a) (Long b) p q = p
extreme_closed f is k (Int a) (UnsignedLong b) p q = p
extreme_closed f is k (Unsigned a) v p q = p
extreme_closed f is k (Long a) (Int b) p q = p
extreme_closed f is k (Long a) (Unsigned b) p q = p
extreme_closed f is k (Long a) (Long b) p q = (p.0, is.one (λ n. IsValue (Long n)) a b p.1 q.1)
extreme_closed f is k (Long a) (UnsignedLong b) p q = p
extreme_closed f is k (UnsignedLong a) v p q = p

not_signed : (P : Type 0) (j k : Kind) → is_signed k ≡ true → is_signed j ≡ false → j ≡ k → P
not_signed P j k h g e = let bad : false ≡ true = sym g ∙ ap is_signed e ∙ h in absurd cc

extreme_swaps : (f : ℤ → ℤ → ℤ) → IsExtreme f → (k : Kind) (c v : Value) → is_signed k ≡ true → kind_of c ≡ k → kind_of v ≡ k → extreme f c v ≡ extreme f v c
extreme_swaps f is k (Int a) (Int b) h p q = ap (λ n. Int n) (is.swaps a b)
extreme_swaps f is k (Int a) (Unsigned b) h p q = not_signed _ kind.Unsigned k h refl q
extreme_swaps f is k (Int a) (Long b) h p q = let bad : kind.Int ≡ kind.Long = p ∙ sym q in absurd cc
extreme_swaps f is k (Int a) (UnsignedLong b) h p q = not_signed _ kind.UnsignedLong k h refl q
extreme_swaps f is k (Unsigned a) v h p q = not_signed _ kind.Unsigned k h refl p
extreme_swaps f is k (Long a) (Int b) h p q = let bad : kind.Int ≡ kind.Long = q ∙ sym p in absurd cc
extreme_swaps f is k (Long a) (Unsigned b) h p q = not_signed _ kind.Unsigned k h refl q
extreme_swaps f is k (Long a) (Long b) h p q = ap (λ n. Long n) (is.swaps a b)
extreme_swaps f is k (Long a) (UnsignedLong b) h p q = not_signed _ kind.UnsignedLong k h refl q
extreme_swaps f is k (UnsignedLong a) v h p q = not_signed _ kind.UnsignedLong k h refl p

extreme_kind : (f : ℤ → ℤ → ℤ) (c v : Value) → kind_of (extreme f c v) ≡ kind_of c
extreme_kind f (Int a) v = refl
extreme_kind f (Unsigned a) v = refl
extreme_kind f (Long a) v = refl
extreme_kind f (UnsignedLong a) v = refl

-- ---- sums

sum_swaps : (k : Kind) (c v : Value) → kind_of c ≡ k → kind_of v ≡ k → added v c ≡ added c v
sum_swaps k c v p q =
    let same : kind_of c ≡ kind_of v = p ∙ sym q in
    let turned : number_of c +ℤ number_of v ≡ number_of v +ℤ number_of c = omega (arith, ints) in
    λ i. in_kind (same i) (reduced (same i) (turned i))

-- ---- the laws of each sort

pub sort_trades : (s : Sort) (c v w : Value) → joined_of s (joined_of s c v) w ≡ joined_of s (joined_of s c w) v
sort_trades sort.Sum c v w = added_trade c v w
sort_trades sort.Least c v w = extreme_trades int_min min_extreme c v w
sort_trades sort.Greatest c v w = extreme_trades int_max max_extreme c v w

pub sort_closed : (s : Sort) (k : Kind) (c v : Value) → IsOf k c → IsOf k v → IsOf k (joined_of s c v)
sort_closed sort.Sum k c v p q = sums_keep_values 0 k c v p q
sort_closed sort.Least k c v p q = extreme_closed int_min min_extreme k c v p q
sort_closed sort.Greatest k c v p q = extreme_closed int_max max_extreme k c v p q

pub sort_kind : (s : Sort) (c v : Value) → kind_of (joined_of s c v) ≡ kind_of c
sort_kind sort.Sum c v = kind-in_kind (kind_of c) (reduced (kind_of c) (number_of c +ℤ number_of v))
sort_kind sort.Least c v = extreme_kind int_min c v
sort_kind sort.Greatest c v = extreme_kind int_max c v

pub sort_swaps : (s : Sort) (k : Kind) (c v : Value) → takes_kind s k ≡ true → kind_of c ≡ k → kind_of v ≡ k → joined_of s c v ≡ joined_of s v c
sort_swaps sort.Sum k c v h p q = sum_swaps k c v p q
sort_swaps sort.Least k c v h p q = extreme_swaps int_min min_extreme k c v h p q
sort_swaps sort.Greatest k c v h p q = extreme_swaps int_max max_extreme k c v h p q

-- what is joined in either order, and trades, may be grouped in either way
pub sort_groups : (s : Sort) (k : Kind) (c v w : Value) → takes_kind s k ≡ true → kind_of c ≡ k → kind_of v ≡ k → joined_of s (joined_of s c v) w ≡ joined_of s c (joined_of s v w)
sort_groups s k c v w h p q =
    ap (λ x. joined_of s x w) (sort_swaps s k c v h p q) ∙ sort_trades s v c w ∙ sort_swaps s k (joined_of s v w) c h (sort_kind s v w ∙ q) p
