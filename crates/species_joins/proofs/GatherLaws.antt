-- The laws of a gathering for the values of one kind.
use Rattle.std.proofs.Common.{◌≡◌, refl, ap, ◌∙◌, Bool, true, nat_eq}
use Rattle.species_ast.specs.declared.tree.Kind.{Kind}
use Rattle.species_ast.specs.declared.tree.Kind.TheVariants as kind
use Rattle.species_ast.specs.declared.tree.Value.{Value}
use Rattle.species_ast.specs.declared.tree.Value.TheVariants.{Int, Unsigned, Long, UnsignedLong}
use Rattle.species_ast.specs.Operators.{kind_of, order_of}
use Rattle.species_joins.specs.declared.sort.Sort.{Sort}
use Rattle.species_joins.specs.Sorts.{joined_of, takes_kind, is_of}
use Rattle.species_joins.proofs.SortLaws.{sort_kind, sort_swaps, sort_groups}

pub kind_is : (k : Kind) (v : Value) → is_of k v ≡ true → kind_of v ≡ k
kind_is kind.Int (Int n) h = refl
kind_is kind.Int (Unsigned n) h = cc
kind_is kind.Int (Long n) h = cc
kind_is kind.Int (UnsignedLong n) h = cc
kind_is kind.Unsigned (Int n) h = cc
kind_is kind.Unsigned (Unsigned n) h = refl
kind_is kind.Unsigned (Long n) h = cc
kind_is kind.Unsigned (UnsignedLong n) h = cc
kind_is kind.Long (Int n) h = cc
kind_is kind.Long (Unsigned n) h = cc
kind_is kind.Long (Long n) h = refl
kind_is kind.Long (UnsignedLong n) h = cc
kind_is kind.UnsignedLong (Int n) h = cc
kind_is kind.UnsignedLong (Unsigned n) h = cc
kind_is kind.UnsignedLong (Long n) h = cc
kind_is kind.UnsignedLong (UnsignedLong n) h = refl

pub joined_closed : (s : Sort) (k : Kind) (x y : Value) → is_of k x ≡ true → is_of k y ≡ true → is_of k (joined_of s x y) ≡ true
joined_closed s k x y h g = ap (λ j. nat_eq (order_of j) (order_of k)) (sort_kind s x y) ∙ h

pub joined_swaps : (s : Sort) (k : Kind) → takes_kind s k ≡ true → (x y : Value) → is_of k x ≡ true → is_of k y ≡ true → joined_of s x y ≡ joined_of s y x
joined_swaps s k t x y h g = sort_swaps s k x y t (kind_is k x h) (kind_is k y g)

pub joined_groups : (s : Sort) (k : Kind) → takes_kind s k ≡ true → (x y z : Value) → is_of k x ≡ true → is_of k y ≡ true → is_of k z ≡ true
    → joined_of s (joined_of s x y) z ≡ joined_of s x (joined_of s y z)
joined_groups s k t x y z h g f = sort_groups s k x y z t (kind_is k x h) (kind_is k y g)
