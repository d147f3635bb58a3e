-- What is gathered in an element: sums modulo 2 ^ w, or least or greatest values.
use Rattle.std.specs.Prelude.{ℕ, Bool, not, nat_eq, Option, Some, None, ℤ}
use Rattle.std.specs.Int.{int_min, int_max}
use Rattle.species_ast.specs.declared.tree.Kind.{Kind}
use Rattle.species_ast.specs.declared.tree.Value.{Value}
use Rattle.species_ast.specs.declared.tree.Value.TheVariants.{Int, Unsigned, Long, UnsignedLong}
use Rattle.species_ast.specs.Operators.{is_signed, order_of, kind_of}
use Rattle.species_ast.specs.Accesses.{added}
use Rattle.species_joins.specs.declared.sort.Sort.{Sort}
use Rattle.species_joins.specs.declared.sort.Sort.TheVariants as sort

-- the number of a value of kind Int, and of one of kind Long
abbrev pub int_in : Value → Option ℤ
int_in (Int n) = Some n
int_in (Unsigned n) = None
int_in (Long n) = None
int_in (UnsignedLong n) = None

abbrev pub long_in : Value → Option ℤ
long_in (Int n) = None
long_in (Unsigned n) = None
long_in (Long n) = Some n
long_in (UnsignedLong n) = None

abbrev pub with_one : (ℤ → ℤ → ℤ) → ℤ → Option ℤ → ℤ
with_one f a None = a
with_one f a (Some b) = f a b

-- of an element and a value of its kind, which is signed, one of the two; all else leaves the element
abbrev pub extreme : (ℤ → ℤ → ℤ) → Value → Value → Value
extreme f (Int a) v = Int (with_one f a (int_in v))
extreme f (Unsigned a) v = Unsigned a
extreme f (Long a) v = Long (with_one f a (long_in v))
extreme f (UnsignedLong a) v = UnsignedLong a

-- the element and the value joined
abbrev pub joined_of : Sort → Value → Value → Value
joined_of sort.Sum c v = added v c
joined_of sort.Least c v = extreme int_min c v
joined_of sort.Greatest c v = extreme int_max c v

-- sums are of unsigned kinds, least and greatest values of signed kinds
abbrev pub takes_kind : Sort → Kind → Bool
takes_kind sort.Sum k = not (is_signed k)
takes_kind sort.Least k = is_signed k
takes_kind sort.Greatest k = is_signed k

-- a value of this kind
abbrev pub is_of : Kind → Value → Bool
is_of k v = nat_eq (order_of (kind_of v)) (order_of k)
