-- The numbers of a kind as bounds, for what the functions on machine words ask of their arguments.
use Rattle.std.specs.Prelude.{ℕ, ◌^◌, ◌-◌, Bool, true, false, ℤ, pos, ◌≤ℤ◌, ◌<ℤ◌, neg_ℤ, ◌≡◌}
use Rattle.species_ast.specs.declared.tree.Kind.{Kind}
use Rattle.species_ast.specs.declared.tree.Binary.{Binary}
use Rattle.species_ast.specs.Operators.{bits_of, is_signed, is_shift}

-- n is a number of a signed kind of w bits, or of an unsigned one
abbrev pub InWidth : Bool → ℕ → ℤ → Type 0
InWidth true w n = (neg_ℤ (pos (2 ^ (w - 1))) ≤ℤ n) × (n <ℤ pos (2 ^ (w - 1)))
InWidth false w n = (pos 0 ≤ℤ n) × (n <ℤ pos (2 ^ w))

-- n is a number of the kind
abbrev pub IsNumber : Kind → ℤ → Type 0
IsNumber k n = InWidth (is_signed k) (bits_of k) n

-- n is a right side that an operator takes in this kind: any number where it is a count
abbrev pub IsRightSide : Kind → Binary → ℤ → Type 0
IsRightSide k op n = is_shift op ≡ false → IsNumber k n
