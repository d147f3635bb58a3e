use Rattle.std.proofs.Common.{ap, sym, ◌∙◌, pos, Ok}
use Rattle.std.specs.Int.{w128}
use Rattle.std.proofs.lemmas.Int.{to_z-of_z}
use Rattle.std.proofs.lemmas.Nat.{xor_lt, or_lt}
use Rattle.std.specs.Prelude.{bit_xor, bit_or}
use Rattle.species_ast.specs.Operators as operators
use Rattle.species_cint.proofs.Words.{on_bits, bits_are_natural}
use Rattle.species_cint.proofs.binary_in.Goals as goal

pub returns-in-BitXor : goal.returns-in-BitXor
returns-in-BitXor c =
    let k = c.args.kind in
    let is_a = c.bits_in-in-BitXor.ensures ∙ ap (λ z. pos (operators.bits_in k z)) (to_z-of_z w128 c.args.a c.ranges.a) in
    let is_b = c.bits_in-in-BitXor-2.ensures ∙ ap (λ z. pos (operators.bits_in k z)) (to_z-of_z w128 c.args.b c.ranges.b) in
    ap Ok (c.from_bits-in-BitXor.ensures ∙ on_bits bit_xor (xor_lt 64) k c.args.a c.args.b c.bits_in-in-BitXor.result c.bits_in-in-BitXor-2.result is_a is_b)
    ∙ ap (λ o. operators.binary_in k o c.args.a c.args.b) (sym c.in-BitXor.is)

pub returns-in-BitOr : goal.returns-in-BitOr
returns-in-BitOr c =
    let k = c.args.kind in
    let is_a = c.bits_in-in-BitOr.ensures ∙ ap (λ z. pos (operators.bits_in k z)) (to_z-of_z w128 c.args.a c.ranges.a) in
    let is_b = c.bits_in-in-BitOr-2.ensures ∙ ap (λ z. pos (operators.bits_in k z)) (to_z-of_z w128 c.args.b c.ranges.b) in
    ap Ok (c.from_bits-in-BitOr.ensures ∙ on_bits bit_or (or_lt 64) k c.args.a c.args.b c.bits_in-in-BitOr.result c.bits_in-in-BitOr-2.result is_a is_b)
    ∙ ap (λ o. operators.binary_in k o c.args.a c.args.b) (sym c.in-BitOr.is)

pub from_bits-requires-in-BitOr : goal.from_bits-requires-in-BitOr
from_bits-requires-in-BitOr c =
    let k = c.args.kind in
    let is_a = c.bits_in-in-BitOr.ensures ∙ ap (λ z. pos (operators.bits_in k z)) (to_z-of_z w128 c.args.a c.ranges.a) in
    let is_b = c.bits_in-in-BitOr-2.ensures ∙ ap (λ z. pos (operators.bits_in k z)) (to_z-of_z w128 c.args.b c.ranges.b) in
    bits_are_natural bit_or (or_lt 64) k c.args.a c.args.b c.bits_in-in-BitOr.result c.bits_in-in-BitOr-2.result is_a is_b
