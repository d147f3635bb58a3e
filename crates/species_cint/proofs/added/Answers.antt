use Rattle.std.proofs.Common.{◌≡◌, rules, arith, ◌∙◌, ◌+ℤ◌, to_z, of_z}
use Rattle.std.specs.Int.{w128}
use Rattle.std.proofs.lemmas.Int.{ints}
use Rattle.species_ast.specs.Operators.{kind_of, in_kind, reduced}
use Rattle.species_cint.proofs.Words.{bounds}
use Rattle.species_cint.proofs.added.Goals as goal

pub returns : goal.returns
returns c =
    let a = c.number.result in
    let b = c.number-2.result in
    let within_a = bounds (kind_of c.args.old) a c.number.ensures.range in
    let within_b = bounds (kind_of c.args.v) b c.number-2.ensures.range in
    let exactly : to_z w128 (of_z w128 (to_z w128 (of_z w128 a) +ℤ to_z w128 (of_z w128 b))) ≡ a +ℤ b = omega (arith, ints, within_a.0, within_a.1, within_b.0, within_b.1) in
    let back : to_z w128 (of_z w128 c.reduced.result) ≡ c.reduced.result = search rules in
    (rw back at c.value.ensures)
    ∙ (λ i. in_kind (c.kind_of-kind.ensures i) ((rw exactly at c.reduced.ensures.number) i))
    ∙ (λ i. in_kind (kind_of c.args.old) (reduced (c.kind_of-kind.ensures i) (c.number.ensures.number i +ℤ c.number-2.ensures.number i)))
