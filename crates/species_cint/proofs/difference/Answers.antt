use Rattle.std.proofs.Common.{◌≡◌, ap, ◌∙◌, arith, ◌-ℤ◌, to_z, of_z}
use Rattle.std.specs.Int.{w128}
use Rattle.std.proofs.lemmas.Int.{ints}
use Rattle.species_ast.specs.Operators.{exact_in}
use Rattle.species_cint.proofs.Words.{bounds}
use Rattle.species_cint.proofs.difference.Goals as goal

pub returns : goal.returns
returns c =
    let a = c.args.a in
    let b = c.args.b in
    let within_a = bounds c.args.kind a c.requires.left in
    let within_b = bounds c.args.kind b c.requires.right in
    let exactly : to_z w128 (of_z w128 (to_z w128 (of_z w128 a) -ℤ to_z w128 (of_z w128 b))) ≡ a -ℤ b = omega (arith, ints, within_a.0, within_a.1, within_b.0, within_b.1) in
    c.exact.ensures ∙ ap (exact_in c.args.kind) exactly
