use Rattle.std.proofs.Common.{◌≡◌, ap, ◌∙◌, arith, ◌-ℤ◌, neg_ℤ, pos, to_z, of_z}
use Rattle.std.specs.Int.{w128}
use Rattle.std.proofs.lemmas.Int.{ints}
use Rattle.species_ast.specs.Operators.{exact_in}
use Rattle.species_cint.proofs.Words.{bounds}
use Rattle.species_cint.proofs.negation.Goals as goal

pub returns : goal.returns
returns c =
    let n = c.args.n in
    let within = bounds c.args.kind n c.requires in
    let exactly : to_z w128 (of_z w128 (pos 0 -ℤ to_z w128 (of_z w128 n))) ≡ neg_ℤ n = omega (arith, ints, within.0, within.1) in
    c.exact.ensures ∙ ap (exact_in c.args.kind) exactly
