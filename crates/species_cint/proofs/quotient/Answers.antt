use Rattle.std.proofs.Common.{ap, sym, ◌∙◌}
use Rattle.std.specs.Int.{w128}
use Rattle.std.proofs.lemmas.Int.{quot_is}
use Rattle.species_ast.specs.Operators.{exact_in}
use Rattle.species_cint.proofs.Words.{quotient_fits, quotient_is}
use Rattle.species_cint.proofs.quotient.Goals as goal

pub returns-else-b-eq0 : goal.returns-else-b-eq0
returns-else-b-eq0 c =
    let fits = quotient_fits c.args.kind c.args.a c.args.b c.requires.left in
    let exactly = quot_is w128 c.args.a c.args.b c.ranges.a c.ranges.b fits in
    c.exact.ensures ∙ ap (exact_in c.args.kind) exactly ∙ sym (quotient_is c.args.kind c.args.a c.args.b c.if-b-eq0.false)
