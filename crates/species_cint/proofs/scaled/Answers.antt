use Rattle.std.proofs.Common.{ap, ◌∙◌}
use Rattle.species_ast.specs.Operators.{exact_in}
use Rattle.species_cint.proofs.Words.{scaled_is}
use Rattle.species_cint.proofs.scaled.Goals as goal

pub returns : goal.returns
returns c =
    c.exact.ensures ∙ ap (exact_in c.args.kind) (scaled_is c.args.kind c.args.a c.args.n c.requires.left c.requires.natural c.requires.count)
