use Rattle.std.proofs.Common.{sym, ◌∙◌, arith}
use Rattle.std.proofs.lemmas.Int.{to_z-of_z}
use Rattle.species_cint.proofs.Words.{product_fits}
use Rattle.species_cint.proofs.product.Goals as goal

pub returns-then-signed : goal.returns-then-signed
returns-then-signed c =
    let fits = product_fits c.args.kind c.args.a c.args.b (sym c.signed.ensures ∙ c.if-signed.true) c.requires.left c.requires.right in
    grind (arith, to_z-of_z, fits, c.exact.ensures)
