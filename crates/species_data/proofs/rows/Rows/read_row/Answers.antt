use Rattle.std.proofs.Common.{sym, subst}
use Rattle.species_ast.specs.Run.{AreArraysOf}
use Rattle.species_data.proofs.ArrayLaws.{got_row, row_kept}
use Rattle.species_data.proofs.rows.Rows.read_row.Goals as goal

pub fill-requires : goal.fill-requires
fill-requires c =
    got_row c.args.names.now c.self.inside.arrays c.in-Some.number c.in-Some-array.array.now
    (subst (λ r. AreArraysOf c.args.names.now r.arrays) (sym c.self.view_is) c.requires.arrays) c.in-Some-array.ensures

pub returns-clause-arrays : goal.returns-clause-arrays
returns-clause-arrays c =
    row_kept c.args.names.now c.self.inside.arrays c.fill.new.arrays c.in-Some.number c.args.end c.in-Some-array.array.now c.args.words.now
    (subst (λ r. AreArraysOf c.args.names.now r.arrays) (sym c.self.view_is) c.requires.arrays) c.in-Some-array.ensures c.in_ok-fill.ensures.ok
