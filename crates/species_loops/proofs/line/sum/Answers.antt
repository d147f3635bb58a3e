use Rattle.std.proofs.Common.{◌+ℤ◌, FitsSigned, rules}
use Rattle.std.specs.Int.{w64}
use Rattle.std.proofs.lemmas.Int.{to_z-of_z}
use Rattle.species_loops.proofs.LineLaws.{line_sum, word_sum, renamed}
use Rattle.species_loops.proofs.line.sum.Goals as goal

pub returns-clause-value : goal.returns-clause-value
returns-clause-value c =
    let constant : FitsSigned w64 c.limited.result = search rules in
    let slope : FitsSigned w64 c.limited-2.result = search rules in
    let a = c.args.a in
    let b = c.args.b in
    rw (to_z-of_z w64 c.limited.result constant, to_z-of_z w64 c.limited-2.result slope)
    (line_sum a b (record { constant = c.limited.result; slope = c.limited-2.result })
    (renamed _ (a.constant +ℤ b.constant) c.limited.result c.limited.ensures.same (word_sum a.constant b.constant c.requires.left.0 c.requires.right.0))
    (renamed _ (a.slope +ℤ b.slope) c.limited-2.result c.limited-2.ensures.same (word_sum a.slope b.slope c.requires.left.1 c.requires.right.1)))
