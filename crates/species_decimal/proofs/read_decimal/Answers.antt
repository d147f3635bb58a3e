use Rattle.std.proofs.Common.{None}
use Rattle.species_decimal.proofs.NumberLaws.{value_of}
use Rattle.std.proofs.Common.{arith, rules}
use Rattle.species_decimal.proofs.Digits.{written, read, not_read}
use Rattle.species_decimal.proofs.read_decimal.Goals as goal

pub returns-then-begins_well-clause-written : goal.returns-then-begins_well-clause-written
returns-then-begins_well-clause-written c =
    written c.number.result c.args.word.now c.args.most (search rules) (search rules) c.number.ensures

pub returns-then-begins_well-clause-read : goal.returns-then-begins_well-clause-read
returns-then-begins_well-clause-read c =
    read c.number.result c.args.word.now c.args.most (search rules) c.number.ensures

pub returns-else-begins_well-clause-read : goal.returns-else-begins_well-clause-read
returns-else-begins_well-clause-read c = λ n within text.
    absurd (not_read c.args.word.now n (omega arith) (search rules) text)

pub returns-then-begins_well-clause-value : goal.returns-then-begins_well-clause-value
returns-then-begins_well-clause-value c =
    value_of c.number.result c.args.word.now c.args.most (search rules) (returns-then-begins_well-clause-written c) (returns-then-begins_well-clause-read c)

pub returns-else-begins_well-clause-value : goal.returns-else-begins_well-clause-value
returns-else-begins_well-clause-value c =
    value_of None c.args.word.now c.args.most (search rules) tt (returns-else-begins_well-clause-read c)
