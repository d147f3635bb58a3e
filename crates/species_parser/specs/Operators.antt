-- Binary operators and numbers as the grammar has them.
use Rattle.std.specs.Prelude.{ℕ}
use Rattle.species_ast.specs.Grammar.Expressions.{Operation}
use Rattle.species_ast.specs.Spelling.{Spelling}
use Rattle.species_ast.specs.declared.tree.Value.{Value}
use Rattle.species_parser.specs.declared.operators.Operator.{Operator}
use Rattle.species_parser.specs.declared.operators.Operator.TheVariants as operator

abbrev pub seen_operator : Operator → Operation
seen_operator (operator.Strict o) = Operation.strict o
seen_operator operator.And = Operation.logical_and
seen_operator operator.Or = Operation.logical_or

-- the place and the value of a number
abbrev pub placed_number : Spelling × Value → ℕ × Value
placed_number p = (p.0.place, p.1)
