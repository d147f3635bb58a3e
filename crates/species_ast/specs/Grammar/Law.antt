-- The law of the grammar: a list of tokens derives one unit, or goes wrong at one place.
use Rattle.std.specs.Prelude.{◌≡◌, List, ◌⊎◌}
use Rattle.species_ast.specs.Token.{Token}
use Rattle.species_ast.specs.Grammar.Units.{Derives, SyntaxErrorBefore}
use Rattle.species_ast.specs.declared.raw.RawUnit.{RawUnit}

-- the list derives a unit, or it goes wrong
abbrev pub DerivesOrErrs : List Token → Type 0
DerivesOrErrs ts = ((u : RawUnit) × Derives ts u) ⊎ ((back : List Token) × SyntaxErrorBefore ts back)

pub record DerivesOneWay : Type 0 where
  pub at_least_one : (ts : List Token) → DerivesOrErrs ts
  pub at_most_one : (ts : List Token) (u w : RawUnit) → Derives ts u → Derives ts w → u ≡ w
  pub one_place : (ts back other : List Token) → SyntaxErrorBefore ts back → SyntaxErrorBefore ts other → back ≡ other
