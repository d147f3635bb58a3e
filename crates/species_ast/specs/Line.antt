-- The text of a species line, and the place of its `#`.
use Rattle.std.specs.Prelude.{ℕ, List}

pub record Line : Type 0 where
  pub text : List ℕ
  pub place : ℕ
