-- A name as it stands in a program: its bytes, and the place of the first of them.
use Rattle.std.specs.Prelude.{ℕ, List}

pub record Spelling : Type 0 where
  pub text : List ℕ
  pub place : ℕ
