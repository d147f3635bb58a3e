-- A token of a program (C17 6.4): its place, the bytes that it is, and what it is.
use Rattle.std.specs.Prelude.{ℕ, List}
use Rattle.species_ast.specs.declared.token.TokenKind.{TokenKind}

-- The place is the byte offset of the token's first byte, for a directive that of its `#`. The text
-- is the token's own bytes; of a `#define` the name, of an `#include` the header and its brackets
-- or quotes, of a species line the text after the word without the blanks and comments at its ends,
-- and of a pragma of OpenMP the whole line from its `#` on, without the line feed.
pub record Token : Type 0 where
  pub place : ℕ
  pub text : List ℕ
  pub kind : TokenKind
