-- Where the first token of a list stands.
use Rattle.std.specs.Prelude.{◌≡◌, ℕ, List, [], ◌∷◌}
use Rattle.species_ast.specs.Token.{Token}
use Rattle.species_ast.specs.declared.raw.RawStmt.{RawStmt, out-RawStmt}
use Rattle.species_ast.specs.declared.token.TokenKind.{TokenKind}
use Rattle.species_ast.specs.declared.token.TokenKind.TheVariants as token

-- the list has a first token, which stands there
abbrev pub StartsAt : ℕ → List Token → Type 0
StartsAt p [] = ⊥
StartsAt p (t ∷ ts) = t.place ≡ p

-- the list from its first token that is no pragma
abbrev pub after_pragma : TokenKind → Token → List Token → List Token → List Token
after_pragma token.Species t ts rest = rest
after_pragma (token.Parallel d s) t ts rest = rest
after_pragma token.Atomic t ts rest = rest
after_pragma _ t ts rest = t ∷ ts

abbrev pub after_pragmas : List Token → List Token
after_pragmas [] = []
after_pragmas (t ∷ ts) = after_pragma t.kind t ts (after_pragmas ts)

-- the place that a statement keeps
abbrev pub statement_place_of : RawStmt → ℕ
statement_place_of s = (out-RawStmt s).place
