-- What is answered once the tokens of a text were read.
use Rattle.std.specs.Prelude.{◌≡◌, ℕ, List, [], ◌∷◌, Option, Some, None, Result, Ok, Err}
use Rattle.species_grammar.specs.Reader.{Answer}
use Rattle.species_ast.specs.Token.{Token}
use Rattle.species_ast.specs.Grammar.Units.{place_before}
use Rattle.species_ast.specs.declared.raw.RawUnit.{RawUnit}
use Rattle.species_parser.specs.declared.refusal.TableRefusal.{TableRefusal}
use Rattle.species_parser.specs.declared.refusal.TableRefusal.TheVariants.{Syntax, Memory}

-- the place of the first token
abbrev pub next_place : List Token → Option ℕ
next_place [] = None
next_place (t ∷ ts) = Some t.place

-- the answer where a reader of all tokens of a text of this size says so
abbrev pub answer_of : ℕ → Answer Token RawUnit → Result RawUnit TableRefusal
answer_of size (Answer.read unit rest) = Ok unit
answer_of size (Answer.stuck back) = Err (Syntax (place_before size back))
answer_of size Answer.shallow = Err Memory

-- the function returned this answer, unless memory ran out
abbrev pub GivesWhole : ℕ → Result RawUnit TableRefusal → Answer Token RawUnit → Type 0
GivesWhole size (Err Memory) answer = Unit {0}
GivesWhole size result answer = answer_of size answer ≡ result
