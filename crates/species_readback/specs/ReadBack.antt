-- The law of reading back: what is printed is read again as the same unit, up to places.
use Rattle.std.specs.Prelude.{◌≡◌, ℕ, List}
use Rattle.species_ast.specs.Strip.{source_of}
use Rattle.species_ast.specs.Token.{Token}
use Rattle.species_ast.specs.Reading.{HasTokens, Reads}
use Rattle.species_ast.specs.Grammar.Units.{Derives}
use Rattle.species_ast.specs.Scope.Programs.{program_of}
use Rattle.species_ast.specs.Scope.Conditions.{IsLawful}
use Rattle.species_ast.specs.declared.raw.RawUnit.{RawUnit}
use Rattle.species_ast.specs.declared.tree.Unit.{Unit}
use Rattle.species_print.specs.Units.{canonical_text}
use Rattle.species_readback.specs.Spelt.{IsSpelt, HasSpeltMarks}
use Rattle.species_readback.specs.Meant.{IsMeant}
use Rattle.species_readback.specs.Unplaced.{unplaced_unit}

-- The canonical text of the unit is cut into these tokens and no others, without a refusal; they derive a tree; and the tree
-- becomes the unit, up to places. Nothing is said of the load of the text, and there is no limit on references.
pub record IsReadBack (u : Unit) : Type 0 where
  pub tokens : List Token
  pub cut : HasTokens (canonical_text u) tokens
  pub only : (others : List Token) → HasTokens (canonical_text u) others → others ≡ tokens
  pub raw : RawUnit
  pub derives : Derives tokens raw
  pub becomes : unplaced_unit (program_of raw).unit ≡ unplaced_unit u

-- Each unit that can be written and whose names mean what they should is read back. Its loops may have species lines and
-- parallel marks, and its additions may be atomic.
abbrev pub ReadsBack : Type 0
ReadsBack = (u : Unit) → IsSpelt u → IsMeant u → IsReadBack u

-- What a text that is read becomes, where nothing in it is refused, is read back.
abbrev pub LawfulReadsBack : Type 0
LawfulReadsBack = (text : List ℕ) (raw : RawUnit) → Reads text raw → IsLawful raw → IsReadBack (program_of raw).unit

-- So is each unit that has the source of such a one, whatever its species lines, its parallel marks and its atomic additions
-- are, as long as the lines and marks can be written: for what the later passes set.
abbrev pub MarkedReadsBack : Type 0
MarkedReadsBack = (text : List ℕ) (raw : RawUnit) → Reads text raw → IsLawful raw
    → (u : Unit) → source_of u ≡ source_of (program_of raw).unit → HasSpeltMarks u → IsReadBack u
