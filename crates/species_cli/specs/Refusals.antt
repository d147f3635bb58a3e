-- The line of a refused input: the number of the refusal, its name, and its place, a byte of the input.
use Rattle.std.specs.Prelude.{ℕ, List, ◌++◌, codes, decimal, Option, Some, None}
use Rattle.std.specs.Option.{option_map}
use Rattle.species_ast.specs.Scope.Refusals.{Limit, Refusal, Finding, number}
use Rattle.species_ast.specs.declared.token.LexRefusal.{LexRefusal}
use Rattle.species_ast.specs.declared.token.LexRefusal.TheVariants as lex
use Rattle.species_parser.specs.declared.refusal.ReadRefusal.{ReadRefusal}
use Rattle.species_parser.specs.declared.refusal.ReadRefusal.TheVariants as read
use Rattle.species_scope.specs.Answers.{finding_of}
use Rattle.species_reading.specs.declared.refusal.ProgramRefusal.{ProgramRefusal}
use Rattle.species_reading.specs.declared.refusal.ProgramRefusal.TheVariants as program

abbrev pub refused_text : ℕ → List ℕ → List ℕ
refused_text number name = codes "refused " ++ (decimal number ++ (codes " " ++ name))

abbrev pub place_text : ℕ → List ℕ
place_text place = codes " at " ++ (decimal place ++ codes "\n")

abbrev pub refused_line : ℕ → List ℕ → ℕ → List ℕ
refused_line number name place = refused_text number name ++ place_text place

abbrev pub limit_name : Limit → List ℕ
limit_name Limit.Loops = codes "LimitPassed(Loops)"
limit_name Limit.Dims = codes "LimitPassed(Dims)"
limit_name Limit.Elements = codes "LimitPassed(Elements)"
limit_name Limit.References = codes "LimitPassed(References)"
limit_name Limit.Hull = codes "LimitPassed(Hull)"
limit_name Limit.Step = codes "LimitPassed(Step)"
limit_name Limit.Bound = codes "LimitPassed(Bound)"

abbrev pub name_of_refusal : Refusal → List ℕ
name_of_refusal Refusal.Unknown = codes "Unknown"
name_of_refusal Refusal.Duplicate = codes "Duplicate"
name_of_refusal Refusal.DimensionCount = codes "DimensionCount"
name_of_refusal Refusal.IteratorAssigned = codes "IteratorAssigned"
name_of_refusal Refusal.IteratorOutside = codes "IteratorOutside"
name_of_refusal Refusal.NotStatic = codes "NotStatic"
name_of_refusal Refusal.BadStep = codes "BadStep"
name_of_refusal (Refusal.LimitPassed which) = limit_name which
name_of_refusal Refusal.BadMark = codes "BadMark"

abbrev pub finding_line : Finding → List ℕ
finding_line f = refused_line (number f.refusal) (name_of_refusal f.refusal) f.place

abbrev pub lex_line : LexRefusal → List ℕ
lex_line (lex.BadByte place) = refused_line 1 (codes "BadByte") place
lex_line (lex.BadNumber place) = refused_line 2 (codes "BadNumber") place
lex_line (lex.OpenComment place) = refused_line 3 (codes "OpenComment") place

abbrev pub text_line : ReadRefusal → Option (List ℕ)
text_line (read.Lex refusal) = Some (lex_line refusal)
text_line (read.Load place) = Some (refused_line 12 (codes "LimitPassed(Load)") place)
text_line (read.Syntax place) = Some (refused_line 4 (codes "Syntax") place)
text_line read.Memory = None

-- the line of a program that is not read; want of memory has none
abbrev pub refusal_line : ProgramRefusal → Option (List ℕ)
refusal_line (program.Read refusal) = text_line refusal
refusal_line (program.Scope refusal) = option_map finding_line (finding_of refusal)
refusal_line program.Memory = None

abbrev pub too_long_line : List ℕ
too_long_line = codes "refused 18 TooLong at 4194304\n"
