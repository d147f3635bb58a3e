-- What each command writes of a lawful program.
use Rattle.std.specs.Prelude.{◌≡◌, ◌≤◌, ℕ, List, Ok, length}
use Rattle.species_annotate.specs.Annotated.{IsAnnotated, plan_line}
use Rattle.species_arcs.specs.declared.plans.Nest.{Nest}
use Rattle.species_ast.specs.Limits.{most_bytes}
use Rattle.species_ast.specs.Strip.{source_of}
use Rattle.species_ast.specs.declared.tree.Unit.{Unit as Program}
use Rattle.species_lines.specs.Lines.{Standing}
use Rattle.species_plan_truth.specs.Truth.{IsPlanned, IsTrueLine, around_nest}
use Rattle.species_print.specs.Units.{canonical_text}
use Rattle.species_readback.specs.ReadBack.{IsReadBack}
use Rattle.species_reading.specs.Answers.{IsResolved}
use Rattle.species_report.specs.Table.{IsTable}
use Rattle.species_truth.specs.Truth.{IsTrueTable}
use Rattle.species_cli.specs.declared.command.ProgramCommand.{ProgramCommand}
use Rattle.species_cli.specs.declared.command.ProgramCommand.TheVariants as built

-- The bytes are a lawful program, which becomes this unit.
pub record IsProgram (bytes : List ℕ) (program : Program) : Type 0 where
  pub short : length bytes ≤ most_bytes
  pub is_read : IsResolved bytes (Ok program)

-- ---- arcs

-- the table of arcs, each line of which is true in each run
abbrev pub IsArcsText : Program → List ℕ → Type 0
IsArcsText u text = IsTable u text × IsTrueTable u text

-- ---- annotate

-- The line of each nest of the source that is planned parallel, as the nest gets it in the annotated unit, is true in each run.
abbrev pub HasTrueLines : Program → Type 0
HasTrueLines u = (s : Standing) (nest : Nest) → IsPlanned (source_of u) s nest
    → IsTrueLine (source_of u) s nest.gathered (plan_line (source_of u) (around_nest s) s.head nest).text

-- The text is the canonical text of the annotated unit, whose lines are true; and it is read back as that unit, up to places.
pub record IsAnnotatedText (u : Program) (text : List ℕ) : Type 0 where
  pub lined : Program
  pub annotated : IsAnnotated u lined
  pub lines : HasTrueLines u
  pub is : text ≡ canonical_text lined
  pub back : IsReadBack lined

-- ---- each command

abbrev pub IsTextOf : ProgramCommand → Program → List ℕ → Type 0
IsTextOf built.Arcs u text = IsArcsText u text
IsTextOf built.Annotate u text = IsAnnotatedText u text
