-- What is written of a program that is read.
use Rattle.std.proofs.Common.{◌≡◌, ◌∙◌, ap, sym, refl, subst, ℕ, List, Option, Some, None, Ok}
use Rattle.species_annotate.specs.Annotated.{IsAnnotated}
use Rattle.species_ast.specs.Scope.Conditions.{refusal_of, unless_refused}
use Rattle.species_ast.specs.Scope.Programs.{program_of}
use Rattle.species_ast.specs.Scope.Refusals.{Finding}
use Rattle.species_ast.specs.Scope.WellMade.{IsWellMade}
use Rattle.species_ast.specs.Strip.{source_of}
use Rattle.species_ast.specs.declared.tree.Unit.{Unit as Program}
use Rattle.species_plan_truth.specs.Truth.{PlannedLinesAreTrue}
use Rattle.species_print.specs.Units.{canonical_text}
use Rattle.species_readback.specs.ReadBack.{MarkedReadsBack}
use Rattle.species_readback.specs.Spelt.{IsSpelt, HasSpeltMarks}
use Rattle.species_readback.proofs.LawfulLaws.{lawful_meets}
use Rattle.species_report.specs.Table.{IsTable}
use Rattle.species_truth.specs.Truth.{TablesAreTrue}
use Rattle.species_cli.specs.Texts.{IsProgram, IsArcsText, IsAnnotatedText}

pub is_arcs_text : TablesAreTrue → (u : Program) (text : List ℕ) → IsWellMade u → IsTable u text → (bytes : List ℕ) → IsProgram bytes u → IsArcsText u text
is_arcs_text law u text made table bytes is = let read = is.is_read in (table, law bytes text read.0 u read.1 read.2 made table)

read_lawful : (refusal : Option Finding) (v u : Program) → unless_refused refusal v ≡ Ok u → (refusal ≡ None) × (v ≡ u)
read_lawful (Some f) v u h = absurd cc
read_lawful None v u h = (refl, cc)

pub is_annotated_text : PlannedLinesAreTrue → MarkedReadsBack → (u v : Program) (text : List ℕ) → IsWellMade u → IsAnnotated u v → source_of v ≡ source_of u
    → (IsSpelt u → HasSpeltMarks v) → text ≡ canonical_text v → (bytes : List ℕ) → IsProgram bytes u → IsAnnotatedText u text
is_annotated_text lines back u v text made annotated source spelt is bytes program =
    let read = program.is_read in
    let raw = read.0 in
    let lawful = read_lawful (refusal_of (program_of raw)) (program_of raw).unit u read.2 in
    let names : IsSpelt u = subst IsSpelt lawful.1 (lawful_meets bytes raw read.1.1 lawful.0).0 in
    record {
      lined = v;
      annotated = annotated;
      lines = λ s nest planned. lines bytes raw u s nest read.1 read.2 made planned;
      is = is;
      back = back bytes raw read.1.1 lawful.0 v (source ∙ ap source_of (sym lawful.1)) (spelt names);
    }
