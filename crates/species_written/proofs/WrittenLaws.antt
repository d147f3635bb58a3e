-- Each tree that is read from a text within the limit is one that a text can write.
use Rattle.std.proofs.Common.{ℕ, ◌≤◌, List, length, arith}
use Rattle.species_ast.specs.declared.raw.RawUnit.{RawUnit}
use Rattle.species_ast.specs.Limits.{most_bytes}
use Rattle.species_ast.specs.Reading.{Reads}
use Rattle.species_ast.specs.Scope.Written.{IsWritten}
use Rattle.species_written.specs.Law.{ReadsWrittenTrees}
use Rattle.species_written.proofs.TokenLemmas.{text_holds}
use Rattle.species_written.proofs.MarkLemmas.{unit_deep}
use Rattle.species_written.proofs.UnitLemmas.{program_fits}

written : (text : List ℕ) (u : RawUnit) → length text ≤ most_bytes → Reads text u → IsWritten u
written text u short r =
    let tokens = text_holds text r.0 r.1 in
    record { small = omega (arith, short, tokens.0, program_fits u r.0 r.2); depths = unit_deep u r.0 r.2 tokens.1 }

pub reads_written_trees : ReadsWrittenTrees
reads_written_trees = record { written = written }
