-- Arrays of a unit stay arrays of it.
use Rattle.std.proofs.Common.{◌≡◌, ◌∙◌, sym, subst}
use Rattle.species_ast.specs.declared.tree.Unit.{Unit as Program}
use Rattle.species_ast.specs.Accesses.{sums, Cells, Outcome, Ended}
use Rattle.species_ast.specs.Evaluation.{Frame}
use Rattle.species_ast.specs.Run.{source_run, zeros_of, AreArraysOf}
use Rattle.species_runs.proofs.ArraysLaws.{source_stays, zeros_are}
use Rattle.species_runs.proofs.ValueLaws.{sums_keep_values}

pub zeros_of_unit : (u : Program) (m : Cells) → m ≡ zeros_of u.arrays → AreArraysOf u.arrays m
zeros_of_unit u m is = subst (AreArraysOf u.arrays) (sym is) (zeros_are u.arrays)

pub run_stays : (u : Program) (m n : Cells) (f : Frame) (o : Outcome Frame) → AreArraysOf u.arrays m → source_run sums u m ≡ o → o ≡ Ended f n → AreArraysOf u.arrays n
run_stays u m n f o h same ended = source_stays sums sums_keep_values u f m n h (same ∙ ended)
