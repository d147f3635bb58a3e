use Rattle.species_lines.proofs.AdditionLaws.{additions_are_marked}
use Rattle.species_lines.proofs.LineLaws.{lines_hold}
use Rattle.species_merge.proofs.SettledLaws.{references_are_settled}
use Rattle.species_notation.proofs.TableBack.{table_reads_back}
use Rattle.species_truth.proofs.TruthLaws.{tables_are_true}
use Rattle.species_truth.proofs.law.law_table.Goals as goal

pub returns : goal.returns
returns c = tables_are_true lines_hold additions_are_marked table_reads_back references_are_settled
