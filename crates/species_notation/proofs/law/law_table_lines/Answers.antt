use Rattle.species_notation.proofs.TableBack.{table_reads_back}
use Rattle.species_notation.proofs.law.law_table_lines.Goals as goal

pub returns : goal.returns
returns c = table_reads_back
