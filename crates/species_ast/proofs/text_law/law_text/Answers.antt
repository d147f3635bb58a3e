use Rattle.species_ast.proofs.Cutting.{cuts_one_way}
use Rattle.species_ast.proofs.Extent.{reads_ahead, takes_the_longest}
use Rattle.species_ast.proofs.text_law.law_text.Goals as goal

pub returns : goal.returns
returns c = record { cut = cuts_one_way; ahead = reads_ahead; longest = takes_the_longest }
