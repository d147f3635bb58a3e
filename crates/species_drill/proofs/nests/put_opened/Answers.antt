use Rattle.species_drill.proofs.Pieces.{then_three}
use Rattle.species_drill.proofs.nests.put_opened.Goals as goal

pub returns : goal.returns
returns c = then_three _ _ _ _ _ _ _ c.in_ok-put.ensures c.in_ok-put-2.ensures c.in_ok-put-3.ensures
