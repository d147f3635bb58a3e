use Rattle.std.proofs.Common.{◌∙◌, ◌++◌, ap, decimal}
use Rattle.species_drill.proofs.Pieces.{then_four}
use Rattle.species_drill.proofs.nests.put_shifted.Goals as goal

pub returns : goal.returns
returns c =
    then_four _ _ _ _ _ _ _ _ _ c.in_ok-put_opened.ensures c.in_ok-put.ensures
    (c.in_ok-put_number.ensures ∙ ap (λ n. c.put.new.out.items ++ decimal n) c.from.ensures) c.in_ok-put-2.ensures
