use Rattle.std.proofs.Common.{◌∙◌, ap, drop}
use Rattle.species_annotate.specs.Loops.{LoopsLeft}
use Rattle.species_annotate.proofs.HeadLemmas.{one_less}
use Rattle.species_annotate.proofs.loops.Loops.pass.Goals as goal

pub returns-then-self-len : goal.returns-then-self-len
returns-then-self-len c =
    let here = c.self.inside in
    ap (λ l. record { unit = here.unit.now; left = l }) (one_less here.placed.items here.next) ∙ ap (λ (z : LoopsLeft). record { unit = z.unit; left = drop 1 z.left }) c.self.view_is
