-- The goals of `write_all` that need an answer.
use Rattle.std.proofs.Common.{rules, ◌++◌, take, ap, ◌∙◌}
use Rattle.species_io.specs.Told.{then_bytes}
use Rattle.species_io.proofs.ToldLemmas.{then_bytes-then_bytes, cut}
use Rattle.species_io.proofs.whole.write_all.Goals as goal

pub loop-rest-preserved : goal.loop-rest-preserved
loop-rest-preserved g c =
    let handed = c.loop-rest.invariant.0 in
    let piece = take c.in_ok-n.n c.loop-rest.rest.now in (
      (
        handed.0 ++ piece,
        cut c.args.bytes.now handed.0 c.loop-rest.rest.now c.in_ok-n.n handed.1,
        c.in_ok-n.ensures.took ∙ ap (λ told. then_bytes told piece) handed.2 ∙ then_bytes-then_bytes _ handed.0 piece,
      ),
      search rules,
    )
