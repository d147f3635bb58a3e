use Rattle.std.proofs.Common.{◌≡◌, ◌∙◌, ◌-◌, ap, map, rules}
use Rattle.species_ast.specs.declared.tree.Loop.{out-Loop}
use Rattle.species_ast.specs.Scope.Nests.{only_loops}
use Rattle.species_loops.specs.Bands.{front_in, keeps_out}
use Rattle.species_loops.proofs.FrontLaws.{loop_front}
use Rattle.species_loops.proofs.front.+keeps.Goals as goal

pub keeps_out-returns : goal.keeps_out-returns
keeps_out-returns t c =
    let inner : c.body_keeps_out-inner.result ≡ keeps_out c.args.band.first c.args.band.size (c.args.count - 1) (only_loops (map front_in (out-Loop c.args.head.now).body)) =
    c.body_keeps_out-inner.ensures ∙ ap (λ xs. keeps_out c.args.band.first c.args.band.size (c.args.count - 1) (only_loops (map front_in xs))) c.as_slice.ensures in
    c.unless.ensures ∙ loop_front c.args.head.now c.args.band.first c.args.band.size c.args.count c.names-start.result c.names-limit.result c.either-bounds.result c.body_keeps_out-inner.result
    c.if-count-eq0.false c.names-start.ensures c.names-limit.ensures c.either-bounds.ensures inner
