-- One size more.
use Rattle.std.proofs.Common.{rules, ◌≡◌, ◌∷◌, [], ◌++◌}
use Rattle.species_scope.proofs.DeclaringLaws.{sized_next}
use Rattle.species_scope.proofs.globals.sizes.Goals as goal

pub loop-raw-preserved : goal.loop-raw-preserved
loop-raw-preserved c =
    let pushed : c.push.new.self.items ≡ c.loop-raw.values.items ++ c.in_ok-size.field-0 ∷ [] = search rules in
    sized_next c.args.all.now c.args.b.now c.loop-raw.b c.size.new.b c.loop-raw.values.items c.push.new.self.items c.in_ok-size.field-0 c.loop-raw.raw-index _
    c.loop-raw.invariant c.raw-item.is c.loop-raw-test.true c.in_ok-size.ensures.value c.in_ok-size.ensures.state pushed
