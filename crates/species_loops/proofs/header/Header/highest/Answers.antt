use Rattle.std.proofs.Common.{◌∙◌, ◌≤◌, ◌≤ℤ◌, ◌<ℤ◌, sym, subst, pos, arith}
use Rattle.std.specs.Int.RustNames.{unsigned_abs}
use Rattle.std.proofs.lemmas.Int.{ints}
use Rattle.species_ast.specs.Scope.Hulls.{most_end}
use Rattle.species_loops.specs.Ranges.{ranges_seen}
use Rattle.species_loops.proofs.HeaderLaws.{ends_within, end_small, end_value, wide_high_down, wide_high_up}
use Rattle.species_loops.proofs.header.Header.highest.Goals as goal

pub narrow-requires : goal.narrow-requires
narrow-requires c = end_small c.greatest.result _ c.greatest.ensures.value (ends_within (ranges_seen c.args.path.now) c.args.self.now.start c.requires.start).1

pub narrow-requires-else-self-lt0 : goal.narrow-requires-else-self-lt0
narrow-requires-else-self-lt0 c =
    end_small c.greatest-else-self-lt0.result _ c.greatest-else-self-lt0.ensures.value (ends_within (ranges_seen c.args.path.now) c.args.self.now.last c.requires.last).1

pub returns-then-self-lt0 : goal.returns-then-self-lt0
returns-then-self-lt0 c =
    let path = ranges_seen c.args.path.now in
    let h = c.args.self.now in
    let below : h.step <ℤ pos 0 = omega (arith, ints) in
    let small = (ends_within path h.start c.requires.start).1 in
    let value = end_value c.narrow.result c.greatest.result _ c.greatest.ensures.value c.narrow.ensures small in
    record { value = value ∙ sym (wide_high_down path h.step h.start h.last below); small = subst (λ z. unsigned_abs z ≤ most_end) (sym value) small }

pub returns-else-self-lt0 : goal.returns-else-self-lt0
returns-else-self-lt0 c =
    let path = ranges_seen c.args.path.now in
    let h = c.args.self.now in
    let above : pos 0 ≤ℤ h.step = omega (arith, ints) in
    let small = (ends_within path h.last c.requires.last).1 in
    let value = end_value c.narrow-else-self-lt0.result c.greatest-else-self-lt0.result _ c.greatest-else-self-lt0.ensures.value c.narrow-else-self-lt0.ensures small in
    record { value = value ∙ sym (wide_high_up path h.step h.start h.last above); small = subst (λ z. unsigned_abs z ≤ most_end) (sym value) small }
