use Rattle.std.proofs.Common.{◌≡◌, ◌∙◌, false, rules, to_z, of_z, FitsSigned}
use Rattle.std.specs.Int.{w32, w64}
use Rattle.std.proofs.lemmas.Int.{to_z-of_z}
use Rattle.species_ast.specs.Scope.Hulls.{has_empty}
use Rattle.species_loops.specs.Ranges.{ranges_seen}
use Rattle.species_loops.proofs.HeaderLaws.{not_passed, loose_is}
use Rattle.species_loops.proofs.header.Header.loose_range.Goals as goal

pub lowest-low-requires-clause-start : goal.lowest-low-requires-clause-start
lowest-low-requires-clause-start c =
    let full : has_empty (ranges_seen c.args.path.now) ≡ false = search rules in (not_passed (ranges_seen c.args.path.now) c.args.self.now c.requires.hull full).0

pub lowest-low-requires-clause-last : goal.lowest-low-requires-clause-last
lowest-low-requires-clause-last c =
    let full : has_empty (ranges_seen c.args.path.now) ≡ false = search rules in (not_passed (ranges_seen c.args.path.now) c.args.self.now c.requires.hull full).1

pub highest-high-requires-clause-start : goal.highest-high-requires-clause-start
highest-high-requires-clause-start c =
    let full : has_empty (ranges_seen c.args.path.now) ≡ false = search rules in (not_passed (ranges_seen c.args.path.now) c.args.self.now c.requires.hull full).0

pub highest-high-requires-clause-last : goal.highest-high-requires-clause-last
highest-high-requires-clause-last c =
    let full : has_empty (ranges_seen c.args.path.now) ≡ false = search rules in (not_passed (ranges_seen c.args.path.now) c.args.self.now c.requires.hull full).1

pub returns-clause-full : goal.returns-clause-full
returns-clause-full c full =
    let low : FitsSigned w64 c.lowest-low.result = search rules in
    let high : FitsSigned w64 c.highest-high.result = search rules in
    let step : FitsSigned w32 c.args.self.now.step = search rules in
    loose_is (ranges_seen c.args.path.now) c.args.self.now c.args.start c.args.fixed _ _ _ (to_z-of_z w64 c.lowest-low.result low ∙ c.lowest-low.ensures.value)
    (to_z-of_z w64 c.highest-high.result high ∙ c.highest-high.ensures.value) (to_z-of_z w32 c.args.self.now.step step)
