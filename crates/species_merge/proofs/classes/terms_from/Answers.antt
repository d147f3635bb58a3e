use Rattle.std.proofs.Common.{subst, sym, ◌∙◌, ◌-◌, arith, drop, length}
use Rattle.std.proofs.lemmas.Grind.{common_steps}
use Rattle.std.proofs.lemmas.List.{take_all}
use Rattle.species_linear.specs.Rising.{IsRising}
use Rattle.species_merge.proofs.TermLemmas.{from_rising}
use Rattle.species_merge.proofs.classes.terms_from.Goals as goal

pub returns-clause-rising : goal.returns-clause-rising
returns-clause-rising c =
    let all = take_all (length c.args.terms.now - c.count_below.result) (drop c.count_below.result c.args.terms.now) (grind (arith, common_steps)) ∙ c.count_below.ensures.behind in
    subst IsRising (sym all) (from_rising c.args.top 0 c.args.terms.now c.requires)
