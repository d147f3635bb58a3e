use Rattle.std.proofs.Common.{ap, ◌∙◌, ◌-◌, arith, drop, length}
use Rattle.std.specs.List.{list_all}
use Rattle.std.proofs.lemmas.Grind.{common_steps}
use Rattle.std.proofs.lemmas.List.{take_all}
use Rattle.species_merge.specs.Exact.{is_constant_loop}
use Rattle.species_merge.proofs.exact.are_constant.Goals as goal

pub returns-then-top-path : goal.returns-then-top-path
returns-then-top-path c =
    c.all_constant.ensures ∙ ap (list_all is_constant_loop) (take_all (length c.args.path.now - c.args.top) (drop c.args.top c.args.path.now) (grind (arith, common_steps)))
