use Rattle.std.proofs.Common.{arith, rules, ◌^◌}
use Rattle.species_ast.specs.declared.tree.Loop.{out-Loop}
use Rattle.species_ast.specs.Scope.Forms.{form_limit}
use Rattle.species_references.specs.Ranges.{range_seen}
use Rattle.species_merge.proofs.BoundLemmas.{fixed_bound, bound_down, bound_up, more_numbers}
use Rattle.species_merge.proofs.bounds.bound_of.Goals as goal

pub returns-then-range-clause-bound : goal.returns-then-range-clause-bound
returns-then-range-clause-bound c = λ path same.
    fixed_bound (out-Loop c.args.head.now) path (range_seen c.args.range) c.constant.result c.constant-then-range.result _ same (search rules) (search rules) (search rules) (search rules)

pub returns-then-range-clause-small : goal.returns-then-range-clause-small
returns-then-range-clause-small c = record { least = c.constant.ensures.numbers (2 ^ 40) (search rules); greatest = c.constant-then-range.ensures.numbers (2 ^ 40) (search rules) }

pub returns-then-step-lt0-clause-bound : goal.returns-then-step-lt0-clause-bound
returns-then-step-lt0-clause-bound c = λ path same.
    bound_down (out-Loop c.args.head.now) path (range_seen c.args.range) c.in_ok-first.first c.last_form-last.result _ same (search rules) (search rules) (search rules) (search rules) (search rules)

pub returns-then-step-lt0-clause-small : goal.returns-then-step-lt0-clause-small
returns-then-step-lt0-clause-small c = record { least = c.last_form-last.ensures.numbers; greatest = more_numbers form_limit (2 ^ 40) c.in_ok-first.first (omega arith) (search rules) }

pub returns-else-step-lt0-clause-bound : goal.returns-else-step-lt0-clause-bound
returns-else-step-lt0-clause-bound c = λ path same.
    bound_up (out-Loop c.args.head.now) path (range_seen c.args.range) c.in_ok-first.first c.last_form-last.result _ same (search rules) (search rules) (search rules) (search rules) (search rules)

pub returns-else-step-lt0-clause-small : goal.returns-else-step-lt0-clause-small
returns-else-step-lt0-clause-small c = record { least = more_numbers form_limit (2 ^ 40) c.in_ok-first.first (omega arith) (search rules); greatest = c.last_form-last.ensures.numbers }
