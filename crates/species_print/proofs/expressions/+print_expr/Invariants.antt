use Rattle.std.proofs.Common.{◌≡◌, ◌++◌, take}
use Rattle.std.specs.List.{flat_map}
use Rattle.species_print.specs.Texts.{subscript_text}
use Rattle.species_print.proofs.expressions.+print_expr.Given as goal

abbrev pub invariant-print_subs-loop-expr : goal.invariant-print_subs-loop-expr
invariant-print_subs-loop-expr l =
    l.out.items ≡ l.initial.out.items ++ flat_map (subscript_text l.unit l.iters) (take l.expr-index l.subs)
