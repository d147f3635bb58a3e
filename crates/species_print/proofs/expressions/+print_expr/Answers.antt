use Rattle.std.proofs.Common.{rules, ◌∙◌, ◌+◌, ap, append_assoc, codes, take, ℕ, List}
use Rattle.std.specs.List.{flat_map}
use Rattle.species_ast.specs.Signs.{binary_level, binary_sign}
use Rattle.species_ast.specs.declared.tree.Expr.{Expr}
use Rattle.species_print.specs.Printed.{text_of, spaced}
use Rattle.species_print.specs.Expressions.{at_least, expr_printed}
use Rattle.species_print.specs.Texts.{expr_text, subscript_text}
use Rattle.species_print.proofs.ExprTexts.{flat_map-next, regroup3, regroup5, text-Literal, text-Iter, text-Local, text-Elem, text-Unary, text-Binary, text-And, text-Or, text-Cond, text-Cast}
use Rattle.species_print.proofs.expressions.+print_expr.Goals as goal

pub print_expr-returns-in_ok-put_literal-in-Literal : goal.print_expr-returns-in_ok-put_literal-in-Literal
print_expr-returns-in_ok-put_literal-in-Literal t c =
    search (rules, append_assoc, ap (expr_text c.args.unit.now c.args.iters.now) c.in-Literal.is ∙ text-Literal c.args.unit.now c.args.iters.now _)

pub print_expr-returns-in_ok-put-in-Iter : goal.print_expr-returns-in_ok-put-in-Iter
print_expr-returns-in_ok-put-in-Iter t c =
    search (rules, append_assoc, ap (expr_text c.args.unit.now c.args.iters.now) c.in-Iter.is ∙ text-Iter c.args.unit.now c.args.iters.now _)

pub print_expr-returns-in_ok-put-in-Local : goal.print_expr-returns-in_ok-put-in-Local
print_expr-returns-in_ok-put-in-Local t c =
    search (rules, append_assoc, ap (expr_text c.args.unit.now c.args.iters.now) c.in-Local.is ∙ text-Local c.args.unit.now c.args.iters.now _)

pub print_expr-returns-in_ok-print_subs-in-Elem : goal.print_expr-returns-in_ok-print_subs-in-Elem
print_expr-returns-in_ok-print_subs-in-Elem t c =
    search (rules, append_assoc, ap (expr_text c.args.unit.now c.args.iters.now) c.in-Elem.is ∙ text-Elem c.args.unit.now c.args.iters.now _ _)

pub print_expr-returns-in_ok-print_behind_unary-in-Unary : goal.print_expr-returns-in_ok-print_behind_unary-in-Unary
print_expr-returns-in_ok-print_behind_unary-in-Unary t c =
    search (rules, append_assoc, ap (expr_text c.args.unit.now c.args.iters.now) c.in-Unary.is ∙ text-Unary c.args.unit.now c.args.iters.now _ _)

pub print_expr-returns-in_ok-print_operand-in-Binary-2 : goal.print_expr-returns-in_ok-print_operand-in-Binary-2
print_expr-returns-in_ok-print_operand-in-Binary-2 t c =
    rw (
      c.in_ok-print_operand-in-Binary-2.ensures,
      c.in_ok-put_spaced-in-Binary.ensures,
      c.in_ok-print_operand-in-Binary.ensures,
      c.get-in-Binary.ensures,
      c.get-in-Binary-2.ensures,
      c.sign-in-Binary.ensures,
      c.level-level.ensures.value,
      ap (expr_text c.args.unit.now c.args.iters.now) c.in-Binary.is ∙ text-Binary c.args.unit.now c.args.iters.now c.in-Binary.op c.in-Binary.a c.in-Binary.b,
    )
    (regroup3 c.args.out.now.items
    (text_of (at_least (binary_level c.in-Binary.op) (c.in-Binary.a, expr_printed c.args.unit.now c.args.iters.now c.in-Binary.a)))
    (text_of (spaced (binary_sign c.in-Binary.op)))
    (text_of (at_least (binary_level c.in-Binary.op + 1) (c.in-Binary.b, expr_printed c.args.unit.now c.args.iters.now c.in-Binary.b))))

pub print_expr-returns-in_ok-print_operand-in-And-2 : goal.print_expr-returns-in_ok-print_operand-in-And-2
print_expr-returns-in_ok-print_operand-in-And-2 t c =
    rw (
      c.in_ok-print_operand-in-And-2.ensures,
      c.in_ok-put-in-And.ensures.ok,
      c.in_ok-print_operand-in-And.ensures,
      c.get-in-And.ensures,
      c.get-in-And-2.ensures,
      ap (expr_text c.args.unit.now c.args.iters.now) c.in-And.is ∙ text-And c.args.unit.now c.args.iters.now c.in-And.a c.in-And.b,
    )
    (regroup3 c.args.out.now.items
    (text_of (at_least 2 (c.in-And.a, expr_printed c.args.unit.now c.args.iters.now c.in-And.a)))
    (codes " && ")
    (text_of (at_least 3 (c.in-And.b, expr_printed c.args.unit.now c.args.iters.now c.in-And.b))))

pub print_expr-returns-in_ok-print_operand-in-Or-2 : goal.print_expr-returns-in_ok-print_operand-in-Or-2
print_expr-returns-in_ok-print_operand-in-Or-2 t c =
    rw (
      c.in_ok-print_operand-in-Or-2.ensures,
      c.in_ok-put-in-Or.ensures.ok,
      c.in_ok-print_operand-in-Or.ensures,
      c.get-in-Or.ensures,
      c.get-in-Or-2.ensures,
      ap (expr_text c.args.unit.now c.args.iters.now) c.in-Or.is ∙ text-Or c.args.unit.now c.args.iters.now c.in-Or.a c.in-Or.b,
    )
    (regroup3 c.args.out.now.items
    (text_of (at_least 1 (c.in-Or.a, expr_printed c.args.unit.now c.args.iters.now c.in-Or.a)))
    (codes " || ")
    (text_of (at_least 2 (c.in-Or.b, expr_printed c.args.unit.now c.args.iters.now c.in-Or.b))))

pub print_expr-returns-in_ok-print_expr-in-Cond-2 : goal.print_expr-returns-in_ok-print_expr-in-Cond-2
print_expr-returns-in_ok-print_expr-in-Cond-2 t c =
    rw (
      c.in_ok-print_expr-in-Cond-2.ensures,
      c.in_ok-put-in-Cond-2.ensures.ok,
      c.in_ok-print_expr-in-Cond.ensures,
      c.in_ok-put-in-Cond.ensures.ok,
      c.in_ok-print_operand-in-Cond.ensures,
      c.get-in-Cond.ensures,
      c.get-in-Cond-2.ensures,
      c.get-in-Cond-3.ensures,
      ap (expr_text c.args.unit.now c.args.iters.now) c.in-Cond.is ∙ text-Cond c.args.unit.now c.args.iters.now c.in-Cond.test c.in-Cond.a c.in-Cond.b,
    )
    (regroup5 c.args.out.now.items
    (text_of (at_least 1 (c.in-Cond.test, expr_printed c.args.unit.now c.args.iters.now c.in-Cond.test)))
    (codes " ? ")
    (expr_text c.args.unit.now c.args.iters.now c.in-Cond.a)
    (codes " : ")
    (expr_text c.args.unit.now c.args.iters.now c.in-Cond.b))

pub print_expr-returns-in_ok-print_operand-in-Cast : goal.print_expr-returns-in_ok-print_operand-in-Cast
print_expr-returns-in_ok-print_operand-in-Cast t c =
    search (rules, append_assoc, ap (expr_text c.args.unit.now c.args.iters.now) c.in-Cast.is ∙ text-Cast c.args.unit.now c.args.iters.now _ _)

pub print_subs-loop-expr-preserved : goal.print_subs-loop-expr-preserved
print_subs-loop-expr-preserved t c =
    let text : Expr → List ℕ = subscript_text c.args.unit.now c.args.iters.now in
    rw (
      c.in_ok-print_subscript.ensures,
      c.loop-expr.invariant,
      flat_map-next text c.args.subs.now c.loop-expr.expr-index c.expr-item.result c.loop-expr-test.true c.expr-item.is,
    )
    (append_assoc c.args.out.now.items (flat_map text (take c.loop-expr.expr-index c.args.subs.now)) (text c.expr-item.result))
