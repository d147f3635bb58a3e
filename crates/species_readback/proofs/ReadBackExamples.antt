-- A unit with a header, a species line, a parallel mark and an atomic addition meets both tests, and so is read back.
use Rattle.std.proofs.Common.{◌≡◌, ◌∙◌, ap, refl, ℕ, true, List, [], ◌∷◌, ◌++◌, Some, pos}
use Rattle.std.proofs.lemmas.Bool.{and_from}
use Rattle.std.specs.Prelude.{codes}
use Rattle.std.specs.List.{list_all}
use Rattle.species_ast.specs.declared.tree.Binary.TheVariants as binary
use Rattle.species_ast.specs.declared.tree.Unary.TheVariants as unary
use Rattle.species_ast.specs.declared.tree.Kind.TheVariants as of_kind
use Rattle.species_ast.specs.declared.tree.Value.TheVariants as value
use Rattle.species_ast.specs.declared.tree.Test.TheVariants as test
use Rattle.species_ast.specs.declared.tree.Mark.TheVariants as mark
use Rattle.species_ast.specs.declared.tree.Schedule.TheVariants as schedule
use Rattle.species_ast.specs.declared.tree.Expr.{Expr}
use Rattle.species_ast.specs.declared.tree.Expr.TheOpen.{Expr-F}
use Rattle.species_ast.specs.declared.tree.Expr.TheVariants as expr
use Rattle.species_ast.specs.declared.tree.Loop.{Loop, roll-Loop}
use Rattle.species_ast.specs.declared.tree.Stmt.{Stmt}
use Rattle.species_ast.specs.declared.tree.Stmt.TheOpen.{Loop-F}
use Rattle.species_ast.specs.declared.tree.Stmt.TheVariants as stmt
use Rattle.species_ast.specs.declared.tree.Unit.{Unit}
use Rattle.species_ast.specs.Scope.Meanings.{Scope}
use Rattle.species_ast.specs.Text.Directives.{form_of}
use Rattle.species_ast.proofs.Folds.{fold_expr-Literal, fold_expr-Iter, fold_expr-Unary, fold_expr-Binary, fold_stmt-AddTo}
use Rattle.species_readback.specs.Spelt.{expr_spelt, is_spelt, is_header, line_spelt, stmt_spelt, loop_spelt, spelt, IsSpelt}
use Rattle.species_readback.specs.Meant.{expr_meant, is_meant, inner_scope, stmt_meant, loop_meant, meant, body_scope, IsMeant}
use Rattle.species_readback.specs.ReadBack.{IsReadBack}
use Rattle.species_readback.proofs.StrippedLemmas.{whole-For}
use Rattle.species_readback.proofs.ReadBackLaws.{reads_back}

abbrev number : ℕ → Expr
number n = expr.Literal (value.Int (pos n))

-- `i - -1ll`
abbrev difference : Expr
difference = expr.Binary binary.Sub (expr.Iter 0) (expr.Unary unary.Neg (expr.Literal (value.Long (pos 1))))

-- `A[i] += i - -1ll;`
abbrev addition : Stmt
addition = stmt.AddTo 0 0 (expr.Iter 0 ∷ []) difference true

-- `for (int i = 0; i < 4; i++) { .. }`, with its lines
abbrev loop : Loop-F Stmt Loop
loop = record {
  place = 0;
  iter = codes "i";
  start = number 0;
  test = test.Lt;
  limit = number 4;
  step = pos 1;
  body = addition ∷ [];
  line = Some (record { text = codes "A[i]"; place = 0 });
  mark = mark.Parallel 1 (schedule.StaticBy 2);
}

abbrev kernel : Unit
kernel = record {
  includes = codes "<stdio.h>" ∷ [];
  arrays = record { name = codes "A"; kind = of_kind.Int; dims = 4 ∷ [] } ∷ [];
  locals = [];
  function = codes "f";
  body = stmt.For (roll-Loop loop) ∷ [];
}

abbrev iters : List (List ℕ)
iters = codes "i" ∷ []

-- ---- it can be written

number_spelt : (it : List (List ℕ)) (n : ℕ) → expr_spelt kernel it (Expr-F.Literal (value.Int (pos n))) ≡ true → is_spelt kernel it (number n) ≡ true
number_spelt it n h = fold_expr-Literal (expr_spelt kernel it) (value.Int (pos n)) ∙ h

difference_spelt : is_spelt kernel iters difference ≡ true
difference_spelt =
    fold_expr-Binary (expr_spelt kernel iters) binary.Sub (expr.Iter 0) (expr.Unary unary.Neg (expr.Literal (value.Long (pos 1))))
    ∙ and_from _ _ (fold_expr-Iter (expr_spelt kernel iters) 0)
    (fold_expr-Unary (expr_spelt kernel iters) unary.Neg (expr.Literal (value.Long (pos 1))) ∙ fold_expr-Literal (expr_spelt kernel iters) (value.Long (pos 1)))

addition_spelt : spelt kernel addition iters ≡ true
addition_spelt =
    ap (λ f. f iters) (fold_stmt-AddTo (stmt_spelt kernel) (loop_spelt kernel) 0 0 (expr.Iter 0 ∷ []) difference true)
    ∙ and_from _ _ (and_from _ true (fold_expr-Iter (expr_spelt kernel iters) 0) refl) difference_spelt

line_is : line_spelt loop.line ≡ true
unfolding form_of
line_is = refl

header_is : list_all is_header kernel.includes ≡ true
unfolding form_of
header_is = refl

loop_is : spelt kernel (stmt.For (roll-Loop loop)) [] ≡ true
loop_is =
    ap (λ f. f []) (whole-For (stmt_spelt kernel) (loop_spelt kernel) loop)
    ∙ and_from _ _ (and_from _ _ line_is refl)
    (and_from _ _ (and_from _ _ (number_spelt [] 0 refl) (number_spelt iters 4 refl)) (and_from _ true addition_spelt refl))

kernel_spelt : IsSpelt kernel
kernel_spelt = record { includes = header_is; arrays = refl; function = refl; body = and_from _ true loop_is refl }

-- ---- its names mean what they should

abbrev outer : Scope
outer = body_scope kernel

abbrev inner : Scope
inner = inner_scope loop outer

difference_meant : is_meant kernel iters inner difference ≡ true
difference_meant =
    fold_expr-Binary (expr_meant kernel iters inner) binary.Sub (expr.Iter 0) (expr.Unary unary.Neg (expr.Literal (value.Long (pos 1))))
    ∙ and_from _ _ (fold_expr-Iter (expr_meant kernel iters inner) 0)
    (fold_expr-Unary (expr_meant kernel iters inner) unary.Neg (expr.Literal (value.Long (pos 1))) ∙ fold_expr-Literal (expr_meant kernel iters inner) (value.Long (pos 1)))

addition_meant : (meant kernel addition).holds iters inner ≡ true
addition_meant =
    ap (λ m. m.holds iters inner) (fold_stmt-AddTo (stmt_meant kernel) (loop_meant kernel) 0 0 (expr.Iter 0 ∷ []) difference true)
    ∙ and_from _ _ (and_from _ true (fold_expr-Iter (expr_meant kernel iters inner) 0) refl) difference_meant

loop_holds : (meant kernel (stmt.For (roll-Loop loop))).holds [] outer ≡ true
loop_holds =
    ap (λ m. m.holds [] outer) (whole-For (stmt_meant kernel) (loop_meant kernel) loop)
    ∙ and_from _ _ (fold_expr-Literal (expr_meant kernel [] outer) (value.Int (pos 0)))
    (and_from _ _ (fold_expr-Literal (expr_meant kernel iters inner) (value.Int (pos 4))) (and_from _ true addition_meant refl))

kernel_meant : IsMeant kernel
kernel_meant = record {
  arrays = refl;
  body = and_from _ true loop_holds refl;
  locals =
      ap (λ m. m.locals ++ []) (whole-For (stmt_meant kernel) (loop_meant kernel) loop)
      ∙ ap (λ m. (m.locals ++ []) ++ []) (fold_stmt-AddTo (stmt_meant kernel) (loop_meant kernel) 0 0 (expr.Iter 0 ∷ []) difference true);
}

pub kernel_read_back : IsReadBack kernel
kernel_read_back = reads_back kernel kernel_spelt kernel_meant
