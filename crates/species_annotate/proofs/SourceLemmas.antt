-- What a unit becomes has the same source, and no marks.
use Rattle.std.proofs.Common.{◌≡◌, ◌∙◌, refl, sym, ap, ℕ, Bool, true, false, ◌&&◌, not, List, [], ◌∷◌, map, Some}
use Rattle.std.specs.List.{list_all}
use Rattle.std.proofs.lemmas.Bool.{and_parts, and_from}
use Rattle.species_ast.specs.declared.tree.Mark.TheVariants.{Plain}
use Rattle.species_ast.specs.declared.tree.Stmt.{Stmt}
use Rattle.species_ast.specs.declared.tree.Stmt.TheVariants as stmt
use Rattle.species_ast.specs.declared.tree.Stmt.TheOpen.{Stmt-F, Loop-F}
use Rattle.species_ast.specs.declared.tree.Loop.{Loop, out-Loop}
use Rattle.species_ast.specs.declared.tree.Unit.{Unit as Program}
use Rattle.species_ast.specs.Line.{Line}
use Rattle.species_ast.specs.Marks.{all_true, test_step, test_layer, is_plain, unmarked_stmt, IsUnmarked}
use Rattle.species_ast.specs.Strip.{strip_step, strip_layer, strip_stmt, source_of}
use Rattle.species_ast.proofs.Folds.{fold_stmt-If, fold_stmt-For, fold_stmt-Block, fold_loop, fold_loop-out}
use Rattle.species_ast.proofs.StripLaws.{strip_of-again, strip_of-IsUnmarked}
use Rattle.species_annotate.specs.Annotated.{Around, within, plan_line, lined, BecomesStmt, BecomesBody, BecomeAll, assign, add_to, declare, set_local, choice, block, loop, parallel, sequential, none, more, outside, IsAnnotated}

-- ---- the same source

abbrev bare : Stmt → Stmt
bare = strip_stmt false

-- a loop with another line, and a body of the same source, has the same source
lined_bare : (head : Loop) (line : Line) (body : List Stmt) → map bare body ≡ map bare (out-Loop head).body → bare (stmt.For (lined head line body)) ≡ bare (stmt.For head)
lined_bare head line body h =
    let old : Loop-F Stmt Loop = out-Loop head in
    fold_stmt-For strip_step (strip_layer false) (lined head line body)
    ∙ ap (λ z. strip_step (Stmt-F.For z)) (fold_loop strip_step (strip_layer false) (record old { body = body; line = Some line; mark = Plain })
    ∙ ap (λ (b : List Stmt). strip_layer false (record old { body = b })) h
    ∙ sym (fold_loop-out strip_step (strip_layer false) head))
    ∙ sym (fold_stmt-For strip_step (strip_layer false) head)

mutual
  bare_stmt : (u : Program) (w : Around) (x y : Stmt) → BecomesStmt u w x y → bare y ≡ bare x
  bare_stmt u w x y (assign _ place a subs value) = refl
  bare_stmt u w x y (add_to _ place a subs value atomic) = refl
  bare_stmt u w x y (declare _ place n init) = refl
  bare_stmt u w x y (set_local _ place n value) = refl
  bare_stmt u w x y (choice _ place test body otherwise new other h k) =
      fold_stmt-If strip_step (strip_layer false) place test new other
      ∙ (λ i. strip_step (Stmt-F.If place test (bare_all u w body new h i) (bare_all u w otherwise other k i)))
      ∙ sym (fold_stmt-If strip_step (strip_layer false) place test body otherwise)
  bare_stmt u w x y (block _ body new h) =
      fold_stmt-Block strip_step (strip_layer false) new ∙ (λ i. strip_step (Stmt-F.Block (bare_all u w body new h i))) ∙ sym (fold_stmt-Block strip_step (strip_layer false) body)
  bare_stmt u w x y (loop _ head nest new plan h) = lined_bare head (plan_line u w head nest) new (bare_body u w head nest.depth new h)

  bare_body : (u : Program) (w : Around) (head : Loop) (depth : ℕ) (new : List Stmt) → BecomesBody u w head depth new → map bare new ≡ map bare (out-Loop head).body
  bare_body u w head depth new (parallel _ _ below) = refl
  bare_body u w head depth new (sequential _ _ _ h) = bare_all u (within head w) (out-Loop head).body new h

  bare_all : (u : Program) (w : Around) (xs ys : List Stmt) → BecomeAll u w xs ys → map bare ys ≡ map bare xs
  bare_all u w xs ys (none _) = refl
  bare_all u w xs ys (more _ x y rest others h hs) = λ i. bare_stmt u w x y h i ∷ bare_all u w rest others hs i

pub same_source : (u v : Program) → IsAnnotated u v → source_of v ≡ source_of u
same_source u v h =
    ap (λ (p : Program). source_of p) h.rest ∙ ap (λ (b : List Stmt). record (source_of u) { body = b }) (bare_all (source_of u) outside (source_of u).body v.body h.body) ∙ strip_of-again false u

-- ---- no marks

abbrev IsPlainStmt : Stmt → Type 0
IsPlainStmt x = unmarked_stmt x ≡ true

abbrev ArePlain : List Stmt → Type 0
ArePlain xs = list_all unmarked_stmt xs ≡ true

all_tested : (xs : List Stmt) → all_true (map unmarked_stmt xs) ≡ list_all unmarked_stmt xs
all_tested [] = refl
all_tested (x ∷ xs) = ap (λ (b : Bool). unmarked_stmt x && b) (all_tested xs)

abbrev at_stmt : Stmt-F Bool Bool → Bool
at_stmt = test_step not

abbrev at_loop : Loop-F Bool Bool → Bool
at_loop = test_layer (λ l. is_plain l.mark)

plain_body : (head : Loop) → IsPlainStmt (stmt.For head) → ArePlain (out-Loop head).body
plain_body head h =
    let all : (is_plain (out-Loop head).mark && all_true (map unmarked_stmt (out-Loop head).body)) ≡ true = sym (fold_stmt-For at_stmt at_loop head ∙ fold_loop-out at_stmt at_loop head) ∙ h in
    sym (all_tested (out-Loop head).body) ∙ (and_parts (is_plain (out-Loop head).mark) (all_true (map unmarked_stmt (out-Loop head).body)) all).1

plain_lined : (head : Loop) (line : Line) (body : List Stmt) → ArePlain body → IsPlainStmt (stmt.For (lined head line body))
plain_lined head line body h =
    fold_stmt-For at_stmt at_loop (lined head line body) ∙ fold_loop at_stmt at_loop (record (out-Loop head) { body = body; line = Some line; mark = Plain }) ∙ all_tested body ∙ h

mutual
  plain_stmt : (u : Program) (w : Around) (x y : Stmt) → BecomesStmt u w x y → IsPlainStmt x → IsPlainStmt y
  plain_stmt u w x y (assign _ place a subs value) h = h
  plain_stmt u w x y (add_to _ place a subs value atomic) h = h
  plain_stmt u w x y (declare _ place n init) h = h
  plain_stmt u w x y (set_local _ place n value) h = h
  plain_stmt u w x y (choice _ place test body otherwise new other b o) h =
      let both : (all_true (map unmarked_stmt body) && all_true (map unmarked_stmt otherwise)) ≡ true = sym (fold_stmt-If at_stmt at_loop place test body otherwise) ∙ h in
      let parts = and_parts (all_true (map unmarked_stmt body)) (all_true (map unmarked_stmt otherwise)) both in
      fold_stmt-If at_stmt at_loop place test new other
      ∙ and_from (all_true (map unmarked_stmt new)) (all_true (map unmarked_stmt other)) (all_tested new ∙ plain_all u w body new b (sym (all_tested body) ∙ parts.0))
      (all_tested other ∙ plain_all u w otherwise other o (sym (all_tested otherwise) ∙ parts.1))
  plain_stmt u w x y (block _ body new b) h =
      fold_stmt-Block at_stmt at_loop new ∙ all_tested new ∙ plain_all u w body new b (sym (all_tested body) ∙ sym (fold_stmt-Block at_stmt at_loop body) ∙ h)
  plain_stmt u w x y (loop _ head nest new plan b) h = plain_lined head (plan_line u w head nest) new (plain_inside u w head nest.depth new b (plain_body head h))

  plain_inside : (u : Program) (w : Around) (head : Loop) (depth : ℕ) (new : List Stmt) → BecomesBody u w head depth new → ArePlain (out-Loop head).body → ArePlain new
  plain_inside u w head depth new (parallel _ _ below) h = h
  plain_inside u w head depth new (sequential _ _ _ b) h = plain_all u (within head w) (out-Loop head).body new b h

  plain_all : (u : Program) (w : Around) (xs ys : List Stmt) → BecomeAll u w xs ys → ArePlain xs → ArePlain ys
  plain_all u w xs ys (none _) h = refl
  plain_all u w xs ys (more _ x y rest others b bs) h =
      let parts = and_parts (unmarked_stmt x) (list_all unmarked_stmt rest) h in
      and_from (unmarked_stmt y) (list_all unmarked_stmt others) (plain_stmt u w x y b parts.0) (plain_all u w rest others bs parts.1)

pub unmarked : (u v : Program) → IsAnnotated u v → IsUnmarked v
unmarked u v h = plain_all (source_of u) outside (source_of u).body v.body h.body (strip_of-IsUnmarked false u)
