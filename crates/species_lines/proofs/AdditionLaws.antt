-- What adds in a loop to which a run comes is what is marked.
use Rattle.std.proofs.Common.{◌≡◌, refl, sym, ◌∙◌, Bool, true, ◌&&◌, not, List, [], ◌∷◌, map}
use Rattle.std.specs.Prelude.{is_some}
use Rattle.std.specs.List.{list_all}
use Rattle.std.proofs.lemmas.Bool.{and_parts, and_from}
use Rattle.species_ast.specs.declared.tree.Loop.{roll-Loop, out-Loop}
use Rattle.species_ast.specs.declared.tree.Stmt.{Stmt}
use Rattle.species_ast.specs.Marks.{all_true, test_step, test_layer, is_plain, unmarked_stmt}
use Rattle.species_ast.specs.Run.{source_context, first_frame}
use Rattle.species_ast.specs.Scope.Forms.{form_of}
use Rattle.species_ast.specs.Scope.Limits.{goes}
use Rattle.species_ast.specs.Scope.References.{Adding, no_adds}
use Rattle.species_ast.specs.Scope.WellMade.{outermost}
use Rattle.species_ast.proofs.Folds.{fold_stmt-Assign, fold_stmt-AddTo, fold_stmt-Declare, fold_stmt-SetLocal, fold_stmt-If, fold_stmt-For, fold_stmt-Block, fold_loop}
use Rattle.species_ast.proofs.Induction.{Each, each_all, stmt_ind}
use Rattle.species_nests.specs.Arrivals.{moment}
use Rattle.species_nests.proofs.InwardLaws.{GoesInward, reaches_in_has}
use Rattle.species_occurrences.specs.Regular.{as_marked, regular_at, regular_loop, is_regular}
use Rattle.species_occurrences.proofs.RegularLaws.{list_regular}
use Rattle.species_occurrences.proofs.RunningTaken.{loop_regular, running_bounded}
use Rattle.species_lines.specs.Lines.{AdditionsAreMarked}

-- ---- regular statements without marks

abbrev IsPlainly : Stmt → Type 0
IsPlainly x = is_regular as_marked x ≡ true → unmarked_stmt x ≡ true → is_regular no_adds x ≡ true

plain_list : (xs : List Stmt) → Each IsPlainly xs → all_true (map (is_regular as_marked) xs) ≡ true → all_true (map unmarked_stmt xs) ≡ true → all_true (map (is_regular no_adds) xs) ≡ true
plain_list [] h t u = refl
plain_list (x ∷ xs) h t u =
    let p = and_parts (is_regular as_marked x) (all_true (map (is_regular as_marked) xs)) t in
    let q = and_parts (unmarked_stmt x) (all_true (map unmarked_stmt xs)) u in
    and_from (is_regular no_adds x) (all_true (map (is_regular no_adds) xs)) (h.0 p.0 q.0) (plain_list xs h.1 p.1 q.1)

-- the tests of a header, with another test of the body
with_body : (a b c d e : Bool) → (a && (b && (c && d))) ≡ true → e ≡ true → (a && (b && (c && e))) ≡ true
with_body a b c d e h k =
    let first = and_parts a (b && (c && d)) h in
    let second = and_parts b (c && d) first.1 in
    let third = and_parts c d second.1 in
    and_from a (b && (c && e)) first.0 (and_from b (c && e) second.0 (and_from c e third.0 k))

body_of : (a b c d : Bool) → (a && (b && (c && d))) ≡ true → d ≡ true
body_of a b c d h = (and_parts c d (and_parts b (c && d) (and_parts a (b && (c && d)) h).1).1).1

is_plainly : (x : Stmt) → IsPlainly x
is_plainly = stmt_ind IsPlainly (record {
  assign = λ place a subs value t u. fold_stmt-Assign (regular_at no_adds) regular_loop place a subs value;
  add_to = λ place a subs value atomic t u.
      fold_stmt-AddTo (regular_at no_adds) regular_loop place a subs value atomic ∙ (sym (fold_stmt-AddTo (test_step not) (test_layer (λ l. is_plain l.mark)) place a subs value atomic) ∙ u);
  declare = λ place n init t u. fold_stmt-Declare (regular_at no_adds) regular_loop place n init;
  set_local = λ place n value t u. fold_stmt-SetLocal (regular_at no_adds) regular_loop place n value;
  choice = λ place test body otherwise p q t u.
      let ts = and_parts (all_true (map (is_regular as_marked) body)) (all_true (map (is_regular as_marked) otherwise)) (sym (fold_stmt-If (regular_at as_marked) regular_loop place test body otherwise) ∙ t) in
      let us = and_parts (all_true (map unmarked_stmt body)) (all_true (map unmarked_stmt otherwise)) (sym (fold_stmt-If (test_step not) (test_layer (λ l. is_plain l.mark)) place test body otherwise) ∙ u) in
      fold_stmt-If (regular_at no_adds) regular_loop place test body otherwise
      ∙ and_from (all_true (map (is_regular no_adds) body)) (all_true (map (is_regular no_adds) otherwise)) (plain_list body p ts.0 us.0) (plain_list otherwise q ts.1 us.1);
  loop = λ l p t u.
      let head : (is_some (form_of l.start) && (is_some (form_of l.limit) && (goes l.test l.step && all_true (map (is_regular as_marked) l.body)))) ≡ true =
      sym (fold_stmt-For (regular_at as_marked) regular_loop (roll-Loop l) ∙ fold_loop (regular_at as_marked) regular_loop l) ∙ t in
      let us = and_parts (is_plain l.mark) (all_true (map unmarked_stmt l.body))
      (sym (fold_stmt-For (test_step not) (test_layer (λ l. is_plain l.mark)) (roll-Loop l) ∙ fold_loop (test_step not) (test_layer (λ l. is_plain l.mark)) l) ∙ u) in
      let inner = body_of (is_some (form_of l.start)) (is_some (form_of l.limit)) (goes l.test l.step) (all_true (map (is_regular as_marked) l.body)) head in
      fold_stmt-For (regular_at no_adds) regular_loop (roll-Loop l) ∙ fold_loop (regular_at no_adds) regular_loop l
      ∙ with_body (is_some (form_of l.start)) (is_some (form_of l.limit)) (goes l.test l.step) (all_true (map (is_regular as_marked) l.body)) (all_true (map (is_regular no_adds) l.body)) head
      (plain_list l.body p inner us.1);
  block = λ body p t u.
      fold_stmt-Block (regular_at no_adds) regular_loop body
      ∙ plain_list body p (sym (fold_stmt-Block (regular_at as_marked) regular_loop body) ∙ t) (sym (fold_stmt-Block (test_step not) (test_layer (λ l. is_plain l.mark)) body) ∙ u);
})

mapped_all : (xs : List Stmt) → list_all unmarked_stmt xs ≡ true → all_true (map unmarked_stmt xs) ≡ true
mapped_all [] h = refl
mapped_all (x ∷ xs) h =
    let p = and_parts (unmarked_stmt x) (list_all unmarked_stmt xs) h in
    and_from (unmarked_stmt x) (all_true (map unmarked_stmt xs)) p.0 (mapped_all xs p.1)

-- ---- where a run comes to

each_regular : (adds : Adding) (xs : List Stmt) → all_true (map (is_regular adds) xs) ≡ true → Each (λ x. is_regular adds x ≡ true) xs
each_regular adds [] h = tt
each_regular adds (x ∷ xs) h = let p = and_parts (is_regular adds x) (all_true (map (is_regular adds) xs)) h in (p.0, each_regular adds xs p.1)

regular_inward : (adds : Adding) → GoesInward (λ x. is_regular adds x ≡ true)
regular_inward adds = record {
  loop = λ l h. each_regular adds (out-Loop l).body (loop_regular adds l h).1;
  choice = λ place test body otherwise h.
      let both = and_parts (all_true (map (is_regular adds) body)) (all_true (map (is_regular adds) otherwise)) (sym (fold_stmt-If (regular_at adds) regular_loop place test body otherwise) ∙ h) in
      (each_regular adds body both.0, each_regular adds otherwise both.1);
  block = λ body h. each_regular adds body (sym (fold_stmt-Block (regular_at adds) regular_loop body) ∙ h);
}

-- the law
pub additions_are_marked : AdditionsAreMarked
additions_are_marked join u m r well comes = (
  (running_bounded join u m r well comes).1,
  λ plain.
      reaches_in_has join (λ x. is_regular no_adds x ≡ true) (regular_inward no_adds) (source_context u) (moment r) u.body [] [] 0 (first_frame u) m comes
      (each_regular no_adds u.body (plain_list u.body (each_all IsPlainly is_plainly u.body) (list_regular u.body (outermost u) well.body) (mapped_all u.body plain))),
)
