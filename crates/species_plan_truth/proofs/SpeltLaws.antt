-- The lines and marks of what a unit becomes can be written where the unit can be.
use Rattle.std.proofs.Common.{◌≡◌, ◌∙◌, refl, sym, ap, subst, ℕ, zero, suc, Bool, true, false, ◌&&◌, ◌||◌, not, if◌then◌else◌, List, [], ◌∷◌, ◌++◌, map, flat_map, length, Option, Some, None}
use Rattle.std.specs.Prelude.{option_map, unwrap_or, slice_get}
use Rattle.std.specs.List.{list_all, filter}
use Rattle.std.proofs.lemmas.Bool.{and_parts, and_from}
use Rattle.species_arcs.specs.declared.plans.Nest.{Nest}
use Rattle.species_arcs.specs.declared.plans.Reason.{Reason}
use Rattle.species_arcs.specs.declared.plans.Reason.TheVariants as reason
use Rattle.species_ast.specs.declared.tree.Array.{Array}
use Rattle.species_ast.specs.declared.tree.Expr.{Expr}
use Rattle.species_ast.specs.declared.tree.LocalInfo.{LocalInfo}
use Rattle.species_ast.specs.declared.tree.Mark.TheVariants.{Plain}
use Rattle.species_ast.specs.declared.tree.Stmt.{Stmt, fold-Stmt, fold-roll-Stmt}
use Rattle.species_ast.specs.declared.tree.Stmt.TheVariants as stmt
use Rattle.species_ast.specs.declared.tree.Stmt.TheOpen.{Stmt-F, Loop-F}
use Rattle.species_ast.specs.declared.tree.Loop.{Loop, out-Loop, roll-Loop, fold-Loop}
use Rattle.species_ast.specs.declared.tree.Unit.{Unit as Program}
use Rattle.species_ast.specs.Line.{Line}
use Rattle.species_ast.specs.Marks.{all_true, test_step, test_layer}
use Rattle.species_ast.specs.Names.{is_name}
use Rattle.species_ast.specs.Run.{locals_in}
use Rattle.species_ast.specs.Scope.Hulls.{Range}
use Rattle.species_ast.specs.Scope.Meanings.{is_among}
use Rattle.species_ast.specs.Strip.{strip_step, strip_loop, source_of}
use Rattle.species_ast.proofs.Folds.{fold_stmt-Assign, fold_stmt-AddTo, fold_stmt-Declare, fold_stmt-SetLocal, fold_stmt-If, fold_stmt-For, fold_stmt-Block, fold_loop, fold_loop-out}
use Rattle.species_ast.proofs.Induction.{Each, each_all, stmt_ind}
use Rattle.species_ast.proofs.Paras.{para_stmt-Assign, para_stmt-AddTo, para_stmt-Declare, para_stmt-SetLocal, para_stmt-If}
use Rattle.species_classify.specs.Decisions.{IsDecisionWith, IsPlainDecision, IsSharedDecision}
use Rattle.species_classify.specs.Plans.{IsPlan}
use Rattle.species_classify.specs.declared.bands.Band.{Band}
use Rattle.species_classify.specs.declared.bands.Band.TheVariants.{Free, Carried}
use Rattle.species_classify.specs.declared.decide.Decision.{Decision}
use Rattle.species_nests.specs.Nests.{Placed, sole_at, sole, only, nest_in, nest_of}
use Rattle.species_nests.proofs.NestLaws.{not_some, no_loops, under, sole-For, sole-Block}
use Rattle.species_notation.specs.declared.given.Names.{Names}
use Rattle.species_notation.specs.Written.{name_at}
use Rattle.species_print.specs.Expressions.{local_name}
use Rattle.species_readback.specs.Spelt.{is_spelt, line_spelt, mark_spelt, init_spelt, element_spelt, stmt_spelt, loop_spelt, spelt, array_spelt, is_int_number, is_int_step, marks_spelt, IsSpelt, HasSpeltMarks}
use Rattle.species_readback.proofs.TextLaws.{takes_texts}
use Rattle.species_runs.specs.Scopes.{sets_at, sets_of, sets_in, without, outer_locals_set}
use Rattle.species_annotate.specs.Annotated.{Around, within, plan_line, lined, iterators_of, band_names, names_in, BecomesStmt, BecomesBody, BecomeAll, assign, add_to, declare, set_local, choice, block, loop, parallel, sequential, none, more, outside, IsAnnotated}
use Rattle.species_annotate.proofs.FoldLaws.{bare, layer, bare_layer, with_body, mapped, bare_fold}
use Rattle.species_plan_truth.proofs.SpeltTexts.{AreWords, name_words, HasWords, HasNamedLocal, line_is_text}

-- ---- what is asked of names

abbrev named_at : Program → Stmt-F Bool Bool → Bool
named_at u (Stmt-F.Assign place a subs value) = true
named_at u (Stmt-F.AddTo place a subs value atomic) = true
named_at u (Stmt-F.Declare place n init) = true
named_at u (Stmt-F.SetLocal place n value) = is_name (local_name u n)
named_at u (Stmt-F.If place test body otherwise) = all_true body && all_true otherwise
named_at u (Stmt-F.For l) = l
named_at u (Stmt-F.Block body) = all_true body

abbrev named_loop : Loop-F Bool Bool → Bool
named_loop l = is_name l.iter && all_true l.body

-- the iterators in the statement, and the locals that it sets, have names
abbrev named : Program → Stmt → Bool
named u = fold-Stmt Bool Bool (named_at u) named_loop

abbrev all_named : Program → List Stmt → Bool
all_named u xs = all_true (map (named u) xs)

named_bare : (u : Program) (s : Stmt) → named u (bare s) ≡ named u s
named_bare u = bare_fold (named_at u) named_loop (λ place a subs value atomic. refl) (λ l. refl)

all_bare : (u : Program) (xs : List Stmt) → all_named u (map bare xs) ≡ all_named u xs
all_bare u xs = ap all_true (mapped (named u) xs (each_all _ (named_bare u) xs))

abbrev SpeltNamed : Program → Stmt → Type 0
SpeltNamed u s = (iters : List (List ℕ)) → spelt u s iters ≡ true → named u s ≡ true

list_named : (u : Program) (xs : List Stmt) → Each (SpeltNamed u) xs → (iters : List (List ℕ)) → list_all (λ s. s iters) (map (spelt u) xs) ≡ true → all_named u xs ≡ true
list_named u [] h iters t = refl
list_named u (x ∷ xs) h iters t =
    let parts = and_parts (spelt u x iters) (list_all (λ s. s iters) (map (spelt u) xs)) t in
    and_from (named u x) (all_named u xs) (h.0 iters parts.0) (list_named u xs h.1 iters parts.1)

spelt_named : (u : Program) (s : Stmt) → SpeltNamed u s
spelt_named u = stmt_ind (SpeltNamed u) (record {
  assign = λ place a subs value iters t. fold_stmt-Assign (named_at u) named_loop place a subs value;
  add_to = λ place a subs value atomic iters t. fold_stmt-AddTo (named_at u) named_loop place a subs value atomic;
  declare = λ place n init iters t. fold_stmt-Declare (named_at u) named_loop place n init;
  set_local = λ place n value iters t.
      let both : (is_name (local_name u n) && is_spelt u iters value) ≡ true = sym (ap (λ k. k iters) (fold_stmt-SetLocal (stmt_spelt u) (loop_spelt u) place n value)) ∙ t in
      fold_stmt-SetLocal (named_at u) named_loop place n value ∙ (and_parts (is_name (local_name u n)) (is_spelt u iters value) both).0;
  choice = λ place test body otherwise h k iters t.
      let all : (is_spelt u iters test && (list_all (λ s. s iters) (map (spelt u) body) && list_all (λ s. s iters) (map (spelt u) otherwise))) ≡ true =
      sym (ap (λ k. k iters) (fold_stmt-If (stmt_spelt u) (loop_spelt u) place test body otherwise)) ∙ t in
      let lists = (and_parts (is_spelt u iters test) _ all).1 in
      let parts = and_parts (list_all (λ s. s iters) (map (spelt u) body)) (list_all (λ s. s iters) (map (spelt u) otherwise)) lists in
      fold_stmt-If (named_at u) named_loop place test body otherwise ∙ and_from (all_named u body) (all_named u otherwise) (list_named u body h iters parts.0) (list_named u otherwise k iters parts.1);
  loop = λ l h iters t.
      let inner : List (List ℕ) = iters ++ l.iter ∷ [] in
      let whole : ((line_spelt l.line && mark_spelt l.mark) && ((is_name l.iter && is_int_step l.step) && ((is_spelt u iters l.start && is_spelt u inner l.limit) && list_all (λ s. s inner) (map (spelt u) l.body)))) ≡ true =
      sym (ap (λ k. k iters) (fold_stmt-For (stmt_spelt u) (loop_spelt u) (roll-Loop l) ∙ fold_loop (stmt_spelt u) (loop_spelt u) l)) ∙ t in
      let rest = (and_parts (line_spelt l.line && mark_spelt l.mark) _ whole).1 in
      let parts = and_parts (is_name l.iter && is_int_step l.step) _ rest in
      let body = (and_parts (is_spelt u iters l.start && is_spelt u inner l.limit) (list_all (λ s. s inner) (map (spelt u) l.body)) parts.1).1 in
      fold_stmt-For (named_at u) named_loop (roll-Loop l) ∙ fold_loop (named_at u) named_loop l
      ∙ and_from (is_name l.iter) (all_named u l.body) (and_parts (is_name l.iter) (is_int_step l.step) parts.0).0 (list_named u l.body h inner body);
  block = λ body h iters t.
      fold_stmt-Block (named_at u) named_loop body ∙ list_named u body h iters (sym (ap (λ k. k iters) (fold_stmt-Block (stmt_spelt u) (loop_spelt u) body)) ∙ t);
})

record NamesLoop (u : Program) (head : Loop) : Type 0 where
  iter : is_name (out-Loop head).iter ≡ true
  body : all_named u (out-Loop head).body ≡ true

loop_named : (u : Program) (head : Loop) → named u (stmt.For head) ≡ true → NamesLoop u head
loop_named u head h =
    let l : Loop-F Stmt Loop = out-Loop head in
    let both : (is_name l.iter && all_named u l.body) ≡ true = sym (fold_stmt-For (named_at u) named_loop head ∙ fold_loop-out (named_at u) named_loop head) ∙ h in
    let parts = and_parts (is_name l.iter) (all_named u l.body) both in
    record { iter = parts.0; body = parts.1 }

-- ---- the iterators of a band

abbrev SoleNamed : Program → Stmt → Type 0
SoleNamed u x = (at : List ℕ) (p : Placed) → sole x at ≡ Some p → named u x ≡ true → named u (stmt.For p.loop) ≡ true

only_named : (u : Program) (xs : List Stmt) → Each (SoleNamed u) xs → (at : List ℕ) (p : Placed) → only xs at ≡ Some p → all_named u xs ≡ true → named u (stmt.For p.loop) ≡ true
only_named u [] h at p is t = absurd cc
only_named u (x ∷ []) h at p is t = h.0 (at ++ 0 ∷ []) p is (and_parts (named u x) true t).0
only_named u (x ∷ y ∷ xs) h at p is t = absurd cc

sole_named : (u : Program) (x : Stmt) → SoleNamed u x
sole_named u = stmt_ind (SoleNamed u) (record {
  assign = λ place a subs value at p is t. absurd (not_some _ at p (para_stmt-Assign sole_at no_loops place a subs value) is);
  add_to = λ place a subs value atomic at p is t. absurd (not_some _ at p (para_stmt-AddTo sole_at no_loops place a subs value atomic) is);
  declare = λ place x init at p is t. absurd (not_some _ at p (para_stmt-Declare sole_at no_loops place x init) is);
  set_local = λ place x value at p is t. absurd (not_some _ at p (para_stmt-SetLocal sole_at no_loops place x value) is);
  choice = λ place test body otherwise h k at p is t. absurd (not_some _ at p (para_stmt-If sole_at no_loops place test body otherwise) is);
  loop = λ l h at p is t.
      let same : Some (record { loop = roll-Loop l; at = at }) ≡ Some p = ap (λ s. s at) (sym (sole-For (roll-Loop l))) ∙ is in
      let it : record { loop = roll-Loop l; at = at } ≡ p = cc in
      subst (λ (q : Placed). named u (stmt.For q.loop) ≡ true) it t;
  block = λ body h at p is t. only_named u body h at p (ap (λ s. s at) (sym (sole-Block body)) ∙ is) (sym (fold_stmt-Block (named_at u) named_loop body) ∙ t);
})

abbrev HasNamedIterator : Placed → Type 0
HasNamedIterator p = is_name (out-Loop p.loop).iter ≡ true

nest_named : (u : Program) (d : ℕ) (body : List Stmt) (at : List ℕ) → all_named u body ≡ true → Each HasNamedIterator (nest_in d body at).loops
nest_named u zero body at h = tt
nest_named u (suc d) body at h = go (nest_named u d) (only body at) (λ p is. only_named u body (each_all (SoleNamed u) (sole_named u) body) at p is h)
  where
    go : ((b : List Stmt) (a : List ℕ) → all_named u b ≡ true → Each HasNamedIterator (nest_in d b a).loops) → (o : Option Placed) → ((p : Placed) → o ≡ Some p → named u (stmt.For p.loop) ≡ true)
        → Each HasNamedIterator (under d body at o).loops
    go ih None k = tt
    go ih (Some p) k = let found = loop_named u p.loop (k p refl) in (found.iter, ih (out-Loop p.loop).body p.at found.body)

iterators_words : (ps : List Placed) → Each HasNamedIterator ps → AreWords (iterators_of ps)
iterators_words [] h = tt
iterators_words (p ∷ ps) h = (name_words (out-Loop p.loop).iter h.0, iterators_words ps h.1)

band_words : (u : Program) (depth : ℕ) (head : Loop) → NamesLoop u head → AreWords (band_names depth head [])
band_words u zero head h = tt
band_words u (suc below) head h = iterators_words (nest_of below head []).loops (h.iter, nest_named u below (out-Loop head).body [] h.body)

words_append : (xs ys : List (List ℕ)) → AreWords xs → AreWords ys → AreWords (xs ++ ys)
words_append [] ys h k = k
words_append (x ∷ xs) ys h k = (h.0, words_append xs ys h.1 k)

-- ---- the local of a reason

abbrev HasNamedSets : Program → Stmt → Type 0
HasNamedSets u s = named u s ≡ true → Each (λ n. is_name (local_name u n) ≡ true) (sets_of s)

each_append : {X : Type 0} (P : X → Type 0) (xs ys : List X) → Each P xs → Each P ys → Each P (xs ++ ys)
each_append P [] ys h k = k
each_append P (x ∷ xs) ys h k = (h.0, each_append P xs ys h.1 k)

abbrev inner_sets : Loop-F (List ℕ) (List ℕ) → List ℕ
inner_sets l = flat_map (λ xs. xs) l.body

list_sets : (u : Program) (xs : List Stmt) → Each (HasNamedSets u) xs → all_named u xs ≡ true → Each (λ n. is_name (local_name u n) ≡ true) (sets_in xs)
list_sets u [] h t = tt
list_sets u (x ∷ xs) h t =
    let parts = and_parts (named u x) (all_named u xs) t in
    each_append (λ n. is_name (local_name u n) ≡ true) (sets_of x) (sets_in xs) (h.0 parts.0) (list_sets u xs h.1 parts.1)

from_sets : (u : Program) (s : Stmt) (ns : List ℕ) → sets_of s ≡ ns → (named u s ≡ true → Each (λ n. is_name (local_name u n) ≡ true) ns) → HasNamedSets u s
from_sets u s ns is h t = subst (Each (λ n. is_name (local_name u n) ≡ true)) (sym is) (h t)

named_sets : (u : Program) (s : Stmt) → HasNamedSets u s
named_sets u = stmt_ind (HasNamedSets u) (record {
  assign = λ place a subs value. from_sets u _ _ (fold_stmt-Assign sets_at inner_sets place a subs value) (λ t. tt);
  add_to = λ place a subs value atomic. from_sets u _ _ (fold_stmt-AddTo sets_at inner_sets place a subs value atomic) (λ t. tt);
  declare = λ place n init. from_sets u _ _ (fold_stmt-Declare sets_at inner_sets place n init) (λ t. tt);
  set_local = λ place n value. from_sets u _ _ (fold_stmt-SetLocal sets_at inner_sets place n value) (λ t. (sym (fold_stmt-SetLocal (named_at u) named_loop place n value) ∙ t, tt));
  choice = λ place test body otherwise h k. from_sets u _ _ (fold_stmt-If sets_at inner_sets place test body otherwise) (λ t.
      let both : (all_named u body && all_named u otherwise) ≡ true = sym (fold_stmt-If (named_at u) named_loop place test body otherwise) ∙ t in
      let parts = and_parts (all_named u body) (all_named u otherwise) both in
      each_append (λ n. is_name (local_name u n) ≡ true) (sets_in body) (sets_in otherwise) (list_sets u body h parts.0) (list_sets u otherwise k parts.1));
  loop = λ l h. from_sets u _ _ (fold_stmt-For sets_at inner_sets (roll-Loop l) ∙ fold_loop sets_at inner_sets l) (λ t.
      let both : (is_name l.iter && all_named u l.body) ≡ true = sym (fold_stmt-For (named_at u) named_loop (roll-Loop l) ∙ fold_loop (named_at u) named_loop l) ∙ t in
      list_sets u l.body h (and_parts (is_name l.iter) (all_named u l.body) both).1);
  block = λ body h. from_sets u _ _ (fold_stmt-Block sets_at inner_sets body) (λ t. list_sets u body h (sym (fold_stmt-Block (named_at u) named_loop body) ∙ t));
})

each_kept : {X : Type 0} (P : X → Type 0) (keep : X → Bool) (xs : List X) → Each P xs → Each P (filter keep xs)
each_kept P keep [] h = tt
each_kept {X} P keep (x ∷ xs) h = go (keep x) (each_kept P keep xs h.1)
  where
    go : (t : Bool) → Each P (filter keep xs) → Each P (if t then x ∷ filter keep xs else filter keep xs)
    go true k = (h.0, k)
    go false k = k

local_there : (ls : List LocalInfo) (n : ℕ) → unwrap_or (option_map (λ (l : LocalInfo). l.name) (slice_get ls n)) [] ≡ name_at (map (λ (l : LocalInfo). l.name) ls) n
local_there [] n = refl
local_there (l ∷ ls) zero = refl
local_there (l ∷ ls) (suc n) = local_there ls n

shared_named : (names : Names) (refs : _) (gathered : List ℕ) (b : Band) (d : Decision) → IsSharedDecision refs gathered b d → HasNamedLocal names d.reason
shared_named names refs gathered (Free depth) d e = subst (HasNamedLocal names) (sym (ap (λ (d : Decision). d.reason) e)) tt
shared_named names refs gathered (Carried first second) d e = subst (HasNamedLocal names) (sym (ap (λ (d : Decision). d.reason) e.2)) tt

plain_named : (names : Names) (refs : _) (outer front : ℕ) (gathered : List ℕ) (b : Band) (d : Decision) → IsPlainDecision refs outer front gathered b d → HasNamedLocal names d.reason
plain_named names refs outer front gathered (Free depth) d e = subst (HasNamedLocal names) (sym (ap (λ (d : Decision). d.reason) e)) tt
plain_named names refs outer front gathered (Carried first second) d e = shared_named names refs gathered e.0 d e.2

decision_named : (u : Program) (iters : List (List ℕ)) (ls : List ℕ) (head : Loop) (path : List Range) (d : Decision) → Each (λ n. is_name (local_name u n) ≡ true) ls → IsDecisionWith ls u head path d
    → HasNamedLocal (names_in u iters) d.reason
decision_named u iters (x ∷ xs) head path d h e = subst (HasNamedLocal (names_in u iters)) (sym (ap (λ (d : Decision). d.reason) e)) (ap is_name (sym (local_there u.locals x)) ∙ h.0)
decision_named u iters [] head path d h e = let by = e.4 in plain_named (names_in u iters) e.0 _ e.1 _ by.0 d by.2

reason_named : (u : Program) (iters : List (List ℕ)) (head : Loop) (path : List Range) (nest : Nest) → NamesLoop u head → IsPlan u head path nest → HasNamedLocal (names_in u iters) nest.reason
reason_named u iters head path nest h plan =
    let body : List Stmt = (out-Loop head).body in
    decision_named u iters (outer_locals_set body) head path _
    (each_kept (λ n. is_name (local_name u n) ≡ true) (λ x. not (is_among (locals_in body) x)) (sets_in body) (list_sets u body (each_all (HasNamedSets u) (named_sets u) body) h.body)) plan.decision

-- ---- the walk

abbrev marks_at : Stmt-F Bool Bool → Bool
marks_at = test_step (λ atomic. true)

abbrev marks_loop : Loop-F Bool Bool → Bool
marks_loop = test_layer (λ l. line_spelt l.line && mark_spelt l.mark)

abbrev all_spelt : List Stmt → Bool
all_spelt xs = all_true (map marks_spelt xs)

marks_body : (head : Loop) → marks_spelt (stmt.For head) ≡ true → all_spelt (out-Loop head).body ≡ true
marks_body head h =
    let l : Loop-F Stmt Loop = out-Loop head in
    (and_parts (line_spelt l.line && mark_spelt l.mark) (all_spelt l.body) (sym (fold_stmt-For marks_at marks_loop head ∙ fold_loop-out marks_at marks_loop head) ∙ h)).1

arrays_words : (arrays : List Array) → list_all array_spelt arrays ≡ true → AreWords (map (λ (a : Array). a.name) arrays)
arrays_words [] h = tt
arrays_words (a ∷ arrays) h =
    let parts = and_parts (array_spelt a) (list_all array_spelt arrays) h in
    (name_words a.name (and_parts (is_name a.name) (list_all is_int_number a.dims) parts.0).0, arrays_words arrays parts.1)

-- a place where the arrays and the iterators around it have names
record IsNamed (u : Program) (w : Around) : Type 0 where
  arrays : AreWords (map (λ (a : Array). a.name) u.arrays)
  iters : AreWords w.iters

line_text_spelt : (u : Program) (w : Around) (head : Loop) (nest : Nest) → IsNamed u w → NamesLoop u head → IsPlan u head w.path nest → line_spelt (Some (plan_line u w head nest)) ≡ true
line_text_spelt u w head nest n h plan =
    let iters : List (List ℕ) = w.iters ++ band_names nest.depth head [] in
    let words : HasWords (names_in u iters) = record { arrays = n.arrays; iters = words_append w.iters (band_names nest.depth head []) n.iters (band_words u nest.depth head h) } in
    takes_texts _ (line_is_text (names_in u iters) nest words (reason_named u iters head w.path nest h plan))

inside_named : (u : Program) (w : Around) (head : Loop) → IsNamed u w → NamesLoop u head → IsNamed u (within head w)
inside_named u w head n h = record { arrays = n.arrays; iters = words_append w.iters ((out-Loop head).iter ∷ []) n.iters (name_words (out-Loop head).iter h.iter, tt) }

lined_spelt : (head : Loop) (l : Line) (body : List Stmt) → line_spelt (Some l) ≡ true → all_spelt body ≡ true → marks_spelt (stmt.For (lined head l body)) ≡ true
lined_spelt head l body h k =
    fold_stmt-For marks_at marks_loop (lined head l body) ∙ fold_loop marks_at marks_loop (record (out-Loop head) { body = body; line = Some l; mark = Plain })
    ∙ and_from (line_spelt (Some l) && true) (all_spelt body) (and_from (line_spelt (Some l)) true h refl) k

mutual
  spelt_stmt : (u : Program) (w : Around) (x y : Stmt) → BecomesStmt u w x y → IsNamed u w → named u x ≡ true → marks_spelt x ≡ true → marks_spelt y ≡ true
  spelt_stmt u w x y (assign _ place a subs value) n h k = k
  spelt_stmt u w x y (add_to _ place a subs value atomic) n h k = k
  spelt_stmt u w x y (declare _ place m init) n h k = k
  spelt_stmt u w x y (set_local _ place m value) n h k = k
  spelt_stmt u w x y (choice _ place test body otherwise new other b o) n h k =
      let names : (all_named u body && all_named u otherwise) ≡ true = sym (fold_stmt-If (named_at u) named_loop place test body otherwise) ∙ h in
      let p = and_parts (all_named u body) (all_named u otherwise) names in
      let marks : (all_spelt body && all_spelt otherwise) ≡ true = sym (fold_stmt-If marks_at marks_loop place test body otherwise) ∙ k in
      let q = and_parts (all_spelt body) (all_spelt otherwise) marks in
      fold_stmt-If marks_at marks_loop place test new other ∙ and_from (all_spelt new) (all_spelt other) (spelt_all u w body new b n p.0 q.0) (spelt_all u w otherwise other o n p.1 q.1)
  spelt_stmt u w x y (block _ body new b) n h k =
      fold_stmt-Block marks_at marks_loop new ∙ spelt_all u w body new b n (sym (fold_stmt-Block (named_at u) named_loop body) ∙ h) (sym (fold_stmt-Block marks_at marks_loop body) ∙ k)
  spelt_stmt u w x y (loop _ head nest new plan b) n h k =
      let names = loop_named u head h in
      lined_spelt head (plan_line u w head nest) new (line_text_spelt u w head nest n names plan) (spelt_body u w head nest.depth new b n names (marks_body head k))

  spelt_body : (u : Program) (w : Around) (head : Loop) (depth : ℕ) (new : List Stmt) → BecomesBody u w head depth new → IsNamed u w → NamesLoop u head → all_spelt (out-Loop head).body ≡ true → all_spelt new ≡ true
  spelt_body u w head depth new (parallel _ _ below) n h k = k
  spelt_body u w head depth new (sequential _ _ _ b) n h k = spelt_all u (within head w) (out-Loop head).body new b (inside_named u w head n h) h.body k

  spelt_all : (u : Program) (w : Around) (xs ys : List Stmt) → BecomeAll u w xs ys → IsNamed u w → all_named u xs ≡ true → all_spelt xs ≡ true → all_spelt ys ≡ true
  spelt_all u w xs ys (none _) n h k = refl
  spelt_all u w xs ys (more _ x y rest others b bs) n h k =
      let p = and_parts (named u x) (all_named u rest) h in
      let q = and_parts (marks_spelt x) (all_spelt rest) k in
      and_from (marks_spelt y) (all_spelt others) (spelt_stmt u w x y b n p.0 q.0) (spelt_all u w rest others bs n p.1 q.1)

-- ---- units

-- what has neither marks nor lines can be written
bare_spelt : (s : Stmt) → marks_spelt (bare s) ≡ true
bare_spelt =
    let rolled : (f : Stmt-F Stmt Loop) → _ = fold-roll-Stmt Bool Bool marks_at marks_loop in
    stmt_ind (λ s. marks_spelt (bare s) ≡ true) (record {
      assign = λ place a subs value. ap marks_spelt (fold_stmt-Assign strip_step layer place a subs value) ∙ rolled (Stmt-F.Assign place a subs value);
      add_to = λ place a subs value atomic. ap marks_spelt (fold_stmt-AddTo strip_step layer place a subs value atomic) ∙ rolled (Stmt-F.AddTo place a subs value false);
      declare = λ place n init. ap marks_spelt (fold_stmt-Declare strip_step layer place n init) ∙ rolled (Stmt-F.Declare place n init);
      set_local = λ place n value. ap marks_spelt (fold_stmt-SetLocal strip_step layer place n value) ∙ rolled (Stmt-F.SetLocal place n value);
      choice = λ place test body otherwise h k.
          ap marks_spelt (fold_stmt-If strip_step layer place test body otherwise) ∙ rolled (Stmt-F.If place test (map bare body) (map bare otherwise))
          ∙ and_from (all_spelt (map bare body)) (all_spelt (map bare otherwise)) (each_spelt body h) (each_spelt otherwise k);
      loop = λ l h.
          ap marks_spelt (fold_stmt-For strip_step layer (roll-Loop l)) ∙ rolled (Stmt-F.For (strip_loop false (roll-Loop l))) ∙ ap (fold-Loop Bool Bool marks_at marks_loop) (fold_loop strip_step layer l)
          ∙ fold_loop marks_at marks_loop (bare_layer (with_body l (map bare l.body))) ∙ each_spelt l.body h;
      block = λ body h. ap marks_spelt (fold_stmt-Block strip_step layer body) ∙ rolled (Stmt-F.Block (map bare body)) ∙ each_spelt body h;
    })
  where
    each_spelt : (xs : List Stmt) → Each (λ s. marks_spelt (bare s) ≡ true) xs → all_spelt (map bare xs) ≡ true
    each_spelt [] h = refl
    each_spelt (x ∷ xs) h = and_from (marks_spelt (bare x)) (all_spelt (map bare xs)) h.0 (each_spelt xs h.1)

all_tested : (xs : List Stmt) → all_spelt xs ≡ list_all marks_spelt xs
all_tested [] = refl
all_tested (x ∷ xs) = ap (λ (b : Bool). marks_spelt x && b) (all_tested xs)

each_true : (xs : List Stmt) → Each (λ s. marks_spelt (bare s) ≡ true) xs → all_spelt (map bare xs) ≡ true
each_true [] h = refl
each_true (x ∷ xs) h = and_from (marks_spelt (bare x)) (all_spelt (map bare xs)) h.0 (each_true xs h.1)

pub spelt_marks : (u v : Program) → IsSpelt u → IsAnnotated u v → HasSpeltMarks v
spelt_marks u v s h =
    sym (all_tested v.body)
    ∙ spelt_all (source_of u) outside (source_of u).body v.body h.body (record { arrays = arrays_words u.arrays s.arrays; iters = tt })
    (all_bare u u.body ∙ list_named u u.body (each_all (SpeltNamed u) (spelt_named u) u.body) [] s.body)
    (each_true u.body (each_all (λ s. marks_spelt (bare s) ≡ true) bare_spelt u.body))
