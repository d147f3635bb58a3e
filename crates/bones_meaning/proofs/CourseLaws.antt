-- Laws of courses. A unit without parallel marks is one sequential part, whatever is gathered.
use Rattle.std.proofs.Common.{◌≡◌, refl, ap, sym, ◌∙◌, ℕ, suc, List, [], ◌∷◌, ◌++◌, map, flat_map, length, ℤ, Bool, true, false, if◌then◌else◌}
use Rattle.std.specs.List.{list_all}
use Rattle.std.specs.Prelude.{not}
use Rattle.std.proofs.lemmas.List.{length-map}
use Rattle.species_ast.specs.declared.tree.Loop.{Loop, roll-Loop}
use Rattle.species_ast.specs.declared.tree.Mark.{Mark}
use Rattle.species_ast.specs.declared.tree.Mark.TheVariants.{Plain, Parallel}
use Rattle.species_ast.specs.declared.tree.Stmt.{Stmt}
use Rattle.species_ast.specs.declared.tree.Stmt.TheOpen.{Loop-F}
use Rattle.species_ast.specs.declared.tree.Unit.{Unit as Program}
use Rattle.species_ast.specs.Marks.{all_true, test_step, test_layer, is_plain, unmarked_stmt, IsUnmarked}
use Rattle.species_ast.specs.Operators.{is_true}
use Rattle.species_ast.specs.Accesses.{Joins, Cells, cell, Cause, Tree, Ret, Stop, Read, Write, Add, then_do, Ended, Stopped, run}
use Rattle.species_ast.specs.Evaluation.{Frame, Context, sense}
use Rattle.species_ast.specs.Run.{Step, step, inside, outside, turns, cleared, declared_in, does_list, does_scope, spot, source_context, first_frame, program_of}
use Rattle.species_ast.proofs.Folds.{fold_stmt-If, fold_stmt-For, fold_stmt-Block, fold_loop}
use Rattle.species_ast.proofs.Induction.{Each, each_all, stmt_ind}
use Rattle.species_ast.proofs.Paras.{beside, seconds, para_stmt-Assign, para_stmt-AddTo, para_stmt-Declare, para_stmt-SetLocal, para_stmt-If, para_stmt-For, para_stmt-Block, para_loop}
use Rattle.species_ast.proofs.RunLaws.{step-Assign, step-AddTo, step-Declare, step-SetLocal, step-If, step-For, step-Block}
use Rattle.species_runs.proofs.ScopeLaws.{and_true}
use Rattle.species_nests.specs.Arrivals.{header, turn_of}
use Rattle.species_nests.proofs.ArrivalLaws.{loop_is_header, does_For, does_If, does_Block, branch}
use Rattle.bones_meaning.specs.Courses.{Course, Over, Reading, Writing, Adding, and_then, after, Part, Coursing, course_list, course_scope, course_turns, by_mark, part_at, coursing_at, part, course_of}
use Rattle.bones_meaning.specs.Gatherings.{Gatherings}
use Rattle.bones_meaning.specs.Plays.{Finished, Undefined, enter}

-- ---- one after another

pub after-then_do : {X Y Z : Type 0} (t : Tree X) (next : X → Tree Y) (last : Y → Course Z) → after (then_do t next) last ≡ after t (λ x. after (next x) last)
after-then_do (Ret x) next last = refl
after-then_do (Stop s why) next last = refl
after-then_do (Read s e more) next last = ap (Reading s e) (λ i v. after-then_do (more v) next last i)
after-then_do (Write s e v more) next last = ap (Writing s e v) (after-then_do more next last)
after-then_do (Add s e v more) next last = ap (Adding s e v) (after-then_do more next last)

pub and_then-after : {X Y Z : Type 0} (t : Tree X) (next : X → Course Y) (last : Y → Course Z) → and_then (after t next) last ≡ after t (λ x. and_then (next x) last)
and_then-after (Ret x) next last = refl
and_then-after (Stop s why) next last = refl
and_then-after (Read s e more) next last = ap (Reading s e) (λ i v. and_then-after (more v) next last i)
and_then-after (Write s e v more) next last = ap (Writing s e v) (and_then-after more next last)
and_then-after (Add s e v more) next last = ap (Adding s e v) (and_then-after more next last)

-- ---- statements without parallel marks

abbrev pub alone : Tree Frame → Course Frame
alone t = after t (λ g. Over g)

-- the statement is sequential
pub record IsSequential (gathers : Gatherings) (w : Context) (x : Stmt) : Type 0 where
  pub declares : (part gathers w x).declares ≡ (step w x).declares
  pub does : (at : List ℕ) (f : Frame) → (part gathers w x).does at f ≡ alone ((step w x).does at f)

-- one tree after another is sequential
both_alone : {X : Type 0} (t : Tree X) (next : X → Tree Frame) (rest : X → Course Frame) → ((x : X) → rest x ≡ alone (next x)) → after t rest ≡ alone (then_do t next)
both_alone t next rest h = ap (after t) (λ i x. h x i) ∙ sym (after-then_do t next (λ g. Over g))

list_alone : (gathers : Gatherings) (w : Context) (xs : List Stmt) → Each (IsSequential gathers w) xs → (at : List ℕ) (k : ℕ) (f : Frame)
    → course_list (map (part gathers w) xs) at k f ≡ alone (does_list w xs at k f)
list_alone gathers w [] h at k f = refl
list_alone gathers w (x ∷ xs) h at k f =
    let first = (step w x).does (at ++ k ∷ []) f in
    let rest = course_list (map (part gathers w) xs) at (suc k) in
    ap (λ c. and_then c rest) (h.0.does (at ++ k ∷ []) f)
    ∙ and_then-after first (λ g. Over g) rest
    ∙ both_alone first (does_list w xs at (suc k)) rest (λ g. list_alone gathers w xs h.1 at (suc k) g)

same_declared : (gathers : Gatherings) (w : Context) (xs : List Stmt) → Each (IsSequential gathers w) xs → flat_map (λ x. x.declares) (map (part gathers w) xs) ≡ declared_in (map (step w) xs)
same_declared gathers w [] h = refl
same_declared gathers w (x ∷ xs) h = λ i. h.0.declares i ++ same_declared gathers w xs h.1 i

scope_alone : (gathers : Gatherings) (w : Context) (xs : List Stmt) → Each (IsSequential gathers w) xs → (at : List ℕ) (k : ℕ) (f : Frame)
    → course_scope (map (part gathers w) xs) at k f ≡ alone (does_scope w xs at k f)
scope_alone gathers w xs h at k f =
    (λ i. and_then (list_alone gathers w xs h at k f i) (λ g. Over (cleared (same_declared gathers w xs h i) g)))
    ∙ and_then-after (does_list w xs at k f) (λ g. Over g) (λ g. Over (cleared (declared_in (map (step w) xs)) g))
    ∙ both_alone (does_list w xs at k f) (λ g. Ret (cleared (declared_in (map (step w) xs)) g)) (λ g. Over (cleared (declared_in (map (step w) xs)) g)) (λ g. refl)

turns_alone : (is : List ℤ) (body : Frame → Course Frame) (does : Frame → Tree Frame) → ((f : Frame) → body f ≡ alone (does f)) → (f : Frame) → course_turns is body f ≡ alone (turns is does f)
turns_alone [] body does h f = refl
turns_alone (i ∷ is) body does h f =
    ap (λ c. and_then c (λ g. course_turns is body (outside f g))) (h (inside f i))
    ∙ and_then-after (does (inside f i)) (λ g. Over g) (λ g. course_turns is body (outside f g))
    ∙ both_alone (does (inside f i)) (λ g. turns is does (outside f g)) (λ g. course_turns is body (outside f g)) (λ g. turns_alone is body does h (outside f g))

one_alone : (b : Bool) (c d : Course Frame) (t u : Tree Frame) → c ≡ alone t → d ≡ alone u → (if b then c else d) ≡ alone (if b then t else u)
one_alone true c d t u p q = p
one_alone false c d t u p q = q

plainly : (gathers : Gatherings) (w : Context) (m : Mark) (l : Loop) (does : Coursing) (at : List ℕ) (f : Frame) → is_plain m ≡ true → by_mark gathers w m l does at f ≡ does at f
plainly gathers w Plain l does at f h = refl
plainly gathers w (Parallel depth schedule) l does at f h = absurd cc

abbrev head_plain : {X Y : Type 0} → Loop-F X Y → Bool
head_plain l = is_plain l.mark

-- a statement without marks is sequential
abbrev SequentialIf : Gatherings → Context → Stmt → Type 0
SequentialIf gathers w x = unmarked_stmt x ≡ true → IsSequential gathers w x

each_sequential : (gathers : Gatherings) (w : Context) (xs : List Stmt) → Each (SequentialIf gathers w) xs → all_true (map unmarked_stmt xs) ≡ true → Each (IsSequential gathers w) xs
each_sequential gathers w [] h t = tt
each_sequential gathers w (x ∷ xs) h t =
    let both = and_true (unmarked_stmt x) (all_true (map unmarked_stmt xs)) t in
    (h.0 both.0, each_sequential gathers w xs h.1 both.1)

by_part : (gathers : Gatherings) (w : Context) (x : Stmt) (p : Part) (s : Step) → part gathers w x ≡ p → step w x ≡ s → p.declares ≡ s.declares
    → ((at : List ℕ) (f : Frame) → p.does at f ≡ alone (s.does at f)) → IsSequential gathers w x
by_part gathers w x p s is of declares does = record {
  declares = ap (λ q. q.declares) is ∙ declares ∙ sym (ap (λ q. q.declares) of);
  does = λ at f. ap (λ q. q.does at f) is ∙ does at f ∙ sym (ap (λ q. alone (q.does at f)) of);
}

pub is_sequential : (gathers : Gatherings) (w : Context) (x : Stmt) → SequentialIf gathers w x
is_sequential gathers w = stmt_ind (SequentialIf gathers w) (record {
  assign = λ place a subs value t.
      by_part gathers w _ _ _ (para_stmt-Assign (part_at gathers w) (coursing_at w) place a subs value) (step-Assign w place a subs value) refl (λ at f. refl);
  add_to = λ place a subs value atomic t.
      by_part gathers w _ _ _ (para_stmt-AddTo (part_at gathers w) (coursing_at w) place a subs value atomic) (step-AddTo w place a subs value atomic) refl (λ at f. refl);
  declare = λ place x init t. by_part gathers w _ _ _ (para_stmt-Declare (part_at gathers w) (coursing_at w) place x init) (step-Declare w place x init) refl (λ at f. refl);
  set_local = λ place x value t.
      by_part gathers w _ _ _ (para_stmt-SetLocal (part_at gathers w) (coursing_at w) place x value) (step-SetLocal w place x value) refl (λ at f. refl);
  choice = λ place test body otherwise p q t.
      let both = and_true (all_true (map unmarked_stmt body)) (all_true (map unmarked_stmt otherwise)) (sym (fold_stmt-If (test_step not) (test_layer head_plain) place test body otherwise) ∙ t) in
      let first = each_sequential gathers w body p both.0 in
      let second = each_sequential gathers w otherwise q both.1 in
      record {
        declares = ap (λ q. q.declares) (para_stmt-If (part_at gathers w) (coursing_at w) place test body otherwise) ∙ sym (ap (λ s. s.declares) (step-If w place test body otherwise));
        does = λ at f.
            ap (λ q. q.does at f) (para_stmt-If (part_at gathers w) (coursing_at w) place test body otherwise)
            ∙ (λ i. after ((sense w test).does (spot place at) 0 f) (λ v.
            if is_true v then course_scope (seconds (part gathers w) body i) at 0 f
            else course_scope (seconds (part gathers w) otherwise i) at (length-map body (beside (part gathers w)) i) f))
            ∙ both_alone ((sense w test).does (spot place at) 0 f) (branch w body otherwise at f) _ (λ v.
            one_alone (is_true v) _ _ (does_scope w body at 0 f) (does_scope w otherwise at (length body) f) (scope_alone gathers w body first at 0 f) (scope_alone gathers w otherwise second at (length body) f))
            ∙ ap alone (sym (does_If w place test body otherwise at f));
      };
  loop = λ l p t.
      let both = and_true (is_plain l.mark) (all_true (map unmarked_stmt l.body)) (sym (fold_stmt-For (test_step not) (test_layer head_plain) (roll-Loop l) ∙ fold_loop (test_step not) (test_layer head_plain) l) ∙ t) in
      let body = each_sequential gathers w l.body p both.1 in
      record {
        declares = ap (λ q. q.declares) (para_stmt-For (part_at gathers w) (coursing_at w) (roll-Loop l)) ∙ sym (ap (λ s. s.declares) (step-For w (roll-Loop l)));
        does = λ at f.
            ap (λ q. q.does at f) (para_stmt-For (part_at gathers w) (coursing_at w) (roll-Loop l))
            ∙ plainly gathers w l.mark (roll-Loop l) _ at f both.0
            ∙ ap (λ d. d at f) (para_loop (part_at gathers w) (coursing_at w) l)
            ∙ (λ i. after (header w (roll-Loop l) at f) (λ is. course_turns is (course_scope (seconds (part gathers w) l.body i) at 0) f))
            ∙ both_alone (header w (roll-Loop l) at f) (λ is. turns is (turn_of w (roll-Loop l) at) f) _
            (λ is. turns_alone is (course_scope (map (part gathers w) l.body) at 0) (turn_of w (roll-Loop l) at) (λ g. scope_alone gathers w l.body body at 0 g) f)
            ∙ ap alone (sym (does_For w (roll-Loop l) at f ∙ loop_is_header w (roll-Loop l) at f));
      };
  block = λ body p t.
      let all = each_sequential gathers w body p (sym (fold_stmt-Block (test_step not) (test_layer head_plain) body) ∙ t) in
      record {
        declares = ap (λ q. q.declares) (para_stmt-Block (part_at gathers w) (coursing_at w) body) ∙ sym (ap (λ s. s.declares) (step-Block w body));
        does = λ at f.
            ap (λ q. q.does at f) (para_stmt-Block (part_at gathers w) (coursing_at w) body)
            ∙ (λ i. course_scope (seconds (part gathers w) body i) at 0 f)
            ∙ scope_alone gathers w body all at 0 f
            ∙ ap alone (sym (does_Block w body at f));
      };
})

-- the law
pub unmarked_course : (gathers : Gatherings) (u : Program) → IsUnmarked u → course_of gathers u ≡ alone (program_of u)
unmarked_course gathers u unmarked =
    let w = source_context u in
    list_alone gathers w u.body (each_sequential gathers w u.body (each_all (SequentialIf gathers w) (is_sequential gathers w) u.body) (all_map u.body unmarked)) [] 0 (first_frame u)
  where
    all_map : (xs : List Stmt) → list_all unmarked_stmt xs ≡ true → all_true (map unmarked_stmt xs) ≡ true
    all_map [] h = refl
    all_map (x ∷ xs) h = let both = and_true (unmarked_stmt x) (list_all unmarked_stmt xs) h in rw (both.0, all_map xs both.1) refl

-- ---- plays of a sequential part

-- a play of it is where the run has ended
pub alone_ends : {X : Type 0} (join : Joins) (t : Tree X) (m : Cells) (x : X) (n : Cells) → run join t m ≡ Ended x n → enter join (after t (λ y. Over y)) m ≡ Finished n
alone_ends join (Ret y) m x n h = let same : m ≡ n = cc in ap (λ k. Finished k) same
alone_ends join (Stop s why) m x n h = absurd cc
alone_ends join (Read s e more) m x n h = alone_ends join (more (cell m e)) m x n h
alone_ends join (Write s e v more) m x n h = alone_ends join more _ x n h
alone_ends join (Add s e v more) m x n h = alone_ends join more _ x n h

-- and is undefined where the run is
pub alone_stops : {X : Type 0} (join : Joins) (t : Tree X) (m : Cells) (why : Cause) (place : ℕ) → run join t m ≡ Stopped why place → enter join (after t (λ y. Over y)) m ≡ Undefined
alone_stops join (Ret y) m why place h = absurd cc
alone_stops join (Stop s reason) m why place h = refl
alone_stops join (Read s e more) m why place h = alone_stops join (more (cell m e)) m why place h
alone_stops join (Write s e v more) m why place h = alone_stops join more _ why place h
alone_stops join (Add s e v more) m why place h = alone_stops join more _ why place h
