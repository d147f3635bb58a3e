-- The accesses of a course are those of the run, and how many of them are made in nests.
use Rattle.std.proofs.Common.{◌≡◌, arith, refl, ap, sym, ◌∙◌, ℕ, suc, ◌+◌, ◌-◌, List, [], ◌∷◌, ◌++◌, map, flat_map, length, ℤ, Bool, true, false, if◌then◌else◌, Option, Some, None}
use Rattle.std.specs.Prelude.{filter}
use Rattle.std.proofs.lemmas.List.{append_assoc, append-nil, map-append}
use Rattle.species_ast.specs.declared.tree.Mark.{Mark}
use Rattle.species_ast.specs.declared.tree.Mark.TheVariants.{Plain, Parallel}
use Rattle.species_ast.specs.declared.tree.Value.{Value}
use Rattle.species_ast.specs.declared.tree.Expr.{Expr}
use Rattle.species_ast.specs.declared.tree.Loop.{Loop, roll-Loop, out-Loop}
use Rattle.species_ast.specs.declared.tree.Stmt.{Stmt}
use Rattle.species_ast.specs.declared.tree.Stmt.TheVariants as stmt
use Rattle.species_ast.specs.declared.tree.Stmt.TheOpen.{Stmt-F, Loop-F}
use Rattle.species_ast.specs.declared.tree.Unit.{Unit as Program}
use Rattle.species_ast.specs.Operators.{is_true}
use Rattle.species_ast.specs.Scope.WellMade.{IsWellMade}
use Rattle.species_ast.specs.Accesses.{Joins, Cells, cell, Tree, Ret, Stop, Read, Write, Add, Ended, run, Access, access, Reads, Writes, Adds, accesses}
use Rattle.species_ast.specs.Evaluation.{Frame, Context, sense}
use Rattle.species_ast.specs.Run.{Step, step_at, inside, outside, turns, cleared, declared_in, spot, step, loop_of, does_list, does_scope, source_context, first_frame, source_run}
use Rattle.species_ast.proofs.Induction.{Each, each_all, stmt_ind}
use Rattle.species_ast.proofs.Paras.{para_stmt-Assign, para_stmt-AddTo, para_stmt-Declare, para_stmt-SetLocal}
use Rattle.species_ast.proofs.RunLaws.{step-Assign, step-AddTo, step-Declare, step-SetLocal, turns-append}
use Rattle.species_runs.proofs.EveryLaws.{ended_parts, ended_then, accesses_then}
use Rattle.species_nests.specs.Arrivals.{header, turn_of, Running, here, in_turn, in_body, in_otherwise, in_block, first, later}
use Rattle.species_nests.specs.Nests.{iterations, frames, nest_of, source_iterations, run_all, traces}
use Rattle.species_nests.proofs.ArrivalLaws.{loop_is_header, does_For, does_If, does_Block, branch}
use Rattle.species_nests.proofs.NestFits.{nest_fits, nest_quiet}
use Rattle.species_nests.proofs.NestLaws.{keeps_frames, nest_is, band_ran, headers_are, joined}
use Rattle.bones_meaning.specs.Gatherings.{Gatherings}
use Rattle.bones_meaning.specs.Courses.{Course, Over, Halt, Reading, Writing, Adding, Together, and_then, after, course_list, course_scope, course_turns, sequential, by_mark, part_at, coursing_at, part, course_of}
use Rattle.bones_commute.specs.Orderly.{IsOrderly, RunsTo, marked_on, marked_accesses, ranks_on, ranks_of, CountsRanks}
use Rattle.bones_commute.specs.Trades.{Trades}
use Rattle.bones_commute.proofs.UnitRuns.{IsOpen, same_iterations, OrderlyAt, OrderlyIn, PartRuns, list_runs, scope_runs, part_runs, coursing, part-For, part-If, part-Block, all_good}

-- the accesses of a course's run
abbrev pub second : Bool × Access → Access
second x = x.1

abbrev pub accesses_of : {X : Type 0} → Joins → Course X → Cells → List Access
accesses_of join c m = map second (marked_accesses join c m)

second_marked : (b : Bool) (xs : List Access) → map second (map (λ x. (b, x)) xs) ≡ xs
second_marked b [] = refl
second_marked b (x ∷ xs) = ap (λ l. x ∷ l) (second_marked b xs)

accesses_after : {X Y : Type 0} (join : Joins) (t : Tree X) (next : X → Course Y) (m : Cells) (x : X) (k : Cells) → run join t m ≡ Ended x k
    → accesses_of join (after t next) m ≡ accesses join t m ++ accesses_of join (next x) k
accesses_after join (Ret z) next m x k h = λ i. accesses_of join (next (value i)) (arrays i)
  where
    value : z ≡ x
    value = cc

    arrays : m ≡ k
    arrays = cc
accesses_after join (Stop s why) next m x k h = absurd cc
accesses_after join (Read s e more) next m x k h = ap (λ l. access s Reads e (cell m e) ∷ l) (accesses_after join (more (cell m e)) next m x k h)
accesses_after join (Write s e v more) next m x k h = ap (λ l. access s Writes e v ∷ l) (accesses_after join more next _ x k h)
accesses_after join (Add s e v more) next m x k h = ap (λ l. access s Adds e v ∷ l) (accesses_after join more next _ x k h)

marked_then : {X Y : Type 0} (join : Joins) (c : Course X) (next : X → Course Y) (m : Cells) (x : X) (k : Cells) → RunsTo join c m x k
    → marked_accesses join (and_then c next) m ≡ marked_accesses join c m ++ marked_accesses join (next x) k
marked_then join (Over z) next m x k r = λ i. marked_accesses join (next (r.0 i)) (r.1 i)
marked_then join (Halt s why) next m x k r = absurd r
marked_then join (Reading s e more) next m x k r = ap (λ l. (false, access s Reads e (cell m e)) ∷ l) (marked_then join (more (cell m e)) next m x k r)
marked_then join (Writing s e v more) next m x k r = ap (λ l. (false, access s Writes e v) ∷ l) (marked_then join more next _ x k r)
marked_then join (Adding s e v more) next m x k r = ap (λ l. (false, access s Adds e v) ∷ l) (marked_then join more next _ x k r)
marked_then join (Together nest_join ts more) next m x k r =
    let own = map (λ x. (true, x)) (flat_map (λ xs. xs) (traces nest_join ts m)) in
    (λ i. own ++ marked_on (r.1.runs i) (marked_accesses join (and_then more next)))
    ∙ ap (λ l. own ++ l) (marked_then join more next r.0 x k r.2)
    ∙ sym (append_assoc own (marked_accesses join more r.0) (marked_accesses join (next x) k))
    ∙ (λ i. (own ++ marked_on (sym r.1.runs i) (marked_accesses join more)) ++ marked_accesses join (next x) k)

accesses_both : {X Y : Type 0} (join : Joins) (c : Course X) (next : X → Course Y) (m : Cells) (x : X) (k : Cells) → RunsTo join c m x k
    → accesses_of join (and_then c next) m ≡ accesses_of join c m ++ accesses_of join (next x) k
accesses_both join c next m x k r = ap (map second) (marked_then join c next m x k r) ∙ map-append second (marked_accesses join c m) (marked_accesses join (next x) k)

-- ---- statements

module _ (join : Joins) (trades : Trades join) (gathers : Gatherings) (w : Context) (open_ : IsOpen w) where
  abbrev At : Stmt → List Loop → List ℕ → Frame → Cells → Type 0
  At = OrderlyAt join trades gathers w open_

  abbrev In : List Stmt → List Loop → List ℕ → ℕ → Frame → Cells → Type 0
  In = OrderlyIn join trades gathers w open_

  abbrev pub SameIn : Stmt → Type 0
  SameIn x = (around : List Loop) (at : List ℕ) (f : Frame) (m : Cells) (g : Frame) (n : Cells)
      → At x around at f m → run join ((step w x).does at f) m ≡ Ended g n → accesses_of join ((part gathers w x).does at f) m ≡ accesses join ((step w x).does at f) m

  abbrev all_run : (xs : List Stmt) → Each (PartRuns join trades gathers w open_) xs
  all_run xs = each_all (PartRuns join trades gathers w open_) (part_runs join trades gathers w open_) xs

  pub list_same : (xs : List Stmt) → Each SameIn xs → (around : List Loop) (at : List ℕ) (k : ℕ) (f : Frame) (m : Cells) (g : Frame) (n : Cells)
      → In xs around at k f m → run join (does_list w xs at k f) m ≡ Ended g n
      → accesses_of join (course_list (map (part gathers w) xs) at k f) m ≡ accesses join (does_list w xs at k f) m
  list_same [] h around at k f m g n orderly is = refl
  list_same (x ∷ xs) h around at k f m g n orderly is =
      let ended = ended_parts join ((step w x).does (at ++ k ∷ []) f) (does_list w xs at (suc k)) m g n is in
      let here_ : At x around (at ++ k ∷ []) f m = λ r d s mark comes. orderly r d s mark (first x xs around at k f m comes) in
      accesses_both join ((part gathers w x).does (at ++ k ∷ []) f) (course_list (map (part gathers w) xs) at (suc k)) m ended.0 ended.1
      ((part_runs join trades gathers w open_ x).runs around (at ++ k ∷ []) f m ended.0 ended.1 here_ ended.2)
      ∙ (λ i. h.0 around (at ++ k ∷ []) f m ended.0 ended.1 here_ ended.2 i
      ++ list_same xs h.1 around at (suc k) ended.0 ended.1 g n (λ r d s mark comes. orderly r d s mark (later x xs around at k f ended.0 m ended.1 ended.2 comes)) ended.3 i)
      ∙ sym (accesses_then join ((step w x).does (at ++ k ∷ []) f) (does_list w xs at (suc k)) m ended.0 ended.1 ended.2)

  scope_same : (xs : List Stmt) → Each SameIn xs → (around : List Loop) (at : List ℕ) (k : ℕ) (f : Frame) (m : Cells) (g : Frame) (n : Cells)
      → In xs around at k f m → run join (does_scope w xs at k f) m ≡ Ended g n
      → accesses_of join (course_scope (map (part gathers w) xs) at k f) m ≡ accesses join (does_scope w xs at k f) m
  scope_same xs h around at k f m g n orderly is =
      let ended = ended_parts join (does_list w xs at k f) (λ g. Ret (cleared (declared_in (map (step w) xs)) g)) m g n is in
      accesses_both join (course_list (map (part gathers w) xs) at k f) (λ g. Over (cleared (flat_map (λ x. x.declares) (map (part gathers w) xs)) g)) m ended.0 ended.1
      (list_runs join trades gathers w open_ xs (all_run xs) around at k f m ended.0 ended.1 orderly ended.2)
      ∙ ap (λ l. l ++ []) (list_same xs h around at k f m ended.0 ended.1 orderly ended.2)
      ∙ sym (accesses_then join (does_list w xs at k f) (λ g. Ret (cleared (declared_in (map (step w) xs)) g)) m ended.0 ended.1 ended.2)

  turns_same : (l : Loop) → Each SameIn (out-Loop l).body
      → (around : List Loop) (at : List ℕ) (f : Frame) (m begun : Cells) (is before : List ℤ) (g : Frame) (k : Cells) (h : Frame) (n : Cells)
      → At (stmt.For l) around at f m → run join (header w l at f) m ≡ Ended (before ++ is) begun → run join (turns before (turn_of w l at) f) begun ≡ Ended g k
      → run join (turns is (turn_of w l at) g) k ≡ Ended h n
      → accesses_of join (course_turns is (course_scope (map (part gathers w) (out-Loop l).body) at 0) g) k ≡ accesses join (turns is (turn_of w l at) g) k
  turns_same l each around at f m begun [] before g k h n orderly head done rest = refl
  turns_same l each around at f m begun (i ∷ is) before g k h n orderly head done rest =
      let body = (out-Loop l).body in
      let ended = ended_parts join (turn_of w l at (inside g i)) (λ p. turns is (turn_of w l at) (outside g p)) k h n rest in
      let now : run join (turns (before ++ i ∷ []) (turn_of w l at) f) begun ≡ Ended (outside g ended.0) ended.1 =
      ap (λ t. run join t begun) (turns-append before (i ∷ []) (turn_of w l at) f)
      ∙ ended_then join (turns before (turn_of w l at) f) (turns (i ∷ []) (turn_of w l at)) begun g k done
      ∙ ended_then join (turn_of w l at (inside g i)) (λ p. Ret (outside g p)) k ended.0 ended.1 ended.2
      in
      let inner : In body (around ++ l ∷ []) at 0 (inside g i) k = λ r d s mark comes. orderly r d s mark (in_turn l around at f g m begun k before i is head done comes) in
      accesses_both join (course_scope (map (part gathers w) body) at 0 (inside g i)) (λ p. course_turns is (course_scope (map (part gathers w) body) at 0) (outside g p)) k ended.0 ended.1
      (scope_runs join trades gathers w open_ body (all_run body) (around ++ l ∷ []) at 0 (inside g i) k ended.0 ended.1 inner ended.2)
      ∙ (λ j. scope_same body each (around ++ l ∷ []) at 0 (inside g i) k ended.0 ended.1 inner ended.2 j
      ++ turns_same l each around at f m begun is (before ++ i ∷ []) (outside g ended.0) ended.1 h n orderly (head ∙ ap (λ xs. Ended xs begun) (sym (append_assoc before (i ∷ []) is))) now ended.3 j)
      ∙ sym (accesses_then join (turn_of w l at (inside g i)) (λ p. turns is (turn_of w l at) (outside g p)) k ended.0 ended.1 ended.2)

  loop_same : (l : Loop-F Stmt Loop) → Each SameIn l.body → (mark : Mark) → l.mark ≡ mark → (around : List Loop) (at : List ℕ) (f : Frame) (m : Cells) (g : Frame) (n : Cells)
      → At (stmt.For (roll-Loop l)) around at f m → run join (loop_of w (roll-Loop l) at f) m ≡ Ended g n
      → accesses_of join (by_mark gathers w mark (roll-Loop l) (coursing gathers w (roll-Loop l)) at f) m ≡ accesses join (loop_of w (roll-Loop l) at f) m
  loop_same l each Plain is around at f m g n orderly h =
      let loop = roll-Loop l in
      let same = loop_is_header w loop at f in
      let ended = ended_parts join (header w loop at f) (λ is. turns is (turn_of w loop at) f) m g n (ap (λ t. run join t m) (sym same) ∙ h) in
      accesses_after join (header w loop at f) (λ is. course_turns is (course_scope (map (part gathers w) l.body) at 0) f) m ended.0 ended.1 ended.2
      ∙ ap (λ xs. accesses join (header w loop at f) m ++ xs) (turns_same loop each around at f m ended.1 ended.0 [] f ended.1 g n orderly ended.2 refl ended.3)
      ∙ sym (accesses_then join (header w loop at f) (λ is. turns is (turn_of w loop at) f) m ended.0 ended.1 ended.2)
      ∙ ap (λ t. accesses join t m) (sym same)
  loop_same l each (Parallel depth schedule) is around at f m g n orderly h =
      let loop = roll-Loop l in
      let d = depth - 1 in
      let nest = nest_of d loop at in
      let r : Running = record { loop = loop; around = around; at = at; frame = f; arrays = m } in
      let good = orderly r depth schedule is here in
      let does = does_scope w nest.body nest.at 0 in
      let quiet = nest_quiet w d r good.1 in
      let keeps = keeps_frames w nest.body f (nest_fits d r good.1) good.0.locals nest.at in
      let ended = ap (λ t. run join t m) (sym (nest_is w d loop at f)) ∙ h in
      let ran = band_ran join w nest.loops does quiet f.locals keeps f refl m g n ended in
      let given = headers_are join w nest.loops does quiet f.locals keeps f refl m g n ended in
      let same = same_iterations (gathers at).takes w open_ nest (frames w nest.loops f) good.0.locals good.0.adds in
      let own = map (λ x. (true, x)) (joined (traces join (source_iterations w nest (frames w nest.loops f)) m)) in
      (λ i. accesses_of join (after (given i) (λ fs. Together (good.0.joins i) (iterations (gathers at).takes w nest fs) (Over f))) m)
      ∙ (λ i. map second (map (λ x. (true, x)) (joined (traces join (same i) m)) ++ marked_on (run_all join (same i) m) (λ k. [])))
      ∙ (λ i. map second (own ++ marked_on (ran.arrays i) (λ k. [])))
      ∙ ap (map second) (append-nil own)
      ∙ second_marked true (joined (traces join (source_iterations w nest (frames w nest.loops f)) m))
      ∙ sym ran.same_accesses
      ∙ ap (λ t. accesses join t m) (sym (nest_is w d loop at f))

  branch_same : (place : ℕ) (test : Expr) (body otherwise : List Stmt) → Each SameIn body → Each SameIn otherwise
      → (around : List Loop) (at : List ℕ) (f : Frame) (m : Cells) (v : Value) (k : Cells) (g : Frame) (n : Cells) → At (stmt.If place test body otherwise) around at f m
      → run join ((sense w test).does (spot place at) 0 f) m ≡ Ended v k → (b : Bool) → is_true v ≡ b
      → run join (if b then does_scope w body at 0 f else does_scope w otherwise at (length body) f) k ≡ Ended g n
      → accesses_of join (if b then course_scope (map (part gathers w) body) at 0 f else course_scope (map (part gathers w) otherwise) at (length body) f) k
      ≡ accesses join (if b then does_scope w body at 0 f else does_scope w otherwise at (length body) f) k
  branch_same place test body otherwise p q around at f m v k g n orderly is true taken h =
      scope_same body p around at 0 f k g n (λ r d s mark comes. orderly r d s mark (in_body place test body otherwise around at f m k v is taken comes)) h
  branch_same place test body otherwise p q around at f m v k g n orderly is false taken h =
      scope_same otherwise q around at (length body) f k g n (λ r d s mark comes. orderly r d s mark (in_otherwise place test body otherwise around at f m k v is taken comes)) h

  leaf_same : (x : Stmt) (s : Step) → part gathers w x ≡ sequential s → step w x ≡ s → SameIn x
  leaf_same x s p q around at f m g n orderly h =
      ap (λ c. accesses_of join (c.does at f) m) p ∙ accesses_after join (s.does at f) (λ k. Over k) m g n (ap (λ t. run join (t.does at f) m) (sym q) ∙ h)
      ∙ append-nil (accesses join (s.does at f) m) ∙ ap (λ t. accesses join (t.does at f) m) (sym q)

  pub same_accesses : (x : Stmt) → SameIn x
  same_accesses = stmt_ind SameIn (record {
    assign = λ place a subs value.
        leaf_same (stmt.Assign place a subs value) (step_at w (Stmt-F.Assign place a subs value)) (para_stmt-Assign (part_at gathers w) (coursing_at w) place a subs value) (step-Assign w place a subs value);
    add_to = λ place a subs value atomic.
        leaf_same (stmt.AddTo place a subs value atomic) (step_at w (Stmt-F.AddTo place a subs value atomic)) (para_stmt-AddTo (part_at gathers w) (coursing_at w) place a subs value atomic) (step-AddTo w place a subs value atomic);
    declare = λ place x init. leaf_same (stmt.Declare place x init) (step_at w (Stmt-F.Declare place x init)) (para_stmt-Declare (part_at gathers w) (coursing_at w) place x init) (step-Declare w place x init);
    set_local = λ place x value.
        leaf_same (stmt.SetLocal place x value) (step_at w (Stmt-F.SetLocal place x value)) (para_stmt-SetLocal (part_at gathers w) (coursing_at w) place x value) (step-SetLocal w place x value);
    choice = λ place test body otherwise p q around at f m g n orderly h.
        let same = does_If w place test body otherwise at f in
        let ended = ended_parts join ((sense w test).does (spot place at) 0 f) (branch w body otherwise at f) m g n (ap (λ t. run join t m) (sym same) ∙ h) in
        ap (λ c. accesses_of join (c.does at f) m) (part-If gathers w place test body otherwise)
        ∙ accesses_after join ((sense w test).does (spot place at) 0 f) (λ v. if is_true v then course_scope (map (part gathers w) body) at 0 f else course_scope (map (part gathers w) otherwise) at (length body) f) m ended.0 ended.1 ended.2
        ∙ ap (λ l. accesses join ((sense w test).does (spot place at) 0 f) m ++ l) (branch_same place test body otherwise p q around at f m ended.0 ended.1 g n orderly ended.2 (is_true ended.0) refl ended.3)
        ∙ sym (accesses_then join ((sense w test).does (spot place at) 0 f) (branch w body otherwise at f) m ended.0 ended.1 ended.2)
        ∙ ap (λ t. accesses join t m) (sym same);
    loop = λ l p around at f m g n orderly h.
        ap (λ c. accesses_of join (c.does at f) m) (part-For gathers w l)
        ∙ loop_same l p l.mark refl around at f m g n orderly (ap (λ t. run join t m) (sym (does_For w (roll-Loop l) at f)) ∙ h)
        ∙ ap (λ t. accesses join t m) (sym (does_For w (roll-Loop l) at f));
    block = λ body p around at f m g n orderly h.
        ap (λ c. accesses_of join (c.does at f) m) (part-Block gathers w body)
        ∙ scope_same body p around at 0 f m g n (λ r d s mark comes. orderly r d s mark (in_block body around at f m comes)) (ap (λ t. run join t m) (sym (does_Block w body at f)) ∙ h)
        ∙ ap (λ t. accesses join t m) (sym (does_Block w body at f));
  })

-- ---- how many are made in nests

abbrev in_nests : List (Bool × Access) → ℕ
in_nests xs = length (filter (λ (x : Bool × Access). x.0) xs)

all_in : (xs : List Access) (rest : List (Bool × Access)) → in_nests (map (λ x. (true, x)) xs ++ rest) ≡ length xs + in_nests rest
all_in [] rest = omega arith
all_in (x ∷ xs) rest = omega (arith, all_in xs rest)

pub count_is : {X : Type 0} (join : Joins) (c : Course X) (m : Cells) → in_nests (marked_accesses join c m) ≡ ranks_of join c m
count_is join (Over x) m = refl
count_is join (Halt s why) m = refl
count_is join (Reading s e more) m = count_is join (more (cell m e)) m
count_is join (Writing s e v more) m = count_is join more _
count_is join (Adding s e v more) m = count_is join more _
count_is join (Together nest_join ts more) m =
    all_in (flat_map (λ xs. xs) (traces nest_join ts m)) (marked_on (run_all nest_join ts m) (marked_accesses join more))
    ∙ ap (λ n. length (flat_map (λ xs. xs) (traces nest_join ts m)) + n) (on (λ k. count_is join more k) (run_all nest_join ts m))
  where
    on : ((k : Cells) → in_nests (marked_accesses join more k) ≡ ranks_of join more k) → (o : Option Cells) → in_nests (marked_on o (marked_accesses join more)) ≡ ranks_on o (ranks_of join more)
    on ih None = refl
    on ih (Some k) = ih k

-- the law
pub counts_ranks : (join : Joins) (trades : Trades join) (gathers : Gatherings) (u : Program) (m : Cells) (f : Frame) (last : Cells) → IsWellMade u → IsOrderly join gathers u m
    → source_run join u m ≡ Ended f last → CountsRanks join gathers u m
counts_ranks join trades gathers u m f last well_made orderly h =
    let w = source_context u in
    record {
      same = list_same join trades gathers w refl u.body (each_all (SameIn join trades gathers w refl) (same_accesses join trades gathers w refl) u.body) [] [] 0 (first_frame u) m f last
          (all_good join trades gathers u m well_made orderly) h;
      count = count_is join (course_of gathers u) m;
    }
