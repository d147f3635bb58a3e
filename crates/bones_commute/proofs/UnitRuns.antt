-- The run of an orderly unit is a run of its course in which each nest can be played.
use Rattle.std.proofs.Common.{◌≡◌, refl, ap, sym, ◌∙◌, subst, ℕ, suc, ◌-◌, List, [], ◌∷◌, ◌++◌, map, flat_map, length, ℤ, Bool, true, false, if◌then◌else◌}
use Rattle.std.proofs.lemmas.List.{append_assoc, length-map}
use Rattle.species_ast.specs.declared.tree.Mark.{Mark}
use Rattle.species_ast.specs.declared.tree.Mark.TheVariants.{Plain, Parallel}
use Rattle.species_ast.specs.declared.tree.Schedule.{Schedule}
use Rattle.species_ast.specs.declared.tree.Value.{Value}
use Rattle.species_ast.specs.declared.tree.Expr.{Expr}
use Rattle.species_ast.specs.declared.tree.Loop.{Loop, roll-Loop, out-Loop}
use Rattle.species_ast.specs.declared.tree.Stmt.{Stmt}
use Rattle.species_ast.specs.declared.tree.Stmt.TheVariants as stmt
use Rattle.species_ast.specs.declared.tree.Stmt.TheOpen.{Stmt-F, Loop-F}
use Rattle.species_ast.specs.declared.tree.Unit.{Unit as Program}
use Rattle.species_ast.specs.Marks.{all_true}
use Rattle.species_ast.specs.Operators.{is_true}
use Rattle.species_ast.specs.Scope.WellMade.{IsWellMade}
use Rattle.species_ast.specs.Accesses.{Joins, Cells, cell, Tree, Ret, Stop, Read, Write, Add, Outcome, Ended, Stopped, run}
use Rattle.species_ast.specs.Evaluation.{Frame, Context, sense}
use Rattle.species_ast.specs.Run.{Step, step_at, inside, outside, turns, cleared, declared_in, spot, step, loop_of, does_list, does_scope, source_context, source_run, first_frame, Takes}
use Rattle.species_ast.proofs.Induction.{Each, each_all, stmt_ind}
use Rattle.species_ast.proofs.IterationLaws.{Allowing}
use Rattle.species_ast.proofs.Paras.{beside, seconds, para_stmt-Assign, para_stmt-AddTo, para_stmt-Declare, para_stmt-SetLocal, para_stmt-If, para_stmt-For, para_stmt-Block, para_loop}
use Rattle.species_ast.proofs.RunLaws.{step-Assign, step-AddTo, step-Declare, step-SetLocal, step-If, step-For, step-Block, turns-append}
use Rattle.species_runs.specs.Scopes.{outer_locals_set}
use Rattle.species_runs.proofs.EveryLaws.{ended_parts, ended_then}
use Rattle.species_nests.specs.Arrivals.{header, turn_of, Running, Comes, here, in_turn, in_body, in_otherwise, in_block, ComesIn, first, later}
use Rattle.species_nests.specs.Effects.{adds_taken}
use Rattle.species_nests.specs.Meetings.{IsApart}
use Rattle.species_nests.specs.Nests.{headers, Nest, nest_of, frames, iterations, source_iterations, run_all, traces}
use Rattle.species_nests.proofs.ArrivalLaws.{loop_is_header, does_For, does_If, does_Block, branch, running}
use Rattle.species_nests.proofs.FitLaws.{RunningFits, running_fits}
use Rattle.species_nests.proofs.NestFits.{nest_fits, nest_quiet}
use Rattle.species_nests.proofs.NestLaws.{keeps_frames, nest_is, band_ran, loops_own, headers_are}
use Rattle.species_nests.proofs.StaysLaws.{iteration_does}
use Rattle.bones_meaning.specs.Gatherings.{Gatherings}
use Rattle.bones_meaning.specs.Courses.{Course, Over, Halt, Reading, Writing, Adding, Together, and_then, after, Coursing, course_list, course_scope, course_turns, sequential, by_mark, part_at, coursing_at, part, course_of}
use Rattle.bones_commute.specs.Orderly.{IsOrderlyRunning, IsOrderly, CanBePlayed, RunsTo}
use Rattle.bones_commute.specs.Trades.{Trades}

-- ---- one after another

-- what ended, and the arrays
abbrev pub value_in : {X : Type 0} → X → Outcome X → X
value_in d (Ended y m) = y
value_in d (Stopped why place) = d

abbrev pub cells_in : {X : Type 0} → Cells → Outcome X → Cells
cells_in m (Ended y n) = n
cells_in m (Stopped why place) = m

pub runs_after : {X Y : Type 0} (join : Joins) (t : Tree X) (next : X → Course Y) (m : Cells) (x : X) (k : Cells) (y : Y) (last : Cells)
    → run join t m ≡ Ended x k → RunsTo join (next x) k y last → RunsTo join (after t next) m y last
runs_after join (Ret z) next m x k y last h r =
    subst (λ n. RunsTo join (next z) n y last) (sym (ap (cells_in m) h)) (subst (λ v. RunsTo join (next v) k y last) (sym (ap (value_in z) h)) r)
runs_after join (Stop s why) next m x k y last h r = absurd cc
runs_after join (Read s e more) next m x k y last h r = runs_after join (more (cell m e)) next m x k y last h r
runs_after join (Write s e v more) next m x k y last h r = runs_after join more next _ x k y last h r
runs_after join (Add s e v more) next m x k y last h r = runs_after join more next _ x k y last h r

pub runs_then : {X Y : Type 0} (join : Joins) (c : Course X) (next : X → Course Y) (m : Cells) (x : X) (k : Cells) (y : Y) (last : Cells)
    → RunsTo join c m x k → RunsTo join (next x) k y last → RunsTo join (and_then c next) m y last
runs_then join (Over z) next m x k y last h r = subst (λ n. RunsTo join (next z) n y last) (sym h.1) (subst (λ v. RunsTo join (next v) k y last) (sym h.0) r)
runs_then join (Halt s why) next m x k y last h r = absurd h
runs_then join (Reading s e more) next m x k y last h r = runs_then join (more (cell m e)) next m x k y last h r
runs_then join (Writing s e v more) next m x k y last h r = runs_then join more next _ x k y last h r
runs_then join (Adding s e v more) next m x k y last h r = runs_then join more next _ x k y last h r
runs_then join (Together nest_join ts more) next m x k y last h r = (h.0, h.1, runs_then join more next h.0 x k y last h.2 r)

-- ---- a nest

-- all is allowed
abbrev pub IsOpen : Context → Type 0
IsOpen w = Allowing w ≡ w

pub same_iterations : (takes : Takes) (w : Context) → IsOpen w → (n : Nest) (fs : List Frame) → outer_locals_set n.body ≡ [] → all_true (map (adds_taken takes w) n.body) ≡ true
    → iterations takes w n fs ≡ source_iterations w n fs
same_iterations takes w open_ n fs locals adds =
    λ i. map (λ g. (iteration_does takes w n.body locals adds ∙ ap (λ c. does_scope c n.body) open_) i n.at 0 g) fs

-- what the parts of statements are
abbrev pub coursing : Gatherings → Context → Loop → Coursing
coursing gathers w l at f = after (header w l at f) (λ is. course_turns is (course_scope (map (part gathers w) (out-Loop l).body) at 0) f)

pub part-For : (gathers : Gatherings) (w : Context) (l : Loop-F Stmt Loop)
    → part gathers w (stmt.For (roll-Loop l)) ≡ record { declares = []; does = by_mark gathers w l.mark (roll-Loop l) (coursing gathers w (roll-Loop l)) }
part-For gathers w l =
    para_stmt-For (part_at gathers w) (coursing_at w) (roll-Loop l)
    ∙ (λ i. record { declares = []; does = by_mark gathers w l.mark (roll-Loop l) (para_loop (part_at gathers w) (coursing_at w) l i) })
    ∙ (λ i. record { declares = []; does = by_mark gathers w l.mark (roll-Loop l) (λ at f. after (header w (roll-Loop l) at f) (λ is. course_turns is (course_scope (seconds (part gathers w) l.body i) at 0) f)) })

pub part-If : (gathers : Gatherings) (w : Context) (place : ℕ) (test : Expr) (body otherwise : List Stmt) → part gathers w (stmt.If place test body otherwise) ≡ record {
  declares = [];
  does = λ at f. after ((sense w test).does (spot place at) 0 f) (λ v.
      if is_true v then course_scope (map (part gathers w) body) at 0 f else course_scope (map (part gathers w) otherwise) at (length body) f);
}
part-If gathers w place test body otherwise = para_stmt-If (part_at gathers w) (coursing_at w) place test body otherwise ∙ (λ i. record {
  declares = [];
  does = λ at f. after ((sense w test).does (spot place at) 0 f) (λ v.
      if is_true v then course_scope (seconds (part gathers w) body i) at 0 f else course_scope (seconds (part gathers w) otherwise i) at (length-map body (beside (part gathers w)) i) f);
})

pub part-Block : (gathers : Gatherings) (w : Context) (body : List Stmt) → part gathers w (stmt.Block body) ≡ record { declares = []; does = λ at. course_scope (map (part gathers w) body) at 0 }
part-Block gathers w body = para_stmt-Block (part_at gathers w) (coursing_at w) body ∙ (λ i. record { declares = []; does = λ at. course_scope (seconds (part gathers w) body i) at 0 })

module _ (join : Joins) (trades : Trades join) (gathers : Gatherings) (w : Context) (open_ : IsOpen w) where
  -- a running of a parallel nest that is orderly, and fits where it stands
  pub nest_runs : (d : ℕ) (r : Running) (g : Frame) (n : Cells) → IsOrderlyRunning join gathers w d r → RunningFits r → run join (running w r) r.arrays ≡ Ended g n
      → RunsTo join (after (headers w (nest_of d r.loop r.at).loops r.frame) (λ fs. Together (gathers r.at).join (iterations (gathers r.at).takes w (nest_of d r.loop r.at) fs) (Over r.frame))) r.arrays g n
  nest_runs d r g n orderly fits h =
      let nest = nest_of d r.loop r.at in
      let does = does_scope w nest.body nest.at 0 in
      let quiet = nest_quiet w d r fits in
      let keeps = keeps_frames w nest.body r.frame (nest_fits d r fits) orderly.locals nest.at in
      let ended = ap (λ t. run join t r.arrays) (sym (nest_is w d r.loop r.at r.frame)) ∙ h in
      let ran = band_ran join w nest.loops does quiet r.frame.locals keeps r.frame refl r.arrays g n ended in
      let own_are = loops_own join w nest.loops does quiet r.frame.locals keeps r.frame refl r.arrays g n ended in
      let given = headers_are join w nest.loops does quiet r.frame.locals keeps r.frame refl r.arrays g n ended in
      let same = same_iterations (gathers r.at).takes w open_ nest (frames w nest.loops r.frame) orderly.locals orderly.adds in
      let can : CanBePlayed join (iterations (gathers r.at).takes w nest (frames w nest.loops r.frame)) r.arrays n = record {
        trades = trades;
        runs = ap (λ ts. run_all join ts r.arrays) same ∙ ran.arrays;
        apart = subst IsApart (own_are ∙ ap (λ ts. traces join ts r.arrays) (sym same)) orderly.apart;
      } in
      subst (λ t. RunsTo join (after t (λ fs. Together (gathers r.at).join (iterations (gathers r.at).takes w nest fs) (Over r.frame))) r.arrays g n) (sym given)
      (n, subst (λ j. CanBePlayed j (iterations (gathers r.at).takes w nest (frames w nest.loops r.frame)) r.arrays n) (sym orderly.joins) can, (sym ran.frame, refl))

  -- ---- statements

  -- a running to which a run comes
  abbrev pub IsGood : ℕ → Running → Type 0
  IsGood d r = IsOrderlyRunning join gathers w d r × RunningFits r

  -- each running of a parallel nest to which these statements come is orderly
  abbrev pub OrderlyAt : Stmt → List Loop → List ℕ → Frame → Cells → Type 0
  OrderlyAt x around at f m = (r : Running) (depth : ℕ) (schedule : Schedule) → (out-Loop r.loop).mark ≡ Parallel depth schedule → Comes join w r x around at f m → IsGood (depth - 1) r

  abbrev pub OrderlyIn : List Stmt → List Loop → List ℕ → ℕ → Frame → Cells → Type 0
  OrderlyIn xs around at k f m = (r : Running) (depth : ℕ) (schedule : Schedule) → (out-Loop r.loop).mark ≡ Parallel depth schedule → ComesIn join w r xs around at k f m → IsGood (depth - 1) r

  -- where a statement's run ends, its course runs to the same end
  pub record PartRuns (x : Stmt) : Type 0 where
    pub declares : (part gathers w x).declares ≡ (step w x).declares
    pub runs : (around : List Loop) (at : List ℕ) (f : Frame) (m : Cells) (g : Frame) (n : Cells)
        → OrderlyAt x around at f m → run join ((step w x).does at f) m ≡ Ended g n → RunsTo join ((part gathers w x).does at f) m g n

  pub list_runs : (xs : List Stmt) → Each PartRuns xs → (around : List Loop) (at : List ℕ) (k : ℕ) (f : Frame) (m : Cells) (g : Frame) (n : Cells)
      → OrderlyIn xs around at k f m → run join (does_list w xs at k f) m ≡ Ended g n → RunsTo join (course_list (map (part gathers w) xs) at k f) m g n
  list_runs [] h around at k f m g n orderly is = (ap (value_in f) is, ap (cells_in m) is)
  list_runs (x ∷ xs) h around at k f m g n orderly is =
      let ended = ended_parts join ((step w x).does (at ++ k ∷ []) f) (does_list w xs at (suc k)) m g n is in
      runs_then join ((part gathers w x).does (at ++ k ∷ []) f) (course_list (map (part gathers w) xs) at (suc k)) m ended.0 ended.1 g n
      (h.0.runs around (at ++ k ∷ []) f m ended.0 ended.1 (λ r d s mark comes. orderly r d s mark (first x xs around at k f m comes)) ended.2)
      (list_runs xs h.1 around at (suc k) ended.0 ended.1 g n (λ r d s mark comes. orderly r d s mark (later x xs around at k f ended.0 m ended.1 ended.2 comes)) ended.3)

  same_declared : (xs : List Stmt) → Each PartRuns xs → flat_map (λ x. x.declares) (map (part gathers w) xs) ≡ declared_in (map (step w) xs)
  same_declared [] h = refl
  same_declared (x ∷ xs) h = λ i. h.0.declares i ++ same_declared xs h.1 i

  pub scope_runs : (xs : List Stmt) → Each PartRuns xs → (around : List Loop) (at : List ℕ) (k : ℕ) (f : Frame) (m : Cells) (g : Frame) (n : Cells)
      → OrderlyIn xs around at k f m → run join (does_scope w xs at k f) m ≡ Ended g n → RunsTo join (course_scope (map (part gathers w) xs) at k f) m g n
  scope_runs xs h around at k f m g n orderly is =
      let ended = ended_parts join (does_list w xs at k f) (λ g. Ret (cleared (declared_in (map (step w) xs)) g)) m g n is in
      runs_then join (course_list (map (part gathers w) xs) at k f) (λ g. Over (cleared (flat_map (λ x. x.declares) (map (part gathers w) xs)) g)) m ended.0 ended.1 g n
      (list_runs xs h around at k f m ended.0 ended.1 orderly ended.2)
      (ap (λ ds. cleared ds ended.0) (same_declared xs h) ∙ ap (value_in f) ended.3, ap (cells_in m) ended.3)

  -- the turns of a loop that are left, where those before have ended
  turns_run : (l : Loop) → Each PartRuns (out-Loop l).body → (around : List Loop) (at : List ℕ) (f : Frame) (m begun : Cells) (is before : List ℤ) (g : Frame) (k : Cells) (h : Frame) (n : Cells)
      → OrderlyAt (stmt.For l) around at f m → run join (header w l at f) m ≡ Ended (before ++ is) begun → run join (turns before (turn_of w l at) f) begun ≡ Ended g k
      → run join (turns is (turn_of w l at) g) k ≡ Ended h n → RunsTo join (course_turns is (course_scope (map (part gathers w) (out-Loop l).body) at 0) g) k h n
  turns_run l each around at f m begun [] before g k h n orderly head done rest = (ap (value_in g) rest, ap (cells_in k) rest)
  turns_run l each around at f m begun (i ∷ is) before g k h n orderly head done rest =
      let ended = ended_parts join (turn_of w l at (inside g i)) (λ p. turns is (turn_of w l at) (outside g p)) k h n rest in
      let now : run join (turns (before ++ i ∷ []) (turn_of w l at) f) begun ≡ Ended (outside g ended.0) ended.1 =
      ap (λ t. run join t begun) (turns-append before (i ∷ []) (turn_of w l at) f)
      ∙ ended_then join (turns before (turn_of w l at) f) (turns (i ∷ []) (turn_of w l at)) begun g k done
      ∙ ended_then join (turn_of w l at (inside g i)) (λ p. Ret (outside g p)) k ended.0 ended.1 ended.2
      in
      runs_then join (course_scope (map (part gathers w) (out-Loop l).body) at 0 (inside g i)) (λ p. course_turns is (course_scope (map (part gathers w) (out-Loop l).body) at 0) (outside g p)) k ended.0 ended.1 h n
      (scope_runs (out-Loop l).body each (around ++ l ∷ []) at 0 (inside g i) k ended.0 ended.1
      (λ r d s mark comes. orderly r d s mark (in_turn l around at f g m begun k before i is head done comes)) ended.2)
      (turns_run l each around at f m begun is (before ++ i ∷ []) (outside g ended.0) ended.1 h n orderly
      (head ∙ ap (λ xs. Ended xs begun) (sym (append_assoc before (i ∷ []) is))) now ended.3)

  -- ---- the law

  leaf : (x : Stmt) (s : Step) → part gathers w x ≡ sequential s → step w x ≡ s → PartRuns x
  leaf x s p q = record {
    declares = ap (λ c. c.declares) p ∙ ap (λ t. t.declares) (sym q);
    runs = λ around at f m g n orderly h.
        subst (λ c. RunsTo join (c.does at f) m g n) (sym p) (runs_after join (s.does at f) (λ k. Over k) m g n g n (ap (λ t. run join (t.does at f) m) (sym q) ∙ h) (refl, refl));
  }

  -- a loop by its mark
  loop_runs : (l : Loop-F Stmt Loop) → Each PartRuns l.body → (mark : Mark) → l.mark ≡ mark
      → (around : List Loop) (at : List ℕ) (f : Frame) (m : Cells) (g : Frame) (n : Cells)
      → OrderlyAt (stmt.For (roll-Loop l)) around at f m → run join (loop_of w (roll-Loop l) at f) m ≡ Ended g n
      → RunsTo join (by_mark gathers w mark (roll-Loop l) (coursing gathers w (roll-Loop l)) at f) m g n
  loop_runs l each Plain is around at f m g n orderly h =
      let loop = roll-Loop l in
      let ended = ended_parts join (header w loop at f) (λ is. turns is (turn_of w loop at) f) m g n (ap (λ t. run join t m) (sym (loop_is_header w loop at f)) ∙ h) in
      runs_after join (header w loop at f) (λ is. course_turns is (course_scope (map (part gathers w) l.body) at 0) f) m ended.0 ended.1 g n ended.2
      (turns_run loop each around at f m ended.1 ended.0 [] f ended.1 g n orderly ended.2 refl ended.3)
  loop_runs l each (Parallel depth schedule) is around at f m g n orderly h =
      let r : Running = record { loop = roll-Loop l; around = around; at = at; frame = f; arrays = m } in
      let good = orderly r depth schedule is here in
      nest_runs (depth - 1) r g n good.0 good.1 h

  branch_runs : (place : ℕ) (test : Expr) (body otherwise : List Stmt) → Each PartRuns body → Each PartRuns otherwise
      → (around : List Loop) (at : List ℕ) (f : Frame) (m : Cells) (v : Value) (k : Cells) (g : Frame) (n : Cells) → OrderlyAt (stmt.If place test body otherwise) around at f m
      → run join ((sense w test).does (spot place at) 0 f) m ≡ Ended v k → (b : Bool) → is_true v ≡ b
      → run join (if b then does_scope w body at 0 f else does_scope w otherwise at (length body) f) k ≡ Ended g n
      → RunsTo join (if b then course_scope (map (part gathers w) body) at 0 f else course_scope (map (part gathers w) otherwise) at (length body) f) k g n
  branch_runs place test body otherwise p q around at f m v k g n orderly is true taken h =
      scope_runs body p around at 0 f k g n (λ r d s mark comes. orderly r d s mark (in_body place test body otherwise around at f m k v is taken comes)) h
  branch_runs place test body otherwise p q around at f m v k g n orderly is false taken h =
      scope_runs otherwise q around at (length body) f k g n (λ r d s mark comes. orderly r d s mark (in_otherwise place test body otherwise around at f m k v is taken comes)) h

  pub part_runs : (x : Stmt) → PartRuns x
  part_runs = stmt_ind PartRuns (record {
    assign = λ place a subs value. leaf (stmt.Assign place a subs value) (step_at w (Stmt-F.Assign place a subs value)) (para_stmt-Assign (part_at gathers w) (coursing_at w) place a subs value) (step-Assign w place a subs value);
    add_to = λ place a subs value atomic.
        leaf (stmt.AddTo place a subs value atomic) (step_at w (Stmt-F.AddTo place a subs value atomic)) (para_stmt-AddTo (part_at gathers w) (coursing_at w) place a subs value atomic) (step-AddTo w place a subs value atomic);
    declare = λ place x init. leaf (stmt.Declare place x init) (step_at w (Stmt-F.Declare place x init)) (para_stmt-Declare (part_at gathers w) (coursing_at w) place x init) (step-Declare w place x init);
    set_local = λ place x value. leaf (stmt.SetLocal place x value) (step_at w (Stmt-F.SetLocal place x value)) (para_stmt-SetLocal (part_at gathers w) (coursing_at w) place x value) (step-SetLocal w place x value);
    choice = λ place test body otherwise p q. record {
      declares = ap (λ c. c.declares) (part-If gathers w place test body otherwise) ∙ ap (λ t. t.declares) (sym (step-If w place test body otherwise));
      runs = λ around at f m g n orderly h.
          let ended = ended_parts join ((sense w test).does (spot place at) 0 f) (branch w body otherwise at f) m g n (ap (λ t. run join t m) (sym (does_If w place test body otherwise at f)) ∙ h) in
          subst (λ c. RunsTo join (c.does at f) m g n) (sym (part-If gathers w place test body otherwise))
          (runs_after join ((sense w test).does (spot place at) 0 f) (λ v. if is_true v then course_scope (map (part gathers w) body) at 0 f else course_scope (map (part gathers w) otherwise) at (length body) f) m ended.0 ended.1 g n ended.2
          (branch_runs place test body otherwise p q around at f m ended.0 ended.1 g n orderly ended.2 (is_true ended.0) refl ended.3));
    };
    loop = λ l p. record {
      declares = ap (λ c. c.declares) (part-For gathers w l) ∙ ap (λ t. t.declares) (sym (step-For w (roll-Loop l)));
      runs = λ around at f m g n orderly h.
          subst (λ c. RunsTo join (c.does at f) m g n) (sym (part-For gathers w l))
          (loop_runs l p l.mark refl around at f m g n orderly (ap (λ t. run join t m) (sym (does_For w (roll-Loop l) at f)) ∙ h));
    };
    block = λ body p. record {
      declares = ap (λ c. c.declares) (part-Block gathers w body) ∙ ap (λ t. t.declares) (sym (step-Block w body));
      runs = λ around at f m g n orderly h.
          subst (λ c. RunsTo join (c.does at f) m g n) (sym (part-Block gathers w body))
          (scope_runs body p around at 0 f m g n (λ r d s mark comes. orderly r d s mark (in_block body around at f m comes)) (ap (λ t. run join t m) (sym (does_Block w body at f)) ∙ h));
    };
  })

module _ (join : Joins) (trades : Trades join) (gathers : Gatherings) (u : Program) (m : Cells) (well_made : IsWellMade u) (orderly : IsOrderly join gathers u m) where
  -- each running of a parallel nest of an orderly unit is orderly, and fits
  pub all_good : OrderlyIn join trades gathers (source_context u) refl u.body [] [] 0 (first_frame u) m
  all_good r d s mark comes = (orderly.nests r d s mark comes, running_fits join u m r well_made comes)

  -- the law
  pub orderly_runs : (f : Frame) (last : Cells) → source_run join u m ≡ Ended f last → RunsTo join (course_of gathers u) m f last
  orderly_runs f last h =
      list_runs join trades gathers (source_context u) refl u.body (each_all (PartRuns join trades gathers (source_context u) refl) (part_runs join trades gathers (source_context u) refl) u.body) [] [] 0 (first_frame u) m f last all_good h
