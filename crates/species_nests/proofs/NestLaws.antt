-- Laws of nests: a nest is its loops around its body, and its run is that of its iterations, one after another.
use Rattle.std.proofs.Common.{◌≡◌, refl, ap, sym, ◌∙◌, subst, ℕ, zero, suc, List, [], ◌∷◌, ◌++◌, map, flat_map, ℤ, Option, Some, None}
use Rattle.std.specs.Prelude.{option_map, unwrap_or}
use Rattle.species_ast.specs.declared.tree.Value.{Value}
use Rattle.std.proofs.lemmas.List.{append-nil, append_assoc, map-append}
use Rattle.species_ast.specs.declared.tree.Expr.{Expr}
use Rattle.species_ast.specs.declared.tree.Loop.{Loop, roll-Loop, out-Loop}
use Rattle.species_ast.specs.declared.tree.Stmt.{Stmt}
use Rattle.species_ast.specs.declared.tree.Stmt.TheVariants as stmt
use Rattle.species_ast.specs.declared.tree.Stmt.TheOpen.{Loop-F}
use Rattle.species_ast.specs.Accesses.{Joins, Cells, cell, Tree, Ret, Stop, Read, Write, Add, then_do, Outcome, Ended, Stopped, run, Access, accesses}
use Rattle.species_ast.specs.Evaluation.{Frame, Context, local_of}
use Rattle.species_ast.proofs.Paras.{seconds, para_stmt-Assign, para_stmt-AddTo, para_stmt-Declare, para_stmt-SetLocal, para_stmt-If, para_stmt-For, para_stmt-Block, para_loop}
use Rattle.species_ast.specs.Run.{Step, inside, outside, turns, does_scope, scope_of, cleared, step, loop_of}
use Rattle.species_ast.proofs.AccessLaws.{then_do-Ret}
use Rattle.species_ast.proofs.Induction.{Each, each_all, stmt_ind}
use Rattle.species_ast.proofs.RunLaws.{step-For, step-Block}
use Rattle.species_nests.specs.Arrivals.{header}
use Rattle.species_nests.specs.Nests.{headers, frames_in, loops_at, loops_of, loops_in, Placed, only_of, sole_at, sole, only, Nest, nest_in, nest_of, at_once, frames, arrays_of, then_all, run_all, then_traces, traces, band, around_body}
use Rattle.species_nests.specs.Meetings.{Ran, on_ended, in_turns, in_loops}
use Rattle.species_nests.proofs.ArrivalLaws.{loop_is_header, does_For, does_Block}
use Rattle.species_runs.specs.Every.{Anything, Gives, IsQuiet}
use Rattle.species_runs.specs.Scopes.{outer_locals_set, FitIn}
use Rattle.species_runs.proofs.EveryLaws.{every_ended, ended_parts, accesses_then}
use Rattle.species_runs.proofs.FrameLaws.{scope_keeps}
use Rattle.species_nests.specs.Effects.{HasQuietHeader}

-- ---- the loops of a nest, around its body

-- the statement declares nothing, and does what the loop does that it is
pub record IsLoop (w : Context) (x : Stmt) (at : List ℕ) (p : Placed) : Type 0 where
  pub declares : (step w x).declares ≡ []
  pub does : (f : Frame) → (step w x).does at f ≡ loop_of w p.loop p.at f

abbrev SoleIs : Context → Stmt → Type 0
SoleIs w x = (at : List ℕ) (p : Placed) → sole x at ≡ Some p → IsLoop w x at p

scope_of_one : (s : Step) (at : List ℕ) (f : Frame) → s.declares ≡ [] → scope_of (s ∷ []) at 0 f ≡ s.does (at ++ 0 ∷ []) f
scope_of_one s at f h =
    (λ i. then_do (then_do-Ret (s.does (at ++ 0 ∷ []) f) i) (λ g. Ret (cleared (append-nil s.declares i) g)))
    ∙ (λ i. then_do (s.does (at ++ 0 ∷ []) f) (λ g. Ret (cleared (h i) g)))
    ∙ then_do-Ret (s.does (at ++ 0 ∷ []) f)

pub not_some : (o : List ℕ → Option Placed) (at : List ℕ) (p : Placed) → o ≡ (λ at. None) → o at ≡ Some p → ⊥
not_some o at p h is = let e = ap (λ k. k at) (sym h) ∙ is in absurd cc

only_is : (w : Context) (ss : List Stmt) → Each (SoleIs w) ss → (at : List ℕ) (p : Placed) → only ss at ≡ Some p → (f : Frame) → does_scope w ss at 0 f ≡ loop_of w p.loop p.at f
only_is w [] h at p is f = absurd cc
only_is w (x ∷ []) h at p is f =
    let one = h.0 (at ++ 0 ∷ []) p is in
    scope_of_one (step w x) at f one.declares ∙ one.does f
only_is w (x ∷ y ∷ ss) h at p is f = absurd cc

-- what a statement's sole loop is in a fold that sees the children
abbrev pub no_loops : Loop-F (Stmt × (List ℕ → Option Placed)) (Loop × Unit {0}) → Unit {0}
no_loops l = tt

pub sole-For : (l : Loop) → sole (stmt.For l) ≡ (λ at. Some (record { loop = l; at = at }))
sole-For l = para_stmt-For sole_at no_loops l

pub sole-Block : (body : List Stmt) → sole (stmt.Block body) ≡ only body
sole-Block body = para_stmt-Block sole_at no_loops body ∙ ap only_of (seconds sole body)

pub sole_is : (w : Context) (x : Stmt) → SoleIs w x
sole_is w = stmt_ind (SoleIs w) (record {
  assign = λ place a subs value at p is. absurd (not_some _ at p (para_stmt-Assign sole_at no_loops place a subs value) is);
  add_to = λ place a subs value atomic at p is. absurd (not_some _ at p (para_stmt-AddTo sole_at no_loops place a subs value atomic) is);
  declare = λ place x init at p is. absurd (not_some _ at p (para_stmt-Declare sole_at no_loops place x init) is);
  set_local = λ place x value at p is. absurd (not_some _ at p (para_stmt-SetLocal sole_at no_loops place x value) is);
  choice = λ place test body otherwise h k at p is. absurd (not_some _ at p (para_stmt-If sole_at no_loops place test body otherwise) is);
  loop = λ l h at p is.
      let same : Some (record { loop = roll-Loop l; at = at }) ≡ Some p = ap (λ s. s at) (sym (sole-For (roll-Loop l))) ∙ is in
      let it : record { loop = roll-Loop l; at = at } ≡ p = cc in
      subst (IsLoop w (stmt.For (roll-Loop l)) at) it (record { declares = ap (λ s. s.declares) (step-For w (roll-Loop l)); does = λ f. does_For w (roll-Loop l) at f });
  block = λ body h at p is.
      record {
        declares = ap (λ s. s.declares) (step-Block w body);
        does = λ f. does_Block w body at f ∙ only_is w body h at p (ap (λ s. s at) (sym (sole-Block body)) ∙ is) f;
      };
})

abbrev pub under : ℕ → List Stmt → List ℕ → Option Placed → Nest
under d body at o = unwrap_or
    (option_map (λ l. let n = nest_in d (out-Loop l.loop).body l.at in record n { loops = l ∷ n.loops }) o)
    (record { loops = []; body = body; at = at })

pub nest_in_is : (w : Context) (d : ℕ) (body : List Stmt) (at : List ℕ) (f : Frame) → does_scope w body at 0 f ≡ around_body w (nest_in d body at) f
nest_in_is w zero body at f = refl
nest_in_is w (suc d) body at f = go (λ body at f. nest_in_is w d body at f) (only body at) refl
  where
    go : ((body : List Stmt) (at : List ℕ) (f : Frame) → does_scope w body at 0 f ≡ around_body w (nest_in d body at) f)
        → (o : Option Placed) → only body at ≡ o → does_scope w body at 0 f ≡ around_body w (under d body at o) f
    go ih None is = refl
    go ih (Some p) is =
        only_is w body (each_all (SoleIs w) (sole_is w) body) at p is f ∙ loop_is_header w p.loop p.at f
        ∙ (λ i. then_do (header w p.loop p.at f) (λ is. turns is (λ g. ih (out-Loop p.loop).body p.at g i) f))

-- a loop is the loops of its nest around the body of the nest
pub nest_is : (w : Context) (d : ℕ) (l : Loop) (at : List ℕ) (f : Frame) → loop_of w l at f ≡ around_body w (nest_of d l at) f
nest_is w d l at f = loop_is_header w l at f ∙ (λ i. then_do (header w l at f) (λ is. turns is (λ g. nest_in_is w d (out-Loop l).body at g i) f))

-- ---- the run of a nest

pub quiet_ended : (join : Joins) → {X : Type 0} (d : X) (t : Tree X) (m : Cells) (x : X) (n : Cells) → IsQuiet t → run join t m ≡ Ended x n → (at_once d t ≡ x) × (m ≡ n) × (accesses join t m ≡ [])
quiet_ended join d (Ret y) m x n q h = (ap (value d) h, ap (cells m) h, refl)
  where
    value : {X : Type 0} → X → Outcome X → X
    value d (Ended y m) = y
    value d (Stopped why place) = d

    cells : {X : Type 0} → Cells → Outcome X → Cells
    cells m (Ended y n) = n
    cells m (Stopped why place) = m
quiet_ended join d (Stop s why) m x n q h = absurd cc
quiet_ended join d (Read s e more) m x n q h = absurd (q (cell m e)).0
quiet_ended join d (Write s e v more) m x n q h = absurd q.0
quiet_ended join d (Add s e v more) m x n q h = absurd q.0

pub run_all-append : (join : Joins) → {X : Type 0} (xs ys : List (Tree X)) (m k : Cells) → run_all join xs m ≡ Some k → run_all join (xs ++ ys) m ≡ run_all join ys k
run_all-append join [] ys m k h = ap (λ o. then_all o (run_all join ys)) h
run_all-append join (x ∷ xs) ys m k h = go (λ n e. run_all-append join xs ys n k e) (arrays_of (run join x m)) h
  where
    go : ((n : Cells) → run_all join xs n ≡ Some k → run_all join (xs ++ ys) n ≡ run_all join ys k) → (o : Option Cells) → then_all o (run_all join xs) ≡ Some k
        → then_all o (run_all join (xs ++ ys)) ≡ run_all join ys k
    go ih None e = absurd cc
    go ih (Some n) e = ih n e

pub traces-append : (join : Joins) → {X : Type 0} (xs ys : List (Tree X)) (m k : Cells) → run_all join xs m ≡ Some k → traces join (xs ++ ys) m ≡ traces join xs m ++ traces join ys k
traces-append join [] ys m k h = ap (λ o. then_traces o (traces join ys)) h
traces-append join (x ∷ xs) ys m k h = go (λ n e. traces-append join xs ys n k e) (arrays_of (run join x m)) h
  where
    go : ((n : Cells) → run_all join xs n ≡ Some k → traces join (xs ++ ys) n ≡ traces join xs n ++ traces join ys k) → (o : Option Cells) → then_all o (run_all join xs) ≡ Some k
        → accesses join x m ∷ then_traces o (traces join (xs ++ ys)) ≡ (accesses join x m ∷ then_traces o (traces join xs)) ++ traces join ys k
    go ih None e = absurd cc
    go ih (Some n) e = ap (λ l. accesses join x m ∷ l) (ih n e)

abbrev pub joined : List (List Access) → List Access
joined xss = flat_map (λ xs. xs) xss

joined-append : (xss yss : List (List Access)) → joined (xss ++ yss) ≡ joined xss ++ joined yss
joined-append [] yss = refl
joined-append (xs ∷ xss) yss = ap (λ l. xs ++ l) (joined-append xss yss) ∙ sym (append_assoc xs (joined xss) (joined yss))

-- what ran ended in its own frame, and ran as these trees, one after another
pub record RanAs (join : Joins) (t : Tree Frame) (ts : List (Tree Frame)) (f : Frame) (m : Cells) (g : Frame) (n : Cells) : Type 0 where
  pub frame : g ≡ f
  pub arrays : run_all join ts m ≡ Some n
  pub same_accesses : accesses join t m ≡ joined (traces join ts m)

-- from each frame with these locals
abbrev pub KeepsFrames : List (Option Value) → (Frame → Tree Frame) → Type 0
KeepsFrames vs does = (f : Frame) → f.locals ≡ vs → Gives (λ g. g ≡ f) (does f)

-- a body that fits where it stands, and sets no local of the outside, keeps the frame
pub keeps_frames : (w : Context) (body : List Stmt) (f : Frame) → FitIn body f → outer_locals_set body ≡ [] → (at : List ℕ) → KeepsFrames f.locals (does_scope w body at 0)
keeps_frames w body f fit none at g same =
    scope_keeps w body fit.around fit.holds fit.apart none at 0 g (λ x out. ap (λ vs. local_of (record g { locals = vs }) x) same ∙ fit.only x out)

turns_ran : (join : Joins) (w : Context) (ls : List Placed) (does : Frame → Tree Frame) (vs : List (Option Value)) (is : List ℤ) (f : Frame) → f.locals ≡ vs → (m : Cells) (g : Frame) (n : Cells)
    → ((f : Frame) → f.locals ≡ vs → (m : Cells) (g : Frame) (n : Cells) → run join (band w ls does f) m ≡ Ended g n → RanAs join (band w ls does f) (map does (frames w ls f)) f m g n)
    → run join (turns is (band w ls does) f) m ≡ Ended g n
    → RanAs join (turns is (band w ls does) f) (map does (flat_map (λ i. frames w ls (inside f i)) is)) f m g n
turns_ran join w ls does vs [] f same m g n ih h = record { frame = ap (frame_of f) (sym h); arrays = ap arrays_of h; same_accesses = refl }
  where
    frame_of : Frame → Outcome Frame → Frame
    frame_of f (Ended g n) = g
    frame_of f (Stopped why place) = f
turns_ran join w ls does vs (i ∷ is) f same m g n ih h =
    let parts = ended_parts join (band w ls does (inside f i)) (λ k. turns is (band w ls does) (outside f k)) m g n h in
    let one = ih (inside f i) same m parts.0 parts.1 parts.2 in
    let back : outside f parts.0 ≡ f = ap (outside f) one.frame in
    let rest = turns_ran join w ls does vs is f same parts.1 g n ih (subst (λ k. run join (turns is (band w ls does) k) parts.1 ≡ Ended g n) back parts.3) in
    let here = map does (frames w ls (inside f i)) in
    let later = map does (flat_map (λ i. frames w ls (inside f i)) is) in
    let split : map does (flat_map (λ i. frames w ls (inside f i)) (i ∷ is)) ≡ here ++ later = map-append does (frames w ls (inside f i)) (flat_map (λ i. frames w ls (inside f i)) is) in
    record {
      frame = rest.frame;
      arrays = ap (λ ts. run_all join ts m) split ∙ run_all-append join here later m parts.1 one.arrays ∙ rest.arrays;
      same_accesses =
          accesses_then join (band w ls does (inside f i)) (λ k. turns is (band w ls does) (outside f k)) m parts.0 parts.1 parts.2
          ∙ ap (λ k. accesses join (band w ls does (inside f i)) m ++ accesses join (turns is (band w ls does) k) parts.1) back
          ∙ (λ j. one.same_accesses j ++ rest.same_accesses j)
          ∙ sym (joined-append (traces join here m) (traces join later parts.1))
          ∙ ap joined (sym (traces-append join here later m parts.1 one.arrays))
          ∙ ap (λ ts. joined (traces join ts m)) (sym split);
    }

-- The law: loops whose headers read no array, around what keeps the frame, run as their iterations, one after another.
pub band_ran : (join : Joins) (w : Context) (ls : List Placed) (does : Frame → Tree Frame) → Each (λ l. HasQuietHeader w l.loop) ls → (vs : List (Option Value)) → KeepsFrames vs does
    → (f : Frame) → f.locals ≡ vs → (m : Cells) (g : Frame) (n : Cells) → run join (band w ls does f) m ≡ Ended g n → RanAs join (band w ls does f) (map does (frames w ls f)) f m g n
band_ran join w [] does quiet vs keeps f same m g n h = record {
  frame = every_ended join Anything (λ g. g ≡ f) (does f) m g n (keeps f same) h;
  arrays = ap (λ o. then_all (arrays_of o) (λ k. Some k)) h;
  same_accesses = sym (ap (λ l. accesses join (does f) m ++ l) (ap (λ o. joined (then_traces (arrays_of o) (λ k. []))) h) ∙ append-nil (accesses join (does f) m));
}
band_ran join w (l ∷ ls) does quiet vs keeps f of_f m g n h =
    let parts = ended_parts join (header w l.loop l.at f) (λ is. turns is (band w ls does) f) m g n h in
    let still = quiet_ended join [] (header w l.loop l.at f) m parts.0 parts.1 (quiet.0 l.at f) parts.2 in
    let of = turns_ran join w ls does vs parts.0 f of_f parts.1 g n (λ f s m g n e. band_ran join w ls does quiet.1 vs keeps f s m g n e) parts.3 in
    let same : map does (flat_map (λ i. frames w ls (inside f i)) parts.0) ≡ map does (frames w (l ∷ ls) f) =
    ap (λ is. map does (flat_map (λ i. frames w ls (inside f i)) is)) (sym still.0) in
    record {
      frame = of.frame;
      arrays = (λ i. run_all join (sym same i) (still.1 i)) ∙ of.arrays;
      same_accesses =
          accesses_then join (header w l.loop l.at f) (λ is. turns is (band w ls does) f) m parts.0 parts.1 parts.2
          ∙ ap (λ xs. xs ++ accesses join (turns parts.0 (band w ls does) f) parts.1) still.2
          ∙ of.same_accesses
          ∙ (λ i. joined (traces join (same i) (sym still.1 i)));
    }

-- ---- the headers give the frames of the iterations

quiet_ret : (join : Joins) → {X : Type 0} (t : Tree X) (m : Cells) (x : X) (n : Cells) → IsQuiet t → run join t m ≡ Ended x n → t ≡ Ret x
quiet_ret join (Ret y) m x n q h = let same : y ≡ x = cc in ap (λ z. Ret z) same
quiet_ret join (Stop s why) m x n q h = absurd cc
quiet_ret join (Read s e more) m x n q h = absurd (q (cell m e)).0
quiet_ret join (Write s e v more) m x n q h = absurd q.0
quiet_ret join (Add s e v more) m x n q h = absurd q.0

frames_given : (join : Joins) (w : Context) (ls : List Placed) (does : Frame → Tree Frame) → Each (λ l. HasQuietHeader w l.loop) ls → (vs : List (Option Value)) → KeepsFrames vs does
    → ((f : Frame) → f.locals ≡ vs → (m : Cells) (g : Frame) (n : Cells) → run join (band w ls does f) m ≡ Ended g n → headers w ls f ≡ Ret (frames w ls f))
    → (is : List ℤ) (f : Frame) → f.locals ≡ vs → (m : Cells) (g : Frame) (n : Cells) → run join (turns is (band w ls does) f) m ≡ Ended g n
    → frames_in (headers w ls) is f ≡ Ret (flat_map (λ i. frames w ls (inside f i)) is)
frames_given join w ls does quiet vs keeps ih [] f same m g n h = refl
frames_given join w ls does quiet vs keeps ih (i ∷ is) f same m g n h =
    let parts = ended_parts join (band w ls does (inside f i)) (λ k. turns is (band w ls does) (outside f k)) m g n h in
    let one = band_ran join w ls does quiet vs keeps (inside f i) same m parts.0 parts.1 parts.2 in
    let back : outside f parts.0 ≡ f = ap (outside f) one.frame in
    let rest = frames_given join w ls does quiet vs keeps ih is f same parts.1 g n (subst (λ k. run join (turns is (band w ls does) k) parts.1 ≡ Ended g n) back parts.3) in
    (λ j. then_do (ih (inside f i) same m parts.0 parts.1 parts.2 j) (λ gs. then_do (rest j) (λ hs. Ret (gs ++ hs))))

pub headers_are : (join : Joins) (w : Context) (ls : List Placed) (does : Frame → Tree Frame) → Each (λ l. HasQuietHeader w l.loop) ls → (vs : List (Option Value)) → KeepsFrames vs does
    → (f : Frame) → f.locals ≡ vs → (m : Cells) (g : Frame) (n : Cells) → run join (band w ls does f) m ≡ Ended g n → headers w ls f ≡ Ret (frames w ls f)
headers_are join w [] does quiet vs keeps f same m g n h = refl
headers_are join w (l ∷ ls) does quiet vs keeps f same m g n h =
    let parts = ended_parts join (header w l.loop l.at f) (λ is. turns is (band w ls does) f) m g n h in
    let is = quiet_ret join (header w l.loop l.at f) m parts.0 parts.1 (quiet.0 l.at f) parts.2 in
    (λ i. then_do (is i) (λ is. frames_in (headers w ls) is f))
    ∙ frames_given join w ls does quiet.1 vs keeps (λ f s m g n e. headers_are join w ls does quiet.1 vs keeps f s m g n e) parts.0 f same parts.1 g n parts.3
    ∙ (λ i. Ret (flat_map (λ i. frames w ls (inside f i)) (at_once [] (sym is i))))

-- ---- the accesses of the iterations as they run

abbrev pub own : List Ran → List (List Access)
own rs = map (λ r. r.accesses) rs

turns_own : (join : Joins) (w : Context) (ls : List Placed) (does : Frame → Tree Frame) → Each (λ l. HasQuietHeader w l.loop) ls → (vs : List (Option Value)) → KeepsFrames vs does
    → ((f : Frame) → f.locals ≡ vs → (m : Cells) (g : Frame) (n : Cells) → run join (band w ls does f) m ≡ Ended g n → own (in_loops join w ls does f m) ≡ traces join (map does (frames w ls f)) m)
    → (is : List ℤ) (f : Frame) → f.locals ≡ vs → (m : Cells) (g : Frame) (n : Cells) → run join (turns is (band w ls does) f) m ≡ Ended g n
    → own (in_turns join (in_loops join w ls does) (band w ls does) is f m) ≡ traces join (map does (flat_map (λ i. frames w ls (inside f i)) is)) m
turns_own join w ls does quiet vs keeps ih [] f same m g n h = refl
turns_own join w ls does quiet vs keeps ih (i ∷ is) f same m g n h =
    let parts = ended_parts join (band w ls does (inside f i)) (λ k. turns is (band w ls does) (outside f k)) m g n h in
    let one = band_ran join w ls does quiet vs keeps (inside f i) same m parts.0 parts.1 parts.2 in
    let back : outside f parts.0 ≡ f = ap (outside f) one.frame in
    let rest = turns_own join w ls does quiet vs keeps ih is f same parts.1 g n (subst (λ k. run join (turns is (band w ls does) k) parts.1 ≡ Ended g n) back parts.3) in
    let here = map does (frames w ls (inside f i)) in
    let later = map does (flat_map (λ i. frames w ls (inside f i)) is) in
    map-append (λ (r : Ran). r.accesses) (in_loops join w ls does (inside f i) m) (on_ended (run join (band w ls does (inside f i)) m) (λ k c. in_turns join (in_loops join w ls does) (band w ls does) is (outside f k) c))
    ∙ (λ j. ih (inside f i) same m parts.0 parts.1 parts.2 j ++ own (on_ended (parts.2 j) (λ k c. in_turns join (in_loops join w ls does) (band w ls does) is (outside f k) c)))
    ∙ ap (λ k. traces join here m ++ own (in_turns join (in_loops join w ls does) (band w ls does) is k parts.1)) back
    ∙ ap (λ xs. traces join here m ++ xs) rest
    ∙ sym (traces-append join here later m parts.1 one.arrays)
    ∙ ap (λ ts. traces join ts m) (sym (map-append does (frames w ls (inside f i)) (flat_map (λ i. frames w ls (inside f i)) is)))

-- they are those of the iterations, one after another
pub loops_own : (join : Joins) (w : Context) (ls : List Placed) (does : Frame → Tree Frame) → Each (λ l. HasQuietHeader w l.loop) ls → (vs : List (Option Value)) → KeepsFrames vs does
    → (f : Frame) → f.locals ≡ vs → (m : Cells) (g : Frame) (n : Cells) → run join (band w ls does f) m ≡ Ended g n → own (in_loops join w ls does f m) ≡ traces join (map does (frames w ls f)) m
loops_own join w [] does quiet vs keeps f same m g n h = ap (λ o. accesses join (does f) m ∷ then_traces (arrays_of o) (λ k. [])) (sym h)
loops_own join w (l ∷ ls) does quiet vs keeps f same m g n h =
    let parts = ended_parts join (header w l.loop l.at f) (λ is. turns is (band w ls does) f) m g n h in
    let still = quiet_ended join [] (header w l.loop l.at f) m parts.0 parts.1 (quiet.0 l.at f) parts.2 in
    (λ i. own (on_ended (parts.2 i) (λ is n. in_turns join (in_loops join w ls does) (band w ls does) is f n)))
    ∙ turns_own join w ls does quiet.1 vs keeps (λ f s m g n e. loops_own join w ls does quiet.1 vs keeps f s m g n e) parts.0 f same parts.1 g n parts.3
    ∙ (λ i. traces join (map does (flat_map (λ i. frames w ls (inside f i)) (sym still.0 i))) (sym still.1 i))

-- ---- the loops of a nest are loops of the text

pub each-append : {X : Type 0} (P : X → Type 0) (xs ys : List X) → Each P (xs ++ ys) → Each P xs × Each P ys
each-append P [] ys h = (tt, h)
each-append P (x ∷ xs) ys h = let rest = each-append P xs ys h.1 in ((h.0, rest.0), rest.1)

-- P holds of all loops in these statements
abbrev pub OfLoops : (Loop → Type 0) → List Stmt → Type 0
OfLoops P ss = Each P (loops_in ss)

abbrev pub body_loops : Loop-F (Stmt × List Loop) (Loop × List Loop) → List Loop
body_loops l = flat_map (λ x. x.1) l.body

flat_second : {X Y : Type 0} (f : X → List Y) (xs : List X) → flat_map (λ (p : X × List Y). p.1) (map (λ x. (x, f x)) xs) ≡ flat_map f xs
flat_second f [] = refl
flat_second f (x ∷ xs) = ap (λ l. f x ++ l) (flat_second f xs)

pub loops-Block : (body : List Stmt) → loops_of (stmt.Block body) ≡ loops_in body
loops-Block body = para_stmt-Block loops_at body_loops body ∙ flat_second loops_of body

pub loops-If : (place : ℕ) (test : Expr) (body otherwise : List Stmt) → loops_of (stmt.If place test body otherwise) ≡ loops_in body ++ loops_in otherwise
loops-If place test body otherwise =
    para_stmt-If loops_at body_loops place test body otherwise ∙ (λ i. flat_second loops_of body i ++ flat_second loops_of otherwise i)

pub loops-For : (l : Loop-F Stmt Loop) → loops_of (stmt.For (roll-Loop l)) ≡ roll-Loop l ∷ loops_in l.body
loops-For l = para_stmt-For loops_at body_loops (roll-Loop l) ∙ ap (λ ls. roll-Loop l ∷ ls) (para_loop loops_at body_loops l ∙ flat_second loops_of l.body)

-- the sole loop of a statement, and the loops in its body
abbrev SoleHas : (Loop → Type 0) → Stmt → Type 0
SoleHas P x = (at : List ℕ) (p : Placed) → sole x at ≡ Some p → Each P (loops_of x) → P p.loop × OfLoops P (out-Loop p.loop).body

only_has : (P : Loop → Type 0) (ss : List Stmt) → Each (SoleHas P) ss → (at : List ℕ) (p : Placed) → only ss at ≡ Some p → OfLoops P ss → P p.loop × OfLoops P (out-Loop p.loop).body
only_has P [] h at p is all = absurd cc
only_has P (x ∷ []) h at p is all = h.0 (at ++ 0 ∷ []) p is (each-append P (loops_of x) [] all).0
only_has P (x ∷ y ∷ ss) h at p is all = absurd cc

pub sole_has : (P : Loop → Type 0) (x : Stmt) → SoleHas P x
sole_has P = stmt_ind (SoleHas P) (record {
  assign = λ place a subs value at p is. absurd (not_some _ at p (para_stmt-Assign sole_at no_loops place a subs value) is);
  add_to = λ place a subs value atomic at p is. absurd (not_some _ at p (para_stmt-AddTo sole_at no_loops place a subs value atomic) is);
  declare = λ place x init at p is. absurd (not_some _ at p (para_stmt-Declare sole_at no_loops place x init) is);
  set_local = λ place x value at p is. absurd (not_some _ at p (para_stmt-SetLocal sole_at no_loops place x value) is);
  choice = λ place test body otherwise h k at p is. absurd (not_some _ at p (para_stmt-If sole_at no_loops place test body otherwise) is);
  loop = λ l h at p is all.
      let same : Some (record { loop = roll-Loop l; at = at }) ≡ Some p = ap (λ s. s at) (sym (sole-For (roll-Loop l))) ∙ is in
      let it : record { loop = roll-Loop l; at = at } ≡ p = cc in
      subst (λ q. P q.loop × OfLoops P (out-Loop q.loop).body) it (subst (Each P) (loops-For l) all);
  block = λ body h at p is all. only_has P body h at p (ap (λ s. s at) (sym (sole-Block body)) ∙ is) (subst (Each P) (loops-Block body) all);
})

pub nest_in_has : (P : Loop → Type 0) (d : ℕ) (body : List Stmt) (at : List ℕ) → OfLoops P body → Each (λ l. P l.loop) (nest_in d body at).loops
nest_in_has P zero body at all = tt
nest_in_has P (suc d) body at all = go (λ body at all. nest_in_has P d body at all) (only body at) refl
  where
    go : ((body : List Stmt) (at : List ℕ) → OfLoops P body → Each (λ l. P l.loop) (nest_in d body at).loops)
        → (o : Option Placed) → only body at ≡ o → Each (λ l. P l.loop) (under d body at o).loops
    go ih None is = tt
    go ih (Some p) is =
        let of = only_has P body (each_all (SoleHas P) (sole_has P) body) at p is all in
        (of.0, ih (out-Loop p.loop).body p.at of.1)
