-- The law of joined nests over the syntax.
use Rattle.std.proofs.Common.{◌≡◌, refl, ap, sym, ◌∙◌, subst, ℕ, List, [], ◌∷◌, ◌++◌, map, flat_map, length, ℤ, true, Some, Option, None, ◌+◌}
use Rattle.std.proofs.lemmas.List.{map-append, length-map}
use Rattle.species_ast.specs.declared.tree.Loop.{Loop, out-Loop}
use Rattle.species_ast.specs.declared.tree.Value.{Value}
use Rattle.species_ast.specs.Marks.{all_true}
use Rattle.species_ast.specs.Accesses.{Joins, Cells, Tree, Ret, Stop, Read, Write, Add, then_do, Outcome, Ended, Stopped, run}
use Rattle.species_ast.specs.Evaluation.{Frame, Context, Spot, sense}
use Rattle.species_ast.specs.Run.{inside, outside, turns, does_scope, loop_of, spot, source_context}
use Rattle.species_ast.proofs.AccessLaws.{bare}
use Rattle.species_ast.proofs.Induction.{Each}
use Rattle.species_runs.specs.Every.{Anything}
use Rattle.species_runs.specs.Scopes.{outer_locals_set}
use Rattle.species_runs.proofs.EveryLaws.{every_ended, ended_then}
use Rattle.species_nests.specs.Arrivals.{header, heading}
use Rattle.species_nests.specs.Effects.{HasQuietHeader, adds_taken}
use Rattle.species_nests.specs.Meetings.{IsApart, running_traces}
use Rattle.species_nests.specs.Nests.{Placed, band, at_once, frames, frames_in, headers, source_iterations, arrays_of, then_all, run_all, traces}
use Rattle.species_nests.proofs.NestLaws.{nest_is, KeepsFrames, keeps_frames, band_ran, headers_are, loops_own}
use Rattle.bones_commute.specs.Joined.{both, pairs}
use Rattle.bones_commute.specs.JoinedNests.{SameHeader, SameHeaders, IsSound, AreQuiet, Stands, nest_at, running_of, placed_accesses, JoinedLoopsRun}
use Rattle.bones_commute.specs.Orderly.{CanBePlayed}
use Rattle.bones_commute.proofs.BareLaws.{Alike, alike_then, alike_expr}
use Rattle.bones_commute.proofs.JoinedBodies.{Frames, front_of, joined_iterations, joined_locals, joined_adds, all_fronts, all_placed}
use Rattle.bones_commute.proofs.JoinedPlaces.{joined_same}
use Rattle.bones_commute.proofs.UnitRuns.{same_iterations}

-- ---- equal headers

-- what gives something at once, in parts
ret_parts : {X Y : Type 0} (t : Tree X) (next : X → Tree Y) (y : Y) → then_do t next ≡ Ret y → (x : X) × (t ≡ Ret x) × (next x ≡ Ret y)
ret_parts (Ret x) next y h = (x, refl, h)
ret_parts (Stop s why) next y h = absurd cc
ret_parts (Read s e more) next y h = absurd cc
ret_parts (Write s e v more) next y h = absurd cc
ret_parts (Add s e v more) next y h = absurd cc

alike_ret : {X : Type 0} (t : Tree X) (x : X) → Alike t (Ret x) → t ≡ Ret x
alike_ret (Ret y) x h = h
alike_ret (Stop s why) x h = absurd cc
alike_ret (Read s e more) x h = absurd cc
alike_ret (Write s e v more) x h = absurd cc
alike_ret (Add s e v more) x h = absurd cc

alike_heading : (w : Context) (l : Loop) (s t : Spot) (f : Frame)
    → Alike (heading (out-Loop l).test (out-Loop l).step (sense w (out-Loop l).start) (sense w (out-Loop l).limit) s f)
    (heading (out-Loop l).test (out-Loop l).step (sense w (out-Loop l).start) (sense w (out-Loop l).limit) t f)
alike_heading w l s t f =
    let start = sense w (out-Loop l).start in
    let limit = sense w (out-Loop l).limit in
    alike_then (start.does s 0 f) (start.does t 0 f) _ _ (alike_expr w (out-Loop l).start s t 0 0 f) (λ a.
    alike_then (limit.does s start.elements f) (limit.does t start.elements f) _ _ (alike_expr w (out-Loop l).limit s t start.elements start.elements f) (λ b. refl))

same_header : (w : Context) (l k : Loop) (at bt : List ℕ) (f : Frame) (is : List ℤ) → SameHeader l k → header w l at f ≡ Ret is → header w k bt f ≡ Ret is
same_header w l k at bt f is same h =
    let s = spot (out-Loop k).place bt in
    let moved : header w k bt f ≡ heading (out-Loop l).test (out-Loop l).step (sense w (out-Loop l).start) (sense w (out-Loop l).limit) s f =
    λ i. heading (sym same.test i) (sym same.step i) (sense w (sym same.start i)) (sense w (sym same.limit i)) s f in
    alike_ret (header w k bt f) is (ap bare moved ∙ alike_heading w l s (spot (out-Loop l).place at) f ∙ ap bare h)

abbrev SameFrames : Context → List Placed → List Placed → Frame → Type 0
SameFrames w ls ks f = (fs : List Frame) → headers w ls f ≡ Ret fs → (headers w ks f ≡ Ret fs) × (frames w ls f ≡ frames w ks f)

same_frames_in : (w : Context) (ls ks : List Placed) → ((f : Frame) → SameFrames w ls ks f) → (is : List ℤ) (f : Frame) (fs : List Frame)
    → frames_in (headers w ls) is f ≡ Ret fs
    → (frames_in (headers w ks) is f ≡ Ret fs) × (flat_map (λ i. frames w ls (inside f i)) is ≡ flat_map (λ i. frames w ks (inside f i)) is)
same_frames_in w ls ks ih [] f fs h = (h, refl)
same_frames_in w ls ks ih (i ∷ is) f fs h =
    let one = ret_parts (headers w ls (inside f i)) (λ gs. then_do (frames_in (headers w ls) is f) (λ hs. Ret (gs ++ hs))) fs h in
    let two = ret_parts (frames_in (headers w ls) is f) (λ hs. Ret (one.0 ++ hs)) fs one.2 in
    let here = ih (inside f i) one.0 one.1 in
    let rest = same_frames_in w ls ks ih is f two.0 two.1 in (
      (λ j. then_do (here.0 j) (λ gs. then_do (rest.0 j) (λ hs. Ret (gs ++ hs)))) ∙ two.2,
      (λ j. here.1 j ++ rest.1 j),
    )

same_frames : (w : Context) (ls ks : List Placed) → SameHeaders ls ks → (f : Frame) → SameFrames w ls ks f
same_frames w [] [] same f fs h = (h, refl)
same_frames w [] (k ∷ ks) same f fs h = absurd same
same_frames w (l ∷ ls) [] same f fs h = absurd same
same_frames w (l ∷ ls) (k ∷ ks) same f fs h =
    let one = ret_parts (header w l.loop l.at f) (λ is. frames_in (headers w ls) is f) fs h in
    let other = same_header w l.loop k.loop l.at k.at f one.0 same.0 one.1 in
    let in_ = same_frames_in w ls ks (same_frames w ls ks same.1) one.0 f fs one.2 in (
      (λ i. then_do (other i) (λ is. frames_in (headers w ks) is f)) ∙ in_.0,
      (λ j. flat_map (λ i. frames w ls (inside f i)) (at_once [] (one.1 j))) ∙ in_.1 ∙ (λ j. flat_map (λ i. frames w ks (inside f i)) (at_once [] (sym other j))),
    )

-- the iterations begin with the locals of the nest
frames_front : (vs : List (Option Value)) (xs ys : List Frame) → Frames vs xs → Frames vs ys → Frames vs (xs ++ ys)
frames_front vs [] ys p q = q
frames_front vs (x ∷ xs) ys p q = (p.0, frames_front vs xs ys p.1 q)

frames_in_turns : (w : Context) (ls : List Placed) (vs : List (Option Value)) → ((f : Frame) → f.locals ≡ vs → Frames vs (frames w ls f)) → (is : List ℤ) (f : Frame) → f.locals ≡ vs
    → Frames vs (flat_map (λ i. frames w ls (inside f i)) is)
frames_in_turns w ls vs ih [] f same = tt
frames_in_turns w ls vs ih (i ∷ is) f same = frames_front vs (frames w ls (inside f i)) (flat_map (λ i. frames w ls (inside f i)) is) (ih (inside f i) same) (frames_in_turns w ls vs ih is f same)

frames_keep : (w : Context) (ls : List Placed) (vs : List (Option Value)) (f : Frame) → f.locals ≡ vs → Frames vs (frames w ls f)
frames_keep w [] vs f same = (same, tt)
frames_keep w (l ∷ ls) vs f same = frames_in_turns w ls vs (λ g s. frames_keep w ls vs g s) (at_once [] (header w l.loop l.at f)) f same

module _ (join : Joins) where
  -- ---- where the iterations end, so does the nest

  run_all_parts : {X : Type 0} (xs ys : List (Tree X)) (m n : Cells) → run_all join (xs ++ ys) m ≡ Some n → (k : Cells) × (run_all join xs m ≡ Some k) × (run_all join ys k ≡ Some n)
  run_all_parts [] ys m n h = (m, refl, h)
  run_all_parts (x ∷ xs) ys m n h = go (λ k e. run_all_parts xs ys k n e) (arrays_of (run join x m)) h
    where
      go : ((k : Cells) → run_all join (xs ++ ys) k ≡ Some n → (o : Cells) × (run_all join xs k ≡ Some o) × (run_all join ys o ≡ Some n))
          → (o : Option Cells) → then_all o (run_all join (xs ++ ys)) ≡ Some n → (k : Cells) × (then_all o (run_all join xs) ≡ Some k) × (run_all join ys k ≡ Some n)
      go ih None e = absurd cc
      go ih (Some k) e = ih k e

  one_ends : (does : Frame → Tree Frame) (vs : List (Option Value)) → KeepsFrames vs does → (f : Frame) → f.locals ≡ vs → (m n : Cells) → run_all join (does f ∷ []) m ≡ Some n → run join (does f) m ≡ Ended f n
  one_ends does vs keeps f locals m n h = go (run join (does f) m) refl h
    where
      go : (o : Outcome Frame) → run join (does f) m ≡ o → then_all (arrays_of o) (λ k. Some k) ≡ Some n → run join (does f) m ≡ Ended f n
      go (Stopped why place) is e = absurd cc
      go (Ended g k) is e =
          let same : g ≡ f = every_ended join Anything (λ g. g ≡ f) (does f) m g k (keeps f locals) is in
          let arrays : k ≡ n = cc in
          is ∙ (λ i. Ended (same i) (arrays i))

  turns_end : (w : Context) (ls : List Placed) (does : Frame → Tree Frame) (vs : List (Option Value))
      → ((f : Frame) → f.locals ≡ vs → (fs : List Frame) (m n : Cells) → headers w ls f ≡ Ret fs → run_all join (map does (frames w ls f)) m ≡ Some n → run join (band w ls does f) m ≡ Ended f n)
      → (is : List ℤ) (f : Frame) → f.locals ≡ vs → (fs : List Frame) (m n : Cells) → frames_in (headers w ls) is f ≡ Ret fs
      → run_all join (map does (flat_map (λ i. frames w ls (inside f i)) is)) m ≡ Some n → run join (turns is (band w ls does) f) m ≡ Ended f n
  turns_end w ls does vs ih [] f locals fs m n h r = let same : m ≡ n = cc in ap (Ended f) same
  turns_end w ls does vs ih (i ∷ is) f locals fs m n h r =
      let one = ret_parts (headers w ls (inside f i)) (λ gs. then_do (frames_in (headers w ls) is f) (λ hs. Ret (gs ++ hs))) fs h in
      let two = ret_parts (frames_in (headers w ls) is f) (λ hs. Ret (one.0 ++ hs)) fs one.2 in
      let split : map does (flat_map (λ i. frames w ls (inside f i)) (i ∷ is)) ≡ map does (frames w ls (inside f i)) ++ map does (flat_map (λ i. frames w ls (inside f i)) is) =
      map-append does (frames w ls (inside f i)) (flat_map (λ i. frames w ls (inside f i)) is) in
      let parts = run_all_parts (map does (frames w ls (inside f i))) (map does (flat_map (λ i. frames w ls (inside f i)) is)) m n (sym (ap (λ ts. run_all join ts m) split) ∙ r) in
      ended_then join (band w ls does (inside f i)) (λ k. turns is (band w ls does) (outside f k)) m (inside f i) parts.0 (ih (inside f i) locals one.0 m parts.0 one.1 parts.1)
      ∙ turns_end w ls does vs ih is f locals two.0 parts.0 n two.1 parts.2

  band_ends : (w : Context) (ls : List Placed) (does : Frame → Tree Frame) (vs : List (Option Value)) → KeepsFrames vs does → (f : Frame) → f.locals ≡ vs → (fs : List Frame) (m n : Cells)
      → headers w ls f ≡ Ret fs → run_all join (map does (frames w ls f)) m ≡ Some n → run join (band w ls does f) m ≡ Ended f n
  band_ends w [] does vs keeps f locals fs m n h r = one_ends does vs keeps f locals m n r
  band_ends w (l ∷ ls) does vs keeps f locals fs m n h r =
      let one = ret_parts (header w l.loop l.at f) (λ is. frames_in (headers w ls) is f) fs h in
      (λ i. run join (then_do (one.1 i) (λ is. turns is (band w ls does) f)) m)
      ∙ turns_end w ls does vs (λ f s fs m n e k. band_ends w ls does vs keeps f s fs m n e k) one.0 f locals fs m n one.2
      (ap (λ is. run_all join (map does (flat_map (λ i. frames w ls (inside f i)) (at_once [] is))) m) (sym one.1) ∙ r)

  -- ---- a nest that ran: its headers, and its iterations

  record NestRan (w : Context) (d : ℕ) (s : Stands) (f : Frame) (m : Cells) (g : Frame) (n : Cells) : Type 0 where
    pub frame : g ≡ f
    pub arrays : run_all join (source_iterations w (nest_at d s) (frames w (nest_at d s).loops f)) m ≡ Some n
    pub headers : headers w (nest_at d s).loops f ≡ Ret (frames w (nest_at d s).loops f)
    pub own : running_traces join w d (running_of s f m) ≡ traces join (source_iterations w (nest_at d s) (frames w (nest_at d s).loops f)) m

  all_quiet : (w : Context) (ls : List Placed) → AreQuiet w ls → Each (λ l. HasQuietHeader w l.loop) ls
  all_quiet w [] h = tt
  all_quiet w (l ∷ ls) h = (h.0, all_quiet w ls h.1)

  nest_ran : (w : Context) (d : ℕ) (s : Stands) (f : Frame) (m : Cells) (g : Frame) (n : Cells) → IsSound w (nest_at d s) f → outer_locals_set (nest_at d s).body ≡ []
      → run join (loop_of w s.loop s.at f) m ≡ Ended g n → NestRan w d s f m g n
  nest_ran w d s f m g n sound none h =
      let o = nest_at d s in
      let does = does_scope w o.body o.at 0 in
      let quiet = all_quiet w o.loops sound.quiet in
      let keeps = keeps_frames w o.body f sound.fits none o.at in
      let is = ap (λ t. run join t m) (sym (nest_is w d s.loop s.at f)) ∙ h in
      let ran = band_ran join w o.loops does quiet f.locals keeps f refl m g n is in
      record {
        frame = ran.frame;
        arrays = ran.arrays;
        headers = headers_are join w o.loops does quiet f.locals keeps f refl m g n is;
        own = loops_own join w o.loops does quiet f.locals keeps f refl m g n is;
      }

-- ---- the law

pub joined_loops_run : JoinedLoopsRun
joined_loops_run join trades gathers u d one two joined f g h first mid last joins is values sound_one sound_two sound stays_one stays_two run_one run_two apart =
    let w = source_context u in
    let takes = (gathers joined.at).takes in
    let a = nest_at d one in
    let b = nest_at d two in
    let c = nest_at d joined in
    let ran_one = nest_ran join w d one f first g mid sound_one stays_one.locals run_one in
    let ran_two = nest_ran join w d two f mid h last sound_two stays_two.locals (ap (λ k. run join (loop_of w two.loop two.at k) mid) (sym ran_one.frame) ∙ run_two) in
    let fs = frames w a.loops f in
    let same_joined = same_frames w a.loops c.loops is.headers f fs ran_one.headers in
    let ps = source_iterations w a fs in
    let qs = source_iterations w b fs in
    let front = front_of takes w is.front a.body is.stands stays_one.locals stays_one.adds in
    let bt = c.at ++ (0 + length is.front) ∷ [] in
    let rs = map (does_scope w is.front c.at 0) fs in
    let ts = map (does_scope w b.body bt 0) fs in
    let runs_two : run_all join qs mid ≡ Some last = ap (λ l. run_all join (source_iterations w b l) mid) values ∙ ran_two.arrays in
    let own_two : running_traces join w d (running_of two g mid) ≡ traces join qs mid =
    ap (λ k. running_traces join w d (running_of two k mid)) ran_one.frame ∙ ran_two.own ∙ ap (λ l. traces join (source_iterations w b l) mid) (sym values) in
    let lengths : length ps ≡ length qs = length-map fs (does_scope w a.body a.at 0) ∙ sym (length-map fs (does_scope w b.body b.at 0)) in
    let played = joined_same join trades ps qs rs ts first mid last (all_fronts takes w is.front a.body front a.at c.at fs) (all_placed w b.body b.at bt fs) lengths
    ran_one.arrays runs_two (subst IsApart (λ i. pairs (ran_one.own i) (own_two i)) apart) in
    let kept = keeps_frames w a.body f sound_one.fits stays_one.locals a.at in
    let all : source_iterations w c (frames w c.loops f) ≡ both rs ts =
    (λ i. map (does_scope w (is.body i) c.at 0) (sym same_joined.1 i))
    ∙ joined_iterations takes w is.front a.body b.body c.at a.at f.locals front kept fs (frames_keep w a.loops f.locals f refl) in
    let locals : outer_locals_set c.body ≡ [] = ap outer_locals_set is.body ∙ joined_locals is.front b.body front.locals stays_two.locals in
    let adds : all_true (map (adds_taken takes w) c.body) ≡ true = ap (λ l. all_true (map (adds_taken takes w) l)) is.body ∙ joined_adds takes w is.front b.body front.adds stays_two.adds in
    let can : CanBePlayed join (source_iterations w c (frames w c.loops f)) first last = subst (λ l. CanBePlayed join l first last) (sym all) played.can in
    let ends : run join (loop_of w joined.loop joined.at f) first ≡ Ended f last =
    ap (λ t. run join t first) (nest_is w d joined.loop joined.at f)
    ∙ band_ends join w c.loops (does_scope w c.body c.at 0) f.locals (keeps_frames w c.body f sound.fits locals c.at) f refl fs first last same_joined.0 can.runs in
    let ran = nest_ran join w d joined f first f last sound locals ends in (
      ran_one.frame,
      ran_two.frame,
      record {
        ends = ends;
        accesses =
            ap placed_accesses (ran.own ∙ ap (λ l. traces join l first) all)
            ∙ played.accesses
            ∙ (λ i. placed_accesses (pairs (sym ran_one.own i) (sym own_two i)));
        orderly = record { joins = joins; locals = locals; adds = adds; apart = subst IsApart (sym ran.own) can.apart };
        played = subst (λ l. CanBePlayed join l first last) (sym (same_iterations takes w refl c (frames w c.loops f) locals adds)) can;
      },
    )
