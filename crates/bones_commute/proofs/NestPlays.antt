-- Plays of an orderly nest.
use Rattle.std.proofs.Common.{◌≡◌, ◌≢◌, ℕ, zero, suc, ◌+◌, ◌≤◌, List, [], ◌∷◌, ◌++◌, length, take, Option, Some, None, true, false, Bool, refl, ap, sym, ◌∙◌, subst, arith, inl, inr, map}
use Rattle.std.specs.Prelude.{unwrap_or, pos, slice_get, slice_set, ◌||◌}
use Rattle.species_ast.specs.declared.tree.Value.{Value}
use Rattle.species_ast.specs.Accesses.{Joins, Element, element_eq, Cells, changed, look, cell, Tree, Ret, Stop, Read, Write, Add, Outcome, Ended, Stopped, run}
use Rattle.species_ast.specs.declared.action.Action.{Action}
use Rattle.species_ast.specs.declared.action.Action.TheVariants as action
use Rattle.species_ast.specs.declared.action.Action.TheVariants.{Fault}
use Rattle.species_ast.specs.declared.tree.Value.TheVariants.{Int}
use Rattle.species_ast.specs.Evaluation.{Frame}
use Rattle.species_nests.specs.Nests.{arrays_of, then_all, run_all}
use Rattle.bones_meaning.specs.Plays.{Turn, State, not_begun, start, next_of, step_by, try_turn, step_of}
use Rattle.bones_commute.specs.Scripts.{Act, Get, Put, Plus, told, Ends, Scripted, script_of, AllEnd, act_on, reads, value_after, FitsFrom, nth, AreApart, Along, past, through, Follows, IsScripted, trees, Complete}
use Rattle.bones_commute.specs.ScriptsOfRuns.{play, then_state, plays, trace, left_by, scripts, total}
use Rattle.bones_commute.proofs.Elements.{element_refl, act_look, play_look, through_id, after_silent}
use Rattle.bones_commute.proofs.Past.{Silent}
use Rattle.bones_commute.proofs.Even.{follows_of, even_of, readers_alone, sizes_act}
use Rattle.bones_commute.proofs.Steps.{step_follows, law_goes, whole, past_complete, cells_same, last_at, complete_at}
use Rattle.bones_commute.specs.Trades.{Trades}

module _ (join : Joins) where
  -- ---- one run

  abbrev pub answers_of : {X : Type 0} → Tree X → Cells → List Value
  answers_of (Ret x) m = []
  answers_of (Stop si why) m = []
  answers_of (Read si p k) m = cell m p ∷ answers_of (k (cell m p)) m
  answers_of (Write si p v k) m = answers_of k (changed m p (λ c. v))
  answers_of (Add si p v k) m = answers_of k (changed m p (λ c. join p.array c v))

  module _ {X : Type 0} where
    pub trace_told : (p : Tree X) (m : Cells) → told p (answers_of p m) ≡ trace join p m
    trace_told (Ret x) m = refl
    trace_told (Stop si why) m = refl
    trace_told (Read si p k) m = ap (λ s. Get p (cell m p) ∷ s) (trace_told (k (cell m p)) m)
    trace_told (Write si p v k) m = ap (λ s. Put p v ∷ s) (trace_told k _)
    trace_told (Add si p v k) m = ap (λ s. Plus p v ∷ s) (trace_told k _)

    pub run_ends : (p : Tree X) (m : Cells) (x : X) (n : Cells) → run join p m ≡ Ended x n → Ends p (answers_of p m)
    run_ends (Ret y) m x n h = tt
    run_ends (Stop si why) m x n h = cc
    run_ends (Read si p k) m x n h = run_ends (k (cell m p)) m x n h
    run_ends (Write si p v k) m x n h = run_ends k _ x n h
    run_ends (Add si p v k) m x n h = run_ends k _ x n h

    pub run_play : (p : Tree X) (m : Cells) (x : X) (n : Cells) → run join p m ≡ Ended x n → play join (trace join p m) m ≡ n
    run_play (Ret y) m x n h = cc
    run_play (Stop si why) m x n h = cc
    run_play (Read si p k) m x n h = run_play (k (cell m p)) m x n h
    run_play (Write si p v k) m x n h = run_play k _ x n h
    run_play (Add si p v k) m x n h = run_play k _ x n h

    pub run_fits : (p : Tree X) (m : Cells) → FitsFrom join m (trace join p m)
    run_fits (Ret y) m = tt
    run_fits (Stop si why) m = tt
    run_fits (Read si p k) m = (refl, run_fits (k (cell m p)) m)
    run_fits (Write si p v k) m = run_fits k _
    run_fits (Add si p v k) m = run_fits k _

  -- arrays that agree on what is read
  pub fits_move : (s : List Act) (m n : Cells) → ((p : Element) → reads p s ≡ true → look m p ≡ look n p) → FitsFrom join m s → FitsFrom join n s
  fits_move [] m n h f = tt
  fits_move (Get q v ∷ s) m n h f = (ap (λ o. unwrap_or o (Int (pos 0))) (sym (h q (ap (λ b. b || reads q s) (element_refl q)))) ∙ f.0, fits_move s m n (λ p r. h p (or_true (element_eq p q) r)) f.1)
    where
      or_true : (b : Bool) {c : Bool} → c ≡ true → b || c ≡ true
      or_true true e = refl
      or_true false e = e
  fits_move (Put q v ∷ s) m n h f =
      fits_move s _ _ (λ p r. (act_look join) (Put q v) m p ∙ ap (through (value_after join p (Put q v ∷ []))) (h p r) ∙ sym (act_look join (Put q v) n p)) f
  fits_move (Plus q v ∷ s) m n h f =
      fits_move s _ _ (λ p r. (act_look join) (Plus q v) m p ∙ ap (through (value_after join p (Plus q v ∷ []))) (h p r) ∙ sym (act_look join (Plus q v) n p)) f

pub take_all : {A : Type 0} (s : List A) → take (length s) s ≡ s
take_all [] = refl
take_all (a ∷ s) = ap (λ l. a ∷ l) (take_all s)

module _ (join : Joins) where
  pub play_silent : (p : Element) (s : List Act) (m : Cells) → Silent p s → look (play join s m) p ≡ look m p
  play_silent p s m h =
      (play_look join) s m p
      ∙ ap (λ f. through f (look m p)) (λ i c. (ap (λ l. (value_after join) p l c) (sym (take_all s)) ∙ after_silent join p s (length s) c h.0 h.1) i)
      ∙ through_id (look m p)

  -- ---- all iterations, one after another

  pub play_append : (s u : List Act) (m : Cells) → play join (s ++ u) m ≡ play join u (play join s m)
  play_append [] u m = refl
  play_append (a ∷ s) u m = play_append s u (act_on join a m)

pub apart_tail : (s : List Act) (ss : List (List Act)) → AreApart (s ∷ ss) → AreApart ss
apart_tail s ss a = record {
  written = λ j k p d w. a.written (suc j) (suc k) p (λ e. d (omega (arith, e))) w;
  gathered = λ j k p h. a.gathered (suc j) (suc k) p h;
}

module _ (join : Joins) (trades : Trades join) where
  module _ {X : Type 0} where
    abbrev pub parts : List (Tree X) → Cells → List (Scripted X)
    parts [] m = []
    parts (p ∷ ps) m = record { tree = p; answers = answers_of join p m } ∷ parts ps (left_by (run join p m) m)

    pub trees_parts : (ps : List (Tree X)) (m : Cells) → trees (parts ps m) ≡ ps
    trees_parts [] m = refl
    trees_parts (p ∷ ps) m = ap (λ l. p ∷ l) (trees_parts ps _)

    pub scripts_parts : (ps : List (Tree X)) (m : Cells) → map script_of (parts ps m) ≡ scripts join ps m
    scripts_parts [] m = refl
    scripts_parts (p ∷ ps) m = ap (λ s. s ∷ map script_of (parts ps (left_by (run join p m) m))) (trace_told join p m) ∙ ap (λ l. (trace join) p m ∷ l) (scripts_parts ps _)

    -- a defined run of all, and its first
    pub defined : (p : Tree X) (ps : List (Tree X)) (m last : Cells) (o : Outcome X) → run join p m ≡ o → then_all (arrays_of o) (run_all join ps) ≡ Some last
        → (x : X) × (run join p m ≡ Ended x (left_by (run join p m) m)) × (run_all join ps (left_by (run join p m) m) ≡ Some last)
    defined p ps m last (Ended x n) h e = (x, h ∙ ap (λ o. Ended x (left_by o m)) (sym h), ap (λ o. (run_all join) ps (left_by o m)) h ∙ e)
    defined p ps m last (Stopped why place) h e = cc

    all_end : (ps : List (Tree X)) (m last : Cells) → run_all join ps m ≡ Some last → AllEnd (parts ps m)
    all_end [] m last h = tt
    all_end (p ∷ ps) m last h = let d = defined p ps m last (run join p m) refl h in (run_ends join p m d.0 _ d.1, all_end ps _ last d.2)

    pub all_play : (ps : List (Tree X)) (m last : Cells) → run_all join ps m ≡ Some last → play join (whole (scripts join ps m)) m ≡ last
    all_play [] m last h = cc
    all_play (p ∷ ps) m last h =
        let d = defined p ps m last (run join p m) refl h in
        (play_append join) (trace join p m) _ m ∙ ap (play join (whole (scripts join ps (left_by (run join p m) m)))) (run_play join p m d.0 _ d.1) ∙ all_play ps _ last d.2

    all_fit : (ps : List (Tree X)) (m first last : Cells) → run_all join ps m ≡ Some last → AreApart (scripts join ps m)
        → ((k : ℕ) (p : Element) → reads p (nth (scripts join ps m) k) ≡ true → look m p ≡ look first p) → (k : ℕ) → FitsFrom join first (nth (scripts join ps m) k)
    all_fit [] m first last h a same zero = tt
    all_fit [] m first last h a same (suc k) = tt
    all_fit (p ∷ ps) m first last h a same zero = fits_move join (trace join p m) m first (same zero) (run_fits join p m)
    all_fit (p ∷ ps) m first last h a same (suc k) =
        let d = defined p ps m last (run join p m) refl h in
        all_fit ps _ first last d.2 (apart_tail _ _ a)
        (λ j q r.
        let quiet : Silent q (trace join p m) = readers_alone join trades first (scripts join (p ∷ ps) m) a (suc j) q r zero (λ e. let x : ⊥ = omega (arith, e) in x) in
        ap (λ n. look n q) (sym (run_play join p m d.0 _ d.1)) ∙ play_silent join q (trace join p m) m quiet ∙ same (suc j) q r)
        k

-- ---- plays

some_same : {A : Type 0} {x y : A} → Some x ≡ Some y → x ≡ y
some_same e = cc

abbrev pub taken : List Turn → ℕ
taken [] = 0
taken (t ∷ ts) = t.done + taken ts

taken_set : (ts : List Turn) (k : ℕ) (t u : Turn) → slice_get ts k ≡ Some t → u.done ≡ suc t.done → taken (slice_set ts k u) ≡ suc (taken ts)
taken_set [] k t u h e = cc
taken_set (r ∷ ts) zero t u h e = let q : r.done ≡ t.done = let x : r ≡ t = cc in ap (λ y. y.done) x in omega (arith, q, e)
taken_set (r ∷ ts) (suc k) t u h e = omega (arith, taken_set ts k t u h e)

module _ (join : Joins) where
  pub by_action : (st : State) (k : ℕ) (t : Turn) (o : Option Action) (new : State) → step_by join st k t o ≡ Some new → (u : Turn) × (new.turns ≡ slice_set st.turns k u) × (u.done ≡ suc t.done)
  by_action st k t None new e = cc
  by_action st k t (Some (action.Read a i)) new e = let q = ap (λ x. x.turns) (some_same e) in (_, sym q, refl)
  by_action st k t (Some (action.Write a i v)) new e = let q = ap (λ x. x.turns) (some_same e) in (_, sym q, refl)
  by_action st k t (Some (action.Add a i v)) new e = let q = ap (λ x. x.turns) (some_same e) in (_, sym q, refl)
  by_action st k t (Some action.Done) new e = cc
  by_action st k t (Some action.Fault) new e = cc

  pub one_more : {X : Type 0} (st : State) (k : ℕ) (p : Option (Tree X)) (o : Option Turn) (new : State) → slice_get st.turns k ≡ o → try_turn join st k p o ≡ Some new → taken new.turns ≡ suc (taken st.turns)
  one_more st k None o new h e = cc
  one_more st k (Some p) None new h e = cc
  one_more st k (Some p) (Some t) new h e = let b = by_action st k t (next_of p t) new e in ap taken b.1 ∙ taken_set st.turns k t b.0 h b.2

pub taken_bound : (ss : List (List Act)) (ts : List Turn) → Along ss ts → taken ts ≤ total ss
taken_bound [] [] a = omega arith
taken_bound [] (t ∷ ts) a = absurd a
taken_bound (s ∷ ss) [] a = absurd a
taken_bound (s ∷ ss) (t ∷ ts) a = omega (arith, a.0, taken_bound ss ts a.2)

taken_all : {X : Type 0} (xs : List (Scripted X)) (ts : List Turn) → AllEnd xs → Along (map script_of xs) ts → Complete (trees xs) ts → taken ts ≡ total (map script_of xs)
taken_all [] [] e a c = refl
taken_all [] (t ∷ ts) e a c = absurd a
taken_all (x ∷ xs) [] e a c = absurd a
taken_all (x ∷ xs) (t ∷ ts) e a c =
    let b : length (script_of x) ≤ t.done = last_at (script_of x) t.done (complete_at x t e.0 a.0 a.1 c.0) in
    omega (arith, a.0, b, taken_all xs ts e.1 a.2 c.1)

module _ (join : Joins) where
  pub sizes_play : (s : List Act) (m : Cells) → map length (play join s m) ≡ map length m
  sizes_play [] m = refl
  sizes_play (a ∷ s) m = sizes_play s (act_on join a m) ∙ sizes_act join a m

along_start : {X : Type 0} (xs : List (Scripted X)) → Along (map script_of xs) (map (λ p. not_begun) (trees xs))
along_start [] = tt
along_start (x ∷ xs) = (omega arith, refl, along_start xs)

past_start : {X : Type 0} (xs : List (Scripted X)) → past (map script_of xs) (map (λ p. not_begun) (trees xs)) ≡ []
past_start [] = refl
past_start (x ∷ xs) = past_start xs

pub taken_start : {X : Type 0} (ps : List (Tree X)) → taken (map (λ p. not_begun) ps) ≡ 0
taken_start [] = refl
taken_start (p ∷ ps) = omega (arith, taken_start ps)

module _ (join : Joins) where
  pub plays_append : {X : Type 0} (ps : List (Tree X)) (ks more : List ℕ) (st : State) → plays join ps (ks ++ more) st ≡ then_state (plays join ps ks st) (plays join ps more)
  plays_append ps [] more st = refl
  plays_append ps (k ∷ ks) more st = go (plays_append ps ks more) (step_of join ps st k)
    where
      go : ((new : State) → plays join ps (ks ++ more) new ≡ then_state (plays join ps ks new) (plays join ps more)) → (o : Option State) → then_state o (plays join ps (ks ++ more)) ≡ then_state (then_state o (plays join ps ks)) (plays join ps more)
      go again None = refl
      go again (Some new) = again new

module _ (join : Joins) (trades : Trades join) where
  module _ (first : Cells) (xs : List (Scripted Frame)) (nest : IsScripted join first xs) where
    abbrev ss : List (List Act)
    ss = map script_of xs

    pub plays_follow : (ks : List ℕ) (st last : State) → Follows join first ss st → plays join (trees xs) ks st ≡ Some last → Follows join first ss last × (taken last.turns ≡ taken st.turns + length ks)
    plays_follow [] st last f h = let e : st ≡ last = cc in (subst (Follows join first ss) e f, omega (arith, ap (λ x. taken x.turns) e))
    plays_follow (k ∷ ks) st last f h = go (λ new g e. plays_follow ks new last g e) (step_of join (trees xs) st k) refl h
      where
        go : ((new : State) → Follows join first ss new → plays join (trees xs) ks new ≡ Some last → Follows join first ss last × (taken last.turns ≡ taken new.turns + length ks))
            → (o : Option State) → step_of join (trees xs) st k ≡ o → then_state o (plays join (trees xs) ks) ≡ Some last → Follows join first ss last × (taken last.turns ≡ taken st.turns + length (k ∷ ks))
        go again None e g = cc
        go again (Some new) e g =
            let r = again new (step_follows join trades first xs st nest f k new e) g in
            let n = one_more join st k (slice_get (trees xs) k) (slice_get st.turns k) new refl e in
            (r.0, omega (arith, r.1, n))

    goes_on : (n : ℕ) (st : State) → Follows join first ss st → total ss ≤ taken st.turns + n
        → (more : List ℕ) × (last : State) × (plays join (trees xs) more st ≡ Some last) × Complete (trees xs) last.turns
    goes_on zero st f b =
        elim (law_goes join trades first xs st nest f).1 [
          | inl c ↦ ([], st, refl, c)
          | inr w ↦
              let g = step_follows join trades first xs st nest f w.0 w.1 w.2 in
              let m = one_more join st w.0 (slice_get (trees xs) w.0) (slice_get st.turns w.0) w.1 refl w.2 in
              let x : ⊥ = omega (arith, b, m, taken_bound ss w.1.turns g.along) in absurd x
        ]
    goes_on (suc n) st f b =
        elim (law_goes join trades first xs st nest f).1 [
          | inl c ↦ ([], st, refl, c)
          | inr w ↦
              let g = step_follows join trades first xs st nest f w.0 w.1 w.2 in
              let m = one_more join st w.0 (slice_get (trees xs) w.0) (slice_get st.turns w.0) w.1 refl w.2 in
              let r = goes_on n w.1 g (omega (arith, b, m)) in
              (w.0 ∷ r.0, r.1, ap (λ o. then_state o (plays join (trees xs) r.0)) w.2 ∙ r.2, r.3)
        ]

    ends_in : (st : State) → Follows join first ss st → Complete (trees xs) st.turns → (st.cells ≡ play join (whole ss) first) × (taken st.turns ≡ total ss)
    ends_in st f c =
        let e = even_of join trades first ss nest.apart st f in (
          cells_same st.cells (play join (whole ss) first) (e.sizes ∙ sym (sizes_play join (whole ss) first))
              (λ p. e.each p ∙ ap (λ l. through (value_after join p l) (look first p)) (past_complete xs st.turns nest.ends e.along c) ∙ sym (play_look join (whole ss) first p)),
          taken_all xs st.turns nest.ends e.along c,
        )

    pub starts : Follows join first ss (start (trees xs) first)
    starts = follows_of join trades first ss nest.apart (start (trees xs) first) (record {
      along = along_start xs;
      sizes = refl;
      each = λ p. sym (through_id (look first p)) ∙ ap (λ l. through (value_after join p l) (look first p)) (sym (past_start xs));
    })

    pub all_of : (ks : List ℕ) (st : State) → plays join (trees xs) ks (start (trees xs) first) ≡ Some st
        → ((k : ℕ) (p : Tree Frame) (t : Turn) → slice_get (trees xs) k ≡ Some p → slice_get st.turns k ≡ Some t → next_of p t ≢ Some Fault)
        × (length ks ≤ total ss) × (Complete (trees xs) st.turns → (st.cells ≡ play join (whole ss) first) × (length ks ≡ total ss))
        × ((more : List ℕ) × (end : State) × (plays join (trees xs) (ks ++ more) (start (trees xs) first) ≡ Some end) × Complete (trees xs) end.turns)
    all_of ks st h =
        let r = plays_follow ks (start (trees xs) first) st starts h in
        let zero_first : taken (start (trees xs) first).turns ≡ 0 = taken_start (trees xs) in
        let n : length ks ≡ taken st.turns = omega (arith, r.1, zero_first) in
        let m = goes_on (total ss) st r.0 (omega arith) in (
          (law_goes join trades first xs st nest r.0).0,
          omega (arith, n, taken_bound ss st.turns r.0.along),
          λ c. let e = ends_in st r.0 c in (e.0, n ∙ e.1),
          (m.0, m.1, plays_append join (trees xs) ks m.0 (start (trees xs) first) ∙ ap (λ o. then_state o (plays join (trees xs) m.0)) h ∙ m.2, m.3),
        )

module _ (join : Joins) where
  abbrev pub NestRuns : List (Tree Frame) → Cells → Cells → Type 0
  NestRuns ps first last = (run_all join ps first ≡ Some last) × AreApart (scripts join ps first)

module _ (join : Joins) (trades : Trades join) where
  pub scripted : (ps : List (Tree Frame)) (first last : Cells) → NestRuns join ps first last → IsScripted join first (parts join trades ps first)
  scripted ps first last o =
      let same = scripts_parts join trades ps first in
      record {
        ends = all_end join trades ps first last o.0;
        fits = λ k. subst (λ l. (FitsFrom join) first (nth l k)) (sym same) (all_fit join trades ps first first last o.0 o.1 (λ j p r. refl) k);
        apart = subst AreApart (sym same) o.1;
      }

module _ (join : Joins) where
  -- a play of a nest that runs and is apart
  pub record NestEnds (ps : List (Tree Frame)) (first last : Cells) (ks : List ℕ) (st : State) : Type 0 where
    pub no_fault : (k : ℕ) (p : Tree Frame) (t : Turn) → slice_get ps k ≡ Some p → slice_get st.turns k ≡ Some t → next_of p t ≢ Some Fault
    pub no_longer : length ks ≤ total (scripts join ps first)
    pub ends : Complete ps st.turns → (st.cells ≡ last) × (length ks ≡ total (scripts join ps first))
    pub goes_on : (more : List ℕ) × (end : State) × (plays join ps (ks ++ more) (start ps first) ≡ Some end) × Complete ps end.turns

module _ (join : Joins) (trades : Trades join) where
  pub law_plays : (ps : List (Tree Frame)) (first last : Cells) (ks : List ℕ) (st : State) → NestRuns join ps first last → plays join ps ks (start ps first) ≡ Some st → NestEnds join ps first last ks st
  law_plays ps first last ks st o h =
      let xs = parts join trades ps first in
      let same_scripts = scripts_parts join trades ps first in
      let same = trees_parts join trades ps first in
      let r = all_of join trades first xs (scripted join trades ps first last o) ks st (subst (λ q. (plays join) q ks (start q first) ≡ Some st) (sym same) h) in
      record {
        no_fault = subst (λ q. (k : ℕ) (p : Tree Frame) (t : Turn) → slice_get q k ≡ Some p → slice_get st.turns k ≡ Some t → next_of p t ≢ Some Fault) same r.0;
        no_longer = subst (λ s. length ks ≤ total s) same_scripts r.1;
        ends = λ c.
            let e = r.2 (subst (λ q. Complete q st.turns) (sym same) c) in
            (e.0 ∙ ap (λ s. (play join) (whole s) first) same_scripts ∙ all_play join trades ps first last o.0, e.1 ∙ ap total same_scripts);
        goes_on = subst (λ q. (more : List ℕ) × (end : State) × (plays join q (ks ++ more) (start q first) ≡ Some end) × Complete q end.turns) same r.3;
      }
