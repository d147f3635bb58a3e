-- Plays of a course whose nests can be played.
use Rattle.std.proofs.Common.{◌≡◌, arith, refl, ap, sym, ◌∙◌, subst, ℕ, zero, suc, ◌+◌, List, [], ◌∷◌, ◌++◌, length, Bool, true, false, ◌&&◌, Option, Some, None, inl, inr}
use Rattle.std.specs.Prelude.{slice_get, flat_map, ◌-◌}
use Rattle.std.proofs.lemmas.List.{length-append}
use Rattle.std.proofs.lemmas.Bool.{cases_Bool}
use Rattle.species_ast.specs.declared.action.Action.{Action}
use Rattle.species_ast.specs.declared.action.Action.TheVariants as action
use Rattle.species_ast.specs.Accesses.{Joins, Cells, cell, Tree}
use Rattle.species_ast.specs.Evaluation.{Frame}
use Rattle.species_nests.specs.Nests.{traces}
use Rattle.bones_meaning.specs.Courses.{Course, Over, Halt, Reading, Writing, Adding, Together}
use Rattle.bones_meaning.specs.Plays.{Turn, State, start, next_of, step_by, try_turn, step_of, is_done, all_done, Position, Finished, Undefined, InNest, past_barrier, enter, arrive, move, then_move, moves, Faults}
use Rattle.bones_commute.specs.Scripts.{AreApart, Complete}
use Rattle.bones_commute.specs.ScriptsOfRuns.{then_state, plays, scripts, total}
use Rattle.bones_commute.specs.Orderly.{CanBePlayed, RunsTo, ranks_on, ranks_of, EveryPlayEnds}
use Rattle.bones_commute.specs.Trades.{Trades}
use Rattle.bones_commute.proofs.Apart.{scripts_are, are_apart, total_is}
use Rattle.bones_commute.proofs.NestPlays.{NestRuns, law_plays, plays_append}

some_same : {A : Type 0} {x y : A} → Some x ≡ Some y → x ≡ y
some_same e = cc

is_done-true : (o : Option Action) → is_done o ≡ true → o ≡ Some action.Done
is_done-true None h = cc
is_done-true (Some (action.Read a i)) h = cc
is_done-true (Some (action.Write a i v)) h = cc
is_done-true (Some (action.Add a i v)) h = cc
is_done-true (Some action.Done) h = refl
is_done-true (Some action.Fault) h = cc

and_both : (a b : Bool) → (a && b) ≡ true → (a ≡ true) × (b ≡ true)
and_both true b h = (refl, h)
and_both false b h = cc

pub complete_of : (ps : List (Tree Frame)) (ts : List Turn) → all_done ps ts ≡ true → Complete ps ts
complete_of [] [] h = tt
complete_of [] (t ∷ ts) h = cc
complete_of (p ∷ ps) [] h = cc
complete_of (p ∷ ps) (t ∷ ts) h = let b = and_both _ _ h in (is_done-true (next_of p t) b.0, complete_of ps ts b.1)

pub done_of : (ps : List (Tree Frame)) (ts : List Turn) → Complete ps ts → all_done ps ts ≡ true
done_of [] [] c = refl
done_of [] (t ∷ ts) c = absurd c
done_of (p ∷ ps) [] c = absurd c
done_of (p ∷ ps) (t ∷ ts) c = ap (λ o. is_done o && all_done ps ts) c.0 ∙ done_of ps ts c.1

-- a nest that can be played runs, and its scripts are apart
pub nest_runs : (nest_join : Joins) (ps : List (Tree Frame)) (m mid : Cells) → CanBePlayed nest_join ps m mid → NestRuns nest_join ps m mid
nest_runs nest_join ps m mid o =
    (o.runs, subst (λ ss. AreApart ss) (sym (scripts_are nest_join ps m mid o.runs)) (are_apart (traces nest_join ps m) o.apart))

module _ (join : Joins) where
  ranks_are : {X : Type 0} (nest_join : Joins) (ps : List (Tree Frame)) (more : Course X) (m mid : Cells) → CanBePlayed nest_join ps m mid
      → ranks_of join (Together nest_join ps more) m ≡ total (scripts nest_join ps m) + ranks_of join more mid
  ranks_are nest_join ps more m mid o =
      let a : total (scripts nest_join ps m) ≡ length (flat_map (λ xs. xs) (traces nest_join ps m)) = ap total (scripts_are nest_join ps m mid o.runs) ∙ total_is (traces nest_join ps m) in
      (λ i. sym a i + ranks_on (o.runs i) (ranks_of join more))

  module _ {X : Type 0} (y : X) (last : Cells) where
    -- how a nest stands in the midst of a play, where so many ranks are to come
    record Midst (n : ℕ) (nest_join : Joins) (ps : List (Tree Frame)) (st : State) (more : Course X) : Type 0 where
      first : Cells
      mid : Cells
      ks : List ℕ
      trades : Trades nest_join
      runs : NestRuns nest_join ps first mid
      played : plays nest_join ps ks (start ps first) ≡ Some st
      open_ : all_done ps st.turns ≡ false
      rest : RunsTo join more mid y last
      count : n + length ks ≡ total (scripts nest_join ps first) + ranks_of join more mid

    -- what is kept at each position, where so many ranks are to come
    abbrev Kept : ℕ → Position X → Type 0
    Kept n (Finished m) = (m ≡ last) × (n ≡ 0)
    Kept n Undefined = ⊥
    Kept n (InNest nest_join ps st more) = Midst n nest_join ps st more

    -- a nest is over, or it is not
    kept_at : (nest_join : Joins) (trades : Trades nest_join) (ps : List (Tree Frame)) (st : State) (more : Course X) (first mid : Cells) (ks : List ℕ) (n : ℕ)
        → NestRuns nest_join ps first mid → plays nest_join ps ks (start ps first) ≡ Some st → RunsTo join more mid y last
        → n + length ks ≡ total (scripts nest_join ps first) + ranks_of join more mid
        → Kept (ranks_of join more mid) (enter join more mid) → Kept n (past_barrier (all_done ps st.turns) (enter join more st.cells) (InNest nest_join ps st more))
    kept_at nest_join trades ps st more first mid ks n o h r count behind =
        elim (cases_Bool (all_done ps st.turns)) [
          | inl d ↦
              let e = (law_plays nest_join trades ps first mid ks st o h).ends (complete_of ps st.turns d) in
              let left : ranks_of join more mid ≡ n = omega (arith, count, e.1) in
              subst (λ b. Kept n (past_barrier b (enter join more st.cells) (InNest nest_join ps st more))) (sym d)
              (subst (λ m. Kept n (enter join more m)) (sym e.0) (subst (λ k. Kept k (enter join more mid)) left behind))
          | inr nd ↦ subst (λ b. Kept n (past_barrier b (enter join more st.cells) (InNest nest_join ps st more))) (sym nd)
              (record { first = first; mid = mid; ks = ks; trades = trades; runs = o; played = h; open_ = nd; rest = r; count = count })
        ]

    kept_enter : (c : Course X) (m : Cells) → RunsTo join c m y last → Kept (ranks_of join c m) (enter join c m)
    kept_enter (Over x) m r = (r.1, refl)
    kept_enter (Halt s why) m r = absurd r
    kept_enter (Reading s e more) m r = kept_enter (more (cell m e)) m r
    kept_enter (Writing s e v more) m r = kept_enter more _ r
    kept_enter (Adding s e v more) m r = kept_enter more _ r
    kept_enter (Together nest_join ps more) m r =
        let ranks = ranks_are nest_join ps more m r.0 r.1 in
        kept_at nest_join r.1.trades ps (start ps m) more m r.0 [] (ranks_of join (Together nest_join ps more) m) (nest_runs nest_join ps m r.0 r.1) refl r.2 (omega (arith, ranks)) (kept_enter more r.0 r.2)

    kept_move : (n : ℕ) (p new : Position X) (k : ℕ) → Kept n p → move join p k ≡ Some new → (left : ℕ) × (n ≡ suc left) × Kept left new
    kept_move n (Finished m) new k g h = cc
    kept_move n Undefined new k g h = absurd g
    kept_move n (InNest nest_join ps st more) new k g h = go (step_of nest_join ps st k) refl h
      where
        go : (o : Option State) → step_of nest_join ps st k ≡ o → arrive join nest_join ps more o ≡ Some new → (left : ℕ) × (n ≡ suc left) × Kept left new
        go None e h = cc
        go (Some next) e h =
            let played : plays nest_join ps (g.ks ++ k ∷ []) (start ps g.first) ≡ Some next =
            plays_append nest_join ps g.ks (k ∷ []) (start ps g.first) ∙ ap (λ o. then_state o (plays nest_join ps (k ∷ []))) g.played ∙ ap (λ o. then_state o (plays nest_join ps [])) e in
            let longer : length (g.ks ++ k ∷ []) ≡ suc (length g.ks) = length-append g.ks (k ∷ []) ∙ omega arith in
            let most = (law_plays nest_join g.trades ps g.first g.mid (g.ks ++ k ∷ []) next g.runs played).no_longer in
            let left = total (scripts nest_join ps g.first) + ranks_of join more g.mid - suc (length g.ks) in
            let count : left + length (g.ks ++ k ∷ []) ≡ total (scripts nest_join ps g.first) + ranks_of join more g.mid = omega (arith, longer, most) in
            let one : n ≡ suc left = omega (arith, g.count, longer, most) in
            (left, one, subst (Kept left) (some_same h) (kept_at nest_join g.trades ps next more g.first g.mid (g.ks ++ k ∷ []) left g.runs played g.rest count (kept_enter more g.mid g.rest)))

    kept_moves : (n : ℕ) (ks : List ℕ) (p new : Position X) → Kept n p → moves join ks p ≡ Some new → (left : ℕ) × (n ≡ left + length ks) × Kept left new
    kept_moves n [] p new g h = (n, omega arith, subst (Kept n) (some_same h) g)
    kept_moves n (k ∷ ks) p new g h = go (λ m a b. kept_moves m ks a new b) (move join p k) refl h
      where
        go : ((m : ℕ) (a : Position X) → Kept m a → moves join ks a ≡ Some new → (left : ℕ) × (m ≡ left + length ks) × Kept left new)
            → (o : Option (Position X)) → move join p k ≡ o → then_move o (moves join ks) ≡ Some new → (left : ℕ) × (n ≡ left + length (k ∷ ks)) × Kept left new
        go again None e h = cc
        go again (Some a) e h =
            let one = kept_move n p a k g e in
            let rest = again one.0 a one.2 h in
            (rest.0, omega (arith, one.1, rest.1), rest.2)

moves_append : {X : Type 0} (join : Joins) (ks more : List ℕ) (p : Position X) → moves join (ks ++ more) p ≡ then_move (moves join ks p) (moves join more)
moves_append join [] more p = refl
moves_append {X} join (k ∷ ks) more p = go (moves_append join ks more) (move join p k)
  where
    go : ((a : Position X) → moves join (ks ++ more) a ≡ then_move (moves join ks a) (moves join more)) → (o : Option (Position X))
        → then_move o (moves join (ks ++ more)) ≡ then_move (then_move o (moves join ks)) (moves join more)
    go again None = refl
    go again (Some a) = again a

-- ---- going on

stuck : (nest_join : Joins) (st : State) (j : ℕ) (ps : List (Tree Frame)) (ts : List Turn) (k : ℕ) → Complete ps ts → try_turn nest_join st j (slice_get ps k) (slice_get ts k) ≡ None
stuck nest_join st j [] ts k c = refl
stuck nest_join st j (p ∷ ps) [] k c = absurd c
stuck nest_join st j (p ∷ ps) (t ∷ ts) zero c = ap (step_by nest_join st j t) c.0
stuck nest_join st j (p ∷ ps) (t ∷ ts) (suc k) c = stuck nest_join st j ps ts k c.1

module _ (join nest_join : Joins) where
  -- a play of the nest up to its end is one of the unit up to the barrier
  nest_moves : {X : Type 0} (ps : List (Tree Frame)) (rest : Course X) (more : List ℕ) (st end : State) → all_done ps st.turns ≡ false → plays nest_join ps more st ≡ Some end
      → all_done ps end.turns ≡ true → moves join more (InNest nest_join ps st rest) ≡ Some (enter join rest end.cells)
  nest_moves ps rest [] st end n h y = let e : all_done ps st.turns ≡ all_done ps end.turns = ap (λ x. all_done ps x.turns) (some_same h) in cc
  nest_moves ps rest (k ∷ ks) st end n h y = go (λ new a b. nest_moves ps rest ks new end a b y) (step_of nest_join ps st k) refl h
    where
      at_barrier : (ks : List ℕ) (new : State) → all_done ps new.turns ≡ true → plays nest_join ps ks new ≡ Some end → (ks ≡ []) × (new ≡ end)
      at_barrier [] new a b = (refl, some_same b)
      at_barrier (j ∷ js) new a b =
          let e : step_of nest_join ps new j ≡ None = stuck nest_join new j ps new.turns j (complete_of ps new.turns a) in
          let f = ap (λ o. then_state o (plays nest_join ps js)) e in cc

      go : ((new : State) → all_done ps new.turns ≡ false → plays nest_join ps ks new ≡ Some end → moves join ks (InNest nest_join ps new rest) ≡ Some (enter join rest end.cells))
          → (o : Option State) → step_of nest_join ps st k ≡ o → then_state o (plays nest_join ps ks) ≡ Some end → moves join (k ∷ ks) (InNest nest_join ps st rest) ≡ Some (enter join rest end.cells)
      go again None e h = cc
      go again (Some new) e h =
          elim (cases_Bool (all_done ps new.turns)) [
            | inl a ↦
                let w = at_barrier ks new a h in
                ap (λ o. then_move (arrive join nest_join ps rest o) (moves join ks)) e ∙ ap (λ b. moves join ks (past_barrier b (enter join rest new.cells) (InNest nest_join ps new rest))) a
                ∙ ap (λ l. moves join l (enter join rest new.cells)) w.0 ∙ ap (λ x. Some (enter join rest x.cells)) w.1
            | inr b ↦
                ap (λ o. then_move (arrive join nest_join ps rest o) (moves join ks)) e ∙ ap (λ c. moves join ks (past_barrier c (enter join rest new.cells) (InNest nest_join ps new rest))) b
                ∙ again new b h
          ]

module _ (join : Joins) where
  module _ {X : Type 0} (y : X) (last : Cells) where
    abbrev GoesOn : Position X → Type 0
    GoesOn p = (more : List ℕ) × (moves join more p ≡ Some (Finished last))

    on_from : (nest_join : Joins) (trades : Trades nest_join) (ps : List (Tree Frame)) (st : State) (rest : Course X) (first mid : Cells) (ks : List ℕ)
        → NestRuns nest_join ps first mid → plays nest_join ps ks (start ps first) ≡ Some st
        → GoesOn (enter join rest mid) → GoesOn (past_barrier (all_done ps st.turns) (enter join rest st.cells) (InNest nest_join ps st rest))
    on_from nest_join trades ps st rest first mid ks o h behind =
        let p = law_plays nest_join trades ps first mid ks st o h in
        elim (cases_Bool (all_done ps st.turns)) [
          | inl d ↦
              subst (λ b. GoesOn (past_barrier b (enter join rest st.cells) (InNest nest_join ps st rest))) (sym d)
              (subst (λ m. GoesOn (enter join rest m)) (sym (p.ends (complete_of ps st.turns d)).0) behind)
          | inr n ↦
              let m = p.goes_on in
              let played : plays nest_join ps m.0 st ≡ Some m.1 = ap (λ x. then_state x (plays nest_join ps m.0)) (sym h) ∙ sym (plays_append nest_join ps ks m.0 (start ps first)) ∙ m.2 in
              let there = nest_moves join nest_join ps rest m.0 st m.1 n played (done_of ps m.1.turns m.3) in
              let cells = ((law_plays nest_join trades ps first mid (ks ++ m.0) m.1 o m.2).ends m.3).0 in
              subst (λ b. GoesOn (past_barrier b (enter join rest st.cells) (InNest nest_join ps st rest))) (sym n) (
                m.0 ++ behind.0,
                moves_append join m.0 behind.0 (InNest nest_join ps st rest) ∙ ap (λ x. then_move x (moves join behind.0)) there
                    ∙ ap (λ c. moves join behind.0 (enter join rest c)) cells ∙ behind.1,
              )
        ]

    finish : (c : Course X) (m : Cells) → RunsTo join c m y last → GoesOn (enter join c m)
    finish (Over x) m r = ([], ap (λ c. Some (Finished c)) r.1)
    finish (Halt s why) m r = absurd r
    finish (Reading s e more) m r = finish (more (cell m e)) m r
    finish (Writing s e v more) m r = finish more _ r
    finish (Adding s e v more) m r = finish more _ r
    finish (Together nest_join ps rest) m r = on_from nest_join r.1.trades ps (start ps m) rest m r.0 [] (nest_runs nest_join ps m r.0 r.1) refl (finish rest r.0 r.2)

    goes_on_at : (n : ℕ) (p : Position X) → Kept join y last n p → GoesOn p
    goes_on_at n (Finished m) g = ([], ap (λ c. Some (Finished c)) g.0)
    goes_on_at n Undefined g = absurd g
    goes_on_at n (InNest nest_join ps st rest) g =
        subst (λ b. GoesOn (past_barrier b (enter join rest st.cells) (InNest nest_join ps st rest))) g.open_
        (on_from nest_join g.trades ps st rest g.first g.mid g.ks g.runs g.played (finish rest g.mid g.rest))

    no_fault_at : (n : ℕ) (p : Position X) → Kept join y last n p → Faults p → ⊥
    no_fault_at n (Finished m) g f = f
    no_fault_at n Undefined g f = g
    no_fault_at n (InNest nest_join ps st rest) g f = (law_plays nest_join g.trades ps g.first g.mid g.ks st g.runs g.played).no_fault f.0 f.1 f.2 f.3 f.4 f.5

    ends_at : (n : ℕ) (p : Position X) (m : Cells) → Kept join y last n p → p ≡ Finished m → (m ≡ last) × (n ≡ 0)
    ends_at n p m g e = subst (Kept join y last n) e g

  -- the law
  pub course_plays : {X : Type 0} (c : Course X) (m : Cells) (y : X) (last : Cells) → RunsTo join c m y last → EveryPlayEnds join c m last
  course_plays c m y last r ks p h =
      let g = kept_moves join y last (ranks_of join c m) ks (enter join c m) p (kept_enter join y last c m r) h in
      let on = goes_on_at y last g.0 p g.2 in
      record {
        no_fault = no_fault_at y last g.0 p g.2;
        goes_on = (on.0, moves_append join ks on.0 (enter join c m) ∙ ap (λ x. then_move x (moves join on.0)) h ∙ on.1);
        no_longer = omega (arith, g.1);
        ends = λ n e. let end = ends_at y last g.0 p n g.2 e in (end.0, omega (arith, g.1, end.1));
      }
