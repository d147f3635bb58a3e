-- The joined nest, script by script.
use Rattle.std.proofs.Common.{◌≡◌, ◌≢◌, ℕ, zero, suc, List, [], ◌∷◌, ◌++◌, length, Some, true, false, Bool, refl, ap, sym, ◌∙◌, subst, arith, inl, inr, map}
use Rattle.std.proofs.lemmas.Bool.{cases_Bool}
use Rattle.std.specs.Prelude.{◌||◌, if◌then◌else◌}
use Rattle.species_ast.specs.declared.tree.Value.{Value}
use Rattle.species_ast.specs.Accesses.{Joins, Element, element_eq, Cells, look, cell, Tree, Ret, Stop, Read, Write, Add, then_do, Ended, run}
use Rattle.species_nests.specs.Nests.{arrays_of, then_all, run_all}
use Rattle.bones_commute.specs.Scripts.{Act, Get, Put, Plus, told, Ends, Scripted, script_of, AllEnd, reads, writes, adds, value_after, through, FitsFrom, nth, AreApart, trees}
use Rattle.bones_commute.specs.ScriptsOfRuns.{play, trace, left_by, scripts}
use Rattle.bones_commute.specs.Joined.{both, pairs}
use Rattle.bones_commute.proofs.Elements.{or_false, play_look, through_same, through_both, after_append, after_silent, after_trade}
use Rattle.bones_commute.proofs.Past.{Silent}
use Rattle.bones_commute.proofs.Even.{decide, readers_alone, others_silent}
use Rattle.bones_commute.proofs.Steps.{whole, cells_same}
use Rattle.bones_commute.proofs.NestPlays.{answers_of, trace_told, run_ends, run_play, run_fits, fits_move, take_all, play_silent, play_append, apart_tail, defined, all_play, sizes_play}
use Rattle.bones_commute.specs.Trades.{Trades}

module _ (join : Joins) (trades : Trades join) where
  -- ---- scripts that fit and are apart are what the source's run does

  module _ {X : Type 0} where
    told_run : (p : Tree X) (vs : List Value) (m : Cells) → Ends p vs → FitsFrom join m (told p vs) → (x : X) × (run join p m ≡ Ended x (play join (told p vs) m)) × (trace join p m ≡ told p vs)
    told_run (Ret y) vs m e f = (y, refl, refl)
    told_run (Stop si why) vs m e f = absurd e
    told_run (Read si p k) [] m e f = absurd e
    told_run (Read si p k) (v ∷ vs) m e f =
        let r = told_run (k v) vs m e f.1 in
        (r.0, ap (λ w. (run join) (k w) m) f.0 ∙ r.1, ap (λ w. Get p w ∷ (trace join) (k w) m) f.0 ∙ ap (λ s. Get p v ∷ s) r.2)
    told_run (Write si p v k) vs m e f = let r = told_run k vs _ e f in (r.0, r.1, ap (λ s. Put p v ∷ s) r.2)
    told_run (Add si p v k) vs m e f = let r = told_run k vs _ e f in (r.0, r.1, ap (λ s. Plus p v ∷ s) r.2)

    pub fit_runs : (xs : List (Scripted X)) (m first : Cells) → AllEnd xs → AreApart (map script_of xs) → ((k : ℕ) → FitsFrom join first (nth (map script_of xs) k))
        → ((k : ℕ) (p : Element) → reads p (nth (map script_of xs) k) ≡ true → look first p ≡ look m p)
        → (run_all join (trees xs) m ≡ Some (play join (whole (map script_of xs)) m)) × (scripts join (trees xs) m ≡ map script_of xs)
    fit_runs [] m first e a f same = (refl, refl)
    fit_runs (x ∷ xs) m first e a f same =
        let r = told_run x.tree x.answers m e.0 (fits_move join (script_of x) first m (same zero) (f zero)) in
        let n = play join (script_of x) m in
        let tail = fit_runs xs n first e.1 (apart_tail _ _ a) (λ k. f (suc k))
        (λ k q h.
        let quiet : Silent q (script_of x) = readers_alone join trades first (map script_of (x ∷ xs)) a (suc k) q h zero (λ z. let y : ⊥ = omega (arith, z) in y) in
        same (suc k) q h ∙ sym (play_silent join q (script_of x) m quiet)) in (
          ap (λ o. then_all (arrays_of o) (run_all join (trees xs))) r.1 ∙ tail.0 ∙ ap (λ c. Some c) (sym (play_append join (script_of x) (whole (map script_of xs)) m)),
          ap (λ s. s ∷ (scripts join) (trees xs) (left_by (run join x.tree m) m)) r.2 ∙ ap (λ o. script_of x ∷ (scripts join) (trees xs) (left_by o m)) r.1 ∙ ap (λ l. script_of x ∷ l) tail.1,
        )

    -- as all_fit, where each iteration has arrays of its own
    pub each_fits : (ps : List (Tree X)) (m last : Cells) (first : ℕ → Cells) → run_all join ps m ≡ Some last → AreApart (scripts join ps m)
        → ((k : ℕ) (p : Element) → reads p (nth (scripts join ps m) k) ≡ true → look m p ≡ look (first k) p) → (k : ℕ) → FitsFrom join (first k) (nth (scripts join ps m) k)
    each_fits [] m last first h a same zero = tt
    each_fits [] m last first h a same (suc k) = tt
    each_fits (p ∷ ps) m last first h a same zero = fits_move join (trace join p m) m (first zero) (same zero) (run_fits join p m)
    each_fits (p ∷ ps) m last first h a same (suc k) =
        let d = defined join trades p ps m last (run join p m) refl h in
        each_fits ps _ last (λ j. first (suc j)) d.2 (apart_tail _ _ a)
        (λ j q r.
        let quiet : Silent q (trace join p m) = readers_alone join trades m (scripts join (p ∷ ps) m) a (suc j) q r zero (λ e. let x : ⊥ = omega (arith, e) in x) in
        ap (λ n. look n q) (sym (run_play join p m d.0 _ d.1)) ∙ play_silent join q (trace join p m) m quiet ∙ same (suc j) q r)
        k

    -- ---- the parts of the joined nest

    told_then : (p : Tree X) (q : Tree X) (m : Cells) (bs : List Value) (x : X) (n : Cells) → run join p m ≡ Ended x n → told (then_do p (λ y. q)) (answers_of join p m ++ bs) ≡ trace join p m ++ told q bs
    told_then (Ret y) q m bs x n h = refl
    told_then (Stop si why) q m bs x n h = absurd cc
    told_then (Read si p k) q m bs x n h = ap (λ s. Get p (cell m p) ∷ s) (told_then (k (cell m p)) q m bs x n h)
    told_then (Write si p v k) q m bs x n h = ap (λ s. Put p v ∷ s) (told_then k q _ bs x n h)
    told_then (Add si p v k) q m bs x n h = ap (λ s. Plus p v ∷ s) (told_then k q _ bs x n h)

    ends_then : (p : Tree X) (q : Tree X) (m : Cells) (bs : List Value) (x : X) (n : Cells) → run join p m ≡ Ended x n → Ends q bs → Ends (then_do p (λ y. q)) (answers_of join p m ++ bs)
    ends_then (Ret y) q m bs x n h e = e
    ends_then (Stop si why) q m bs x n h e = absurd cc
    ends_then (Read si p k) q m bs x n h e = ends_then (k (cell m p)) q m bs x n h e
    ends_then (Write si p v k) q m bs x n h e = ends_then k q _ bs x n h e
    ends_then (Add si p v k) q m bs x n h e = ends_then k q _ bs x n h e

    abbrev pub both_parts : List (Tree X) → List (Tree X) → Cells → Cells → List (Scripted X)
    both_parts [] qs m n = []
    both_parts (p ∷ ps) [] m n = []
    both_parts (p ∷ ps) (q ∷ qs) m n =
        record { tree = then_do p (λ x. q); answers = answers_of join p m ++ (answers_of join) q n } ∷ both_parts ps qs (left_by (run join p m) m) (left_by (run join q n) n)

    pub trees_both : (ps qs : List (Tree X)) (m n : Cells) → trees (both_parts ps qs m n) ≡ both ps qs
    trees_both [] qs m n = refl
    trees_both (p ∷ ps) [] m n = refl
    trees_both (p ∷ ps) (q ∷ qs) m n = ap (λ l. then_do p (λ x. q) ∷ l) (trees_both ps qs _ _)

    pub scripts_both : (ps qs : List (Tree X)) (m n mid last : Cells) → run_all join ps m ≡ Some mid → run_all join qs n ≡ Some last
        → (map script_of (both_parts ps qs m n) ≡ pairs (scripts join ps m) (scripts join qs n)) × AllEnd (both_parts ps qs m n)
    scripts_both [] qs m n mid last h g = (refl, tt)
    scripts_both (p ∷ ps) [] m n mid last h g = (refl, tt)
    scripts_both (p ∷ ps) (q ∷ qs) m n mid last h g =
        let d = defined join trades p ps m mid (run join p m) refl h in
        let b = defined join trades q qs n last (run join q n) refl g in
        let r = scripts_both ps qs _ _ mid last d.2 b.2 in
        let one : told (then_do p (λ x. q)) (answers_of join p m ++ (answers_of join) q n) ≡ trace join p m ++ (trace join) q n =
        told_then p q m (answers_of join q n) d.0 _ d.1 ∙ ap (λ s. (trace join) p m ++ s) (trace_told join q n) in (
          ap (λ s. s ∷ map script_of (both_parts ps qs (left_by (run join p m) m) (left_by (run join q n) n))) one ∙ ap (λ l. (trace join p m ++ (trace join) q n) ∷ l) r.0,
          (ends_then p q m (answers_of join q n) d.0 _ d.1 (run_ends join q n b.0 _ b.1), r.1),
        )

    pub length_scripts : (ps : List (Tree X)) (m : Cells) → length (scripts join ps m) ≡ length ps
    length_scripts [] m = refl
    length_scripts (p ∷ ps) m = omega (arith, length_scripts ps (left_by (run join p m) m))

-- ---- tests of lists one after another

or_assoc : (a b c : Bool) → a || (b || c) ≡ (a || b) || c
or_assoc true b c = refl
or_assoc false b c = refl

reads_app : (p : Element) (s u : List Act) → reads p (s ++ u) ≡ reads p s || reads p u
reads_app p [] u = refl
reads_app p (Get q v ∷ s) u = ap (λ b. element_eq p q || b) (reads_app p s u) ∙ or_assoc (element_eq p q) (reads p s) (reads p u)
reads_app p (Put q v ∷ s) u = reads_app p s u
reads_app p (Plus q v ∷ s) u = reads_app p s u

writes_app : (p : Element) (s u : List Act) → writes p (s ++ u) ≡ writes p s || writes p u
writes_app p [] u = refl
writes_app p (Get q v ∷ s) u = writes_app p s u
writes_app p (Put q v ∷ s) u = ap (λ b. element_eq p q || b) (writes_app p s u) ∙ or_assoc (element_eq p q) (writes p s) (writes p u)
writes_app p (Plus q v ∷ s) u = writes_app p s u

adds_app : (p : Element) (s u : List Act) → adds p (s ++ u) ≡ adds p s || adds p u
adds_app p [] u = refl
adds_app p (Get q v ∷ s) u = adds_app p s u
adds_app p (Put q v ∷ s) u = adds_app p s u
adds_app p (Plus q v ∷ s) u = ap (λ b. element_eq p q || b) (adds_app p s u) ∙ or_assoc (element_eq p q) (adds p s) (adds p u)

module _ (join : Joins) where
  pub fits_app : (s u : List Act) (m : Cells) → FitsFrom join m s → FitsFrom join (play join s m) u → FitsFrom join m (s ++ u)
  fits_app [] u m f g = g
  fits_app (Get q v ∷ s) u m f g = (f.0, fits_app s u m f.1 g)
  fits_app (Put q v ∷ s) u m f g = fits_app s u _ f g
  fits_app (Plus q v ∷ s) u m f g = fits_app s u _ f g

pub nth_pairs : (ss us : List (List Act)) (k : ℕ) → length ss ≡ length us → nth (pairs ss us) k ≡ nth ss k ++ nth us k
nth_pairs [] [] zero h = refl
nth_pairs [] [] (suc k) h = refl
nth_pairs [] (u ∷ us) k h = let x : ⊥ = omega (arith, h) in absurd x
nth_pairs (s ∷ ss) [] k h = let x : ⊥ = omega (arith, h) in absurd x
nth_pairs (s ∷ ss) (u ∷ us) zero h = refl
nth_pairs (s ∷ ss) (u ∷ us) (suc k) h = nth_pairs ss us k (omega (arith, h))

module _ (join : Joins) (trades : Trades join) where
  -- ---- one element

  module _ (p : Element) where
    all_silent : (s : List Act) (c : Value) → Silent p s → value_after join p s c ≡ c
    all_silent s c h = ap (λ l. (value_after join) p l c) (sym (take_all s)) ∙ after_silent join p s (length s) c h.0 h.1

    pub whole_silent : (ss : List (List Act)) (c : Value) → ((j : ℕ) → Silent p (nth ss j)) → value_after join p (whole ss) c ≡ c
    whole_silent [] c h = refl
    whole_silent (s ∷ ss) c h = after_append join p s (whole ss) c ∙ whole_silent ss _ (λ j. h (suc j)) ∙ all_silent s c (h zero)

    pub whole_own : (ss : List (List Act)) (k : ℕ) (c : Value) → ((j : ℕ) → j ≢ k → Silent p (nth ss j)) → value_after join p (whole ss) c ≡ value_after join p (nth ss k) c
    whole_own [] zero c h = refl
    whole_own [] (suc k) c h = refl
    whole_own (s ∷ ss) zero c h = after_append join p s (whole ss) c ∙ whole_silent ss _ (λ j. h (suc j) (λ e. let x : ⊥ = omega (arith, e) in x))
    whole_own (s ∷ ss) (suc k) c h =
        (after_append join) p s (whole ss) c ∙ ap (value_after join p (whole ss)) (all_silent s c (h zero (λ e. let x : ⊥ = omega (arith, e) in x)))
        ∙ whole_own ss k c (λ j d. h (suc j) (λ e. d (omega (arith, e))))

    all_trade : (s : List Act) (c v : Value) → writes p s ≡ false → value_after join p s (join p.array c v) ≡ join p.array (value_after join p s c) v
    all_trade s c v w =
        ap (λ l. (value_after join) p l (join p.array c v)) (sym (take_all s)) ∙ after_trade join trades p s (length s) c v w ∙ ap (λ l. join p.array (value_after join p l c) v) (take_all s)

    -- lists that only add change places
    swap : (u w : List Act) (c : Value) → writes p u ≡ false → writes p w ≡ false → value_after join p u (value_after join p w c) ≡ value_after join p w (value_after join p u c)
    swap [] w c nu nw = refl
    swap (Get q v ∷ u) w c nu nw = swap u w c nu nw
    swap (Put q v ∷ u) w c nu nw =
        let n = or_false _ _ nu in
        ap (λ b. (value_after join) p u (if b then v else (value_after join) p w c)) n.0 ∙ swap u w c n.1 nw ∙ ap (λ b. (value_after join) p w (value_after join p u (if b then v else c))) (sym n.0)
    swap (Plus q v ∷ u) w c nu nw =
        elim (cases_Bool (element_eq p q)) [
          | inl y ↦
              ap (λ b. (value_after join) p u (if b then join p.array (value_after join p w c) v else (value_after join) p w c)) y
              ∙ ap (value_after join p u) (sym (all_trade w c v nw)) ∙ swap u w (join p.array c v) nu nw
              ∙ ap (λ b. (value_after join) p w (value_after join p u (if b then join p.array c v else c))) (sym y)
          | inr n ↦
              ap (λ b. (value_after join) p u (if b then join p.array (value_after join p w c) v else (value_after join) p w c)) n ∙ swap u w c nu nw
              ∙ ap (λ b. (value_after join) p w (value_after join p u (if b then join p.array c v else c))) (sym n)
        ]

    whole_unwritten : (ss : List (List Act)) → ((j : ℕ) → writes p (nth ss j) ≡ false) → writes p (whole ss) ≡ false
    whole_unwritten [] h = refl
    whole_unwritten (s ∷ ss) h = writes_app p s (whole ss) ∙ ap (λ b. b || writes p (whole ss)) (h zero) ∙ whole_unwritten ss (λ j. h (suc j))

    zip_added : (ss us : List (List Act)) (c : Value) → length ss ≡ length us → ((j : ℕ) → writes p (nth ss j) ≡ false) → ((j : ℕ) → writes p (nth us j) ≡ false)
        → value_after join p (whole (pairs ss us)) c ≡ value_after join p (whole us) (value_after join p (whole ss) c)
    zip_added [] [] c l ns nu = refl
    zip_added [] (u ∷ us) c l ns nu = let x : ⊥ = omega (arith, l) in absurd x
    zip_added (s ∷ ss) [] c l ns nu = let x : ⊥ = omega (arith, l) in absurd x
    zip_added (s ∷ ss) (u ∷ us) c l ns nu =
        let d = value_after join p s c in
        (after_append join) p (s ++ u) (whole (pairs ss us)) c ∙ ap (value_after join p (whole (pairs ss us))) (after_append join p s u c)
        ∙ zip_added ss us (value_after join p u d) (omega (arith, l)) (λ j. ns (suc j)) (λ j. nu (suc j))
        ∙ ap (value_after join p (whole us)) (sym (swap u (whole ss) d (nu zero) (whole_unwritten ss (λ j. ns (suc j)))))
        ∙ sym (after_append join p u (whole us) (value_after join p (whole ss) d))
        ∙ ap (value_after join p (u ++ whole us)) (sym (after_append join p s (whole ss) c))

-- ---- together

or_left : (a b : Bool) → a ≡ true → a || b ≡ true
or_left true b h = refl
or_left false b h = cc

or_right : (a b : Bool) → b ≡ true → a || b ≡ true
or_right true b h = refl
or_right false b h = h

module _ (join : Joins) (trades : Trades join) where
  module _ (ss us : List (List Act)) (same : length ss ≡ length us) where
    r_is : (k : ℕ) (p : Element) → reads p (nth (pairs ss us) k) ≡ reads p (nth ss k) || reads p (nth us k)
    r_is k p = ap (reads p) (nth_pairs ss us k same) ∙ reads_app p (nth ss k) (nth us k)

    w_is : (k : ℕ) (p : Element) → writes p (nth (pairs ss us) k) ≡ writes p (nth ss k) || writes p (nth us k)
    w_is k p = ap (writes p) (nth_pairs ss us k same) ∙ writes_app p (nth ss k) (nth us k)

    a_is : (k : ℕ) (p : Element) → adds p (nth (pairs ss us) k) ≡ adds p (nth ss k) || adds p (nth us k)
    a_is k p = ap (adds p) (nth_pairs ss us k same) ∙ adds_app p (nth ss k) (nth us k)

    no_reads : (k : ℕ) (p : Element) → reads p (nth (pairs ss us) k) ≡ false → (reads p (nth ss k) ≡ false) × (reads p (nth us k) ≡ false)
    no_reads k p h = or_false _ _ (sym (r_is k p) ∙ h)

    no_writes : (k : ℕ) (p : Element) → writes p (nth (pairs ss us) k) ≡ false → (writes p (nth ss k) ≡ false) × (writes p (nth us k) ≡ false)
    no_writes k p h = or_false _ _ (sym (w_is k p) ∙ h)

    no_adds : (k : ℕ) (p : Element) → adds p (nth (pairs ss us) k) ≡ false → (adds p (nth ss k) ≡ false) × (adds p (nth us k) ≡ false)
    no_adds k p h = or_false _ _ (sym (a_is k p) ∙ h)

    module _ (apart : AreApart (pairs ss us)) where
      first_apart : AreApart ss
      first_apart = record {
        written = λ j k p d w.
            let a = apart.written j k p d (w_is j p ∙ or_left _ _ w) in
            ((no_reads k p a.0).0, (no_writes k p a.1).0, (no_adds k p a.2).0);
        gathered = λ j k p h. let a = apart.gathered j k p (a_is j p ∙ or_left _ _ h) in ((no_reads k p a.0).0, (no_writes k p a.1).0);
      }

      second_apart : AreApart us
      second_apart = record {
        written = λ j k p d w.
            let a = apart.written j k p d (w_is j p ∙ or_right _ _ w) in
            ((no_reads k p a.0).1, (no_writes k p a.1).1, (no_adds k p a.2).1);
        gathered = λ j k p h. let a = apart.gathered j k p (a_is j p ∙ or_right _ _ h) in ((no_reads k p a.0).1, (no_writes k p a.1).1);
      }

      -- one element, in the two orders
      zip_same : (first : Cells) (p : Element) (c : Value) → value_after join p (whole (pairs ss us)) c ≡ value_after join p (whole us) (value_after join p (whole ss) c)
      zip_same first p c =
          elim (decide (writes p) refl (pairs ss us)) [
            | inl w ↦
                let quiet = others_silent join trades first (pairs ss us) apart w.0 p w.1 in
                let q : (j : ℕ) → j ≢ w.0 → Silent p (nth ss j) = λ j d. ((no_writes j p (quiet j d).0).0, (no_adds j p (quiet j d).1).0) in
                let r : (j : ℕ) → j ≢ w.0 → Silent p (nth us j) = λ j d. ((no_writes j p (quiet j d).0).1, (no_adds j p (quiet j d).1).1) in
                (whole_own join trades) p (pairs ss us) w.0 c quiet ∙ ap (λ s. (value_after join) p s c) (nth_pairs ss us w.0 same) ∙ after_append join p (nth ss w.0) (nth us w.0) c
                ∙ ap (value_after join p (nth us w.0)) (sym (whole_own join trades p ss w.0 c q)) ∙ sym (whole_own join trades p us w.0 _ r)
            | inr nw ↦ (zip_added join trades) p ss us c same (λ j. (no_writes j p (nw j)).0) (λ j. (no_writes j p (nw j)).1)
          ]

  -- the joined nest runs to the same arrays, and its scripts are those of the two
  pub joined_runs : {X : Type 0} (ps qs : List (Tree X)) (first mid last : Cells) → length ps ≡ length qs → run_all join ps first ≡ Some mid → run_all join qs mid ≡ Some last
      → AreApart (pairs (scripts join ps first) (scripts join qs mid))
      → (run_all join (both ps qs) first ≡ Some last) × (scripts join (both ps qs) first ≡ pairs (scripts join ps first) (scripts join qs mid))
  joined_runs ps qs first mid last same h g apart =
      let ss = scripts join ps first in
      let us = scripts join qs mid in
      let len : length ss ≡ length us = length_scripts join trades ps first ∙ same ∙ sym (length_scripts join trades qs mid) in
      let b = scripts_both join trades ps qs first mid mid last h g in
      let xs = both_parts join trades ps qs first mid in
      let start_is : play join (whole ss) first ≡ mid = all_play join trades ps first mid h in
      let agree : (k : ℕ) (p : Element) → reads p (nth us k) ≡ true → look mid p ≡ look (play join (nth ss k) first) p =
      λ k p r.
      let quiet = readers_alone join trades first (pairs ss us) apart k p (r_is ss us len k p ∙ or_right _ _ r) in
      let q : (j : ℕ) → j ≢ k → Silent p (nth ss j) = λ j d. ((no_writes ss us len j p (quiet j d).0).0, (no_adds ss us len j p (quiet j d).1).0) in
      ap (λ m. look m p) (sym start_is) ∙ play_look join (whole ss) first p ∙ ap (λ f. through f (look first p)) (λ i c. (whole_own join trades) p ss k c q i)
      ∙ sym (play_look join (nth ss k) first p) in
      let fits : (k : ℕ) → FitsFrom join first (nth (pairs ss us) k) =
      λ k. subst (FitsFrom join first) (sym (nth_pairs ss us k len))
      (fits_app join (nth ss k) (nth us k) first
      (each_fits join trades ps first mid (λ j. first) h (first_apart ss us len apart) (λ j p r. refl) k)
      (each_fits join trades qs mid last (λ j. (play join) (nth ss j) first) g (second_apart ss us len apart) agree k)) in
      let r = fit_runs join trades xs first first b.1 (subst AreApart (sym b.0) apart) (λ k. subst (λ l. (FitsFrom join) first (nth l k)) (sym b.0) (fits k)) (λ k p z. refl) in
      let trees_are = trees_both join trades ps qs first mid in
      let end_is : play join (whole (pairs ss us)) first ≡ play join (whole us) (play join (whole ss) first) =
      cells_same _ _ (sizes_play join (whole (pairs ss us)) first ∙ sym (sizes_play join (whole us) (play join (whole ss) first) ∙ sizes_play join (whole ss) first))
      (λ p.
      (play_look join) (whole (pairs ss us)) first p ∙ through_same _ _ (look first p) (λ c l. zip_same ss us len apart first p c)
      ∙ sym (play_look join (whole us) (play join (whole ss) first) p ∙ ap (through (value_after join p (whole us))) (play_look join (whole ss) first p)
      ∙ through_both (value_after join p (whole ss)) (value_after join p (whole us)) (look first p))) in
      let ends : play join (whole (map script_of xs)) first ≡ last =
      ap (λ l. (play join) (whole l) first) b.0 ∙ end_is ∙ ap (play join (whole us)) start_is ∙ all_play join trades qs mid last g in (
        ap (λ q. (run_all join) q first) (sym trees_are) ∙ r.0 ∙ ap (λ c. Some c) ends,
        ap (λ q. (scripts join) q first) (sym trees_are) ∙ r.1 ∙ b.0,
      )
