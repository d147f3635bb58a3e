-- A moment is determined by its position and by the iterators of its frame.
use Rattle.std.proofs.Common.{◌≡◌, arith, ap, sym, ◌∙◌, subst, ℕ, suc, ◌+◌, List, [], ◌∷◌, ◌++◌, length, ℤ, true, false, ◌⊎◌, ⊎_elim}
use Rattle.std.proofs.lemmas.List.{append-nil, append_assoc}
use Rattle.species_ast.specs.declared.tree.Loop.{Loop, out-Loop}
use Rattle.species_ast.specs.declared.tree.Stmt.{Stmt, out-Stmt}
use Rattle.species_ast.specs.declared.tree.Stmt.TheOpen.{Stmt-F}
use Rattle.species_ast.specs.declared.tree.Stmt.TheVariants as stmt
use Rattle.species_ast.specs.Operators.{is_true}
use Rattle.species_ast.specs.Accesses.{Joins, Cells, Ended, run}
use Rattle.species_ast.specs.Evaluation.{Frame, Context, sense}
use Rattle.species_ast.specs.Run.{inside, turns, spot}
use Rattle.species_nests.specs.Arrivals.{header, turn_of, Moment, Reaches, here, in_turn, in_body, in_otherwise, in_block, ReachesIn, first, later}
use Rattle.species_nests.proofs.Inversion.{beginning, IsInside, reached, reached_in, out-For, out-If, out-Block}
use Rattle.species_nests.proofs.IteratorArrivals.{GoesInside, reaches_in_iters, turns_iters}
use Rattle.species_runs.specs.Distinct.{Distinct}
use Rattle.species_runs.specs.Every.{Anything}
use Rattle.species_runs.proofs.EveryLaws.{every_ended, gives_behind, same_end}
use Rattle.species_runs.proofs.TurnLaws.{values_distinct, same_before}

header_distinct : (join : Joins) (w : Context) (l : Loop) (at : List ℕ) (f : Frame) (m : Cells) (is : List ℤ) (n : Cells) → run join (header w l at f) m ≡ Ended is n → Distinct is
header_distinct join w l at f m is n h =
    every_ended join Anything Distinct (header w l at f) m is n
    (gives_behind Distinct ((sense w (out-Loop l).start).does (spot (out-Loop l).place at) 0 f) _ (λ a.
    gives_behind Distinct ((sense w (out-Loop l).limit).does (spot (out-Loop l).place at) (sense w (out-Loop l).start).elements f) _ (λ b.
    values_distinct (out-Loop l).test _ _ (out-Loop l).step))) h

-- ---- where a moment is

mutual
  below : (join : Joins) (w : Context) (r : Moment) (x : Stmt) (around : List Loop) (at : List ℕ) (f : Frame) (m : Cells) → Reaches join w r x around at f m → (rest : List ℕ) × (r.at ≡ at ++ rest)
  below join w r x around at f m here = ([], sym (append-nil r.at))
  below join w r x around at f m (in_turn l _ _ _ g _ begun n before i behind is ended inner) = let b = below_in join w r (out-Loop l).body (around ++ l ∷ []) at 0 (inside g i) n inner in (_, b.2)
  below join w r x around at f m (in_body place test body otherwise _ _ _ _ n v is taken inner) = let b = below_in join w r body around at 0 f n inner in (_, b.2)
  below join w r x around at f m (in_otherwise place test body otherwise _ _ _ _ n v is taken inner) = let b = below_in join w r otherwise around at (length body) f n inner in (_, b.2)
  below join w r x around at f m (in_block body _ _ _ _ inner) = let b = below_in join w r body around at 0 f m inner in (_, b.2)

  below_in : (join : Joins) (w : Context) (r : Moment) (xs : List Stmt) (around : List Loop) (at : List ℕ) (k : ℕ) (f : Frame) (m : Cells) → ReachesIn join w r xs around at k f m
      → (j : ℕ) × (rest : List ℕ) × (r.at ≡ at ++ (k + j) ∷ rest)
  below_in join w r xs around at k f m (first x rest _ _ _ _ _ inner) =
      let b = below join w r x around (at ++ k ∷ []) f m inner in
      let same : k ≡ k + 0 = omega arith in
      (0, b.0, b.1 ∙ append_assoc at (k ∷ []) b.0 ∙ ap (λ n. at ++ n ∷ b.0) same)
  below_in join w r xs around at k f m (later x rest _ _ _ _ g _ n ended inner) =
      let b = below_in join w r rest around at (suc k) g n inner in
      let same : suc k + b.0 ≡ k + suc b.0 = omega arith in
      (suc b.0, b.1, b.2 ∙ ap (λ n. at ++ n ∷ b.1) same)

inside_below : (join : Joins) (w : Context) (r : Moment) (x : Stmt-F Stmt Loop) (around : List Loop) (at : List ℕ) (f : Frame) (m : Cells) → IsInside join w r x around at f m
    → (j : ℕ) × (rest : List ℕ) × (r.at ≡ at ++ j ∷ rest)
inside_below join w r (Stmt-F.Assign place a subs value) around at f m c = absurd c
inside_below join w r (Stmt-F.AddTo place a subs value atomic) around at f m c = absurd c
inside_below join w r (Stmt-F.Declare place x init) around at f m c = absurd c
inside_below join w r (Stmt-F.SetLocal place x value) around at f m c = absurd c
inside_below join w r (Stmt-F.If place test body otherwise) around at f m c = ⊎_elim
    (λ t. let b = below_in join w r body around at 0 f c.arrays t.1 in (0 + b.0, b.1, b.2))
    (λ t. let b = below_in join w r otherwise around at (length body) f c.arrays t.1 in (length body + b.0, b.1, b.2))
    c.inner
inside_below join w r (Stmt-F.For l) around at f m c = let b = below_in join w r (out-Loop l).body (around ++ l ∷ []) at 0 (inside c.frame c.i) c.arrays c.inner in (0 + b.0, b.1, b.2)
inside_below join w r (Stmt-F.Block body) around at f m c = let b = below_in join w r body around at 0 f m c in (0 + b.0, b.1, b.2)

cancel : {X : Type 0} (at xs ys : List X) → at ++ xs ≡ at ++ ys → xs ≡ ys
cancel [] xs ys h = h
cancel (a ∷ at) xs ys h = let tail : at ++ xs ≡ at ++ ys = cc in cancel at xs ys tail

not_below : (at : List ℕ) (j : ℕ) (rest : List ℕ) → at ≡ at ++ j ∷ rest → ⊥
not_below at j rest h = let e : [] ≡ j ∷ rest = cancel at [] (j ∷ rest) (append-nil at ∙ h) in absurd cc

-- the iterators of a moment inside a turn begin with those of the turn
goes_on_from : (join : Joins) (w : Context) (base : List ℤ) → GoesInside join w (λ around is. (rest : List ℤ) × (is ≡ base ++ rest))
goes_on_from join w base l around at f m begun is i q ran c = (q.0 ++ i ∷ [], ap (λ xs. xs ++ i ∷ []) q.1 ∙ append_assoc base q.0 (i ∷ []))

iters_below : (join : Joins) (w : Context) (r : Moment) (xs : List Stmt) (around : List Loop) (at : List ℕ) (k : ℕ) (f : Frame) (m : Cells) → ReachesIn join w r xs around at k f m
    → (rest : List ℤ) × (r.frame.iters ≡ f.iters ++ rest)
iters_below join w r xs around at k f m c =
    reaches_in_iters join w (λ around is. (rest : List ℤ) × (is ≡ f.iters ++ rest)) (goes_on_from join w f.iters) r xs around at k f m c ([], sym (append-nil f.iters))

-- what is known at a statement of a known form
into : (join : Joins) (w : Context) (s : Moment) (x : Stmt) (y : Stmt-F Stmt Loop) → out-Stmt x ≡ y → (around : List Loop) (at : List ℕ) (f : Frame) (m : Cells)
    → (beginning x around at f m ≡ s) ⊎ IsInside join w s (out-Stmt x) around at f m → (beginning x around at f m ≡ s) ⊎ IsInside join w s y around at f m
into join w s x y same around at f m c = subst (λ z. (beginning x around at f m ≡ s) ⊎ IsInside join w s z around at f m) same c

-- ---- the law

mutual
  pub unique : (join : Joins) (w : Context) (r s : Moment) (x : Stmt) (around : List Loop) (at : List ℕ) (f : Frame) (m : Cells) → Reaches join w r x around at f m → Reaches join w s x around at f m
      → r.at ≡ s.at → r.frame.iters ≡ s.frame.iters → r ≡ s
  unique join w r s x around at f m here e place its =
      ⊎_elim
      (λ same. same)
      (λ t. let b = inside_below join w s (out-Stmt x) around at f m t in absurd (not_below r.at b.0 b.1 (place ∙ b.2)))
      (reached join w s x around at f m e)
  unique join w r s x around at f m (in_turn l _ _ _ g _ begun n before i behind is ended inner) e place its =
      ⊎_elim
      (λ same. let b = below_in join w r (out-Loop l).body (around ++ l ∷ []) at 0 (inside g i) n inner in absurd (not_below at (0 + b.0) b.1 (ap (λ q. q.at) same ∙ sym place ∙ b.2)))
      (λ t.
      let values = same_end (run join (header w l at f) m) (before ++ i ∷ behind) (t.before ++ t.i ∷ t.behind) begun t.begun is t.values in
      let mine = iters_below join w r (out-Loop l).body (around ++ l ∷ []) at 0 (inside g i) n inner in
      let other = iters_below join w s (out-Loop l).body (around ++ l ∷ []) at 0 (inside t.frame t.i) t.arrays t.inner in
      let both : f.iters ++ i ∷ mine.0 ≡ f.iters ++ t.i ∷ other.0 =
      sym (append_assoc f.iters (i ∷ []) mine.0) ∙ ap (λ xs. (xs ++ i ∷ []) ++ mine.0) (sym (turns_iters join w l at before f g begun n ended)) ∙ sym mine.1 ∙ its ∙ other.1
      ∙ ap (λ xs. (xs ++ t.i ∷ []) ++ other.0) (turns_iters join w l at t.before f t.frame t.begun t.arrays t.ended) ∙ append_assoc f.iters (t.i ∷ []) other.0
      in
      let tails = cancel f.iters (i ∷ mine.0) (t.i ∷ other.0) both in
      let one : i ≡ t.i = cc in
      let fronts : before ≡ t.before = same_before before t.before i behind t.behind (header_distinct join w l at f m (before ++ i ∷ behind) begun is) (values.0 ∙ ap (λ j. t.before ++ j ∷ t.behind) (sym one)) in
      let again : run join (turns before (turn_of w l at) f) begun ≡ Ended t.frame t.arrays = (λ j. run join (turns (fronts j) (turn_of w l at) f) (values.1 j)) ∙ t.ended in
      let ends = same_end (run join (turns before (turn_of w l at) f) begun) g t.frame n t.arrays ended again in
      let moved : ReachesIn join w s (out-Loop l).body (around ++ l ∷ []) at 0 (inside g i) n =
      subst (λ c. ReachesIn join w s (out-Loop l).body (around ++ l ∷ []) at 0 (inside g i) c) (sym ends.1)
      (subst (λ h. ReachesIn join w s (out-Loop l).body (around ++ l ∷ []) at 0 (inside h i) t.arrays) (sym ends.0)
      (subst (λ j. ReachesIn join w s (out-Loop l).body (around ++ l ∷ []) at 0 (inside t.frame j) t.arrays) (sym one) t.inner))
      in
      unique_in join w r s (out-Loop l).body (around ++ l ∷ []) at 0 (inside g i) n inner moved place its)
      (into join w s (stmt.For l) (Stmt-F.For l) (out-For l) around at f m (reached join w s (stmt.For l) around at f m e))
  unique join w r s x around at f m (in_body test_place test body otherwise _ _ _ _ n v is taken inner) e place its =
      ⊎_elim
      (λ same. let b = below_in join w r body around at 0 f n inner in absurd (not_below at (0 + b.0) b.1 (ap (λ q. q.at) same ∙ sym place ∙ b.2)))
      (λ c.
      let ends = same_end _ v c.value n c.arrays is c.tested in
      ⊎_elim
      (λ t. unique_in join w r s body around at 0 f n inner (subst (λ k. ReachesIn join w s body around at 0 f k) (sym ends.1) t.1) place its)
      (λ t. let no_way : true ≡ false = sym taken ∙ ap is_true ends.0 ∙ t.0 in absurd cc)
      c.inner)
      (into join w s (stmt.If test_place test body otherwise) (Stmt-F.If test_place test body otherwise) (out-If test_place test body otherwise) around at f m
      (reached join w s (stmt.If test_place test body otherwise) around at f m e))
  unique join w r s x around at f m (in_otherwise test_place test body otherwise _ _ _ _ n v is taken inner) e place its =
      ⊎_elim
      (λ same. let b = below_in join w r otherwise around at (length body) f n inner in absurd (not_below at (length body + b.0) b.1 (ap (λ q. q.at) same ∙ sym place ∙ b.2)))
      (λ c.
      let ends = same_end _ v c.value n c.arrays is c.tested in
      ⊎_elim
      (λ t. let no_way : true ≡ false = sym t.0 ∙ ap is_true (sym ends.0) ∙ taken in absurd cc)
      (λ t. unique_in join w r s otherwise around at (length body) f n inner (subst (λ k. ReachesIn join w s otherwise around at (length body) f k) (sym ends.1) t.1) place its)
      c.inner)
      (into join w s (stmt.If test_place test body otherwise) (Stmt-F.If test_place test body otherwise) (out-If test_place test body otherwise) around at f m
      (reached join w s (stmt.If test_place test body otherwise) around at f m e))
  unique join w r s x around at f m (in_block body _ _ _ _ inner) e place its =
      ⊎_elim
      (λ same. let b = below_in join w r body around at 0 f m inner in absurd (not_below at (0 + b.0) b.1 (ap (λ q. q.at) same ∙ sym place ∙ b.2)))
      (λ c. unique_in join w r s body around at 0 f m inner c place its)
      (into join w s (stmt.Block body) (Stmt-F.Block body) (out-Block body) around at f m (reached join w s (stmt.Block body) around at f m e))

  pub unique_in : (join : Joins) (w : Context) (r s : Moment) (xs : List Stmt) (around : List Loop) (at : List ℕ) (k : ℕ) (f : Frame) (m : Cells) → ReachesIn join w r xs around at k f m → ReachesIn join w s xs around at k f m
      → r.at ≡ s.at → r.frame.iters ≡ s.frame.iters → r ≡ s
  unique_in join w r s xs around at k f m (first x rest _ _ _ _ _ inner) e place its =
      ⊎_elim
      (λ c. unique join w r s x around (at ++ k ∷ []) f m inner c place its)
      (λ c.
      let b = below join w r x around (at ++ k ∷ []) f m inner in
      let d = below_in join w s rest around at (suc k) c.frame c.arrays c.inner in
      let both : k ∷ b.0 ≡ (suc k + d.0) ∷ d.1 = cancel at (k ∷ b.0) ((suc k + d.0) ∷ d.1) (sym (append_assoc at (k ∷ []) b.0) ∙ sym b.1 ∙ place ∙ d.2) in
      let heads : k ≡ suc k + d.0 = cc in
      let no_way : ⊥ = omega (arith, heads) in absurd no_way)
      (reached_in join w s x rest around at k f m e)
  unique_in join w r s xs around at k f m (later x rest _ _ _ _ g _ n ended inner) e place its =
      ⊎_elim
      (λ c.
      let b = below join w s x around (at ++ k ∷ []) f m c in
      let d = below_in join w r rest around at (suc k) g n inner in
      let both : k ∷ b.0 ≡ (suc k + d.0) ∷ d.1 = cancel at (k ∷ b.0) ((suc k + d.0) ∷ d.1) (sym (append_assoc at (k ∷ []) b.0) ∙ sym b.1 ∙ sym place ∙ d.2) in
      let heads : k ≡ suc k + d.0 = cc in
      let no_way : ⊥ = omega (arith, heads) in absurd no_way)
      (λ c.
      let ends = same_end _ g c.frame n c.arrays ended c.ended in
      unique_in join w r s rest around at (suc k) g n inner
      (subst (λ h. ReachesIn join w s rest around at (suc k) h n) (sym ends.0) (subst (λ a. ReachesIn join w s rest around at (suc k) c.frame a) (sym ends.1) c.inner)) place its)
      (reached_in join w s x rest around at k f m e)
