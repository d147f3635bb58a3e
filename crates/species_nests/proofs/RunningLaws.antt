-- Laws of the runnings of a nest: each iteration did run, and its iterators are values that the loops around it take.
use Rattle.std.proofs.Common.{◌≡◌, arith, refl, ap, sym, ◌∙◌, subst, ℕ, zero, suc, List, [], ◌∷◌, ◌++◌, map, flat_map, ℤ, Some, ◌⊎◌, inl, inr, ⊎_elim}
use Rattle.std.specs.List.{Contains}
use Rattle.std.proofs.lemmas.List.{append-nil, append_assoc}
use Rattle.species_ast.specs.declared.tree.Loop.{Loop}
use Rattle.species_ast.specs.Accesses.{Joins, Cells, cell, Tree, Ret, Stop, Read, Write, Add, Ended, run, accesses}
use Rattle.species_ast.specs.Evaluation.{Frame, Context}
use Rattle.species_ast.specs.Run.{inside, does_scope}
use Rattle.species_ast.proofs.Induction.{Each}
use Rattle.species_nests.specs.Arrivals.{header, Running}
use Rattle.species_nests.specs.Nests.{Placed, nest_of, at_once, values_in, frames, run_all, band}
use Rattle.species_nests.proofs.ArrivalLaws.{running}
use Rattle.species_nests.proofs.IteratorArrivals.{GoesInside}
use Rattle.species_nests.proofs.NestLaws.{keeps_frames, nest_is, band_ran, loops_own, joined}
use Rattle.species_runs.specs.Every.{Gives, IsQuiet}
use Rattle.species_runs.specs.Scopes.{FitIn, outer_locals_set}
use Rattle.species_runs.proofs.EveryLaws.{ended_parts}
use Rattle.species_runs.proofs.TurnLaws.{empty_contains}
use Rattle.species_ast.specs.Run.{turns, outside}
use Rattle.species_nests.specs.Effects.{HasQuietHeader}
use Rattle.species_nests.specs.Meetings.{Ran, on_ended, in_turns, in_loops, iterations_in, running_traces}

pub contains_later : {X : Type 0} (x y : X) (xs : List X) → Contains xs y → Contains (x ∷ xs) y
contains_later x y xs c = (suc c.0, omega (arith, c.1), c.2)

-- a nest's running, where it ended, was that of its iterations
pub running_ran : (join : Joins) (w : Context) (d : ℕ) (r : Running) (g : Frame) (last : Cells) → Each (λ p. HasQuietHeader w p.loop) (nest_of d r.loop r.at).loops
    → FitIn (nest_of d r.loop r.at).body r.frame → outer_locals_set (nest_of d r.loop r.at).body ≡ [] → run join (running w r) r.arrays ≡ Ended g last
    → (g ≡ r.frame)
    × (run_all join (map (does_scope w (nest_of d r.loop r.at).body (nest_of d r.loop r.at).at 0) (frames w (nest_of d r.loop r.at).loops r.frame)) r.arrays ≡ Some last)
    × (accesses join (running w r) r.arrays ≡ joined (running_traces join w d r))
running_ran join w d r g last quiet fit none h =
    let nest = nest_of d r.loop r.at in
    let does = does_scope w nest.body nest.at 0 in
    let same = nest_is w d r.loop r.at r.frame in
    let keeps = keeps_frames w nest.body r.frame fit none nest.at in
    let ended = ap (λ t. run join t r.arrays) (sym same) ∙ h in
    let ran = band_ran join w nest.loops does quiet r.frame.locals keeps r.frame refl r.arrays g last ended in
    let are = loops_own join w nest.loops does quiet r.frame.locals keeps r.frame refl r.arrays g last ended in
    (ran.frame, ran.arrays, ap (λ t. accesses join t r.arrays) same ∙ ran.same_accesses ∙ ap joined (sym are))

contains_append : {X : Type 0} (xs ys : List X) (y : X) → Contains (xs ++ ys) y → Contains xs y ⊎ Contains ys y
contains_append [] ys y c = inr c
contains_append (x ∷ xs) ys y (zero, below, is) = inl (0, omega arith, is)
contains_append (x ∷ xs) ys y (suc k, below, is) =
    ⊎_elim (λ c. inl (contains_later x y xs c)) (λ c. inr c) (contains_append xs ys y (k, omega (arith, below), is))

contains_one : {X : Type 0} (x y : X) → Contains (x ∷ []) y → x ≡ y
contains_one x y (zero, below, is) = is
contains_one x y (suc k, below, is) = absurd (omega (arith, below))

abbrev pub loops_of_nest : List Placed → List Loop
loops_of_nest ls = map (λ p. p.loop) ls

-- ---- iterations as they run

-- the iteration ran from these iterators and some arrays, and ended
pub record DidRun (join : Joins) (Q : List ℤ → Type 0) (does : Frame → Tree Frame) (x : Ran) : Type 0 where
  pub arrays : Cells
  pub end : Frame
  pub last : Cells
  pub ended : run join (does x.frame) arrays ≡ Ended end last
  pub are : x.accesses ≡ accesses join (does x.frame) arrays
  pub iters : Q x.frame.iters

-- what is done inside leaves the iterators
abbrev pub KeepsIters : (Frame → Tree Frame) → Type 0
KeepsIters does = (f : Frame) → Gives (λ g. g.iters ≡ f.iters) (does f)

turns_did : (join : Joins) (P : Ran → Type 0) (each : Frame → Cells → List Ran) (body : Frame → Tree Frame) (is : List ℤ) (f : Frame) (m : Cells) (g : Frame) (n : Cells) → run join (turns is body f) m ≡ Ended g n
    → ((i : ℤ) → Contains is i → (h : Frame) → h.iters ≡ f.iters → (k : Cells) (e : Frame) (l : Cells) → run join (body (inside h i)) k ≡ Ended e l → (x : Ran) → Contains (each (inside h i) k) x → P x)
    → (x : Ran) → Contains (in_turns join each body is f m) x → P x
turns_did join P each body [] f m g n h did x c = absurd (empty_contains x c)
turns_did join P each body (i ∷ is) f m g n h did x c =
    let parts = ended_parts join (body (inside f i)) (λ k. turns is body (outside f k)) m g n h in
    ⊎_elim
    (λ now. did i (0, omega arith, refl) f refl m parts.0 parts.1 parts.2 x now)
    (λ later. turns_did join P each body is (outside f parts.0) parts.1 g n parts.3 (λ j cj h same. did j (contains_later i j is cj) h same) x
    (subst (λ o. Contains (on_ended o (λ g n. in_turns join each body is (outside f g) n)) x) parts.2 later))
    (contains_append (each (inside f i) m) (on_ended (run join (body (inside f i)) m) (λ g n. in_turns join each body is (outside f g) n)) x c)

-- each iteration of a running that ended did run, and its iterators are values that the loops take
pub loops_did : (join : Joins) (w : Context) (Q : List Loop → List ℤ → Type 0) → GoesInside join w Q → (ls : List Placed) (does : Frame → Tree Frame) (around : List Loop) (f : Frame) (m : Cells) (g : Frame) (n : Cells)
    → Q around f.iters → run join (band w ls does f) m ≡ Ended g n → (x : Ran) → Contains (in_loops join w ls does f m) x → DidRun join (Q (around ++ loops_of_nest ls)) does x
loops_did join w Q goes [] does around f m g n q h x c =
    subst (DidRun join (Q (around ++ [])) does) (contains_one (record { frame = f; accesses = accesses join (does f) m }) x c)
    (record { arrays = m; end = g; last = n; ended = h; are = refl; iters = subst (λ ls. Q ls f.iters) (sym (append-nil around)) q })
loops_did join w Q goes (l ∷ ls) does around f m g n q h x c =
    let parts = ended_parts join (header w l.loop l.at f) (λ is. turns is (band w ls does) f) m g n h in
    turns_did join (DidRun join (Q (around ++ loops_of_nest (l ∷ ls))) does) (in_loops join w ls does) (band w ls does) parts.0 f parts.1 g n parts.3
    (λ i ci h same k e last ran y cy.
    let inner : Q (around ++ l.loop ∷ []) (h.iters ++ i ∷ []) = subst (λ is. Q (around ++ l.loop ∷ []) (is ++ i ∷ [])) (sym same) (goes l.loop around l.at f m parts.1 parts.0 i q parts.2 ci) in
    subst (λ xs. DidRun join (Q xs) does y) (append_assoc around (l.loop ∷ []) (loops_of_nest ls)) (loops_did join w Q goes ls does (around ++ l.loop ∷ []) (inside h i) k e last inner ran y cy))
    x (subst (λ o. Contains (on_ended o (λ is n. in_turns join (in_loops join w ls does) (band w ls does) is f n)) x) parts.2 c)

-- the law at the running of a nest
pub iterations_did : (join : Joins) (w : Context) (Q : List Loop → List ℤ → Type 0) → GoesInside join w Q → (d : ℕ) (r : Running) (g : Frame) (last : Cells) → Q r.around r.frame.iters
    → run join (running w r) r.arrays ≡ Ended g last → (x : Ran) → Contains (iterations_in join w d r) x
    → DidRun join (Q (r.around ++ loops_of_nest (nest_of d r.loop r.at).loops)) (does_scope w (nest_of d r.loop r.at).body (nest_of d r.loop r.at).at 0) x
iterations_did join w Q goes d r g last q h x c =
    let nest = nest_of d r.loop r.at in
    loops_did join w Q goes nest.loops (does_scope w nest.body nest.at 0) r.around r.frame r.arrays g last q (ap (λ t. run join t r.arrays) (sym (nest_is w d r.loop r.at r.frame)) ∙ h) x c

-- ---- the iterators of iterations

quiet_values : (join : Joins) → {X : Type 0} (d x : X) (t : Tree X) (m : Cells) → IsQuiet t → (at_once d t ≡ d) ⊎ (run join t m ≡ Ended (at_once d t) m)
quiet_values join d x (Ret y) m q = inr refl
quiet_values join d x (Stop s why) m q = inl refl
quiet_values join d x (Read s e more) m q = absurd (q (cell m e)).0
quiet_values join d x (Write s e v more) m q = absurd q.0
quiet_values join d x (Add s e v more) m q = absurd q.0

contains_part : {X Y : Type 0} (each : X → List Y) (xs : List X) (y : Y) → Contains (flat_map each xs) y → (x : X) × Contains xs x × Contains (each x) y
contains_part each [] y c = absurd (empty_contains y c)
contains_part each (x ∷ xs) y c =
    ⊎_elim (λ here. (x, (0, omega arith, refl), here)) (λ later. let p = contains_part each xs y later in (p.0, contains_later x p.0 xs p.1, p.2)) (contains_append (each x) (flat_map each xs) y c)

pub frames_inside : (join : Joins) (w : Context) (Q : List Loop → List ℤ → Type 0) → GoesInside join w Q → (ls : List Placed) → Each (λ p. HasQuietHeader w p.loop) ls → (around : List Loop) (f : Frame) → Q around f.iters
    → (g : Frame) → Contains (frames w ls f) g → Q (around ++ loops_of_nest ls) g.iters × (g.locals ≡ f.locals)
frames_inside join w Q goes [] quiet around f q g c =
    let same : f ≡ g = contains_one f g c in
    (subst (λ k. Q (around ++ []) k.iters) same (subst (λ ls. Q ls f.iters) (sym (append-nil around)) q), ap (λ k. k.locals) (sym same))
frames_inside join w Q goes (l ∷ ls) quiet around f q g c =
    let part = contains_part (λ i. frames w ls (inside f i)) (values_in w l f) g c in
    let i = part.0 in
    let more : Q (around ++ l.loop ∷ []) (f.iters ++ i ∷ []) =
    ⊎_elim (λ none. absurd (empty_contains i (subst (λ is. Contains is i) none part.1))) (λ ran. goes l.loop around l.at f [] [] (values_in w l f) i q ran part.1)
    (quiet_values join [] [] (header w l.loop l.at f) [] (quiet.0 l.at f)) in
    let rest = frames_inside join w Q goes ls quiet.1 (around ++ l.loop ∷ []) (inside f i) more g part.2 in
    (subst (λ xs. Q xs g.iters) (append_assoc around (l.loop ∷ []) (loops_of_nest ls)) rest.0, rest.1)
