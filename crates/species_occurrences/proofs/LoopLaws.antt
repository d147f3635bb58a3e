-- The accesses of a loop are those of its turns, and those of a nest are those of its iterations, one after another, for any body.
use Rattle.std.proofs.Common.{◌≡◌, refl, ap, sym, ◌∙◌, ℕ, suc, List, [], ◌∷◌, ◌++◌, map, flat_map, length, ℤ}
use Rattle.std.proofs.lemmas.List.{append-nil, append_assoc}
use Rattle.species_ast.specs.Accesses.{Joins, Cells, cell, Tree, Ret, Stop, Read, Write, Add, Cause, Outcome, Ended, Stopped, run, Access, accesses}
use Rattle.species_ast.specs.Evaluation.{Frame, Context}
use Rattle.species_ast.specs.Run.{inside, outside, turns, does_scope, source_context}
use Rattle.species_ast.proofs.AccessLaws.{go_on, accesses_on, run-then_do, accesses-then_do}
use Rattle.species_ast.proofs.Induction.{Each}
use Rattle.species_runs.specs.Every.{IsQuiet}
use Rattle.species_nests.specs.Arrivals.{header, turn_of}
use Rattle.species_nests.specs.Effects.{HasQuietHeader}
use Rattle.species_nests.specs.Meetings.{Ran, on_ended, in_turns, in_loops}
use Rattle.species_nests.specs.Nests.{Placed, nest_of, band}
use Rattle.species_nests.proofs.ArrivalLaws.{loop_is_header}
use Rattle.species_nests.proofs.FitLaws.{running_fits}
use Rattle.species_nests.proofs.NestFits.{nest_quiet}
use Rattle.species_nests.proofs.NestLaws.{nest_is}
use Rattle.species_occurrences.specs.Turns.{Turn, turns_behind, turns_from, loop_turns, turns_accesses, LoopsAreTheirTurns, RunningsAreTheirTurns, RunningsAreTheirIterations, ran_in, TurnsAreIterations}

-- ---- turns

-- behind what has this outcome, if that is so wherever it ended
behind_are : {X : Type 0} (join : Joins) (body : Frame → Tree Frame) (o : Outcome X) (next : X → Cells → List Access) (more : X → Cells → List Turn)
    → ((x : X) (n : Cells) → next x n ≡ turns_accesses join body (more x n)) → accesses_on o next ≡ turns_accesses join body (turns_behind o more)
behind_are join body (Ended x n) next more h = h x n
behind_are join body (Stopped why place) next more h = refl

-- The accesses of turns are those of each from the frame and the arrays in which it begins, one after another.
pub turns_are : (join : Joins) (body : Frame → Tree Frame) (is : List ℤ) (f : Frame) (m : Cells)
    → accesses join (turns is body f) m ≡ turns_accesses join body (turns_from join body is f m)
turns_are join body [] f m = refl
turns_are join body (i ∷ is) f m =
    accesses-then_do join (body (inside f i)) (λ g. turns is body (outside f g)) m
    ∙ ap (λ xs. accesses join (body (inside f i)) m ++ xs)
    (behind_are join body (run join (body (inside f i)) m) (λ g n. accesses join (turns is body (outside f g)) n) (λ g n. turns_from join body is (outside f g) n)
    (λ g n. turns_are join body is (outside f g) n))

-- The accesses of a loop are those of its header, and then those of its turns.
pub loops_are_turns : LoopsAreTheirTurns
loops_are_turns join w l at f m =
    ap (λ t. accesses join t m) (loop_is_header w l at f)
    ∙ accesses-then_do join (header w l at f) (λ is. turns is (turn_of w l at) f) m
    ∙ ap (λ xs. accesses join (header w l at f) m ++ xs)
    (behind_are join (turn_of w l at) (run join (header w l at f) m) (λ is n. accesses join (turns is (turn_of w l at) f) n) (λ is n. turns_from join (turn_of w l at) is f n)
    (λ is n. turns_are join (turn_of w l at) is f n))

-- ---- where turns begin and end

-- Where the first turns ended, the next begin in the frame and the arrays in which they did.
pub turns_append : (join : Joins) (body : Frame → Tree Frame) (before behind : List ℤ) (f : Frame) (m : Cells) (g : Frame) (n : Cells) → run join (turns before body f) m ≡ Ended g n
    → turns_from join body (before ++ behind) f m ≡ turns_from join body before f m ++ turns_from join body behind g n
turns_append join body [] behind f m g n h = (λ i. turns_from join body behind (frame_of f (h i)) (arrays_of m (h i)))
  where
    frame_of : Frame → Outcome Frame → Frame
    frame_of f (Ended g n) = g
    frame_of f (Stopped why place) = f

    arrays_of : Cells → Outcome Frame → Cells
    arrays_of m (Ended g n) = n
    arrays_of m (Stopped why place) = m
turns_append join body (i ∷ is) behind f m g n h =
    go (λ k c e. turns_append join body is behind (outside f k) c g n e) (run join (body (inside f i)) m)
    (sym (run-then_do join (body (inside f i)) (λ k. turns is body (outside f k)) m) ∙ h)
  where
    go : ((k : Frame) (c : Cells) → run join (turns is body (outside f k)) c ≡ Ended g n
        → turns_from join body (is ++ behind) (outside f k) c ≡ turns_from join body is (outside f k) c ++ turns_from join body behind g n)
        → (o : Outcome Frame) → go_on o (λ k c. run join (turns is body (outside f k)) c) ≡ Ended g n
        → record { frame = inside f i; arrays = m } ∷ turns_behind o (λ k c. turns_from join body (is ++ behind) (outside f k) c)
        ≡ (record { frame = inside f i; arrays = m } ∷ turns_behind o (λ k c. turns_from join body is (outside f k) c)) ++ turns_from join body behind g n
    go ih (Ended k c) e = ap (λ ts. record { frame = inside f i; arrays = m } ∷ ts) (ih k c e)
    go ih (Stopped why place) e = absurd cc

-- Where all turns ended there is one for each value of the iterator.
pub turns_all : (join : Joins) (body : Frame → Tree Frame) (is : List ℤ) (f : Frame) (m : Cells) (g : Frame) (n : Cells) → run join (turns is body f) m ≡ Ended g n
    → length (turns_from join body is f m) ≡ length is
turns_all join body [] f m g n h = refl
turns_all join body (i ∷ is) f m g n h =
    go (λ k c e. turns_all join body is (outside f k) c g n e) (run join (body (inside f i)) m)
    (sym (run-then_do join (body (inside f i)) (λ k. turns is body (outside f k)) m) ∙ h)
  where
    go : ((k : Frame) (c : Cells) → run join (turns is body (outside f k)) c ≡ Ended g n → length (turns_from join body is (outside f k) c) ≡ length is)
        → (o : Outcome Frame) → go_on o (λ k c. run join (turns is body (outside f k)) c) ≡ Ended g n
        → suc (length (turns_behind o (λ k c. turns_from join body is (outside f k) c))) ≡ suc (length is)
    go ih (Ended k c) e = ap suc (ih k c e)
    go ih (Stopped why place) e = absurd cc

-- some turns, and a last one that traps in this way
abbrev pub EndsInTrap : Joins → (Frame → Tree Frame) → List Turn → Cause → ℕ → Type 0
EndsInTrap join body ts why place = (before : List Turn) × (last : Turn) × (ts ≡ before ++ last ∷ []) × (run join (body last.frame) last.arrays ≡ Stopped why place)

-- Where turns trap, the last that begins is the one that does.
pub turns_trap : (join : Joins) (body : Frame → Tree Frame) (is : List ℤ) (f : Frame) (m : Cells) (why : Cause) (place : ℕ) → run join (turns is body f) m ≡ Stopped why place
    → EndsInTrap join body (turns_from join body is f m) why place
turns_trap join body [] f m why place h = absurd cc
turns_trap join body (i ∷ is) f m why place h =
    go (λ k c e. turns_trap join body is (outside f k) c why place e) (run join (body (inside f i)) m) refl
    (sym (run-then_do join (body (inside f i)) (λ k. turns is body (outside f k)) m) ∙ h)
  where
    go : ((k : Frame) (c : Cells) → run join (turns is body (outside f k)) c ≡ Stopped why place → EndsInTrap join body (turns_from join body is (outside f k) c) why place)
        → (o : Outcome Frame) → run join (body (inside f i)) m ≡ o → go_on o (λ k c. run join (turns is body (outside f k)) c) ≡ Stopped why place
        → EndsInTrap join body (record { frame = inside f i; arrays = m } ∷ turns_behind o (λ k c. turns_from join body is (outside f k) c)) why place
    go ih (Ended k c) is e =
        let rest = ih k c e in
        (record { frame = inside f i; arrays = m } ∷ rest.0, rest.1, ap (λ ts. record { frame = inside f i; arrays = m } ∷ ts) rest.2, rest.3)
    go ih (Stopped other there) is e = ([], record { frame = inside f i; arrays = m }, refl, is ∙ e)

-- ---- nests

-- what touches no array has no access
pub quiet_accesses : {X : Type 0} (join : Joins) (t : Tree X) (m : Cells) → IsQuiet t → accesses join t m ≡ []
quiet_accesses join (Ret x) m quiet = refl
quiet_accesses join (Stop s why) m quiet = refl
quiet_accesses join (Read s e more) m quiet = absurd (quiet (cell m e)).0
quiet_accesses join (Write s e v more) m quiet = absurd quiet.0
quiet_accesses join (Add s e v more) m quiet = absurd quiet.0

-- the accesses of iterations, one after another
abbrev pub all_accesses : List Ran → List Access
all_accesses rs = flat_map (λ xs. xs) (map (λ (r : Ran). r.accesses) rs)

all_accesses-append : (xs ys : List Ran) → all_accesses (xs ++ ys) ≡ all_accesses xs ++ all_accesses ys
all_accesses-append [] ys = refl
all_accesses-append (x ∷ xs) ys = ap (λ l. x.accesses ++ l) (all_accesses-append xs ys) ∙ sym (append_assoc x.accesses (all_accesses xs) (all_accesses ys))

on_ended_are : {X : Type 0} (o : Outcome X) (next : X → Cells → List Access) (more : X → Cells → List Ran)
    → ((x : X) (n : Cells) → next x n ≡ all_accesses (more x n)) → accesses_on o next ≡ all_accesses (on_ended o more)
on_ended_are (Ended x n) next more h = h x n
on_ended_are (Stopped why place) next more h = refl

in_turns_are : (join : Joins) (each : Frame → Cells → List Ran) (body : Frame → Tree Frame) → ((f : Frame) (m : Cells) → accesses join (body f) m ≡ all_accesses (each f m))
    → (is : List ℤ) (f : Frame) (m : Cells) → accesses join (turns is body f) m ≡ all_accesses (in_turns join each body is f m)
in_turns_are join each body one [] f m = refl
in_turns_are join each body one (i ∷ is) f m =
    let behind = on_ended (run join (body (inside f i)) m) (λ g n. in_turns join each body is (outside f g) n) in
    accesses-then_do join (body (inside f i)) (λ g. turns is body (outside f g)) m
    ∙ ap (λ xs. xs ++ accesses_on (run join (body (inside f i)) m) (λ g n. accesses join (turns is body (outside f g)) n)) (one (inside f i) m)
    ∙ ap (λ xs. all_accesses (each (inside f i) m) ++ xs)
    (on_ended_are (run join (body (inside f i)) m) (λ g n. accesses join (turns is body (outside f g)) n) (λ g n. in_turns join each body is (outside f g) n)
    (λ g n. in_turns_are join each body one is (outside f g) n))
    ∙ sym (all_accesses-append (each (inside f i) m) behind)

-- The accesses of loops whose headers touch no array, around any body, are those of the iterations as they run.
pub loops_are_iterations : (join : Joins) (w : Context) (ls : List Placed) (does : Frame → Tree Frame) → Each (λ p. HasQuietHeader w p.loop) ls → (f : Frame) (m : Cells)
    → accesses join (band w ls does f) m ≡ all_accesses (in_loops join w ls does f m)
loops_are_iterations join w [] does quiet f m = sym (append-nil (accesses join (does f) m))
loops_are_iterations join w (l ∷ ls) does quiet f m =
    accesses-then_do join (header w l.loop l.at f) (λ is. turns is (band w ls does) f) m
    ∙ ap (λ xs. xs ++ accesses_on (run join (header w l.loop l.at f) m) (λ is n. accesses join (turns is (band w ls does) f) n))
    (quiet_accesses join (header w l.loop l.at f) m (quiet.0 l.at f))
    ∙ on_ended_are (run join (header w l.loop l.at f) m) (λ is n. accesses join (turns is (band w ls does) f) n) (λ is n. in_turns join (in_loops join w ls does) (band w ls does) is f n)
    (λ is n. in_turns_are join (in_loops join w ls does) (band w ls does) (λ g k. loops_are_iterations join w ls does quiet.1 g k) is f n)

-- ---- in a well made unit

-- The accesses of a loop's running are those of its turns.
pub runnings_are_turns : RunningsAreTheirTurns
runnings_are_turns join u m r made comes =
    let w = source_context u in
    let quiet = nest_quiet w 0 r (running_fits join u m r made comes) in
    loops_are_turns join w r.loop r.at r.frame r.arrays
    ∙ ap (λ xs. xs ++ turns_accesses join (turn_of w r.loop r.at) (loop_turns join w r.loop r.at r.frame r.arrays)) (quiet_accesses join (header w r.loop r.at r.frame) r.arrays (quiet.0 r.at r.frame))

-- They are those of the iterations of its nest.
pub runnings_are_iterations : RunningsAreTheirIterations
runnings_are_iterations join u m d r made comes =
    let w = source_context u in
    let nest = nest_of d r.loop r.at in
    ap (λ t. accesses join t r.arrays) (nest_is w d r.loop r.at r.frame)
    ∙ loops_are_iterations join w nest.loops (does_scope w nest.body nest.at 0) (nest_quiet w d r (running_fits join u m r made comes)) r.frame r.arrays

-- ---- turns as iterations

behind_same : {X : Type 0} (join : Joins) (body : Frame → Tree Frame) (o : Outcome X) (next : X → Cells → List Ran) (more : X → Cells → List Turn)
    → ((x : X) (n : Cells) → next x n ≡ map (ran_in join body) (more x n)) → on_ended o next ≡ map (ran_in join body) (turns_behind o more)
behind_same join body (Ended x n) next more h = h x n
behind_same join body (Stopped why place) next more h = refl

in_turns_same : (join : Joins) (body : Frame → Tree Frame) (is : List ℤ) (f : Frame) (m : Cells)
    → in_turns join (λ g n. record { frame = g; accesses = accesses join (body g) n } ∷ []) body is f m ≡ map (ran_in join body) (turns_from join body is f m)
in_turns_same join body [] f m = refl
in_turns_same join body (i ∷ is) f m =
    let each : Frame → Cells → List Ran = λ g n. record { frame = g; accesses = accesses join (body g) n } ∷ [] in
    ap (λ rs. record { frame = inside f i; accesses = accesses join (body (inside f i)) m } ∷ rs)
    (behind_same join body (run join (body (inside f i)) m) (λ g n. in_turns join each body is (outside f g) n) (λ g n. turns_from join body is (outside f g) n)
    (λ g n. in_turns_same join body is (outside f g) n))

-- The iterations of a nest of one loop are its turns.
pub turns_are_iterations : TurnsAreIterations
turns_are_iterations join w r =
    let body = turn_of w r.loop r.at in
    let each : Frame → Cells → List Ran = λ g n. record { frame = g; accesses = accesses join (body g) n } ∷ [] in
    behind_same join body (run join (header w r.loop r.at r.frame) r.arrays) (λ is n. in_turns join each body is r.frame n) (λ is n. turns_from join body is r.frame n)
    (λ is n. in_turns_same join body is r.frame n)
