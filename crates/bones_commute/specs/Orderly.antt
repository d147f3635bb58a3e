-- Orderly units: where every interleaving of their parallel nests ends alike, and what holds of their plays.
use Rattle.std.specs.Prelude.{◌≡◌, ℕ, ◌+◌, ◌-◌, ◌≤◌, List, [], ◌∷◌, ◌++◌, map, filter, flat_map, length, Bool, true, false, Option, Some, None}
use Rattle.species_ast.specs.declared.tree.Mark.TheVariants.{Parallel}
use Rattle.species_ast.specs.declared.tree.Schedule.{Schedule}
use Rattle.species_ast.specs.declared.tree.Loop.{out-Loop}
use Rattle.species_ast.specs.declared.tree.Unit.{Unit as Program}
use Rattle.species_ast.specs.Marks.{all_true}
use Rattle.species_ast.specs.Scope.WellMade.{IsWellMade}
use Rattle.species_ast.specs.Strip.{source_of}
use Rattle.species_ast.specs.Accesses.{Joins, sums, Cells, cell, changed, Tree, Ended, Access, access, Reads, Writes, Adds}
use Rattle.species_ast.specs.Evaluation.{Frame, Context}
use Rattle.species_ast.specs.Run.{AreArraysOf, source_context, source_run, source_accesses, sums_take}
use Rattle.species_runs.specs.Scopes.{outer_locals_set}
use Rattle.species_nests.specs.Arrivals.{Running, ComesTo}
use Rattle.species_nests.specs.Effects.{adds_taken, AddsTaken}
use Rattle.species_nests.specs.Meetings.{IsApart, running_traces}
use Rattle.species_nests.specs.Nests.{nest_of, run_all, traces}
use Rattle.bones_meaning.specs.Gatherings.{Gatherings, sum_gatherings}
use Rattle.bones_meaning.specs.Courses.{Course, Over, Halt, Reading, Writing, Adding, Together, course_of}
use Rattle.bones_meaning.specs.Plays.{Position, Finished, IsPlay, Faults}
use Rattle.bones_commute.specs.Trades.{Trades}

-- ---- orderly units

-- A running of a parallel nest with so many loops below its first is orderly.
pub record IsOrderlyRunning (join : Joins) (gathers : Gatherings) (w : Context) (d : ℕ) (r : Running) : Type 0 where
  -- an atomic addition in it joins as one outside of nests does
  pub joins : (gathers r.at).join ≡ join
  -- it sets no local that is declared outside it
  pub locals : outer_locals_set (nest_of d r.loop r.at).body ≡ []
  -- it adds atomically only to arrays that take it
  pub adds : all_true (map (adds_taken (gathers r.at).takes w) (nest_of d r.loop r.at).body) ≡ true
  -- each element to which is added, or on which two iterations meet, is accessed by additions alone
  pub apart : IsApart (running_traces join w d r)

-- A marked unit is orderly from these arrays: its run is defined, and each running of a parallel nest is orderly.
pub record IsOrderly (join : Joins) (gathers : Gatherings) (u : Program) (m : Cells) : Type 0 where
  pub runs : (f : Frame) × (last : Cells) × (source_run join u m ≡ Ended f last)
  pub nests : (r : Running) (depth : ℕ) (schedule : Schedule) → (out-Loop r.loop).mark ≡ Parallel depth schedule → ComesTo join u m r
      → IsOrderlyRunning join gathers (source_context u) (depth - 1) r

-- ---- what holds of plays

abbrev pub ranks_on : Option Cells → (Cells → ℕ) → ℕ
ranks_on None next = 0
ranks_on (Some m) next = next m

-- how many accesses the iterations of the nests make in the run of a course
abbrev pub ranks_of : {X : Type 0} → Joins → Course X → Cells → ℕ
ranks_of join (Over x) m = 0
ranks_of join (Halt s why) m = 0
ranks_of join (Reading s e more) m = ranks_of join (more (cell m e)) m
ranks_of join (Writing s e v more) m = ranks_of join more (changed m e (λ c. v))
ranks_of join (Adding s e v more) m = ranks_of join more (changed m e (λ c. join e.array c v))
ranks_of join (Together nest_join ts more) m = length (flat_map (λ xs. xs) (traces nest_join ts m)) + ranks_on (run_all nest_join ts m) (ranks_of join more)

abbrev pub marked_on : Option Cells → (Cells → List (Bool × Access)) → List (Bool × Access)
marked_on None next = []
marked_on (Some m) next = next m

-- the accesses of the run of a course, and of each whether it is made in a nest
abbrev pub marked_accesses : {X : Type 0} → Joins → Course X → Cells → List (Bool × Access)
marked_accesses join (Over x) m = []
marked_accesses join (Halt s why) m = []
marked_accesses join (Reading s e more) m = (false, access s Reads e (cell m e)) ∷ marked_accesses join (more (cell m e)) m
marked_accesses join (Writing s e v more) m = (false, access s Writes e v) ∷ marked_accesses join more (changed m e (λ c. v))
marked_accesses join (Adding s e v more) m = (false, access s Adds e v) ∷ marked_accesses join more (changed m e (λ c. join e.array c v))
marked_accesses join (Together nest_join ts more) m =
    map (λ x. (true, x)) (flat_map (λ xs. xs) (traces nest_join ts m)) ++ marked_on (run_all nest_join ts m) (marked_accesses join more)

-- The accesses of the course of a unit are those of the unit's run, and as many of them are made in nests as ranks says.
pub record CountsRanks (join : Joins) (gathers : Gatherings) (u : Program) (m : Cells) : Type 0 where
  pub same : map (λ (x : Bool × Access). x.1) (marked_accesses join (course_of gathers u) m) ≡ source_accesses join u m
  pub count : length (filter (λ (x : Bool × Access). x.0) (marked_accesses join (course_of gathers u) m)) ≡ ranks_of join (course_of gathers u) m

-- What holds of a list of ranks that is a play and leads to p: no fault stands there, more ranks lead on to the end, at the end
-- are the last arrays, and it is as long as the nests have accesses there, and never longer.
pub record PlayEnds {X : Type 0} (join : Joins) (c : Course X) (m last : Cells) (ks : List ℕ) (p : Position X) : Type 0 where
  pub no_fault : Faults p → ⊥
  pub goes_on : (more : List ℕ) × IsPlay join c m (ks ++ more) (Finished last)
  pub no_longer : length ks ≤ ranks_of join c m
  pub ends : (n : Cells) → p ≡ Finished n → (n ≡ last) × (length ks ≡ ranks_of join c m)

abbrev pub EveryPlayEnds : {X : Type 0} → Joins → Course X → Cells → Cells → Type 0
EveryPlayEnds {X} join c m last = (ks : List ℕ) (p : Position X) → IsPlay join c m ks p → PlayEnds join c m last ks p

-- Every play of an orderly unit ends in the arrays of its run, and takes as many steps as the run has accesses in nests.
abbrev pub OrderlyUnitsPlay : Type 0
OrderlyUnitsPlay = (join : Joins) → Trades join → (gathers : Gatherings) (u : Program) (m : Cells) (f : Frame) (last : Cells) → IsWellMade u → IsOrderly join gathers u m
    → source_run join u m ≡ Ended f last → EveryPlayEnds join (course_of gathers u) m last × CountsRanks join gathers u m

-- Where atomic additions are sums to unsigned arrays, every play of an orderly unit ends in the arrays of its source's run.
abbrev pub EveryInterleaving : Type 0
EveryInterleaving = (u : Program) (m : Cells) (f : Frame) (last : Cells) → IsWellMade u → AreArraysOf u.arrays m → AddsTaken sums_take u → IsOrderly sums sum_gatherings u m
    → source_run sums (source_of u) m ≡ Ended f last → EveryPlayEnds sums (course_of sum_gatherings u) m last × CountsRanks sums sum_gatherings u m

-- These laws are of something: all that they ask holds of one unit, in whose run the iterations of a parallel nest make four accesses.
abbrev pub SomeUnitIsOrderly : Type 0
SomeUnitIsOrderly = (u : Program) × (m : Cells) × (f : Frame) × (last : Cells) × IsWellMade u × AreArraysOf u.arrays m × AddsTaken sums_take u × IsOrderly sums sum_gatherings u m
    × (source_run sums (source_of u) m ≡ Ended f last) × (ranks_of sums (course_of sum_gatherings u) m ≡ 4)

-- ---- the way there: a run of the course in which each nest can be played

-- the iterations of a nest run from these arrays to those, and are apart
pub record CanBePlayed (join : Joins) (ts : List (Tree Frame)) (m last : Cells) : Type 0 where
  pub trades : Trades join
  pub runs : run_all join ts m ≡ Some last
  pub apart : IsApart (traces join ts m)

abbrev pub RunsTo : {X : Type 0} → Joins → Course X → Cells → X → Cells → Type 0
RunsTo join (Over x) m y last = (x ≡ y) × (m ≡ last)
RunsTo join (Halt s why) m y last = ⊥
RunsTo join (Reading s e more) m y last = RunsTo join (more (cell m e)) m y last
RunsTo join (Writing s e v more) m y last = RunsTo join more (changed m e (λ c. v)) y last
RunsTo join (Adding s e v more) m y last = RunsTo join more (changed m e (λ c. join e.array c v)) y last
RunsTo join (Together nest_join ts more) m y last = (mid : Cells) × CanBePlayed nest_join ts m mid × RunsTo join more mid y last
