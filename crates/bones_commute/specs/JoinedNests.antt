-- Two nests of the text, one after another, and the nest that is both joined.
use Rattle.std.specs.Prelude.{◌≡◌, ◌⊎◌, ℕ, List, [], ◌∷◌, ◌++◌, map, true}
use Rattle.species_ast.specs.declared.tree.Loop.{Loop, out-Loop}
use Rattle.species_ast.specs.declared.tree.Stmt.{Stmt}
use Rattle.species_ast.specs.declared.tree.Stmt.TheVariants as stmt
use Rattle.species_ast.specs.declared.tree.Unit.{Unit as Program}
use Rattle.species_ast.specs.Marks.{all_true}
use Rattle.species_ast.specs.Accesses.{Joins, Cells, Ended, run, Access}
use Rattle.species_ast.specs.Evaluation.{Frame, Context}
use Rattle.species_ast.specs.Run.{Takes, loop_of, source_context}
use Rattle.species_runs.specs.Places.{only_place}
use Rattle.species_runs.specs.Scopes.{FitIn, outer_locals_set}
use Rattle.species_nests.specs.Arrivals.{Running}
use Rattle.species_nests.specs.Effects.{HasQuietHeader, adds_taken}
use Rattle.species_nests.specs.Meetings.{IsApart, running_traces}
use Rattle.species_nests.specs.Nests.{Placed, Nest, nest_of, frames, iterations}
use Rattle.bones_meaning.specs.Gatherings.{Gatherings}
use Rattle.bones_commute.specs.Joined.{pairs}
use Rattle.bones_commute.specs.Orderly.{IsOrderlyRunning, CanBePlayed}
use Rattle.bones_commute.specs.Trades.{Trades}

-- ---- the joined text

-- two loops with one header: their tests, steps, starts and limits are equal
pub record SameHeader (l k : Loop) : Type 0 where
  pub test : (out-Loop l).test ≡ (out-Loop k).test
  pub step : (out-Loop l).step ≡ (out-Loop k).step
  pub start : (out-Loop l).start ≡ (out-Loop k).start
  pub limit : (out-Loop l).limit ≡ (out-Loop k).limit

abbrev pub SameHeaders : List Placed → List Placed → Type 0
SameHeaders [] [] = Unit {0}
SameHeaders [] (k ∷ ks) = ⊥
SameHeaders (l ∷ ls) [] = ⊥
SameHeaders (l ∷ ls) (k ∷ ks) = SameHeader l.loop k.loop × SameHeaders ls ks

-- statements that are all blocks
abbrev pub AreBlocks : List Stmt → Type 0
AreBlocks bs = (bodies : List (List Stmt)) × (bs ≡ map stmt.Block bodies)

-- what stands for the first body: one block with it, or where that nest was joined before, the blocks that it is
abbrev pub StandsFor : List Stmt → List Stmt → Type 0
StandsFor bs body = (bs ≡ stmt.Block body ∷ []) ⊎ ((bs ≡ body) × AreBlocks body)

-- Two nests, and a third with the headers of the first whose body is the first's, and one block with the second's.
pub record IsJoinedOf (one two joined : Nest) : Type 0 where
  pub headers : SameHeaders one.loops joined.loops
  pub front : List Stmt
  pub stands : StandsFor front one.body
  pub body : joined.body ≡ front ++ stmt.Block two.body ∷ []

-- ---- nests where they stand

-- the loops of both nests take the same values: rank by rank, their iterations begin with the same frames
abbrev pub TakeSameValues : Context → Nest → Nest → Frame → Type 0
TakeSameValues w one two f = frames w one.loops f ≡ frames w two.loops f

-- what an iteration may not do, this body does not: it sets no local of the outside, and adds atomically only to arrays that take it
pub record StaysInside (takes : Takes) (w : Context) (n : Nest) : Type 0 where
  pub locals : outer_locals_set n.body ≡ []
  pub adds : all_true (map (adds_taken takes w) n.body) ≡ true

abbrev pub AreQuiet : Context → List Placed → Type 0
AreQuiet w [] = Unit {0}
AreQuiet w (l ∷ ls) = HasQuietHeader w l.loop × AreQuiet w ls

-- the nest is one of a well made unit: its body fits where it stands, and its headers touch no array
pub record IsSound (w : Context) (n : Nest) (f : Frame) : Type 0 where
  pub fits : FitIn n.body f
  pub quiet : AreQuiet w n.loops

-- a loop, and where it stands
pub record Stands : Type 0 where
  pub loop : Loop
  pub around : List Loop
  pub at : List ℕ

abbrev pub nest_at : ℕ → Stands → Nest
nest_at d s = nest_of d s.loop s.at

abbrev pub running_of : Stands → Frame → Cells → Running
running_of s f m = record { loop = s.loop; around = s.around; at = s.at; frame = f; arrays = m }

-- an access as it is wherever its statement stands among others: of the site, only the statement's place in the text is told
abbrev pub placed_access : Access → Access
placed_access a = record a { site = only_place a.site }

abbrev pub placed_accesses : List (List Access) → List (List Access)
placed_accesses xss = map (map placed_access) xss

-- ---- the law

-- The joined nest ends where the two ended, its running is orderly, its iterations can be played as those of a parallel nest, and
-- they make these accesses, those of the two nests rank by rank.
pub record JoinedEnds (join : Joins) (gathers : Gatherings) (w : Context) (d : ℕ) (joined : Stands) (f : Frame) (first last : Cells) (xss : List (List Access)) : Type 0 where
  pub ends : run join (loop_of w joined.loop joined.at f) first ≡ Ended f last
  pub accesses : placed_accesses (running_traces join w d (running_of joined f first)) ≡ placed_accesses xss
  pub orderly : IsOrderlyRunning join gathers w d (running_of joined f first)
  pub played : CanBePlayed join (iterations (gathers joined.at).takes w (nest_at d joined) (frames w (nest_at d joined).loops f)) first last

-- The runs of two loops that take the same values, one after the other, as the run of the joined loop: where the accesses that
-- the iterations of the two nests made are apart, those of one rank taken together. Neither changes the frame.
abbrev pub JoinedLoopsRun : Type 0
JoinedLoopsRun = (join : Joins) → Trades join → (gathers : Gatherings) (u : Program) (d : ℕ) (one two joined : Stands) (f g h : Frame) (first mid last : Cells)
    → (gathers joined.at).join ≡ join → IsJoinedOf (nest_at d one) (nest_at d two) (nest_at d joined)
    → TakeSameValues (source_context u) (nest_at d one) (nest_at d two) f
    → IsSound (source_context u) (nest_at d one) f → IsSound (source_context u) (nest_at d two) f → IsSound (source_context u) (nest_at d joined) f
    → StaysInside (gathers joined.at).takes (source_context u) (nest_at d one) → StaysInside (gathers joined.at).takes (source_context u) (nest_at d two)
    → run join (loop_of (source_context u) one.loop one.at f) first ≡ Ended g mid → run join (loop_of (source_context u) two.loop two.at g) mid ≡ Ended h last
    → IsApart (pairs (running_traces join (source_context u) d (running_of one f first)) (running_traces join (source_context u) d (running_of two g mid)))
    → (g ≡ f) × (h ≡ f) × JoinedEnds join gathers (source_context u) d joined f first last
    (pairs (running_traces join (source_context u) d (running_of one f first)) (running_traces join (source_context u) d (running_of two g mid)))
