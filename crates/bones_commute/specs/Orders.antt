-- Orders in which the iterations of a nest do their actions, as lists of ranks.
use Rattle.std.specs.Prelude.{◌≡◌, ℕ, suc, ◌≤◌, List, [], ◌∷◌, ◌++◌, length, Some, nat_eq, if◌then◌else◌}
use Rattle.species_ast.specs.Accesses.{Joins, Cells, Tree}
use Rattle.species_ast.specs.Evaluation.{Frame}
use Rattle.species_nests.specs.Meetings.{IsApart}
use Rattle.species_nests.specs.Nests.{run_all, traces}
use Rattle.bones_meaning.specs.Plays.{State, start}
use Rattle.bones_commute.specs.Joined.{both, pairs}
use Rattle.bones_commute.specs.Orderly.{CanBePlayed}
use Rattle.bones_commute.specs.Scripts.{Act, nth, Complete}
use Rattle.bones_commute.specs.ScriptsOfRuns.{plays, scripts}
use Rattle.bones_commute.specs.Trades.{Trades}

-- how often a rank stands in a list
abbrev pub count_of : ℕ → List ℕ → ℕ
count_of k [] = 0
count_of k (j ∷ ks) = if nat_eq j k then suc (count_of k ks) else count_of k ks

-- the rank of an iteration, once for each of its actions, before these ranks
abbrev pub rank_times : ℕ → List Act → List ℕ → List ℕ
rank_times k [] rest = rest
rank_times k (a ∷ s) rest = k ∷ rank_times k s rest

-- one iteration after another, from iteration k on: the source's order
abbrev pub in_order : ℕ → List (List Act) → List ℕ
in_order k [] = []
in_order k (s ∷ ss) = rank_times k s (in_order (suc k) ss)

-- Any order is a play in which no iteration moves more often than it has actions.
abbrev pub AnyOrderPlays : Type 0
AnyOrderPlays = (join : Joins) (ps : List (Tree Frame)) (first last : Cells) (ks : List ℕ) → CanBePlayed join ps first last
    → ((k : ℕ) → count_of k ks ≤ length (nth (scripts join ps first) k)) → (st : State) × (plays join ps ks (start ps first) ≡ Some st)

-- Such an order is one iteration after another, each to its end; it leaves the source's arrays.
abbrev pub SourceOrderPlays : Type 0
SourceOrderPlays = (join : Joins) (ps : List (Tree Frame)) (first last : Cells) → CanBePlayed join ps first last
    → (st : State) × (plays join ps (in_order 0 (scripts join ps first)) (start ps first) ≡ Some st) × Complete ps st.turns × (st.cells ≡ last)

-- Where the pairs of iterations of two nests are apart, the nest that joins them can be played through all actions of the one, one
-- iteration after another, and then through those of the other: to its end, and to the arrays that the two nests leave.
abbrev pub OrderOfTwoPlays : Type 0
OrderOfTwoPlays = (join : Joins) → Trades join → (ps qs : List (Tree Frame)) (first mid last : Cells) → length ps ≡ length qs → run_all join ps first ≡ Some mid → run_all join qs mid ≡ Some last
    → IsApart (pairs (traces join ps first) (traces join qs mid))
    → (st : State) × (plays join (both ps qs) (in_order 0 (scripts join ps first) ++ in_order 0 (scripts join qs mid)) (start (both ps qs) first) ≡ Some st)
    × Complete (both ps qs) st.turns × (st.cells ≡ last)
