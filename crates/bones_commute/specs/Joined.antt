-- Two nests, one after another, and the joined nest.
use Rattle.std.specs.Prelude.{◌≡◌, List, [], ◌∷◌, ◌++◌, length, Some}
use Rattle.species_ast.specs.Accesses.{Joins, Cells, Tree, then_do}
use Rattle.species_ast.specs.Evaluation.{Frame}
use Rattle.species_nests.specs.Meetings.{IsApart}
use Rattle.species_nests.specs.Nests.{run_all, traces}
use Rattle.bones_commute.specs.Orderly.{CanBePlayed}
use Rattle.bones_commute.specs.Trades.{Trades}

-- of two iterations of one rank first the one, then the other
abbrev pub both : {X Y : Type 0} → List (Tree X) → List (Tree Y) → List (Tree Y)
both [] qs = []
both (p ∷ ps) [] = []
both (p ∷ ps) (q ∷ qs) = then_do p (λ x. q) ∷ both ps qs

abbrev pub pairs : {A : Type 0} → List (List A) → List (List A) → List (List A)
pairs [] us = []
pairs (s ∷ ss) [] = []
pairs (s ∷ ss) (u ∷ us) = (s ++ u) ∷ pairs ss us

-- Two nests ran, one after the other. The joined nest runs to the same arrays, its iterations make the accesses that they made
-- there, and it can be played.
pub record JoinedRuns (join : Joins) (ps qs : List (Tree Frame)) (first mid last : Cells) : Type 0 where
  pub plays : CanBePlayed join (both ps qs) first last
  pub same : traces join (both ps qs) first ≡ pairs (traces join ps first) (traces join qs mid)

-- This holds where the accesses that the two nests made are apart, those of one rank taken together.
abbrev pub JoinedNestsRun : Type 0
JoinedNestsRun = (join : Joins) → Trades join → (ps qs : List (Tree Frame)) (first mid last : Cells) → length ps ≡ length qs → run_all join ps first ≡ Some mid → run_all join qs mid ≡ Some last
    → IsApart (pairs (traces join ps first) (traces join qs mid)) → JoinedRuns join ps qs first mid last
