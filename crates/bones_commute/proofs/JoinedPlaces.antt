-- The law of the joined nest, where the parts of its iterations stand at other positions of the text.
use Rattle.std.proofs.Common.{◌≡◌, refl, ap, sym, ◌∙◌, subst, arith, List, [], ◌∷◌, map, length, Option, Some, None}
use Rattle.species_ast.specs.Accesses.{Joins, Cells, cell, Tree, Ret, Stop, Read, Write, Add, run, Reads, Writes, Adds, access, accesses}
use Rattle.species_ast.specs.Evaluation.{Frame}
use Rattle.species_runs.specs.Places.{only_place, placed, DoSame}
use Rattle.species_runs.proofs.PlaceLaws.{same_run}
use Rattle.species_nests.specs.Meetings.{IsApart}
use Rattle.species_nests.specs.Nests.{arrays_of, then_all, run_all, then_traces, traces}
use Rattle.bones_commute.specs.Joined.{both, pairs}
use Rattle.bones_commute.specs.JoinedNests.{placed_access, placed_accesses}
use Rattle.bones_commute.specs.Orderly.{CanBePlayed}
use Rattle.bones_commute.specs.Scripts.{Get, Put, Plus, AreApart}
use Rattle.bones_commute.specs.ScriptsOfRuns.{trace, left_by, scripts}
use Rattle.bones_commute.specs.Trades.{Trades}
use Rattle.bones_commute.proofs.Apart.{act_of, scripts_are, are_apart}
use Rattle.bones_commute.proofs.ApartBack.{is_apart}
use Rattle.bones_commute.proofs.JoinedLaws.{joined_runs}
use Rattle.bones_commute.proofs.JoinedTraces.{both_traces, map_pairs}

abbrev pub AllSame : {X : Type 0} → List (Tree X) → List (Tree X) → Type 0
AllSame [] [] = Unit {0}
AllSame [] (u ∷ us) = ⊥
AllSame (t ∷ ts) [] = ⊥
AllSame (t ∷ ts) (u ∷ us) = DoSame t u × AllSame ts us

same_length : {X : Type 0} (ts us : List (Tree X)) → AllSame ts us → length ts ≡ length us
same_length [] [] h = refl
same_length [] (u ∷ us) h = absurd h
same_length (t ∷ ts) [] h = absurd h
same_length (t ∷ ts) (u ∷ us) h = omega (arith, same_length ts us h.1)

module _ (join : Joins) where
  trace-placed : {X : Type 0} (t : Tree X) (m : Cells) → trace join (placed t) m ≡ trace join t m
  trace-placed (Ret x) m = refl
  trace-placed (Stop s why) m = refl
  trace-placed (Read s e more) m = ap (λ l. Get e (cell m e) ∷ l) (trace-placed (more (cell m e)) m)
  trace-placed (Write s e v more) m = ap (λ l. Put e v ∷ l) (trace-placed more _)
  trace-placed (Add s e v more) m = ap (λ l. Plus e v ∷ l) (trace-placed more _)

  same_runs : {X : Type 0} (ts us : List (Tree X)) (m : Cells) → AllSame ts us → run_all join ts m ≡ run_all join us m
  same_runs [] [] m h = refl
  same_runs [] (u ∷ us) m h = absurd h
  same_runs (t ∷ ts) [] m h = absurd h
  same_runs (t ∷ ts) (u ∷ us) m h = λ i. then_all (arrays_of (same_run join t u m h.0 i)) (λ n. same_runs ts us n h.1 i)

  same_scripts : {X : Type 0} (ts us : List (Tree X)) (m : Cells) → AllSame ts us → scripts join ts m ≡ scripts join us m
  same_scripts [] [] m h = refl
  same_scripts [] (u ∷ us) m h = absurd h
  same_scripts (t ∷ ts) [] m h = absurd h
  same_scripts (t ∷ ts) (u ∷ us) m h =
      let one : trace join t m ≡ trace join u m = sym (trace-placed t m) ∙ ap (λ x. trace join x m) h.0 ∙ trace-placed u m in
      (λ i. one i ∷ scripts join ts (left_by (same_run join t u m h.0 i) m)) ∙ ap (λ l. trace join u m ∷ l) (same_scripts ts us (left_by (run join u m) m) h.1)

  accesses-placed : {X : Type 0} (t : Tree X) (m : Cells) → accesses join (placed t) m ≡ map placed_access (accesses join t m)
  accesses-placed (Ret x) m = refl
  accesses-placed (Stop s why) m = refl
  accesses-placed (Read s e more) m = ap (λ l. access (only_place s) Reads e (cell m e) ∷ l) (accesses-placed (more (cell m e)) m)
  accesses-placed (Write s e v more) m = ap (λ l. access (only_place s) Writes e v ∷ l) (accesses-placed more _)
  accesses-placed (Add s e v more) m = ap (λ l. access (only_place s) Adds e v ∷ l) (accesses-placed more _)

  -- iterations that do the same make the same accesses
  same_traces : {X : Type 0} (ts us : List (Tree X)) (m : Cells) → AllSame ts us → placed_accesses (traces join ts m) ≡ placed_accesses (traces join us m)
  same_traces [] [] m h = refl
  same_traces [] (u ∷ us) m h = absurd h
  same_traces (t ∷ ts) [] m h = absurd h
  same_traces (t ∷ ts) (u ∷ us) m h =
      let one : map placed_access (accesses join t m) ≡ map placed_access (accesses join u m) = sym (accesses-placed t m) ∙ ap (λ x. accesses join x m) h.0 ∙ accesses-placed u m in
      (λ i. one i ∷ placed_accesses (then_traces (arrays_of (same_run join t u m h.0 i)) (traces join ts)))
      ∙ ap (λ l. map placed_access (accesses join u m) ∷ l) (go (λ n. same_traces ts us n h.1) (arrays_of (run join u m)))
    where
      go : ((n : Cells) → placed_accesses (traces join ts n) ≡ placed_accesses (traces join us n)) → (o : Option Cells) → placed_accesses (then_traces o (traces join ts)) ≡ placed_accesses (then_traces o (traces join us))
      go ih None = refl
      go ih (Some n) = ih n

-- The iterations of the joined nest can be played, and make the accesses of those of the two nests.
pub record JoinedSame (join : Joins) (ps qs rs ts : List (Tree Frame)) (first mid last : Cells) : Type 0 where
  pub can : CanBePlayed join (both rs ts) first last
  pub accesses : placed_accesses (traces join (both rs ts) first) ≡ placed_accesses (pairs (traces join ps first) (traces join qs mid))

module _ (join : Joins) (trades : Trades join) where
  -- iterations that do what those of two nests did, joined
  pub joined_same : (ps qs rs ts : List (Tree Frame)) (first mid last : Cells) → AllSame ps rs → AllSame qs ts → length ps ≡ length qs
      → run_all join ps first ≡ Some mid → run_all join qs mid ≡ Some last → IsApart (pairs (traces join ps first) (traces join qs mid)) → JoinedSame join ps qs rs ts first mid last
  joined_same ps qs rs ts first mid last p q len h g apart =
      let same : pairs (scripts join ps first) (scripts join qs mid) ≡ map (map act_of) (pairs (traces join ps first) (traces join qs mid)) =
      (λ i. pairs (scripts_are join ps first mid h i) (scripts_are join qs mid last g i)) ∙ map_pairs act_of (traces join ps first) (traces join qs mid) in
      let moved : pairs (scripts join ps first) (scripts join qs mid) ≡ pairs (scripts join rs first) (scripts join ts mid) =
      λ i. pairs (same_scripts join ps rs first p i) (same_scripts join qs ts mid q i) in
      let are = subst AreApart (sym same ∙ moved) (are_apart (pairs (traces join ps first) (traces join qs mid)) apart) in
      let sizes : length rs ≡ length ts = sym (same_length ps rs p) ∙ len ∙ same_length qs ts q in
      let one : run_all join rs first ≡ Some mid = sym (same_runs join ps rs first p) ∙ h in
      let two : run_all join ts mid ≡ Some last = sym (same_runs join qs ts mid q) ∙ g in
      let r = joined_runs join trades rs ts first mid last sizes one two are in
      record {
        can = record {
          trades = trades;
          runs = r.0;
          apart = is_apart (traces join (both rs ts) first) (subst AreApart (sym r.1 ∙ scripts_are join (both rs ts) first last r.0) are);
        };
        accesses =
            ap placed_accesses (both_traces join trades rs ts first first mid last mid last r.0 one two r.1)
            ∙ sym (map_pairs placed_access (traces join rs first) (traces join ts mid))
            ∙ (λ i. pairs (sym (same_traces join ps rs first p) i) (sym (same_traces join qs ts mid q) i))
            ∙ map_pairs placed_access (traces join ps first) (traces join qs mid);
      }
