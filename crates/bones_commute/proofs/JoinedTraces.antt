-- The law of the joined nest: its iterations make the accesses of the two nests, and it ends in the same arrays.
use Rattle.std.proofs.Common.{◌≡◌, refl, ap, sym, ◌∙◌, subst, List, [], ◌∷◌, ◌++◌, map, Some}
use Rattle.std.proofs.lemmas.List.{map-append}
use Rattle.species_ast.specs.declared.tree.Value.{Value}
use Rattle.species_ast.specs.Accesses.{Joins, Element, Cells, cell, Tree, Ret, Stop, Read, Write, Add, then_do, Ended, run, Reads, Writes, Adds, access, accesses}
use Rattle.species_nests.specs.Nests.{arrays_of, run_all, then_traces, traces}
use Rattle.bones_commute.specs.Scripts.{Act, Get, AreApart}
use Rattle.bones_commute.specs.ScriptsOfRuns.{trace, left_by, scripts}
use Rattle.bones_commute.specs.Joined.{both, pairs, JoinedNestsRun}
use Rattle.bones_commute.proofs.Apart.{act_of, scripts_are, are_apart}
use Rattle.bones_commute.proofs.NestPlays.{defined}
use Rattle.bones_commute.proofs.JoinedLaws.{joined_runs}
use Rattle.species_nests.specs.Meetings.{IsApart}
use Rattle.bones_commute.specs.Trades.{Trades}

head_value : {p : Element} {v w : Value} {s u : List Act} → Get p v ∷ s ≡ Get p w ∷ u → v ≡ w
head_value e = cc

tail_of : {a b : Act} {s u : List Act} → a ∷ s ≡ b ∷ u → s ≡ u
tail_of e = cc

module _ (join : Joins) where
  -- what is read is the same, so the accesses are
  same_accesses : {X : Type 0} (t : Tree X) (m n : Cells) → trace join t m ≡ trace join t n → accesses join t m ≡ accesses join t n
  same_accesses (Ret x) m n h = refl
  same_accesses (Stop s why) m n h = refl
  same_accesses (Read s e more) m n h =
      let v = head_value h in
      ap (λ c. access s Reads e c ∷ (accesses join) (more c) m) v
      ∙ ap (λ l. access s Reads e (cell n e) ∷ l) (same_accesses (more (cell n e)) m n (subst (λ c. (trace join) (more c) m ≡ trace join (more (cell n e)) n) v (tail_of h)))
  same_accesses (Write s e v more) m n h = ap (λ l. access s Writes e v ∷ l) (same_accesses more _ _ (tail_of h))
  same_accesses (Add s e v more) m n h = ap (λ l. access s Adds e v ∷ l) (same_accesses more _ _ (tail_of h))

  both_accesses : {X : Type 0} (p q : Tree X) (k m n : Cells) (x : X) (o : Cells) → run join p m ≡ Ended x o
      → trace join (then_do p (λ y. q)) k ≡ trace join p m ++ (trace join) q n → accesses join (then_do p (λ y. q)) k ≡ accesses join p m ++ (accesses join) q n
  both_accesses (Ret y) q k m n x o h e = same_accesses q k n e
  both_accesses (Stop s why) q k m n x o h e = absurd cc
  both_accesses (Read s el more) q k m n x o h e =
      let v = head_value e in
      ap (λ c. access s Reads el c ∷ (accesses join) (then_do (more c) (λ y. q)) k) v
      ∙ ap (λ l. access s Reads el (cell m el) ∷ l)
      (both_accesses (more (cell m el)) q k m n x o h (subst (λ c. (trace join) (then_do (more c) (λ y. q)) k ≡ trace join (more (cell m el)) m ++ (trace join) q n) v (tail_of e)))
  both_accesses (Write s el v more) q k m n x o h e = ap (λ l. access s Writes el v ∷ l) (both_accesses more q _ _ n x o h (tail_of e))
  both_accesses (Add s el v more) q k m n x o h e = ap (λ l. access s Adds el v ∷ l) (both_accesses more q _ _ n x o h (tail_of e))

first_list : {A : Type 0} {s u : List A} {ss us : List (List A)} → s ∷ ss ≡ u ∷ us → s ≡ u
first_list e = cc

later_lists : {A : Type 0} {s u : List A} {ss us : List (List A)} → s ∷ ss ≡ u ∷ us → ss ≡ us
later_lists e = cc

module _ (join : Joins) where
  later_traces : {X : Type 0} (p : Tree X) (ps : List (Tree X)) (m : Cells) (x : X) (n : Cells) → run join p m ≡ Ended x n → traces join (p ∷ ps) m ≡ accesses join p m ∷ (traces join) ps n
  later_traces p ps m x n h = ap (λ o. (accesses join) p m ∷ then_traces (arrays_of o) (traces join ps)) h

module _ (join : Joins) (trades : Trades join) where
  pub both_traces : {X : Type 0} (ps qs : List (Tree X)) (k m n end mid last : Cells) → run_all join (both ps qs) k ≡ Some end → run_all join ps m ≡ Some mid → run_all join qs n ≡ Some last
      → scripts join (both ps qs) k ≡ pairs (scripts join ps m) (scripts join qs n) → traces join (both ps qs) k ≡ pairs (traces join ps m) (traces join qs n)
  both_traces [] qs k m n end mid last r h g e = refl
  both_traces (p ∷ ps) [] k m n end mid last r h g e = refl
  both_traces (p ∷ ps) (q ∷ qs) k m n end mid last r h g e =
      let t = then_do p (λ y. q) in
      let a = defined join trades t (both ps qs) k end (run join t k) refl r in
      let b = defined join trades p ps m mid (run join p m) refl h in
      let c = defined join trades q qs n last (run join q n) refl g in
      (later_traces join) t (both ps qs) k a.0 _ a.1
      ∙ ap (λ l. l ∷ (traces join) (both ps qs) (left_by (run join t k) k)) (both_accesses join p q k m n b.0 _ b.1 (first_list e))
      ∙ ap (λ l. (accesses join p m ++ (accesses join) q n) ∷ l) (both_traces ps qs _ _ _ end mid last a.2 b.2 c.2 (later_lists e))
      ∙ (λ i. pairs (sym (later_traces join p ps m b.0 _ b.1) i) (sym (later_traces join q qs n c.0 _ c.1) i))

pub map_pairs : {A B : Type 0} (f : A → B) (xss yss : List (List A)) → pairs (map (map f) xss) (map (map f) yss) ≡ map (map f) (pairs xss yss)
map_pairs f [] yss = refl
map_pairs f (xs ∷ xss) [] = refl
map_pairs f (xs ∷ xss) (ys ∷ yss) = λ i. sym (map-append f xs ys) i ∷ map_pairs f xss yss i

-- the law
pub joined_nests_run : JoinedNestsRun
joined_nests_run join trades ps qs first mid last len h g apart =
    let same : pairs (scripts join ps first) (scripts join qs mid) ≡ map (map act_of) (pairs (traces join ps first) (traces join qs mid)) =
    (λ i. pairs (scripts_are join ps first mid h i) (scripts_are join qs mid last g i)) ∙ map_pairs act_of (traces join ps first) (traces join qs mid) in
    let r = joined_runs join trades ps qs first mid last len h g (subst AreApart (sym same) (are_apart (pairs (traces join ps first) (traces join qs mid)) apart)) in
    let all = both_traces join trades ps qs first first mid last mid last r.0 h g r.1 in
    record {
      plays = record { trades = trades; runs = r.0; apart = subst IsApart (sym all) apart };
      same = all;
    }
