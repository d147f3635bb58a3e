-- Iterations whose accesses are apart have scripts that are apart.
use Rattle.std.proofs.Common.{◌≡◌, ◌≢◌, arith, refl, ap, sym, ◌∙◌, ℕ, zero, suc, ◌+◌, List, [], ◌∷◌, ◌++◌, map, flat_map, length, Bool, true, false, ◌||◌, Some, inl, inr}
use Rattle.std.proofs.lemmas.List.{length-map, length-append}
use Rattle.species_ast.specs.declared.tree.Value.{Value}
use Rattle.species_ast.specs.Accesses.{Joins, Element, element_eq, Cells, cell, Tree, Ret, Stop, Read, Write, Add, Outcome, Ended, Stopped, run, Direction, Reads, Writes, Adds, Access, accesses}
use Rattle.species_nests.specs.Nests.{arrays_of, then_all, run_all, then_traces, traces}
use Rattle.bones_commute.specs.Scripts.{Act, Get, Put, Plus, reads, writes, adds, nth, AreApart}
use Rattle.bones_commute.specs.ScriptsOfRuns.{trace, left_by, scripts, total}
use Rattle.bones_commute.proofs.Elements.{element_same}
use Rattle.species_nests.specs.Meetings.{nth as nth_of, Touches, IsApart}

-- an access as an entry of a script
abbrev pub act_in : Direction → Element → Value → Act
act_in Reads e v = Get e v
act_in Writes e v = Put e v
act_in Adds e v = Plus e v

abbrev pub act_of : Access → Act
act_of x = act_in x.direction x.element x.value

module _ (join : Joins) where
  trace_is : {X : Type 0} (t : Tree X) (m : Cells) → trace join t m ≡ map act_of (accesses join t m)
  trace_is (Ret x) m = refl
  trace_is (Stop s why) m = refl
  trace_is (Read s e more) m = ap (λ l. Get e (cell m e) ∷ l) (trace_is (more (cell m e)) m)
  trace_is (Write s e v more) m = ap (λ l. Put e v ∷ l) (trace_is more _)
  trace_is (Add s e v more) m = ap (λ l. Plus e v ∷ l) (trace_is more _)

  pub scripts_are : {X : Type 0} (ts : List (Tree X)) (m last : Cells) → run_all join ts m ≡ Some last → scripts join ts m ≡ map (map act_of) (traces join ts m)
  scripts_are [] m last h = refl
  scripts_are {X} (t ∷ ts) m last h = go (λ n e. scripts_are ts n last e) (run join t m) h
    where
      go : ((n : Cells) → run_all join ts n ≡ Some last → scripts join ts n ≡ map (map act_of) (traces join ts n)) → (o : Outcome X) → then_all (arrays_of o) (run_all join ts) ≡ Some last
          → trace join t m ∷ (scripts join) ts (left_by o m) ≡ map act_of (accesses join t m) ∷ map (map act_of) (then_traces (arrays_of o) (traces join ts))
      go ih (Stopped why place) e = absurd cc
      go ih (Ended x n) e = λ i. trace_is t m i ∷ ih n e i

pub nth_map : (xss : List (List Access)) (k : ℕ) → nth (map (map act_of) xss) k ≡ map act_of (nth_of xss k)
nth_map [] zero = refl
nth_map [] (suc k) = refl
nth_map (xs ∷ xss) zero = refl
nth_map (xs ∷ xss) (suc k) = nth_map xss k

-- ---- what is accessed

touches_later : (p : Element) (d : Direction) (x : Access) (xs : List Access) → Touches p d xs → Touches p d (x ∷ xs)
touches_later p d x xs t = (t.0, (suc t.1.0, omega (arith, t.1.1), t.1.2), t.2, t.3)

touches_first : (p : Element) (d : Direction) (x : Access) (xs : List Access) → x.element ≡ p → x.direction ≡ d → Touches p d (x ∷ xs)
touches_first p d x xs e h = (x, (0, omega arith, refl), e, h)

-- an entry of this direction, or a later one
by_test : (p : Element) (d : Direction) (x : Access) (xs : List Access) (b rest : Bool) → x.direction ≡ d → element_eq p x.element ≡ b → (rest ≡ true → Touches p d xs) → (b || rest) ≡ true → Touches p d (x ∷ xs)
by_test p d x xs true rest h same later t = touches_first p d x xs (sym (element_same p x.element same)) h
by_test p d x xs false rest h same later t = touches_later p d x xs (later t)

read_touches : (p : Element) (xs : List Access) → reads p (map act_of xs) ≡ true → Touches p Reads xs
read_touches p [] t = absurd cc
read_touches p (x ∷ xs) t = go (read_touches p xs) x.direction refl t
  where
    go : (reads p (map act_of xs) ≡ true → Touches p Reads xs) → (d : Direction) → x.direction ≡ d → reads p (act_in d x.element x.value ∷ map act_of xs) ≡ true → Touches p Reads (x ∷ xs)
    go ih Reads h t = by_test p Reads x xs (element_eq p x.element) (reads p (map act_of xs)) h refl ih t
    go ih Writes h t = touches_later p Reads x xs (ih t)
    go ih Adds h t = touches_later p Reads x xs (ih t)

write_touches : (p : Element) (xs : List Access) → writes p (map act_of xs) ≡ true → Touches p Writes xs
write_touches p [] t = absurd cc
write_touches p (x ∷ xs) t = go (write_touches p xs) x.direction refl t
  where
    go : (writes p (map act_of xs) ≡ true → Touches p Writes xs) → (d : Direction) → x.direction ≡ d → writes p (act_in d x.element x.value ∷ map act_of xs) ≡ true → Touches p Writes (x ∷ xs)
    go ih Writes h t = by_test p Writes x xs (element_eq p x.element) (writes p (map act_of xs)) h refl ih t
    go ih Reads h t = touches_later p Writes x xs (ih t)
    go ih Adds h t = touches_later p Writes x xs (ih t)

add_touches : (p : Element) (xs : List Access) → adds p (map act_of xs) ≡ true → Touches p Adds xs
add_touches p [] t = absurd cc
add_touches p (x ∷ xs) t = go (add_touches p xs) x.direction refl t
  where
    go : (adds p (map act_of xs) ≡ true → Touches p Adds xs) → (d : Direction) → x.direction ≡ d → adds p (act_in d x.element x.value ∷ map act_of xs) ≡ true → Touches p Adds (x ∷ xs)
    go ih Adds h t = by_test p Adds x xs (element_eq p x.element) (adds p (map act_of xs)) h refl ih t
    go ih Reads h t = touches_later p Adds x xs (ih t)
    go ih Writes h t = touches_later p Adds x xs (ih t)

-- ---- apart

false_or : (b : Bool) → (b ≡ true → ⊥) → b ≡ false
false_or true h = absurd (h refl)
false_or false h = refl

reads_not_adds : Reads ≡ Adds → ⊥
reads_not_adds e = cc

writes_not_adds : Writes ≡ Adds → ⊥
writes_not_adds e = cc

writes_not_reads : Writes ≡ Reads → ⊥
writes_not_reads e = cc

module _ (xss : List (List Access)) (apart : IsApart xss) where
  abbrev ss : List (List Act)
  ss = map (map act_of) xss

  wrote : (k : ℕ) (p : Element) → writes p (nth ss k) ≡ true → Touches p Writes (nth_of xss k)
  wrote k p t = write_touches p (nth_of xss k) (ap (writes p) (sym (nth_map xss k)) ∙ t)

  was_read : (k : ℕ) (p : Element) → reads p (nth ss k) ≡ true → Touches p Reads (nth_of xss k)
  was_read k p t = read_touches p (nth_of xss k) (ap (reads p) (sym (nth_map xss k)) ∙ t)

  was_added : (k : ℕ) (p : Element) → adds p (nth ss k) ≡ true → Touches p Adds (nth_of xss k)
  was_added k p t = add_touches p (nth_of xss k) (ap (adds p) (sym (nth_map xss k)) ∙ t)

  -- what one iteration writes, no other accesses
  never : (j k : ℕ) (p : Element) (d : Direction) → j ≢ k → Touches p Writes (nth_of xss j) → Touches p d (nth_of xss k) → ⊥
  never j k p d differ w t = writes_not_adds (apart p (inr (j, k, differ, (Writes, d, w, t, inl writes_not_reads))) j Writes w)

  pub are_apart : AreApart ss
  are_apart = record {
    written = λ j k p differ w. (
      false_or (reads p (nth ss k)) (λ t. never j k p Reads differ (wrote j p w) (was_read k p t)),
      false_or (writes p (nth ss k)) (λ t. never j k p Writes differ (wrote j p w) (wrote k p t)),
      false_or (adds p (nth ss k)) (λ t. never j k p Adds differ (wrote j p w) (was_added k p t)),
    );
    gathered = λ j k p a. (
      false_or (reads p (nth ss k)) (λ t. reads_not_adds (apart p (inl (j, was_added j p a)) k Reads (was_read k p t))),
      false_or (writes p (nth ss k)) (λ t. writes_not_adds (apart p (inl (j, was_added j p a)) k Writes (wrote k p t))),
    );
  }

pub total_is : (xss : List (List Access)) → total (map (map act_of) xss) ≡ length (flat_map (λ xs. xs) xss)
total_is [] = refl
total_is (xs ∷ xss) =
    let a : length (map act_of xs) ≡ length xs = length-map xs act_of in
    let b : length (xs ++ flat_map (λ xs. xs) xss) ≡ length xs + length (flat_map (λ xs. xs) xss) = length-append xs (flat_map (λ xs. xs) xss) in
    omega (arith, a, b, total_is xss)
