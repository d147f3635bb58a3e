-- The invariant as one equation for each element.
use Rattle.std.proofs.Common.{◌≡◌, ◌≢◌, ℕ, zero, suc, ◌<◌, List, [], ◌∷◌, length, take, Some, true, false, Bool, refl, ap, sym, ◌∙◌, subst, arith, inl, inr, ◌⊎◌, map}
use Rattle.std.proofs.lemmas.Bool.{cases_Bool}
use Rattle.species_ast.specs.declared.tree.Value.TheVariants.{Int}
use Rattle.std.specs.Prelude.{unwrap_or, pos, slice_get, slice_set, if◌then◌else◌}
use Rattle.species_ast.specs.declared.tree.Value.{Value}
use Rattle.species_ast.specs.Accesses.{Joins, Element, element_eq, Cells, change, look, cell}
use Rattle.bones_meaning.specs.Plays.{Turn, State}
use Rattle.bones_commute.specs.Scripts.{Act, Get, Put, Plus, act_on, reads, writes, adds, values_added, joined_with, value_after, nth, AreApart, Fits, answers_in, Along, past, done_at, through, Follows}
use Rattle.bones_commute.specs.ScriptsOfRuns.{play}
use Rattle.bones_commute.proofs.Elements.{element_same, act_look, play_look, through_id, through_both, through_same, after_next, after_joined, fits_get, reads_at, writes_at, adds_at}
use Rattle.bones_commute.proofs.Past.{Silent, past_silent, past_own, past_same, past_added, past_unwritten, done_at_set, along_set, extended, gone, answers_next, below_length}
use Rattle.bones_commute.specs.Trades.{Trades}

-- the state after an action of iteration k, which is then so far
abbrev pub moved : State → ℕ → Cells → Turn → State
moved st k m turn = record { cells = m; turns = slice_set st.turns k turn }

module _ (join : Joins) where
  -- each element has its first value after all that was done so far, one iteration after another
  pub record Even (first : Cells) (ss : List (List Act)) (st : State) : Type 0 where
    pub along : Along ss st.turns
    pub sizes : map length st.cells ≡ map length first
    pub each : (p : Element) → look st.cells p ≡ through (value_after join p (past ss st.turns)) (look first p)

-- some list meets a test, or none does
pub decide : (f : List Act → Bool) → f [] ≡ false → (ss : List (List Act)) → ((k : ℕ) × (f (nth ss k) ≡ true)) ⊎ ((k : ℕ) → f (nth ss k) ≡ false)
decide f n [] = inr go
  where
    go : (k : ℕ) → f (nth [] k) ≡ false
    go zero = n
    go (suc k) = n
decide f n (s ∷ ss) =
    elim (cases_Bool (f s)) [
      | inl t ↦ inl (zero, t)
      | inr nf ↦ elim (decide f n ss) [ inl w ↦ inl (suc w.0, w.1) | inr all ↦ inr (go nf all) ]
    ]
  where
    go : f s ≡ false → ((k : ℕ) → f (nth ss k) ≡ false) → (k : ℕ) → f (nth (s ∷ ss) k) ≡ false
    go a all zero = a
    go a all (suc k) = all k

module _ (join : Joins) (trades : Trades join) where
  module _ (first : Cells) (ss : List (List Act)) (apart : AreApart ss) where
    pub others_silent : (k : ℕ) (p : Element) → writes p (nth ss k) ≡ true → (j : ℕ) → j ≢ k → Silent p (nth ss j)
    others_silent k p w j d = let a = apart.written k j p (λ e. d (sym e)) w in (a.1, a.2)

    pub readers_alone : (k : ℕ) (p : Element) → reads p (nth ss k) ≡ true → (j : ℕ) → j ≢ k → Silent p (nth ss j)
    readers_alone k p r j d =
        let w : writes p (nth ss j) ≡ false =
        elim (cases_Bool (writes p (nth ss j))) [ inl t ↦ let no = (apart.written j k p d t).0 in cc | inr n ↦ n ] in
        let a : adds p (nth ss j) ≡ false =
        elim (cases_Bool (adds p (nth ss j))) [ inl t ↦ let no = (apart.gathered j k p t).0 in cc | inr n ↦ n ] in
        (w, a)

    unwritten : (k : ℕ) (p : Element) → adds p (nth ss k) ≡ true → (j : ℕ) → writes p (nth ss j) ≡ false
    unwritten k p a j = (apart.gathered k j p a).1

    own_part : (ts : List Turn) (k : ℕ) (p : Element) → Along ss ts → ((j : ℕ) → j ≢ k → Silent p (nth ss j))
        → through (value_after join p (past ss ts)) (look first p) ≡ through (value_after join p (take (done_at ts k) (nth ss k))) (look first p)
    own_part ts k p a h = ap (λ f. through f (look first p)) (λ i c. (past_own join trades) p ss ts k c a h i)

    added_part : (ts : List Turn) (k : ℕ) (p : Element) → adds p (nth ss k) ≡ true
        → through (value_after join p (past ss ts)) (look first p) ≡ through (λ c. (joined_with join) p.array c (values_added p (past ss ts))) (look first p)
    added_part ts k p a = ap (λ f. through f (look first p)) (λ i c. (after_joined join) p (past ss ts) c (past_unwritten p ss ts (unwritten k p a)) i)

    kept_part : (ts : List Turn) (p : Element) → ((k : ℕ) → Silent p (nth ss k)) → through (value_after join p (past ss ts)) (look first p) ≡ look first p
    kept_part ts p h = ap (λ f. through f (look first p)) (λ i c. (past_silent join trades) p ss ts c h i) ∙ through_id (look first p)

    pub follows_of : (st : State) → Even join first ss st → Follows join first ss st
    follows_of st e = record {
      along = e.along;
      sizes = e.sizes;
      written = λ k p w. e.each p ∙ own_part st.turns k p e.along (others_silent k p w);
      gathered = λ k p a. e.each p ∙ added_part st.turns k p a;
      kept = λ p h. e.each p ∙ kept_part st.turns p h;
    }

    pub even_of : (st : State) → Follows join first ss st → Even join first ss st
    even_of st f = record {
      along = f.along;
      sizes = f.sizes;
      each = λ p.
          elim (decide (writes p) refl ss) [
            | inl w ↦ f.written w.0 p w.1 ∙ sym (own_part st.turns w.0 p f.along (others_silent w.0 p w.1))
            | inr nw ↦ elim (decide (adds p) refl ss) [
              | inl a ↦ f.gathered a.0 p a.1 ∙ sym (added_part st.turns a.0 p a.1)
              | inr na ↦ f.kept p (λ k. (nw k, na k)) ∙ sym (kept_part st.turns p (λ k. (nw k, na k)))
            ]
          ];
    }

length_change : {A : Type 0} (r : List A) (i : ℕ) (f : A → A) → length (change r i f) ≡ length r
length_change [] i f = refl
length_change (x ∷ r) zero f = refl
length_change (x ∷ r) (suc i) f = ap suc (length_change r i f)

sizes_change : (m : Cells) (a i : ℕ) (f : Value → Value) → map length (change m a (λ r. change r i f)) ≡ map length m
sizes_change [] a i f = refl
sizes_change (r ∷ m) zero i f = ap (λ n. n ∷ map length m) (length_change r i f)
sizes_change (r ∷ m) (suc a) i f = ap (λ l. length r ∷ l) (sizes_change m a i f)

module _ (join : Joins) where
  pub sizes_act : (a : Act) (m : Cells) → map length (act_on join a m) ≡ map length m
  sizes_act (Get p v) m = refl
  sizes_act (Put p v) m = sizes_change m p.array p.at _
  sizes_act (Plus p v) m = sizes_change m p.array p.at _

pub done_at_get : (ts : List Turn) (k : ℕ) (t : Turn) → slice_get ts k ≡ Some t → done_at ts k ≡ t.done
done_at_get [] k t h = cc
done_at_get (r ∷ ts) zero t h = let e : r ≡ t = cc in ap (λ x. x.done) e
done_at_get (r ∷ ts) (suc k) t h = done_at_get ts k t h

got_at : (ss : List (List Act)) (ts : List Turn) (k : ℕ) (t : Turn) → Along ss ts → slice_get ts k ≡ Some t → (t.got ≡ answers_in (take t.done (nth ss k))) × (k < length ss)
got_at ss [] k t a h = cc
got_at [] (r ∷ ts) k t a h = absurd a
got_at (s ∷ ss) (r ∷ ts) zero t a h = let e : r ≡ t = cc in (subst (λ x. x.got ≡ answers_in (take x.done s)) e a.1, omega arith)
got_at (s ∷ ss) (r ∷ ts) (suc k) t a h = let x = got_at ss ts k t a.2 h in (x.0, omega (arith, x.1))

module _ (join : Joins) (trades : Trades join) where
  module _ (first : Cells) (ss : List (List Act)) (fits : Fits join first ss) (apart : AreApart ss) (st : State) (ev : Even join first ss st) where
    module _ (k : ℕ) (t : Turn) (at : slice_get st.turns k ≡ Some t) where
      along_next : (a : Act) → slice_get (nth ss k) t.done ≡ Some a → Along ss (slice_set st.turns k (gone t a))
      along_next a h =
          let g = (got_at ss st.turns k t ev.along at).0 in
          along_set ss st.turns k (gone t a) ev.along (below_length (nth ss k) t.done a h) (ap (λ x. extended x a) g ∙ sym (answers_next (nth ss k) t.done a h))

      pub answer_is : (q : Element) (v : Value) → slice_get (nth ss k) t.done ≡ Some (Get q v) → cell st.cells q ≡ v
      answer_is q v h =
          let alone = readers_alone join trades first ss apart k q (reads_at (nth ss k) t.done q v h) in
          let l : look st.cells q ≡ look (play join (take t.done (nth ss k)) first) q =
          ev.each q ∙ own_part join trades first ss apart st.turns k q ev.along alone
          ∙ ap (λ d. through (value_after join q (take d (nth ss k))) (look first q)) (done_at_get st.turns k t at)
          ∙ sym (play_look join (take t.done (nth ss k)) first q) in
          ap (λ o. unwrap_or o (Int (pos 0))) l ∙ fits_get join (nth ss k) t.done first q v (fits k) h

      module _ (a : Act) (h : slice_get (nth ss k) t.done ≡ Some a) (p : Element) where
        -- an action that leaves the element
        leaves : ((x : Value) → value_after join p (a ∷ []) x ≡ x) → (c : Value) → value_after join p (a ∷ []) (value_after join p (past ss st.turns) c) ≡ value_after join p (past ss (slice_set st.turns k (gone t a))) c
        leaves n c = n _ ∙ sym (past_same join trades p ss st.turns k c t (gone t a) at (λ x. (after_next join) p (nth ss k) t.done a x h ∙ n _))

      pointwise : (a : Act) → slice_get (nth ss k) t.done ≡ Some a → (p : Element) (c : Value) → look first p ≡ Some c
          → value_after join p (a ∷ []) (value_after join p (past ss st.turns) c) ≡ value_after join p (past ss (slice_set st.turns k (gone t a))) c
      pointwise (Get q v) h p c l = leaves (Get q v) h p (λ x. refl) c
      pointwise (Put q v) h p c l =
          elim (cases_Bool (element_eq p q)) [
            | inl y ↦
                let new = slice_set st.turns k (gone t (Put q v)) in
                let w : writes p (nth ss k) ≡ true = ap (λ x. writes x (nth ss k)) (element_same p q y) ∙ writes_at (nth ss k) t.done q v h in
                let set_to : (x : Value) → value_after join p (Put q v ∷ []) x ≡ v = λ x. ap (λ b. if b then v else x) y in
                let right : value_after join p (past ss new) c ≡ v =
                (past_own join trades) p ss new k c (along_next (Put q v) h) (others_silent join trades first ss apart k p w)
                ∙ ap (λ d. (value_after join) p (take d (nth ss k)) c) (done_at_set st.turns k t (gone t (Put q v)) at)
                ∙ after_next join p (nth ss k) t.done (Put q v) c h ∙ set_to _ in
                set_to _ ∙ sym right
            | inr n ↦ leaves (Put q v) h p (λ x. ap (λ b. if b then v else x) n) c
          ]
      pointwise (Plus q v) h p c l =
          elim (cases_Bool (element_eq p q)) [
            | inl y ↦
                let e = element_same p q y in
                let a : adds p (nth ss k) ≡ true = ap (λ x. adds x (nth ss k)) e ∙ adds_at (nth ss k) t.done q v h in
                let joins : (x : Value) → value_after join p (Plus q v ∷ []) x ≡ join p.array x v = λ x. ap (λ b. if b then join p.array x v else x) y in
                joins _
                ∙ sym (past_added join trades p ss st.turns k c v t (gone t (Plus q v)) at (unwritten join trades first ss apart k p a)
                (λ x. (after_next join) p (nth ss k) t.done (Plus q v) x h ∙ joins _) (got_at ss st.turns k t ev.along at).1)
            | inr n ↦ leaves (Plus q v) h p (λ x. ap (λ b. if b then join p.array x v else x) n) c
          ]

      pub even_next : (a : Act) → slice_get (nth ss k) t.done ≡ Some a → Even join first ss (moved st k (act_on join a st.cells) (gone t a))
      even_next a h = record {
        along = along_next a h;
        sizes = sizes_act join a st.cells ∙ ev.sizes;
        each = λ p.
            (act_look join) a st.cells p ∙ ap (through (value_after join p (a ∷ []))) (ev.each p)
            ∙ through_both (value_after join p (past ss st.turns)) (value_after join p (a ∷ [])) (look first p)
            ∙ through_same _ _ (look first p) (pointwise a h p);
      }
