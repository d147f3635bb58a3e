-- Iterations whose scripts are apart are apart.
use Rattle.std.proofs.Common.{◌≡◌, ◌≢◌, refl, ap, sym, ◌∙◌, arith, ℕ, zero, suc, List, [], ◌∷◌, map, Bool, true, false, ◌||◌, ⊎_elim}
use Rattle.species_ast.specs.declared.tree.Value.{Value}
use Rattle.species_ast.specs.Accesses.{Element, element_eq, Direction, Reads, Writes, Adds, Access}
use Rattle.species_nests.specs.Meetings.{nth as nth_of, Touches, IsApart}
use Rattle.bones_commute.specs.Scripts.{Act, reads, writes, adds, nth, AreApart}
use Rattle.bones_commute.proofs.Apart.{act_in, act_of, nth_map}
use Rattle.bones_commute.proofs.Elements.{element_refl}

or_first : (a b : Bool) → a ≡ true → a || b ≡ true
or_first true b h = refl
or_first false b h = absurd cc

or_later : (a b : Bool) → b ≡ true → a || b ≡ true
or_later true b h = refl
or_later false b h = h

same_element : (p : Element) (x : Access) → x.element ≡ p → element_eq p x.element ≡ true
same_element p x e = ap (element_eq p) e ∙ element_refl p

read_first : (p : Element) (d : Direction) (e : Element) (v : Value) (s : List Act) → d ≡ Reads → element_eq p e ≡ true → reads p (act_in d e v ∷ s) ≡ true
read_first p Reads e v s h t = or_first (element_eq p e) (reads p s) t
read_first p Writes e v s h t = absurd cc
read_first p Adds e v s h t = absurd cc

write_first : (p : Element) (d : Direction) (e : Element) (v : Value) (s : List Act) → d ≡ Writes → element_eq p e ≡ true → writes p (act_in d e v ∷ s) ≡ true
write_first p Reads e v s h t = absurd cc
write_first p Writes e v s h t = or_first (element_eq p e) (writes p s) t
write_first p Adds e v s h t = absurd cc

add_first : (p : Element) (d : Direction) (e : Element) (v : Value) (s : List Act) → d ≡ Adds → element_eq p e ≡ true → adds p (act_in d e v ∷ s) ≡ true
add_first p Reads e v s h t = absurd cc
add_first p Writes e v s h t = absurd cc
add_first p Adds e v s h t = or_first (element_eq p e) (adds p s) t

read_later : (p : Element) (d : Direction) (e : Element) (v : Value) (s : List Act) → reads p s ≡ true → reads p (act_in d e v ∷ s) ≡ true
read_later p Reads e v s h = or_later (element_eq p e) (reads p s) h
read_later p Writes e v s h = h
read_later p Adds e v s h = h

write_later : (p : Element) (d : Direction) (e : Element) (v : Value) (s : List Act) → writes p s ≡ true → writes p (act_in d e v ∷ s) ≡ true
write_later p Reads e v s h = h
write_later p Writes e v s h = or_later (element_eq p e) (writes p s) h
write_later p Adds e v s h = h

add_later : (p : Element) (d : Direction) (e : Element) (v : Value) (s : List Act) → adds p s ≡ true → adds p (act_in d e v ∷ s) ≡ true
add_later p Reads e v s h = h
add_later p Writes e v s h = h
add_later p Adds e v s h = or_later (element_eq p e) (adds p s) h

-- an access of one of the three directions passes the test of it
by_place : (d : Direction) (p : Element) (f : List Act → Bool)
    → ((x : Access) (s : List Act) → x.direction ≡ d → element_eq p x.element ≡ true → f (act_of x ∷ s) ≡ true)
    → ((x : Access) (s : List Act) → f s ≡ true → f (act_of x ∷ s) ≡ true)
    → (xs : List Access) → Touches p d xs → f (map act_of xs) ≡ true
by_place d p f first later [] (x, (i, b, at), e, h) = let none : ⊥ = omega (arith, b) in absurd none
by_place d p f first later (y ∷ xs) (x, (zero, b, at), e, h) =
    let same : y ≡ x = cc in
    first y (map act_of xs) (ap (λ z. z.direction) same ∙ h) (same_element p y (ap (λ z. z.element) same ∙ e))
by_place d p f first later (y ∷ xs) (x, (suc i, b, at), e, h) =
    later y (map act_of xs) (by_place d p f first later xs (x, (i, omega (arith, b), at), e, h))

read_there : (p : Element) (xs : List Access) → Touches p Reads xs → reads p (map act_of xs) ≡ true
read_there p = by_place Reads p (reads p) (λ x s. read_first p x.direction x.element x.value s) (λ x s. read_later p x.direction x.element x.value s)

written_there : (p : Element) (xs : List Access) → Touches p Writes xs → writes p (map act_of xs) ≡ true
written_there p = by_place Writes p (writes p) (λ x s. write_first p x.direction x.element x.value s) (λ x s. write_later p x.direction x.element x.value s)

added_there : (p : Element) (xs : List Access) → Touches p Adds xs → adds p (map act_of xs) ≡ true
added_there p = by_place Adds p (adds p) (λ x s. add_first p x.direction x.element x.value s) (λ x s. add_later p x.direction x.element x.value s)

both_cannot : (b : Bool) → b ≡ true → b ≡ false → ⊥
both_cannot true h k = cc
both_cannot false h k = cc

module _ (xss : List (List Access)) (apart : AreApart (map (map act_of) xss)) where
  abbrev ss : List (List Act)
  ss = map (map act_of) xss

  is_read : (k : ℕ) (p : Element) → Touches p Reads (nth_of xss k) → reads p (nth ss k) ≡ true
  is_read k p t = ap (reads p) (nth_map xss k) ∙ read_there p (nth_of xss k) t

  is_written : (k : ℕ) (p : Element) → Touches p Writes (nth_of xss k) → writes p (nth ss k) ≡ true
  is_written k p t = ap (writes p) (nth_map xss k) ∙ written_there p (nth_of xss k) t

  is_added : (k : ℕ) (p : Element) → Touches p Adds (nth_of xss k) → adds p (nth ss k) ≡ true
  is_added k p t = ap (adds p) (nth_map xss k) ∙ added_there p (nth_of xss k) t

  -- where something is added, all accesses are adds
  with_adds : (j k : ℕ) (p : Element) (d : Direction) → Touches p Adds (nth_of xss j) → Touches p d (nth_of xss k) → d ≡ Adds
  with_adds j k p Reads a t = absurd (both_cannot _ (is_read k p t) (apart.gathered j k p (is_added j p a)).0)
  with_adds j k p Writes a t = absurd (both_cannot _ (is_written k p t) (apart.gathered j k p (is_added j p a)).1)
  with_adds j k p Adds a t = refl

  -- what one iteration writes, no other accesses
  alone : (j k : ℕ) (p : Element) (d : Direction) → j ≢ k → Touches p Writes (nth_of xss j) → Touches p d (nth_of xss k) → ⊥
  alone j k p Reads differ w t = both_cannot _ (is_read k p t) (apart.written j k p differ (is_written j p w)).0
  alone j k p Writes differ w t = both_cannot _ (is_written k p t) (apart.written j k p differ (is_written j p w)).1
  alone j k p Adds differ w t = both_cannot _ (is_added k p t) (apart.written j k p differ (is_written j p w)).2

  -- one of two that meet does not only read
  by_one : (i j k : ℕ) (p : Element) (c d e : Direction) → j ≢ k → Touches p c (nth_of xss j) → Touches p d (nth_of xss k) → c ≢ Reads → Touches p e (nth_of xss i) → e ≡ Adds
  by_one i j k p Reads d e differ x y n t = absurd (n refl)
  by_one i j k p Writes d e differ x y n t = absurd (alone j k p d differ x y)
  by_one i j k p Adds d e differ x y n t = with_adds j i p e x t

  pub is_apart : IsApart xss
  is_apart p shared i e t =
      ⊎_elim
      (λ added. with_adds added.0 i p e added.1 t)
      (λ two. ⊎_elim
      (λ n. by_one i two.0 two.1 p two.3.0 two.3.1 e two.2 two.3.2 two.3.3 n t)
      (λ n. by_one i two.1 two.0 p two.3.1 two.3.0 e (λ q. two.2 (sym q)) two.3.3 two.3.2 n t)
      two.3.4)
      shared
