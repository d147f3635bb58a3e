-- One element, and one list of actions.
use Rattle.std.proofs.Common.{◌≡◌, ◌≢◌, ℕ, zero, suc, List, [], ◌∷◌, ◌++◌, take, Option, Some, None, true, false, Bool, refl, ap, sym, ◌∙◌, arith, nat_eq, inl, inr}
use Rattle.std.proofs.lemmas.Bool.{cases_Bool, eqb-true, eq-eqb}
use Rattle.std.specs.Prelude.{option_and_then, slice_get, ◌||◌, ◌&&◌, if◌then◌else◌}
use Rattle.species_ast.specs.declared.tree.Value.{Value}
use Rattle.species_ast.specs.Accesses.{Joins, Element, element_eq, Cells, change, changed, look, cell}
use Rattle.bones_commute.specs.Scripts.{Act, Get, Put, Plus, act_on, reads, writes, adds, values_added, joined_with, value_after, FitsFrom, through}
use Rattle.bones_commute.specs.ScriptsOfRuns.{play}
use Rattle.bones_commute.specs.Trades.{Trades}

abbrev pub in_row : Option (List Value) → ℕ → Option Value
in_row o i = option_and_then (λ row. slice_get row i) o

pub or_false : (a b : Bool) → a || b ≡ false → (a ≡ false) × (b ≡ false)
or_false true b h = cc
or_false false b h = (refl, h)

and_true : (a b : Bool) → a && b ≡ true → (a ≡ true) × (b ≡ true)
and_true true b h = (refl, h)
and_true false b h = cc

and_false : (a b : Bool) → a && b ≡ false → a ≡ true → b ≡ false
and_false true b h e = h
and_false false b h e = cc

pub element_same : (p q : Element) → element_eq p q ≡ true → p ≡ q
element_same p q h =
    let b = and_true _ _ h in
    let x = eqb-true p.array q.array b.0 in
    let y = eqb-true p.at q.at b.1 in
    λ i. record { array = x i; at = y i }

pub element_refl : (p : Element) → element_eq p p ≡ true
element_refl p = ap (λ b. b && nat_eq p.at p.at) (eq-eqb p.array p.array refl) ∙ eq-eqb p.at p.at refl

get_same : (r : List Value) (i : ℕ) (f : Value → Value) → slice_get (change r i f) i ≡ through f (slice_get r i)
get_same [] i f = refl
get_same (x ∷ r) zero f = refl
get_same (x ∷ r) (suc i) f = get_same r i f

pub neq : (a b : ℕ) → nat_eq a b ≡ false → a ≢ b
neq a b h e = let t : nat_eq a b ≡ true = eq-eqb a b e in cc

get_other : {A : Type 0} (r : List A) (i j : ℕ) (f : A → A) → j ≢ i → slice_get (change r i f) j ≡ slice_get r j
get_other [] i j f h = refl
get_other (x ∷ r) zero zero f h = absurd (h refl)
get_other (x ∷ r) zero (suc j) f h = refl
get_other (x ∷ r) (suc i) zero f h = refl
get_other (x ∷ r) (suc i) (suc j) f h = get_other r i j f (λ e. h (ap suc e))

look_same : (m : Cells) (a i : ℕ) (f : Value → Value) → in_row (slice_get (change m a (λ r. change r i f)) a) i ≡ through f (in_row (slice_get m a) i)
look_same [] a i f = refl
look_same (r ∷ m) zero i f = get_same r i f
look_same (r ∷ m) (suc a) i f = look_same m a i f

look_at : (m : Cells) (a b i j : ℕ) (f : Value → Value) → j ≢ i → in_row (slice_get (change m a (λ r. change r i f)) b) j ≡ in_row (slice_get m b) j
look_at [] a b i j f h = refl
look_at (r ∷ m) zero zero i j f h = get_other r i j f h
look_at (r ∷ m) zero (suc b) i j f h = refl
look_at (r ∷ m) (suc a) zero i j f h = refl
look_at (r ∷ m) (suc a) (suc b) i j f h = look_at m a b i j f h

pub look_other : (m : Cells) (q p : Element) (f : Value → Value) → element_eq p q ≡ false → look (changed m q f) p ≡ look m p
look_other m q p f h =
    elim (cases_Bool (nat_eq p.array q.array)) [
      | inl t ↦ look_at m q.array p.array q.at p.at f (neq _ _ (and_false _ _ h t))
      | inr n ↦ ap (λ o. in_row o p.at) (get_other m q.array p.array (λ r. change r q.at f) (neq _ _ n))
    ]

pub through_id : (o : Option Value) → through (λ c. c) o ≡ o
through_id None = refl
through_id (Some c) = refl

pub through_both : (f g : Value → Value) (o : Option Value) → through g (through f o) ≡ through (λ c. g (f c)) o
through_both f g None = refl
through_both f g (Some c) = refl

-- equal where there is a value
pub through_same : (f g : Value → Value) (o : Option Value) → ((c : Value) → o ≡ Some c → f c ≡ g c) → through f o ≡ through g o
through_same f g None h = refl
through_same f g (Some c) h = ap (λ x. Some x) (h c refl)

look_changed : (m : Cells) (q p : Element) (f : Value → Value) → look (changed m q f) p ≡ through (λ c. if element_eq p q then f c else c) (look m p)
look_changed m q p f =
    elim (cases_Bool (element_eq p q)) [
      | inl t ↦
          let e = element_same p q t in
          let s : look (changed m q f) p ≡ through f (look m p) =
          ap (λ x. look (changed m x f) p) (sym e) ∙ look_same m p.array p.at f in
          s ∙ ap (λ b. through (λ c. if b then f c else c) (look m p)) (sym t)
      | inr n ↦ look_other m q p f n ∙ sym (through_id (look m p)) ∙ ap (λ b. through (λ c. if b then f c else c) (look m p)) (sym n)
    ]

module _ (join : Joins) where
  module _ where
    pub act_look : (a : Act) (m : Cells) (p : Element) → look (act_on join a m) p ≡ through (value_after join p (a ∷ [])) (look m p)
    act_look (Get q v) m p = sym (through_id (look m p))
    act_look (Put q v) m p = look_changed m q p (λ c. v)
    act_look (Plus q v) m p =
        elim (cases_Bool (element_eq p q)) [
          | inl t ↦ look_changed m q p (λ c. join q.array c v) ∙ ap (λ x. through (λ c. if element_eq p q then join x.array c v else c) (look m p)) (sym (element_same p q t))
          | inr n ↦ look_other m q p _ n ∙ sym (through_id (look m p)) ∙ ap (λ b. through (λ c. if b then join p.array c v else c) (look m p)) (sym n)
        ]

    pub after_append : (p : Element) (s u : List Act) (c : Value) → value_after join p (s ++ u) c ≡ value_after join p u (value_after join p s c)
    after_append p [] u c = refl
    after_append p (Get q v ∷ s) u c = after_append p s u c
    after_append p (Put q v ∷ s) u c = after_append p s u _
    after_append p (Plus q v ∷ s) u c = after_append p s u _

    pub play_look : (s : List Act) (m : Cells) (p : Element) → look (play join s m) p ≡ through (value_after join p s) (look m p)
    play_look [] m p = sym (through_id (look m p))
    play_look (a ∷ s) m p =
        play_look s (act_on join a m) p ∙ ap (through (value_after join p s)) (act_look a m p) ∙ through_both (value_after join p (a ∷ [])) (value_after join p s) (look m p)
        ∙ ap (λ f. through f (look m p)) (λ i c. sym (after_append p (a ∷ []) s c) i)

    pub after_silent : (p : Element) (s : List Act) (d : ℕ) (c : Value) → writes p s ≡ false → adds p s ≡ false → value_after join p (take d s) c ≡ c
    after_silent p [] zero c w h = refl
    after_silent p [] (suc d) c w h = refl
    after_silent p (a ∷ s) zero c w h = refl
    after_silent p (Get q v ∷ s) (suc d) c w h = after_silent p s d c w h
    after_silent p (Put q v ∷ s) (suc d) c w h = let n = or_false _ _ w in ap (λ b. (value_after join) p (take d s) (if b then v else c)) n.0 ∙ after_silent p s d c n.1 h
    after_silent p (Plus q v ∷ s) (suc d) c w h = let n = or_false _ _ h in ap (λ b. (value_after join) p (take d s) (if b then join p.array c v else c)) n.0 ∙ after_silent p s d c w n.1

    pub after_next : (p : Element) (s : List Act) (d : ℕ) (a : Act) (c : Value) → slice_get s d ≡ Some a → value_after join p (take (suc d) s) c ≡ value_after join p (a ∷ []) (value_after join p (take d s) c)
    after_next p [] d a c h = cc
    after_next p (b ∷ s) zero a c h = let e : b ≡ a = cc in ap (λ x. (value_after join) p (x ∷ []) c) e
    after_next p (Get q v ∷ s) (suc d) a c h = after_next p s d a c h
    after_next p (Put q v ∷ s) (suc d) a c h = after_next p s d a _ h
    after_next p (Plus q v ∷ s) (suc d) a c h = after_next p s d a _ h

    -- where nothing is written
    pub after_joined : (p : Element) (s : List Act) (c : Value) → writes p s ≡ false → value_after join p s c ≡ joined_with join p.array c (values_added p s)
    after_joined p [] c w = refl
    after_joined p (Get q v ∷ s) c w = after_joined p s c w
    after_joined p (Put q v ∷ s) c w = let n = or_false _ _ w in ap (λ b. (value_after join) p s (if b then v else c)) n.0 ∙ after_joined p s c n.1
    after_joined p (Plus q v ∷ s) c w =
        elim (cases_Bool (element_eq p q)) [
          | inl t ↦ ap (λ b. (value_after join) p s (if b then join p.array c v else c)) t ∙ after_joined p s _ w ∙ ap (λ b. (joined_with join) p.array c (if b then v ∷ values_added p s else values_added p s)) (sym t)
          | inr n ↦ ap (λ b. (value_after join) p s (if b then join p.array c v else c)) n ∙ after_joined p s _ w ∙ ap (λ b. (joined_with join) p.array c (if b then v ∷ values_added p s else values_added p s)) (sym n)
        ]

module _ (join : Joins) (trades : Trades join) where
  module _ where
    trade : (a : ℕ) (c v w : Value) → join a (join a c v) w ≡ join a (join a c w) v
    trade a c v w = trades a c v w

    -- a value that is added first is added last
    pub after_trade : (p : Element) (s : List Act) (d : ℕ) (c v : Value) → writes p s ≡ false → value_after join p (take d s) (join p.array c v) ≡ join p.array (value_after join p (take d s) c) v
    after_trade p [] zero c v w = refl
    after_trade p [] (suc d) c v w = refl
    after_trade p (a ∷ s) zero c v w = refl
    after_trade p (Get q u ∷ s) (suc d) c v w = after_trade p s d c v w
    after_trade p (Put q u ∷ s) (suc d) c v w =
        let n = or_false _ _ w in
        ap (λ b. (value_after join) p (take d s) (if b then u else join p.array c v)) n.0 ∙ after_trade p s d c v n.1 ∙ ap (λ b. join p.array (value_after join p (take d s) (if b then u else c)) v) (sym n.0)
    after_trade p (Plus q u ∷ s) (suc d) c v w =
        elim (cases_Bool (element_eq p q)) [
          | inl y ↦
              ap (λ b. (value_after join) p (take d s) (if b then join p.array (join p.array c v) u else join p.array c v)) y
              ∙ ap (value_after join p (take d s)) (trade p.array c v u)
              ∙ after_trade p s d (join p.array c u) v w
              ∙ ap (λ b. join p.array (value_after join p (take d s) (if b then join p.array c u else c)) v) (sym y)
          | inr n ↦
              ap (λ b. (value_after join) p (take d s) (if b then join p.array (join p.array c v) u else join p.array c v)) n
              ∙ after_trade p s d c v w
              ∙ ap (λ b. join p.array (value_after join p (take d s) (if b then join p.array c u else c)) v) (sym n)
        ]

module _ (join : Joins) where
  module _ where
    pub fits_get : (s : List Act) (d : ℕ) (m : Cells) (p : Element) (v : Value) → FitsFrom join m s → slice_get s d ≡ Some (Get p v) → cell (play join (take d s) m) p ≡ v
    fits_get [] d m p v f h = cc
    fits_get (Get q w ∷ s) zero m p v f h = let e : q ≡ p = cc in let g : w ≡ v = cc in ap (cell m) (sym e) ∙ f.0 ∙ g
    fits_get (Put q w ∷ s) zero m p v f h = cc
    fits_get (Plus q w ∷ s) zero m p v f h = cc
    fits_get (Get q w ∷ s) (suc d) m p v f h = fits_get s d m p v f.1 h
    fits_get (Put q w ∷ s) (suc d) m p v f h = fits_get s d _ p v f h
    fits_get (Plus q w ∷ s) (suc d) m p v f h = fits_get s d _ p v f h

pub reads_at : (s : List Act) (d : ℕ) (p : Element) (v : Value) → slice_get s d ≡ Some (Get p v) → reads p s ≡ true
reads_at [] d p v h = cc
reads_at (Get q w ∷ s) zero p v h = let e : p ≡ q = cc in ap (λ x. element_eq p x || reads p s) (sym e) ∙ ap (λ b. b || reads p s) (element_refl p)
reads_at (Put q w ∷ s) zero p v h = cc
reads_at (Plus q w ∷ s) zero p v h = cc
reads_at (Get q w ∷ s) (suc d) p v h = grind (arith, reads_at s d p v h)
reads_at (Put q w ∷ s) (suc d) p v h = reads_at s d p v h
reads_at (Plus q w ∷ s) (suc d) p v h = reads_at s d p v h

pub writes_at : (s : List Act) (d : ℕ) (p : Element) (v : Value) → slice_get s d ≡ Some (Put p v) → writes p s ≡ true
writes_at [] d p v h = cc
writes_at (Put q w ∷ s) zero p v h = let e : p ≡ q = cc in ap (λ x. element_eq p x || writes p s) (sym e) ∙ ap (λ b. b || writes p s) (element_refl p)
writes_at (Get q w ∷ s) zero p v h = cc
writes_at (Plus q w ∷ s) zero p v h = cc
writes_at (Put q w ∷ s) (suc d) p v h = grind (arith, writes_at s d p v h)
writes_at (Get q w ∷ s) (suc d) p v h = writes_at s d p v h
writes_at (Plus q w ∷ s) (suc d) p v h = writes_at s d p v h

pub adds_at : (s : List Act) (d : ℕ) (p : Element) (v : Value) → slice_get s d ≡ Some (Plus p v) → adds p s ≡ true
adds_at [] d p v h = cc
adds_at (Plus q w ∷ s) zero p v h = let e : p ≡ q = cc in ap (λ x. element_eq p x || adds p s) (sym e) ∙ ap (λ b. b || adds p s) (element_refl p)
adds_at (Get q w ∷ s) zero p v h = cc
adds_at (Put q w ∷ s) zero p v h = cc
adds_at (Plus q w ∷ s) (suc d) p v h = grind (arith, adds_at s d p v h)
adds_at (Get q w ∷ s) (suc d) p v h = adds_at s d p v h
adds_at (Put q w ∷ s) (suc d) p v h = adds_at s d p v h
