-- A lawful reader decides its grammar on whole lists.
use Rattle.std.proofs.Common.{◌≡◌, ◌∙◌, ap, sym, refl, subst, ℕ, suc, ◌+◌, ◌<◌, List, [], ◌∷◌, ◌++◌, length, arith, append_assoc, append-nil, inl, inr}
use Rattle.species_grammar.specs.Reader.{Answer, Reader, ◌>>=◌}
use Rattle.species_grammar.specs.Lawful.{Spelled, Before, SameFirst, Lawful, Less, Under, Enough}
use Rattle.species_grammar.specs.Whole.{ended, whole, Viable, StopsBefore, DecidesGrammar}
use Rattle.species_grammar.proofs.Laws.{Reads, bind_read, Stops, bind_stuck, same_value, same_rest}
use Rattle.species_grammar.proofs.Depth.{grow, Shallow, bind_shallow}

ended_read : {Tok A : Type 0} (x y : A) (us rest : List Tok) → ended x us ≡ Answer.read y rest → (x ≡ y) × (us ≡ [])
ended_read x y [] rest h = (same_value h, refl)
ended_read x y (u ∷ us) rest h = cc

module _ {Tok A : Type 0} (at : ℕ → Reader Tok A) (s : Before Tok A) (f : ℕ → Before Tok A) (v : Spelled Tok A)
    (lawful : (n : ℕ) → Lawful (at n) s (f n) v) (under : (n : ℕ) → Under (at n) (at (suc n)))
    (last : (n : ℕ) (x : A) (ts : List Tok) → v x ts → length ts < n → f n x ts []) where
  read_all : (n : ℕ) (ts : List Tok) (x : A) → v x ts → length ts < n → at n ts ≡ Answer.read x []
  read_all n ts x d lt = ap (at n) (sym (append-nil ts)) ∙ (lawful n).full x ts [] (last n x ts d lt)

  sound : (n : ℕ) (ts : List Tok) (x : A) (rest : List Tok) → whole (at n) ts ≡ Answer.read x rest → v x ts
  sound n ts x rest h = go (bind_read (at n ts) ended x rest h)
    where
      go : Reads (at n ts) ended x rest → v x ts
      go (Reads.reads y us o e) =
          let t = (lawful n).took ts y us o in
          let k = ended_read y x us rest e in
          let d = (lawful n).weak y t.front us t.spelled in
          subst (v x) (sym (t.is ∙ ap (λ z. t.front ++ z) k.1 ∙ append-nil t.front)) (subst (λ z. v z t.front) k.0 d)

  complete : (n : ℕ) (ts : List Tok) (x : A) → v x ts → length ts < n → whole (at n) ts ≡ Answer.read x []
  complete n ts x d lt = ap (λ o. o >>= ended) (read_all n ts x d lt)

  unique : (ts : List Tok) (x y : A) → v x ts → v y ts → x ≡ y
  unique ts x y d e =
      let lt : length ts < suc (length ts) = omega arith in
      same_value (sym (read_all (suc (length ts)) ts x d lt) ∙ read_all (suc (length ts)) ts y e lt)

  -- with other tokens behind the stop it is there as well, so no list of the grammar begins with them
  dead : (n : ℕ) (front us : List Tok) (u : Tok) → ((b : List Tok) → SameFirst (u ∷ us) b → (z : A) → at n (front ++ b) ≡ Answer.read z [] → ⊥)
      → ((b : List Tok) → SameFirst (u ∷ us) b → at n (front ++ b) ≡ Answer.shallow → ⊥) → Viable v (front ++ u ∷ []) → ⊥
  dead n front us u off deep (more, x, d) = go (grow at under n (suc (length all)) all)
    where
      all : List Tok
      all = front ++ (u ∷ more)

      is : (front ++ u ∷ []) ++ more ≡ all
      is = append_assoc front (u ∷ []) more

      go : Less (at n all) (at (suc (length all) + n) all) → ⊥
      go (inl e) = deep (u ∷ more) refl e
      go (inr e) =
          let lt : length all < suc (length all) + n = omega arith in
          off (u ∷ more) refl x (e ∙ read_all (suc (length all) + n) all x (subst (v x) is d) lt)

  not_empty : (t : Tok) (b : List Tok) → t ∷ b ≡ [] → ⊥
  not_empty t b h = cc

  place_read : (n : ℕ) (ts back : List Tok) (x : A) (rest : List Tok) → at n ts ≡ Answer.read x rest → ended x rest ≡ Answer.stuck back → StopsBefore v ts back
  place_read n ts back x [] h e = cc
  place_read n ts back x (u ∷ us) h e =
      let t = (lawful n).took ts x (u ∷ us) h in
      let k : u ∷ us ≡ back = cc in
      subst (StopsBefore v ts) k (record {
        front = t.front;
        is = t.is;
        viable = ([], x, subst (v x) (sym (append-nil t.front)) ((lawful n).weak x t.front (u ∷ us) t.spelled));
        dead = λ w ws i.
            let j : u ≡ w = cc in
            let back_to = λ (b : List Tok) (m : SameFirst (w ∷ us) b). subst (λ z. SameFirst (z ∷ us) b) (sym j) m in
            dead n t.front us w
            (λ b m z r. nothing_left b z (back_to b m) (t.steady b (back_to b m)) r)
            (λ b m r. not_shallow x b (sym (t.steady b (back_to b m)) ∙ r));
      })
    where
      not_shallow : (x : A) (b : List Tok) → Answer.read x b ≡ Answer.shallow → ⊥
      not_shallow x b h = cc

      nothing_left : {o : Answer Tok A} (b : List Tok) (z : A) → SameFirst (u ∷ us) b → o ≡ Answer.read x b → o ≡ Answer.read z [] → ⊥
      nothing_left [] z m p q = m
      nothing_left (w ∷ b) z m p q = not_empty w b (same_rest (sym p ∙ q))

  place_stuck : (n : ℕ) (ts back : List Tok) → at n ts ≡ Answer.stuck back → StopsBefore v ts back
  place_stuck n ts back h =
      let t = (lawful n).failed ts back h in
      record {
        front = t.front;
        is = t.is;
        viable = (t.more, t.value, t.viable);
        dead = λ w ws i.
            dead n t.front ws w
            (λ b m z r. no_value b z (sym (t.steady b (subst (λ z. SameFirst z b) (sym i) m)) ∙ r))
            (λ b m r. not_shallow b (sym (t.steady b (subst (λ z. SameFirst z b) (sym i) m)) ∙ r));
      }
    where
      no_value : (b : List Tok) (z : A) → Answer.stuck b ≡ Answer.read z [] → ⊥
      no_value b z h = cc

      not_shallow : (b : List Tok) → Path (Answer Tok A) (Answer.stuck b) Answer.shallow → ⊥
      not_shallow b h = cc

  place : (n : ℕ) (ts back : List Tok) → whole (at n) ts ≡ Answer.stuck back → StopsBefore v ts back
  place n ts back h = go (bind_stuck (at n ts) ended back h)
    where
      go : Stops (at n ts) ended back → StopsBefore v ts back
      go (Stops.first d) = place_stuck n ts back d
      go (Stops.second x us o d) = place_read n ts back x us o d

  pub decides : DecidesGrammar at v
  decides = record { sound = sound; complete = complete; unique = unique; place = place }

-- with enough depth a whole list is read or refused
pub whole_enough : {Tok A : Type 0} (r : Reader Tok A) (n : ℕ) → Enough r n → Enough (whole r) n
whole_enough {Tok} {A} r n h ts lt d = go (bind_shallow (r ts) ended d)
  where
    not_ended : (x : A) (us : List Tok) → ended x us ≡ Answer.shallow → ⊥
    not_ended x [] e = cc
    not_ended x (u ∷ us) e = cc

    go : Shallow (r ts) ended → ⊥
    go (Shallow.first e) = h ts lt e
    go (Shallow.second x us o e) = not_ended x us e

-- ---- a list that goes wrong does so at one place

abbrev Dead : {Tok A : Type 0} → Spelled Tok A → List Tok → List Tok → Type 0
Dead {Tok} v f b = (u : Tok) (us : List Tok) → b ≡ u ∷ us → Viable v (f ++ u ∷ []) → ⊥

module _ {Tok A : Type 0} (v : Spelled Tok A) where
  -- a shorter list is viable
  shorter : (h us : List Tok) (u : Tok) → Viable v (h ++ (u ∷ us)) → Viable v (h ++ u ∷ [])
  shorter h us u (more, x, d) = (us ++ more, x, subst (v x) (append_assoc h (u ∷ us) more ∙ sym (append_assoc h (u ∷ []) (us ++ more))) d)

  same_tail : (u w : Tok) (us ws : List Tok) → u ∷ us ≡ w ∷ ws → us ≡ ws
  same_tail u w us ws h = cc

  same_head : (u w : Tok) (us ws : List Tok) → u ∷ us ≡ w ∷ ws → u ≡ w
  same_head u w us ws h = cc

  meet : (f g h b c : List Tok) → f ++ b ≡ g ++ c → Viable v (h ++ f) → Viable v (h ++ g) → Dead v (h ++ f) b → Dead v (h ++ g) c → b ≡ c
  meet [] [] h b c e vf vg df dg = e
  meet [] (w ∷ g) h b c e vf vg df dg = absurd (df w (g ++ c) e (subst (λ z. Viable v (z ++ w ∷ [])) (sym (append-nil h)) (shorter h g w vg)))
  meet (w ∷ f) [] h b c e vf vg df dg = absurd (dg w (f ++ b) (sym e) (subst (λ z. Viable v (z ++ w ∷ [])) (sym (append-nil h)) (shorter h f w vf)))
  meet (w ∷ f) (u ∷ g) h b c e vf vg df dg =
      let i = same_head w u (f ++ b) (g ++ c) e in
      let at_f = sym (append_assoc h (w ∷ []) f) in
      let at_g = ap (λ z. h ++ (z ∷ g)) (sym i) ∙ sym (append_assoc h (w ∷ []) g) in
      meet f g (h ++ w ∷ []) b c (same_tail w u (f ++ b) (g ++ c) e) (subst (Viable v) at_f vf) (subst (Viable v) at_g vg) (subst (λ z. Dead v z b) at_f df) (subst (λ z. Dead v z c) at_g dg)

  pub one_stop : (ts b c : List Tok) → StopsBefore v ts b → StopsBefore v ts c → b ≡ c
  one_stop ts b c s t = meet s.front t.front [] b c (sym s.is ∙ t.is) s.viable t.viable s.dead t.dead
