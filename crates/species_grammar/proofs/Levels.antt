-- One level of binary operators, from left to right: a list of operators and operands, joined.
use Rattle.std.proofs.Common.{◌≡◌, ◌∙◌, ap, sym, refl, subst, ℕ, ◌<◌, ◌≤◌, List, [], ◌∷◌, ◌++◌, length, Bool, true, false, arith, length-append, append_assoc, append-nil}
use Rattle.species_grammar.specs.Reader.{Reader, starts, both, many, joined, level}
use Rattle.species_grammar.specs.Lawful.{Spelled, Before, Lawful, plain, both_before, both_spelled, mapped_before, mapped_spelled, Short, many_before, many_spelled, LeftSpelled}
use Rattle.species_grammar.proofs.Laws.{recast_plain, both_lawful, mapped_lawful, many_lawful}

-- `goes` is that the next token goes on with the operand.
module _ {Tok A O : Type 0} (g : A → O → A → A) (n : ℕ) (c : Tok → Bool) (o : Reader Tok O) (r : Reader Tok A) (v : Spelled Tok A) (ov : Spelled Tok O) (goes : Tok → Bool)
    (lo : Lawful o (plain ov) (plain ov) ov) (lr : Lawful r (plain v) (λ x a rest. v x a × (length a < n) × (starts goes rest ≡ false)) v)
    (begins : (x : O) (a rest : List Tok) → ov x a → (starts c (a ++ rest) ≡ true) × (starts goes (a ++ rest) ≡ false) × (1 ≤ length a)) where
  abbrev Operand : Before Tok A
  Operand x a rest = v x a × (length a < n) × (starts goes rest ≡ false)

  abbrev Pair : Before Tok (O × A)
  Pair = both_before (plain ov) Operand

  join_left : (x : A) (ts : List Tok) → LeftSpelled g v ov x ts → (ps : List (O × A)) (us : List Tok) → many_spelled (both_spelled ov v) ps us → LeftSpelled g v ov (joined g x ps) (ts ++ us)
  join_left x ts d [] us h = subst (LeftSpelled g v ov x) (sym (ap (λ z. ts ++ z) h ∙ append-nil ts)) d
  join_left x ts d (p ∷ ps) us (a, b, i, (os, ys, j, od, yd), m) =
      subst (LeftSpelled g v ov (joined g (g x p.0 p.1) ps)) (append_assoc ts (os ++ ys) b ∙ ap (λ z. ts ++ z) (ap (λ z. z ++ b) (sym j) ∙ sym i))
      (join_left (g x p.0 p.1) (ts ++ (os ++ ys)) (LeftSpelled.more x p.1 p.0 ts os ys d od yd) ps b m)

  level_viable : (x : A) (front : List Tok) → mapped_spelled (λ p. joined g p.0 p.1) (both_spelled v (many_spelled (both_spelled ov v))) x front → LeftSpelled g v ov x front
  level_viable x front (p, e, (a, b, i, d, m)) = subst (λ z. LeftSpelled g v ov z front) e (subst (LeftSpelled g v ov (joined g p.0 p.1)) (sym i) (join_left p.0 a (LeftSpelled.one p.0 a d) p.1 b m))

  unroll : (x : A) (ts : List Tok) → LeftSpelled g v ov x ts → (ps : List (O × A)) (us rest : List Tok) → many_before c Pair ps us rest → length ps ≤ length us → length (ts ++ us) < n → starts goes (us ++ rest) ≡ false
      → (p : A × List (O × A)) × (joined g p.0 p.1 ≡ joined g x ps) × both_before Operand (Short n (many_before c Pair)) p (ts ++ us) rest
  unroll x ts (LeftSpelled.one y zs d) ps us rest h le lt st =
      let all = length-append zs us in
      let l1 : length zs < n = omega (arith, lt, all) in
      let l2 : length ps < n = omega (arith, lt, all, le) in
      ((y, ps), refl, (zs, us, refl, (d, l1, st), (l2, h)))
  unroll x ts (LeftSpelled.more y z q zs os ws d od zd) ps us rest h le lt st =
      let b = begins q os ((ws ++ us) ++ rest) od in
      let at : ((os ++ ws) ++ us) ++ rest ≡ os ++ ((ws ++ us) ++ rest) = ap (λ w. w ++ rest) (append_assoc os ws us) ∙ append_assoc os (ws ++ us) rest in
      let group : (zs ++ (os ++ ws)) ++ us ≡ zs ++ ((os ++ ws) ++ us) = append_assoc zs (os ++ ws) us in
      let l0 = length-append (zs ++ (os ++ ws)) us in
      let l1 = length-append zs (os ++ ws) in
      let l2 = length-append os ws in
      let l3 = length-append (os ++ ws) us in
      let lw : length ws < n = omega (arith, lt, l0, l1, l2) in
      let le' : length ((q, z) ∷ ps) ≤ length ((os ++ ws) ++ us) = omega (arith, le, l2, l3, b.2) in
      let lt' : length (zs ++ ((os ++ ws) ++ us)) < n = omega (arith, lt, ap length group) in
      let k = unroll y zs d ((q, z) ∷ ps) ((os ++ ws) ++ us) rest (os ++ ws, us, refl, (os, ws, refl, od, (zd, lw, st)), h) le' lt' (ap (starts goes) at ∙ b.1) in
      (k.0, k.1, subst (λ w. both_before Operand (Short n (many_before c Pair)) k.0 w rest) (sym group) k.2)

  abbrev LevelBefore : Before Tok A
  LevelBefore x front rest = LeftSpelled g v ov x front × (length front < n) × (starts goes rest ≡ false) × (starts c rest ≡ false)

  level_full : (x : A) (front rest : List Tok) → LevelBefore x front rest → mapped_before (λ p. joined g p.0 p.1) (both_before Operand (Short n (many_before c Pair))) x front rest
  level_full x front rest (d, lt, st, e) =
      let none : 0 ≤ length {A = Tok} [] = omega arith in
      let lt' : length (front ++ []) < n = omega (arith, lt, ap length (append-nil front)) in
      let k = unroll x front d [] [] rest (refl, e) none lt' st in
      (k.0, k.1, subst (λ z. both_before Operand (Short n (many_before c Pair)) k.0 z rest) (append-nil front) k.2)

  pub level_lawful : Lawful (level g n c o r) (plain (LeftSpelled g v ov)) LevelBefore (LeftSpelled g v ov)
  level_lawful =
      recast_plain (level g n c o r) _ _ LevelBefore _ (LeftSpelled g v ov)
      (mapped_lawful (λ p. joined g p.0 p.1) (both r (many n c (both o r))) _ _ _
      (both_lawful r (many n c (both o r)) _ _ _ _ _ _ lr
      (many_lawful (both o r) c _ _ _ (both_lawful o r _ _ _ _ _ _ lo lr) (λ p a rest h. ap (starts c) (ap (λ z. z ++ rest) h.2 ∙ append_assoc h.0 h.1 rest) ∙ (begins p.0 h.0 (h.1 ++ rest) h.3).0) n)))
      level_full
      level_viable
