-- Content cut behind its last part has the same parts, and so has content that stands at another offset.
use Rattle.std.proofs.Common.{◌≡◌, ◌∙◌, ap, sym, refl, subst, ℕ, zero, suc, ◌+◌, ◌-◌, ◌≤◌, Bool, true, false, List, [], ◌∷◌, length, take, drop, map, arith}
use Rattle.std.specs.Prelude.{codes, nat_eq, ◌&&◌, if◌then◌else◌}
use Rattle.std.proofs.lemmas.List.{drop-take, length-take-le}
use Rattle.species_ast.specs.Text.Characters.{is_blank, is_letter, is_digit, is_word, begins, run_of}
use Rattle.species_ast.specs.Text.Numbers.{run_more}
use Rattle.species_ast.specs.Text.Parts.{Part, part_len, parts_end}
use Rattle.species_readback.proofs.ScanLemmas.{Scan, part_at, part_within, comment_cut, run_cut, more_cut}

-- ---- where the last part ends

pub part_size : (b : ℕ) (bytes : List ℕ) (n : ℕ) → part_len b bytes ≡ suc n → length (take (part_len b bytes) (b ∷ bytes)) ≡ suc n
part_size b bytes n len = length-take-le (part_len b bytes) (b ∷ bytes) (part_within b bytes) ∙ len

pub end_part : (at b : ℕ) (bytes : List ℕ) (n : ℕ) (ps : List Part) → part_len b bytes ≡ suc n → parts_end at (part_at at b bytes ∷ ps) ≡ parts_end (at + suc n) ps
end_part at b bytes n ps len = ap (λ l. parts_end (at + l) ps) (part_size b bytes n len)

pub end_from : (at : ℕ) (bytes : List ℕ) (ps : List Part) → Scan at bytes ps → at ≤ parts_end at ps
end_from at t v (Scan.ends _) = omega arith
end_from at t v (Scan.blank _ b bytes [] h s) = omega arith
end_from at t v (Scan.blank _ b bytes (p ∷ ps) h s) = omega (arith, end_from (at + 1) bytes (p ∷ ps) s)
end_from at t v (Scan.comment _ b a bytes n [] g h o s) = omega arith
end_from at t v (Scan.comment _ b a bytes n (p ∷ ps) g h o s) = omega (arith, end_from (at + suc (suc n)) (drop n bytes) (p ∷ ps) s)
end_from at t v (Scan.part _ b bytes n ps g f h len s) = omega (arith, end_part at b bytes n ps len, end_from (at + suc n) (drop n bytes) ps s)

-- ---- a part that is cut no shorter

len_turn : (c d : Bool) (i j x y n : ℕ) → (i ≤ n → x ≡ i) → (j ≤ n → y ≡ j) → (if c then suc i else (if d then suc j else 1)) ≤ suc n
    → (if c then suc x else (if d then suc y else 1)) ≡ (if c then suc i else (if d then suc j else 1))
len_turn true d i j x y n a b h = ap suc (a (omega (arith, h)))
len_turn false true i j x y n a b h = ap suc (b (omega (arith, h)))
len_turn false false i j x y n a b h = refl

len_cut : (b : ℕ) (bytes : List ℕ) (k : ℕ) → part_len b bytes ≤ suc k → part_len b (take k bytes) ≡ part_len b bytes
len_cut b bytes k h =
    len_turn (is_letter b) (is_digit b) (run_of is_word bytes) (run_more b bytes) (run_of is_word (take k bytes)) (run_more b (take k bytes)) k
    (run_cut is_word bytes k) (more_cut b bytes k) h

pub begins_cut : (x y b : ℕ) (bytes : List ℕ) (k : ℕ) → begins (x ∷ y ∷ []) (b ∷ bytes) ≡ false → begins (x ∷ y ∷ []) (b ∷ take k bytes) ≡ false
begins_cut x y b [] zero h = h
begins_cut x y b [] (suc k) h = h
begins_cut x y b (a ∷ bytes) zero h = go (nat_eq x b)
  where
    go : (c : Bool) → (c && false) ≡ false
    go true = refl
    go false = refl
begins_cut x y b (a ∷ bytes) (suc k) h = h

pub take_nil : (n : ℕ) → take {A = ℕ} n [] ≡ []
take_nil zero = refl
take_nil (suc n) = refl

pub take_shorter : (n j : ℕ) (xs : List ℕ) → take n (take (n + j) xs) ≡ take n xs
take_shorter n j [] = ap (take n) (take_nil (n + j))
take_shorter zero j (x ∷ xs) = refl
take_shorter (suc n) j (x ∷ xs) =
    let e : suc n + j ≡ suc (n + j) = omega arith in
    ap (λ k. take (suc n) (take k (x ∷ xs))) e ∙ ap (λ t. x ∷ t) (take_shorter n j xs)

take_part : (at b : ℕ) (bytes : List ℕ) (n j : ℕ) → part_len b bytes ≡ suc n → part_at at b (take (n + j) bytes) ≡ part_at at b bytes
take_part at b bytes n j len =
    ap (λ l. record { at = at; text = take l (b ∷ take (n + j) bytes) }) (len_cut b bytes (n + j) (omega (arith, len)) ∙ len)
    ∙ ap (λ t. record { at = at; text = b ∷ t }) (take_shorter n j bytes)
    ∙ ap (λ l. record { at = at; text = take l (b ∷ bytes) }) (sym len)

-- ---- content cut behind its last part

cut_part : (at b : ℕ) (bytes : List ℕ) (n j : ℕ) (ps : List Part) → is_blank b ≡ false → begins (codes "//") (b ∷ bytes) ≡ false → begins (codes "/*") (b ∷ bytes) ≡ false
    → part_len b bytes ≡ suc n → Scan (at + suc n) (take j (drop n bytes)) ps → Scan at (b ∷ take (n + j) bytes) (part_at at b bytes ∷ ps)
cut_part at b bytes n j ps g f h len s =
    subst (λ p. Scan at (b ∷ take (n + j) bytes) (p ∷ ps)) (take_part at b bytes n j len)
    (Scan.part at b (take (n + j) bytes) n ps g (begins_cut 47 47 b bytes (n + j) f) (begins_cut 47 42 b bytes (n + j) h)
    (len_cut b bytes (n + j) (omega (arith, len)) ∙ len)
    (subst (λ t. Scan (at + suc n) t ps) (sym (drop-take n j bytes)) s))

-- a list of parts ends at this distance from the offset
abbrev pub EndsAt : ℕ → List Part → ℕ → Type 0
EndsAt at ps k = parts_end at ps ≡ at + k

pub cut_scan : (at : ℕ) (bytes : List ℕ) (ps : List Part) → Scan at bytes ps → (k : ℕ) → EndsAt at ps k → Scan at (take k bytes) ps
cut_scan at t v (Scan.ends _) k e = subst (λ z. Scan at z []) (sym (take_nil k)) (Scan.ends at)
cut_scan at t v (Scan.blank _ b bytes [] h s) k e =
    let none : 0 ≡ k = omega (arith, e) in
    subst (λ k. Scan at (take k (b ∷ bytes)) []) none (Scan.ends at)
cut_scan at t v (Scan.blank _ b bytes (p ∷ ps) h s) zero e = let x : ⊥ = omega (arith, e, end_from (at + 1) bytes (p ∷ ps) s) in absurd x
cut_scan at t v (Scan.blank _ b bytes (p ∷ ps) h s) (suc k) e =
    let next : parts_end (at + 1) (p ∷ ps) ≡ (at + 1) + k = omega (arith, e) in
    Scan.blank at b (take k bytes) (p ∷ ps) h (cut_scan (at + 1) bytes (p ∷ ps) s k next)
cut_scan at t v (Scan.comment _ b a bytes n [] g h o s) k e =
    let none : 0 ≡ k = omega (arith, e) in
    subst (λ k. Scan at (take k (b ∷ a ∷ bytes)) []) none (Scan.ends at)
cut_scan at t v (Scan.comment _ b a bytes n (p ∷ ps) g h o s) k e =
    let j = k - suc (suc n) in
    let within = end_from (at + suc (suc n)) (drop n bytes) (p ∷ ps) s in
    let whole : suc (suc (n + j)) ≡ k = omega (arith, e, within) in
    let next : parts_end (at + suc (suc n)) (p ∷ ps) ≡ (at + suc (suc n)) + j = omega (arith, e, within) in
    subst (λ k. Scan at (take k (b ∷ a ∷ bytes)) (p ∷ ps)) whole
    (Scan.comment at b a (take (n + j) bytes) n (p ∷ ps) g h (comment_cut b a bytes (suc (suc n)) (n + j) o (omega arith))
    (subst (λ t. Scan (at + suc (suc n)) t (p ∷ ps)) (sym (drop-take n j bytes))
    (cut_scan (at + suc (suc n)) (drop n bytes) (p ∷ ps) s j next)))
cut_scan at t v (Scan.part _ b bytes n ps g f h len s) k e =
    let j = k - suc n in
    let end = end_part at b bytes n ps len in
    let within = end_from (at + suc n) (drop n bytes) ps s in
    let whole : suc (n + j) ≡ k = omega (arith, e, end, within) in
    let next : parts_end (at + suc n) ps ≡ (at + suc n) + j = omega (arith, e, end, within) in
    subst (λ k. Scan at (take k (b ∷ bytes)) (part_at at b bytes ∷ ps)) whole
    (cut_part at b bytes n j ps g f h len (cut_scan (at + suc n) (drop n bytes) ps s j next))

-- ---- the same bytes at another offset

abbrev pub texts : List Part → List (List ℕ)
texts ps = map (λ p. p.text) ps

-- the offset of the first part, or of what follows
abbrev pub first_at : ℕ → List Part → ℕ
first_at before [] = before
first_at before (p ∷ ps) = p.at

pub record Moved (at to : ℕ) (bytes : List ℕ) (ps : List Part) : Type 0 where
  pub parts : List Part
  pub scan : Scan to bytes parts
  pub same : texts parts ≡ texts ps
  pub end : parts_end to parts + at ≡ parts_end at ps + to
  pub front : first_at to parts + at ≡ first_at at ps + to

pub move : (at to : ℕ) (bytes : List ℕ) (ps : List Part) → Scan at bytes ps → Moved at to bytes ps
move at to t v (Scan.ends _) = record { parts = []; scan = Scan.ends to; same = refl; end = omega arith; front = omega arith }
move at to t v (Scan.blank _ b bytes ps h s) = go ps (move (at + 1) (to + 1) bytes ps s)
  where
    ends : (ps qs : List Part) → texts qs ≡ texts ps → parts_end (to + 1) qs + (at + 1) ≡ parts_end (at + 1) ps + (to + 1) → parts_end to qs + at ≡ parts_end at ps + to
    ends [] [] same e = omega arith
    ends [] (q ∷ qs) same e = cc
    ends (p ∷ ps) [] same e = cc
    ends (p ∷ ps) (q ∷ qs) same e = omega (arith, e)

    fronts : (ps qs : List Part) → texts qs ≡ texts ps → first_at (to + 1) qs + (at + 1) ≡ first_at (at + 1) ps + (to + 1) → first_at to qs + at ≡ first_at at ps + to
    fronts [] [] same e = omega arith
    fronts [] (q ∷ qs) same e = cc
    fronts (p ∷ ps) [] same e = cc
    fronts (p ∷ ps) (q ∷ qs) same e = omega (arith, e)

    go : (ps : List Part) → Moved (at + 1) (to + 1) bytes ps → Moved at to (b ∷ bytes) ps
    go ps m = record { parts = m.parts; scan = Scan.blank to b bytes m.parts h m.scan; same = m.same; end = ends ps m.parts m.same m.end; front = fronts ps m.parts m.same m.front }
move at to t v (Scan.comment _ b a bytes n ps g h o s) = go ps (move (at + suc (suc n)) (to + suc (suc n)) (drop n bytes) ps s)
  where
    ends : (ps qs : List Part) → texts qs ≡ texts ps → parts_end (to + suc (suc n)) qs + (at + suc (suc n)) ≡ parts_end (at + suc (suc n)) ps + (to + suc (suc n))
        → parts_end to qs + at ≡ parts_end at ps + to
    ends [] [] same e = omega arith
    ends [] (q ∷ qs) same e = cc
    ends (p ∷ ps) [] same e = cc
    ends (p ∷ ps) (q ∷ qs) same e = omega (arith, e)

    fronts : (ps qs : List Part) → texts qs ≡ texts ps → first_at (to + suc (suc n)) qs + (at + suc (suc n)) ≡ first_at (at + suc (suc n)) ps + (to + suc (suc n)) → first_at to qs + at ≡ first_at at ps + to
    fronts [] [] same e = omega arith
    fronts [] (q ∷ qs) same e = cc
    fronts (p ∷ ps) [] same e = cc
    fronts (p ∷ ps) (q ∷ qs) same e = omega (arith, e)

    go : (ps : List Part) → Moved (at + suc (suc n)) (to + suc (suc n)) (drop n bytes) ps → Moved at to (b ∷ a ∷ bytes) ps
    go ps m = record { parts = m.parts; scan = Scan.comment to b a bytes n m.parts g h o m.scan; same = m.same; end = ends ps m.parts m.same m.end; front = fronts ps m.parts m.same m.front }
move at to t v (Scan.part _ b bytes n ps g f h len s) = go (move (at + suc n) (to + suc n) (drop n bytes) ps s)
  where
    go : Moved (at + suc n) (to + suc n) (drop n bytes) ps → Moved at to (b ∷ bytes) (part_at at b bytes ∷ ps)
    go m = record {
      parts = part_at to b bytes ∷ m.parts;
      scan = Scan.part to b bytes n m.parts g f h len m.scan;
      same = ap (λ ts. take (part_len b bytes) (b ∷ bytes) ∷ ts) m.same;
      end = omega (arith, m.end, end_part at b bytes n ps len, end_part to b bytes n m.parts len);
      front = omega arith;
    }
