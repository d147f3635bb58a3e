-- Lines that end neither in a backslash nor in a carriage return: such a line is not spliced.
use Rattle.std.proofs.Common.{◌≡◌, ◌∙◌, ap, sym, refl, subst, ℕ, zero, suc, ◌+◌, ◌-◌, ◌<◌, ◌≤◌, Bool, true, false, List, [], ◌∷◌, ◌++◌, length, take, drop, Option, Some, None, arith, length-drop, length-append, nat_eq}
use Rattle.std.proofs.lemmas.Bool.{and_parts, and_from, and_right, eqb-true}
use Rattle.std.proofs.lemmas.List.{drop-append-le}
use Rattle.std.proofs.lemmas.List.Folds.{length-prefix_len}
use Rattle.std.proofs.Math.Seq.{drop-append_seam, take-length}
use Rattle.std.specs.Prelude.{◌&&◌, not, if◌then◌else◌, codes}
use Rattle.std.specs.List.{list_all, ends_with, prefix_len}
use Rattle.std.specs.Cmp.Lexicographic.{pointwise}
use Rattle.species_ast.specs.Text.Characters.{is_blank, is_letter, is_digit, is_word, run_of}
use Rattle.species_ast.specs.Text.Comments.{last_backslash}
use Rattle.species_ast.specs.Text.Numbers.{goes_on, run_more}
use Rattle.species_ast.specs.Text.Parts.{Part, part_len, parts_end, offset_of}
use Rattle.species_readback.proofs.WordLemmas.{continues, stops_number}
use Rattle.species_readback.proofs.ScanLemmas.{Scan, part_at, part_within, comment_within}
use Rattle.species_readback.proofs.CutLemmas.{end_part}

-- the last byte is no backslash and no carriage return
abbrev pub EndsWell : List ℕ → Type 0
EndsWell [] = Unit {0}
EndsWell (b ∷ []) = (nat_eq 92 b ≡ false) × (nat_eq 13 b ≡ false)
EndsWell (b ∷ c ∷ bytes) = EndsWell (c ∷ bytes)

pub ends_more : (b : ℕ) (bytes : List ℕ) → 0 < length bytes → EndsWell bytes → EndsWell (b ∷ bytes)
ends_more b [] some h = let x : ⊥ = omega (arith, some) in absurd x
ends_more b (c ∷ bytes) some h = h

pub ends_behind : (front bytes : List ℕ) → 0 < length bytes → EndsWell bytes → EndsWell (front ++ bytes)
ends_behind [] bytes some h = h
ends_behind (b ∷ front) bytes some h = ends_more b (front ++ bytes) (omega (arith, some, length-append front bytes)) (ends_behind front bytes some h)

ends_drop : (n : ℕ) (bytes : List ℕ) → 0 < length (drop n bytes) → EndsWell (drop n bytes) → EndsWell bytes
ends_drop zero bytes some h = h
ends_drop (suc n) [] some h = tt
ends_drop (suc n) (b ∷ bytes) some h = ends_more b bytes (omega (arith, some, length-drop n bytes)) (ends_drop n bytes some h)

-- ---- such a line is not spliced

pub not_spliced_at : (f : List ℕ) (c : ℕ) → 0 < length f → nat_eq 92 c ≡ false → nat_eq 13 c ≡ false → last_backslash (f ++ (c ∷ [])) ≡ None
not_spliced_at f c some slash return =
    let line = f ++ (c ∷ []) in
    let one : length line - 1 ≡ length f = omega (arith, length-append f (c ∷ [])) in
    let two : length line - 2 ≡ length f - 1 = omega (arith, length-append f (c ∷ [])) in
    let le : length f - 1 ≤ length f = omega arith in
    let short : length (drop (length f - 1) f) ≡ 1 = omega (arith, length-drop (length f - 1) f, some) in
    let a : ends_with nat_eq line (codes "\\") ≡ false =
    ap (λ n. pointwise nat_eq (92 ∷ []) (drop n line)) one ∙ ap (pointwise nat_eq (92 ∷ [])) (drop-append_seam f (c ∷ [])) ∙ ap (λ t. t && true) slash in
    let b : ends_with nat_eq line (codes "\\\r") ≡ false =
    ap (λ n. pointwise nat_eq (92 ∷ 13 ∷ []) (drop n line)) two
    ∙ ap (pointwise nat_eq (92 ∷ 13 ∷ [])) (drop-append-le (length f - 1) f (c ∷ []) le)
    ∙ last (drop (length f - 1) f) short in
    ap (λ c. if c then Some (length line - 1) else (if ends_with nat_eq line (codes "\\\r") then Some (length line - 2) else None)) a
    ∙ ap (λ c. if c then Some (length line - 2) else None) b
  where
    last : (z : List ℕ) → length z ≡ 1 → pointwise nat_eq (92 ∷ 13 ∷ []) (z ++ (c ∷ [])) ≡ false
    last [] e = let x : ⊥ = omega (arith, e) in absurd x
    last (x ∷ []) e = ap (λ t. nat_eq 92 x && (t && true)) return ∙ and_right (nat_eq 92 x) false refl
    last (x ∷ y ∷ z) e = let x : ⊥ = omega (arith, e) in absurd x

-- a line by its last byte
record Last (bytes : List ℕ) : Type 0 where
  front : List ℕ
  c : ℕ
  is : bytes ≡ front ++ (c ∷ [])
  no_slash : nat_eq 92 c ≡ false
  no_return : nat_eq 13 c ≡ false

last_of : (b : ℕ) (bytes : List ℕ) → EndsWell (b ∷ bytes) → Last (b ∷ bytes)
last_of b [] h = record { front = []; c = b; is = refl; no_slash = h.0; no_return = h.1 }
last_of b (c ∷ bytes) h =
    let l = last_of c bytes h in
    record { front = b ∷ l.front; c = l.c; is = ap (λ z. b ∷ z) l.is; no_slash = l.no_slash; no_return = l.no_return }

pub not_spliced : (b : ℕ) (bytes : List ℕ) → 0 < length bytes → EndsWell (b ∷ bytes) → last_backslash (b ∷ bytes) ≡ None
not_spliced b bytes some h =
    let l = last_of b bytes h in
    let long : 0 < length l.front = omega (arith, some, ap length l.is, length-append l.front (l.c ∷ [])) in
    ap last_backslash l.is ∙ not_spliced_at l.front l.c long l.no_slash l.no_return

-- ---- the last part of a directive

differs : (p : ℕ → Bool) (k b : ℕ) → p k ≡ false → p b ≡ true → nat_eq k b ≡ false
differs p k b never is = go (nat_eq k b) refl
  where
    go : (c : Bool) → nat_eq k b ≡ c → c ≡ false
    go false e = refl
    go true e = let x : true ≡ false = sym is ∙ ap p (sym (eqb-true k b e)) ∙ never in absurd cc

run_class : (p : ℕ → Bool) (bs : List ℕ) → list_all p (take (prefix_len p bs) bs) ≡ true
run_class p [] = refl
run_class p (b ∷ bs) = go (p b) refl (run_class p bs)
  where
    go : (c : Bool) → p b ≡ c → list_all p (take (prefix_len p bs) bs) ≡ true → list_all p (take (if c then 1 + prefix_len p bs else 0) (b ∷ bs)) ≡ true
    go false e more = refl
    go true e more =
        let one : 1 + prefix_len p bs ≡ suc (prefix_len p bs) = omega arith in
        ap (λ n. list_all p (take n (b ∷ bs))) one ∙ and_from _ _ e more

-- as many bytes of a class as are counted
pub run_taken : (p : ℕ → Bool) (bs : List ℕ) → list_all p (take (run_of p bs) bs) ≡ true
run_taken p bs = ap (λ n. list_all p (take n bs)) (length-prefix_len p bs) ∙ run_class p bs

goes_continues : (last b : ℕ) → goes_on last b ≡ true → continues b ≡ true
goes_continues last b h = go (continues b) refl
  where
    go : (c : Bool) → continues b ≡ c → continues b ≡ true
    go true e = e
    go false e = let x : true ≡ false = sym h ∙ stops_number last b e in absurd cc

more_taken : (last : ℕ) (bytes : List ℕ) → list_all continues (take (run_more last bytes) bytes) ≡ true
more_taken last [] = refl
more_taken last (b ∷ bytes) = go (goes_on last b) refl (more_taken b bytes)
  where
    go : (c : Bool) → goes_on last b ≡ c → list_all continues (take (run_more b bytes) bytes) ≡ true → list_all continues (take (if c then suc (run_more b bytes) else 0) (b ∷ bytes)) ≡ true
    go false e more = refl
    go true e more = and_from _ _ (goes_continues last b e) more

word_continues : (bytes : List ℕ) → list_all is_word bytes ≡ true → list_all continues bytes ≡ true
word_continues [] h = refl
word_continues (b ∷ bytes) h =
    let k = and_parts (is_word b) (list_all is_word bytes) h in
    and_from (continues b) (list_all continues bytes) (goes_continues 0 b (rw k.0 refl)) (word_continues bytes k.1)

run_ends : (b : ℕ) (bytes : List ℕ) → EndsWell (b ∷ []) → list_all continues bytes ≡ true → EndsWell (b ∷ bytes)
run_ends b [] h k = h
run_ends b (c ∷ bytes) h k =
    let l = and_parts (continues c) (list_all continues bytes) k in
    run_ends c bytes (differs continues 92 c refl l.0, differs continues 13 c refl l.0) l.1

-- a part that is all of the bytes
part_ends : (b : ℕ) (bytes : List ℕ) → is_blank b ≡ false → nat_eq 92 b ≡ false → part_len b bytes ≡ suc (length bytes) → EndsWell (b ∷ bytes)
part_ends b bytes blank slash len = go (is_letter b) (is_digit b) len
  where
    own : EndsWell (b ∷ [])
    own = (slash, differs (λ x. not (is_blank x)) 13 b refl (ap not blank))

    all : (p : ℕ → Bool) (n : ℕ) → n ≡ length bytes → list_all p (take n bytes) ≡ true → list_all p bytes ≡ true
    all p n e h = ap (list_all p) (sym (take-length bytes)) ∙ ap (λ m. list_all p (take m bytes)) (sym e) ∙ h

    single : (bytes : List ℕ) → 1 ≡ suc (length bytes) → EndsWell (b ∷ []) → EndsWell (b ∷ bytes)
    single [] e h = h
    single (c ∷ bytes) e h = let x : ⊥ = omega (arith, e) in absurd x

    go : (c d : Bool) → (if c then suc (run_of is_word bytes) else (if d then suc (run_more b bytes) else 1)) ≡ suc (length bytes) → EndsWell (b ∷ bytes)
    go true d e = run_ends b bytes own (word_continues bytes (all is_word (run_of is_word bytes) (omega (arith, e)) (run_taken is_word bytes)))
    go false true e = run_ends b bytes own (all continues (run_more b bytes) (omega (arith, e)) (more_taken b bytes))
    go false false e = single bytes e own

no_slash_part : (at b : ℕ) (bytes : List ℕ) (ps : List Part) → offset_of (codes "\\") (part_at at b bytes ∷ ps) ≡ None → nat_eq 92 b ≡ false
no_slash_part at b bytes ps h = go (nat_eq 92 b) refl
  where
    here : offset_of (codes "\\") (part_at at 92 bytes ∷ ps) ≡ None → false ≡ true
    here h = cc

    go : (c : Bool) → nat_eq 92 b ≡ c → c ≡ false
    go false e = refl
    go true e = sym (here (subst (λ x. offset_of (codes "\\") (part_at at x bytes ∷ ps) ≡ None) (sym (eqb-true 92 b e)) h))

offset_behind : (c : Bool) (at : ℕ) (o : Option ℕ) → (if c then Some at else o) ≡ None → o ≡ None
offset_behind true at o h = cc
offset_behind false at o h = h

pub scan_some : (at : ℕ) (bytes : List ℕ) (p : Part) (ps : List Part) → Scan at bytes (p ∷ ps) → 0 < length bytes
scan_some at t w v (Scan.blank _ b bytes (p ∷ ps) h s) = omega arith
scan_some at t w v (Scan.comment _ b a bytes n (p ∷ ps) g h o s) = omega arith
scan_some at t w v (Scan.part _ b bytes n ps g f h len s) = omega arith

-- bytes that end with their last part, of which none is a backslash
pub scan_ends : (at : ℕ) (bytes : List ℕ) (ps : List Part) → Scan at bytes ps → parts_end at ps ≡ at + length bytes → offset_of (codes "\\") ps ≡ None → EndsWell bytes
scan_ends at bytes ps (Scan.ends _) e o = tt
scan_ends at t v (Scan.blank _ b bytes [] h s) e o = let x : ⊥ = omega (arith, e) in absurd x
scan_ends at t v (Scan.blank _ b bytes (p ∷ ps) h s) e o =
    let more : parts_end (at + 1) (p ∷ ps) ≡ (at + 1) + length bytes = omega (arith, e) in
    ends_more b bytes (scan_some (at + 1) bytes p ps s) (scan_ends (at + 1) bytes (p ∷ ps) s more o)
scan_ends at t v (Scan.comment _ b a bytes n [] g h c s) e o = let x : ⊥ = omega (arith, e) in absurd x
scan_ends at t v (Scan.comment _ b a bytes n (p ∷ ps) g h c s) e o =
    let within = comment_within b a bytes n c in
    let more : parts_end (at + suc (suc n)) (p ∷ ps) ≡ (at + suc (suc n)) + length (drop n bytes) = omega (arith, e, length-drop n bytes, within) in
    let some = scan_some (at + suc (suc n)) (drop n bytes) p ps s in
    ends_more a bytes (omega (arith, some, length-drop n bytes)) (ends_drop n bytes some (scan_ends (at + suc (suc n)) (drop n bytes) (p ∷ ps) s more o))
scan_ends at t v (Scan.part _ b bytes n [] g f h len s) e o =
    let whole : suc n ≡ suc (length bytes) = omega (arith, e, end_part at b bytes n [] len) in
    part_ends b bytes g (no_slash_part at b bytes [] o) (len ∙ whole)
scan_ends at t v (Scan.part _ b bytes n (q ∷ qs) g f h len s) e o =
    let fits : suc n ≤ suc (length bytes) = subst (λ l. l ≤ suc (length bytes)) len (part_within b bytes) in
    let ends = end_part at b bytes n (q ∷ qs) len in
    let more : parts_end (at + suc n) (q ∷ qs) ≡ (at + suc n) + length (drop n bytes) = omega (arith, e, ends, length-drop n bytes, fits) in
    let some = scan_some (at + suc n) (drop n bytes) q qs s in
    ends_more b bytes (omega (arith, some, length-drop n bytes)) (ends_drop n bytes some (scan_ends (at + suc n) (drop n bytes) (q ∷ qs) s more (offset_behind _ at (offset_of (codes "\\") (q ∷ qs)) o)))
