-- A text without comments, backslashes and line feeds, with no blank at its ends, is taken from the line that is printed with it.
use Rattle.std.proofs.Common.{◌≡◌, ◌∙◌, ap, sym, refl, subst, ℕ, zero, suc, ◌+◌, ◌≤◌, Bool, true, false, List, [], ◌∷◌, ◌++◌, length, take, drop, Option, Some, None, arith, length-drop, nat_eq}
use Rattle.std.proofs.lemmas.Bool.{and_parts, and_from, and_right, eqb-true, not-true}
use Rattle.std.proofs.lemmas.Slice.Eq.{bytes_eq-Decides}
use Rattle.std.proofs.Math.Seq.{take-length}
use Rattle.std.specs.Prelude.{◌&&◌, not, if◌then◌else◌, codes, bytes_eq, is_none}
use Rattle.std.specs.List.{list_all, prefix_len}
use Rattle.std.specs.Cmp.Lexicographic.{pointwise}
use Rattle.species_ast.specs.Text.Characters.{is_blank, is_word, begins, run_of}
use Rattle.species_ast.specs.Text.Comments.{plain_len, last_backslash}
use Rattle.species_ast.specs.Text.Parts.{Part, is, part_len, parts_of, parts_end, offset_of}
use Rattle.species_ast.specs.Text.Directives.{is_end_of_kernel}
use Rattle.species_readback.specs.Law.{species_line}
use Rattle.species_readback.specs.Spelt.{is_no_line_feed, is_species_form}
use Rattle.species_readback.specs.Texts.{is_text_byte, ends_full, ends_kernel, TakesTexts}
use Rattle.species_readback.proofs.ListLemmas.{all_drop}
use Rattle.species_readback.proofs.ScanLemmas.{Scan, IsNoSlash, IsWhole, part_at, many_more, plain_byte, part_within, scan_whole}
use Rattle.species_readback.proofs.CutLemmas.{end_part, move}
use Rattle.species_readback.proofs.SpeciesLemmas.{Alone, alone_form}
use Rattle.species_readback.proofs.EndLemmas.{ends_behind, not_spliced, scan_ends}

no_slash : (b : ℕ) → is_text_byte b ≡ true → IsNoSlash b
no_slash b h = not-true (nat_eq 47 b) (and_parts (not (nat_eq 47 b)) (not (nat_eq 92 b) && is_no_line_feed b) h).0

no_backslash : (b : ℕ) → is_text_byte b ≡ true → nat_eq 92 b ≡ false
no_backslash b h =
    let k = and_parts (not (nat_eq 47 b)) (not (nat_eq 92 b) && is_no_line_feed b) h in
    not-true (nat_eq 92 b) (and_parts (not (nat_eq 92 b)) (is_no_line_feed b) k.1).0

no_line_feeds : (bytes : List ℕ) → list_all is_text_byte bytes ≡ true → list_all is_no_line_feed bytes ≡ true
no_line_feeds [] h = refl
no_line_feeds (b ∷ bytes) h =
    let k = and_parts (is_text_byte b) (list_all is_text_byte bytes) h in
    let l = and_parts (not (nat_eq 47 b)) (not (nat_eq 92 b) && is_no_line_feed b) k.0 in
    and_from (is_no_line_feed b) (list_all is_no_line_feed bytes) (and_parts (not (nat_eq 92 b)) (is_no_line_feed b) l.1).1 (no_line_feeds bytes k.1)

-- bytes without `/` are content as a whole
whole_text : (bytes : List ℕ) → list_all is_text_byte bytes ≡ true → IsWhole bytes
whole_text [] h = refl
whole_text (b ∷ bytes) h =
    let k = and_parts (is_text_byte b) (list_all is_text_byte bytes) h in
    omega (arith, many_more plain_len refl 0 b bytes (plain_byte b bytes (no_slash b k.0)), whole_text bytes k.1)

-- no comment opens where no `/` stands
opens_none : (b a : ℕ) (bytes : List ℕ) → IsNoSlash b → begins (codes "/*") (b ∷ a ∷ bytes) ≡ true → ⊥
opens_none b a bytes h e = let x : true ≡ false = sym e ∙ ap (λ c. c && pointwise nat_eq (42 ∷ []) (take 1 (a ∷ bytes))) h in cc

blank_not : (b : ℕ) → is_blank b ≡ true → not (is_blank b) ≡ true → ⊥
blank_not b h k = let x : true ≡ false = sym k ∙ ap not h in cc

-- ---- the last part ends with the text

-- where nothing stands behind, that is well too
abbrev Full : List ℕ → Type 0
Full [] = Unit {0}
Full (b ∷ bytes) = ends_full (b ∷ bytes) ≡ true

full_tail : (b : ℕ) (bytes : List ℕ) → Full (b ∷ bytes) → Full bytes
full_tail b [] h = tt
full_tail b (c ∷ bytes) h = h

full_drop : (n : ℕ) (bytes : List ℕ) → Full bytes → Full (drop n bytes)
full_drop zero bytes h = h
full_drop (suc n) [] h = h
full_drop (suc n) (b ∷ bytes) h = full_drop n bytes (full_tail b bytes h)

blank_fills : (at b : ℕ) (bytes : List ℕ) (ps : List Part) → is_blank b ≡ true → Full (b ∷ bytes) → parts_end (at + 1) ps ≡ (at + 1) + length bytes → parts_end at ps ≡ at + length (b ∷ bytes)
blank_fills at b [] ps h full e = absurd (blank_not b h full)
blank_fills at b (c ∷ bytes) [] h full e = let x : ⊥ = omega (arith, e) in absurd x
blank_fills at b (c ∷ bytes) (p ∷ ps) h full e = omega (arith, e)

scan_fills : (at : ℕ) (bytes : List ℕ) (ps : List Part) → Scan at bytes ps → list_all is_text_byte bytes ≡ true → Full bytes → parts_end at ps ≡ at + length bytes
scan_fills at bytes ps (Scan.ends _) h full = omega arith
scan_fills at t v (Scan.blank _ b bytes ps g s) h full =
    blank_fills at b bytes ps g full (scan_fills (at + 1) bytes ps s (and_parts (is_text_byte b) (list_all is_text_byte bytes) h).1 (full_tail b bytes full))
scan_fills at t v (Scan.comment _ b a bytes n ps g o c s) h full =
    absurd (opens_none b a bytes (no_slash b (and_parts (is_text_byte b) (list_all is_text_byte (a ∷ bytes)) h).0) o)
scan_fills at t v (Scan.part _ b bytes n ps g f o len s) h full =
    let k = and_parts (is_text_byte b) (list_all is_text_byte bytes) h in
    let fits : suc n ≤ suc (length bytes) = subst (λ l. l ≤ suc (length bytes)) len (part_within b bytes) in
    let more = scan_fills (at + suc n) (drop n bytes) ps s (all_drop is_text_byte n bytes k.1) (full_drop n bytes (full_tail b bytes full)) in
    omega (arith, end_part at b bytes n ps len, more, length-drop n bytes, fits)

-- ---- no part is a backslash

abbrev first_byte : List ℕ → ℕ
first_byte [] = 0
first_byte (b ∷ bytes) = b

other_turn : (c : Bool) (at : ℕ) (o : Option ℕ) → c ≡ false → o ≡ None → (if c then Some at else o) ≡ None
other_turn true at o h k = cc
other_turn false at o h k = k

scan_plain : (at : ℕ) (bytes : List ℕ) (ps : List Part) → Scan at bytes ps → list_all is_text_byte bytes ≡ true → offset_of (codes "\\") ps ≡ None
scan_plain at bytes ps (Scan.ends _) h = refl
scan_plain at t v (Scan.blank _ b bytes ps g s) h = scan_plain (at + 1) bytes ps s (and_parts (is_text_byte b) (list_all is_text_byte bytes) h).1
scan_plain at t v (Scan.comment _ b a bytes n ps g o c s) h =
    absurd (opens_none b a bytes (no_slash b (and_parts (is_text_byte b) (list_all is_text_byte (a ∷ bytes)) h).0) o)
scan_plain at t v (Scan.part _ b bytes n ps g f o len s) h =
    let k = and_parts (is_text_byte b) (list_all is_text_byte bytes) h in
    other_turn (is (part_at at b bytes) (codes "\\")) at (offset_of (codes "\\") ps)
    (ap (λ m. bytes_eq (take m (b ∷ bytes)) (codes "\\")) len ∙ differs (bytes_eq (b ∷ take n bytes) (codes "\\")) refl)
    (scan_plain (at + suc n) (drop n bytes) ps s (all_drop is_text_byte n bytes k.1))
  where
    differs : (c : Bool) → bytes_eq (b ∷ take n bytes) (codes "\\") ≡ c → c ≡ false
    differs false e = refl
    differs true e =
        let same : b ≡ 92 = ap first_byte ((bytes_eq-Decides (b ∷ take n bytes) (codes "\\")).0 e) in
        let own = no_backslash b (and_parts (is_text_byte b) (list_all is_text_byte bytes) h).0 in
        let x : true ≡ false = sym (ap (nat_eq 92) same) ∙ own in absurd cc

-- ---- the first part

-- The part that begins with the first byte, and the parts behind it.
record First (at b : ℕ) (bytes : List ℕ) (ps : List Part) : Type 0 where
  n : ℕ
  rest : List Part
  parts : ps ≡ part_at at b bytes ∷ rest
  len : part_len b bytes ≡ suc n
  scan : Scan (at + suc n) (drop n bytes) rest

abbrev HasFirst : ℕ → List ℕ → List Part → Type 0
HasFirst at [] ps = Unit {0}
HasFirst at (b ∷ bytes) ps = is_blank b ≡ false → is_text_byte b ≡ true → First at b bytes ps

first_part : (at : ℕ) (bytes : List ℕ) (ps : List Part) → Scan at bytes ps → HasFirst at bytes ps
first_part at bytes ps (Scan.ends _) = tt
first_part at t v (Scan.blank _ b bytes ps g s) = λ h k. let x : true ≡ false = sym g ∙ h in absurd cc
first_part at t v (Scan.comment _ b a bytes n ps g o c s) = λ h k. absurd (opens_none b a bytes (no_slash b k) o)
first_part at t v (Scan.part _ b bytes n ps g f o len s) = λ h k. record { n = n; rest = ps; parts = refl; len = len; scan = s }

-- ---- which is no `endkernel`, or is followed by `[`

never_last : (p : Part) (ps : List Part) → is p (codes "endkernel") ≡ false → is_end_of_kernel p ps ≡ false
never_last p [] h = h
never_last p (q ∷ qs) h = ap (λ c. c && not (is q (codes "["))) h

take_drop : (n : ℕ) (xs : List ℕ) → xs ≡ take n xs ++ drop n xs
take_drop zero xs = refl
take_drop (suc n) [] = refl
take_drop (suc n) (x ∷ xs) = ap (λ z. x ∷ z) (take_drop n xs)

-- the first byte belongs to a word
abbrev starts_word : List ℕ → Bool
starts_word [] = false
starts_word (b ∷ bytes) = is_word b

-- how long the first part is
abbrev front_len : List ℕ → ℕ
front_len [] = 0
front_len (b ∷ bytes) = part_len b bytes

head_in : (p : ℕ → Bool) (x : ℕ) (bs : List ℕ) → p x ≡ true → run_of p (x ∷ bs) ≡ suc (run_of p bs)
head_in p x bs g =
    let one : 1 + prefix_len p bs ≡ suc (prefix_len p bs) = omega arith in
    ap (λ c. length (take (if c then 1 + prefix_len p bs else 0) (x ∷ bs))) g ∙ ap (λ n. length (take n (x ∷ bs))) one

-- a run goes on behind these bytes
run_beyond : (p : ℕ → Bool) (w : List ℕ) (x : ℕ) (more : List ℕ) → list_all p w ≡ true → p x ≡ true → suc (length w) ≤ run_of p (w ++ (x ∷ more))
run_beyond p [] x more h g = omega (arith, head_in p x more g)
run_beyond p (y ∷ w) x more h g =
    let k = and_parts (p y) (list_all p w) h in
    omega (arith, head_in p y (w ++ (x ∷ more)) k.0, run_beyond p w x more k.1 g)

-- behind the part `endkernel` no word goes on
word_ends : (n b : ℕ) (bytes rest : List ℕ) → part_len b bytes ≡ suc n → drop n bytes ≡ rest → b ∷ bytes ≡ codes "endkernel" ++ rest → starts_word rest ≡ false
word_ends n b bytes [] len behind text = refl
word_ends n b bytes (x ∷ more) len behind text = go (is_word x) refl
  where
    go : (c : Bool) → is_word x ≡ c → is_word x ≡ false
    go false e = e
    go true e =
        let long : suc n ≡ suc (run_of is_word (codes "ndkernel" ++ (x ∷ more))) = sym len ∙ ap front_len text in
        let beyond : 9 ≤ run_of is_word (codes "ndkernel" ++ (x ∷ more)) = run_beyond is_word (codes "ndkernel") x more refl e in
        let size : suc (length bytes) ≡ suc (suc (suc (suc (suc (suc (suc (suc (suc (suc (length more)))))))))) = ap length text in
        let left : length (drop n bytes) ≡ suc (length more) = ap length behind in
        let y : ⊥ = omega (arith, long, beyond, size, left, length-drop n bytes) in absurd y

-- `endkernel` and what follows it, which begins with `[`
bracket_behind : (at : ℕ) (p : Part) (rest : List ℕ) (ps : List Part) → ends_kernel (codes "endkernel" ++ rest) ≡ false → starts_word rest ≡ false → Scan at rest ps → is_end_of_kernel p ps ≡ false
bracket_behind at p [] ps h w s = cc
bracket_behind at p (x ∷ rest) ps h w s = go (nat_eq 91 x) refl
  where
    found : First at 91 rest ps → is_end_of_kernel p ps ≡ false
    found f = ap (is_end_of_kernel p) f.parts ∙ and_right (is p (codes "endkernel")) false refl

    go : (c : Bool) → nat_eq 91 x ≡ c → is_end_of_kernel p ps ≡ false
    go true e = found (first_part at (91 ∷ rest) ps (subst (λ z. Scan at (z ∷ rest) ps) (sym (eqb-true 91 x e)) s) refl refl)
    go false e = let y : true ≡ false = sym (and_from (not (is_word x)) (not (nat_eq 91 x)) (ap not w) (ap not e)) ∙ h in absurd cc

no_end : (b : ℕ) (bytes : List ℕ) (ps : List Part) (f : First 16 b bytes ps) → ends_kernel (b ∷ bytes) ≡ false → is_end_of_kernel (part_at 16 b bytes) f.rest ≡ false
no_end b bytes ps f h = go (is p (codes "endkernel")) refl
  where
    p : Part
    p = part_at 16 b bytes

    go : (c : Bool) → is p (codes "endkernel") ≡ c → is_end_of_kernel p f.rest ≡ false
    go false e = never_last p f.rest e
    go true e =
        let word : take (suc f.n) (b ∷ bytes) ≡ codes "endkernel" = ap (λ m. take m (b ∷ bytes)) (sym f.len) ∙ (bytes_eq-Decides p.text (codes "endkernel")).0 e in
        let text : b ∷ bytes ≡ codes "endkernel" ++ drop f.n bytes = take_drop (suc f.n) (b ∷ bytes) ∙ ap (λ z. z ++ drop f.n bytes) word in
        let stopped = word_ends f.n b bytes (drop f.n bytes) f.len refl text in
        bracket_behind (16 + suc f.n) p (drop f.n bytes) f.rest (sym (ap ends_kernel text) ∙ h) stopped f.scan

-- ---- the law

never : false ≡ true → ⊥
never e = cc

pub takes_texts : TakesTexts
takes_texts [] h = absurd (never h.first)
takes_texts (b ∷ bytes) h =
    let t = b ∷ bytes in
    let whole = scan_whole 16 t (whole_text t h.bytes) in
    let f = first_part 16 t (parts_of 16 t) whole (not-true (is_blank b) h.first) (and_parts (is_text_byte b) (list_all is_text_byte bytes) h.bytes).0 in
    let p = part_at 16 b bytes in
    let scan : Scan 16 t (p ∷ f.rest) = subst (λ z. Scan 16 t z) f.parts whole in
    let ends = scan_fills 16 t (p ∷ f.rest) scan h.bytes h.last in
    let plain = scan_plain 16 t (p ∷ f.rest) scan h.bytes in
    let alone : Alone t p f.rest = record { scan = scan; moved = move 16 16 t (p ∷ f.rest) scan; size = length t; ends = ends; cut = take-length t } in
    let well = ends_behind (codes "#pragma species ") t (omega arith) (scan_ends 16 t (p ∷ f.rest) scan ends plain) in
    and_from _ _
    (and_from (list_all is_no_line_feed (species_line t)) (is_none (last_backslash (species_line t))) (no_line_feeds t h.bytes)
    (ap is_none (not_spliced 35 (codes "pragma species " ++ t) (omega arith) well)))
    (ap (is_species_form t) (alone_form t p f.rest alone plain (no_end b bytes (parts_of 16 t) f h.goes_on)) ∙ (bytes_eq-Decides t t).1 refl)
