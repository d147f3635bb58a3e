-- A species text taken from a line is taken again from a line that has it alone.
use Rattle.std.proofs.Common.{◌≡◌, ◌∙◌, ap, sym, refl, subst, ℕ, suc, ◌+◌, ◌-◌, ◌≤◌, Bool, true, false, List, [], ◌∷◌, ◌++◌, length, take, drop, Option, Some, None, arith, length-drop}
use Rattle.std.specs.Prelude.{codes, ◌&&◌, if◌then◌else◌, bytes_eq, slice_range, not, option_map, option_and_then}
use Rattle.std.proofs.lemmas.List.{drop-drop, drop-take, length-take}
use Rattle.std.proofs.Math.Seq.{take-length, drop-length}
use Rattle.species_ast.specs.declared.tree.Schedule.{Schedule}
use Rattle.species_ast.specs.declared.token.TokenKind.{TokenKind}
use Rattle.species_ast.specs.declared.token.TokenKind.TheVariants as kind
use Rattle.species_ast.specs.declared.token.LexRefusal.TheVariants as refusal
use Rattle.species_ast.specs.Text.Characters.{is_digit, begins}
use Rattle.species_ast.specs.Text.Comments.{gap_len, content_len}
use Rattle.species_ast.specs.Text.Numbers.{or_else}
use Rattle.species_ast.specs.Text.Parts.{Part, is, is_nothing, parts_of, parts_end, offset_of, after_words}
use Rattle.species_ast.specs.Text.Pragmas.{schedule_of, depth_of, parallel_with, parallel_of, atomic_of, openmp_of}
use Rattle.species_ast.specs.Text.Directives.{Form, Skipped, Read, Macro, Wrong, formless, header_len, is_gap, include_with, include_of, is_first_in, is_macro_name, define_of, is_end_of_kernel, species_of, openmp_form, pragma_with, unless_backslash, pragma_of, parts_form, first_word, is_include, form_of}
use Rattle.species_readback.specs.Law.{TakesSpeciesBack}
use Rattle.species_readback.proofs.ScanLemmas.{Scan, parts_are, is_whole}
use Rattle.species_readback.proofs.CutLemmas.{take_shorter, end_part, end_from, cut_scan, Moved, move, texts, first_at}
use Rattle.species_readback.proofs.LineLemmas.{content_scan, end_within, From, from_first, Behind, behind_first}

-- ---- a kind that is no species line

abbrev Other : TokenKind → Type 0
Other kind.Species = ⊥
Other k = Unit {0}

abbrev OtherOption : Option TokenKind → Type 0
OtherOption None = Unit {0}
OtherOption (Some k) = Other k

other_else : (a b : Option TokenKind) → OtherOption a → OtherOption b → OtherOption (or_else a b)
other_else None b x y = y
other_else (Some k) b x y = x

other_scheduled : (depth : ℕ) (o : Option Schedule) → OtherOption (option_map (kind.Parallel depth) o)
other_scheduled depth None = tt
other_scheduled depth (Some s) = tt

other_parallel : (ps : List Part) → OtherOption (parallel_of ps)
other_parallel ps = go (depth_of ps)
  where
    go : (o : Option (ℕ × List Part)) → OtherOption (option_and_then parallel_with o)
    go None = tt
    go (Some p) = other_scheduled p.0 (schedule_of p.1)

other_atomic : (ps : List Part) → OtherOption (atomic_of ps)
other_atomic [] = tt
other_atomic (p ∷ ps) = tt

other_then : (f : List Part → Option TokenKind) (o : Option (List Part)) → ((ps : List Part) → OtherOption (f ps)) → OtherOption (option_and_then f o)
other_then f None h = tt
other_then f (Some ps) h = h ps

other_openmp : (ps : List Part) → OtherOption (openmp_of ps)
unfolding openmp_of
other_openmp ps =
    other_else _ _ (other_then parallel_of (after_words (codes "omp" ∷ codes "parallel" ∷ codes "for" ∷ []) ps) other_parallel)
    (other_then atomic_of (after_words (codes "omp" ∷ codes "atomic" ∷ codes "update" ∷ []) ps) other_atomic)

-- ---- what a line with a species text is

abbrev IsSpecies : Form → List ℕ → Type 0
IsSpecies f t = f ≡ Read t kind.Species

abbrev form_text : Form → List ℕ
form_text (Read t k) = t
form_text f = []

-- the parts behind the words `pragma species`
record HasText (line t : List ℕ) (ps : List Part) : Type 0 where
  first : Part
  rest : List Part
  parts : ps ≡ first ∷ rest
  no_end : is_end_of_kernel first rest ≡ false
  text : slice_range line first.at (parts_end first.at (first ∷ rest)) ≡ t

has_text : (line t : List ℕ) (ps : List Part) → IsSpecies (species_of line ps) t → HasText line t ps
has_text line t [] h = cc
has_text line t (p ∷ ps) h = go (is_end_of_kernel p ps) refl h
  where
    go : (c : Bool) → is_end_of_kernel p ps ≡ c → IsSpecies (if c then Skipped else Read (slice_range line p.at (parts_end p.at (p ∷ ps))) kind.Species) t → HasText line t (p ∷ ps)
    go true e h = cc
    go false e h = record { first = p; rest = ps; parts = refl; no_end = e; text = ap form_text h }

openmp_other : (line t : List ℕ) (o : Option TokenKind) → OtherOption o → IsSpecies (openmp_form line o) t → ⊥
openmp_other line t None h e = cc
openmp_other line t (Some kind.Species) h e = h
openmp_other line t (Some _) h e = cc

-- the parts behind the word `pragma`
record HasPragma (line t : List ℕ) (ps : List Part) : Type 0 where
  second : Part
  more : List Part
  parts : ps ≡ second ∷ more
  no_backslash : offset_of (codes "\\") ps ≡ None
  has : HasText line t more

has_pragma : (line t : List ℕ) (ps : List Part) → IsSpecies (pragma_of line ps) t → HasPragma line t ps
has_pragma line t ps h = backslash (offset_of (codes "\\") ps) refl h
  where
    species : (p : Part) (qs : List Part) (c : Bool) → offset_of (codes "\\") (p ∷ qs) ≡ None
        → IsSpecies (if c then species_of line qs else openmp_form line (openmp_of (p ∷ qs))) t → HasPragma line t (p ∷ qs)
    species p qs true o h = record { second = p; more = qs; parts = refl; no_backslash = o; has = has_text line t qs h }
    species p qs false o h = absurd (openmp_other line t (openmp_of (p ∷ qs)) (other_openmp (p ∷ qs)) h)

    words : (ps : List Part) → offset_of (codes "\\") ps ≡ None → IsSpecies (pragma_with line ps) t → HasPragma line t ps
    words [] o h = cc
    words (p ∷ qs) o h = species p qs (is p (codes "species")) o h

    backslash : (o : Option ℕ) → offset_of (codes "\\") ps ≡ o → IsSpecies (unless_backslash o (pragma_with line ps)) t → HasPragma line t ps
    backslash None e h = words ps e h
    backslash (Some at) e h = cc

-- the parts behind the `#`
record HasParts (line t : List ℕ) (ps : List Part) : Type 0 where
  head : Part
  tail : List Part
  parts : ps ≡ head ∷ tail
  has : HasPragma line t tail

define_other : (t : List ℕ) (ps : List Part) → IsSpecies (define_of ps) t → ⊥
define_other t [] h = cc
define_other t (p ∷ []) h = cc
define_other t (p ∷ run ∷ ps) h = go (is_macro_name p && is_first_in is_digit run.text && is_nothing ps) h
  where
    go : (c : Bool) → IsSpecies (if c then Macro p.text run else formless) t → ⊥
    go true h = cc
    go false h = cc

has_parts : (line t : List ℕ) (ps : List Part) → IsSpecies (parts_form line ps) t → HasParts line t ps
has_parts line t [] h = cc
has_parts line t (p ∷ ps) h = go (is p (codes "define")) (is p (codes "pragma")) h
  where
    go : (c d : Bool) → IsSpecies (if c then define_of ps else (if d then pragma_of line ps else formless)) t → HasParts line t (p ∷ ps)
    go true d h = absurd (define_other t ps h)
    go false true h = record { head = p; tail = ps; parts = refl; has = has_pragma line t ps h }
    go false false h = cc

include_other : (t bytes : List ℕ) → IsSpecies (include_of bytes) t → ⊥
include_other t bytes h = go (header_len (drop (gap_len bytes) bytes)) h
  where
    gap : (n : ℕ) (c : Bool) → IsSpecies (if c then Read (take n (drop (gap_len bytes) bytes)) kind.Include else formless) t → ⊥
    gap n true h = cc
    gap n false h = cc

    go : (o : Option ℕ) → IsSpecies (include_with (drop (gap_len bytes) bytes) o) t → ⊥
    go None h = cc
    go (Some n) h = gap n (is_gap (drop n (drop (gap_len bytes) bytes))) h

abbrev content_of : List ℕ → List ℕ
content_of line = take (content_len (drop 1 line)) (drop 1 line)

line_parts : (line t : List ℕ) → IsSpecies (form_of line) t → HasParts line t (parts_of 1 (content_of line))
unfolding form_of
line_parts line t h = go (is_include line) h
  where
    comment : (c : Bool) → IsSpecies (if c then Wrong (refusal.OpenComment (content_len (drop 1 line) + 1)) else parts_form line (parts_of 1 (content_of line))) t
        → HasParts line t (parts_of 1 (content_of line))
    comment true h = cc
    comment false h = has_parts line t (parts_of 1 (content_of line)) h

    go : (c : Bool) → IsSpecies (if c then include_of (drop 7 (first_word line)) else (if begins (codes "/*") (drop (content_len (drop 1 line)) (drop 1 line)) then Wrong (refusal.OpenComment (content_len (drop 1 line) + 1)) else parts_form line (parts_of 1 (content_of line)))) t
        → HasParts line t (parts_of 1 (content_of line))
    go true h = absurd (include_other t (drop 7 (first_word line)) h)
    go false h = comment (begins (codes "/*") (drop (content_len (drop 1 line)) (drop 1 line))) h

-- ---- the text, by the bytes of the line

-- the text is the bytes of the content from its first part to its last
slice_is : (h : ℕ) (bytes : List ℕ) (n g k : ℕ) → g + k ≤ n → take k (drop g (take n bytes)) ≡ slice_range (h ∷ bytes) (suc g) (suc g + k)
slice_is h bytes n g k fits =
    let m = n - g in
    let whole : g + m ≡ n = omega (arith, fits) in
    let least : k + (m - k) ≡ m = omega (arith, fits) in
    let size : (suc g + k) - suc g ≡ k = omega arith in
    sym (ap (λ n. take k (drop g (take n bytes))) whole)
    ∙ ap (take k) (drop-take g m bytes)
    ∙ sym (ap (λ m. take k (take m (drop g bytes))) least)
    ∙ take_shorter k (m - k) (drop g bytes)
    ∙ sym (ap (λ i. take i (drop g bytes)) size)

end_after : (at : ℕ) (bytes : List ℕ) (p : Part) (ps : List Part) → Scan at bytes (p ∷ ps) → suc at ≤ parts_end at (p ∷ ps)
end_after at t w v (Scan.blank _ b bytes (p ∷ ps) h s) = omega (arith, end_from (at + 1) bytes (p ∷ ps) s)
end_after at t w v (Scan.comment _ b a bytes n (p ∷ ps) g h o s) = omega (arith, end_from (at + suc (suc n)) (drop n bytes) (p ∷ ps) s)
end_after at t w v (Scan.part _ b bytes n ps g f h len s) = omega (arith, end_part at b bytes n ps len, end_from (at + suc n) (drop n bytes) ps s)

-- what stands alone behind `#pragma species `: the same parts, from the sixteenth byte on
pub record Alone (t : List ℕ) (p : Part) (ps : List Part) : Type 0 where
  pub scan : Scan p.at t (p ∷ ps)
  pub moved : Moved p.at 16 t (p ∷ ps)
  pub size : ℕ
  pub ends : parts_end p.at (p ∷ ps) ≡ p.at + size
  pub cut : take size t ≡ t

-- the content from the first part of the text on, cut behind its last part
alone_from : (h : ℕ) (bytes t : List ℕ) (p : Part) (ps : List Part) (g : ℕ) → p.at ≡ 1 + g
    → Scan p.at (drop g (take (content_len bytes) bytes)) (p ∷ ps)
    → slice_range (h ∷ bytes) p.at (parts_end p.at (p ∷ ps)) ≡ t → Alone t p ps
alone_from h bytes t p ps g stands s text =
    let n = content_len bytes in
    let content = drop g (take n bytes) in
    let from = end_from p.at content (p ∷ ps) s in
    let k = parts_end p.at (p ∷ ps) - p.at in
    let ends : parts_end p.at (p ∷ ps) ≡ p.at + k = omega (arith, from) in
    let within = end_within p.at content (p ∷ ps) s in
    let after = end_after p.at content p ps s in
    let fits : g + k ≤ n = omega (arith, after, within, ends, length-drop g (take n bytes), length-take n bytes) in
    let is : take k content ≡ t =
    slice_is h bytes n g k fits
    ∙ ap (λ i. slice_range (h ∷ bytes) i (i + k)) (sym at_is)
    ∙ ap (λ e. slice_range (h ∷ bytes) p.at e) (sym ends) ∙ text in
    let cut = subst (λ z. Scan p.at z (p ∷ ps)) is (cut_scan p.at content (p ∷ ps) s k ends) in
    record {
      scan = cut;
      moved = move p.at 16 t (p ∷ ps) cut;
      size = k;
      ends = ends;
      cut = ap (take k) (sym is) ∙ take_twice k content ∙ is;
    }
  where
    at_is : p.at ≡ suc g
    at_is = omega (arith, stands)

    take_twice : (k : ℕ) (xs : List ℕ) → take k (take k xs) ≡ take k xs
    take_twice k xs = let e : k + 0 ≡ k = omega arith in sym (ap (λ i. take k (take i xs)) e) ∙ take_shorter k 0 xs

-- ---- the line that has the text alone

abbrev alone_line : List ℕ → List ℕ
alone_line t = codes "#pragma species " ++ t

abbrev alone_parts : List Part → List Part
alone_parts ps = record { at = 1; text = codes "pragma" } ∷ record { at = 8; text = codes "species" } ∷ ps

alone_scan : (t : List ℕ) (ps : List Part) → Scan 16 t ps → Scan 1 (codes "pragma species " ++ t) (alone_parts ps)
alone_scan t ps s =
    Scan.part 1 112 (codes "ragma species " ++ t) 5 _ refl refl refl refl
    (Scan.blank 7 32 (codes "species " ++ t) _ refl
    (Scan.part 8 115 (codes "pecies " ++ t) 6 _ refl refl refl refl
    (Scan.blank 15 32 t ps refl s)))

-- ---- parts with the same texts

offset_tail : (c : Bool) (at : ℕ) (o : Option ℕ) → (if c then Some at else o) ≡ None → o ≡ None
offset_tail true at o h = cc
offset_tail false at o h = h

offset_turn : (c d : Bool) (at to : ℕ) (o v : Option ℕ) → c ≡ d → (o ≡ None → v ≡ None) → (if c then Some at else o) ≡ None → (if d then Some to else v) ≡ None
offset_turn true d at to o v e next h = cc
offset_turn false false at to o v e next h = next h
offset_turn false true at to o v e next h = cc

abbrev head_of : List (List ℕ) → List ℕ
head_of [] = []
head_of (x ∷ xs) = x

abbrev rest_of : List (List ℕ) → List (List ℕ)
rest_of [] = []
rest_of (x ∷ xs) = xs

no_offset : (w : List ℕ) (ps qs : List Part) → texts qs ≡ texts ps → offset_of w ps ≡ None → offset_of w qs ≡ None
no_offset w [] [] same h = refl
no_offset w [] (q ∷ qs) same h = cc
no_offset w (p ∷ ps) [] same h = cc
no_offset w (p ∷ ps) (q ∷ qs) same h =
    let text : p.text ≡ q.text = sym (ap head_of same) in
    offset_turn (is p w) (is q w) p.at q.at (offset_of w ps) (offset_of w qs) (ap (λ x. bytes_eq x w) text) (no_offset w ps qs (ap rest_of same)) h

same_end : (p q : Part) (ps qs : List Part) → q.text ≡ p.text → texts qs ≡ texts ps → is_end_of_kernel q qs ≡ is_end_of_kernel p ps
same_end p q [] [] text same = ap (λ x. bytes_eq x (codes "endkernel")) text
same_end p q [] (r ∷ qs) text same = cc
same_end p q (o ∷ ps) [] text same = cc
same_end p q (o ∷ ps) (r ∷ qs) text same =
    ap (λ x. bytes_eq x (codes "endkernel") && not (is r (codes "["))) text
    ∙ ap (λ x. bytes_eq p.text (codes "endkernel") && not (bytes_eq x (codes "["))) (ap head_of same)

-- ---- the text of that line

alone_text : (t : List ℕ) (p : Part) (ps : List Part) (a : Alone t p ps) (q : Part) (qs : List Part) → a.moved.parts ≡ q ∷ qs
    → slice_range (alone_line t) q.at (parts_end q.at (q ∷ qs)) ≡ t
alone_text t p ps a q qs is =
    let front : q.at ≡ 16 = omega (arith, sym (ap (first_at 16) is), a.moved.front) in
    let end : parts_end q.at (q ∷ qs) ≡ 16 + a.size = omega (arith, sym (ap (parts_end 16) is), a.moved.end, a.ends) in
    let size : (16 + a.size) - 16 ≡ a.size = omega arith in
    ap (λ i. slice_range (alone_line t) i (parts_end q.at (q ∷ qs))) front
    ∙ ap (λ e. slice_range (alone_line t) 16 e) end
    ∙ ap (λ n. take n t) size
    ∙ a.cut

alone_species : (t : List ℕ) (p : Part) (ps : List Part) (a : Alone t p ps) → is_end_of_kernel p ps ≡ false → IsSpecies (species_of (alone_line t) a.moved.parts) t
alone_species t p ps a goes = go a.moved.parts refl a.moved.same
  where
    go : (qs : List Part) → a.moved.parts ≡ qs → texts qs ≡ texts (p ∷ ps) → IsSpecies (species_of (alone_line t) qs) t
    go [] same_parts same = cc
    go (q ∷ qs) same_parts same =
        ap (λ c. if c then Skipped else Read (slice_range (alone_line t) q.at (parts_end q.at (q ∷ qs))) kind.Species)
        (same_end p q ps qs (ap head_of same) (ap rest_of same) ∙ goes)
        ∙ ap (λ x. Read x kind.Species) (alone_text t p ps a q qs same_parts)

alone_pragma : (t : List ℕ) (p : Part) (ps : List Part) (a : Alone t p ps) → offset_of (codes "\\") (p ∷ ps) ≡ None → is_end_of_kernel p ps ≡ false
    → IsSpecies (parts_form (alone_line t) (alone_parts a.moved.parts)) t
alone_pragma t p ps a plain goes =
    ap (λ o. unless_backslash o (species_of (alone_line t) a.moved.parts)) (no_offset (codes "\\") (p ∷ ps) a.moved.parts a.moved.same plain)
    ∙ alone_species t p ps a goes

-- a line whose content is all of it
pub whole_line : (bytes : List ℕ) (ps : List Part) → is_include (35 ∷ bytes) ≡ false → Scan 1 bytes ps → form_of (35 ∷ bytes) ≡ parts_form (35 ∷ bytes) ps
unfolding form_of
whole_line bytes ps goes s =
    let whole : content_len bytes ≡ length bytes = is_whole 1 bytes ps s in
    let form : ℕ → Form = λ n. if begins (codes "/*") (drop n bytes) then Wrong (refusal.OpenComment (n + 1)) else parts_form (35 ∷ bytes) (parts_of 1 (take n bytes)) in
    ap (λ c. if c then include_of (drop 7 (first_word (35 ∷ bytes))) else form (content_len bytes)) goes
    ∙ ap form whole
    ∙ ap (λ z. if begins (codes "/*") z then Wrong (refusal.OpenComment (length bytes + 1)) else parts_form (35 ∷ bytes) (parts_of 1 (take (length bytes) bytes))) (drop-length bytes)
    ∙ ap (λ z. parts_form (35 ∷ bytes) (parts_of 1 z)) (take-length bytes)
    ∙ ap (parts_form (35 ∷ bytes)) (parts_are 1 bytes ps s (length bytes) (omega arith))

pub alone_form : (t : List ℕ) (p : Part) (ps : List Part) (a : Alone t p ps) → offset_of (codes "\\") (p ∷ ps) ≡ None → is_end_of_kernel p ps ≡ false
    → IsSpecies (form_of (alone_line t)) t
alone_form t p ps a plain goes =
    whole_line (codes "pragma species " ++ t) (alone_parts a.moved.parts) refl (alone_scan t a.moved.parts a.moved.scan)
    ∙ alone_pragma t p ps a plain goes

-- ---- the law

abbrev Parted : List ℕ → List ℕ → List Part → Type 0
Parted line t ps = Scan 1 (content_of line) ps → HasParts line t ps

record Found (line t : List ℕ) : Type 0 where
  first : Part
  rest : List Part
  gap : ℕ
  stands : first.at ≡ 1 + gap
  scan : Scan first.at (drop gap (content_of line)) (first ∷ rest)
  plain : offset_of (codes "\\") (first ∷ rest) ≡ None
  goes : is_end_of_kernel first rest ≡ false
  text : slice_range line first.at (parts_end first.at (first ∷ rest)) ≡ t

-- the parts behind two others
behind_two : (at : ℕ) (bytes : List ℕ) (o n p : Part) (ps : List Part) → Scan at bytes (o ∷ n ∷ p ∷ ps) → From at bytes p ps
behind_two at bytes o n p ps s = second (behind_first at bytes o (n ∷ p ∷ ps) s)
  where
    join : (i j : ℕ) → From (at + i + j) (drop j (drop i bytes)) p ps → From at bytes p ps
    join i j f =
        let e : (at + i + j) + f.gap ≡ at + (i + j + f.gap) = omega arith in
        let d : drop f.gap (drop j (drop i bytes)) ≡ drop (i + j + f.gap) bytes = ap (drop f.gap) (drop-drop j i bytes) ∙ drop-drop f.gap (i + j) bytes in
        record {
          gap = i + j + f.gap;
          stands = f.stands ∙ e;
          scan = subst (λ t. Scan (at + (i + j + f.gap)) t (p ∷ ps)) d (subst (λ k. Scan k (drop f.gap (drop j (drop i bytes))) (p ∷ ps)) e f.scan);
        }

    third : (i : ℕ) → Behind (at + i) (drop i bytes) (p ∷ ps) → From at bytes p ps
    third i b = join i b.size (from_first (at + i + b.size) (drop b.size (drop i bytes)) p ps b.scan)

    second : Behind at bytes (n ∷ p ∷ ps) → From at bytes p ps
    second b = third b.size (behind_first (at + b.size) (drop b.size bytes) n (p ∷ ps) b.scan)

found_at : (line t : List ℕ) (o n p : Part) (ps : List Part) → From 1 (content_of line) p ps → offset_of (codes "\\") (n ∷ p ∷ ps) ≡ None → is_end_of_kernel p ps ≡ false
    → slice_range line p.at (parts_end p.at (p ∷ ps)) ≡ t → Found line t
found_at line t o n p ps f plain more_goes text = record {
  first = p;
  rest = ps;
  gap = f.gap;
  stands = f.stands;
  scan = subst (λ i. Scan i (drop f.gap (content_of line)) (p ∷ ps)) (sym f.stands) f.scan;
  plain = offset_tail (is n (codes "\\")) n.at (offset_of (codes "\\") (p ∷ ps)) plain;
  goes = more_goes;
  text = text;
}

found_in : (line t : List ℕ) (all : List Part) → Scan 1 (content_of line) all → HasParts line t all → Found line t
found_in line t all s h = one h.head h.tail h.parts h.has
  where
    three : (o n : Part) (more : List Part) → all ≡ o ∷ n ∷ more → offset_of (codes "\\") (n ∷ more) ≡ None → HasText line t more → Found line t
    three o n more e plain x =
        let parts : all ≡ o ∷ n ∷ x.first ∷ x.rest = e ∙ ap (λ qs. o ∷ n ∷ qs) x.parts in
        found_at line t o n x.first x.rest
        (behind_two 1 (content_of line) o n x.first x.rest (subst (Scan 1 (content_of line)) parts s))
        (subst (λ qs. offset_of (codes "\\") (n ∷ qs) ≡ None) x.parts plain) x.no_end x.text

    two : (o : Part) (tail : List Part) → all ≡ o ∷ tail → (n : Part) (more : List Part) → tail ≡ n ∷ more → offset_of (codes "\\") tail ≡ None → HasText line t more → Found line t
    two o tail e n more d plain x = three o n more (e ∙ ap (λ qs. o ∷ qs) d) (subst (λ qs. offset_of (codes "\\") qs ≡ None) d plain) x

    one : (o : Part) (tail : List Part) → all ≡ o ∷ tail → HasPragma line t tail → Found line t
    one o tail e p = two o tail e p.second p.more p.parts p.no_backslash p.has

-- The parts of a species text that is taken from a line: they stand in the text from its first byte to its last.
pub record Given (line t : List ℕ) : Type 0 where
  pub at : ℕ
  pub first : Part
  pub rest : List Part
  pub scan : Scan at t (first ∷ rest)
  pub ends : parts_end at (first ∷ rest) ≡ at + length t
  pub plain : offset_of (codes "\\") (first ∷ rest) ≡ None
  pub text : slice_range line at (parts_end at (first ∷ rest)) ≡ t

pub given_text : (b : ℕ) (bytes t : List ℕ) → IsSpecies (form_of (b ∷ bytes)) t → Given (b ∷ bytes) t
given_text b bytes t h =
    go (found_in (b ∷ bytes) t (parts_of 1 (content_of (b ∷ bytes))) (content_scan bytes) (line_parts (b ∷ bytes) t h))
  where
    go : Found (b ∷ bytes) t → Given (b ∷ bytes) t
    go f =
        let a = alone_from b bytes t f.first f.rest f.gap f.stands f.scan f.text in
        let within = end_within f.first.at t (f.first ∷ f.rest) a.scan in
        record {
          at = f.first.at;
          first = f.first;
          rest = f.rest;
          scan = a.scan;
          ends = omega (arith, a.ends, within, length-take a.size t, ap length a.cut);
          plain = f.plain;
          text = f.text;
        }

taken_back : (line t : List ℕ) → IsSpecies (form_of line) t → IsSpecies (form_of (alone_line t)) t
taken_back [] t h = go (line_parts [] t h)
  where
    go : HasParts [] t [] → IsSpecies (form_of (alone_line t)) t
    go p = cc
taken_back (b ∷ bytes) t h =
    go (found_in (b ∷ bytes) t (parts_of 1 (content_of (b ∷ bytes))) (content_scan bytes) (line_parts (b ∷ bytes) t h))
  where
    go : Found (b ∷ bytes) t → IsSpecies (form_of (alone_line t)) t
    go f = alone_form t f.first f.rest (alone_from b bytes t f.first f.rest f.gap f.stands f.scan f.text) f.plain f.goes

pub takes_species_back : TakesSpeciesBack
takes_species_back = record { taken = taken_back }
