-- The line that is written for an arc that can be read back has no line feed.
use Rattle.std.proofs.Common.{◌≡◌, refl, ap, sym, ◌∙◌, subst, arith, ℕ, zero, suc, ◌+◌, ◌/◌, ◌%◌, ◌<◌, ◌≤◌, ◌^◌, Bool, true, false, ◌&&◌, not, nat_le, nat_eq, if◌then◌else◌, List, [], ◌∷◌, ◌++◌, map, length, ℤ, Option, Some, None, All}
use Rattle.std.specs.Prelude.{codes, decimal, slice_index_or}
use Rattle.std.specs.Int.RustNames.{unsigned_abs}
use Rattle.std.specs.List.{list_all, flat_map}
use Rattle.std.proofs.lemmas.Bool.{and_parts, and_from}
use Rattle.std.proofs.lemmas.Bool.Decides.{nat_tests}
use Rattle.std.proofs.lemmas.Fmt.{decimal_by_steps_wide}
use Rattle.species_arcs.specs.declared.places.Arc.{Arc}
use Rattle.species_arcs.specs.declared.places.ArcDim.{ArcDim}
use Rattle.species_arcs.specs.declared.places.Dir.{Dir}
use Rattle.species_arcs.specs.declared.places.Dir.TheVariants as dir
use Rattle.species_arcs.specs.declared.shapes.Word.{Word}
use Rattle.species_arcs.specs.declared.shapes.Word.TheVariants as word
use Rattle.species_arcs.specs.Shapes.{is_single, word_of}
use Rattle.species_ast.specs.Names.{is_letter, is_digit, is_word, is_name, is_keyword}
use Rattle.species_ast.specs.Text.Characters.{is_line_feed}
use Rattle.species_ast.proofs.Induction.{Each}
use Rattle.species_linear.specs.declared.forms.Form.{Form}
use Rattle.species_linear.specs.declared.forms.Term.{Term}
use Rattle.species_notation.specs.declared.given.Names.{Names}
use Rattle.species_notation.specs.declared.parts.Part.{Part}
use Rattle.species_notation.specs.declared.parts.Part.TheVariants as part
use Rattle.species_notation.specs.declared.raw.RawForm.{RawForm}
use Rattle.species_notation.specs.declared.raw.RawInt.{RawInt}
use Rattle.species_notation.specs.declared.raw.Summand.{Summand}
use Rattle.species_notation.specs.Law.{AreNames, IsReadable, IsReadableDim, IsReadableArc}
use Rattle.species_notation.specs.Parts.{part_text, Piece, Solid, Space, piece_text, text_of}
use Rattle.species_notation.specs.Spelled.{behind, listed_parts, minus, plus_minus, product_parts, first_parts, next_parts, form_parts, range_parts, int_parts, stride_parts, offset_parts, offsets_parts, word_text, mark_text, arc_forms}
use Rattle.species_notation.specs.TableLines.{HasReadableSizes}
use Rattle.species_notation.specs.Written.{name_at, is_negative, written_term, written_constant, constant_behind, closed_with, written_form, written_int, written_stride, written_offset, written_range, written_offsets, written_arc, spaced, dir_text, arc_domain, arc_shape, arc_tail, number_parts, numbers_pieces, sizes_pieces, table_front, table_pieces, table_line_text}

-- ---- lists

each_append : {X : Type 0} (P : X → Type 0) (xs ys : List X) → Each P xs → Each P ys → Each P (xs ++ ys)
each_append P [] ys h k = k
each_append P (x ∷ xs) ys h k = (h.0, each_append P xs ys h.1 k)

each_of_all : {X : Type 0} (P : X → Type 0) (xs : List X) → All P xs → Each P xs
each_of_all P [] h = tt
each_of_all P (x ∷ xs) h = (h 0 x (omega arith), each_of_all P xs (λ k d l. h (suc k) d (omega (arith, l))))

weaker : {X : Type 0} (P Q : X → Type 0) → ((x : X) → P x → Q x) → (xs : List X) → Each P xs → Each Q xs
weaker P Q f [] h = tt
weaker P Q f (x ∷ xs) h = (f x h.0, weaker P Q f xs h.1)

-- ---- bytes

abbrev is_no_line_feed : ℕ → Bool
is_no_line_feed b = not (is_line_feed b)

abbrev pub IsOneLine : List ℕ → Type 0
IsOneLine bytes = list_all is_no_line_feed bytes ≡ true

both_lines : (xs ys : List ℕ) → IsOneLine xs → IsOneLine ys → IsOneLine (xs ++ ys)
both_lines [] ys h k = k
both_lines (x ∷ xs) ys h k = let parts = and_parts (is_no_line_feed x) (list_all is_no_line_feed xs) h in and_from _ _ parts.0 (both_lines xs ys parts.1 k)

word_byte : (b : ℕ) → is_word b ≡ true → is_no_line_feed b ≡ true
word_byte b h = grind (arith, nat_tests, h)

letter_byte : (b : ℕ) → is_letter b ≡ true → is_no_line_feed b ≡ true
letter_byte b h = grind (arith, nat_tests, h)

words_line : (bs : List ℕ) → list_all is_word bs ≡ true → IsOneLine bs
words_line [] h = refl
words_line (b ∷ bs) h = let parts = and_parts (is_word b) (list_all is_word bs) h in and_from _ _ (word_byte b parts.0) (words_line bs parts.1)

name_line : (w : List ℕ) → is_name w ≡ true → IsOneLine w
name_line [] h = refl
name_line (b ∷ bs) h =
    let parts = and_parts (is_letter b) (list_all is_word bs && not (is_keyword (b ∷ bs))) h in
    and_from _ _ (letter_byte b parts.0) (words_line bs (and_parts (list_all is_word bs) _ parts.1).0)

abbrev DecimalLine : ℕ → List ℕ → Type 0
DecimalLine n ds = IsOneLine ds

digit_byte : (n : ℕ) → n < 10 → is_no_line_feed (48 + n) ≡ true
digit_byte n h = grind (arith, nat_tests, h)

decimal_line : (n : ℕ) → n ≤ 2 ^ 70 → IsOneLine (decimal n)
decimal_line n h = decimal_by_steps_wide DecimalLine (λ n lt. and_from _ true (digit_byte n lt) refl)
    (λ n ds le w. both_lines ds ((48 + n % 10) ∷ []) w (and_from _ true (digit_byte (n % 10) (omega arith)) refl)) n (omega (arith, h))

-- ---- parts

abbrev Good : Part → Type 0
Good (part.Name w) = IsOneLine w
Good (part.Number n) = n ≤ 2 ^ 70
Good (part.Sign b) = is_no_line_feed b ≡ true
Good part.Arrow = Unit {0}

abbrev AreGood : List Part → Type 0
AreGood ps = Each Good ps

part_line : (p : Part) → Good p → IsOneLine (part_text p)
part_line (part.Name w) h = h
part_line (part.Number n) h = decimal_line n h
part_line (part.Sign b) h = and_from _ true h refl
part_line part.Arrow h = refl

abbrev GoodPiece : Piece → Type 0
GoodPiece (Solid p) = Good p
GoodPiece Space = Unit {0}

pieces_line : (ps : List Piece) → Each GoodPiece ps → IsOneLine (text_of ps)
pieces_line [] h = refl
pieces_line (Solid p ∷ ps) h = both_lines (part_text p) (text_of ps) (part_line p h.0) (pieces_line ps h.1)
pieces_line (Space ∷ ps) h = both_lines (piece_text Space) (text_of ps) refl (pieces_line ps h.1)

solids_good : (ps : List Part) → AreGood ps → Each GoodPiece (map Solid ps)
solids_good [] h = tt
solids_good (p ∷ ps) h = (h.0, solids_good ps h.1)

flat_good : {X : Type 0} (f : X → List Part) (xs : List X) → Each (λ x. AreGood (f x)) xs → AreGood (flat_map f xs)
flat_good f [] h = tt
flat_good f (x ∷ xs) h = each_append Good (f x) (flat_map f xs) h.0 (flat_good f xs h.1)

behind_good : {X : Type 0} (b : ℕ) (f : X → List Part) (xs : List X) → is_no_line_feed b ≡ true → Each (λ x. AreGood (f x)) xs → Each (λ x. AreGood (behind b f x)) xs
behind_good b f [] e h = tt
behind_good b f (x ∷ xs) e h = ((e, h.0), behind_good b f xs e h.1)

listed_good : {X : Type 0} (b : ℕ) (f : X → List Part) (xs : List X) → is_no_line_feed b ≡ true → Each (λ x. AreGood (f x)) xs → AreGood (listed_parts b f xs)
listed_good b f [] e h = tt
listed_good b f (x ∷ xs) e h = each_append Good (f x) (flat_map (behind b f) xs) h.0 (flat_good (behind b f) xs (behind_good b f xs e h.1))

-- ---- forms

minus_good : (t : Bool) → AreGood (minus t)
minus_good true = (refl, tt)
minus_good false = tt

plus_minus_good : (t : Bool) → Good (plus_minus t)
plus_minus_good true = refl
plus_minus_good false = refl

abbrev GoodName : Option (List ℕ) → Type 0
GoodName (Some w) = IsOneLine w
GoodName None = Unit {0}

abbrev GoodSummand : Summand → Type 0
GoodSummand s = (s.number ≤ 2 ^ 70) × GoodName s.name

product_good : (n : ℕ) (name : Option (List ℕ)) → n ≤ 2 ^ 70 → GoodName name → AreGood (product_parts n name)
product_good n None h k = (h, tt)
product_good n (Some w) h k = go (nat_eq n 1)
  where
    go : (t : Bool) → AreGood (if t then part.Name w ∷ [] else part.Number n ∷ part.Sign 42 ∷ part.Name w ∷ [])
    go true = (k, tt)
    go false = (h, (refl, (k, tt)))

first_good : (s : Summand) → GoodSummand s → AreGood (first_parts s)
first_good s h = each_append Good (minus s.negative) (product_parts s.number s.name) (minus_good s.negative) (product_good s.number s.name h.0 h.1)

next_good : (s : Summand) → GoodSummand s → AreGood (next_parts s)
next_good s h = (plus_minus_good s.negative, product_good s.number s.name h.0 h.1)

nexts_good : (ss : List Summand) → Each GoodSummand ss → Each (λ s. AreGood (next_parts s)) ss
nexts_good [] h = tt
nexts_good (s ∷ ss) h = (next_good s h.0, nexts_good ss h.1)

abbrev GoodRaw : RawForm → Type 0
GoodRaw f = GoodSummand f.first × Each GoodSummand f.more

raw_good : (f : RawForm) → GoodRaw f → AreGood (form_parts f)
raw_good f h = each_append Good (first_parts f.first) (flat_map next_parts f.more) (first_good f.first h.0) (flat_good next_parts f.more (nexts_good f.more h.1))

constant_good : (c : ℤ) → unsigned_abs c ≤ 2 ^ 70 → Each GoodSummand (constant_behind c)
constant_good c h = go (nat_eq (unsigned_abs c) 0)
  where
    go : (t : Bool) → Each GoodSummand (if t then [] else written_constant c ∷ [])
    go true = tt
    go false = ((h, tt), tt)

closed_good : (c : ℤ) (ss : List Summand) → unsigned_abs c ≤ 2 ^ 70 → Each GoodSummand ss → GoodRaw (closed_with c ss)
closed_good c [] h k = ((h, tt), tt)
closed_good c (s ∷ ss) h k = (k.0, each_append GoodSummand ss (constant_behind c) k.1 (constant_good c h))

only_name : (w : List ℕ) (k : ℕ) → IsOneLine w → IsOneLine (name_at (w ∷ []) k)
only_name w zero h = h
only_name w (suc k) h = refl

terms_good : (w : List ℕ) (ts : List Term) → IsOneLine w → Each (λ t. unsigned_abs t.coefficient ≤ 2 ^ 70) ts → Each GoodSummand (map (written_term (w ∷ [])) ts)
terms_good w [] h k = tt
terms_good w (t ∷ ts) h k = ((k.0, only_name w t.level h), terms_good w ts h k.1)

form_good : (w : List ℕ) (f : Form) → IsOneLine w → IsReadable (w ∷ []) f → AreGood (form_parts (written_form (w ∷ []) f))
form_good w f h r =
    raw_good (written_form (w ∷ []) f) (closed_good f.constant (map (written_term (w ∷ [])) f.terms) r.constant (terms_good w f.terms h (each_of_all (λ t. unsigned_abs t.coefficient ≤ 2 ^ 70) f.terms r.coefficients)))

range_good : (w : List ℕ) (d : ArcDim) → IsOneLine w → IsReadableDim (w ∷ []) d → AreGood (range_parts (written_range (w ∷ []) d))
range_good w d h r =
    each_append Good (form_parts (written_form (w ∷ []) d.low)) (part.Sign 58 ∷ form_parts (written_form (w ∷ []) d.high)) (form_good w d.low h r.low) (refl, form_good w d.high h r.high)

-- ---- offsets

int_good : (z : ℤ) → unsigned_abs z ≤ 2 ^ 70 → AreGood (int_parts (written_int z))
int_good z h = each_append Good (minus (is_negative z)) (part.Number (unsigned_abs z) ∷ []) (minus_good (is_negative z)) (h, tt)

stride_good : (t : ℕ) → t ≤ 2 ^ 70 → AreGood (stride_parts (written_stride t))
stride_good t h = go (nat_le t 1)
  where
    go : (b : Bool) → AreGood (stride_parts (if b then None else Some t))
    go true = tt
    go false = (refl, (h, tt))

offset_good : (w : List ℕ) (d : ArcDim) → IsReadableDim (w ∷ []) d → AreGood (offset_parts (written_offset d))
offset_good w d r = go (is_single d)
  where
    go : (b : Bool) → AreGood (offset_parts (if b then None else Some (record { low = written_int d.a; high = written_int d.b; stride = written_stride d.stride })))
    go true = (refl, tt)
    go false =
        each_append Good (int_parts (written_int d.a)) (part.Sign 58 ∷ (int_parts (written_int d.b) ++ stride_parts (written_stride d.stride))) (int_good d.a r.a)
        (refl, each_append Good (int_parts (written_int d.b)) (stride_parts (written_stride d.stride)) (int_good d.b r.b) (stride_good d.stride r.stride.1))

each_mapped : {X Y : Type 0} (P : Y → Type 0) (f : X → Y) (xs : List X) → Each (λ x. P (f x)) xs → Each P (map f xs)
each_mapped P f [] h = tt
each_mapped P f (x ∷ xs) h = (h.0, each_mapped P f xs h.1)

list_good : (w : List ℕ) (ds : List ArcDim) → Each (IsReadableDim (w ∷ [])) ds → AreGood (offsets_parts (Some (map written_offset ds)))
list_good w ds h = (
  refl,
  each_append Good (listed_parts 44 offset_parts (map written_offset ds)) (part.Sign 41 ∷ [])
      (listed_good 44 offset_parts (map written_offset ds) refl (each_mapped (λ o. AreGood (offset_parts o)) written_offset ds (weaker (IsReadableDim (w ∷ [])) (λ d. AreGood (offset_parts (written_offset d))) (offset_good w) ds h)))
      (refl, tt),
)

offsets_good : (w : List ℕ) (x : Word) (ds : List ArcDim) → Each (IsReadableDim (w ∷ [])) ds → AreGood (offsets_parts (written_offsets x ds))
offsets_good w word.Element ds h = tt
offsets_good w word.Neighbourhood ds h = list_good w ds h
offsets_good w word.Chunk ds h = list_good w ds h
offsets_good w word.Full ds h = list_good w ds h
offsets_good w word.Shared ds h = list_good w ds h

-- ---- lines

word_good : (x : Word) → IsOneLine (word_text x)
word_good word.Element = refl
word_good word.Neighbourhood = refl
word_good word.Chunk = refl
word_good word.Full = refl
word_good word.Shared = refl

mark_good : (b : Bool) → IsOneLine (mark_text b)
mark_good true = refl
mark_good false = refl

dir_good : (d : Dir) → IsOneLine (dir_text d)
dir_good dir.Read = refl
dir_good dir.Write = refl
dir_good dir.Add = refl

numbers_good : (w : List ℕ) (ns : List ℕ) → IsOneLine w → Each (λ n. n ≤ 2 ^ 70) ns → Each GoodPiece (numbers_pieces w ns)
numbers_good w ns h k =
    let parts : AreGood (part.Sign 40 ∷ (listed_parts 44 number_parts ns ++ part.Sign 41 ∷ [])) =
    (refl, each_append Good (listed_parts 44 number_parts ns) (part.Sign 41 ∷ []) (listed_good 44 number_parts ns refl (weaker (λ n. n ≤ 2 ^ 70) (λ n. AreGood (number_parts n)) (λ n l. (l, tt)) ns k)) (refl, tt)) in
    each_append GoodPiece (spaced (part.Name w)) (map Solid (part.Sign 40 ∷ (listed_parts 44 number_parts ns ++ part.Sign 41 ∷ []))) (tt, (h, (tt, tt)))
    (solids_good (part.Sign 40 ∷ (listed_parts 44 number_parts ns ++ part.Sign 41 ∷ [])) parts)

sizes_good : (ds : List ArcDim) → Each HasReadableSizes ds → Each GoodPiece (sizes_pieces ds)
sizes_good ds h =
    each_append GoodPiece (numbers_pieces (codes "elements") (map (λ (d : ArcDim). d.elements) ds)) (numbers_pieces (codes "step") (map (λ (d : ArcDim). d.step) ds))
    (numbers_good (codes "elements") (map (λ (d : ArcDim). d.elements) ds) refl (each_mapped (λ n. n ≤ 2 ^ 70) (λ (d : ArcDim). d.elements) ds (weaker HasReadableSizes (λ d. d.elements ≤ 2 ^ 70) (λ d s. s.elements) ds h)))
    (numbers_good (codes "step") (map (λ (d : ArcDim). d.step) ds) refl (each_mapped (λ n. n ≤ 2 ^ 70) (λ (d : ArcDim). d.step) ds (weaker HasReadableSizes (λ d. d.step ≤ 2 ^ 70) (λ d s. s.step) ds h)))

abbrev names_with : List (List ℕ) → List ℕ → Names
names_with arrays w = record { arrays = arrays; iters = w ∷ []; locals = [] }

tail_good : (arrays : List (List ℕ)) (w : List ℕ) (a : Arc) → IsOneLine w → Each (IsReadableDim (w ∷ [])) a.dims → Each GoodPiece (arc_tail (written_arc (names_with arrays w) a))
tail_good arrays w a h dims =
    let forms : List RawForm = map (λ (d : ArcDim). written_form (w ∷ []) d.at) a.dims in
    let shape : AreGood (part.Sign 124 ∷ part.Name (word_text (word_of a)) ∷ offsets_parts (written_offsets (word_of a) a.dims)) = (refl, (word_good (word_of a), offsets_good w (word_of a) a.dims dims)) in
    let all : Each (λ f. AreGood (form_parts f)) forms =
    each_mapped (λ f. AreGood (form_parts f)) (λ (d : ArcDim). written_form (w ∷ []) d.at) a.dims (weaker (IsReadableDim (w ∷ [])) (λ d. AreGood (form_parts (written_form (w ∷ []) d.at))) (λ d r. form_good w d.at h r.at) a.dims dims) in
    let list : AreGood (part.Sign 40 ∷ (listed_parts 44 form_parts forms ++ part.Sign 41 ∷ [])) =
    (refl, each_append Good (listed_parts 44 form_parts forms) (part.Sign 41 ∷ []) (listed_good 44 form_parts forms refl all) (refl, tt)) in
    each_append GoodPiece (map Solid (arc_shape (written_arc (names_with arrays w) a)))
    (spaced (part.Name (codes "at")) ++ (map Solid (arc_forms (written_arc (names_with arrays w) a)) ++ Space ∷ Solid (part.Name (mark_text a.exact)) ∷ [])) (solids_good (arc_shape (written_arc (names_with arrays w) a)) shape)
    (each_append GoodPiece (spaced (part.Name (codes "at"))) (map Solid (arc_forms (written_arc (names_with arrays w) a)) ++ Space ∷ Solid (part.Name (mark_text a.exact)) ∷ []) (tt, (refl, (tt, tt)))
    (each_append GoodPiece (map Solid (arc_forms (written_arc (names_with arrays w) a))) (Space ∷ Solid (part.Name (mark_text a.exact)) ∷ []) (solids_good (arc_forms (written_arc (names_with arrays w) a)) list) (tt, (mark_good a.exact, tt))))

front_good : (arrays : List (List ℕ)) (w : List ℕ) (n : ℕ) (a : Arc) → n ≤ 2 ^ 70 → IsOneLine (name_at arrays a.array) → IsOneLine w → Each (IsReadableDim (w ∷ [])) a.dims
    → Each GoodPiece (table_front n a.dir (written_arc (names_with arrays w) a))
front_good arrays w n a small name h dims =
    let ranges = map (written_range (w ∷ [])) a.dims in
    let all : Each (λ r. AreGood (range_parts r)) ranges =
    each_mapped (λ r. AreGood (range_parts r)) (written_range (w ∷ [])) a.dims (weaker (IsReadableDim (w ∷ [])) (λ d. AreGood (range_parts (written_range (w ∷ []) d))) (λ d r. range_good w d h r) a.dims dims) in
    let domain : AreGood (arc_domain (written_arc (names_with arrays w) a)) =
    (name, (refl, each_append Good (listed_parts 44 range_parts ranges) (part.Sign 93 ∷ []) (listed_good 44 range_parts ranges refl all) (refl, tt))) in
    (small, each_append GoodPiece (spaced (part.Name (dir_text a.dir))) (map Solid (arc_domain (written_arc (names_with arrays w) a))) (tt, (dir_good a.dir, (tt, tt))) (solids_good (arc_domain (written_arc (names_with arrays w) a)) domain))

-- The law.
pub line_is_one : (arrays : List (List ℕ)) (w : List ℕ) (n : ℕ) (a : Arc) → AreNames arrays → is_name w ≡ true → n ≤ 2 ^ 70 → IsReadableArc (names_with arrays w) a → All HasReadableSizes a.dims
    → IsOneLine (table_line_text (names_with arrays w) n a)
unfolding table_line_text
line_is_one arrays w n a names name small arc sizes =
    let dims = each_of_all (IsReadableDim (w ∷ [])) a.dims arc.dims in
    let line = name_line w name in
    pieces_line (table_pieces (names_with arrays w) n a)
    (each_append GoodPiece (table_front n a.dir (written_arc (names_with arrays w) a)) (sizes_pieces a.dims ++ arc_tail (written_arc (names_with arrays w) a)) (front_good arrays w n a small (name_line (name_at arrays a.array) (names a.array [] arc.array)) line dims)
    (each_append GoodPiece (sizes_pieces a.dims) (arc_tail (written_arc (names_with arrays w) a)) (sizes_good a.dims (each_of_all HasReadableSizes a.dims sizes)) (tail_good arrays w a line dims)))
