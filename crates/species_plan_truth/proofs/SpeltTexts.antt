-- The line that is written for a nest is a text that can be taken from a line again, where its names are names.
use Rattle.std.proofs.Common.{◌≡◌, refl, ap, sym, ◌∙◌, subst, arith, ℕ, zero, suc, ◌+◌, ◌/◌, ◌%◌, ◌<◌, Bool, true, false, ◌&&◌, not, nat_le, nat_eq, nat_lt, if◌then◌else◌, ◌==◌, List, [], ◌∷◌, ◌++◌, map, length, drop, append_assoc, ℤ, Option, Some, None}
use Rattle.std.specs.Prelude.{codes, decimal}
use Rattle.std.specs.Fmt.{digits, digits_onto, digit_glyph}
use Rattle.std.specs.Int.RustNames.{unsigned_abs}
use Rattle.std.specs.List.{list_all, flat_map, starts_with}
use Rattle.std.proofs.lemmas.Bool.{and_parts, and_from}
use Rattle.std.proofs.lemmas.Bool.Decides.{nat_tests}
use Rattle.species_arcs.specs.declared.places.Arc.{Arc}
use Rattle.species_arcs.specs.declared.places.ArcDim.{ArcDim}
use Rattle.species_arcs.specs.declared.plans.Nest.{Nest}
use Rattle.species_arcs.specs.declared.plans.Reason.{Reason}
use Rattle.species_arcs.specs.declared.plans.Reason.TheVariants as reason
use Rattle.species_arcs.specs.declared.shapes.Word.{Word}
use Rattle.species_arcs.specs.declared.shapes.Word.TheVariants as word
use Rattle.species_arcs.specs.Shapes.{is_single, word_of}
use Rattle.species_ast.specs.Names.{is_letter, is_word, is_name, is_keyword}
use Rattle.species_ast.specs.Text.Characters.{is_blank, begins}
use Rattle.species_ast.proofs.Induction.{Each, each_all}
use Rattle.species_linear.specs.declared.forms.Form.{Form}
use Rattle.species_linear.specs.declared.forms.Term.{Term}
use Rattle.species_notation.specs.declared.given.Names.{Names}
use Rattle.species_notation.specs.Parts.{part_text, Piece, Solid, Space, piece_text, text_of}
use Rattle.species_notation.specs.Spelled.{RawOffset, behind, listed_parts, minus, plus_minus, product_parts, first_parts, next_parts, form_parts, range_parts, int_parts, stride_parts, offset_parts, offsets_parts, word_text, mark_text, arc_front, arc_forms, side_parts, line_parts}
use Rattle.species_notation.specs.Written.{name_at, is_negative, written_term, written_constant, constant_behind, closed_with, written_form, written_int, written_stride, written_offset, written_range, written_offsets, written_arc, reads_of, others_of, written_line, written_sides, written_reason, number_parts, spaced, arc_pieces, next_arc, side_pieces, line_pieces, line_text}
use Rattle.species_readback.specs.Spelt.{is_no_line_feed}
use Rattle.species_readback.specs.Texts.{is_text_byte, begins_full, ends_full, stops, ends_kernel, IsLineText}

-- ---- parts that are written

abbrev InOf : {A B : Type 0} → (A → B) → Type 0
InOf {A} f = A

-- Parts and what is read of them have types that no other crate can name: they are those which the writing functions take.
abbrev Part : Type 0
Part = InOf part_text

abbrev Summand : Type 0
Summand = InOf first_parts

abbrev RawForm : Type 0
RawForm = InOf form_parts

abbrev RawRange : Type 0
RawRange = InOf range_parts

abbrev RawArc : Type 0
RawArc = InOf arc_pieces

abbrev first_of : List Part → Part
first_of [] = plus_minus true
first_of (p ∷ ps) = p

abbrev second_of : List Part → Part
second_of [] = plus_minus true
second_of (p ∷ ps) = first_of ps

abbrev name : List ℕ → Part
name w = first_of (product_parts 1 (Some w))

abbrev number : ℕ → Part
number n = first_of (number_parts n)

abbrev sign : ℕ → Part
sign b = first_of (behind b (λ (n : ℕ). minus false) 0)

abbrev arrow : Part
arrow = second_of (line_parts (written_sides (record { arrays = []; iters = []; locals = [] }) []))

-- ---- bytes

abbrev IsText : List ℕ → Type 0
IsText bytes = list_all is_text_byte bytes ≡ true

abbrev IsWordText : List ℕ → Type 0
IsWordText bytes = list_all is_word bytes ≡ true

both_texts : (xs ys : List ℕ) → IsText xs → IsText ys → IsText (xs ++ ys)
both_texts [] ys h k = k
both_texts (x ∷ xs) ys h k = let parts = and_parts (is_text_byte x) (list_all is_text_byte xs) h in and_from (is_text_byte x) (list_all is_text_byte (xs ++ ys)) parts.0 (both_texts xs ys parts.1 k)

word_text_byte : (b : ℕ) → is_word b ≡ true → is_text_byte b ≡ true
word_text_byte b h = grind (arith, nat_tests, h)

word_full : (b : ℕ) → is_word b ≡ true → not (is_blank b) ≡ true
word_full b h = grind (arith, nat_tests, h)

word_is_text : (bs : List ℕ) → IsWordText bs → IsText bs
word_is_text [] h = refl
word_is_text (b ∷ bs) h = let parts = and_parts (is_word b) (list_all is_word bs) h in and_from (is_text_byte b) (list_all is_text_byte bs) (word_text_byte b parts.0) (word_is_text bs parts.1)

ends_more : (b : ℕ) (bs : List ℕ) → ends_full bs ≡ true → ends_full (b ∷ bs) ≡ true
ends_more b [] h = absurd cc
ends_more b (c ∷ bs) h = h

ends_behind : (xs ys : List ℕ) → ends_full ys ≡ true → ends_full (xs ++ ys) ≡ true
ends_behind [] ys h = h
ends_behind (x ∷ xs) ys h = ends_more x (xs ++ ys) (ends_behind xs ys h)

-- ---- numbers

glyph_word : (d : ℕ) → d < 10 → is_word (digit_glyph false d) ≡ true
glyph_word d h = go (nat_lt d 10) (grind (arith, nat_tests, h))
  where
    go : (t : Bool) → t ≡ true → is_word (if t then 48 + d else 87 + d) ≡ true
    go true e = grind (arith, nat_tests, h)
    go false e = absurd cc

record IsNumeral (ds : List ℕ) : Type 0 where
  words : IsWordText ds
  last : ends_full ds ≡ true

digit_more : (n : ℕ) (acc : List ℕ) → IsNumeral acc → IsNumeral (digit_glyph false (n % 10) ∷ acc)
digit_more n acc h = record {
  words = and_from (is_word (digit_glyph false (n % 10))) (list_all is_word acc) (glyph_word (n % 10) (omega arith)) h.words;
  last = ends_more (digit_glyph false (n % 10)) acc h.last;
}

digit_first : (n : ℕ) → IsNumeral (digit_glyph false (n % 10) ∷ [])
digit_first n = let w = glyph_word (n % 10) (omega arith) in record { words = and_from (is_word (digit_glyph false (n % 10))) true w refl; last = word_full (digit_glyph false (n % 10)) w }

onto : (k n : ℕ) (acc : List ℕ) → IsNumeral acc → IsNumeral (digits_onto k 10 false n acc)
onto zero n acc h = h
onto (suc k) n acc h = go (n / 10 == 0) (onto k (n / 10) (digit_glyph false (n % 10) ∷ acc) (digit_more n acc h))
  where
    go : (t : Bool) → IsNumeral (digits_onto k 10 false (n / 10) (digit_glyph false (n % 10) ∷ acc))
        → IsNumeral (if t then digit_glyph false (n % 10) ∷ acc else digits_onto k 10 false (n / 10) (digit_glyph false (n % 10) ∷ acc))
    go true more = digit_more n acc h
    go false more = more

onto_none : (k n : ℕ) → IsNumeral (digits_onto (suc k) 10 false n [])
onto_none k n = go (n / 10 == 0)
  where
    go : (t : Bool) → IsNumeral (if t then digit_glyph false (n % 10) ∷ [] else digits_onto k 10 false (n / 10) (digit_glyph false (n % 10) ∷ []))
    go true = digit_first n
    go false = onto k (n / 10) (digit_glyph false (n % 10) ∷ []) (digit_first n)

numeral : (n : ℕ) → IsNumeral (decimal n)
unfolding digits
numeral n = onto_none 63 n

-- ---- parts

abbrev Good : Part → Type 0
Good p = IsText (part_text p)

abbrev AreGood : List Part → Type 0
AreGood ps = Each Good ps

sign_text : (b : ℕ) → is_text_byte b ≡ true → IsText (b ∷ [])
sign_text b h = and_from (is_text_byte b) true h refl

number_text : (n : ℕ) → IsText (decimal n)
number_text n = word_is_text (decimal n) (numeral n).words

either_good : (t : Bool) (ps qs : List Part) → AreGood ps → AreGood qs → AreGood (if t then ps else qs)
either_good true ps qs h k = h
either_good false ps qs h k = k

abbrev GoodPiece : Piece → Type 0
GoodPiece (Solid p) = Good p
GoodPiece Space = Unit {0}

abbrev AreGoodPieces : List Piece → Type 0
AreGoodPieces ps = Each GoodPiece ps

pieces_text : (ps : List Piece) → AreGoodPieces ps → IsText (text_of ps)
pieces_text [] h = refl
pieces_text (Solid p ∷ ps) h = both_texts (part_text p) (text_of ps) h.0 (pieces_text ps h.1)
pieces_text (Space ∷ ps) h = both_texts (piece_text Space) (text_of ps) refl (pieces_text ps h.1)

each_append : {X : Type 0} (P : X → Type 0) (xs ys : List X) → Each P xs → Each P ys → Each P (xs ++ ys)
each_append P [] ys h k = k
each_append P (x ∷ xs) ys h k = (h.0, each_append P xs ys h.1 k)

each_mapped : {X Y : Type 0} (P : Y → Type 0) (f : X → Y) (xs : List X) → ((x : X) → P (f x)) → Each P (map f xs)
each_mapped P f [] h = tt
each_mapped P f (x ∷ xs) h = (h x, each_mapped P f xs h)

solids_good : (ps : List Part) → AreGood ps → AreGoodPieces (map Solid ps)
solids_good [] h = tt
solids_good (p ∷ ps) h = (h.0, solids_good ps h.1)

flat_good : {X : Type 0} (f : X → List Part) (xs : List X) → Each (λ x. AreGood (f x)) xs → AreGood (flat_map f xs)
flat_good f [] h = tt
flat_good f (x ∷ xs) h = each_append Good (f x) (flat_map f xs) h.0 (flat_good f xs h.1)

behind_good : {X : Type 0} (b : ℕ) (f : X → List Part) (xs : List X) → is_text_byte b ≡ true → Each (λ x. AreGood (f x)) xs → Each (λ x. AreGood (behind b f x)) xs
behind_good b f [] e h = tt
behind_good b f (x ∷ xs) e h = ((sign_text b e, h.0), behind_good b f xs e h.1)

listed_good : {X : Type 0} (b : ℕ) (f : X → List Part) (xs : List X) → is_text_byte b ≡ true → Each (λ x. AreGood (f x)) xs → AreGood (listed_parts b f xs)
listed_good b f [] e h = tt
listed_good b f (x ∷ xs) e h = each_append Good (f x) (flat_map (behind b f) xs) h.0 (flat_good (behind b f) xs (behind_good b f xs e h.1))

-- ---- names

-- each byte of these is one of a word
abbrev pub AreWords : List (List ℕ) → Type 0
AreWords ws = Each IsWordText ws

pub name_words : (w : List ℕ) → is_name w ≡ true → IsWordText w
name_words [] h = refl
name_words (b ∷ bs) h =
    let parts = and_parts (is_letter b) (list_all is_word bs && not (is_keyword (b ∷ bs))) h in
    and_from (is_word b) (list_all is_word bs) (grind (arith, nat_tests, parts.0)) (and_parts (list_all is_word bs) (not (is_keyword (b ∷ bs))) parts.1).0

pub names_words : (ws : List (List ℕ)) → list_all is_name ws ≡ true → AreWords ws
names_words [] h = tt
names_words (w ∷ ws) h = let parts = and_parts (is_name w) (list_all is_name ws) h in (name_words w parts.0, names_words ws parts.1)

word_at : (ws : List (List ℕ)) (k : ℕ) → AreWords ws → IsWordText (name_at ws k)
word_at [] k h = refl
word_at (w ∷ ws) zero h = h.0
word_at (w ∷ ws) (suc k) h = word_at ws k h.1

text_at : (ws : List (List ℕ)) (k : ℕ) → AreWords ws → IsText (name_at ws k)
text_at ws k h = word_is_text (name_at ws k) (word_at ws k h)

-- ---- forms

minus_good : (t : Bool) → AreGood (minus t)
minus_good true = (refl, tt)
minus_good false = tt

plus_minus_good : (t : Bool) → Good (plus_minus t)
plus_minus_good true = refl
plus_minus_good false = refl

abbrev GoodName : Option (List ℕ) → Type 0
GoodName (Some w) = IsText w
GoodName None = Unit {0}

abbrev GoodSummand : Summand → Type 0
GoodSummand s = GoodName s.name

product_good : (n : ℕ) (name : Option (List ℕ)) → GoodName name → AreGood (product_parts n name)
product_good n None k = (number_text n, tt)
product_good n (Some w) k = either_good (nat_eq n 1) (name w ∷ []) (number n ∷ sign 42 ∷ name w ∷ []) (k, tt) (number_text n, (refl, (k, tt)))

first_good : (s : Summand) → GoodSummand s → AreGood (first_parts s)
first_good s h = each_append Good (minus s.negative) (product_parts s.number s.name) (minus_good s.negative) (product_good s.number s.name h)

nexts_good : (ss : List Summand) → Each GoodSummand ss → Each (λ s. AreGood (next_parts s)) ss
nexts_good [] h = tt
nexts_good (s ∷ ss) h = ((plus_minus_good s.negative, product_good s.number s.name h.0), nexts_good ss h.1)

abbrev GoodRaw : RawForm → Type 0
GoodRaw f = GoodSummand f.first × Each GoodSummand f.more

raw_good : (f : RawForm) → GoodRaw f → AreGood (form_parts f)
raw_good f h = each_append Good (first_parts f.first) (flat_map next_parts f.more) (first_good f.first h.0) (flat_good next_parts f.more (nexts_good f.more h.1))

constant_good : (c : ℤ) → Each GoodSummand (constant_behind c)
constant_good c = go (nat_eq (unsigned_abs c) 0)
  where
    go : (t : Bool) → Each GoodSummand (if t then [] else written_constant c ∷ [])
    go true = tt
    go false = (tt, tt)

closed_good : (c : ℤ) (ss : List Summand) → Each GoodSummand ss → GoodRaw (closed_with c ss)
closed_good c [] k = (tt, tt)
closed_good c (s ∷ ss) k = (k.0, each_append GoodSummand ss (constant_behind c) k.1 (constant_good c))

form_good : (iters : List (List ℕ)) → AreWords iters → (f : Form) → AreGood (form_parts (written_form iters f))
form_good iters h f =
    raw_good (written_form iters f) (closed_good f.constant (map (written_term iters) f.terms) (each_mapped GoodSummand (written_term iters) f.terms (λ t. text_at iters t.level h)))

range_good : (iters : List (List ℕ)) → AreWords iters → (d : ArcDim) → AreGood (range_parts (written_range iters d))
range_good iters h d =
    each_append Good (form_parts (written_form iters d.low)) (sign 58 ∷ form_parts (written_form iters d.high)) (form_good iters h d.low) (refl, form_good iters h d.high)

-- ---- offsets

int_good : (z : ℤ) → AreGood (int_parts (written_int z))
int_good z = each_append Good (minus (is_negative z)) (number_parts (unsigned_abs z)) (minus_good (is_negative z)) (number_text (unsigned_abs z), tt)

stride_good : (t : ℕ) → AreGood (stride_parts (written_stride t))
stride_good t = go (nat_le t 1)
  where
    go : (b : Bool) → AreGood (stride_parts (if b then None else Some t))
    go true = tt
    go false = (refl, (number_text t, tt))

offset_good : (d : ArcDim) → AreGood (offset_parts (written_offset d))
offset_good d = go (is_single d)
  where
    go : (b : Bool) → AreGood (offset_parts (if b then None else Some (record { low = written_int d.a; high = written_int d.b; stride = written_stride d.stride })))
    go true = (refl, tt)
    go false =
        each_append Good (int_parts (written_int d.a)) (sign 58 ∷ (int_parts (written_int d.b) ++ stride_parts (written_stride d.stride))) (int_good d.a)
        (refl, each_append Good (int_parts (written_int d.b)) (stride_parts (written_stride d.stride)) (int_good d.b) (stride_good d.stride))

list_good : (ds : List ArcDim) → AreGood (offsets_parts (Some (map written_offset ds)))
list_good ds = (
  refl,
  each_append Good (listed_parts 44 offset_parts (map written_offset ds)) (sign 41 ∷ [])
      (listed_good 44 offset_parts (map written_offset ds) refl (each_mapped (λ (o : RawOffset). AreGood (offset_parts o)) written_offset ds offset_good)) (refl, tt),
)

offsets_good : (x : Word) (ds : List ArcDim) → AreGood (offsets_parts (written_offsets x ds))
offsets_good word.Element ds = tt
offsets_good word.Neighbourhood ds = list_good ds
offsets_good word.Chunk ds = list_good ds
offsets_good word.Full ds = list_good ds
offsets_good word.Shared ds = list_good ds

-- ---- arcs

word_good : (x : Word) → IsText (word_text x)
word_good word.Element = refl
word_good word.Neighbourhood = refl
word_good word.Chunk = refl
word_good word.Full = refl
word_good word.Shared = refl

mark_good : (b : Bool) → IsText (mark_text b)
mark_good true = refl
mark_good false = refl

mark_last : (b : Bool) → ends_full (mark_text b) ≡ true
mark_last true = refl
mark_last false = refl

-- the names of arrays and iterators, of which each byte is one of a word
pub record HasWords (names : Names) : Type 0 where
  pub arrays : AreWords names.arrays
  pub iters : AreWords names.iters

front_good : (names : Names) → HasWords names → (a : Arc) → AreGood (arc_front (written_arc names a))
front_good names h a =
    let ranges : List RawRange = map (written_range names.iters) a.dims in (
      text_at names.arrays a.array h.arrays,
      (
        refl,
        each_append Good (listed_parts 44 range_parts ranges) (sign 93 ∷ sign 124 ∷ name (word_text (word_of a)) ∷ offsets_parts (written_offsets (word_of a) a.dims))
            (listed_good 44 range_parts ranges refl (each_mapped (λ (r : RawRange). AreGood (range_parts r)) (written_range names.iters) a.dims (range_good names.iters h.iters)))
            (refl, (refl, (word_good (word_of a), offsets_good (word_of a) a.dims))),
      ),
    )

forms_good : (names : Names) → HasWords names → (a : Arc) → AreGood (arc_forms (written_arc names a))
forms_good names h a =
    let forms : List RawForm = map (λ (d : ArcDim). written_form names.iters d.at) a.dims in (
      refl,
      each_append Good (listed_parts 44 form_parts forms) (sign 41 ∷ [])
          (listed_good 44 form_parts forms refl (each_mapped (λ (f : RawForm). AreGood (form_parts f)) (λ (d : ArcDim). written_form names.iters d.at) a.dims (λ d. form_good names.iters h.iters d.at))) (refl, tt),
    )

arc_good : (names : Names) → HasWords names → (a : Arc) → AreGoodPieces (arc_pieces (written_arc names a))
arc_good names h a =
    let raw : RawArc = written_arc names a in
    let end : List Piece = Space ∷ Solid (name (mark_text a.exact)) ∷ [] in
    each_append GoodPiece (map Solid (arc_front raw)) (spaced (name (codes "at")) ++ (map Solid (arc_forms raw) ++ end)) (solids_good (arc_front raw) (front_good names h a))
    (tt, (refl, (tt, each_append GoodPiece (map Solid (arc_forms raw)) end (solids_good (arc_forms raw) (forms_good names h a)) (tt, (mark_good a.exact, tt)))))

nexts_good_arcs : (names : Names) → HasWords names → (rest : List Arc) → AreGoodPieces (flat_map next_arc (map (written_arc names) rest))
nexts_good_arcs names h [] = tt
nexts_good_arcs names h (a ∷ rest) =
    each_append GoodPiece (next_arc (written_arc names a)) (flat_map next_arc (map (written_arc names) rest)) (tt, (refl, (tt, arc_good names h a))) (nexts_good_arcs names h rest)

side_good : (names : Names) → HasWords names → (rest : List Arc) → AreGoodPieces (side_pieces (map (written_arc names) rest))
side_good names h [] = (refl, tt)
side_good names h (a ∷ rest) =
    each_append GoodPiece (arc_pieces (written_arc names a)) (flat_map next_arc (map (written_arc names) rest)) (arc_good names h a) (nexts_good_arcs names h rest)

-- ---- the first byte, and the last

text_append : (ps qs : List Piece) → text_of (ps ++ qs) ≡ text_of ps ++ text_of qs
text_append [] qs = refl
text_append (p ∷ ps) qs = ap (λ t. piece_text p ++ t) (text_append ps qs) ∙ sym (append_assoc (piece_text p) (text_of ps) (text_of qs))

ends_pieces : (ps qs : List Piece) → ends_full (text_of qs) ≡ true → ends_full (text_of (ps ++ qs)) ≡ true
ends_pieces ps qs h = ap ends_full (text_append ps qs) ∙ ends_behind (text_of ps) (text_of qs) h

ends_alone : (w : List ℕ) → ends_full w ≡ true → ends_full (w ++ []) ≡ true
ends_alone [] h = h
ends_alone (b ∷ []) h = h
ends_alone (b ∷ c ∷ w) h = ends_alone (c ∷ w) h

arc_last : (a : RawArc) → ends_full (text_of (arc_pieces a)) ≡ true
arc_last a =
    let end : List Piece = Space ∷ Solid (name (mark_text a.exact)) ∷ [] in
    let mark : ends_full (text_of end) ≡ true = ends_more 32 (mark_text a.exact ++ []) (ends_alone (mark_text a.exact) (mark_last a.exact)) in
    ends_pieces (map Solid (arc_front a)) (spaced (name (codes "at")) ++ (map Solid (arc_forms a) ++ end))
    (ends_pieces (spaced (name (codes "at"))) (map Solid (arc_forms a) ++ end) (ends_pieces (map Solid (arc_forms a)) end mark))

side_last : (rest : List RawArc) → ends_full (text_of (side_pieces rest)) ≡ true
side_last [] = refl
side_last (a ∷ rest) = go (arc_pieces a) (arc_last a) rest
  where
    go : (ps : List Piece) → ends_full (text_of ps) ≡ true → (more : List RawArc) → ends_full (text_of (ps ++ flat_map next_arc more)) ≡ true
    go ps h [] = ap ends_full (text_append ps []) ∙ ends_alone (text_of ps) h
    go ps h (b ∷ more) = ends_pieces ps (next_arc b ++ flat_map next_arc more) (go (next_arc b) (ends_pieces (spaced (sign 94)) (arc_pieces b) (arc_last b)) more)

begins_name : (w rest : List ℕ) → IsWordText w → begins_full (w ++ 91 ∷ rest) ≡ true
begins_name [] rest h = refl
begins_name (b ∷ bs) rest h = word_full b (and_parts (is_word b) (list_all is_word bs) h).0

-- a word before a `[` is no front of words alone, or the bytes behind that do not stop
bracket : (f : ℕ) → is_word f ≡ true → nat_eq f 91 ≡ false
bracket f h = grind (arith, nat_tests, h)

no_stop : (b : ℕ) (bytes : List ℕ) → is_word b ≡ true → stops (b ∷ bytes) ≡ false
no_stop b bytes h = ap (λ (t : Bool). not t && not (nat_eq 91 b)) h

goes_on : (front w rest : List ℕ) → IsWordText front → IsWordText w → (starts_with nat_eq (w ++ 91 ∷ rest) front && stops (drop (length front) (w ++ 91 ∷ rest))) ≡ false
goes_on [] [] rest h k = refl
goes_on [] (b ∷ bs) rest h k = no_stop b (bs ++ 91 ∷ rest) (and_parts (is_word b) (list_all is_word bs) k).0
goes_on (f ∷ front) [] rest h k = ap (λ (t : Bool). (t && starts_with nat_eq rest front) && stops (drop (length front) rest)) (bracket f (and_parts (is_word f) (list_all is_word front) h).0)
goes_on (f ∷ front) (b ∷ bs) rest h k =
    go (nat_eq f b) (goes_on front bs rest (and_parts (is_word f) (list_all is_word front) h).1 (and_parts (is_word b) (list_all is_word bs) k).1)
  where
    go : (t : Bool) → (starts_with nat_eq (bs ++ 91 ∷ rest) front && stops (drop (length front) (bs ++ 91 ∷ rest))) ≡ false
        → ((t && starts_with nat_eq (bs ++ 91 ∷ rest) front) && stops (drop (length front) (bs ++ 91 ∷ rest))) ≡ false
    go true e = e
    go false e = refl

-- ---- lines

-- the local that the reason speaks of has a name
abbrev pub HasNamedLocal : Names → Option Reason → Type 0
HasNamedLocal names None = Unit {0}
HasNamedLocal names (Some (reason.Carried array first second)) = Unit {0}
HasNamedLocal names (Some (reason.Outer local)) = is_name (name_at names.locals local) ≡ true

name_last : (w : List ℕ) → is_name w ≡ true → ends_full w ≡ true
name_last [] h = absurd cc
name_last (b ∷ bs) h = go b bs (name_words (b ∷ bs) h)
  where
    go : (c : ℕ) (cs : List ℕ) → IsWordText (c ∷ cs) → ends_full (c ∷ cs) ≡ true
    go c [] k = word_full c (and_parts (is_word c) true k).0
    go c (d ∷ cs) k = go d cs (and_parts (is_word c) (list_all is_word (d ∷ cs)) k).1

sides_text : (names : Names) (ls rs : List Arc) → HasWords names → IsLineText (text_of (side_pieces (map (written_arc names) ls) ++ (spaced arrow ++ side_pieces (map (written_arc names) rs))))
sides_text names ls rs h = record {
  bytes = pieces_text (side_pieces lefts ++ (spaced arrow ++ side_pieces rights))
      (each_append GoodPiece (side_pieces lefts) (spaced arrow ++ side_pieces rights) (side_good names h ls) (tt, (refl, (tt, side_good names h rs))));
  first = front ls;
  last = ends_pieces (side_pieces lefts) (spaced arrow ++ side_pieces rights) (ends_pieces (spaced arrow) (side_pieces rights) (side_last rights));
  goes_on = kernel ls;
}
  where
    lefts : List RawArc
    lefts = map (written_arc names) ls

    rights : List RawArc
    rights = map (written_arc names) rs

    front : (rest : List Arc) → begins_full (text_of (side_pieces (map (written_arc names) rest) ++ (spaced arrow ++ side_pieces rights))) ≡ true
    front [] = refl
    front (a ∷ rest) = begins_name (name_at names.arrays a.array) _ (word_at names.arrays a.array h.arrays)

    kernel : (rest : List Arc) → ends_kernel (text_of (side_pieces (map (written_arc names) rest) ++ (spaced arrow ++ side_pieces rights))) ≡ false
    kernel [] = refl
    kernel (a ∷ rest) = goes_on (codes "endkernel") (name_at names.arrays a.array) _ refl (word_at names.arrays a.array h.arrays)

reason_text : (names : Names) (nest : Nest) (r : Reason) → HasWords names → HasNamedLocal names (Some r) → nest.reason ≡ Some r → IsLineText (text_of (line_pieces (written_line names nest)))
reason_text names nest (reason.Carried array first second) h k is = subst (λ (o : Option Reason). IsLineText (text_of (line_pieces (written_line names (record nest { reason = o }))))) (sym is) (record {
  bytes = pieces_text (line_pieces (written_reason names (reason.Carried array first second))) (refl, (tt, (refl, (tt, (text_at names.arrays array h.arrays, (tt, (number_text first, (tt, (number_text second, tt)))))))));
  first = refl;
  last = ends_pieces (Solid (name (codes "sequential")) ∷ Space ∷ Solid (name (codes "carried")) ∷ Space ∷ Solid (name (name_at names.arrays array)) ∷ Space ∷ Solid (number first) ∷ Space ∷ [])
      (Solid (number second) ∷ []) (ends_alone (decimal second) (numeral second).last);
  goes_on = refl;
})
reason_text names nest (reason.Outer local) h k is = subst (λ (o : Option Reason). IsLineText (text_of (line_pieces (written_line names (record nest { reason = o }))))) (sym is) (record {
  bytes = pieces_text (line_pieces (written_reason names (reason.Outer local))) (refl, (tt, (refl, (tt, (word_is_text (name_at names.locals local) (name_words (name_at names.locals local) k), tt)))));
  first = refl;
  last = ends_pieces (Solid (name (codes "sequential")) ∷ Space ∷ Solid (name (codes "local")) ∷ Space ∷ []) (Solid (name (name_at names.locals local)) ∷ [])
      (ends_alone (name_at names.locals local) (name_last (name_at names.locals local) k));
  goes_on = refl;
})

-- The line of a nest is such a text.
pub line_is_text : (names : Names) (nest : Nest) → HasWords names → HasNamedLocal names nest.reason → IsLineText (line_text names nest)
unfolding line_text
line_is_text names nest h k = go nest.reason refl k
  where
    go : (o : Option Reason) → nest.reason ≡ o → HasNamedLocal names o → IsLineText (text_of (line_pieces (written_line names nest)))
    go None is k = subst (λ (o : Option Reason). IsLineText (text_of (line_pieces (written_line names (record nest { reason = o }))))) (sym is) (sides_text names (reads_of nest.arcs) (others_of nest.arcs) h)
    go (Some r) is k = reason_text names nest r h k is
