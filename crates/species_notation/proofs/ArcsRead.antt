-- The parts of a line are read as the line.
use Rattle.std.proofs.Common.{◌≡◌, ◌∙◌, ap, sym, refl, ℕ, zero, suc, ◌<◌, ◌≤◌, length, arith, length-append, List, [], ◌∷◌, ◌++◌, Option, Some, None, Bool, true, false, append_assoc, append-nil}
use Rattle.std.specs.Prelude.{codes, ◌&&◌, not, if◌then◌else◌}
use Rattle.std.specs.List.{flat_map}
use Rattle.species_grammar.specs.Reader.{Answer, Reader, ◌>>=◌, is_of, starts, word, nothing, both, mapped, skip, ends, maybe, cons_of, many, repeated}
use Rattle.species_grammar.specs.Whole.{ended}
use Rattle.species_grammar.proofs.Free.{choose_else}
use Rattle.species_arcs.specs.declared.shapes.Word.{Word as ArcWord}
use Rattle.species_arcs.specs.declared.shapes.Word.TheVariants as arc_word
use Rattle.species_notation.specs.declared.parts.Part.{Part}
use Rattle.species_notation.specs.declared.parts.Part.TheVariants as part
use Rattle.species_notation.specs.declared.raw.RawForm.{RawForm}
use Rattle.species_notation.specs.declared.raw.RawInt.{RawInt}
use Rattle.species_notation.specs.declared.raw.RawRange.{RawRange}
use Rattle.species_notation.specs.declared.raw.RawArc.{RawArc}
use Rattle.species_notation.specs.declared.raw.RawLine.{RawLine}
use Rattle.species_notation.specs.declared.raw.RawLine.TheVariants as line
use Rattle.species_notation.specs.Spelled.{RawOffset, minus, behind, listed_parts, form_parts, range_parts, int_parts, stride_parts, offset_parts, offsets_parts, word_text, mark_text, arc_front, arc_forms, arc_parts, side_parts, line_parts}
use Rattle.species_notation.specs.Readers.{sign, arrow, the_word, name, number, arc_words, marks, stands_alone, choose_alone, leading, more_of, listed, form, range_of, range, int_of, int, span_of, span_from, behind_minus, offset, offsets, forms, ranges, arc_of, arc, arcs, side, sequential, sides_of, line_reader, answered, raw_line}
use Rattle.species_notation.proofs.Combining.{both_at, mapped_at, skip_at, ends_at, maybe_not, maybe_then, listed_at}
use Rattle.species_notation.proofs.Fine.{Each}
use Rattle.species_notation.proofs.FormsRead.{FormEnd, leading_at, form_at}

-- ---- offsets

abbrev pub NoColon : List Part → Type 0
NoColon us = starts (is_of (sign 58)) us ≡ false

abbrev pub OffsetEnd : List Part → Type 0
OffsetEnd us = NoColon us × (starts (is_of number) us ≡ false)

int_at : (i : RawInt) (us : List Part) → int (int_parts i ++ us) ≡ Answer.read i us
unfolding int
int_at i us =
    ap int (append_assoc (minus i.negative) (part.Number i.size ∷ []) us)
    ∙ mapped_at int_of (both leading (word number)) (minus i.negative ++ part.Number i.size ∷ us) (i.negative, i.size) us
    (both_at leading (word number) (minus i.negative ++ part.Number i.size ∷ us) i.negative (part.Number i.size ∷ us) i.size us (leading_at i.negative (part.Number i.size ∷ us) refl) refl)

stride_at : (t : Option ℕ) (us : List Part) → NoColon us → maybe (sign 58) (word number) (stride_parts t ++ us) ≡ Answer.read t us
stride_at None us e = maybe_not (sign 58) (word number) us e
stride_at (Some n) us e = refl

abbrev high_and_stride : Reader Part (RawInt × Option ℕ)
high_and_stride = both int (maybe (sign 58) (word number))

span_more_at : (b : RawInt) (t : Option ℕ) (us : List Part) → NoColon us → skip (sign 58) high_and_stride (part.Sign 58 ∷ ((int_parts b ++ stride_parts t) ++ us)) ≡ Answer.read (b, t) us
span_more_at b t us e =
    ap (λ l. skip (sign 58) high_and_stride (part.Sign 58 ∷ l)) (append_assoc (int_parts b) (stride_parts t) us)
    ∙ skip_at (sign 58) high_and_stride (part.Sign 58 ∷ (int_parts b ++ (stride_parts t ++ us))) tt (int_parts b ++ (stride_parts t ++ us)) (b, t) us refl
    (both_at int (maybe (sign 58) (word number)) (int_parts b ++ (stride_parts t ++ us)) b (stride_parts t ++ us) t us (int_at b (stride_parts t ++ us)) (stride_at t us e))

span_from_at : (negative : Bool) (n : ℕ) (b : RawInt) (t : Option ℕ) (us : List Part) → NoColon us
    → span_from negative (part.Number n ∷ part.Sign 58 ∷ ((int_parts b ++ stride_parts t) ++ us)) ≡ Answer.read (span_of negative (n, (b, t))) us
unfolding span_from
span_from_at negative n b t us e =
    let more : List Part = part.Sign 58 ∷ ((int_parts b ++ stride_parts t) ++ us) in
    mapped_at (span_of negative) (both (word number) (skip (sign 58) high_and_stride)) (part.Number n ∷ more) (n, (b, t)) us
    (both_at (word number) (skip (sign 58) high_and_stride) (part.Number n ∷ more) n more (b, t) us refl (span_more_at b t us e))

span_at : (negative : Bool) (n : ℕ) (b : RawInt) (t : Option ℕ) (us : List Part) → OffsetEnd us
    → offset (offset_parts (span_of negative (n, (b, t))) ++ us) ≡ Answer.read (span_of negative (n, (b, t))) us
unfolding offset
span_at true n b t us e =
    let more : List Part = part.Number n ∷ part.Sign 58 ∷ ((int_parts b ++ stride_parts t) ++ us) in
    skip_at (sign 45) behind_minus (part.Sign 45 ∷ more) tt more (span_of true (n, (b, t))) us refl (span_from_at true n b t us e.0)
span_at false n b t us e = span_from_at false n b t us e.0

offset_at : (o : RawOffset) (us : List Part) → OffsetEnd us → offset (offset_parts o ++ us) ≡ Answer.read o us
unfolding offset
offset_at None us e = skip_at (sign 45) behind_minus (part.Sign 45 ∷ us) tt us None us refl (choose_else (is_of number) (span_from true) (nothing None) us e.1)
offset_at (Some s) us e = span_at s.low.negative s.low.size s.high s.stride us e

-- ---- ranges

range_at : (r : RawRange) (us : List Part) → FormEnd us → range (range_parts r ++ us) ≡ Answer.read r us
unfolding range
range_at r us e =
    let more : List Part = form_parts r.high ++ us in
    ap range (append_assoc (form_parts r.low) (part.Sign 58 ∷ form_parts r.high) us)
    ∙ mapped_at range_of (both form (skip (sign 58) form)) (form_parts r.low ++ part.Sign 58 ∷ more) (r.low, r.high) us
    (both_at form (skip (sign 58) form) (form_parts r.low ++ part.Sign 58 ∷ more) r.low (part.Sign 58 ∷ more) r.high us
    (form_at r.low (part.Sign 58 ∷ more) (refl, refl))
    (skip_at (sign 58) form (part.Sign 58 ∷ more) tt more r.high us refl (form_at r.high us e)))

-- ---- lists in brackets, of one or more

abbrev pub IsFilled : {A : Type 0} → List A → Type 0
IsFilled [] = ⊥
IsFilled (x ∷ xs) = Unit {0}

form_list : (l : List RawForm) (us : List Part) → IsFilled l → ends (listed 44 form) (sign 41) (listed_parts 44 form_parts l ++ part.Sign 41 ∷ us) ≡ Answer.read l us
form_list [] us f = absurd f
form_list (x ∷ xs) us f =
    ends_at (listed 44 form) (sign 41) (listed_parts 44 form_parts (x ∷ xs) ++ part.Sign 41 ∷ us) (x ∷ xs) (part.Sign 41 ∷ us) tt us
    (listed_at 44 form form_parts FormEnd (λ x ts. (refl, refl)) form_at (part.Sign 41 ∷ us) refl (refl, refl) x xs) refl

offset_list : (l : List RawOffset) (us : List Part) → IsFilled l → ends (listed 44 offset) (sign 41) (listed_parts 44 offset_parts l ++ part.Sign 41 ∷ us) ≡ Answer.read l us
offset_list [] us f = absurd f
offset_list (x ∷ xs) us f =
    ends_at (listed 44 offset) (sign 41) (listed_parts 44 offset_parts (x ∷ xs) ++ part.Sign 41 ∷ us) (x ∷ xs) (part.Sign 41 ∷ us) tt us
    (listed_at 44 offset offset_parts OffsetEnd (λ x ts. (refl, refl)) offset_at (part.Sign 41 ∷ us) refl (refl, refl) x xs) refl

range_list : (l : List RawRange) (us : List Part) → IsFilled l → ends (listed 44 range) (sign 93) (listed_parts 44 range_parts l ++ part.Sign 93 ∷ us) ≡ Answer.read l us
range_list [] us f = absurd f
range_list (x ∷ xs) us f =
    ends_at (listed 44 range) (sign 93) (listed_parts 44 range_parts (x ∷ xs) ++ part.Sign 93 ∷ us) (x ∷ xs) (part.Sign 93 ∷ us) tt us
    (listed_at 44 range range_parts FormEnd (λ x ts. (refl, refl)) range_at (part.Sign 93 ∷ us) refl (refl, refl) x xs) refl

pub ranges_at : (l : List RawRange) (us : List Part) → IsFilled l → ranges (part.Sign 91 ∷ (listed_parts 44 range_parts l ++ part.Sign 93 ∷ us)) ≡ Answer.read l us
unfolding ranges
ranges_at l us f =
    let more : List Part = listed_parts 44 range_parts l ++ part.Sign 93 ∷ us in
    skip_at (sign 91) (ends (listed 44 range) (sign 93)) (part.Sign 91 ∷ more) tt more l us refl (range_list l us f)

forms_at : (l : List RawForm) (us : List Part) → IsFilled l → forms (part.Sign 40 ∷ (listed_parts 44 form_parts l ++ part.Sign 41 ∷ us)) ≡ Answer.read l us
unfolding forms
forms_at l us f =
    let more : List Part = listed_parts 44 form_parts l ++ part.Sign 41 ∷ us in
    skip_at (sign 40) (ends (listed 44 form) (sign 41)) (part.Sign 40 ∷ more) tt more l us refl (form_list l us f)

abbrev pub AreOffsetsFilled : Option (List RawOffset) → Type 0
AreOffsetsFilled None = Unit {0}
AreOffsetsFilled (Some l) = IsFilled l

offsets_at : (o : Option (List RawOffset)) (us : List Part) → AreOffsetsFilled o → starts (is_of (sign 40)) us ≡ false → offsets (offsets_parts o ++ us) ≡ Answer.read o us
unfolding offsets
offsets_at None us f e = maybe_not (sign 40) (ends (listed 44 offset) (sign 41)) us e
offsets_at (Some l) us f e =
    let more : List Part = listed_parts 44 offset_parts l ++ part.Sign 41 ∷ us in
    ap (λ z. maybe (sign 40) (ends (listed 44 offset) (sign 41)) (part.Sign 40 ∷ z)) (append_assoc (listed_parts 44 offset_parts l) (part.Sign 41 ∷ []) us)
    ∙ maybe_then (sign 40) (ends (listed 44 offset) (sign 41)) (part.Sign 40 ∷ more) l us refl
    (skip_at (sign 40) (ends (listed 44 offset) (sign 41)) (part.Sign 40 ∷ more) tt more l us refl (offset_list l us f))

-- Each of the arc's lists has something in it.
pub record IsArcFilled (a : RawArc) : Type 0 where
  pub ranges : IsFilled a.ranges
  pub offsets : AreOffsetsFilled a.offsets
  pub forms : IsFilled a.forms

-- ---- arcs

word_at : (w : ArcWord) (us : List Part) → word arc_words (part.Name (word_text w) ∷ us) ≡ Answer.read w us
word_at arc_word.Element us = refl
word_at arc_word.Neighbourhood us = refl
word_at arc_word.Chunk us = refl
word_at arc_word.Full us = refl
word_at arc_word.Shared us = refl

mark_at : (b : Bool) (us : List Part) → word marks (part.Name (mark_text b) ∷ us) ≡ Answer.read b us
mark_at true us = refl
mark_at false us = refl

-- grouped to the right
module _ (a : RawArc) (us : List Part) where
  abbrev behind_forms : List Part
  behind_forms = part.Name (mark_text a.exact) ∷ us

  abbrev at_forms : List Part
  at_forms = part.Sign 40 ∷ (listed_parts 44 form_parts a.forms ++ part.Sign 41 ∷ behind_forms)

  abbrev behind_offsets : List Part
  behind_offsets = part.Name (codes "at") ∷ at_forms

  abbrev pub behind_word : List Part
  behind_word = offsets_parts a.offsets ++ behind_offsets

  abbrev behind_ranges : List Part
  behind_ranges = part.Sign 124 ∷ part.Name (word_text a.word) ∷ behind_word

  abbrev behind_name : List Part
  behind_name = part.Sign 91 ∷ (listed_parts 44 range_parts a.ranges ++ part.Sign 93 ∷ behind_ranges)

  pub right : arc_parts a ++ us ≡ part.Name a.name ∷ behind_name
  right =
      append_assoc (arc_front a) (part.Name (codes "at") ∷ (arc_forms a ++ part.Name (mark_text a.exact) ∷ [])) us
      ∙ ap (λ z. arc_front a ++ part.Name (codes "at") ∷ z) (append_assoc (arc_forms a) (part.Name (mark_text a.exact) ∷ []) us)
      ∙ ap (λ z. arc_front a ++ part.Name (codes "at") ∷ part.Sign 40 ∷ z) (append_assoc (listed_parts 44 form_parts a.forms) (part.Sign 41 ∷ []) behind_forms)
      ∙ ap (λ z. part.Name a.name ∷ part.Sign 91 ∷ z) (append_assoc (listed_parts 44 range_parts a.ranges) (part.Sign 93 ∷ part.Sign 124 ∷ part.Name (word_text a.word) ∷ offsets_parts a.offsets) behind_offsets)

  abbrev Filled : Type 0
  Filled = IsArcFilled a

  reads_forms : Filled → both forms (word marks) at_forms ≡ Answer.read (a.forms, a.exact) us
  reads_forms f = both_at forms (word marks) at_forms a.forms behind_forms a.exact us (forms_at a.forms behind_forms f.forms) (mark_at a.exact us)

  abbrev from_at : Reader Part (List RawForm × Bool)
  from_at = skip (the_word (codes "at")) (both forms (word marks))

  reads_at : Filled → from_at behind_offsets ≡ Answer.read (a.forms, a.exact) us
  reads_at f = skip_at (the_word (codes "at")) (both forms (word marks)) behind_offsets tt at_forms (a.forms, a.exact) us refl (reads_forms f)

  abbrev pub from_word : Reader Part (ArcWord × (Option (List RawOffset) × (List RawForm × Bool)))
  from_word = both (word arc_words) (both offsets from_at)

  pub reads_word : Filled → from_word (part.Name (word_text a.word) ∷ behind_word) ≡ Answer.read (a.word, (a.offsets, (a.forms, a.exact))) us
  reads_word f =
      both_at (word arc_words) (both offsets from_at) (part.Name (word_text a.word) ∷ behind_word) a.word behind_word (a.offsets, (a.forms, a.exact)) us (word_at a.word behind_word)
      (both_at offsets from_at behind_word a.offsets behind_offsets (a.forms, a.exact) us (offsets_at a.offsets behind_offsets f.offsets refl) (reads_at f))

  abbrev from_ranges : Reader Part (List RawRange × (ArcWord × (Option (List RawOffset) × (List RawForm × Bool))))
  from_ranges = both ranges (skip (sign 124) from_word)

  reads_ranges : Filled → from_ranges behind_name ≡ Answer.read (a.ranges, (a.word, (a.offsets, (a.forms, a.exact)))) us
  reads_ranges f =
      both_at ranges (skip (sign 124) from_word) behind_name a.ranges behind_ranges (a.word, (a.offsets, (a.forms, a.exact))) us (ranges_at a.ranges behind_ranges f.ranges)
      (skip_at (sign 124) from_word behind_ranges tt (part.Name (word_text a.word) ∷ behind_word) (a.word, (a.offsets, (a.forms, a.exact))) us refl (reads_word f))

  pub reads_arc : Filled → arc (part.Name a.name ∷ behind_name) ≡ Answer.read a us
  unfolding arc
  reads_arc f =
      mapped_at arc_of (both (word name) from_ranges) (part.Name a.name ∷ behind_name) (a.name, (a.ranges, (a.word, (a.offsets, (a.forms, a.exact))))) us
      (both_at (word name) from_ranges (part.Name a.name ∷ behind_name) a.name behind_name (a.ranges, (a.word, (a.offsets, (a.forms, a.exact)))) us refl (reads_ranges f))

abbrev pub AreFilled : List RawArc → Type 0
AreFilled arcs = Each IsArcFilled arcs

pub arc_reads : (a : RawArc) (us : List Part) → IsArcFilled a → arc (arc_parts a ++ us) ≡ Answer.read a us
arc_reads a us f = ap arc (right a us) ∙ reads_arc a us f

-- ---- lines

and_false : (b : Bool) → (b && false) ≡ false
and_false true = refl
and_false false = refl

-- the name of an array does not stand alone
not_alone : (v w : List ℕ) (us : List Part) → stands_alone v (part.Name w ∷ part.Sign 91 ∷ us) ≡ false
not_alone v w us = and_false (is_of (the_word v) (part.Name w))

arc_not_alone : (v : List ℕ) (a : RawArc) (us : List Part) → stands_alone v (arc_parts a ++ us) ≡ false
arc_not_alone v a us = ap (stands_alone v) (right a us) ∙ not_alone v a.name (listed_parts 44 range_parts a.ranges ++ part.Sign 93 ∷ behind_ranges a us)

alone_else : {A : Type 0} (v : List ℕ) (r q : Reader Part A) (ts : List Part) → stands_alone v ts ≡ false → choose_alone v r q ts ≡ q ts
alone_else v r q ts e = ap (λ b. if b then r ts else q ts) e

alone_then : {A : Type 0} (v : List ℕ) (r q : Reader Part A) (ts : List Part) → stands_alone v ts ≡ true → choose_alone v r q ts ≡ r ts
alone_then v r q ts e = ap (λ b. if b then r ts else q ts) e

-- what is left does not begin with `[`
abbrev NoBracket : List Part → Type 0
NoBracket us = starts (is_of (sign 91)) us ≡ false

none_alone : (us : List Part) → NoBracket us → stands_alone (codes "none") (part.Name (codes "none") ∷ us) ≡ true
none_alone us e = ap (λ b. not b) e

abbrev one_none : Reader Part (List RawArc)
one_none = mapped (λ x. []) (word (the_word (codes "none")))

more_arcs_at : (m : ℕ) (more : List RawArc) (us : List Part) → AreFilled more → starts (is_of (sign 94)) us ≡ false → length more < m
    → many m (is_of (sign 94)) (skip (sign 94) arc) (flat_map (behind 94 arc_parts) more ++ us) ≡ Answer.read more us
more_arcs_at zero more us f e lt = absurd (omega (arith, lt))
more_arcs_at (suc m) [] us f e lt = choose_else (is_of (sign 94)) (mapped cons_of (both (skip (sign 94) arc) (many m (is_of (sign 94)) (skip (sign 94) arc)))) (nothing []) us e
more_arcs_at (suc m) (a ∷ more) us f e lt =
    let rest : List Part = flat_map (behind 94 arc_parts) more ++ us in
    ap (many (suc m) (is_of (sign 94)) (skip (sign 94) arc)) (append_assoc (behind 94 arc_parts a) (flat_map (behind 94 arc_parts) more) us)
    ∙ mapped_at cons_of (both (skip (sign 94) arc) (many m (is_of (sign 94)) (skip (sign 94) arc))) (part.Sign 94 ∷ (arc_parts a ++ rest)) (a, more) us
    (both_at (skip (sign 94) arc) (many m (is_of (sign 94)) (skip (sign 94) arc)) (part.Sign 94 ∷ (arc_parts a ++ rest)) a rest more us
    (skip_at (sign 94) arc (part.Sign 94 ∷ (arc_parts a ++ rest)) tt (arc_parts a ++ rest) a rest refl (arc_reads a rest f.0))
    (more_arcs_at m more us f.1 e (omega (arith, lt))))

count : (more : List RawArc) (us : List Part) → length more ≤ length (flat_map (behind 94 arc_parts) more ++ us)
count [] us = omega arith
count (a ∷ more) us = omega (arith, count more us, ap length (append_assoc (behind 94 arc_parts a) (flat_map (behind 94 arc_parts) more) us), length-append (arc_parts a) (flat_map (behind 94 arc_parts) more ++ us))

arcs_at : (a : RawArc) (more : List RawArc) (us : List Part) → AreFilled (a ∷ more) → starts (is_of (sign 94)) us ≡ false → arcs (listed_parts 94 arc_parts (a ∷ more) ++ us) ≡ Answer.read (a ∷ more) us
unfolding arcs repeated
arcs_at a more us f e =
    let rest : List Part = flat_map (behind 94 arc_parts) more ++ us in
    ap arcs (append_assoc (arc_parts a) (flat_map (behind 94 arc_parts) more) us)
    ∙ mapped_at cons_of (both arc (more_of 94 arc)) (arc_parts a ++ rest) (a, more) us
    (both_at arc (more_of 94 arc) (arc_parts a ++ rest) a rest more us (arc_reads a rest f.0)
    (more_arcs_at (suc (length rest)) more us f.1 e (omega (arith, count more us))))

pub side_at : (l : List RawArc) (us : List Part) → AreFilled l → starts (is_of (sign 94)) us ≡ false → NoBracket us → side (side_parts l ++ us) ≡ Answer.read l us
unfolding side
side_at [] us f e k = alone_then (codes "none") one_none arcs (part.Name (codes "none") ∷ us) (none_alone us k)
side_at (a ∷ more) us f e k =
    let rest : List Part = flat_map (behind 94 arc_parts) more ++ us in
    ap side (append_assoc (arc_parts a) (flat_map (behind 94 arc_parts) more) us)
    ∙ alone_else (codes "none") one_none arcs (arc_parts a ++ rest) (arc_not_alone (codes "none") a rest)
    ∙ ap arcs (sym (append_assoc (arc_parts a) (flat_map (behind 94 arc_parts) more) us))
    ∙ arcs_at a more us f e

no_sequential : (l : List RawArc) (us : List Part) → stands_alone (codes "sequential") (side_parts l ++ us) ≡ false
no_sequential [] us = refl
no_sequential (a ∷ more) us =
    ap (stands_alone (codes "sequential")) (append_assoc (arc_parts a) (flat_map (behind 94 arc_parts) more) us)
    ∙ arc_not_alone (codes "sequential") a (flat_map (behind 94 arc_parts) more ++ us)

abbrev one_sequential : Reader Part RawLine
one_sequential = skip (the_word (codes "sequential")) sequential

abbrev both_sides : Reader Part RawLine
both_sides = mapped sides_of (both side (skip arrow side))

abbrev pub IsLineFilled : RawLine → Type 0
IsLineFilled (line.Carried w m n) = Unit {0}
IsLineFilled (line.Local w) = Unit {0}
IsLineFilled (line.Sides l r) = AreFilled l × AreFilled r

-- what is left goes on with neither `^` nor `[`
line_at : (l : RawLine) (us : List Part) → IsLineFilled l → starts (is_of (sign 94)) us ≡ false → NoBracket us → line_reader (line_parts l ++ us) ≡ Answer.read l us
unfolding line_reader sequential
line_at (line.Carried w m n) us f e k = refl
line_at (line.Local w) us f e k = refl
line_at (line.Sides l r) us f e k =
    let more : List Part = side_parts r ++ us in
    ap line_reader (append_assoc (side_parts l) (part.Arrow ∷ side_parts r) us)
    ∙ alone_else (codes "sequential") one_sequential both_sides (side_parts l ++ part.Arrow ∷ more) (no_sequential l (part.Arrow ∷ more))
    ∙ mapped_at sides_of (both side (skip arrow side)) (side_parts l ++ part.Arrow ∷ more) (l, r) us
    (both_at side (skip arrow side) (side_parts l ++ part.Arrow ∷ more) l (part.Arrow ∷ more) r us (side_at l (part.Arrow ∷ more) f.0 refl refl)
    (skip_at arrow side (part.Arrow ∷ more) tt more r us refl (side_at r us f.1 e k)))

pub raw_line_at : (l : RawLine) → IsLineFilled l → raw_line (line_parts l) ≡ Some l
raw_line_at l f = ap (λ a. answered (a >>= ended)) (ap line_reader (sym (append-nil (line_parts l))) ∙ line_at l [] f refl refl)
