-- The line of the table that is written for an arc says this arc and its domain.
use Rattle.std.proofs.Common.{◌≡◌, ◌≢◌, ◌∙◌, ap, sym, subst, refl, ℕ, ◌≤◌, List, [], ◌∷◌, ◌++◌, map, Some, None, true, append_assoc}
use Rattle.std.specs.Prelude.{codes, not, option_map, option_and_then, if◌then◌else◌}
use Rattle.std.specs.List.{list_all, list_any}
use Rattle.species_ast.specs.Names.{is_name}
use Rattle.species_grammar.specs.Reader.{Answer, Reader, ◌>>=◌, word, both, skip, ends}
use Rattle.species_grammar.specs.Whole.{ended}
use Rattle.species_linear.specs.declared.forms.Form.{Form}
use Rattle.species_arcs.specs.declared.places.Dir.{Dir}
use Rattle.species_arcs.specs.declared.places.Dir.TheVariants as dir
use Rattle.species_arcs.specs.declared.places.ArcDim.{ArcDim}
use Rattle.species_arcs.specs.declared.places.Arc.{Arc}
use Rattle.species_arcs.specs.Shapes.{is_single, is_overlapping, word_of}
use Rattle.species_notation.specs.declared.parts.Part.{Part}
use Rattle.species_notation.specs.declared.parts.Part.TheVariants as part
use Rattle.species_notation.specs.declared.raw.RawRange.{RawRange}
use Rattle.species_notation.specs.declared.raw.RawArc.{RawArc}
use Rattle.species_notation.specs.declared.given.Names.{Names}
use Rattle.species_notation.specs.Parts.{most, Piece, Solid, Space, solids}
use Rattle.species_notation.specs.Spelled.{listed_parts, range_parts, form_parts, offsets_parts, word_text, mark_text, arc_forms}
use Rattle.species_notation.specs.Readers.{sign, the_word, name, number, listed, ranges, answered}
use Rattle.species_notation.specs.Meaning.{Sums, given_form, each_some, given_arc, dir_of}
use Rattle.species_notation.specs.Written.{is_read, written_form, written_range, written_arc, dir_text, arc_domain, arc_shape, arc_tail, number_parts, numbers_pieces, sizes_pieces, table_front, table_pieces, table_line_text}
use Rattle.species_notation.specs.TableLines.{dirs, numbers, from_bar, ArcTail, sized_tail, RawTableLine, raw_table_of, table_reader, known_form, form_said, ends_said, is_right, is_dir, table_with, given_table, raw_table, table_line_of, HasReadableSizes, table_line_for, TableReadsBack}
use Rattle.species_notation.proofs.Combining.{both_at, mapped_at, skip_at, ends_at, listed_at}
use Rattle.species_notation.proofs.Cutting.{IsSign, PiecesFine, begins_apart, parts_back}
use Rattle.species_notation.proofs.Fine.{Each, Apart, DimFine, FormFine, ArcFine}
use Rattle.species_notation.proofs.ArcsRead.{IsFilled, IsArcFilled, ranges_at, from_word, reads_word, behind_word}
use Rattle.species_notation.proofs.ArcsBack.{each_map, arc_back}
use Rattle.species_notation.proofs.FormsBack.{form_back}
use Rattle.species_notation.proofs.FormSums.{entry_of}
use Rattle.species_notation.proofs.PieceParts.{solids_map, solids_append}
use Rattle.species_notation.proofs.Pieces.{on, Chunk, RangeFine, RawArcFine, chunk_tail, sign_tail, sign_chunk, no_parts, word_then, number_chunk, list_chunk, range_chunk, offsets_tail, word_name, mark_name, at_chunk}
use Rattle.species_notation.proofs.LinesBack.{each_mapped, filled_map, arc_filled, raw_fine}
use Rattle.species_notation.proofs.ReadBack.{each_of, apart_of, dir_right, fine}

abbrev Small : List ℕ → Type 0
Small ns = Each (λ n. n ≤ most) ns

-- ---- the pieces stand apart

abbrev numbers_in : List ℕ → List Part
numbers_in ns = part.Sign 40 ∷ (listed_parts 44 number_parts ns ++ part.Sign 41 ∷ [])

numbers_chunk : (ns : List ℕ) → Small ns → Chunk (numbers_in ns)
numbers_chunk ns h =
    sign_chunk 40 (listed_parts 44 number_parts ns ++ part.Sign 41 ∷ []) IsSign.paren
    (chunk_tail (listed_parts 44 number_parts ns) (part.Sign 41 ∷ []) (list_chunk 44 (λ n. n ≤ most) number_parts IsSign.comma number_chunk ns h) (sign_tail 41 [] IsSign.close no_parts))

domain_chunk : (a : RawArc) → RawArcFine a → Chunk (arc_domain a)
domain_chunk a h =
    word_then a.name (part.Sign 91 ∷ (listed_parts 44 range_parts a.ranges ++ part.Sign 93 ∷ [])) h.name
    (sign_tail 91 (listed_parts 44 range_parts a.ranges ++ part.Sign 93 ∷ []) IsSign.bracket
    (chunk_tail (listed_parts 44 range_parts a.ranges) (part.Sign 93 ∷ []) (list_chunk 44 RangeFine range_parts IsSign.comma range_chunk a.ranges h.ranges) (sign_tail 93 [] IsSign.shut no_parts)))

shape_chunk : (a : RawArc) → RawArcFine a → Chunk (arc_shape a)
shape_chunk a h =
    sign_chunk 124 (part.Name (word_text a.word) ∷ offsets_parts a.offsets) IsSign.bar
    (word_then (word_text a.word) (offsets_parts a.offsets) (word_name a.word) (offsets_tail a.offsets h.offsets))

tail_fine : (a : RawArc) → RawArcFine a → PiecesFine (arc_tail a)
tail_fine a h =
    let mark : List Piece = Space ∷ Solid (part.Name (mark_text a.exact)) ∷ [] in
    let mark_fine : PiecesFine mark = (tt, ((mark_name a.exact, λ k. refl), tt)) in
    let back_fine : PiecesFine (on (arc_forms a) mark) = at_chunk a h mark mark_fine refl in
    shape_chunk a h (Space ∷ Solid (part.Name (codes "at")) ∷ Space ∷ on (arc_forms a) mark) (tt, ((refl, λ k. refl), (tt, back_fine))) refl

numbers_fine : (w ns : List ℕ) (qs : List Piece) → is_name w ≡ true → Small ns → PiecesFine qs → begins_apart qs ≡ true → PiecesFine (numbers_pieces w ns ++ qs)
numbers_fine w ns qs n h f e = (tt, ((n, λ k. refl), (tt, numbers_chunk ns h qs f e)))

dir_name : (d : Dir) → is_name (dir_text d) ≡ true
dir_name dir.Read = refl
dir_name dir.Write = refl
dir_name dir.Add = refl

record Sizes (a : Arc) : Type 0 where
  elements : Small (map (λ d. d.elements) a.dims)
  steps : Small (map (λ d. d.step) a.dims)

-- the sizes and what stands behind them
abbrev from_sizes : Names → Arc → List Piece
from_sizes names a =
    numbers_pieces (codes "elements") (map (λ d. d.elements) a.dims) ++ (numbers_pieces (codes "step") (map (λ d. d.step) a.dims) ++ arc_tail (written_arc names a))

grouped : (names : Names) (a : Arc) → sizes_pieces a.dims ++ arc_tail (written_arc names a) ≡ from_sizes names a
grouped names a = append_assoc (numbers_pieces (codes "elements") (map (λ d. d.elements) a.dims)) (numbers_pieces (codes "step") (map (λ d. d.step) a.dims)) (arc_tail (written_arc names a))

pieces_fine : (names : Names) (n : ℕ) (a : Arc) → n ≤ most → RawArcFine (written_arc names a) → Sizes a → PiecesFine (table_pieces names n a)
pieces_fine names n a le h s =
    let raw = written_arc names a in
    let steps = numbers_fine (codes "step") (map (λ d. d.step) a.dims) (arc_tail raw) refl s.steps (tail_fine raw h) refl in
    let elements = numbers_fine (codes "elements") (map (λ d. d.elements) a.dims) (numbers_pieces (codes "step") (map (λ d. d.step) a.dims) ++ arc_tail raw) refl s.elements steps refl in
    let front = domain_chunk raw h (from_sizes names a) elements refl in
    subst (λ l. PiecesFine (table_front n a.dir raw ++ l)) (sym (grouped names a)) ((le, λ k. refl), (tt, ((dir_name a.dir, λ k. refl), (tt, front))))

-- ---- the parts

abbrev tail_parts : RawArc → List Part
tail_parts a = arc_shape a ++ part.Name (codes "at") ∷ (arc_forms a ++ part.Name (mark_text a.exact) ∷ [])

abbrev sized_parts : List ℕ → List ℕ → RawArc → List Part
sized_parts es ss a = part.Name (codes "elements") ∷ (numbers_in es ++ part.Name (codes "step") ∷ (numbers_in ss ++ tail_parts a))

abbrev table_parts : ℕ → Dir → List ℕ → List ℕ → RawArc → List Part
table_parts n d es ss a = part.Number n ∷ part.Name (dir_text d) ∷ (arc_domain a ++ sized_parts es ss a)

solids_on : (ps : List Part) (qs : List Piece) → solids (map Solid ps ++ qs) ≡ ps ++ solids qs
solids_on ps qs = solids_append (map Solid ps) qs ∙ ap (λ l. l ++ solids qs) (solids_map ps)

solids_tail : (a : RawArc) → solids (arc_tail a) ≡ tail_parts a
solids_tail a =
    let mark : List Piece = Space ∷ Solid (part.Name (mark_text a.exact)) ∷ [] in
    solids_on (arc_shape a) (Space ∷ Solid (part.Name (codes "at")) ∷ Space ∷ (map Solid (arc_forms a) ++ mark))
    ∙ ap (λ l. arc_shape a ++ part.Name (codes "at") ∷ l) (solids_on (arc_forms a) mark)

solids_numbers : (w ns : List ℕ) (qs : List Piece) → solids (numbers_pieces w ns ++ qs) ≡ part.Name w ∷ (numbers_in ns ++ solids qs)
solids_numbers w ns qs = ap (λ l. part.Name w ∷ l) (solids_on (numbers_in ns) qs)

solids_table : (names : Names) (n : ℕ) (a : Arc)
    → solids (table_pieces names n a) ≡ table_parts n a.dir (map (λ d. d.elements) a.dims) (map (λ d. d.step) a.dims) (written_arc names a)
solids_table names n a =
    let raw = written_arc names a in
    let es = map (λ d. d.elements) a.dims in
    let ss = map (λ d. d.step) a.dims in
    let steps = numbers_pieces (codes "step") ss ++ arc_tail raw in
    ap (λ l. solids (table_front n a.dir raw ++ l)) (grouped names a)
    ∙ ap (λ l. part.Number n ∷ part.Name (dir_text a.dir) ∷ l) (solids_on (arc_domain raw) (from_sizes names a))
    ∙ ap (λ l. part.Number n ∷ part.Name (dir_text a.dir) ∷ (arc_domain raw ++ l)) (solids_numbers (codes "elements") es steps
    ∙ ap (λ l. part.Name (codes "elements") ∷ (numbers_in es ++ l)) (solids_numbers (codes "step") ss (arc_tail raw) ∙ ap (λ l. part.Name (codes "step") ∷ (numbers_in ss ++ l)) (solids_tail raw)))

-- ---- reading the parts

abbrev AnyEnd : List Part → Type 0
AnyEnd us = Unit {0}

number_read : (n : ℕ) (us : List Part) → AnyEnd us → word number (number_parts n ++ us) ≡ Answer.read n us
number_read n us e = refl

numbers_list : (l : List ℕ) (us : List Part) → IsFilled l → ends (listed 44 (word number)) (sign 41) (listed_parts 44 number_parts l ++ part.Sign 41 ∷ us) ≡ Answer.read l us
numbers_list [] us f = absurd f
numbers_list (x ∷ xs) us f =
    ends_at (listed 44 (word number)) (sign 41) (listed_parts 44 number_parts (x ∷ xs) ++ part.Sign 41 ∷ us) (x ∷ xs) (part.Sign 41 ∷ us) tt us
    (listed_at 44 (word number) number_parts AnyEnd (λ x ts. tt) number_read (part.Sign 41 ∷ us) refl tt x xs) refl

numbers_at : (l : List ℕ) (us : List Part) → IsFilled l → numbers (numbers_in l ++ us) ≡ Answer.read l us
unfolding numbers
numbers_at l us f =
    let more : List Part = listed_parts 44 number_parts l ++ part.Sign 41 ∷ us in
    ap (λ z. skip (sign 40) (ends (listed 44 (word number)) (sign 41)) (part.Sign 40 ∷ z)) (append_assoc (listed_parts 44 number_parts l) (part.Sign 41 ∷ []) us)
    ∙ skip_at (sign 40) (ends (listed 44 (word number)) (sign 41)) (part.Sign 40 ∷ more) tt more l us refl (numbers_list l us f)

abbrev tail_of : RawArc → ArcTail
tail_of a = (a.word, (a.offsets, (a.forms, a.exact)))

abbrev behind_bar : RawArc → Reader Part ArcTail
behind_bar a = from_word a []

tail_read : (a : RawArc) → IsArcFilled a → from_bar (tail_parts a) ≡ Answer.read (tail_of a) []
tail_read a f =
    let more : List Part = part.Name (word_text a.word) ∷ behind_word a [] in
    ap (λ z. from_bar (arc_shape a ++ part.Name (codes "at") ∷ part.Sign 40 ∷ z)) (append_assoc (listed_parts 44 form_parts a.forms) (part.Sign 41 ∷ []) (part.Name (mark_text a.exact) ∷ []))
    ∙ skip_at (sign 124) (behind_bar a) (part.Sign 124 ∷ more) tt more (tail_of a) [] refl (reads_word a [] f)

record AreFilled (es ss : List ℕ) (a : RawArc) : Type 0 where
  elements : IsFilled es
  steps : IsFilled ss
  arc : IsArcFilled a

sized_read : (es ss : List ℕ) (a : RawArc) → AreFilled es ss a → sized_tail (sized_parts es ss a) ≡ Answer.read (es, (ss, tail_of a)) []
sized_read es ss a f =
    let behind_step : List Part = numbers_in ss ++ tail_parts a in
    let steps = skip (the_word (codes "step")) (both numbers from_bar) in
    let behind_elements : List Part = numbers_in es ++ part.Name (codes "step") ∷ behind_step in
    skip_at (the_word (codes "elements")) (both numbers steps) (part.Name (codes "elements") ∷ behind_elements) tt behind_elements (es, (ss, tail_of a)) [] refl
    (both_at numbers steps behind_elements es (part.Name (codes "step") ∷ behind_step) (ss, tail_of a) [] (numbers_at es (part.Name (codes "step") ∷ behind_step) f.elements)
    (skip_at (the_word (codes "step")) (both numbers from_bar) (part.Name (codes "step") ∷ behind_step) tt behind_step (ss, tail_of a) [] refl
    (both_at numbers from_bar behind_step ss (tail_parts a) (tail_of a) [] (numbers_at ss (tail_parts a) f.steps) (tail_read a f.arc))))

dir_read : (d : Dir) (us : List Part) → d ≢ dir.Add → word dirs (part.Name (dir_text d) ∷ us) ≡ Answer.read d us
dir_read dir.Read us h = refl
dir_read dir.Write us h = refl
dir_read dir.Add us h = absurd (h refl)

abbrev raw_line_of : ℕ → Dir → List ℕ → List ℕ → RawArc → RawTableLine
raw_line_of n d es ss a = record { number = n; dir = d; elements = es; steps = ss; arc = a }

domain_read : (es ss : List ℕ) (a : RawArc) → AreFilled es ss a
    → both (word name) (both ranges sized_tail) (arc_domain a ++ sized_parts es ss a) ≡ Answer.read (a.name, (a.ranges, (es, (ss, tail_of a)))) []
domain_read es ss a f =
    let rest = sized_parts es ss a in
    let in_brackets : List Part = part.Sign 91 ∷ (listed_parts 44 range_parts a.ranges ++ part.Sign 93 ∷ rest) in
    ap (λ z. both (word name) (both ranges sized_tail) (part.Name a.name ∷ part.Sign 91 ∷ z)) (append_assoc (listed_parts 44 range_parts a.ranges) (part.Sign 93 ∷ []) rest)
    ∙ both_at (word name) (both ranges sized_tail) (part.Name a.name ∷ in_brackets) a.name in_brackets (a.ranges, (es, (ss, tail_of a))) [] refl
    (both_at ranges sized_tail in_brackets a.ranges rest (es, (ss, tail_of a)) [] (ranges_at a.ranges rest f.arc.ranges) (sized_read es ss a f))

table_read : (n : ℕ) (d : Dir) (es ss : List ℕ) (a : RawArc) → d ≢ dir.Add → AreFilled es ss a
    → table_reader (table_parts n d es ss a) ≡ Answer.read (raw_line_of n d es ss a) []
unfolding table_reader
table_read n d es ss a differs f =
    let from_name : List Part = arc_domain a ++ sized_parts es ss a in
    let said : List ℕ × (List RawRange × (List ℕ × (List ℕ × ArcTail))) = (a.name, (a.ranges, (es, (ss, tail_of a)))) in
    mapped_at raw_table_of (both (word number) (both (word dirs) (both (word name) (both ranges sized_tail)))) (table_parts n d es ss a) (n, (d, said)) []
    (both_at (word number) (both (word dirs) (both (word name) (both ranges sized_tail))) (table_parts n d es ss a) n (part.Name (dir_text d) ∷ from_name) (d, said) [] refl
    (both_at (word dirs) (both (word name) (both ranges sized_tail)) (part.Name (dir_text d) ∷ from_name) d from_name said [] (dir_read d from_name differs) (domain_read es ss a f)))

raw_read : (n : ℕ) (d : Dir) (es ss : List ℕ) (a : RawArc) → d ≢ dir.Add → AreFilled es ss a → raw_table (table_parts n d es ss a) ≡ Some (raw_line_of n d es ss a)
raw_read n d es ss a differs f = ap (λ o. answered (o >>= ended)) (table_read n d es ss a differs f)

-- ---- what they give

abbrev sums_said : (iters : List (List ℕ)) → Apart iters → Form → Sums
sums_said iters apart f = record { constant = f.constant; names = map (entry_of iters apart) f.terms }

form_back_said : (iters : List (List ℕ)) (apart : Apart iters) (f : Form) → FormFine iters f → form_said iters (written_form iters f) ≡ Some f
form_back_said iters apart f h =
    let b = form_back iters apart f h.0 h.1 in
    ap (option_and_then (known_form iters)) b.are ∙ ap (λ t. if t then Some (given_form iters (sums_said iters apart f)) else None) b.known ∙ ap Some b.form

ends_back : (iters : List (List ℕ)) (apart : Apart iters) (d : ArcDim) → DimFine iters d → ends_said iters (written_range iters d) ≡ Some (d.low, d.high)
ends_back iters apart d f =
    ap (option_and_then (λ low. option_map (λ high. (low, high)) (form_said iters (written_form iters d.high)))) (form_back_said iters apart d.low f.low)
    ∙ ap (option_map (λ high. (d.low, high))) (form_back_said iters apart d.high f.high)

domain_back : (iters : List (List ℕ)) (apart : Apart iters) (ds : List ArcDim) → Each (DimFine iters) ds
    → each_some (ends_said iters) (map (written_range iters) ds) ≡ Some (map (λ d. (d.low, d.high)) ds)
domain_back iters apart ds e = each_map (DimFine iters) (written_range iters) (ends_said iters) (λ d. (d.low, d.high)) (ends_back iters apart) ds e

same_dir : (d : Dir) → is_dir d d ≡ true
same_dir dir.Read = refl
same_dir dir.Write = refl
same_dir dir.Add = refl

given_back : (names : Names) (n : ℕ) (a : Arc) (arrays : Apart names.arrays) (iters : Apart names.iters) → ArcFine names (is_right a.dir) a
    → given_table names (raw_line_of n a.dir (map (λ d. d.elements) a.dims) (map (λ d. d.step) a.dims) (written_arc names a)) ≡ Some (table_line_for n a)
given_back names n a arrays iters f =
    let l = raw_line_of n a.dir (map (λ d. d.elements) a.dims) (map (λ d. d.step) a.dims) (written_arc names a) in
    let domain = map (λ d. (d.low, d.high)) a.dims in
    ap (option_and_then (λ domain. option_and_then (table_with l domain) (given_arc names (is_right a.dir) (written_arc names a)))) (domain_back names.iters iters a.dims f.dims)
    ∙ ap (option_and_then (table_with l domain)) (arc_back names arrays iters (is_right a.dir) a f)
    ∙ ap (λ t. if t then Some (table_line_for n a) else None) (same_dir a.dir)

-- ---- the law

right_dir : (a : Arc) → a.dir ≢ dir.Add → dir_of (is_right a.dir) (word_of a) ≡ a.dir
right_dir a differs = go a.dir refl
  where
    go : (d : Dir) → a.dir ≡ d → dir_of (is_right d) (word_of a) ≡ d
    go dir.Read e = refl
    go dir.Write e = dir_right a.dir (list_all is_single a.dims) (list_any (λ d. d.driven) a.dims) (list_any is_overlapping a.dims) (ap (λ d. not (is_read d)) e) ∙ e
    go dir.Add e = absurd (differs e)

table_back : TableReadsBack
unfolding table_line_of table_line_text
table_back names n a arrays iters different_arrays different_iters h differs le sizes =
    let apart_arrays = apart_of names.arrays different_arrays in
    let apart_iters = apart_of names.iters different_iters in
    let f = fine names (is_right a.dir) a h (right_dir a differs) in
    let named_arrays = each_of (λ w. is_name w ≡ true) names.arrays arrays in
    let named_iters = each_of (λ w. is_name w ≡ true) names.iters iters in
    let raw = written_arc names a in
    let raw_is_fine = raw_fine names named_arrays named_iters (is_right a.dir) a f in
    let each = each_of HasReadableSizes a.dims sizes in
    let es = map (λ d. d.elements) a.dims in
    let ss = map (λ d. d.step) a.dims in
    let small : Sizes a = record {
      elements = each_mapped HasReadableSizes (λ n. n ≤ most) (λ d. d.elements) (λ d s. s.elements) a.dims each;
      steps = each_mapped HasReadableSizes (λ n. n ≤ most) (λ d. d.step) (λ d s. s.step) a.dims each;
    } in
    let filled : AreFilled es ss raw = record {
      elements = filled_map (λ d. d.elements) a.dims h.some;
      steps = filled_map (λ d. d.step) a.dims h.some;
      arc = arc_filled names (is_right a.dir) a f;
    } in
    ap (λ o. option_and_then (given_table names) (option_and_then raw_table o)) (parts_back (table_pieces names n a) (pieces_fine names n a le raw_is_fine small) ∙ ap Some (solids_table names n a))
    ∙ ap (option_and_then (given_table names)) (raw_read n a.dir es ss raw differs filled)
    ∙ given_back names n a apart_arrays apart_iters f

pub table_reads_back : TableReadsBack
table_reads_back = table_back
