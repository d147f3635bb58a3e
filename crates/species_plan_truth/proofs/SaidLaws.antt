-- The line that is written for a nest says its arcs with their domains.
use Rattle.std.proofs.Common.{◌≡◌, ◌∙◌, ap, refl, sym, append-nil, ℕ, List, [], ◌∷◌, ◌++◌, map, Some, None, Bool, true, false}
use Rattle.std.specs.Prelude.{filter, if◌then◌else◌, option_map, option_and_then, All}
use Rattle.std.specs.List.{list_all, list_any}
use Rattle.species_ast.specs.Names.{is_name}
use Rattle.species_grammar.specs.Reader.{◌>>=◌, both, skip}
use Rattle.species_grammar.specs.Whole.{whole, ended}
use Rattle.species_arcs.specs.Shapes.{is_single, is_overlapping, word_of}
use Rattle.species_arcs.specs.declared.places.Arc.{Arc}
use Rattle.species_arcs.specs.declared.places.ArcDim.{ArcDim}
use Rattle.species_arcs.specs.declared.plans.Nest.{Nest}
use Rattle.species_linear.specs.declared.forms.Form.{Form}
use Rattle.species_notation.specs.declared.given.Names.{Names}
use Rattle.species_notation.specs.Law.{AreNames, AreDifferent, IsReadableArc}
use Rattle.species_notation.specs.Meaning.{Sums, dir_of, each_some, given_arc, given_form}
use Rattle.species_notation.specs.Parts.{parts_of, text_of}
use Rattle.species_notation.specs.Readers.{side, arrow, answered}
use Rattle.species_notation.specs.Spelled.{side_parts}
use Rattle.species_notation.specs.TableLines.{known_form, form_said, ends_said}
use Rattle.species_notation.specs.Written.{is_on, reads_of, others_of, written_form, written_range, written_arc, line_for, line_pieces, line_text}
use Rattle.species_notation.proofs.ArcsBack.{each_map, arc_back}
use Rattle.species_notation.proofs.ArcsRead.{IsArcFilled, AreFilled, side_at}
use Rattle.species_notation.proofs.Combining.{both_at, skip_at}
use Rattle.species_notation.proofs.Fine.{Each, Apart, FormFine, DimFine, ArcFine}
use Rattle.species_notation.proofs.FormSums.{entry_of}
use Rattle.species_notation.proofs.FormsBack.{form_back}
use Rattle.species_notation.proofs.LinesBack.{each_mapped, arc_filled, raw_fine}
use Rattle.species_notation.proofs.Pieces.{RawArcFine, text_back}
use Rattle.species_notation.proofs.ReadBack.{each_of, apart_of, dir_left, dir_right, fine}
use Rattle.species_plan_truth.specs.Said.{ReadArc, said_with, said_arc, said_both, said_sides, said_of, arc_as_said, said_for}

-- ---- domains

abbrev sums_said : (iters : List (List ℕ)) → Apart iters → Form → Sums
sums_said iters apart f = record { constant = f.constant; names = map (entry_of iters apart) f.terms }

form_back_said : (iters : List (List ℕ)) (apart : Apart iters) (f : Form) → FormFine iters f → form_said iters (written_form iters f) ≡ Some f
form_back_said iters apart f h =
    let b = form_back iters apart f h.0 h.1 in
    ap (option_and_then (known_form iters)) b.are ∙ ap (λ t. if t then Some (given_form iters (sums_said iters apart f)) else None) b.known ∙ ap Some b.form

ends_back : (iters : List (List ℕ)) (apart : Apart iters) (d : ArcDim) → DimFine iters d → ends_said iters (written_range iters d) ≡ Some (d.low, d.high)
ends_back iters apart d f =
    ap (option_and_then (λ low. option_map (λ high. (low, high)) (form_said iters (written_form iters d.high)))) (form_back_said iters apart d.low f.low)
    ∙ ap (option_map (λ high. (d.low, high))) (form_back_said iters apart d.high f.high)

-- ---- arcs

module _ (names : Names) (arrays_apart : Apart names.arrays) (iters_apart : Apart names.iters) where
  said_back : (right : Bool) (a : Arc) → ArcFine names right a → said_arc names right (written_arc names a) ≡ Some (arc_as_said a)
  said_back right a f =
      let domain : List (Form × Form) = map (λ d. (d.low, d.high)) a.dims in
      ap (option_and_then (λ domain. option_map (said_with domain) (given_arc names right (written_arc names a))))
      (each_map (DimFine names.iters) (written_range names.iters) (ends_said names.iters) (λ d. (d.low, d.high)) (ends_back names.iters iters_apart) a.dims f.dims)
      ∙ ap (option_map (said_with domain)) (arc_back names arrays_apart iters_apart right a f)

  side_back : (right : Bool) (arcs : List Arc) → Each (ArcFine names right) arcs → each_some (said_arc names right) (map (written_arc names) arcs) ≡ Some (map arc_as_said arcs)
  side_back right arcs e = each_map (ArcFine names right) (written_arc names) (said_arc names right) arc_as_said (said_back right) arcs e

  sides_back : (arcs : List Arc) → Each (ArcFine names false) (reads_of arcs) → Each (ArcFine names true) (others_of arcs)
      → said_sides names (map (written_arc names) (reads_of arcs), map (written_arc names) (others_of arcs)) ≡ Some (said_for arcs)
  sides_back arcs l r =
      ap (λ o. said_both o (each_some (said_arc names true) (map (written_arc names) (others_of arcs)))) (side_back false (reads_of arcs) l)
      ∙ ap (said_both (Some (map arc_as_said (reads_of arcs)))) (side_back true (others_of arcs) r)

-- the parts of both sides, with the arrow between, are read as these
sides_read : (l r : List ReadArc) → AreFilled l → AreFilled r → answered (whole (both side (skip arrow side)) (side_parts l ++ arrow.token tt ∷ side_parts r)) ≡ Some (l, r)
sides_read l r f g =
    let behind = side_parts r ++ [] in
    let more = arrow.token tt ∷ behind in
    ap (λ z. answered (whole (both side (skip arrow side)) (side_parts l ++ arrow.token tt ∷ z))) (sym (append-nil (side_parts r)))
    ∙ ap (λ a. answered (a >>= ended))
    (both_at side (skip arrow side) (side_parts l ++ more) l more r [] (side_at l more f refl refl) (skip_at arrow side more tt behind r [] refl (side_at r [] g refl refl)))

-- the arcs on a side can be read back
filtered : (names : Names) (right : Bool) (p : Arc → Bool) → ((a : Arc) → p a ≡ true → dir_of right (word_of a) ≡ a.dir) → (arcs : List Arc) → Each (IsReadableArc names) arcs
    → Each (ArcFine names right) (filter p arcs)
filtered names right p f [] h = tt
filtered names right p f (a ∷ arcs) h = with_first (filtered names right p f arcs h.1) (p a) refl
  where
    with_first : Each (ArcFine names right) (filter p arcs) → (b : Bool) → p a ≡ b → Each (ArcFine names right) (if b then a ∷ filter p arcs else filter p arcs)
    with_first more true e = (fine names right a h.0 (f a e), more)
    with_first more false e = more

-- The law.
pub line_says : (names : Names) (nest : Nest) → AreNames names.arrays → AreNames names.iters → AreDifferent names.arrays → AreDifferent names.iters → All (IsReadableArc names) nest.arcs → nest.reason ≡ None
    → said_of names (line_text names nest) ≡ Some (said_for nest.arcs)
unfolding said_of line_text
line_says names nest arrays iters different_arrays different_iters readable none =
    let arcs = nest.arcs in
    let each = each_of (IsReadableArc names) arcs readable in
    let named_arrays = each_of (λ w. is_name w ≡ true) names.arrays arrays in
    let named_iters = each_of (λ w. is_name w ≡ true) names.iters iters in
    let l = filtered names false (is_on true) (λ a e. dir_left a.dir e) arcs each in
    let r = filtered names true (is_on false) (λ a e. dir_right a.dir (list_all is_single a.dims) (list_any (λ d. d.driven) a.dims) (list_any is_overlapping a.dims) e) arcs each in
    let ls = map (written_arc names) (reads_of arcs) in
    let rs = map (written_arc names) (others_of arcs) in
    ap (λ q. option_and_then (said_sides names) (option_and_then (λ parts. answered (whole (both side (skip arrow side)) parts)) (parts_of (text_of (line_pieces (line_for names arcs q)))))) none
    ∙ ap (λ o. option_and_then (said_sides names) (option_and_then (λ parts. answered (whole (both side (skip arrow side)) parts)) o))
    (text_back ls rs
    (each_mapped (ArcFine names false) RawArcFine (written_arc names) (raw_fine names named_arrays named_iters false) (reads_of arcs) l)
    (each_mapped (ArcFine names true) RawArcFine (written_arc names) (raw_fine names named_arrays named_iters true) (others_of arcs) r))
    ∙ ap (option_and_then (said_sides names))
    (sides_read ls rs
    (each_mapped (ArcFine names false) IsArcFilled (written_arc names) (arc_filled names false) (reads_of arcs) l)
    (each_mapped (ArcFine names true) IsArcFilled (written_arc names) (arc_filled names true) (others_of arcs) r))
    ∙ sides_back names (apart_of names.arrays different_arrays) (apart_of names.iters different_iters) arcs l r
