-- A line that is written reads back to its arcs.
use Rattle.std.proofs.Common.{◌≡◌, ◌∙◌, ap, ℕ, zero, suc, ◌+◌, ◌<◌, ◌≤◌, List, [], ◌∷◌, ◌++◌, map, length, Some, None, Bool, true, false, arith, ℤ}
use Rattle.std.specs.Prelude.{if◌then◌else◌, nat_eq, nat_le, option_and_then}
use Rattle.std.specs.Int.RustNames.{unsigned_abs}
use Rattle.std.proofs.lemmas.Bool.{leb-true}
use Rattle.species_ast.specs.Names.{is_name}
use Rattle.species_linear.specs.declared.forms.Form.{Form}
use Rattle.species_linear.specs.declared.forms.Term.{Term}
use Rattle.species_arcs.specs.declared.places.ArcDim.{ArcDim}
use Rattle.species_arcs.specs.declared.places.Arc.{Arc}
use Rattle.species_arcs.specs.declared.shapes.Word.{Word}
use Rattle.species_arcs.specs.declared.shapes.Word.TheVariants as word
use Rattle.species_arcs.specs.Shapes.{is_single, word_of}
use Rattle.species_notation.specs.declared.given.Names.{Names}
use Rattle.species_notation.specs.Parts.{most, text_of, parts_of}
use Rattle.species_notation.specs.Readers.{raw_line}
use Rattle.species_notation.specs.Meaning.{fits, given_line}
use Rattle.species_notation.specs.Written.{name_at, written_term, written_constant, constant_behind, closed_with, written_form, written_int, written_stride, written_offset, written_range, written_offsets, written_arc, reads_of, others_of, written_sides, line_pieces}
use Rattle.species_notation.specs.Law.{arc_as_given}
use Rattle.species_notation.proofs.Fine.{Each, AllNames, Apart, Readable, FormFine, DimFine, ArcFine}
use Rattle.species_notation.proofs.ArcsRead.{IsFilled, AreOffsetsFilled, IsArcFilled, raw_line_at}
use Rattle.species_notation.proofs.ArcsBack.{line_back}
use Rattle.species_notation.proofs.Pieces.{SummandFine, RawFormFine, StrideFine, OffsetFine, RangeFine, OffsetsFine, RawArcFine, text_back}

name_fine : (ws : List (List ℕ)) (k : ℕ) → AllNames ws → k < length ws → is_name (name_at ws k) ≡ true
name_fine [] k h lt = let x : ⊥ = omega (arith, lt) in absurd x
name_fine (w ∷ ws) zero h lt = h.0
name_fine (w ∷ ws) (suc k) h lt = name_fine ws k h.1 (omega (arith, lt))

each_append : {A : Type 0} (P : A → Type 0) (xs ys : List A) → Each P xs → Each P ys → Each P (xs ++ ys)
each_append P [] ys h k = k
each_append P (x ∷ xs) ys h k = (h.0, each_append P xs ys h.1 k)

pub each_mapped : {A B : Type 0} (P : A → Type 0) (Q : B → Type 0) (f : A → B) → ((x : A) → P x → Q (f x)) → (xs : List A) → Each P xs → Each Q (map f xs)
each_mapped P Q f k [] h = tt
each_mapped P Q f k (x ∷ xs) h = (k x h.0, each_mapped P Q f k xs h.1)

fits_is : (z : ℤ) → fits z ≡ true → unsigned_abs z ≤ most
fits_is z h = leb-true (unsigned_abs z) most h

module _ (iters : List (List ℕ)) (named : AllNames iters) where
  summands_fine : (k : ℕ) (ts : List Term) → Readable (length iters) k ts → Each SummandFine (map (written_term iters) ts)
  summands_fine k [] h = tt
  summands_fine k (t ∷ ts) h = ((fits_is t.coefficient h.3, name_fine iters t.level named h.1), summands_fine (t.level + 1) ts h.4)

  constant_fine : (c : ℤ) → fits c ≡ true → Each SummandFine (constant_behind c)
  constant_fine c h = go (nat_eq (unsigned_abs c) 0)
    where
      go : (b : Bool) → Each SummandFine (if b then [] else written_constant c ∷ [])
      go true = tt
      go false = ((fits_is c h, tt), tt)

  form_fine : (f : Form) → FormFine iters f → RawFormFine (written_form iters f)
  form_fine f h = go f.terms h.0
    where
      go : (ts : List Term) → Readable (length iters) 0 ts → RawFormFine (closed_with f.constant (map (written_term iters) ts))
      go [] r = ((fits_is f.constant h.1, tt), tt)
      go (t ∷ ts) r =
          let s = summands_fine 0 (t ∷ ts) r in
          (s.0, each_append SummandFine (map (written_term iters) ts) (constant_behind f.constant) s.1 (constant_fine f.constant h.1))

  stride_fine : (t : ℕ) → t ≤ most → StrideFine (written_stride t)
  stride_fine t h = go (nat_le t 1)
    where
      go : (b : Bool) → StrideFine (if b then None else Some t)
      go true = tt
      go false = h

  offset_fine : (d : ArcDim) → DimFine iters d → OffsetFine (written_offset d)
  offset_fine d f = go (is_single d)
    where
      go : (b : Bool) → OffsetFine (if b then None else Some (record { low = written_int d.a; high = written_int d.b; stride = written_stride d.stride }))
      go true = tt
      go false = (fits_is d.a f.least, fits_is d.b f.greatest, stride_fine d.stride f.small)

  range_fine : (d : ArcDim) → DimFine iters d → RangeFine (written_range iters d)
  range_fine d f = (form_fine d.low f.low, form_fine d.high f.high)

  at_fine : (d : ArcDim) → DimFine iters d → RawFormFine (written_form iters d.at)
  at_fine d f = form_fine d.at f.at

  offsets_fine : (w : Word) (ds : List ArcDim) → Each (DimFine iters) ds → OffsetsFine (written_offsets w ds)
  offsets_fine word.Element ds h = tt
  offsets_fine word.Neighbourhood ds h = each_mapped (DimFine iters) OffsetFine written_offset offset_fine ds h
  offsets_fine word.Chunk ds h = each_mapped (DimFine iters) OffsetFine written_offset offset_fine ds h
  offsets_fine word.Full ds h = each_mapped (DimFine iters) OffsetFine written_offset offset_fine ds h
  offsets_fine word.Shared ds h = each_mapped (DimFine iters) OffsetFine written_offset offset_fine ds h

-- ---- lists that are not empty

pub filled_map : {A B : Type 0} (f : A → B) (xs : List A) → 0 < length xs → IsFilled (map f xs)
filled_map f [] lt = let x : ⊥ = omega (arith, lt) in absurd x
filled_map f (x ∷ xs) lt = tt

offsets_filled : (w : Word) (ds : List ArcDim) → 0 < length ds → AreOffsetsFilled (written_offsets w ds)
offsets_filled word.Element ds lt = tt
offsets_filled word.Neighbourhood ds lt = filled_map written_offset ds lt
offsets_filled word.Chunk ds lt = filled_map written_offset ds lt
offsets_filled word.Full ds lt = filled_map written_offset ds lt
offsets_filled word.Shared ds lt = filled_map written_offset ds lt

pub arc_filled : (names : Names) (right : Bool) (a : Arc) → ArcFine names right a → IsArcFilled (written_arc names a)
arc_filled names right a f = record {
  ranges = filled_map (written_range names.iters) a.dims f.some;
  offsets = offsets_filled (word_of a) a.dims f.some;
  forms = filled_map (λ d. written_form names.iters d.at) a.dims f.some;
}

-- ---- arcs

module _ (names : Names) (arrays_named : AllNames names.arrays) (iters_named : AllNames names.iters) where
  pub raw_fine : (right : Bool) (a : Arc) → ArcFine names right a → RawArcFine (written_arc names a)
  raw_fine right a f = record {
    name = name_fine names.arrays a.array arrays_named f.array;
    ranges = each_mapped (DimFine names.iters) RangeFine (written_range names.iters) (range_fine names.iters iters_named) a.dims f.dims;
    offsets = offsets_fine names.iters iters_named (word_of a) a.dims f.dims;
    forms = each_mapped (DimFine names.iters) RawFormFine (λ d. written_form names.iters d.at) (at_fine names.iters iters_named) a.dims f.dims;
  }

  side_text : (right : Bool) (arcs : List Arc) → Each (ArcFine names right) arcs → Each RawArcFine (map (written_arc names) arcs)
  side_text right arcs h = each_mapped (ArcFine names right) RawArcFine (written_arc names) (raw_fine right) arcs h

  pub sides_back : (arrays_apart : Apart names.arrays) (iters_apart : Apart names.iters) (arcs : List Arc)
      → Each (ArcFine names false) (reads_of arcs) → Each (ArcFine names true) (others_of arcs)
      → option_and_then (given_line names) (option_and_then raw_line (parts_of (text_of (line_pieces (written_sides names arcs))))) ≡ Some (record { arcs = map arc_as_given (reads_of arcs) ++ map arc_as_given (others_of arcs) })
  sides_back arrays_apart iters_apart arcs l r =
      ap (λ o. option_and_then (given_line names) (option_and_then raw_line o))
      (text_back (map (written_arc names) (reads_of arcs)) (map (written_arc names) (others_of arcs)) (side_text false (reads_of arcs) l) (side_text true (others_of arcs) r))
      ∙ ap (option_and_then (given_line names)) (raw_line_at (written_sides names arcs) (
        each_mapped (ArcFine names false) IsArcFilled (written_arc names) (arc_filled names false) (reads_of arcs) l,
        each_mapped (ArcFine names true) IsArcFilled (written_arc names) (arc_filled names true) (others_of arcs) r,
      ))
      ∙ line_back names arrays_apart iters_apart arcs l r
