-- The arcs that the parts of a written line give.
use Rattle.std.proofs.Common.{◌≡◌, ◌∙◌, ap, sym, refl, ℕ, zero, suc, ◌<◌, ◌≤◌, List, [], ◌∷◌, ◌++◌, map, length, slice_index_or, Option, Some, None, Bool, true, false, arith, pos}
use Rattle.std.specs.Prelude.{if◌then◌else◌, nat_eq, nat_le, nat_lt, bytes_eq, ◌&&◌, option_and_then, option_map, unwrap_or, position, ◌-ℤ◌, is_some}
use Rattle.std.proofs.lemmas.Bool.{lt-ltb}
use Rattle.std.proofs.lemmas.List.Sums.{position_or_len_is}
use Rattle.std.specs.List.{list_all}
use Rattle.std.specs.Int.RustNames.{unsigned_abs}
use Rattle.species_arcs.specs.declared.places.ArcDim.{ArcDim}
use Rattle.species_arcs.specs.declared.places.Arc.{Arc}
use Rattle.species_arcs.specs.declared.spans.Span.{Span}
use Rattle.species_arcs.specs.declared.shapes.Word.{Word}
use Rattle.species_arcs.specs.declared.shapes.Word.TheVariants as word
use Rattle.species_arcs.specs.Shapes.{is_single, word_of}
use Rattle.species_arcs.specs.Sets.{offsets_of as span_of}
use Rattle.species_notation.specs.declared.raw.RawArc.{RawArc}
use Rattle.species_notation.specs.declared.given.Names.{Names}
use Rattle.species_notation.proofs.Fine.{Each, Apart, DimFine, WordFits, ArcFine}
use Rattle.species_notation.specs.Law.{dim_as_given, arc_as_given}
use Rattle.species_notation.specs.Meaning.{Sums, sums_of, is_known, number_of, is_stride, offset_in, offset_of, each_some, is_range, offsets_of, dim_of, dims_of, dir_of, arc_with, arc_from, given_arc, joined_sides, given_line}
use Rattle.species_notation.specs.Written.{name_at, written_form, written_int, written_stride, written_offset, written_range, written_offsets, written_arc, reads_of, others_of, written_sides}
use Rattle.species_notation.proofs.Combining.{nat_eq-same, same_bytes}
use Rattle.species_notation.proofs.FormSums.{entry_of, signed_back}
use Rattle.species_notation.proofs.FormsBack.{form_back}

pub each_map : {A B C : Type 0} (P : A → Type 0) (f : A → B) (g : B → Option C) (h : A → C) → ((x : A) → P x → g (f x) ≡ Some (h x)) → (xs : List A) → Each P xs → each_some g (map f xs) ≡ Some (map h xs)
each_map P f g h k [] e = refl
each_map P f g h k (x ∷ xs) e =
    ap (option_and_then (λ y. option_map (λ ys. y ∷ ys) (each_some g (map f xs)))) (k x e.0) ∙ ap (option_map (λ ys. h x ∷ ys)) (each_map P f g h k xs e.1)

all_map : {A B : Type 0} (P : A → Type 0) (f : A → B) (c : B → Bool) → ((x : A) → P x → c (f x) ≡ true) → (xs : List A) → Each P xs → list_all c (map f xs) ≡ true
all_map P f c k [] e = refl
all_map P f c k (x ∷ xs) e = ap (λ b. b && list_all c (map f xs)) (k x e.0) ∙ all_map P f c k xs e.1

stride_back : (t d : ℕ) → is_stride t d ≡ true → unwrap_or (written_stride t) 1 ≡ t
stride_back zero d h = cc
stride_back (suc zero) d h = refl
stride_back (suc (suc t)) d h = let e : nat_le (suc (suc t)) 1 ≡ false = grind arith in ap (λ b. unwrap_or (if b then None else Some (suc (suc t))) 1) e

module _ (iters : List (List ℕ)) (apart : Apart iters) where
  offset_point : (d : ArcDim) → DimFine iters d → is_single d ≡ true → Path (Option Span) (Some (record { low = pos 0; high = pos 0; stride = 1 })) (Some (span_of d))
  offset_point d f e =
      let p = f.point e in
      ap (λ z. Some (record { low = z; high = pos 0; stride = 1 })) (sym p.0) ∙ ap (λ z. Some (record { low = d.a; high = z; stride = 1 })) (sym p.1) ∙ ap (λ z. Some (record { low = d.a; high = d.b; stride = z })) (sym p.2)

  offset_span : (d : ArcDim) → DimFine iters d → offset_of (Some (record { low = written_int d.a; high = written_int d.b; stride = written_stride d.stride })) ≡ Some (span_of d)
  offset_span d f =
      ap (λ z. offset_in z (number_of (written_int d.b)) (unwrap_or (written_stride d.stride) 1)) (signed_back d.a)
      ∙ ap (λ z. offset_in d.a z (unwrap_or (written_stride d.stride) 1)) (signed_back d.b)
      ∙ ap (offset_in d.a d.b) (stride_back d.stride (unsigned_abs (d.b -ℤ d.a)) f.stride)
      ∙ ap (λ b. if b && is_stride d.stride (unsigned_abs (d.b -ℤ d.a)) then Some (span_of d) else None) f.ordered
      ∙ ap (λ b. if b then Some (span_of d) else None) f.stride

  pub offset_back : (d : ArcDim) → DimFine iters d → offset_of (written_offset d) ≡ Some (span_of d)
  offset_back d f = go (is_single d) refl
    where
      go : (b : Bool) → is_single d ≡ b → offset_of (if b then None else Some (record { low = written_int d.a; high = written_int d.b; stride = written_stride d.stride })) ≡ Some (span_of d)
      go true e = offset_point d f e
      go false e = offset_span d f

  abbrev sums : ArcDim → Sums
  sums d = record { constant = d.at.constant; names = map (entry_of iters apart) d.at.terms }

  ranges_back : (ds : List ArcDim) → Each (DimFine iters) ds → list_all is_range (map (written_range iters) ds) ≡ true
  ranges_back ds e = all_map (DimFine iters) (written_range iters) is_range one ds e
    where
      one : (d : ArcDim) → DimFine iters d → is_range (written_range iters d) ≡ true
      one d f =
          ap (λ o. is_some o && is_some (sums_of (written_form iters d.high))) (form_back iters apart d.low f.low.0 f.low.1).are
          ∙ ap is_some (form_back iters apart d.high f.high.0 f.high.1).are

  sums_back : (ds : List ArcDim) → Each (DimFine iters) ds → each_some sums_of (map (λ d. written_form iters d.at) ds) ≡ Some (map sums ds)
  sums_back ds e = each_map (DimFine iters) (λ d. written_form iters d.at) sums_of sums (λ d f. (form_back iters apart d.at f.at.0 f.at.1).are) ds e

  known_back : (ds : List ArcDim) → Each (DimFine iters) ds → list_all (is_known iters) (map sums ds) ≡ true
  known_back ds e = all_map (DimFine iters) sums (is_known iters) (λ d f. (form_back iters apart d.at f.at.0 f.at.1).known) ds e

  dims_back : (ds : List ArcDim) → Each (DimFine iters) ds → dims_of iters (map sums ds) (map span_of ds) ≡ Some (map dim_as_given ds)
  dims_back [] e = refl
  dims_back (d ∷ ds) e =
      ap (option_map (λ l. dim_of iters (sums d) (span_of d) ∷ l)) (dims_back ds e.1)
      ∙ ap (λ f. Some (record { at = f; a = d.a; b = d.b; stride = d.stride } ∷ map dim_as_given ds)) (form_back iters apart d.at e.0.at.0 e.0.at.1).form

  -- offsets that are written, and those that `element` leaves out
  abbrev offsets_given : Word → List ArcDim → Option (List Span)
  offsets_given w ds = option_and_then (each_some offset_of) (offsets_of w (written_offsets w ds) (map (λ d. written_form iters d.at) ds))

  points_back : (ds : List ArcDim) → Each (DimFine iters) ds → Each (λ d. is_single d ≡ true) ds → each_some offset_of (map (λ f. None) (map (λ d. written_form iters d.at) ds)) ≡ Some (map span_of ds)
  points_back [] e p = refl
  points_back (d ∷ ds) e p =
      ap (λ o. option_and_then (λ y. option_map (λ ys. y ∷ ys) (each_some offset_of (map (λ f. None) (map (λ d. written_form iters d.at) ds)))) o) (offset_point d e.0 p.0)
      ∙ ap (option_map (λ ys. span_of d ∷ ys)) (points_back ds e.1 p.1)

  offsets_back : (w : Word) (d : ArcDim) (ds : List ArcDim) → Each (DimFine iters) (d ∷ ds) → WordFits w (d ∷ ds) → offsets_given w (d ∷ ds) ≡ Some (map span_of (d ∷ ds))
  offsets_back word.Element d ds e p = points_back (d ∷ ds) e p
  offsets_back word.Neighbourhood d ds e p = each_map (DimFine iters) written_offset offset_of span_of offset_back (d ∷ ds) e
  offsets_back word.Chunk d ds e p = each_map (DimFine iters) written_offset offset_of span_of offset_back (d ∷ ds) e
  offsets_back word.Full d ds e p = each_map (DimFine iters) written_offset offset_of span_of offset_back (d ∷ ds) e
  offsets_back word.Shared d ds e p = each_map (DimFine iters) written_offset offset_of span_of offset_back (d ∷ ds) e

-- ---- the array by its name

pub position_at : (w : List ℕ) (ws : List (List ℕ)) (k : ℕ) → k < length ws → slice_index_or ws k [] ≡ w → ((i : ℕ) → i < k → bytes_eq w (slice_index_or ws i []) ≡ false) → position (bytes_eq w) ws ≡ Some k
position_at w ws k lt e n =
    let le : k ≤ length ws = omega (arith, lt) in
    let place = position_or_len_is (bytes_eq w) ws k [] le n (λ l. ap (bytes_eq w) e ∙ same_bytes w) in
    ap (λ i. if nat_lt i (length ws) then Some i else None) place ∙ ap (λ b. if b then Some k else None) (lt-ltb k (length ws) lt)

same_lengths : {A B C : Type 0} (f : A → B) (g : A → C) (xs : List A) → length (map f xs) ≡ length (map g xs)
same_lengths f g [] = refl
same_lengths f g (x ∷ xs) = ap suc (same_lengths f g xs)

-- ---- arcs and lines

module _ (names : Names) (arrays_apart : Apart names.arrays) (apart : Apart names.iters) where
  array_back : (k : ℕ) → k < length names.arrays → position (bytes_eq (name_at names.arrays k)) names.arrays ≡ Some k
  array_back k lt = position_at (name_at names.arrays k) names.arrays k lt refl (λ i l. (arrays_apart i k l lt).0)

  abbrev raw : Word → Arc → List ArcDim → RawArc
  raw w a ds = record {
    name = name_at names.arrays a.array;
    ranges = map (written_range names.iters) ds;
    word = w;
    offsets = written_offsets w ds;
    forms = map (λ d. written_form names.iters d.at) ds;
    exact = a.exact;
  }

  pub arc_back : (right : Bool) (a : Arc) → ArcFine names right a → given_arc names right (written_arc names a) ≡ Some (arc_as_given a)
  arc_back right a fine = go a.dims (word_of a) refl fine.some fine.dims fine.word fine.dir
    where
      finish : (w : Word) (d : ArcDim) (ds : List ArcDim) → Each (DimFine names.iters) (d ∷ ds) → dir_of right w ≡ a.dir
          → arc_with names right (raw w a (d ∷ ds)) (map (sums names.iters apart) (d ∷ ds)) (map dim_as_given (d ∷ ds)) ≡ record { array = Some a.array; dir = a.dir; dims = map dim_as_given (d ∷ ds); exact = a.exact; known = true }
      finish w d ds e dir =
          ap (λ z. record { array = z; dir = dir_of right w; dims = map dim_as_given (d ∷ ds); exact = a.exact; known = list_all (is_known names.iters) (map (sums names.iters apart) (d ∷ ds)) }) (array_back a.array fine.array)
          ∙ ap (λ z. record { array = Some a.array; dir = z; dims = map dim_as_given (d ∷ ds); exact = a.exact; known = list_all (is_known names.iters) (map (sums names.iters apart) (d ∷ ds)) }) dir
          ∙ ap (λ z. record { array = Some a.array; dir = a.dir; dims = map dim_as_given (d ∷ ds); exact = a.exact; known = z }) (known_back names.iters apart (d ∷ ds) e)

      go : (ds : List ArcDim) (w : Word) → a.dims ≡ ds → 0 < length ds → Each (DimFine names.iters) ds → WordFits w ds → dir_of right w ≡ a.dir
          → given_arc names right (raw w a ds) ≡ Some (record { array = Some a.array; dir = a.dir; dims = map dim_as_given ds; exact = a.exact; known = true })
      go [] w q lt e p dir = let x : ⊥ = omega (arith, lt) in absurd x
      go (d ∷ ds) w q lt e p dir =
          let r = raw w a (d ∷ ds) in
          let ss = map (sums names.iters apart) (d ∷ ds) in
          let os = map span_of (d ∷ ds) in
          ap (option_and_then (λ ss. option_and_then (arc_from names right r ss) (offsets_given names.iters apart w (d ∷ ds)))) (sums_back names.iters apart (d ∷ ds) e)
          ∙ ap (option_and_then (arc_from names right r ss)) (offsets_back names.iters apart w d ds e p)
          ∙ ap (λ b. if b && nat_eq (length (map (written_range names.iters) (d ∷ ds))) (length ss) then option_map (arc_with names right r ss) (dims_of names.iters ss os) else None) (ranges_back names.iters apart (d ∷ ds) e)
          ∙ ap (λ n. if nat_eq n (length ss) then option_map (arc_with names right r ss) (dims_of names.iters ss os) else None) (same_lengths (written_range names.iters) (sums names.iters apart) (d ∷ ds))
          ∙ ap (λ b. if b then option_map (arc_with names right r ss) (dims_of names.iters ss os) else None) (nat_eq-same (length ss))
          ∙ ap (option_map (arc_with names right r ss)) (dims_back names.iters apart (d ∷ ds) e)
          ∙ ap Some (finish w d ds e dir)

  side_back : (right : Bool) (arcs : List Arc) → Each (ArcFine names right) arcs → each_some (given_arc names right) (map (written_arc names) arcs) ≡ Some (map arc_as_given arcs)
  side_back right arcs e = each_map (ArcFine names right) (written_arc names) (given_arc names right) arc_as_given (arc_back right) arcs e

  pub line_back : (arcs : List Arc) → Each (ArcFine names false) (reads_of arcs) → Each (ArcFine names true) (others_of arcs)
      → given_line names (written_sides names arcs) ≡ Some (record { arcs = map arc_as_given (reads_of arcs) ++ map arc_as_given (others_of arcs) })
  line_back arcs l r =
      ap (λ o. joined_sides o (each_some (given_arc names true) (map (written_arc names) (others_of arcs)))) (side_back false (reads_of arcs) l)
      ∙ ap (joined_sides (Some (map arc_as_given (reads_of arcs)))) (side_back true (others_of arcs) r)
