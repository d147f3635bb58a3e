-- What is written for a nest is read as its arcs.
use Rattle.std.proofs.Common.{◌≡◌, ◌≢◌, ◌∙◌, ap, sym, refl, ℕ, suc, ◌+◌, ◌<◌, ◌≤◌, ◌^◌, ◌%◌, List, [], ◌∷◌, ◌++◌, map, length, All, Some, None, Bool, true, false, arith, ℤ, ◌-ℤ◌, ◌≤ℤ◌}
use Rattle.std.specs.Prelude.{bytes_eq, filter, not, ◌&&◌, nat_eq, if◌then◌else◌, int_le, option_and_then}
use Rattle.std.specs.Int.{◌∣◌}
use Rattle.std.specs.List.{list_all, list_any}
use Rattle.std.specs.Int.RustNames.{unsigned_abs}
use Rattle.std.proofs.lemmas.Int.{ints}
use Rattle.std.proofs.lemmas.Bool.{le-leb, eq-eqb}
use Rattle.std.proofs.lemmas.Bool.Decides.{Decides-int_eq}
use Rattle.std.proofs.lemmas.Slice.Eq.{bytes_eq-Decides}
use Rattle.std.proofs.Math.Nat.{dvd_iff_mod-eq-zero}
use Rattle.species_ast.specs.Names.{is_name}
use Rattle.species_linear.specs.declared.forms.Form.{Form}
use Rattle.species_linear.specs.declared.forms.Term.{Term}
use Rattle.species_linear.specs.Rising.{IsRisingFrom}
use Rattle.species_arcs.specs.declared.places.Dir.{Dir}
use Rattle.species_arcs.specs.declared.places.Dir.TheVariants as dir
use Rattle.species_arcs.specs.declared.places.ArcDim.{ArcDim}
use Rattle.species_arcs.specs.declared.places.Arc.{Arc}
use Rattle.species_arcs.specs.declared.plans.Nest.{Nest}
use Rattle.species_arcs.specs.declared.plans.Reason.{Reason}
use Rattle.species_arcs.specs.declared.plans.Reason.TheVariants as reason
use Rattle.species_arcs.specs.declared.shapes.Word.{Word}
use Rattle.species_arcs.specs.declared.shapes.Word.TheVariants as word
use Rattle.species_arcs.specs.Shapes.{is_single, is_overlapping, is_add, word_of}
use Rattle.species_notation.specs.declared.given.Names.{Names}
use Rattle.species_notation.specs.Parts.{most, parts_of, text_of}
use Rattle.species_notation.specs.Readers.{raw_line}
use Rattle.species_notation.specs.Meaning.{fits, is_stride, dir_of, given_line, line_of}
use Rattle.species_notation.specs.Written.{name_at, is_read, is_on, reads_of, others_of, line_for, line_pieces, written_reason, line_text}
use Rattle.species_notation.specs.Law.{AreNames, AreDifferent, IsReadable, IsReadableDim, IsReadableArc, IsReadableReason, arc_as_given, ReadsBack}
use Rattle.species_notation.proofs.Fine.{Each, Apart, Readable, FormFine, DimFine, WordFits, ArcFine}
use Rattle.species_notation.proofs.FormSums.{and_both}
use Rattle.species_notation.proofs.LinesBack.{sides_back}
use Rattle.species_notation.proofs.ReasonsBack.{carried_back, local_back}

pub each_of : {X : Type 0} (P : X → Type 0) (xs : List X) → All P xs → Each P xs
each_of P [] h = tt
each_of P (x ∷ xs) h = (h 0 x (omega arith), each_of P xs (λ k d l. h (suc k) d (omega (arith, l))))

each_more : {X : Type 0} (P Q : X → Type 0) → ((x : X) → P x → Q x) → (xs : List X) → Each P xs → Each Q xs
each_more P Q f [] h = tt
each_more P Q f (x ∷ xs) h = (f x h.0, each_more P Q f xs h.1)

-- ---- names

differs : (v w : List ℕ) → v ≢ w → bytes_eq v w ≡ false
differs v w n = go (bytes_eq v w) refl
  where
    go : (b : Bool) → bytes_eq v w ≡ b → b ≡ false
    go true e = absurd (n ((bytes_eq-Decides v w).0 e))
    go false e = refl

pub apart_of : (ws : List (List ℕ)) → AreDifferent ws → Apart ws
apart_of ws h i j l k = (differs (name_at ws j) (name_at ws i) (λ e. h i j l k (sym e)), differs (name_at ws i) (name_at ws j) (h i j l k))

-- ---- forms and dimensions

fits_of : (z : ℤ) → unsigned_abs z ≤ 2 ^ 70 → fits z ≡ true
fits_of z h = le-leb (unsigned_abs z) most h

terms_of : (top k : ℕ) (ts : List Term) → IsRisingFrom k ts → All (λ t. t.level < top) ts → All (λ t. unsigned_abs t.coefficient ≤ 2 ^ 70) ts → Readable top k ts
terms_of top k [] r n c = tt
terms_of top k (t ∷ ts) r n c = (
  r.0,
  n 0 t (omega arith),
  r.1,
  fits_of t.coefficient (c 0 t (omega arith)),
  terms_of top (t.level + 1) ts r.2 (λ j d l. n (suc j) d (omega (arith, l))) (λ j d l. c (suc j) d (omega (arith, l))),
)

form_of : (iters : List (List ℕ)) (f : Form) → IsReadable iters f → FormFine iters f
form_of iters f h = (terms_of (length iters) 0 f.terms h.rising h.named h.coefficients, fits_of f.constant h.constant)

int_le_of : (x y : ℤ) → x ≤ℤ y → int_le x y ≡ true
int_le_of x y h = grind (arith, ints)

stride_of : (t n : ℕ) → 0 < t → t ∣ n → is_stride t n ≡ true
stride_of t n some h = ap (λ b. b && nat_eq (n % t) 0) (le-leb 1 t (omega (arith, some))) ∙ eq-eqb (n % t) 0 ((dvd_iff_mod-eq-zero t {n = n}).0 h)

dim_fine : (iters : List (List ℕ)) (d : ArcDim) → IsReadableDim iters d → DimFine iters d
dim_fine iters d h = record {
  at = form_of iters d.at h.at;
  low = form_of iters d.low h.low;
  high = form_of iters d.high h.high;
  least = fits_of d.a h.a;
  greatest = fits_of d.b h.b;
  small = h.stride.1;
  ordered = int_le_of d.a d.b h.ordered;
  stride = stride_of d.stride (unsigned_abs (d.b -ℤ d.a)) h.stride.0 h.stride.2;
  point = λ e.
      let same : d.a ≡ d.b = (Decides-int_eq d.a d.b).0 e in
      let one = h.single same in
      (one.0, sym same ∙ one.0, one.1);
}

-- ---- words

all_single : (ds : List ArcDim) → list_all is_single ds ≡ true → Each (λ d. is_single d ≡ true) ds
all_single [] h = tt
all_single (d ∷ ds) h = let both = and_both (is_single d) (list_all is_single ds) h in (both.0, all_single ds both.1)

-- the word by its tests
abbrev chosen : Bool → Bool → Bool → Bool → Word
chosen add single driven overlapping =
    if add then word.Shared
    else if single then word.Element
    else if not driven then word.Full
    else if overlapping then word.Neighbourhood
    else word.Chunk

word_fits : (add single driven overlapping : Bool) (ds : List ArcDim) → (single ≡ true → Each (λ d. is_single d ≡ true) ds) → WordFits (chosen add single driven overlapping) ds
word_fits true single driven overlapping ds h = tt
word_fits false true driven overlapping ds h = h refl
word_fits false false false overlapping ds h = tt
word_fits false false true true ds h = tt
word_fits false false true false ds h = tt

-- what is no read stands on the right with the word of its direction
pub dir_right : (d : Dir) (single driven overlapping : Bool) → not (is_read d) ≡ true → dir_of true (chosen (is_add d) single driven overlapping) ≡ d
dir_right dir.Read single driven overlapping h = cc
dir_right dir.Add single driven overlapping h = refl
dir_right dir.Write true driven overlapping h = refl
dir_right dir.Write false false overlapping h = refl
dir_right dir.Write false true true h = refl
dir_right dir.Write false true false h = refl

pub dir_left : (d : Dir) → is_read d ≡ true → Path Dir dir.Read d
dir_left dir.Read h = refl
dir_left dir.Write h = cc
dir_left dir.Add h = cc

-- ---- arcs

module _ (names : Names) where
  pub fine : (right : Bool) (a : Arc) → IsReadableArc names a → dir_of right (word_of a) ≡ a.dir → ArcFine names right a
  fine right a h dir = record {
    array = h.array;
    some = h.some;
    dims = each_more (IsReadableDim names.iters) (DimFine names.iters) (dim_fine names.iters) a.dims (each_of (IsReadableDim names.iters) a.dims h.dims);
    word = word_fits (is_add a.dir) (list_all is_single a.dims) (list_any (λ d. d.driven) a.dims) (list_any is_overlapping a.dims) a.dims (all_single a.dims);
    dir = dir;
  }

  filtered : (right : Bool) (p : Arc → Bool) → ((a : Arc) → p a ≡ true → dir_of right (word_of a) ≡ a.dir) → (arcs : List Arc) → Each (IsReadableArc names) arcs → Each (ArcFine names right) (filter p arcs)
  filtered right p f [] h = tt
  filtered right p f (a ∷ arcs) h = with_first (filtered right p f arcs h.1) (p a) refl
    where
      with_first : Each (ArcFine names right) (filter p arcs) → (b : Bool) → p a ≡ b → Each (ArcFine names right) (if b then a ∷ filter p arcs else filter p arcs)
      with_first more true e = (fine right a h.0 (f a e), more)
      with_first more false e = more

-- ---- the law

parallel_back : (names : Names) (nest : Nest) → AreNames names.arrays → AreNames names.iters → AreDifferent names.arrays → AreDifferent names.iters →
    All (IsReadableArc names) nest.arcs → nest.reason ≡ None →
    line_of names (line_text names nest) ≡ Some (record { arcs = map arc_as_given (reads_of nest.arcs) ++ map arc_as_given (others_of nest.arcs) })
unfolding line_of line_text
parallel_back names nest arrays iters different_arrays different_iters arcs none =
    let each = each_of (IsReadableArc names) nest.arcs arcs in
    ap (λ r. option_and_then (given_line names) (option_and_then raw_line (parts_of (text_of (line_pieces (line_for names nest.arcs r)))))) none
    ∙ sides_back names (each_of (λ w. is_name w ≡ true) names.arrays arrays) (each_of (λ w. is_name w ≡ true) names.iters iters) (apart_of names.arrays different_arrays) (apart_of names.iters different_iters) nest.arcs
    (filtered names false (is_on true) (λ a e. dir_left a.dir e) nest.arcs each)
    (filtered names true (is_on false)
    (λ a e. dir_right a.dir (list_all is_single a.dims) (list_any (λ d. d.driven) a.dims) (list_any is_overlapping a.dims) e) nest.arcs each)

reason_back : (names : Names) (r : Reason) → IsReadableReason names r →
    option_and_then (given_line names) (option_and_then raw_line (parts_of (text_of (line_pieces (written_reason names r))))) ≡ Some (record { arcs = [] })
reason_back names (reason.Carried array first second) h = carried_back names (name_at names.arrays array) first second h.0 h.1 h.2
reason_back names (reason.Outer local) h = local_back names (name_at names.locals local) h

sequential_back : (names : Names) (nest : Nest) (r : Reason) → nest.reason ≡ Some r → IsReadableReason names r →
    line_of names (line_text names nest) ≡ Some (record { arcs = [] })
unfolding line_of line_text
sequential_back names nest r some h =
    ap (λ q. option_and_then (given_line names) (option_and_then raw_line (parts_of (text_of (line_pieces (line_for names nest.arcs q)))))) some
    ∙ reason_back names r h

pub reads_back : ReadsBack
reads_back = record { parallel = parallel_back; sequential = sequential_back }
