-- The text of an arc and of a line, piece by piece.
use Rattle.std.proofs.Common.{◌≡◌, ◌∙◌, ap, sym, refl, ℕ, zero, suc, ◌+◌, ◌<◌, List, [], ◌∷◌, ◌++◌, map, take, length, slice_index_or, append_assoc, append-nil, Bool, true, false, nat_eq, arith}
use Rattle.std.specs.Prelude.{codes, decimal, filter, if◌then◌else◌}
use Rattle.std.specs.List.{flat_map}
use Rattle.species_notation.specs.declared.parts.Part.{Part}
use Rattle.species_notation.specs.declared.parts.Part.TheVariants as part
use Rattle.species_notation.specs.declared.raw.RawArc.{RawArc}
use Rattle.species_notation.specs.declared.raw.RawLine.TheVariants as line
use Rattle.species_notation.specs.Parts.{part_text, parts_text, Piece, Solid, Space, piece_text, text_of}
use Rattle.species_notation.specs.Spelled.{listed_parts, form_parts, arc_front, arc_forms, mark_text}
use Rattle.species_notation.specs.Written.{spaced, arc_pieces, next_arc, arc_after, side_pieces, line_pieces}
use Rattle.species_notation.proofs.Texts.{parts_append, not_zero}

pub text_append : (ps qs : List Piece) → text_of (ps ++ qs) ≡ text_of ps ++ text_of qs
text_append [] qs = refl
text_append (p ∷ ps) qs = ap (λ l. piece_text p ++ l) (text_append ps qs) ∙ sym (append_assoc (piece_text p) (text_of ps) (text_of qs))

pub text_solid : (ps : List Part) → text_of (map Solid ps) ≡ parts_text ps
text_solid [] = refl
text_solid (p ∷ ps) = ap (λ l. part_text p ++ l) (text_solid ps)

pub arc_text_of : (a : RawArc) → text_of (arc_pieces a) ≡ parts_text (arc_front a) ++ (codes " at (" ++ (parts_text (listed_parts 44 form_parts a.forms) ++ (codes ") " ++ mark_text a.exact)))
arc_text_of a =
    let mark : List Piece = Space ∷ Solid (part.Name (mark_text a.exact)) ∷ [] in
    let forms : List ℕ = parts_text (listed_parts 44 form_parts a.forms) in
    text_append (map Solid (arc_front a)) (spaced (part.Name (codes "at")) ++ (map Solid (arc_forms a) ++ mark))
    ∙ ap (λ l. l ++ text_of (spaced (part.Name (codes "at")) ++ (map Solid (arc_forms a) ++ mark))) (text_solid (arc_front a))
    ∙ ap (λ l. parts_text (arc_front a) ++ (codes " at " ++ l)) (text_append (map Solid (arc_forms a)) mark)
    ∙ ap (λ l. parts_text (arc_front a) ++ (codes " at " ++ (l ++ text_of mark))) (text_solid (arc_forms a) ∙ ap (λ l. codes "(" ++ l) (parts_append (listed_parts 44 form_parts a.forms) (part.Sign 41 ∷ [])))
    ∙ ap (λ l. parts_text (arc_front a) ++ (codes " at (" ++ l)) (append_assoc forms (codes ")") (text_of mark))
    ∙ ap (λ l. parts_text (arc_front a) ++ (codes " at (" ++ (forms ++ (codes ") " ++ l)))) (append-nil (mark_text a.exact))

-- five pieces behind what was there
pub regroup : (o a b c d e : List ℕ) → ((((o ++ a) ++ b) ++ c) ++ d) ++ e ≡ o ++ (a ++ (b ++ (c ++ (d ++ e))))
regroup o a b c d e = simp append_assoc

-- ---- sides

-- arcs, each but the first behind a separator
abbrev pub joined_arcs : List RawArc → List Piece
joined_arcs [] = []
joined_arcs (a ∷ more) = arc_pieces a ++ flat_map next_arc more

flat_next : (xs : List RawArc) (a : RawArc) → flat_map next_arc (xs ++ a ∷ []) ≡ flat_map next_arc xs ++ next_arc a
flat_next [] a = append-nil (next_arc a)
flat_next (x ∷ xs) a = ap (λ l. next_arc x ++ l) (flat_next xs a) ∙ sym (append_assoc (next_arc x) (flat_map next_arc xs) (next_arc a))

joined_end : (xs : List RawArc) (a : RawArc) → joined_arcs (xs ++ a ∷ []) ≡ joined_arcs xs ++ arc_after (nat_eq (length xs) 0) a
joined_end [] a = append-nil (arc_pieces a)
joined_end (x ∷ xs) a =
    ap (λ l. arc_pieces x ++ l) (flat_next xs a)
    ∙ sym (append_assoc (arc_pieces x) (flat_map next_arc xs) (next_arc a))
    ∙ ap (λ b. joined_arcs (x ∷ xs) ++ arc_after b a) (sym (not_zero (length xs)))

length_end : {A : Type 0} (xs : List A) (a : A) → nat_eq (length (xs ++ a ∷ [])) 0 ≡ false
length_end [] a = refl
length_end (x ∷ xs) a = not_zero (length (xs ++ a ∷ []))

kept : {A B : Type 0} (f : A → B) (p : A → Bool) (xs : List A) (i : ℕ) (d : A) → i < length xs → p (slice_index_or xs i d) ≡ true → map f (filter p (take (suc i) xs)) ≡ map f (filter p (take i xs)) ++ f (slice_index_or xs i d) ∷ []
kept f p [] i d lt e = absurd (omega (arith, lt))
kept f p (x ∷ xs) zero d lt e = ap (λ b. map f (if b then x ∷ [] else [])) e
kept {A} {B} f p (x ∷ xs) (suc i) d lt e = with_first (p x) (kept f p xs i d (omega (arith, lt)) e)
  where
    with_first : (b : Bool) → map f (filter p (take (suc i) xs)) ≡ map f (filter p (take i xs)) ++ f (slice_index_or xs i d) ∷ [] →
        map f (if b then x ∷ filter p (take (suc i) xs) else filter p (take (suc i) xs)) ≡ map f (if b then x ∷ filter p (take i xs) else filter p (take i xs)) ++ f (slice_index_or xs i d) ∷ []
    with_first true h = ap (λ l. f x ∷ l) h
    with_first false h = h

passed : {A : Type 0} (p : A → Bool) (xs : List A) (i : ℕ) (d : A) → i < length xs → p (slice_index_or xs i d) ≡ false → filter p (take (suc i) xs) ≡ filter p (take i xs)
passed p [] i d lt e = absurd (omega (arith, lt))
passed p (x ∷ xs) zero d lt e = ap (λ b. if b then x ∷ [] else []) e
passed p (x ∷ xs) (suc i) d lt e = ap (λ l. if p x then x ∷ l else l) (passed p xs i d (omega (arith, lt)) e)

-- what is written of a side, before one more arc
pub record SideWritten {A : Type 0} (f : A → RawArc) (p : A → Bool) (xs : List A) (i : ℕ) (begin out : List ℕ) (none : Bool) : Type 0 where
  pub text : out ≡ begin ++ text_of (joined_arcs (map f (filter p (take i xs))))
  pub empty : none ≡ nat_eq (length (map f (filter p (take i xs)))) 0

pub side_passed : {A : Type 0} (f : A → RawArc) (p : A → Bool) (xs : List A) (i : ℕ) (d : A) (begin out : List ℕ) (empty : Bool) → i < length xs → p (slice_index_or xs i d) ≡ false
    → SideWritten f p xs i begin out empty → SideWritten f p xs (i + 1) begin out empty
side_passed f p xs i d begin out empty lt e h =
    let step : i + 1 ≡ suc i = omega arith in
    let same = ap (λ n. filter p (take n xs)) step ∙ passed p xs i d lt e in
    record {
      text = h.text ∙ ap (λ l. begin ++ text_of (joined_arcs (map f l))) (sym same);
      empty = h.empty ∙ ap (λ l. nat_eq (length (map f l)) 0) (sym same);
    }

pub side_next : {A : Type 0} (f : A → RawArc) (p : A → Bool) (xs : List A) (i : ℕ) (d : A) (begin out new : List ℕ) (empty : Bool) → i < length xs → p (slice_index_or xs i d) ≡ true
    → SideWritten f p xs i begin out empty → new ≡ out ++ text_of (arc_after empty (f (slice_index_or xs i d))) → SideWritten f p xs (i + 1) begin new false
side_next f p xs i d begin out new empty lt e h put =
    let step : i + 1 ≡ suc i = omega arith in
    let front = map f (filter p (take i xs)) in
    let arc = f (slice_index_or xs i d) in
    let more = ap (λ n. map f (filter p (take n xs))) step ∙ kept f p xs i d lt e in
    record {
      text =
          put
          ∙ ap (λ b. out ++ text_of (arc_after b arc)) h.empty
          ∙ ap (λ l. l ++ text_of (arc_after (nat_eq (length front) 0) arc)) h.text
          ∙ append_assoc begin (text_of (joined_arcs front)) (text_of (arc_after (nat_eq (length front) 0) arc))
          ∙ ap (λ l. begin ++ l) (sym (text_append (joined_arcs front) (arc_after (nat_eq (length front) 0) arc)) ∙ ap text_of (sym (joined_end front arc)) ∙ ap (λ l. text_of (joined_arcs l)) (sym more));
      empty = sym (length_end front arc) ∙ ap (λ l. nat_eq (length l) 0) (sym more);
    }

-- a side where there is no arc, and where there is one
pub side_text : (xs : List RawArc) (b : Bool) → nat_eq (length xs) 0 ≡ b → text_of (side_pieces xs) ≡ (if b then codes "none" else text_of (joined_arcs xs))
side_text [] true e = refl
side_text [] false e = absurd (cc e)
side_text (x ∷ xs) true e = absurd (cc (e, not_zero (length xs)))
side_text (x ∷ xs) false e = refl

no_text : (xs : List RawArc) → nat_eq (length xs) 0 ≡ true → text_of (joined_arcs xs) ≡ []
no_text [] e = refl
no_text (x ∷ xs) e = absurd (cc (e, not_zero (length xs)))

pub side_none : {A : Type 0} (f : A → RawArc) (p : A → Bool) (xs : List A) (i : ℕ) (begin out new : List ℕ) (empty : Bool) → take i xs ≡ xs → empty ≡ true
    → SideWritten f p xs i begin out empty → new ≡ out ++ codes "none" → new ≡ begin ++ text_of (side_pieces (map f (filter p xs)))
side_none f p xs i begin out new empty whole e h put =
    let none : nat_eq (length (map f (filter p (take i xs)))) 0 ≡ true = sym h.empty ∙ e in
    put ∙ ap (λ l. l ++ codes "none") (h.text ∙ ap (λ l. begin ++ l) (no_text (map f (filter p (take i xs))) none) ∙ append-nil begin)
    ∙ ap (λ l. begin ++ l) (sym (side_text (map f (filter p (take i xs))) true none) ∙ ap (λ l. text_of (side_pieces (map f (filter p l)))) whole)

pub side_some : {A : Type 0} (f : A → RawArc) (p : A → Bool) (xs : List A) (i : ℕ) (begin out : List ℕ) (empty : Bool) → take i xs ≡ xs → empty ≡ false
    → SideWritten f p xs i begin out empty → out ≡ begin ++ text_of (side_pieces (map f (filter p xs)))
side_some f p xs i begin out empty whole e h =
    h.text ∙ ap (λ l. begin ++ l) (sym (side_text (map f (filter p (take i xs))) false (sym h.empty ∙ e)) ∙ ap (λ l. text_of (side_pieces (map f (filter p l)))) whole)

-- ---- reasons

pub carried_text : (w : List ℕ) (m n : ℕ) → text_of (line_pieces (line.Carried w m n)) ≡ codes "sequential carried " ++ (w ++ ((32 ∷ decimal m) ++ (32 ∷ decimal n)))
carried_text w m n = ap (λ l. codes "sequential carried " ++ (w ++ ((32 ∷ decimal m) ++ (32 ∷ l)))) (append-nil (decimal n))

pub local_text : (w : List ℕ) → text_of (line_pieces (line.Local w)) ≡ codes "sequential local " ++ w
local_text w = ap (λ l. codes "sequential local " ++ l) (append-nil w)

pub regroup_four : (o a b c d : List ℕ) → (((o ++ a) ++ b) ++ c) ++ d ≡ o ++ (a ++ (b ++ (c ++ d)))
regroup_four o a b c d = simp append_assoc
