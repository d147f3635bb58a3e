-- The text of a line has its parts.
use Rattle.std.proofs.Common.{◌≡◌, ◌∙◌, ap, sym, refl, subst, ℕ, ◌≤◌, List, [], ◌∷◌, ◌++◌, map, Option, Some, None, Bool, true, false, append_assoc, append-nil}
use Rattle.std.specs.Prelude.{if◌then◌else◌, nat_eq, codes}
use Rattle.std.specs.List.{flat_map}
use Rattle.species_ast.specs.Names.{is_name}
use Rattle.species_arcs.specs.declared.shapes.Word.{Word}
use Rattle.species_arcs.specs.declared.shapes.Word.TheVariants as word
use Rattle.species_notation.specs.declared.parts.Part.{Part}
use Rattle.species_notation.specs.declared.parts.Part.TheVariants as part
use Rattle.species_notation.specs.declared.raw.RawForm.{RawForm}
use Rattle.species_notation.specs.declared.raw.Summand.{Summand}
use Rattle.species_notation.specs.declared.raw.RawInt.{RawInt}
use Rattle.species_notation.specs.declared.raw.RawRange.{RawRange}
use Rattle.species_notation.specs.declared.raw.RawArc.{RawArc}
use Rattle.species_notation.specs.declared.raw.RawLine.TheVariants as line
use Rattle.species_notation.specs.Parts.{most, Piece, Solid, Space, text_of, parts_of}
use Rattle.species_notation.specs.Spelled.{RawOffset, minus, product_parts, first_parts, next_parts, form_parts, int_parts, stride_parts, offset_parts, range_parts, behind, listed_parts, word_text, mark_text, offsets_parts, arc_front, arc_forms, line_parts}
use Rattle.species_notation.specs.Written.{spaced, arc_pieces, next_arc, side_pieces, line_pieces}
use Rattle.species_notation.proofs.Cutting.{IsSign, PiecesFine, begins_apart, parts_back}
use Rattle.species_notation.proofs.PieceParts.{solids_line}
use Rattle.species_notation.proofs.Fine.{Each}

-- ---- fine in front of what is apart, and in front of anything

abbrev pub on : List Part → List Piece → List Piece
on ps qs = map Solid ps ++ qs

abbrev pub Chunk : List Part → Type 0
Chunk ps = (qs : List Piece) → PiecesFine qs → begins_apart qs ≡ true → PiecesFine (on ps qs)

abbrev Free : List Part → Type 0
Free ps = (qs : List Piece) → PiecesFine qs → PiecesFine (on ps qs)

-- it is apart from what stands before it, too
abbrev pub Tail : List Part → Type 0
Tail ps = (qs : List Piece) → PiecesFine qs → begins_apart qs ≡ true → PiecesFine (on ps qs) × (begins_apart (on ps qs) ≡ true)

on_append : (a b : List Part) (qs : List Piece) → on (a ++ b) qs ≡ on a (on b qs)
on_append [] b qs = refl
on_append (p ∷ a) b qs = ap (λ l. Solid p ∷ l) (on_append a b qs)

pub chunk_tail : (a b : List Part) → Chunk a → Tail b → Chunk (a ++ b)
chunk_tail a b ca tb qs f e = let t = tb qs f e in subst PiecesFine (sym (on_append a b qs)) (ca (on b qs) t.0 t.1)

tail_tail : (a b : List Part) → Tail a → Tail b → Tail (a ++ b)
tail_tail a b ta tb qs f e =
    let t = tb qs f e in
    let u = ta (on b qs) t.0 t.1 in
    (subst PiecesFine (sym (on_append a b qs)) u.0, ap begins_apart (on_append a b qs) ∙ u.1)

free_chunk : (a b : List Part) → Free a → Chunk b → Chunk (a ++ b)
free_chunk a b fa cb qs f e = subst PiecesFine (sym (on_append a b qs)) (fa (on b qs) (cb qs f e))

pub sign_tail : (n : ℕ) (b : List Part) → IsSign n → Chunk b → Tail (part.Sign n ∷ b)
sign_tail n b s c qs f e = (((s, λ h. cc), c qs f e), refl)

pub sign_chunk : (n : ℕ) (b : List Part) → IsSign n → Chunk b → Chunk (part.Sign n ∷ b)
sign_chunk n b s c qs f e = ((s, λ h. cc), c qs f e)

pub no_parts : Chunk []
no_parts qs f e = f

word_chunk : (w : List ℕ) → is_name w ≡ true → Chunk (part.Name w ∷ [])
word_chunk w h qs f e = ((h, λ k. e), f)

pub number_chunk : (n : ℕ) → n ≤ most → Chunk (part.Number n ∷ [])
number_chunk n h qs f e = ((h, λ k. e), f)

number_then : (n : ℕ) (b : List Part) → n ≤ most → Tail b → Chunk (part.Number n ∷ b)
number_then n b h t qs f e = let u = t qs f e in ((h, λ k. u.1), u.0)

pub word_then : (w : List ℕ) (b : List Part) → is_name w ≡ true → Tail b → Chunk (part.Name w ∷ b)
word_then w b h t qs f e = let u = t qs f e in ((h, λ k. u.1), u.0)

-- ---- what can be written

abbrev pub NameFine : Option (List ℕ) → Type 0
NameFine None = Unit {0}
NameFine (Some w) = is_name w ≡ true

abbrev pub SummandFine : Summand → Type 0
SummandFine s = (s.number ≤ most) × NameFine s.name

abbrev pub RawFormFine : RawForm → Type 0
RawFormFine f = SummandFine f.first × Each SummandFine f.more

abbrev pub StrideFine : Option ℕ → Type 0
StrideFine None = Unit {0}
StrideFine (Some n) = n ≤ most

abbrev pub OffsetFine : RawOffset → Type 0
OffsetFine None = Unit {0}
OffsetFine (Some s) = (s.low.size ≤ most) × (s.high.size ≤ most) × StrideFine s.stride

abbrev pub RangeFine : RawRange → Type 0
RangeFine r = RawFormFine r.low × RawFormFine r.high

abbrev pub OffsetsFine : Option (List RawOffset) → Type 0
OffsetsFine None = Unit {0}
OffsetsFine (Some l) = Each OffsetFine l

pub record RawArcFine (a : RawArc) : Type 0 where
  pub name : is_name a.name ≡ true
  pub ranges : Each RangeFine a.ranges
  pub offsets : OffsetsFine a.offsets
  pub forms : Each RawFormFine a.forms

-- ---- each is a chunk

minus_free : (b : Bool) → Free (minus b)
minus_free true qs f = ((IsSign.minus, λ h. cc), f)
minus_free false qs f = f

product_chunk : (n : ℕ) (o : Option (List ℕ)) → n ≤ most → NameFine o → Chunk (product_parts n o)
product_chunk n None h k = number_chunk n h
product_chunk n (Some w) h k = go (nat_eq n 1)
  where
    go : (b : Bool) → Chunk (if b then part.Name w ∷ [] else part.Number n ∷ part.Sign 42 ∷ part.Name w ∷ [])
    go true = word_chunk w k
    go false = number_then n (part.Sign 42 ∷ part.Name w ∷ []) h (sign_tail 42 (part.Name w ∷ []) IsSign.star (word_chunk w k))

next_with : (b : Bool) (n : ℕ) (o : Option (List ℕ)) → n ≤ most → NameFine o → Tail (next_parts (record { negative = b; number = n; name = o }))
next_with true n o h k = sign_tail 45 (product_parts n o) IsSign.minus (product_chunk n o h k)
next_with false n o h k = sign_tail 43 (product_parts n o) IsSign.plus (product_chunk n o h k)

next_tail : (s : Summand) → SummandFine s → Tail (next_parts s)
next_tail s h = next_with s.negative s.number s.name h.0 h.1

tails : {A : Type 0} (P : A → Type 0) (parts : A → List Part) → ((x : A) → P x → Tail (parts x)) → (xs : List A) → Each P xs → Tail (flat_map parts xs)
tails P parts k [] e = λ qs f b. (f, b)
tails P parts k (x ∷ xs) e = tail_tail (parts x) (flat_map parts xs) (k x e.0) (tails P parts k xs e.1)

form_chunk : (f : RawForm) → RawFormFine f → Chunk (form_parts f)
form_chunk f h =
    chunk_tail (first_parts f.first) (flat_map next_parts f.more)
    (free_chunk (minus f.first.negative) (product_parts f.first.number f.first.name) (minus_free f.first.negative) (product_chunk f.first.number f.first.name h.0.0 h.0.1))
    (tails SummandFine next_parts next_tail f.more h.1)

pub list_chunk : {A : Type 0} (n : ℕ) (P : A → Type 0) (parts : A → List Part) → IsSign n → ((x : A) → P x → Chunk (parts x)) → (l : List A) → Each P l → Chunk (listed_parts n parts l)
list_chunk n P parts s k [] h = no_parts
list_chunk n P parts s k (x ∷ xs) h =
    chunk_tail (parts x) (flat_map (behind n parts) xs) (k x h.0) (tails P (behind n parts) (λ x p. sign_tail n (parts x) s (k x p)) xs h.1)

int_chunk : (i : RawInt) → i.size ≤ most → Chunk (int_parts i)
int_chunk i h = free_chunk (minus i.negative) (part.Number i.size ∷ []) (minus_free i.negative) (number_chunk i.size h)

stride_tail : (t : Option ℕ) → StrideFine t → Tail (stride_parts t)
stride_tail None h = λ qs f e. (f, e)
stride_tail (Some n) h = sign_tail 58 (part.Number n ∷ []) IsSign.colon (number_chunk n h)

offset_chunk : (o : RawOffset) → OffsetFine o → Chunk (offset_parts o)
offset_chunk None h = sign_chunk 45 [] IsSign.minus no_parts
offset_chunk (Some s) h =
    chunk_tail (int_parts s.low) (part.Sign 58 ∷ (int_parts s.high ++ stride_parts s.stride)) (int_chunk s.low h.0)
    (sign_tail 58 (int_parts s.high ++ stride_parts s.stride) IsSign.colon (chunk_tail (int_parts s.high) (stride_parts s.stride) (int_chunk s.high h.1) (stride_tail s.stride h.2)))

pub range_chunk : (r : RawRange) → RangeFine r → Chunk (range_parts r)
range_chunk r h = chunk_tail (form_parts r.low) (part.Sign 58 ∷ form_parts r.high) (form_chunk r.low h.0) (sign_tail 58 (form_parts r.high) IsSign.colon (form_chunk r.high h.1))

pub offsets_tail : (o : Option (List RawOffset)) → OffsetsFine o → Tail (offsets_parts o)
offsets_tail None h = λ qs f e. (f, e)
offsets_tail (Some l) h =
    sign_tail 40 (listed_parts 44 offset_parts l ++ part.Sign 41 ∷ []) IsSign.paren
    (chunk_tail (listed_parts 44 offset_parts l) (part.Sign 41 ∷ []) (list_chunk 44 OffsetFine offset_parts IsSign.comma offset_chunk l h) (sign_tail 41 [] IsSign.close no_parts))

pub word_name : (w : Word) → is_name (word_text w) ≡ true
word_name word.Element = refl
word_name word.Neighbourhood = refl
word_name word.Chunk = refl
word_name word.Full = refl
word_name word.Shared = refl

pub mark_name : (b : Bool) → is_name (mark_text b) ≡ true
mark_name true = refl
mark_name false = refl

front_chunk : (a : RawArc) → RawArcFine a → Chunk (arc_front a)
front_chunk a h =
    word_then a.name (part.Sign 91 ∷ inner a) h.name
    (sign_tail 91 (inner a) IsSign.bracket
    (chunk_tail (listed_parts 44 range_parts a.ranges) (part.Sign 93 ∷ part.Sign 124 ∷ part.Name (word_text a.word) ∷ offsets_parts a.offsets)
    (list_chunk 44 RangeFine range_parts IsSign.comma range_chunk a.ranges h.ranges)
    (sign_tail 93 (part.Sign 124 ∷ part.Name (word_text a.word) ∷ offsets_parts a.offsets) IsSign.shut
    (sign_chunk 124 (part.Name (word_text a.word) ∷ offsets_parts a.offsets) IsSign.bar
    (word_then (word_text a.word) (offsets_parts a.offsets) (word_name a.word) (offsets_tail a.offsets h.offsets))))))
  where
    inner : RawArc → List Part
    inner a = listed_parts 44 range_parts a.ranges ++ part.Sign 93 ∷ part.Sign 124 ∷ part.Name (word_text a.word) ∷ offsets_parts a.offsets

pub at_chunk : (a : RawArc) → RawArcFine a → Chunk (arc_forms a)
at_chunk a h =
    sign_chunk 40 (listed_parts 44 form_parts a.forms ++ part.Sign 41 ∷ []) IsSign.paren
    (chunk_tail (listed_parts 44 form_parts a.forms) (part.Sign 41 ∷ []) (list_chunk 44 RawFormFine form_parts IsSign.comma form_chunk a.forms h.forms) (sign_tail 41 [] IsSign.close no_parts))

-- ---- pieces of arcs and lines

abbrev Pieces : List Piece → Type 0
Pieces ps = (qs : List Piece) → PiecesFine qs → begins_apart qs ≡ true → PiecesFine (ps ++ qs)

arc_fine : (a : RawArc) → RawArcFine a → Pieces (arc_pieces a)
arc_fine a h qs f e =
    let mark : List Piece = Space ∷ Solid (part.Name (mark_text a.exact)) ∷ qs in
    let mark_fine : PiecesFine mark = (tt, ((mark_name a.exact, λ k. e), f)) in
    let back : List Piece = on (arc_forms a) mark in
    let back_fine : PiecesFine back = at_chunk a h mark mark_fine refl in
    let tail : List Piece = Space ∷ Solid (part.Name (codes "at")) ∷ Space ∷ back in
    let tail_fine : PiecesFine tail = (tt, ((refl, λ k. refl), (tt, back_fine))) in
    let near : List Piece = Space ∷ Solid (part.Name (mark_text a.exact)) ∷ [] in
    subst PiecesFine
    (sym (append_assoc (map Solid (arc_front a)) (spaced (part.Name (codes "at")) ++ (map Solid (arc_forms a) ++ near)) qs
    ∙ ap (λ l. map Solid (arc_front a) ++ Space ∷ Solid (part.Name (codes "at")) ∷ Space ∷ l) (append_assoc (map Solid (arc_forms a)) near qs)))
    (front_chunk a h tail tail_fine refl)

more_fine : (az : List RawArc) → Each RawArcFine az → (qs : List Piece) → PiecesFine qs → begins_apart qs ≡ true → PiecesFine (flat_map next_arc az ++ qs) × (begins_apart (flat_map next_arc az ++ qs) ≡ true)
more_fine [] h qs f e = (f, e)
more_fine (a ∷ az) h qs f e =
    let rest = more_fine az h.1 qs f e in
    ((tt, ((IsSign.caret, λ k. cc), (tt, subst PiecesFine (sym (append_assoc (arc_pieces a) (flat_map next_arc az) qs)) (arc_fine a h.0 (flat_map next_arc az ++ qs) rest.0 rest.1)))), refl)

side_fine : (l : List RawArc) → Each RawArcFine l → Pieces (side_pieces l)
side_fine [] h qs f e = ((refl, λ k. e), f)
side_fine (a ∷ az) h qs f e =
    let rest = more_fine az h.1 qs f e in
    subst PiecesFine (sym (append_assoc (arc_pieces a) (flat_map next_arc az) qs)) (arc_fine a h.0 (flat_map next_arc az ++ qs) rest.0 rest.1)

sides_fine : (l r : List RawArc) → Each RawArcFine l → Each RawArcFine r → PiecesFine (line_pieces (line.Sides l r))
sides_fine l r h k =
    let right : PiecesFine (side_pieces r) = subst PiecesFine (append-nil (side_pieces r)) (side_fine r k [] tt refl) in
    side_fine l h (spaced part.Arrow ++ side_pieces r) (tt, ((tt, λ e. cc), (tt, right))) refl

-- The text of a line of arcs has the line's parts.
pub text_back : (l r : List RawArc) → Each RawArcFine l → Each RawArcFine r → parts_of (text_of (line_pieces (line.Sides l r))) ≡ Some (line_parts (line.Sides l r))
text_back l r h k = parts_back (line_pieces (line.Sides l r)) (sides_fine l r h k) ∙ ap Some (solids_line (line.Sides l r))
