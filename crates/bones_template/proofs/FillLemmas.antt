-- Lemmas on templates that are filled.
use Rattle.std.proofs.Common.{◌≡◌, ◌∙◌, ap, sym, subst, refl, ℕ, zero, suc, ◌+◌, ◌-◌, ◌<◌, ◌≤◌, Bool, true, false, if◌then◌else◌, List, [], ◌∷◌, ◌++◌, length, take, drop, take_all, append_assoc, append-nil, Option, Some, None, arith}
use Rattle.std.specs.Int.{from_bool}
use Rattle.std.specs.List.{find}
use Rattle.std.proofs.lemmas.Bool.Decides.{Decides-eqb}
use Rattle.std.proofs.lemmas.List.{drop-drop, drop_all, length-drop}
use Rattle.std.proofs.lemmas.Slice.Eq.{starts_is}
use Rattle.species_ast.specs.Text.Characters.{begins}
use Rattle.bones_template.specs.Filling.{hole_at, left_of, in_place_of, filled_behind, filled_of, count_in, Becomes, at_end, at_hole, at_byte}
use Rattle.bones_template.specs.Holes.{Contents, hole_text, text_for, every_hole}
use Rattle.bones_template.specs.declared.hole.Hole.{Hole}
use Rattle.bones_template.specs.declared.hole.Hole.TheVariants as of_hole

skipped : (f : Contents) (n : ℕ) (text : List ℕ) → filled_behind f n text ≡ filled_of f (drop n text)
skipped f zero text = refl
skipped f (suc n) [] = refl
skipped f (suc n) (b ∷ text) = skipped f n text

rest_of : (h : Hole) (b : ℕ) (text : List ℕ) → drop (length (hole_text h) - 1) text ≡ drop (length (hole_text h)) (b ∷ text)
rest_of of_hole.Indent b text = refl
rest_of of_hole.Species b text = refl
rest_of of_hole.Collapse b text = refl
rest_of of_hole.Loop b text = refl

-- the hole at the front is replaced
hole_front : (f : Contents) (h : Hole) (text : List ℕ) → 0 < length text → hole_at text ≡ Some h
    → filled_of f text ≡ text_for f h ++ filled_of f (drop (length (hole_text h)) text)
hole_front f h [] some is = absurd (omega arith)
hole_front f h (b ∷ text) some is =
    ap (λ o. in_place_of f o b ++ filled_behind f (left_of o) text) is
    ∙ ap (λ rest. text_for f h ++ rest) (skipped f (length (hole_text h) - 1) text ∙ ap (filled_of f) (rest_of h b text))

byte_front : (f : Contents) (b : ℕ) (text : List ℕ) → hole_at (b ∷ text) ≡ None → filled_of f (b ∷ text) ≡ b ∷ filled_of f text
byte_front f b text is = ap (λ o. in_place_of f o b ++ filled_behind f (left_of o) text) is

found : (p : Hole → Bool) (hs : List Hole) (h : Hole) → find p hs ≡ Some h → p h ≡ true
found p [] h is = absurd (cc)
found p (k ∷ hs) h is = go (p k) refl is (found p hs h)
  where
    go : (t : Bool) → p k ≡ t → (if t then Some k else find p hs) ≡ Some h → (find p hs ≡ Some h → p h ≡ true) → p h ≡ true
    go true e f later = let same : k ≡ h = cc in subst (λ x. p x ≡ true) same e
    go false e f later = later f

-- ---- the text becomes what the function gives

found_begins : (h : Hole) (text : List ℕ) → hole_at text ≡ Some h → begins (hole_text h) text ≡ true
found_begins h text is = found (λ k. begins (hole_text k) text) every_hole h is

stands_first : (h : Hole) (text : List ℕ) → hole_at text ≡ Some h → text ≡ hole_text h ++ drop (length (hole_text h)) text
stands_first h text is = (starts_is Decides-eqb text (hole_text h) (begins (hole_text h) text) refl).0 (found_begins h text is)

some_bytes : (h : Hole) → 1 ≤ length (hole_text h)
some_bytes of_hole.Indent = omega arith
some_bytes of_hole.Species = omega arith
some_bytes of_hole.Collapse = omega arith
some_bytes of_hole.Loop = omega arith

becomes_within : (most : ℕ) (f : Contents) (text : List ℕ) → length text ≤ most → Becomes f text (filled_of f text)
becomes_within most f [] within = at_end
becomes_within zero f (b ∷ text) within = absurd (omega arith)
becomes_within (suc most) f (b ∷ text) within = go (hole_at (b ∷ text)) refl (becomes_within most f)
  where
    go : (o : Option Hole) → hole_at (b ∷ text) ≡ o → ((t : List ℕ) → length t ≤ most → Becomes f t (filled_of f t)) → Becomes f (b ∷ text) (filled_of f (b ∷ text))
    go None is shorter =
        subst (Becomes f (b ∷ text)) (sym (byte_front f b text is))
        (at_byte b text (filled_of f text) is (shorter text (omega arith)))
    go (Some h) is shorter =
        let rest = drop (length (hole_text h)) (b ∷ text) in
        let within_most : length rest ≤ most = omega (arith, length-drop (length (hole_text h)) (b ∷ text), some_bytes h) in
        subst (λ t. Becomes f t (filled_of f (b ∷ text))) (sym (stands_first h (b ∷ text) is))
        (subst (Becomes f (hole_text h ++ rest)) (sym (hole_front f h (b ∷ text) (omega arith) is))
        (at_hole h rest (filled_of f rest) (shorter rest within_most)))

pub becomes : (f : Contents) (text filled : List ℕ) → filled ≡ filled_of f text → Becomes f text filled
becomes f text filled is = subst (Becomes f text) (sym is) (becomes_within (length text) f text (omega arith))

-- ---- a turn of the loop

-- how the code writes what is left of the text
seen : (at : ℕ) (text : List ℕ) → take (length text - at) (drop at text) ≡ drop at text
seen at text = take_all (length text - at) (drop at text) (omega (arith, length-drop at text))

pub hole_turn : (f : Contents) (h : Hole) (at : ℕ) (text filled name grown : List ℕ) → at < length text
    → hole_at (take (length text - at) (drop at text)) ≡ Some h → name ≡ hole_text h → grown ≡ filled ++ text_for f h
    → filled ++ filled_of f (drop at text) ≡ grown ++ filled_of f (drop (at + length name) text)
hole_turn f h at text filled name grown lt is name_is grown_is =
    let some : 0 < length (drop at text) = omega (arith, length-drop at text) in
    let here : hole_at (drop at text) ≡ Some h = ap hole_at (sym (seen at text)) ∙ is in
    let behind = filled_of f (drop (at + length (hole_text h)) text) in
    ap (λ t. filled ++ t) (hole_front f h (drop at text) some here ∙ ap (λ t. text_for f h ++ filled_of f t) (drop-drop (length (hole_text h)) at text))
    ∙ sym (append_assoc filled (text_for f h) behind)
    ∙ ap (λ t. t ++ behind) (sym grown_is)
    ∙ ap (λ t. grown ++ filled_of f (drop (at + length t) text)) (sym name_is)

pub all_filled : (f : Contents) (at : ℕ) (text template filled : List ℕ) → length text ≤ at → text ≡ template
    → filled_of f text ≡ filled ++ filled_of f (drop at text) → filled ≡ filled_of f template
all_filled f at text template filled ended same is =
    sym (append-nil filled) ∙ sym (is ∙ ap (λ t. filled ++ filled_of f t) (drop_all at text ended)) ∙ ap (filled_of f) same

-- ---- how often a hole stands there

count_front : (h : Hole) (text : List ℕ) → 0 < length text
    → count_in h text ≡ (if begins (hole_text h) text then 1 else 0) + count_in h (drop 1 text)
count_front h [] some = absurd (omega arith)
count_front h (b ∷ text) some = refl

one_if : (t : Bool) → from_bool t ≡ (if t then 1 else 0)
one_if true = refl
one_if false = refl

pub at_most_one : (t : Bool) → from_bool t ≤ 1
at_most_one true = omega arith
at_most_one false = omega arith

pub count_turn : (h : Hole) (at count : ℕ) (t : Bool) (text : List ℕ) → at < length text
    → count_in h text ≡ count + count_in h (drop at text)
    → t ≡ begins (hole_text h) (take (length text - at) (drop at text))
    → count_in h text ≡ (count + from_bool t) + count_in h (drop (at + 1) text)
count_turn h at count t text lt counted is =
    let some : 0 < length (drop at text) = omega (arith, length-drop at text) in
    let front = count_front h (drop at text) some in
    let first : (if begins (hole_text h) (drop at text) then 1 else 0) ≡ from_bool t =
    sym (one_if t ∙ ap (λ b. if b then 1 else 0) (is ∙ ap (begins (hole_text h)) (seen at text))) in
    let rest : count_in h (drop 1 (drop at text)) ≡ count_in h (drop (at + 1) text) = ap (count_in h) (drop-drop 1 at text) in
    omega (arith, counted, front, first, rest)
