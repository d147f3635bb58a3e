-- The text of a line of the table of arcs, piece by piece.
use Rattle.std.proofs.Common.{◌≡◌, ◌∙◌, ap, sym, refl, ℕ, List, [], ◌∷◌, ◌++◌, map, append_assoc, append-nil}
use Rattle.std.specs.Prelude.{codes, decimal}
use Rattle.species_arcs.specs.declared.places.ArcDim.{ArcDim}
use Rattle.species_arcs.specs.declared.places.Dir.{Dir}
use Rattle.species_notation.specs.declared.parts.Part.{Part}
use Rattle.species_notation.specs.declared.parts.Part.TheVariants as part
use Rattle.species_notation.specs.declared.raw.RawArc.{RawArc}
use Rattle.species_notation.specs.Parts.{part_text, parts_text, Piece, Solid, Space, piece_text, text_of}
use Rattle.species_notation.specs.Spelled.{listed_parts, form_parts, arc_forms, mark_text}
use Rattle.species_notation.specs.Written.{spaced, dir_text, arc_domain, arc_shape, arc_tail, number_parts, numbers_pieces, sizes_pieces, table_front}
use Rattle.species_notation.proofs.ArcTexts.{text_append, text_solid}
use Rattle.species_notation.proofs.Texts.{parts_append}

pub front_text : (n : ℕ) (d : Dir) (a : RawArc) → text_of (table_front n d a) ≡ decimal n ++ (codes " " ++ (dir_text d ++ (codes " " ++ parts_text (arc_domain a))))
front_text n d a = ap (λ l. decimal n ++ (codes " " ++ (dir_text d ++ (codes " " ++ l)))) (text_solid (arc_domain a))

-- a word, and numbers in brackets behind it
numbers_text : (w : List ℕ) (ns : List ℕ) → text_of (numbers_pieces w ns) ≡ codes " " ++ (w ++ (codes " (" ++ (parts_text (listed_parts 44 number_parts ns) ++ codes ")")))
numbers_text w ns =
    ap (λ l. codes " " ++ (w ++ (codes " " ++ l)))
    (text_solid (part.Sign 40 ∷ (listed_parts 44 number_parts ns ++ part.Sign 41 ∷ [])) ∙ ap (λ l. codes "(" ++ l) (parts_append (listed_parts 44 number_parts ns) (part.Sign 41 ∷ [])))

pub sizes_text : (ds : List ArcDim) → text_of (sizes_pieces ds)
    ≡ codes " elements (" ++ (parts_text (listed_parts 44 number_parts (map (λ d. d.elements) ds)) ++ (codes ") step (" ++ (parts_text (listed_parts 44 number_parts (map (λ d. d.step) ds)) ++ codes ")")))
sizes_text ds =
    let es = map (λ (d : ArcDim). d.elements) ds in
    let ss = map (λ (d : ArcDim). d.step) ds in
    let first : List ℕ = parts_text (listed_parts 44 number_parts es) in
    let second : List ℕ = codes " step (" ++ (parts_text (listed_parts 44 number_parts ss) ++ codes ")") in
    text_append (numbers_pieces (codes "elements") es) (numbers_pieces (codes "step") ss)
    ∙ (λ i. numbers_text (codes "elements") es i ++ numbers_text (codes "step") ss i)
    ∙ ap (λ l. codes " elements (" ++ l) (append_assoc first (codes ")") second)

pub tail_text : (a : RawArc) → text_of (arc_tail a) ≡ parts_text (arc_shape a) ++ (codes " at (" ++ (parts_text (listed_parts 44 form_parts a.forms) ++ (codes ") " ++ mark_text a.exact)))
tail_text a =
    let mark : List Piece = Space ∷ Solid (part.Name (mark_text a.exact)) ∷ [] in
    let forms : List ℕ = parts_text (listed_parts 44 form_parts a.forms) in
    text_append (map Solid (arc_shape a)) (spaced (part.Name (codes "at")) ++ (map Solid (arc_forms a) ++ mark))
    ∙ ap (λ l. l ++ text_of (spaced (part.Name (codes "at")) ++ (map Solid (arc_forms a) ++ mark))) (text_solid (arc_shape a))
    ∙ ap (λ l. parts_text (arc_shape a) ++ (codes " at " ++ l)) (text_append (map Solid (arc_forms a)) mark)
    ∙ ap (λ l. parts_text (arc_shape a) ++ (codes " at " ++ (l ++ text_of mark))) (text_solid (arc_forms a) ∙ ap (λ l. codes "(" ++ l) (parts_append (listed_parts 44 form_parts a.forms) (part.Sign 41 ∷ [])))
    ∙ ap (λ l. parts_text (arc_shape a) ++ (codes " at (" ++ l)) (append_assoc forms (codes ")") (text_of mark))
    ∙ ap (λ l. parts_text (arc_shape a) ++ (codes " at (" ++ (forms ++ (codes ") " ++ l)))) (append-nil (mark_text a.exact))

-- the front, the sizes and the tail behind what was there
pub line_text_of : (old : List ℕ) (front sizes tail : List Piece) → ((old ++ text_of front) ++ text_of sizes) ++ text_of tail ≡ old ++ text_of (front ++ (sizes ++ tail))
line_text_of old front sizes tail =
    ap (λ l. l ++ text_of tail) (append_assoc old (text_of front) (text_of sizes))
    ∙ append_assoc old (text_of front ++ text_of sizes) (text_of tail)
    ∙ ap (λ l. old ++ l) (append_assoc (text_of front) (text_of sizes) (text_of tail)
    ∙ ap (λ l. text_of front ++ l) (sym (text_append sizes tail)) ∙ sym (text_append front (sizes ++ tail)))
