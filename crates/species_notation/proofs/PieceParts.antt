-- The pieces of a line without their spaces are its parts.
use Rattle.std.proofs.Common.{◌≡◌, ◌∙◌, ap, refl, List, [], ◌∷◌, ◌++◌, map}
use Rattle.std.specs.Prelude.{codes}
use Rattle.std.specs.List.{flat_map}
use Rattle.species_notation.specs.declared.parts.Part.{Part}
use Rattle.species_notation.specs.declared.parts.Part.TheVariants as part
use Rattle.species_notation.specs.declared.raw.RawArc.{RawArc}
use Rattle.species_notation.specs.declared.raw.RawLine.{RawLine}
use Rattle.species_notation.specs.declared.raw.RawLine.TheVariants as line
use Rattle.species_notation.specs.Parts.{Piece, Solid, Space, solids}
use Rattle.species_notation.specs.Spelled.{behind, arc_front, arc_forms, arc_parts, mark_text, side_parts, line_parts}
use Rattle.species_notation.specs.Written.{spaced, arc_pieces, next_arc, side_pieces, line_pieces}

pub solids_map : (ps : List Part) → solids (map Solid ps) ≡ ps
solids_map [] = refl
solids_map (p ∷ ps) = ap (λ l. p ∷ l) (solids_map ps)

pub solids_append : (ps qs : List Piece) → solids (ps ++ qs) ≡ solids ps ++ solids qs
solids_append [] qs = refl
solids_append (Solid p ∷ ps) qs = ap (λ l. p ∷ l) (solids_append ps qs)
solids_append (Space ∷ ps) qs = solids_append ps qs

solids_arc : (a : RawArc) → solids (arc_pieces a) ≡ arc_parts a
solids_arc a =
    let tail : List Piece = Space ∷ Solid (part.Name (mark_text a.exact)) ∷ [] in
    let back : List Piece = map Solid (arc_forms a) ++ tail in
    solids_append (map Solid (arc_front a)) (spaced (part.Name (codes "at")) ++ back)
    ∙ ap (λ l. l ++ part.Name (codes "at") ∷ solids back) (solids_map (arc_front a))
    ∙ ap (λ l. arc_front a ++ part.Name (codes "at") ∷ l) (solids_append (map Solid (arc_forms a)) tail ∙ ap (λ l. l ++ part.Name (mark_text a.exact) ∷ []) (solids_map (arc_forms a)))

solids_next : (az : List RawArc) → solids (flat_map next_arc az) ≡ flat_map (behind 94 arc_parts) az
solids_next [] = refl
solids_next (a ∷ az) = ap (λ l. part.Sign 94 ∷ l) (solids_append (arc_pieces a) (flat_map next_arc az) ∙ ap (λ l. l ++ solids (flat_map next_arc az)) (solids_arc a) ∙ ap (λ l. arc_parts a ++ l) (solids_next az))

solids_side : (l : List RawArc) → solids (side_pieces l) ≡ side_parts l
solids_side [] = refl
solids_side (a ∷ az) = solids_append (arc_pieces a) (flat_map next_arc az) ∙ ap (λ l. l ++ solids (flat_map next_arc az)) (solids_arc a) ∙ ap (λ l. arc_parts a ++ l) (solids_next az)

pub solids_line : (l : RawLine) → solids (line_pieces l) ≡ line_parts l
solids_line (line.Carried w m n) = refl
solids_line (line.Local w) = refl
solids_line (line.Sides l r) =
    solids_append (side_pieces l) (spaced (part.Arrow) ++ side_pieces r) ∙ ap (λ z. z ++ part.Arrow ∷ solids (side_pieces r)) (solids_side l) ∙ ap (λ z. side_parts l ++ part.Arrow ∷ z) (solids_side r)
