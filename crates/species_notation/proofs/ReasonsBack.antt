-- The text of a sequential nest is read as no arcs.
use Rattle.std.proofs.Common.{◌≡◌, ◌∙◌, ap, refl, ℕ, ◌≤◌, List, [], Some, true}
use Rattle.std.specs.Prelude.{option_and_then}
use Rattle.species_ast.specs.Names.{is_name}
use Rattle.species_notation.specs.declared.raw.RawLine.{RawLine}
use Rattle.species_notation.specs.declared.raw.RawLine.TheVariants as line
use Rattle.species_notation.specs.declared.given.Names.{Names}
use Rattle.species_notation.specs.Parts.{most, text_of, parts_of}
use Rattle.species_notation.specs.Readers.{raw_line}
use Rattle.species_notation.specs.Meaning.{given_line}
use Rattle.species_notation.specs.Written.{line_pieces}
use Rattle.species_notation.proofs.Cutting.{PiecesFine, parts_back}
use Rattle.species_notation.proofs.PieceParts.{solids_line}
use Rattle.species_notation.proofs.ArcsRead.{IsLineFilled, raw_line_at}

carried_fine : (w : List ℕ) (m n : ℕ) → is_name w ≡ true → m ≤ most → n ≤ most → PiecesFine (line_pieces (line.Carried w m n))
carried_fine w m n h k l = ((refl, λ e. refl), (tt, ((refl, λ e. refl), (tt, ((h, λ e. refl), (tt, ((k, λ e. refl), (tt, ((l, λ e. refl), tt)))))))))

local_fine : (w : List ℕ) → is_name w ≡ true → PiecesFine (line_pieces (line.Local w))
local_fine w h = ((refl, λ e. refl), (tt, ((refl, λ e. refl), (tt, ((h, λ e. refl), tt)))))

read_from : (names : Names) (l : RawLine) → IsLineFilled l → PiecesFine (line_pieces l) → option_and_then (given_line names) (option_and_then raw_line (parts_of (text_of (line_pieces l)))) ≡ given_line names l
read_from names l filled f =
    ap (λ o. option_and_then (given_line names) (option_and_then raw_line o)) (parts_back (line_pieces l) f ∙ ap Some (solids_line l))
    ∙ ap (option_and_then (given_line names)) (raw_line_at l filled)

pub carried_back : (names : Names) (w : List ℕ) (m n : ℕ) → is_name w ≡ true → m ≤ most → n ≤ most
    → option_and_then (given_line names) (option_and_then raw_line (parts_of (text_of (line_pieces (line.Carried w m n))))) ≡ Some (record { arcs = [] })
carried_back names w m n h k l = read_from names (line.Carried w m n) tt (carried_fine w m n h k l)

pub local_back : (names : Names) (w : List ℕ) → is_name w ≡ true
    → option_and_then (given_line names) (option_and_then raw_line (parts_of (text_of (line_pieces (line.Local w))))) ≡ Some (record { arcs = [] })
local_back names w h = read_from names (line.Local w) tt (local_fine w h)
