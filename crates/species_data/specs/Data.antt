-- The arrays that data says, and which place of other texts is refused.
use Rattle.std.specs.Prelude.{ℕ, zero, suc, ◌+◌, Bool, true, false, if◌then◌else◌, List, [], ◌∷◌, length, replicate, set, get_or, slice_get, bytes_eq, Option, Some, None, Result, Ok, Err}
use Rattle.std.specs.List.{position_from}
use Rattle.species_decimal.specs.Words.{Word, words_at}
use Rattle.species_ast.specs.declared.tree.Array.{Array}
use Rattle.species_ast.specs.declared.tree.Kind.{Kind}
use Rattle.species_ast.specs.declared.tree.Value.{Value}
use Rattle.species_ast.specs.Accesses.{Cells}
use Rattle.species_ast.specs.Evaluation.{product}
use Rattle.species_ast.specs.Run.{zeros_of}
use Rattle.species_data.specs.Elements.{element_of}
use Rattle.species_data.specs.Lines.{is_gap, Line, lines_at}

-- ---- one row

-- an element, at a place, before those of the words behind it
abbrev pub then_values : Option Value → ℕ → Result (List Value) ℕ → Result (List Value) ℕ
then_values None place behind = Err place
then_values (Some v) place (Ok vs) = Ok (v ∷ vs)
then_values (Some v) place (Err other) = Err other

-- So many elements of a kind, as words. Refused are the first word that is none, a word too many, and too few words at
-- the end of the line.
abbrev pub values_of : Kind → ℕ → ℕ → List Word → Result (List Value) ℕ
values_of k end zero [] = Ok []
values_of k end zero (w ∷ ws) = Err w.place
values_of k end (suc left) [] = Err end
values_of k end (suc left) (w ∷ ws) = then_values (element_of k w.text) w.place (values_of k end left ws)

-- the arrays where the row of one is replaced
abbrev pub given_row : Cells → ℕ → Result (List Value) ℕ → Result Cells ℕ
given_row m a (Ok vs) = Ok (set m a vs)
given_row m a (Err place) = Err place

-- ---- one line

-- what was read so far: the arrays, and for each whether its line stood there
pub record Reading : Type 0 where
  pub arrays : Cells
  pub stood : List Bool

-- the number of the first array of this name
abbrev pub number_named : List Array → List ℕ → Option ℕ
number_named arrays name = position_from (λ a. bytes_eq a.name name) 0 arrays

abbrev pub has_stood : Reading → ℕ → Bool
has_stood r a = get_or r.stood a true

abbrev pub after_row : Reading → ℕ → Result Cells ℕ → Result Reading ℕ
after_row r a (Ok m) = Ok (record { arrays = m; stood = set r.stood a true })
after_row r a (Err place) = Err place

abbrev pub row_of : Reading → Word → List Word → ℕ → ℕ → Option Array → Result Reading ℕ
row_of r name words end a None = Err name.place
row_of r name words end a (Some x) =
    if has_stood r a then Err name.place else after_row r a (given_row r.arrays a (values_of x.kind end (product x.dims) words))

abbrev pub row_at : List Array → Reading → Word → List Word → ℕ → Option ℕ → Result Reading ℕ
row_at arrays r name words end None = Err name.place
row_at arrays r name words end (Some a) = row_of r name words end a (slice_get arrays a)

-- a line of a name and elements: refused is a name that is unknown or stood before
abbrev pub row_read : List Array → Reading → Word → List Word → ℕ → Result Reading ℕ
row_read arrays r name words end = row_at arrays r name words end (number_named arrays name.text)

abbrev pub words_read : List Array → Reading → List Word → ℕ → Result Reading ℕ
words_read arrays r [] end = Ok r
words_read arrays r (name ∷ words) end = row_read arrays r name words end

abbrev pub line_read : List Array → Reading → Line → Result Reading ℕ
line_read arrays r l = words_read arrays r (words_at is_gap l.place l.text) (l.place + length l.text)

-- ---- all lines

abbrev pub then_lines : Result Reading ℕ → (Reading → Result Reading ℕ) → Result Reading ℕ
then_lines (Ok r) next = next r
then_lines (Err place) next = Err place

abbrev pub lines_read : List Array → Reading → List Line → Result Reading ℕ
lines_read arrays r [] = Ok r
lines_read arrays r (l ∷ ls) = then_lines (line_read arrays r l) (λ s. lines_read arrays s ls)

-- before the first line
abbrev pub none_yet : List Array → Reading
none_yet arrays = record { arrays = zeros_of arrays; stood = replicate (length arrays) false }

abbrev pub arrays_of : Result Reading ℕ → Result Cells ℕ
arrays_of (Ok r) = Ok r.arrays
arrays_of (Err place) = Err place

-- the arrays that a text says which begins at this place; an array without a line is zeros
abbrev pub data_at : List Array → ℕ → List ℕ → Result Cells ℕ
data_at arrays place text = arrays_of (lines_read arrays (none_yet arrays) (lines_at place text))
