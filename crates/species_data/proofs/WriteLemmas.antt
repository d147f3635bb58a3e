-- Rows that are written element by element, and lines row by row.
use Rattle.std.proofs.Common.{◌≡◌, ◌∙◌, ap, sym, refl, ℕ, zero, suc, ◌+◌, ◌<◌, ◌≤◌, List, [], ◌∷◌, ◌++◌, length, take, drop, get_or, append_assoc, append-nil, add-one, drop-cons, take_all, pos, arith}
use Rattle.std.specs.Prelude.{slice_get, unwrap_or, flat_map}
use Rattle.std.proofs.lemmas.List.{drop_all}
use Rattle.species_ast.specs.declared.tree.Array.{Array}
use Rattle.species_ast.specs.declared.tree.Value.{Value}
use Rattle.species_ast.specs.declared.tree.Value.TheVariants.{Int}
use Rattle.species_ast.specs.Accesses.{Cells, cell}
use Rattle.species_ast.specs.Evaluation.{product}
use Rattle.species_ast.specs.Run.{AreArraysOf}
use Rattle.species_meaning.specs.Effects.{element}
use Rattle.species_data.specs.Text.{spaced, row_text, data_text}
use Rattle.species_data.proofs.ArrayLaws.{as_many, got_row, got_item}

-- ---- a row

-- the elements before one, with it
taken : (row : List Value) (at : ℕ) → at < length row → flat_map spaced (take (at + 1) row) ≡ flat_map spaced (take at row) ++ spaced (unwrap_or (slice_get row at) (Int (pos 0)))
taken [] at less = absurd (omega arith)
taken (v ∷ row) zero less = append-nil (spaced v)
taken (v ∷ row) (suc at) less =
    let one : suc at + 1 ≡ suc (at + 1) = omega arith in
    ap (λ n. flat_map spaced (take n (v ∷ row))) one
    ∙ ap (λ t. spaced v ++ t) (taken row at (omega arith))
    ∙ sym (append_assoc (spaced v) (flat_map spaced (take at row)) (spaced (unwrap_or (slice_get row at) (Int (pos 0)))))

cell_in_row : (m : Cells) (a at : ℕ) → at < length (get_or m a []) → cell m (element a at) ≡ unwrap_or (slice_get (get_or m a []) at) (Int (pos 0))
cell_in_row [] a at less = absurd (omega arith)
cell_in_row (row ∷ m) zero at less = refl
cell_in_row (row ∷ m) (suc a) at less = cell_in_row m a at less

pub element_turn : (m : Cells) (a at : ℕ) (name old text grown : List ℕ) → at < length (get_or m a [])
    → text ≡ old ++ (name ++ flat_map spaced (take at (get_or m a []))) → grown ≡ text ++ spaced (cell m (element a at))
    → grown ≡ old ++ (name ++ flat_map spaced (take (at + 1) (get_or m a [])))
element_turn m a at name old text grown less text_is grown_is =
    let so_far = flat_map spaced (take at (get_or m a [])) in
    let v = cell m (element a at) in
    grown_is ∙ ap (λ t. t ++ spaced v) text_is
    ∙ append_assoc old (name ++ so_far) (spaced v)
    ∙ ap (λ t. old ++ t) (append_assoc name so_far (spaced v))
    ∙ ap (λ x. old ++ (name ++ (so_far ++ spaced x))) (cell_in_row m a at less)
    ∙ ap (λ t. old ++ (name ++ t)) (sym (taken (get_or m a []) at less))

pub row_end : (size at : ℕ) (row : List Value) (name old text whole : List ℕ) → length row ≡ size → size ≤ at
    → text ≡ old ++ (name ++ flat_map spaced (take at row)) → whole ≡ text ++ 10 ∷ [] → whole ≡ old ++ row_text name row
row_end size at row name old text whole long ended text_is whole_is =
    let all : take at row ≡ row = take_all at row (omega (arith, long, ended)) in
    whole_is ∙ ap (λ t. t ++ 10 ∷ []) (text_is ∙ ap (λ r. old ++ (name ++ flat_map spaced r)) all)
    ∙ append_assoc old (name ++ flat_map spaced row) (10 ∷ [])
    ∙ ap (λ t. old ++ t) (append_assoc name (flat_map spaced row) (10 ∷ []))

-- ---- all rows

row_turn : (arrays : List Array) (m : Cells) (i : ℕ) (x : Array) (text grown : List ℕ) → i < length arrays → length arrays ≡ length m → x ≡ get_or arrays i x
    → data_text arrays m ≡ text ++ data_text (drop i arrays) (drop i m) → grown ≡ text ++ row_text x.name (get_or m i [])
    → data_text arrays m ≡ grown ++ data_text (drop (i + 1) arrays) (drop (i + 1) m)
row_turn arrays m i x text grown less same is so_far grown_is =
    let here : drop i arrays ≡ x ∷ drop (i + 1) arrays = rw (add-one, drop-cons arrays i x less) (ap (λ y. y ∷ drop (suc i) arrays) (sym is)) in
    let row : drop i m ≡ get_or m i [] ∷ drop (i + 1) m = rw (add-one, drop-cons m i [] (omega (arith, less, same))) refl in
    let rest = data_text (drop (i + 1) arrays) (drop (i + 1) m) in
    so_far ∙ ap (λ l. text ++ data_text l (drop i m)) here ∙ ap (λ rows. text ++ data_text (x ∷ drop (i + 1) arrays) rows) row
    ∙ sym (append_assoc text (row_text x.name (get_or m i [])) rest)
    ∙ ap (λ t. t ++ rest) (sym grown_is)

pub row_written : (arrays : List Array) (m : Cells) (i : ℕ) (x : Array) (text grown : List ℕ) → AreArraysOf arrays m → i < length arrays → x ≡ get_or arrays i x
    → (length (get_or m i []) ≡ product x.dims → grown ≡ text ++ row_text x.name (get_or m i []))
    → data_text arrays m ≡ text ++ data_text (drop i arrays) (drop i m)
    → data_text arrays m ≡ grown ++ data_text (drop (i + 1) arrays) (drop (i + 1) m)
row_written arrays m i x text grown h less is row so_far =
    row_turn arrays m i x text grown less (as_many arrays m h) is so_far (row (got_row arrays m i x h (got_item arrays i x less is)))

pub rows_end : (arrays : List Array) (m : Cells) (i : ℕ) (text : List ℕ) → length arrays ≤ i
    → data_text arrays m ≡ text ++ data_text (drop i arrays) (drop i m) → text ≡ data_text arrays m
rows_end arrays m i text ended so_far =
    sym (so_far ∙ ap (λ l. text ++ data_text l (drop i m)) (drop_all i arrays ended) ∙ append-nil text)
