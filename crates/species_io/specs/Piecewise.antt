-- Bytes that were appended to those that something means.
use Rattle.std.specs.Prelude.{◌≡◌, ℕ, ◌+◌, ◌≤◌, List, ◌++◌, length, Option}
use Rattle.species_io.specs.Told.{before}

-- The first bytes of a piece, perhaps none and perhaps all, were appended to `old`, and took room.
abbrev pub AppendedPart : (List ℕ → Type 0) → ℕ → ℕ → List ℕ → List ℕ → Type 0
AppendedPart Means room left old piece =
    (front : List ℕ) × (back : List ℕ) × (piece ≡ front ++ back) × Means (old ++ front) × (left + length front ≡ room)

-- The first bytes that a source had, at most `limit` of them, were appended to `old`, and took room. `rest` is what
-- the source had behind these.
abbrev pub HandedOn : (List ℕ → Type 0) → ℕ → ℕ → ℕ → List ℕ → Option (List ℕ) → Option (List ℕ) → Type 0
HandedOn Means limit room left old had rest =
    (front : List ℕ) × (had ≡ before front rest) × (length front ≤ limit) × Means (old ++ front) × (left + length front ≡ room)
