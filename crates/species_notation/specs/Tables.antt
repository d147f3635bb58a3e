-- Sums in a table, by their names.
use Rattle.std.specs.Prelude.{◌≡◌, ℕ, ℤ, if◌then◌else◌, List, [], ◌∷◌, map, Option, Some, None}
use Rattle.std.specs.declared.hash.FoldHasher.{FoldHasher}
use Rattle.std.specs.declared.hash.BuildHasherDefault.{BuildHasherDefault}
use Rattle.indexmap.specs.IndexMap.{IndexMap}
use Rattle.species_notation.specs.Meaning.{fits, Entry, Sums, limited, without}
use denote.Ref.{Bor}

abbrev pub Table : Type 0
Table = IndexMap (Bor (List ℕ)) ℤ (BuildHasherDefault FoldHasher)

abbrev pub entry_seen : Bor (List ℕ) × ℤ → Entry
entry_seen e = (e.0.now, e.1)

abbrev pub entries_seen : Table → List Entry
entries_seen t = map entry_seen t.entries

abbrev pub sums_seen : ℤ → Table → Sums
sums_seen c t = record { constant = c; names = entries_seen t }

-- No sum is too large.
abbrev pub IsLimited : Sums → Type 0
IsLimited s = limited s ≡ Some s

-- the sum, where it fits
abbrev pub fitting : ℤ → Option ℤ
fitting z = if fits z then Some z else None

-- the entries without those of these names
abbrev pub left_after : List (List ℕ) → List Entry → List Entry
left_after [] es = es
left_after (w ∷ ws) es = left_after ws (without w es)
