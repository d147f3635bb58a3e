-- Bytes that a source or a sink tells, and counts of faults.
use Rattle.std.specs.Prelude.{◌≡◌, ◌⊎◌, ℕ, ◌+◌, ◌-◌, ◌^◌, ◌≤◌, ◌<◌, min, List, [], ◌++◌, length, Option, Some, None}

-- the number after n, where no number passes 2^64 - 1
abbrev pub next_number : ℕ → ℕ
next_number n = min (n + 1) (2 ^ 64 - 1)

-- a count rose, or stands at its last value
abbrev pub Rose : ℕ → ℕ → Type 0
Rose old new = (old < new) ⊎ (2 ^ 64 - 1 ≤ new)

-- these bytes, then what is told: what was left before they were taken
abbrev pub before : List ℕ → Option (List ℕ) → Option (List ℕ)
before bytes None = None
before bytes (Some rest) = Some (bytes ++ rest)

-- what is told, then these bytes: what a sink has taken once it took them too
abbrev pub then_bytes : Option (List ℕ) → List ℕ → Option (List ℕ)
then_bytes None bytes = None
then_bytes (Some front) bytes = Some (front ++ bytes)

-- no byte is left, where the source tells it
abbrev pub AtEnd : Option (List ℕ) → Type 0
AtEnd None = Unit {0}
AtEnd (Some rest) = rest ≡ []

-- more than `limit` bytes, where they are told
abbrev pub IsLonger : ℕ → Option (List ℕ) → Type 0
IsLonger limit None = Unit {0}
IsLonger limit (Some bytes) = limit < length bytes

-- the source gave at most this many bytes
abbrev pub GaveAtMost : ℕ → Option (List ℕ) → Option (List ℕ) → Type 0
GaveAtMost most old new = (front : List ℕ) × (length front ≤ most) × (old ≡ before front new)

-- the source gave exactly this many bytes
abbrev pub GaveCount : ℕ → Option (List ℕ) → Option (List ℕ) → Type 0
GaveCount count old new = (front : List ℕ) × (length front ≡ count) × (old ≡ before front new)

-- the sink took the first of these bytes, perhaps none, and not all
abbrev pub TookPart : Option (List ℕ) → Option (List ℕ) → List ℕ → Type 0
TookPart old new bytes = (front : List ℕ) × (back : List ℕ) × (bytes ≡ front ++ back) × (0 < length back) × (new ≡ then_bytes old front)
