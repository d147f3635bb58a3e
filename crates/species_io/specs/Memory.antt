-- What contracts see of a source and of a sink in memory.
use Rattle.std.specs.Prelude.{ℕ, ◌-◌, ◌<◌, ◌≤◌, ◌⊎◌, min, List, length, Contains}

-- the bytes that are left, the most of one call, the calls that fail, the number of the next call,
-- and the faults so far
pub record Supply : Type 0 where
  pub bytes : List ℕ
  pub per_call : ℕ
  pub fails : List ℕ
  pub call : ℕ
  pub faults : ℕ

-- how many bytes the next read gives into a buffer of this size, where it does not fail
abbrev pub given_count : Supply → ℕ → ℕ
given_count s size = min (min size s.per_call) (length s.bytes)

-- the bytes that were taken, the most that are ever taken, the most of one call, the calls that
-- fail, the number of the next call, and the faults so far
pub record Store : Type 0 where
  pub bytes : List ℕ
  pub room : ℕ
  pub per_call : ℕ
  pub fails : List ℕ
  pub call : ℕ
  pub faults : ℕ

-- how many bytes of a piece of this size the next write takes, where it does not fail
abbrev pub taken_count : Store → ℕ → ℕ
taken_count s size = min (min size s.per_call) (s.room - length s.bytes)

-- a write of a piece of this size fails: its call is listed, or no room is left for any byte of it
abbrev pub FailsAt : Store → ℕ → Type 0
FailsAt s size = Contains s.fails s.call ⊎ ((0 < size) × (s.room ≤ length s.bytes))
