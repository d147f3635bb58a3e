-- The limits on the text of a program. Those on its unit stand in `Scope.Limits`.
use Rattle.std.specs.Prelude.{ℕ}

-- the bytes of a program
abbrev pub most_bytes : ℕ
most_bytes = 4194304

-- the load of its tokens
abbrev pub most_load : ℕ
most_load = 2000
