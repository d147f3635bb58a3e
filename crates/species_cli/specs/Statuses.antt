-- The statuses of the program.
use Rattle.std.specs.Prelude.{ℕ}

-- the answer was written
abbrev pub status_answered : ℕ
status_answered = 0

-- the input is refused
abbrev pub status_refused : ℕ
status_refused = 1

-- the words ask for no command
abbrev pub status_usage : ℕ
status_usage = 2

-- the run of the program is undefined
abbrev pub status_undefined : ℕ
status_undefined = 3

-- a read failed
abbrev pub status_read_fault : ℕ
status_read_fault = 4

-- a write failed
abbrev pub status_write_fault : ℕ
status_write_fault = 5

-- memory ran out
abbrev pub status_memory : ℕ
status_memory = 6
