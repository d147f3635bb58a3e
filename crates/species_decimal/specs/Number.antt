-- The number that a word writes.
use Rattle.std.specs.Prelude.{ℕ, ◌&&◌, nat_le, bytes_eq, if◌then◌else◌, List, decimal, Option, Some, None}
use Rattle.std.specs.Str.Parse.{digits_value}

-- the number of at most `most` that is written as this word
abbrev pub number_of : ℕ → List ℕ → Option ℕ
number_of most word =
    let n = digits_value 10 word in
    if nat_le n most && bytes_eq (decimal n) word then Some n else None
