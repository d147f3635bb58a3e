-- The line that `drill` writes.
use Rattle.std.specs.Prelude.{ℕ, List, ◌++◌, codes, decimal}
use Rattle.species_drill.specs.declared.counts.Counts.{Counts}

-- a count with its name before it
abbrev pub named : List ℕ → ℕ → List ℕ
named name n = name ++ decimal n

abbrev pub summary_line : Counts → List ℕ
summary_line c =
    named (codes "nests ") c.nests
    ++ (named (codes " parallel ") c.parallel
    ++ (named (codes " sequential ") c.sequential
    ++ (named (codes " shared ") c.shared
    ++ (named (codes " joined ") c.joined
    ++ (named (codes " bytes ") c.bytes
    ++ codes "\n")))))
