-- The program that `drill` compiles: a row of nests of six shapes, in canonical text.
use Rattle.std.specs.Prelude.{ℕ, zero, suc, ◌+◌, ◌*◌, ◌/◌, ◌%◌, ◌^◌, List, [], ◌∷◌, ◌++◌, codes, decimal, slice_index_or}

-- ---- the numbers: a linear congruential generator

abbrev pub next : ℕ → ℕ
next x = (x * 1664525 + 1013904223) % 2 ^ 32

-- which of the six shapes a number picks, by its upper half
abbrev pub shape_of : ℕ → ℕ
shape_of x = x / 65536 % 6

-- and the constant in it
abbrev pub constant_of : ℕ → ℕ
constant_of x = x / 65536 / 6 % 64

-- ---- the nests

-- what stands before the one statement of a loop with this header
abbrev pub opened : List ℕ → List ℕ
opened header = codes "    " ++ (header ++ codes " {\n        ")

abbrev pub loop : List ℕ → List ℕ → List ℕ
loop header statement = opened header ++ (statement ++ codes "\n    }\n")

abbrev pub whole : List ℕ
whole = codes "for (int i = 0; i < 1024; i++)"

abbrev pub shifted : ℕ → List ℕ
shifted c = opened whole ++ (codes "B[i] = A[i + " ++ (decimal c ++ codes "];\n    }\n"))

abbrev pub square : ℕ → List ℕ
square c =
    codes "    for (int i = 0; i < 64; i++) {\n        for (int j = 0; j < 64; j++) {\n            M[i][j] = M[i][j] + "
    ++ (decimal c ++ codes ";\n        }\n    }\n")

-- the six shapes with this constant
abbrev pub shapes : ℕ → List (List ℕ)
shapes c =
    shifted c
    ∷ loop whole (codes "A[i + 1] = A[i];")
    ∷ loop (codes "for (int i = 1; i < 1023; i++)") (codes "B[i] = A[i - 1] + A[i] + A[i + 1];")
    ∷ loop whole (codes "H[A[i] & 255] += 1;")
    ∷ loop whole (codes "A[2 * i] = A[2 * i + 1];")
    ∷ square c
    ∷ []

-- the nest that a number picks
abbrev pub nest_text : ℕ → List ℕ
nest_text x = slice_index_or (shapes (constant_of x)) (shape_of x) []

-- so many nests, by the numbers behind this one
abbrev pub nests_text : ℕ → ℕ → List ℕ
nests_text zero x = []
nests_text (suc n) x = nest_text (next x) ++ nests_text n (next x)

abbrev pub front : List ℕ
front = codes "int A[4096];\nint B[4096];\nint M[64][64];\nunsigned H[256];\nvoid drill(void) {\n"

unfoldable pub program_text : ℕ → ℕ → List ℕ
program_text nests from = front ++ (nests_text nests from ++ codes "}\n")
