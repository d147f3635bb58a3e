-- The pragmas of OpenMP that are read (OpenMP 4.5, 2.7.1 and 2.13.6), by the parts behind the word `pragma`.
use Rattle.std.specs.Prelude.{ℕ, Bool, false, not, ◌&&◌, nat_le, if◌then◌else◌, List, [], ◌∷◌, codes, pos, Option, Some, None, option_map, option_and_then}
use Rattle.species_ast.specs.Text.Numbers.{literal_of, or_else}
use Rattle.species_ast.specs.Text.Parts.{Part, is, is_nothing, after_words}
use Rattle.species_ast.specs.declared.tree.Value.{Value}
use Rattle.species_ast.specs.declared.tree.Value.TheVariants as value
use Rattle.species_ast.specs.declared.tree.Schedule.{Schedule}
use Rattle.species_ast.specs.declared.tree.Schedule.TheVariants as schedule
use Rattle.species_ast.specs.declared.token.TokenKind.{TokenKind}
use Rattle.species_ast.specs.declared.token.TokenKind.TheVariants as kind

-- the number of a literal of kind `int`, and 0 for everything else
abbrev pub int_of : Option Value → ℕ
int_of (Some (value.Int (pos n))) = n
int_of _ = 0

-- `static)` and `guided)`
abbrev pub plain_schedule : Part → Option Schedule
plain_schedule word =
    if is word (codes "static") then Some schedule.Static
    else if is word (codes "guided") then Some schedule.Guided
    else None

-- `static, n)` and `dynamic, n)` with an n of at least 1
abbrev pub schedule_by : Part → ℕ → Option Schedule
schedule_by word n =
    if not (nat_le 1 n) then None
    else if is word (codes "static") then Some (schedule.StaticBy n)
    else if is word (codes "dynamic") then Some (schedule.DynamicBy n)
    else None

-- `)` and nothing more
abbrev pub is_closed : List Part → Bool
is_closed [] = false
is_closed (p ∷ ps) = is p (codes ")") && is_nothing ps

-- what stands behind `static,` or `dynamic,`
abbrev pub chunk_of : Part → List Part → Option Schedule
chunk_of word [] = None
chunk_of word (n ∷ ps) = if is_closed ps then schedule_by word (int_of (literal_of n.text)) else None

-- what stands behind `schedule(`, up to the end of the line
abbrev pub in_brackets : List Part → Option Schedule
in_brackets [] = None
in_brackets (word ∷ ps) =
    if is_closed ps then plain_schedule word
    else option_and_then (chunk_of word) (after_words (codes "," ∷ []) ps)

-- the schedule that these parts are, `static` where there are none
abbrev pub schedule_of : List Part → Option Schedule
schedule_of [] = Some schedule.Static
schedule_of (p ∷ ps) = option_and_then in_brackets (after_words (codes "schedule" ∷ codes "(" ∷ []) (p ∷ ps))

-- a depth from 2 to 8, and the parts behind it
abbrev pub deep : ℕ → List Part → Option (ℕ × List Part)
deep depth ps = if nat_le 2 depth && nat_le depth 8 then Some (depth, ps) else None

-- what stands behind `collapse(`: a depth and `)`
abbrev pub depth_in : List Part → Option (ℕ × List Part)
depth_in [] = None
depth_in (n ∷ ps) = option_and_then (deep (int_of (literal_of n.text))) (after_words (codes ")" ∷ []) ps)

-- behind the words `collapse(`, if they stand there; without them the depth is 1
abbrev pub depth_behind : List Part → Option (List Part) → Option (ℕ × List Part)
depth_behind ps None = Some (1, ps)
depth_behind ps (Some others) = depth_in others

-- the depth, and the parts behind it; nothing where `collapse` says none that is read, as `collapse(9)`
abbrev pub depth_of : List Part → Option (ℕ × List Part)
depth_of ps = depth_behind ps (after_words (codes "collapse" ∷ codes "(" ∷ []) ps)

abbrev pub parallel_with : ℕ × List Part → Option TokenKind
parallel_with p = option_map (kind.Parallel p.0) (schedule_of p.1)

-- what stands behind `omp parallel for`
abbrev pub parallel_of : List Part → Option TokenKind
parallel_of ps = option_and_then parallel_with (depth_of ps)

abbrev pub atomic_of : List Part → Option TokenKind
atomic_of ps = if is_nothing ps then Some kind.Atomic else None

-- a pragma of OpenMP that is read, by the parts behind `pragma`
unfoldable pub openmp_of : List Part → Option TokenKind
openmp_of ps =
    or_else (option_and_then parallel_of (after_words (codes "omp" ∷ codes "parallel" ∷ codes "for" ∷ []) ps))
    (option_and_then atomic_of (after_words (codes "omp" ∷ codes "atomic" ∷ codes "update" ∷ []) ps))
