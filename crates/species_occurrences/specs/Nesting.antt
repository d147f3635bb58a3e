-- The loops of nests and units by the definitions of the scope and by those of runs, which agree.
use Rattle.std.specs.Prelude.{◌≡◌, ℕ, suc, ◌-◌, ◌≤◌, List, map, take, length, false}
use Rattle.std.specs.List.{Contains}
use Rattle.species_ast.specs.declared.tree.Loop.{Loop, out-Loop}
use Rattle.species_ast.specs.declared.tree.Mark.TheVariants.{Parallel}
use Rattle.species_ast.specs.declared.tree.Schedule.{Schedule}
use Rattle.species_ast.specs.declared.tree.Unit.{Unit as Program}
use Rattle.species_ast.specs.Accesses.{Joins, Cells}
use Rattle.species_ast.specs.Scope.Loops.{placed_loops}
use Rattle.species_ast.specs.Scope.Nests.{Bounds, front_of, is_unfit}
use Rattle.species_ast.specs.Scope.WellMade.{IsWellMade}
use Rattle.species_nests.specs.Arrivals.{Running, ComesTo}
use Rattle.species_nests.specs.Nests.{Placed, nest_of, loops_in}

-- ---- perfect nesting

abbrev pub bounds_in_nest : Placed → Bounds
bounds_in_nest p = record { start = (out-Loop p.loop).start; limit = (out-Loop p.loop).limit }

-- The loops of a nest are the first of those that are perfectly nested there: one, and so many below it, or all where there are fewer.
abbrev pub NestsAreFronts : Type 0
NestsAreFronts = (d : ℕ) (l : Loop) (at : List ℕ) → map bounds_in_nest (nest_of d l at).loops ≡ take (suc d) (front_of l)

-- So a nest with a mark that fits has as many loops as the mark is deep.
abbrev pub FittingNestsAreDeep : Type 0
FittingNestsAreDeep = (level depth : ℕ) (schedule : Schedule) (l : Loop) (at : List ℕ) → 1 ≤ depth → is_unfit level (Parallel depth schedule) (front_of l) ≡ false
    → length (nest_of (depth - 1) l at).loops ≡ depth

-- ---- the loops of a unit

-- The walk that says where loops stand comes to the loops of the text, each once, in its order.
abbrev pub PlacedLoopsAreLoops : Type 0
PlacedLoopsAreLoops = (u : Program) → map (λ x. x.head) (placed_loops u) ≡ loops_in u.body

-- A run comes to loops of the text alone.
abbrev pub RunningsAreLoops : Type 0
RunningsAreLoops = (join : Joins) (u : Program) (m : Cells) (r : Running) → ComesTo join u m r → Contains (loops_in u.body) r.loop

-- In a well made unit each marked nest has as many loops as its mark is deep ..
abbrev pub MarkedNestsAreDeep : Type 0
MarkedNestsAreDeep = (u : Program) (l : Loop) (depth : ℕ) (schedule : Schedule) (at : List ℕ) → IsWellMade u → Contains (loops_in u.body) l
    → (out-Loop l).mark ≡ Parallel depth schedule → length (nest_of (depth - 1) l at).loops ≡ depth

-- .. also where a run comes to it.
abbrev pub MarkedRunningsAreDeep : Type 0
MarkedRunningsAreDeep = (join : Joins) (u : Program) (m : Cells) (r : Running) (depth : ℕ) (schedule : Schedule) → IsWellMade u → ComesTo join u m r
    → (out-Loop r.loop).mark ≡ Parallel depth schedule → length (nest_of (depth - 1) r.loop r.at).loops ≡ depth
