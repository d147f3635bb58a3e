-- What is gathered in each array: a list of sorts names it by the array's number.
use Rattle.std.specs.Prelude.{◌≡◌, ℕ, List, Bool, true, slice_get, unwrap_or}
use Rattle.species_ast.specs.declared.tree.Kind.{Kind}
use Rattle.species_ast.specs.declared.tree.Unit.{Unit as Program}
use Rattle.species_ast.specs.declared.tree.Value.{Value}
use Rattle.species_ast.specs.Accesses.{Joins, Cells, Ended}
use Rattle.species_ast.specs.Evaluation.{Frame}
use Rattle.species_ast.specs.Run.{Takes, source_run}
use Rattle.species_ast.specs.Scope.WellMade.{IsWellMade}
use Rattle.species_joins.specs.declared.sort.Sort.{Sort}
use Rattle.species_joins.specs.declared.sort.Sort.TheVariants as sort
use Rattle.species_joins.specs.Sorts.{joined_of, takes_kind}
use Rattle.species_runs.specs.Values.{IsOf, KeepsValues}
use Rattle.bones_meaning.specs.Courses.{course_of}
use Rattle.bones_meaning.specs.Gatherings.{Gatherings}
use Rattle.bones_commute.specs.Orderly.{IsOrderly, EveryPlayEnds, CountsRanks}
use Rattle.bones_commute.specs.Trades.{Trades}

-- ---- lists of sorts

-- an array that is not named takes sums
abbrev pub sort_in : List Sort → ℕ → Sort
sort_in sorts a = unwrap_or (slice_get sorts a) sort.Sum

abbrev pub joins_of : List Sort → Joins
joins_of sorts a = joined_of (sort_in sorts a)

abbrev pub takes_of : List Sort → Takes
takes_of sorts a = takes_kind (sort_in sorts a)

-- the same in all nests
abbrev pub gatherings_of : List Sort → Gatherings
gatherings_of sorts at = record { join = joins_of sorts; takes = takes_of sorts }

-- ---- laws

-- a join of values of the kinds that it takes: it gives a value of the kind, and the order of what is joined does not matter
pub record IsGather (taken : Kind → Bool) (join : Value → Value → Value) : Type 0 where
  pub closed : (k : Kind) (c v : Value) → taken k ≡ true → IsOf k c → IsOf k v → IsOf k (join c v)
  pub swaps : (k : Kind) (c v : Value) → taken k ≡ true → IsOf k c → IsOf k v → join c v ≡ join v c
  pub groups : (k : Kind) (c v w : Value) → taken k ≡ true → IsOf k c → IsOf k v → IsOf k w → join (join c v) w ≡ join c (join v w)

abbrev pub SortsGather : Type 0
SortsGather = (s : Sort) → IsGather (takes_kind s) (joined_of s)

abbrev pub SortsTrade : Type 0
SortsTrade = (sorts : List Sort) → Trades (joins_of sorts)

abbrev pub SortsKeepValues : Type 0
SortsKeepValues = (sorts : List Sort) → KeepsValues (joins_of sorts)

-- Whatever the sorts are, every play of an orderly unit ends in the arrays of its run.
abbrev pub SortedUnitsPlay : Type 0
SortedUnitsPlay = (sorts : List Sort) (u : Program) (m : Cells) (f : Frame) (last : Cells) → IsWellMade u → IsOrderly (joins_of sorts) (gatherings_of sorts) u m
    → source_run (joins_of sorts) u m ≡ Ended f last → EveryPlayEnds (joins_of sorts) (course_of (gatherings_of sorts) u) m last × CountsRanks (joins_of sorts) (gatherings_of sorts) u m
