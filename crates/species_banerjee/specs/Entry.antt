-- The entries of a direction vector.
use Rattle.std.specs.Prelude.{◌≡◌, ℕ, ℤ, ◌<ℤ◌, nat_lt, nat_eq, if◌then◌else◌}
use Rattle.species_linear.specs.declared.loops.Direction.{Direction}
use Rattle.species_linear.specs.declared.loops.LoopRange.{LoopRange}
use Rattle.species_banerjee.specs.declared.pairs.Entry.{Entry}
use Rattle.species_banerjee.specs.declared.pairs.Entry.TheVariants.{Equal, Less, Greater, Any}
use Rattle.species_region.specs.Region.{level_of}

-- The entry of a level: = before the level of the direction, < or > at it, * below.
abbrev pub entry_at : Direction → ℕ → Entry
entry_at at k = if nat_lt k (level_of at) then Equal else (if nat_eq k (level_of at) then (if at.less then Less else Greater) else Any)

-- What an entry asks of the two coordinates.
abbrev pub Relates : Entry → ℤ → ℤ → Type 0
Relates Equal u v = u ≡ v
Relates Less u v = u <ℤ v
Relates Greater u v = v <ℤ u
Relates Any u v = Unit {0}

-- The two iterations stand in the same loop, unless the entry asks nothing.
abbrev pub SharesLoop : Entry → LoopRange → LoopRange → Type 0
SharesLoop Equal r s = r ≡ s
SharesLoop Less r s = r ≡ s
SharesLoop Greater r s = r ≡ s
SharesLoop Any r s = Unit {0}
