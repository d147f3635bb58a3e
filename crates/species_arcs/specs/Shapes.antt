-- The word of an arc.
use Rattle.std.specs.Prelude.{pos, ◌-ℤ◌, ◌+ℤ◌, Bool, true, false, ◌&&◌, not, if◌then◌else◌}
use Rattle.std.specs.List.{list_all, list_any}
use Rattle.std.specs.Int.RustNames.{int_lt}
use Rattle.std.specs.Ordering.{int_eq}
use Rattle.species_arcs.specs.declared.places.Arc.{Arc}
use Rattle.species_arcs.specs.declared.places.ArcDim.{ArcDim}
use Rattle.species_arcs.specs.declared.places.Dir.{Dir}
use Rattle.species_arcs.specs.declared.places.Dir.TheVariants.{Read, Write, Add}
use Rattle.species_arcs.specs.declared.shapes.Word.{Word}
use Rattle.species_arcs.specs.declared.shapes.Word.TheVariants.{Element, Neighbourhood, Chunk, Full, Shared}

abbrev pub is_add : Dir → Bool
is_add Read = false
is_add Write = false
is_add Add = true

-- There is one index.
abbrev pub is_single : ArcDim → Bool
is_single d = int_eq d.a d.b

-- Iterations next to each other share indices: from the first index to the last it is at least as far as an iteration moves.
abbrev pub is_overlapping : ArcDim → Bool
is_overlapping d = d.driven && int_lt (pos d.step) ((d.b -ℤ d.a) +ℤ pos 1)

-- The first word that fits.
abbrev pub word_of : Arc → Word
word_of arc =
    if is_add arc.dir then Shared
    else if list_all is_single arc.dims then Element
    else if not (list_any (λ d. d.driven) arc.dims) then Full
    else if list_any is_overlapping arc.dims then Neighbourhood
    else Chunk
