-- What a species line says: each arc with the ends of its dimensions, read from the bytes of the line.
use Rattle.std.specs.Prelude.{ℕ, Bool, true, false, List, ◌++◌, map, Option, Some, None, option_map, option_and_then}
use Rattle.species_arcs.specs.declared.places.Arc.{Arc}
use Rattle.species_grammar.specs.Reader.{both, skip}
use Rattle.species_grammar.specs.Whole.{whole}
use Rattle.species_linear.specs.declared.forms.Form.{Form}
use Rattle.species_notation.specs.Law.{arc_as_given}
use Rattle.species_notation.specs.Meaning.{each_some, given_arc}
use Rattle.species_notation.specs.Parts.{parts_of}
use Rattle.species_notation.specs.Readers.{side, arrow, answered}
use Rattle.species_notation.specs.TableLines.{ends_said}
use Rattle.species_notation.specs.Written.{reads_of, others_of, written_arc}
use Rattle.species_notation.specs.declared.given.GivenArc.{GivenArc}
use Rattle.species_notation.specs.declared.given.Names.{Names}

-- ---- the arcs of a line

-- an arc, and the least and the greatest index of each of its dimensions
pub record SaidArc : Type 0 where
  pub arc : GivenArc
  pub domain : List (Form × Form)

abbrev pub said_with : List (Form × Form) → GivenArc → SaidArc
said_with domain arc = record { arc = arc; domain = domain }

-- The type of what is read of an arc, before sums are made and names are looked up: that of what is written for one.
abbrev pub TypeOf : {A : Type 0} → (Names → Arc → A) → Type 0
TypeOf {A} written = A

abbrev pub ReadArc : Type 0
ReadArc = TypeOf written_arc

-- on the left, and on the right (true) of the arrow; the names in its ends are those of iterators
abbrev pub said_arc : Names → Bool → ReadArc → Option SaidArc
said_arc names right a =
    option_and_then (λ domain. option_map (said_with domain) (given_arc names right a)) (each_some (ends_said names.iters) a.ranges)

abbrev pub said_both : Option (List SaidArc) → Option (List SaidArc) → Option (List SaidArc)
said_both None r = None
said_both (Some l) None = None
said_both (Some l) (Some r) = Some (l ++ r)

-- the arcs on the left, and then those on the right
abbrev pub said_sides : Names → List ReadArc × List ReadArc → Option (List SaidArc)
said_sides names sides = said_both (each_some (said_arc names false) sides.0) (each_some (said_arc names true) sides.1)

-- The arcs that a text says, if it is that of a line with an arrow; a sequential line says none.
unfoldable pub said_of : Names → List ℕ → Option (List SaidArc)
said_of names text = option_and_then (said_sides names) (option_and_then (λ parts. answered (whole (both side (skip arrow side)) parts)) (parts_of text))

-- ---- what is said of arcs that are written

abbrev pub arc_as_said : Arc → SaidArc
arc_as_said a = said_with (map (λ d. (d.low, d.high)) a.dims) (arc_as_given a)

-- the reads, and then the others
abbrev pub said_for : List Arc → List SaidArc
said_for arcs = map arc_as_said (reads_of arcs) ++ map arc_as_said (others_of arcs)
