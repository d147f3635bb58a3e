-- The four holes of a template.
use Rattle.std.specs.Prelude.{ℕ, List, [], ◌∷◌, codes}
use Rattle.bones_template.specs.declared.hole.Hole.{Hole}
use Rattle.bones_template.specs.declared.hole.Hole.TheVariants as hole
use Rattle.bones_template.specs.declared.hole.Holes.{Holes}

-- how a hole is written
abbrev pub hole_text : Hole → List ℕ
hole_text hole.Indent = codes "<indent>"
hole_text hole.Species = codes "<species>"
hole_text hole.Collapse = codes "<collapse>"
hole_text hole.Loop = codes "<loop>"

-- in the order in which they are looked at
abbrev pub every_hole : List Hole
every_hole = hole.Indent ∷ hole.Species ∷ hole.Collapse ∷ hole.Loop ∷ []

-- the bytes that stand in place of each
pub record Contents : Type 0 where
  pub indent : List ℕ
  pub species : List ℕ
  pub collapse : List ℕ
  pub loop_text : List ℕ

abbrev pub text_for : Contents → Hole → List ℕ
text_for f hole.Indent = f.indent
text_for f hole.Species = f.species
text_for f hole.Collapse = f.collapse
text_for f hole.Loop = f.loop_text

abbrev pub contents_of : Holes → Contents
contents_of h = record { indent = h.indent.items; species = h.species.items; collapse = h.collapse.items; loop_text = h.loop_text.items }
