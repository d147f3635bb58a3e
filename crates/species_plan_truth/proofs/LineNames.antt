-- The names in the line of a planned nest are names of the language, and different.
use Rattle.std.proofs.Common.{◌≡◌, true, ℕ, List, map}
use Rattle.std.specs.Prelude.{Ok}
use Rattle.species_ast.specs.Marks.{all_true}
use Rattle.species_ast.specs.Reading.{IsAccepted}
use Rattle.species_ast.specs.Scope.Conditions.{resolved}
use Rattle.species_ast.specs.Strip.{source_of}
use Rattle.species_ast.specs.declared.raw.RawUnit.{RawUnit}
use Rattle.species_ast.specs.declared.tree.Array.{Array}
use Rattle.species_ast.specs.declared.tree.Unit.{Unit as Program}
use Rattle.species_lines.specs.Lines.{Standing}
use Rattle.species_notation.specs.Law.{AreNames, AreDifferent}
use Rattle.species_plan_truth.specs.Truth.{StandsUnder, names_there}
use Rattle.species_plan_truth.proofs.LineReadable.{HaveDimensions}
use Rattle.species_plan_truth.proofs.TruthLawful.{body_apart}
use Rattle.species_plan_truth.proofs.TruthNames.{named, iters_fine}

-- The arrays and the iterators have names of the language; no two arrays have one name, and each has a dimension.
pub record IsNamedUnit (u : Program) : Type 0 where
  pub arrays : AreNames (map (λ (a : Array). a.name) u.arrays)
  pub different : AreDifferent (map (λ (a : Array). a.name) u.arrays)
  pub dimensions : HaveDimensions u
  pub loops : all_true (map named u.body) ≡ true

-- So it is with the unit of each text that is read.
abbrev pub UnitsAreNamed : Type 0
UnitsAreNamed = (bytes : List ℕ) (raw : RawUnit) (u : Program) → IsAccepted bytes raw → resolved raw ≡ Ok u → IsNamedUnit u

-- The iterators of the loops around a nest and of its band have different names of the language, and so have the arrays, each of which
-- has a dimension.
pub record AreNamedThere (u : Program) (s : Standing) : Type 0 where
  pub arrays : AreNames (names_there u s).arrays
  pub iters : AreNames (names_there u s).iters
  pub different_arrays : AreDifferent (names_there u s).arrays
  pub different_iters : AreDifferent (names_there u s).iters
  pub dimensions : HaveDimensions u

-- The law.
pub nest_named : (units : UnitsAreNamed) (bytes : List ℕ) (raw : RawUnit) (u : Program) (s : Standing) → IsAccepted bytes raw → resolved raw ≡ Ok u
    → StandsUnder s.head s.around (source_of u).body → AreNamedThere (source_of u) s
nest_named units bytes raw u s accepted is stands =
    let n = units bytes raw u accepted is in
    let iters = iters_fine u.body s.head s.around s.below n.loops (body_apart raw u is) stands in
    record { arrays = n.arrays; iters = iters.0; different_arrays = n.different; different_iters = iters.1; dimensions = n.dimensions }
