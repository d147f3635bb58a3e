-- The law of lawful programs: each that a text can write becomes a well made unit, of the size of one that is read.
use Rattle.species_ast.specs.declared.raw.RawUnit.{RawUnit}
use Rattle.species_ast.specs.Scope.Programs.{program_of}
use Rattle.species_ast.specs.Scope.Written.{IsWritten}
use Rattle.species_ast.specs.Scope.WellMade.{IsWellMade}
use Rattle.species_ast.specs.Scope.References.{HasReadSize}
use Rattle.species_ast.specs.Scope.Conditions.{IsLawful}

pub record LawfulUnitsAreMade : Type 0 where
  pub well_made : (u : RawUnit) → IsWritten u → IsLawful u → IsWellMade (program_of u).unit
  pub read_size : (u : RawUnit) → IsLawful u → HasReadSize (program_of u).unit
