-- Refusals of the parts of reading, as refusals of a program: want of memory is the same in each.
use Rattle.species_lexer.specs.declared.refusal.CutRefusal.{CutRefusal}
use Rattle.species_lexer.specs.declared.refusal.CutRefusal.TheVariants as cut
use Rattle.species_parser.specs.declared.refusal.ReadRefusal.{ReadRefusal}
use Rattle.species_parser.specs.declared.refusal.ReadRefusal.TheVariants as read
use Rattle.species_scope.specs.declared.refusal.ScopeRefusal.{ScopeRefusal}
use Rattle.species_scope.specs.declared.refusal.ScopeRefusal.TheVariants as scope
use Rattle.species_reading.specs.declared.refusal.ProgramRefusal.{ProgramRefusal}
use Rattle.species_reading.specs.declared.refusal.ProgramRefusal.TheVariants.{Read, Scope, Memory}

abbrev pub of_text : ReadRefusal → ProgramRefusal
of_text (read.Lex r) = Read (read.Lex r)
of_text (read.Load place) = Read (read.Load place)
of_text (read.Syntax place) = Read (read.Syntax place)
of_text read.Memory = Memory

abbrev pub of_cut : CutRefusal → ProgramRefusal
of_cut (cut.Lex r) = Read (read.Lex r)
of_cut cut.Memory = Memory

abbrev pub of_scope : ScopeRefusal → ProgramRefusal
of_scope (scope.Unknown place) = Scope (scope.Unknown place)
of_scope (scope.Duplicate place) = Scope (scope.Duplicate place)
of_scope (scope.DimensionCount place) = Scope (scope.DimensionCount place)
of_scope (scope.IteratorAssigned place) = Scope (scope.IteratorAssigned place)
of_scope (scope.IteratorOutside place) = Scope (scope.IteratorOutside place)
of_scope (scope.NotStatic place) = Scope (scope.NotStatic place)
of_scope (scope.BadStep place) = Scope (scope.BadStep place)
of_scope (scope.BadMark place) = Scope (scope.BadMark place)
of_scope (scope.Limit limit place) = Scope (scope.Limit limit place)
of_scope scope.Memory = Memory
