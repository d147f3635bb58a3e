-- What is answered of a text, by what its parts answer.
use Rattle.std.proofs.Common.{◌≡◌, ◌∙◌, ap, sym, refl, subst, ℕ, ◌≤◌, List, length, Some, Result, Ok, Err}
use Rattle.species_ast.specs.Limits.{most_bytes}
use Rattle.species_ast.specs.Reading.{IsAccepted}
use Rattle.species_ast.specs.Text.Stream.{stream_of}
use Rattle.species_ast.specs.declared.raw.RawUnit.{RawUnit}
use Rattle.species_ast.specs.declared.tree.Unit.{Unit as Program}
use Rattle.species_ast.specs.Scope.Conditions.{resolved}
use Rattle.species_ast.specs.Scope.Written.{IsWritten}
use Rattle.species_ast.proofs.Cutting.{cuts_one_way}
use Rattle.species_lexer.specs.Cut.{GivesTable}
use Rattle.species_lexer.specs.declared.refusal.CutRefusal.{CutRefusal}
use Rattle.species_lexer.specs.declared.refusal.CutRefusal.TheVariants as cut
use Rattle.species_parser.specs.Parsed as parsed
use Rattle.species_parser.specs.Tabled.{as_parsed}
use Rattle.species_parser.specs.Tabled as tabled
use Rattle.species_parser.specs.declared.refusal.ReadRefusal.{ReadRefusal}
use Rattle.species_parser.specs.declared.refusal.ReadRefusal.TheVariants as read
use Rattle.species_parser.specs.declared.refusal.TableRefusal.{TableRefusal}
use Rattle.species_written.proofs.WrittenLaws.{reads_written_trees}
use Rattle.species_scope.specs.declared.refusal.ScopeRefusal.{ScopeRefusal}
use Rattle.species_scope.specs.declared.refusal.ScopeRefusal.TheVariants as code
use Rattle.species_scope.specs.Answers as scope
use Rattle.species_reading.specs.declared.refusal.ProgramRefusal.TheVariants.{Read, Scope, Memory}
use Rattle.species_reading.specs.Answers.{Answers}
use Rattle.species_reading.specs.Refusals.{of_text, of_cut, of_scope}

-- ---- names

pub scope_refused : (text : List ℕ) (u : RawUnit) (r : ScopeRefusal) → IsAccepted text u → scope.Answers (Err r) (resolved u) → Answers text (Err (of_scope r))
scope_refused text u (code.Unknown p) a h = (u, a, h)
scope_refused text u (code.Duplicate p) a h = (u, a, h)
scope_refused text u (code.DimensionCount p) a h = (u, a, h)
scope_refused text u (code.IteratorAssigned p) a h = (u, a, h)
scope_refused text u (code.IteratorOutside p) a h = (u, a, h)
scope_refused text u (code.NotStatic p) a h = (u, a, h)
scope_refused text u (code.BadStep p) a h = (u, a, h)
scope_refused text u (code.BadMark p) a h = (u, a, h)
scope_refused text u (code.Limit l p) a h = (u, a, h)
scope_refused text u code.Memory a h = tt

-- ---- texts

pub is_written : (text : List ℕ) (u : RawUnit) → length text ≤ most_bytes → IsAccepted text u → IsWritten u
is_written text u short a = reads_written_trees.written text u short a.1

pub text_refused : (text : List ℕ) (r : ReadRefusal) → parsed.Answers text (Err r) → Answers text (Err (of_text r))
text_refused text (read.Lex r) h = h
text_refused text (read.Load p) h = h
text_refused text (read.Syntax p) h = h
text_refused text read.Memory h = tt

pub cut_refused : (text : List ℕ) (r : CutRefusal) → GivesTable (Err r) text → Answers text (Err (of_cut r))
cut_refused text (cut.Lex r) h = (stream_of text, cuts_one_way.at_least_one text, h)
cut_refused text cut.Memory h = tt
