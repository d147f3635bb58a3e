-- What is said of a table of tokens, as it is said of the text.
use Rattle.std.specs.Prelude.{Result, Ok, Err}
use Rattle.species_ast.specs.declared.raw.RawUnit.{RawUnit}
use Rattle.species_parser.specs.declared.refusal.ReadRefusal.{ReadRefusal}
use Rattle.species_parser.specs.declared.refusal.ReadRefusal.TheVariants as text
use Rattle.species_parser.specs.declared.refusal.TableRefusal.{TableRefusal}
use Rattle.species_parser.specs.declared.refusal.TableRefusal.TheVariants as table

abbrev pub of_text : TableRefusal → ReadRefusal
of_text (table.Load place) = text.Load place
of_text (table.Syntax place) = text.Syntax place
of_text table.Memory = text.Memory

abbrev pub as_parsed : Result RawUnit TableRefusal → Result RawUnit ReadRefusal
as_parsed (Ok unit) = Ok unit
as_parsed (Err refusal) = Err (of_text refusal)
