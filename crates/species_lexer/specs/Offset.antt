-- The place in a refusal.
use Rattle.std.specs.Prelude.{ℕ}
use Rattle.species_ast.specs.declared.token.LexRefusal.{LexRefusal}
use Rattle.species_ast.specs.declared.token.LexRefusal.TheVariants as refusal

abbrev pub offset_in : LexRefusal → ℕ
offset_in (refusal.BadByte at) = at
offset_in (refusal.BadNumber at) = at
offset_in (refusal.OpenComment at) = at
