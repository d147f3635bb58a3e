use Rattle.std.proofs.Common.{◌≡◌, drop}
use Rattle.std.specs.Prelude.{map}
use Rattle.species_ast.specs.Text.Words.{first_len}
use Rattle.species_ast.proofs.words.first_len.Given as goal

abbrev pub invariant-loop-word : goal.invariant-loop-word
invariant-loop-word l = first_len (map (λ w. w.now) l.words) l.bytes ≡ first_len (map (λ w. w.now) (drop l.word-index l.words)) l.bytes
