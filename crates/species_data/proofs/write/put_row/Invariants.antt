use Rattle.std.proofs.Common.{◌≡◌, ◌++◌, [], take, get_or, length}
use Rattle.std.specs.Prelude.{flat_map}
use Rattle.species_ast.specs.Evaluation.{product}
use Rattle.species_data.specs.Text.{spaced}
use Rattle.species_data.proofs.write.put_row.Given as goal

abbrev pub invariant-loop-at : goal.invariant-loop-at
invariant-loop-at l =
    length (get_or l.arrays l.number []) ≡ product l.array.dims
    → l.text.items ≡ l.fn.text.items ++ (l.array.name ++ flat_map spaced (take l.at (get_or l.arrays l.number [])))
