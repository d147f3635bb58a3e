use Rattle.std.proofs.Common.{◌≡◌, ℕ, Option, option_map, drop}
use Rattle.species_ast.specs.Evaluation.{indices_in}
use Rattle.species_ast.specs.Run.{source_context}
use Rattle.species_meaning.specs.Effects.{and_then, values, target_of}
use Rattle.species_meaning.specs.Places.{found_in, capped}
use Rattle.species_meaning.proofs.quick.+quick.Given as goal

-- the element is found from the place so far and the subscripts that are left
abbrev pub invariant-quick_place-loop-e : goal.invariant-quick_place-loop-e
invariant-quick_place-loop-e l =
    (o : Option ℕ) × (l.place ≡ option_map capped o)
    × (target_of (source_context l.unit) l.array l.subs l.frame l.arrays
    ≡ and_then (values (source_context l.unit) (drop l.e-index l.subs) l.frame l.arrays) (λ vs. found_in l.sizes o (indices_in l.sizes vs)))
