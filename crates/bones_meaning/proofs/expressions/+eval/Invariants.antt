use Rattle.std.proofs.Common.{◌≡◌, ℕ, Option, option_map, drop}
use Rattle.species_ast.specs.Evaluation.{indices_in}
use Rattle.species_ast.specs.Run.{source_context}
use Rattle.bones_meaning.specs.Tapes.{and_then}
use Rattle.bones_meaning.specs.Places.{found_in, capped}
use Rattle.bones_meaning.specs.Walked.{values, target_of}
use Rattle.bones_meaning.proofs.expressions.+eval.Given as goal

-- the element is found from the place so far and the subscripts that are left
abbrev pub invariant-target-loop-e : goal.invariant-target-loop-e
invariant-target-loop-e l =
    (o : Option ℕ) × (l.place ≡ option_map capped o)
    × (target_of (source_context l.unit) l.array l.subs l.frame l.initial.tape
    ≡ and_then (values (source_context l.unit) (drop l.e-index l.subs) l.frame l.tape) (λ vs t. found_in l.sizes o (indices_in l.sizes vs) t))
