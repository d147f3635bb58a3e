-- What is reported of the limits of a program.
use Rattle.std.proofs.Common.{◌≡◌, ◌∙◌, sym, ap, ℕ, List, Option, None}
use Rattle.species_ast.specs.declared.tree.Unit.{Unit}
use Rattle.species_ast.specs.Scope.Refusals.{Finding, first_in}
use Rattle.species_ast.specs.Scope.Programs.{Program}
use Rattle.species_ast.specs.Scope.Conditions.{refused_arrays, refused_loops, refused_limits}
use Rattle.species_names.specs.Kept.{kept}
use Rattle.species_names.proofs.KeptLaws.{kept-append}
use Rattle.species_names.proofs.JoinLaws.{kept_first}
use Rattle.species_limits.specs.Built.{IsBuilt}
use Rattle.species_limits.specs.Found.{arrays_found}
use Rattle.species_limits.proofs.ArrayFindings.{arrays_apart}

pub first_is : (p : Program) (u : Unit) (places : List ℕ) (a b : Option Finding) → IsBuilt p u places →
    a ≡ kept None (arrays_found u.arrays places) → b ≡ kept a (refused_loops u) → b ≡ first_in (refused_limits p)
first_is p u places a b h e k =
    k ∙ (λ i. kept (e i) (refused_loops (sym h.unit i)))
    ∙ (λ i. kept (kept None (arrays_found (sym h.arrays i) (sym h.places i))) (refused_loops p.unit))
    ∙ ap (λ m. kept m (refused_loops p.unit)) (arrays_apart None p)
    ∙ sym (kept-append None (refused_arrays p) (refused_loops p.unit))
    ∙ kept_first (refused_limits p)
