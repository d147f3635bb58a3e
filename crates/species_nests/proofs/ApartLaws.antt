-- Iterations that meet only on gathered arrays, which are accessed by additions alone, are apart.
use Rattle.std.proofs.Common.{refl, ℕ, List, Bool, ⊎_elim}
use Rattle.species_ast.specs.Accesses.{Adds, Access}
use Rattle.species_nests.specs.Meetings.{IsApart, MeetOnlyOn, AddsExactlyOn}

-- the law
pub apart_of : (gathered : ℕ → Bool) (xss : List (List Access)) → MeetOnlyOn gathered xss → AddsExactlyOn gathered xss → IsApart xss
apart_of gathered xss meet exactly e shared k d touches =
    ⊎_elim
    (λ added. (exactly e k d touches).0 ((exactly e added.0 Adds added.1).1 refl))
    (λ two. (exactly e k d touches).0 (meet e two.0 two.1 two.2 two.3))
    shared
