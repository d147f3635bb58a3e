-- Laws of walks: the entry to which a walk leads is the entry of the actions, and a walk goes on in the second of two parts.
use Rattle.std.proofs.Common.{◌≡◌, refl, ℕ, zero, suc, List, [], ◌∷◌}
use Rattle.std.specs.Prelude.{slice_get}
use Rattle.species_ast.specs.declared.tree.Value.{Value}
use Rattle.species_ast.specs.Accesses.{Tree, Ret, Stop, Read, Write, Add, then_do, acts}
use Rattle.species_runs.specs.Places.{placed}
use Rattle.species_runs.specs.Walks.{walk, walk_on, entry}

pub walk-then_do : {X Y : Type 0} (t : Tree X) (next : X → Tree Y) (vs : List Value) (d : ℕ)
    → walk (then_do t next) vs d ≡ walk_on (walk t vs d) (λ x us c. walk (next x) us c)
walk-then_do (Ret x) next vs d = refl
walk-then_do (Stop s why) next vs zero = refl
walk-then_do (Stop s why) next vs (suc d) = refl
walk-then_do (Read s e more) next vs zero = refl
walk-then_do (Read s e more) next [] (suc d) = refl
walk-then_do (Read s e more) next (v ∷ vs) (suc d) = walk-then_do (more v) next vs d
walk-then_do (Write s e v more) next vs zero = refl
walk-then_do (Write s e v more) next vs (suc d) = walk-then_do more next vs d
walk-then_do (Add s e v more) next vs zero = refl
walk-then_do (Add s e v more) next vs (suc d) = walk-then_do more next vs d

-- the law
pub walk-acts : {X : Type 0} (t : Tree X) (vs : List Value) (d : ℕ) → slice_get (acts t vs) d ≡ entry (walk t vs d)
walk-acts (Ret x) vs zero = refl
walk-acts (Ret x) vs (suc d) = refl
walk-acts (Stop s why) vs zero = refl
walk-acts (Stop s why) vs (suc d) = refl
walk-acts (Read s e more) [] zero = refl
walk-acts (Read s e more) (v ∷ vs) zero = refl
walk-acts (Read s e more) [] (suc d) = refl
walk-acts (Read s e more) (v ∷ vs) (suc d) = walk-acts (more v) vs d
walk-acts (Write s e v more) vs zero = refl
walk-acts (Write s e v more) vs (suc d) = walk-acts more vs d
walk-acts (Add s e v more) vs zero = refl
walk-acts (Add s e v more) vs (suc d) = walk-acts more vs d

-- sites do not matter
pub walk-placed : {X : Type 0} (t : Tree X) (vs : List Value) (d : ℕ) → walk (placed t) vs d ≡ walk t vs d
walk-placed (Ret x) vs d = refl
walk-placed (Stop s why) vs zero = refl
walk-placed (Stop s why) vs (suc d) = refl
walk-placed (Read s e more) vs zero = refl
walk-placed (Read s e more) [] (suc d) = refl
walk-placed (Read s e more) (v ∷ vs) (suc d) = walk-placed (more v) vs d
walk-placed (Write s e v more) vs zero = refl
walk-placed (Write s e v more) vs (suc d) = walk-placed more vs d
walk-placed (Add s e v more) vs zero = refl
walk-placed (Add s e v more) vs (suc d) = walk-placed more vs d
