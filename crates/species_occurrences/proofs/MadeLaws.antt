-- Laws of what is made by a list of references.
use Rattle.std.proofs.Common.{◌∙◌, ℕ, List, [], ◌∷◌, ◌++◌, ℤ, inl, inr}
use Rattle.std.proofs.lemmas.List.{append_assoc}
use Rattle.species_ast.specs.Accesses.{Access, Tree, Ret, Stop, Read, Write, Add, then_do}
use Rattle.species_ast.specs.Scope.References.{Reference}
use Rattle.species_runs.specs.Every.{Every}
use Rattle.species_runs.proofs.EveryLaws.{every-then_do, every_weaker}
use Rattle.species_occurrences.specs.Made.{IsMadeAmong, IsMade, Begins}

pub among_left : (sizes : ℕ → List ℕ) (rs ps : List Reference) (a : Access) → IsMadeAmong sizes rs a → IsMadeAmong sizes (rs ++ ps) a
among_left sizes [] ps a h = absurd h
among_left sizes (r ∷ rs) ps a (inl h) = inl h
among_left sizes (r ∷ rs) ps a (inr h) = inr (among_left sizes rs ps a h)

pub among_right : (sizes : ℕ → List ℕ) (rs ps : List Reference) (a : Access) → IsMadeAmong sizes ps a → IsMadeAmong sizes (rs ++ ps) a
among_right sizes [] ps a h = h
among_right sizes (r ∷ rs) ps a h = inr (among_right sizes rs ps a h)

pub every_left : {X : Type 0} (sizes : ℕ → List ℕ) (iters : List ℤ) (rs ps : List Reference) (Q : X → Type 0) (t : Tree X)
    → Every (IsMade sizes iters rs) Q t → Every (IsMade sizes iters (rs ++ ps)) Q t
every_left sizes iters rs ps Q t h =
    every_weaker (IsMade sizes iters rs) (IsMade sizes iters (rs ++ ps)) Q Q t (λ a m. (among_left sizes rs ps a m.0, m.1)) (λ x q. q) h

pub every_right : {X : Type 0} (sizes : ℕ → List ℕ) (iters : List ℤ) (rs ps : List Reference) (Q : X → Type 0) (t : Tree X)
    → Every (IsMade sizes iters ps) Q t → Every (IsMade sizes iters (rs ++ ps)) Q t
every_right sizes iters rs ps Q t h =
    every_weaker (IsMade sizes iters ps) (IsMade sizes iters (rs ++ ps)) Q Q t (λ a m. (among_right sizes rs ps a m.0, m.1)) (λ x q. q) h

-- first the references of the one, and then those of what follows
pub every_then : {X Y : Type 0} (sizes : ℕ → List ℕ) (iters : List ℤ) (rs ps : List Reference) (Q : X → Type 0) (R : Y → Type 0) (t : Tree X) (next : X → Tree Y)
    → Every (IsMade sizes iters rs) Q t → ((x : X) → Q x → Every (IsMade sizes iters ps) R (next x)) → Every (IsMade sizes iters (rs ++ ps)) R (then_do t next)
every_then sizes iters rs ps Q R t next h after =
    every-then_do (IsMade sizes iters (rs ++ ps)) Q R t next (every_left sizes iters rs ps Q t h) (λ x q. every_right sizes iters rs ps R (next x) (after x q))

pub begins_outer : (iters : List ℤ) (i : ℤ) (whole : List ℤ) → Begins (iters ++ i ∷ []) whole → Begins iters whole
begins_outer iters i whole h = (i ∷ h.0, h.1 ∙ append_assoc iters (i ∷ []) h.0)

-- what holds for each number holds for all of them at once
pub every_all : {X : Type 0} (P : ℕ → Access → Type 0) (Q : X → Type 0) (t : Tree X) → ((n : ℕ) → Every (P n) Q t) → Every (λ a. (n : ℕ) → P n a) Q t
every_all P Q (Ret x) h = h 0
every_all P Q (Stop s why) h = tt
every_all P Q (Read s e more) h = λ v. (λ n. (h n v).0, every_all P Q (more v) (λ n. (h n v).1))
every_all P Q (Write s e v more) h = (λ n. (h n).0, every_all P Q more (λ n. (h n).1))
every_all P Q (Add s e v more) h = (λ n. (h n).0, every_all P Q more (λ n. (h n).1))
