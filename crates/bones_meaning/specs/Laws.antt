-- Laws of an iteration's actions.
use Rattle.std.specs.Prelude.{◌≡◌, List, [], ◌∷◌, ◌++◌, map}
use Rattle.species_ast.specs.declared.action.Action.{Action}
use Rattle.species_ast.specs.declared.tree.Stmt.{Stmt}
use Rattle.species_ast.specs.declared.tree.Value.{Value}
use Rattle.species_ast.specs.Accesses.{Joins, Cells, run, accesses, action_of, answers_in, last_action}
use Rattle.species_ast.specs.Evaluation.{Frame, Context}
use Rattle.species_ast.specs.Run.{Takes, iteration, actions}

-- With more answers the list only grows. So what stood in it stands there still, a read that had no answer included.
abbrev pub ActionsGrow : Type 0
ActionsGrow = (takes : Takes) (w : Context) (body : List Stmt) (f : Frame) (answers more : List Value)
    → (rest : List Action) × (actions takes w body f (answers ++ more) ≡ actions takes w body f answers ++ rest)

-- The values that the reads of the iteration's run gave, taken as answers, yield the accesses of the run in order, and then the end,
-- or a fault where the run is undefined.
abbrev pub ActionsAreOfRun : Type 0
ActionsAreOfRun = (join : Joins) (takes : Takes) (w : Context) (body : List Stmt) (f : Frame) (m : Cells)
    → actions takes w body f (answers_in (accesses join (iteration takes w body [] f) m))
    ≡ map action_of (accesses join (iteration takes w body [] f) m) ++ last_action (run join (iteration takes w body [] f) m) ∷ []
