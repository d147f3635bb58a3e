-- The source of a unit has the loops of the unit without their marks, with the same references and bounds.
use Rattle.std.proofs.Common.{◌≡◌, ◌∙◌, ap, sym, subst, ℕ, Bool, false, List, []}
use Rattle.species_ast.specs.declared.tree.Loop.{Loop, out-Loop}
use Rattle.species_ast.specs.declared.tree.Stmt.{fold-roll-Stmt}
use Rattle.species_ast.specs.declared.tree.Stmt.TheOpen.{Stmt-F}
use Rattle.species_ast.specs.declared.tree.Stmt.TheVariants as stmt
use Rattle.species_ast.specs.Strip.{strip_step, strip_layer, strip_loop}
use Rattle.species_ast.specs.Scope.References.{Referring, no_adds, references_at, references_inside, stmt_references, loop_references, references_of}
use Rattle.species_ast.proofs.Folds.{fold_stmt-For, fold_loop-out}
use Rattle.species_ast.proofs.StripKeeps.{strip-references}
use Rattle.species_merge.specs.Bounds.{IsBoundOf}
use Rattle.species_merge.specs.declared.bands.BandBound.{BandBound}

pub source_references : (keep : Bool) (head : Loop) (at : List ℕ) → references_of no_adds (strip_loop keep head) at [] 1 ≡ references_of no_adds head at [] 1
source_references keep head at =
    let step : Stmt-F Referring Referring → Referring = references_at no_adds in
    let same : loop_references no_adds (strip_loop keep head) ≡ loop_references no_adds head =
    sym (ap (stmt_references no_adds) (fold_stmt-For strip_step (strip_layer keep) head) ∙ fold-roll-Stmt Referring Referring step (references_inside no_adds) (Stmt-F.For (strip_loop keep head)))
    ∙ strip-references keep (stmt.For head) ∙ fold_stmt-For step (references_inside no_adds) head in
    ap (λ (f : Referring). f (record { statement = at; path = []; conditional = false }) 1) same

pub source_bound : (keep : Bool) (head : Loop) (b : BandBound) → IsBoundOf (out-Loop head) b → IsBoundOf (out-Loop (strip_loop keep head)) b
source_bound keep head b h = subst (λ k. IsBoundOf (out-Loop k) b) (sym (fold_loop-out strip_step (strip_layer keep) head)) (record { least = h.least; greatest = h.greatest; step = h.step })
