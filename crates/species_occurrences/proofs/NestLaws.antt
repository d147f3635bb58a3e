-- All accesses of a loop, of a turn of it and of a unit are made by its references.
use Rattle.std.proofs.Common.{◌≡◌, refl, ◌∙◌, subst, ap, arith, ℕ, suc, ◌-◌, Bool, true, false, if◌then◌else◌, List, [], ◌∷◌, ◌++◌, map, ℤ}
use Rattle.species_ast.specs.declared.tree.Loop.{Loop, roll-Loop}
use Rattle.species_ast.specs.declared.tree.Stmt.{Stmt}
use Rattle.species_ast.specs.declared.tree.Stmt.TheOpen.{Loop-F}
use Rattle.species_ast.specs.declared.tree.Stmt.TheVariants as stmt
use Rattle.species_ast.specs.declared.tree.Unit.{Unit as Program}
use Rattle.species_ast.specs.Marks.{all_true}
use Rattle.species_ast.specs.Evaluation.{Frame, Context, sizes_of}
use Rattle.species_ast.specs.Run.{Takes, loop_of, source_context, first_frame, program_of, iteration_in, iteration}
use Rattle.species_ast.specs.Scope.Hulls.{Range, has_empty, range_of}
use Rattle.species_ast.specs.Scope.References.{Where, Reference, Adding, in_turn, list_references, references_at, references_inside, stmt_references, references_of}
use Rattle.species_ast.proofs.Folds.{fold_stmt-For, fold_loop}
use Rattle.species_ast.proofs.RunLaws.{step-For}
use Rattle.species_runs.specs.Every.{Every}
use Rattle.species_occurrences.specs.Iterators.{AreInts, AreTaken}
use Rattle.species_occurrences.specs.Made.{IsMade}
use Rattle.species_occurrences.specs.Regular.{is_regular}
use Rattle.species_occurrences.proofs.HeaderLaws.{StandsAt, HasIters}
use Rattle.species_occurrences.proofs.StatementLaws.{stmt_made, each_made, list_made, scope_made}

-- outside of all branches of a nest
abbrev pub unconditional : List ℕ → List Range → Where
unconditional at path = record { statement = at; path = path; conditional = false }

-- the law of loops, under any answers
pub nest_made : (w : Context) (adds : Adding) (l : Loop) (at : List ℕ) (path : List Range) (depth : ℕ) (iters : List ℤ) (f : Frame) → is_regular adds (stmt.For l) ≡ true
    → AreTaken path iters → AreInts iters → HasIters iters f → Every (IsMade (sizes_of w) iters (references_of adds l at path depth)) (HasIters iters) (loop_of w l at f)
nest_made w adds l at path depth iters f regular taken ints p =
    let g = unconditional at path in
    subst (λ k. Every (IsMade (sizes_of w) iters (k g depth)) (HasIters iters) (loop_of w l at f)) (fold_stmt-For (references_at adds) (references_inside adds) l)
    (subst (λ y. Every (IsMade (sizes_of w) iters (stmt_references adds (stmt.For l) g depth)) (HasIters iters) (y.does at f)) (step-For w l)
    (stmt_made w adds (stmt.For l) regular at g iters depth (refl, taken, ints) f p))

-- the law of iterations of a nest, under any answers, where its band is no longer than this
pub iteration_made : (takes : Takes) (w : Context) (adds : Adding) (body : List Stmt) (at : List ℕ) (g : Where) (iters : List ℤ) (band : ℕ) (f : Frame) → all_true (map (is_regular adds) body) ≡ true
    → StandsAt at g iters → HasIters iters f
    → Every (IsMade (sizes_of w) iters (list_references (map (stmt_references adds) body) g 0 band)) (HasIters iters) (iteration takes w body at f)
iteration_made takes w adds body at g iters band f regular st p =
    let v = iteration_in takes w body in
    scope_made v adds body (each_made v adds body) regular at 0 g iters band st f p

-- the references of a nest are those of the body of its loop, where the loop is one of the band
pub nest_body : (adds : Adding) (l : Loop-F Stmt Loop) (at : List ℕ) (path : List Range) (band : ℕ)
    → references_of adds (roll-Loop l) at path (suc band) ≡ list_references (map (stmt_references adds) l.body) (in_turn (unconditional at path) l) 0 band
nest_body adds l at path band =
    let less : suc band - 1 ≡ band = omega arith in
    ap (λ k. k (unconditional at path) (suc band)) (fold_loop (references_at adds) (references_inside adds) l)
    ∙ ap (list_references (map (stmt_references adds) l.body) (in_turn (unconditional at path) l) 0) less

-- and a loop below the band, whose hull is empty, has none
pub nest_empty : (adds : Adding) (l : Loop-F Stmt Loop) (at : List ℕ) (path : List Range) → has_empty (path ++ range_of path l ∷ []) ≡ true
    → references_of adds (roll-Loop l) at path 0 ≡ []
nest_empty adds l at path empty =
    let none : List Reference = [] in
    ap (λ k. k (unconditional at path) 0) (fold_loop (references_at adds) (references_inside adds) l)
    ∙ ap (λ (t : Bool). if t then none else list_references (map (stmt_references adds) l.body) (in_turn (unconditional at path) l) 0 (0 - 1)) empty

-- the law of units
pub unit_made : (u : Program) (adds : Adding) (band : ℕ) → all_true (map (is_regular adds) u.body) ≡ true
    → Every (IsMade (sizes_of (source_context u)) [] (list_references (map (stmt_references adds) u.body) (unconditional [] []) 0 band)) (HasIters []) (program_of u)
unit_made u adds band regular =
    list_made (source_context u) adds u.body (each_made (source_context u) adds u.body) regular [] 0 (unconditional [] []) [] band (refl, tt, tt) (first_frame u) refl
