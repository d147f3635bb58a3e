-- A loop around one assignment of a number to an element has one reference.
use Rattle.std.proofs.Common.{◌≡◌, ap, sym, ◌∙◌, ℕ, false, [], ◌∷◌, ◌++◌, length}
use Rattle.std.proofs.lemmas.List.{length-map}
use Rattle.species_ast.specs.declared.tree.Expr.TheVariants as expr
use Rattle.species_ast.specs.declared.tree.Loop.{Loop, out-Loop}
use Rattle.species_ast.specs.declared.tree.Stmt.TheVariants as stmt
use Rattle.species_ast.specs.declared.tree.Value.{Value}
use Rattle.species_ast.specs.Accesses.{Writes}
use Rattle.species_ast.specs.Scope.Hulls.{range_of}
use Rattle.species_ast.specs.Scope.References.{Adding, references_of}
use Rattle.species_occurrences.specs.Anywhere.{unplaced}
use Rattle.species_references.specs.Occurrences.{one_seen, seen_in_list}
use Rattle.species_references.proofs.SeenLemmas.{nest_anywhere, seen-Loop, seen-Assign, seen-Iter, seen-Literal}

pub one_reference : (adds : Adding) (l : Loop) (place a level : ℕ) (v : Value) → (out-Loop l).body ≡ stmt.Assign place a (expr.Iter level ∷ []) (expr.Literal v) ∷ []
    → length (references_of adds l [] [] 1) ≡ 1
one_reference adds l place a level v h =
    let path = range_of [] (out-Loop l) ∷ [] in
    let subs = expr.Iter level ∷ [] in
    sym (length-map (references_of adds l [] [] 1) unplaced)
    ∙ ap length (nest_anywhere adds l [] [] 1 ∙ seen-Loop adds l [] false 1 ∙ ap (λ b. seen_in_list adds b path false 0) h
    ∙ ap (λ k. k ++ []) (seen-Assign adds place a subs (expr.Literal v) path false 0))
    ∙ (λ i. length (((seen-Iter level path false i ++ []) ++ (seen-Literal v path false i ++ one_seen Writes a subs path false ∷ [])) ++ []))
