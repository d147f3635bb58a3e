-- The references of an outermost loop.
use Rattle.std.proofs.Common.{◌≡◌, ◌∙◌, ◌+◌, sym, subst, map, length, true}
use Rattle.species_ast.specs.declared.tree.Loop.{out-Loop}
use Rattle.species_ast.specs.Scope.Loops.{no_loops, entered}
use Rattle.species_ast.specs.Scope.References.{in_turn, list_references}
use Rattle.species_ast.specs.Scope.WellMade.{made, list_keeps}
use Rattle.species_scope.specs.Referenced.{Reached}
use Rattle.species_scope.proofs.CountLemmas.{refers, nowhere, none_plus, kept_loop, reached_inside, outermost_count, outermost_reached}
use Rattle.species_scope.proofs.references.reference_count.Goals as goal

pub returns : goal.returns
returns c k =
    let l = out-Loop c.args.head.now in
    let keeps = kept_loop c.args.head.now no_loops k in
    let begun = subst (λ p. Reached p no_loops nowhere) (sym c.new-path.ensures) outermost_reached in
    let inside = reached_inside c.args.head.now c.new-path.result c.enter.new.path no_loops nowhere begun keeps c.in_ok-enter.ensures.open in
    subst (λ b. list_keeps (map made b) (entered l no_loops) ≡ true → c.count_list.new.count.references ≡ 0 + length (list_references (map refers b) (in_turn nowhere l) 0 0)) c.as_slice.ensures (c.in_ok-count_list.ensures.found (entered l no_loops) (in_turn nowhere l) 0 inside) keeps.inside
    ∙ sym (none_plus (length (list_references (map refers l.body) (in_turn nowhere l) 0 0))) ∙ sym (outermost_count c.args.head.now)
