use Rattle.std.proofs.Common.{rules, ◌≡◌, refl, ap, sym, ◌∙◌, length, w32, ◌+ℤ◌, FitsSigned, of_z, to_z, true, false, ◌<◌}
use Rattle.species_ast.specs.declared.tree.Loop.{out-Loop}
use Rattle.species_ast.specs.Accesses.{Ended}
use Rattle.species_ast.specs.Run.{source_context, inside, iterator_values}
use Rattle.species_meaning.specs.Effects.{locals_declared, scope_effect, turns_effect, has_turn}
use Rattle.species_meaning.proofs.Loops.{cleared_iters}
use Rattle.species_meaning.proofs.Steps.{turns_on, turns_stop, turns_over, turns_past, turn_is, frame_behind, shorter}
use Rattle.species_meaning.proofs.statements.+run.Goals as goal

pub run_scope-returns-clause-iters : goal.run_scope-returns-clause-iters
run_scope-returns-clause-iters t c =
    ap (λ f. f.iters) c.clear.ensures ∙ cleared_iters (locals_declared (source_context c.args.unit.now) c.args.all.now) c.run_all.new.frame ∙ c.in_ok-run_all.ensures.iters

pub run_turn-returns-clause-runs : goal.run_turn-returns-clause-runs
run_turn-returns-clause-runs t c =
    let a : to_z w32 (of_z w32 c.args.at) ≡ c.args.at = search rules in
    let entered : c.enter.new.self ≡ inside c.args.frame.now c.args.at = rw a at c.in_ok-enter.ensures in
    let runs : scope_effect (source_context c.args.unit.now) (out-Loop c.args.head.now).body (inside c.args.frame.now c.args.at) c.args.arrays.now ≡ Ended c.run_scope.new.frame c.run_scope.new.arrays = search (rules, entered) in
    let iters : c.run_scope.new.frame.iters ≡ (inside c.args.frame.now c.args.at).iters = c.in_ok-run_scope.ensures.iters ∙ ap (λ f. f.iters) entered in
    turn_is (source_context c.args.unit.now) c.args.head.now c.args.at c.args.frame.now c.run_scope.new.frame c.leave.new.self c.args.arrays.now c.run_scope.new.arrays runs iters c.leave.ensures

pub run_turn-returns-clause-iters : goal.run_turn-returns-clause-iters
run_turn-returns-clause-iters t c =
    let a : to_z w32 (of_z w32 c.args.at) ≡ c.args.at = search rules in
    let entered : c.enter.new.self ≡ inside c.args.frame.now c.args.at = rw a at c.in_ok-enter.ensures in
    let iters : c.run_scope.new.frame.iters ≡ (inside c.args.frame.now c.args.at).iters = c.in_ok-run_scope.ensures.iters ∙ ap (λ f. f.iters) entered in
    frame_behind c.args.frame.now c.run_scope.new.frame c.leave.new.self c.args.at iters c.leave.ensures

pub run_turns-returns-in_err-run_turn-clause-runs : goal.run_turns-returns-in_err-run_turn-clause-runs
run_turns-returns-in_err-run_turn-clause-runs t c =
    let s : to_z w32 (of_z w32 c.args.start) ≡ c.args.start = search rules in
    let l : to_z w32 (of_z w32 c.args.limit) ≡ c.args.limit = search rules in
    let st : to_z w32 (of_z w32 (out-Loop c.args.head.now).step) ≡ (out-Loop c.args.head.now).step = search rules in
    let z = to_z w32 c.loop-arrays.at-bits in
    let whole = turns_effect (source_context c.args.unit.now) c.args.head.now c.args.start c.args.limit c.args.frame.now c.args.arrays.now in
    let inv : whole ≡ turns_effect (source_context c.args.unit.now) c.args.head.now z c.args.limit c.loop-arrays.frame c.loop-arrays.arrays = rw (s, l) at c.loop-arrays.invariant.0 in
    let h : has_turn (out-Loop c.args.head.now).test z c.args.limit (out-Loop c.args.head.now).step ≡ true = sym (rw (l, st) at c.loop-arrays-test.ensures) in
    let stop = turns_stop (source_context c.args.unit.now) c.args.head.now z c.args.limit c.loop-arrays.frame c.run_turn.new.frame c.loop-arrays.arrays c.run_turn.new.arrays whole c.in_err-run_turn.field-0.0 inv h c.in_err-run_turn.ensures.runs in
    search (rules, stop)

pub run_turns-returns-in-None-clause-runs : goal.run_turns-returns-in-None-clause-runs
run_turns-returns-in-None-clause-runs t c =
    let s : to_z w32 (of_z w32 c.args.start) ≡ c.args.start = search rules in
    let l : to_z w32 (of_z w32 c.args.limit) ≡ c.args.limit = search rules in
    let st : to_z w32 (of_z w32 (out-Loop c.args.head.now).step) ≡ (out-Loop c.args.head.now).step = search rules in
    let z = to_z w32 c.loop-arrays.at-bits in
    let whole = turns_effect (source_context c.args.unit.now) c.args.head.now c.args.start c.args.limit c.args.frame.now c.args.arrays.now in
    let inv : whole ≡ turns_effect (source_context c.args.unit.now) c.args.head.now z c.args.limit c.loop-arrays.frame c.loop-arrays.arrays = rw (s, l) at c.loop-arrays.invariant.0 in
    let h : has_turn (out-Loop c.args.head.now).test z c.args.limit (out-Loop c.args.head.now).step ≡ true = sym (rw (l, st) at c.loop-arrays-test.ensures) in
    let out : FitsSigned w32 (z +ℤ (out-Loop c.args.head.now).step) → ⊥ = rw st at c.in-None.ensures in
    turns_on (source_context c.args.unit.now) c.args.head.now z (z +ℤ (out-Loop c.args.head.now).step) c.args.limit c.loop-arrays.frame c.run_turn.new.frame c.loop-arrays.arrays c.run_turn.new.arrays whole inv h c.in_ok-run_turn.ensures.runs refl
    ∙ turns_past (source_context c.args.unit.now) c.args.head.now z c.args.limit c.run_turn.new.frame c.run_turn.new.arrays h (search rules) (search rules) out

pub run_turns-loop-arrays-smaller : goal.run_turns-loop-arrays-smaller
run_turns-loop-arrays-smaller t c =
    let s : to_z w32 (of_z w32 c.args.start) ≡ c.args.start = search rules in
    let l : to_z w32 (of_z w32 c.args.limit) ≡ c.args.limit = search rules in
    let st : to_z w32 (of_z w32 (out-Loop c.args.head.now).step) ≡ (out-Loop c.args.head.now).step = search rules in
    let z = to_z w32 c.loop-arrays.at-bits in
    let whole = turns_effect (source_context c.args.unit.now) c.args.head.now c.args.start c.args.limit c.args.frame.now c.args.arrays.now in
    let inv : whole ≡ turns_effect (source_context c.args.unit.now) c.args.head.now z c.args.limit c.loop-arrays.frame c.loop-arrays.arrays = rw (s, l) at c.loop-arrays.invariant.0 in
    let h : has_turn (out-Loop c.args.head.now).test z c.args.limit (out-Loop c.args.head.now).step ≡ true = sym (rw (l, st) at c.loop-arrays-test.ensures) in
    let n : to_z w32 (of_z w32 c.in-Some.next) ≡ c.in-Some.next = search rules in
    let next : c.in-Some.next ≡ z +ℤ (out-Loop c.args.head.now).step = rw st at c.in-Some.ensures.1 in
    let less : length (iterator_values (out-Loop c.args.head.now).test (to_z w32 (of_z w32 c.in-Some.next)) (to_z w32 (of_z w32 c.args.limit)) (out-Loop c.args.head.now).step)
    < length (iterator_values (out-Loop c.args.head.now).test z (to_z w32 (of_z w32 c.args.limit)) (out-Loop c.args.head.now).step) = rw (n, l) (shorter c.args.head.now z c.in-Some.next c.args.limit h next) in
    less

pub run_turns-loop-arrays-preserved : goal.run_turns-loop-arrays-preserved
run_turns-loop-arrays-preserved t c =
    let s : to_z w32 (of_z w32 c.args.start) ≡ c.args.start = search rules in
    let l : to_z w32 (of_z w32 c.args.limit) ≡ c.args.limit = search rules in
    let st : to_z w32 (of_z w32 (out-Loop c.args.head.now).step) ≡ (out-Loop c.args.head.now).step = search rules in
    let z = to_z w32 c.loop-arrays.at-bits in
    let whole = turns_effect (source_context c.args.unit.now) c.args.head.now c.args.start c.args.limit c.args.frame.now c.args.arrays.now in
    let inv : whole ≡ turns_effect (source_context c.args.unit.now) c.args.head.now z c.args.limit c.loop-arrays.frame c.loop-arrays.arrays = rw (s, l) at c.loop-arrays.invariant.0 in
    let h : has_turn (out-Loop c.args.head.now).test z c.args.limit (out-Loop c.args.head.now).step ≡ true = sym (rw (l, st) at c.loop-arrays-test.ensures) in
    let n : to_z w32 (of_z w32 c.in-Some.next) ≡ c.in-Some.next = search rules in
    let next : c.in-Some.next ≡ z +ℤ (out-Loop c.args.head.now).step = rw st at c.in-Some.ensures.1 in (
      rw (s, l, n) (turns_on (source_context c.args.unit.now) c.args.head.now z c.in-Some.next c.args.limit c.loop-arrays.frame c.run_turn.new.frame c.loop-arrays.arrays c.run_turn.new.arrays whole inv h c.in_ok-run_turn.ensures.runs next),
      c.in_ok-run_turn.ensures.iters ∙ c.loop-arrays.invariant.1,
    )

pub run_turns-returns-clause-runs : goal.run_turns-returns-clause-runs
run_turns-returns-clause-runs t c =
    let s : to_z w32 (of_z w32 c.args.start) ≡ c.args.start = search rules in
    let l : to_z w32 (of_z w32 c.args.limit) ≡ c.args.limit = search rules in
    let st : to_z w32 (of_z w32 (out-Loop c.args.head.now).step) ≡ (out-Loop c.args.head.now).step = search rules in
    let z = to_z w32 c.loop-arrays.at-bits in
    let whole = turns_effect (source_context c.args.unit.now) c.args.head.now c.args.start c.args.limit c.args.frame.now c.args.arrays.now in
    let inv : whole ≡ turns_effect (source_context c.args.unit.now) c.args.head.now z c.args.limit c.loop-arrays.frame c.loop-arrays.arrays = rw (s, l) at c.loop-arrays.invariant.0 in
    let h : has_turn (out-Loop c.args.head.now).test z c.args.limit (out-Loop c.args.head.now).step ≡ false = sym (rw (l, st) at c.loop-arrays-test.ensures) in
    inv ∙ turns_over (source_context c.args.unit.now) c.args.head.now z c.args.limit c.loop-arrays.frame c.loop-arrays.arrays h
