use Rattle.std.proofs.Common.{rules, ◌≡◌, refl, ap, sym, ◌∙◌, length, w32, ◌+ℤ◌, FitsSigned, of_z, to_z, true, false, ◌<◌, Ok}
use Rattle.species_ast.specs.declared.tree.Loop.{out-Loop}
use Rattle.species_ast.specs.Run.{inside, iterator_values}
use Rattle.bones_meaning.specs.Tapes.{passed}
use Rattle.bones_meaning.specs.Walked.{context, locals_declared, scope_effect, turns_effect, has_turn}
use Rattle.bones_meaning.proofs.Loops.{cleared_iters}
use Rattle.bones_meaning.proofs.Steps.{turns_on, turns_stop, turns_over, turns_past, turn_is, frame_behind, shorter}
use Rattle.bones_meaning.proofs.statements.+walk.Goals as goal

pub walk_scope-returns-clause-iters : goal.walk_scope-returns-clause-iters
walk_scope-returns-clause-iters t c =
    ap (λ f. f.iters) c.clear.ensures ∙ cleared_iters (locals_declared (context c.args.unit.now c.args.whole.now) c.args.all.now) c.walk_all.new.frame ∙ c.in_ok-walk_all.ensures.iters

pub walk_turn-returns-clause-walks : goal.walk_turn-returns-clause-walks
walk_turn-returns-clause-walks t c =
    let a : to_z w32 (of_z w32 c.args.at) ≡ c.args.at = search rules in
    let entered : c.enter.new.self ≡ inside c.args.frame.now c.args.at = rw a at c.in_ok-enter.ensures in
    let runs : scope_effect (context c.args.unit.now c.args.whole.now) (out-Loop c.args.head.now).body (inside c.args.frame.now c.args.at) c.args.tape.now ≡ Ok (passed c.walk_scope.new.frame c.walk_scope.new.tape) = search (rules, entered) in
    let iters : c.walk_scope.new.frame.iters ≡ (inside c.args.frame.now c.args.at).iters = c.in_ok-walk_scope.ensures.iters ∙ ap (λ f. f.iters) entered in
    turn_is (context c.args.unit.now c.args.whole.now) c.args.head.now c.args.at c.args.frame.now c.walk_scope.new.frame c.leave.new.self c.args.tape.now c.walk_scope.new.tape runs iters c.leave.ensures

pub walk_turn-returns-clause-iters : goal.walk_turn-returns-clause-iters
walk_turn-returns-clause-iters t c =
    let a : to_z w32 (of_z w32 c.args.at) ≡ c.args.at = search rules in
    let entered : c.enter.new.self ≡ inside c.args.frame.now c.args.at = rw a at c.in_ok-enter.ensures in
    let iters : c.walk_scope.new.frame.iters ≡ (inside c.args.frame.now c.args.at).iters = c.in_ok-walk_scope.ensures.iters ∙ ap (λ f. f.iters) entered in
    frame_behind c.args.frame.now c.walk_scope.new.frame c.leave.new.self c.args.at iters c.leave.ensures

pub walk_turns-returns-in_err-walk_turn-clause-walks : goal.walk_turns-returns-in_err-walk_turn-clause-walks
walk_turns-returns-in_err-walk_turn-clause-walks t c =
    let s : to_z w32 (of_z w32 c.args.start) ≡ c.args.start = search rules in
    let l : to_z w32 (of_z w32 c.args.limit) ≡ c.args.limit = search rules in
    let st : to_z w32 (of_z w32 (out-Loop c.args.head.now).step) ≡ (out-Loop c.args.head.now).step = search rules in
    let z = to_z w32 c.loop-frame.at-bits in
    let whole = turns_effect (context c.args.unit.now c.args.whole.now) c.args.head.now c.args.start c.args.limit c.args.frame.now c.args.tape.now in
    let inv : whole ≡ turns_effect (context c.args.unit.now c.args.whole.now) c.args.head.now z c.args.limit c.loop-frame.frame c.loop-frame.tape = rw (s, l) at c.loop-frame.invariant.0 in
    let h : has_turn (out-Loop c.args.head.now).test z c.args.limit (out-Loop c.args.head.now).step ≡ true = sym (rw (l, st) at c.loop-frame-test.ensures) in
    let stop = turns_stop (context c.args.unit.now c.args.whole.now) c.args.head.now z c.args.limit c.loop-frame.frame c.walk_turn.new.frame c.loop-frame.tape c.walk_turn.new.tape whole c.in_err-walk_turn.field-0.0 inv h c.in_err-walk_turn.ensures.walks in
    search (rules, stop)

pub walk_turns-returns-in-None-clause-walks : goal.walk_turns-returns-in-None-clause-walks
walk_turns-returns-in-None-clause-walks t c =
    let s : to_z w32 (of_z w32 c.args.start) ≡ c.args.start = search rules in
    let l : to_z w32 (of_z w32 c.args.limit) ≡ c.args.limit = search rules in
    let st : to_z w32 (of_z w32 (out-Loop c.args.head.now).step) ≡ (out-Loop c.args.head.now).step = search rules in
    let z = to_z w32 c.loop-frame.at-bits in
    let whole = turns_effect (context c.args.unit.now c.args.whole.now) c.args.head.now c.args.start c.args.limit c.args.frame.now c.args.tape.now in
    let inv : whole ≡ turns_effect (context c.args.unit.now c.args.whole.now) c.args.head.now z c.args.limit c.loop-frame.frame c.loop-frame.tape = rw (s, l) at c.loop-frame.invariant.0 in
    let h : has_turn (out-Loop c.args.head.now).test z c.args.limit (out-Loop c.args.head.now).step ≡ true = sym (rw (l, st) at c.loop-frame-test.ensures) in
    let out : FitsSigned w32 (z +ℤ (out-Loop c.args.head.now).step) → ⊥ = rw st at c.in-None.ensures in
    turns_on (context c.args.unit.now c.args.whole.now) c.args.head.now z (z +ℤ (out-Loop c.args.head.now).step) c.args.limit c.loop-frame.frame c.walk_turn.new.frame c.loop-frame.tape c.walk_turn.new.tape whole inv h c.in_ok-walk_turn.ensures.walks refl
    ∙ turns_past (context c.args.unit.now c.args.whole.now) c.args.head.now z c.args.limit c.walk_turn.new.frame c.walk_turn.new.tape h (search rules) (search rules) out

pub walk_turns-loop-frame-smaller : goal.walk_turns-loop-frame-smaller
walk_turns-loop-frame-smaller t c =
    let s : to_z w32 (of_z w32 c.args.start) ≡ c.args.start = search rules in
    let l : to_z w32 (of_z w32 c.args.limit) ≡ c.args.limit = search rules in
    let st : to_z w32 (of_z w32 (out-Loop c.args.head.now).step) ≡ (out-Loop c.args.head.now).step = search rules in
    let z = to_z w32 c.loop-frame.at-bits in
    let whole = turns_effect (context c.args.unit.now c.args.whole.now) c.args.head.now c.args.start c.args.limit c.args.frame.now c.args.tape.now in
    let inv : whole ≡ turns_effect (context c.args.unit.now c.args.whole.now) c.args.head.now z c.args.limit c.loop-frame.frame c.loop-frame.tape = rw (s, l) at c.loop-frame.invariant.0 in
    let h : has_turn (out-Loop c.args.head.now).test z c.args.limit (out-Loop c.args.head.now).step ≡ true = sym (rw (l, st) at c.loop-frame-test.ensures) in
    let n : to_z w32 (of_z w32 c.in-Some.next) ≡ c.in-Some.next = search rules in
    let next : c.in-Some.next ≡ z +ℤ (out-Loop c.args.head.now).step = rw st at c.in-Some.ensures.1 in
    let less : length (iterator_values (out-Loop c.args.head.now).test (to_z w32 (of_z w32 c.in-Some.next)) (to_z w32 (of_z w32 c.args.limit)) (out-Loop c.args.head.now).step)
    < length (iterator_values (out-Loop c.args.head.now).test z (to_z w32 (of_z w32 c.args.limit)) (out-Loop c.args.head.now).step) = rw (n, l) (shorter c.args.head.now z c.in-Some.next c.args.limit h next) in
    less

pub walk_turns-loop-frame-preserved : goal.walk_turns-loop-frame-preserved
walk_turns-loop-frame-preserved t c =
    let s : to_z w32 (of_z w32 c.args.start) ≡ c.args.start = search rules in
    let l : to_z w32 (of_z w32 c.args.limit) ≡ c.args.limit = search rules in
    let st : to_z w32 (of_z w32 (out-Loop c.args.head.now).step) ≡ (out-Loop c.args.head.now).step = search rules in
    let z = to_z w32 c.loop-frame.at-bits in
    let whole = turns_effect (context c.args.unit.now c.args.whole.now) c.args.head.now c.args.start c.args.limit c.args.frame.now c.args.tape.now in
    let inv : whole ≡ turns_effect (context c.args.unit.now c.args.whole.now) c.args.head.now z c.args.limit c.loop-frame.frame c.loop-frame.tape = rw (s, l) at c.loop-frame.invariant.0 in
    let h : has_turn (out-Loop c.args.head.now).test z c.args.limit (out-Loop c.args.head.now).step ≡ true = sym (rw (l, st) at c.loop-frame-test.ensures) in
    let n : to_z w32 (of_z w32 c.in-Some.next) ≡ c.in-Some.next = search rules in
    let next : c.in-Some.next ≡ z +ℤ (out-Loop c.args.head.now).step = rw st at c.in-Some.ensures.1 in (
      rw (s, l, n) (turns_on (context c.args.unit.now c.args.whole.now) c.args.head.now z c.in-Some.next c.args.limit c.loop-frame.frame c.walk_turn.new.frame c.loop-frame.tape c.walk_turn.new.tape whole inv h c.in_ok-walk_turn.ensures.walks next),
      c.in_ok-walk_turn.ensures.iters ∙ c.loop-frame.invariant.1,
    )

pub walk_turns-returns-clause-walks : goal.walk_turns-returns-clause-walks
walk_turns-returns-clause-walks t c =
    let s : to_z w32 (of_z w32 c.args.start) ≡ c.args.start = search rules in
    let l : to_z w32 (of_z w32 c.args.limit) ≡ c.args.limit = search rules in
    let st : to_z w32 (of_z w32 (out-Loop c.args.head.now).step) ≡ (out-Loop c.args.head.now).step = search rules in
    let z = to_z w32 c.loop-frame.at-bits in
    let whole = turns_effect (context c.args.unit.now c.args.whole.now) c.args.head.now c.args.start c.args.limit c.args.frame.now c.args.tape.now in
    let inv : whole ≡ turns_effect (context c.args.unit.now c.args.whole.now) c.args.head.now z c.args.limit c.loop-frame.frame c.loop-frame.tape = rw (s, l) at c.loop-frame.invariant.0 in
    let h : has_turn (out-Loop c.args.head.now).test z c.args.limit (out-Loop c.args.head.now).step ≡ false = sym (rw (l, st) at c.loop-frame-test.ensures) in
    inv ∙ turns_over (context c.args.unit.now c.args.whole.now) c.args.head.now z c.args.limit c.loop-frame.frame c.loop-frame.tape h
