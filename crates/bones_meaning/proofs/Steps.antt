-- How walks through statements go on.
use Rattle.std.proofs.Common.{◌≡◌, refl, ap, sym, ◌∙◌, subst, arith, w32, ℕ, ◌-◌, ◌<◌, [], length, take, Option, Some, None, true, false, Result, Ok, Err, ℤ, ◌+ℤ◌}
use Rattle.std.specs.Prelude.{FitsSigned}
use Rattle.species_ast.specs.declared.action.Action.{Action}
use Rattle.species_ast.specs.declared.tree.Value.{Value}
use Rattle.species_ast.specs.declared.tree.Expr.{Expr}
use Rattle.species_ast.specs.declared.tree.Loop.{Loop, out-Loop}
use Rattle.species_ast.specs.Operators.{converted}
use Rattle.species_ast.specs.Evaluation.{Frame, Context, local_kind, with_local}
use Rattle.species_ast.specs.Run.{inside, outside, iterator_values}
use Rattle.bones_meaning.specs.declared.tape.Stop.{Stop}
use Rattle.bones_meaning.specs.declared.tape.Stop.TheVariants as stop
use Rattle.bones_meaning.specs.Answers.{Walks}
use Rattle.bones_meaning.specs.Tapes.{Tape, passed, Walked, and_then}
use Rattle.bones_meaning.specs.Walked.{value, initialised, scope_effect, turns_done, turn_effect, turns_effect, has_turn}
use Rattle.bones_meaning.proofs.Law.{and_then-assoc}
use Rattle.bones_meaning.proofs.Loops.{turn_first, turn_none, turn_out, popped, set_twice}

pub declaration_ends : (w : Context) (x : ℕ) (e : Expr) (init : Option Expr) (f : Frame) (t u : Tape) (v : Value) (new : Frame)
    → init ≡ Some e → value w e (with_local f x None) t ≡ Ok (passed v u) → new ≡ with_local (with_local f x None) x (Some (converted (local_kind w x) v))
    → initialised w x init f t ≡ Ok (passed new u)
declaration_ends w x e init f t u v new p q r = rw (p, q, r) (ap (λ ls. Ok (passed (record f { locals = ls }) u)) (sym (set_twice f.locals x None (Some (converted (local_kind w x) v)))))

pub turns_next : (w : Context) (l : Loop) (at limit : ℤ) (f : Frame) (t : Tape) → has_turn (out-Loop l).test at limit (out-Loop l).step ≡ true
    → turns_effect w l at limit f t ≡ and_then (turn_effect w l at f t) (λ g u. turns_effect w l (at +ℤ (out-Loop l).step) limit g u)
turns_next w l at limit f t h =
    ap (λ is. turns_done is (scope_effect w (out-Loop l).body) f t) (turn_first (out-Loop l).test at limit (out-Loop l).step h)
    ∙ sym (and_then-assoc (scope_effect w (out-Loop l).body (inside f at) t) (λ g u. Ok (passed (outside f g) u)) (λ g u. turns_effect w l (at +ℤ (out-Loop l).step) limit g u))

pub turns_over : (w : Context) (l : Loop) (at limit : ℤ) (f : Frame) (t : Tape) → has_turn (out-Loop l).test at limit (out-Loop l).step ≡ false
    → turns_effect w l at limit f t ≡ Ok (passed f t)
turns_over w l at limit f t h = ap (λ is. turns_done is (scope_effect w (out-Loop l).body) f t) (turn_none (out-Loop l).test at limit (out-Loop l).step h)

pub turns_past : (w : Context) (l : Loop) (at limit : ℤ) (f : Frame) (t : Tape) → has_turn (out-Loop l).test at limit (out-Loop l).step ≡ true
    → FitsSigned w32 at → FitsSigned w32 limit → (FitsSigned w32 (at +ℤ (out-Loop l).step) → ⊥) → turns_effect w l (at +ℤ (out-Loop l).step) limit f t ≡ Ok (passed f t)
turns_past w l at limit f t h fits_at fits out =
    ap (λ is. turns_done is (scope_effect w (out-Loop l).body) f t) (turn_out (out-Loop l).test at limit (out-Loop l).step h fits_at fits out)

-- the frame behind a turn
pub turn_behind : (f g : Frame) (at : ℤ) → g.iters ≡ (inside f at).iters → record g { iters = take (length g.iters - 1) g.iters } ≡ outside f g
turn_behind f g at h = ap (λ is. record g { iters = is }) (popped f.iters g.iters at h)

abbrev pub failed : Stop → Result (Unit {0}) Stop
failed e = Err e

-- the loop, over plain variables
pub turns_on : (w : Context) (l : Loop) (at next limit : ℤ) (f g : Frame) (t u : Tape) (o : Walked Frame) → o ≡ turns_effect w l at limit f t
    → has_turn (out-Loop l).test at limit (out-Loop l).step ≡ true → turn_effect w l at f t ≡ Ok (passed g u) → next ≡ at +ℤ (out-Loop l).step
    → o ≡ turns_effect w l next limit g u
turns_on w l at next limit f g t u o inv h turn step =
    inv ∙ turns_next w l at limit f t h
    ∙ ap (λ x. and_then x (λ g u. turns_effect w l (at +ℤ (out-Loop l).step) limit g u)) turn
    ∙ ap (λ k. turns_effect w l k limit g u) (sym step)

pub turns_stop : (w : Context) (l : Loop) (at limit : ℤ) (f g : Frame) (t u : Tape) (o : Walked Frame) (e : Stop) → o ≡ turns_effect w l at limit f t
    → has_turn (out-Loop l).test at limit (out-Loop l).step ≡ true → Walks (failed e) g u (turn_effect w l at f t) → Walks (failed e) g u o
turns_stop w l at limit f g t u o (stop.At why) inv h q =
    inv ∙ turns_next w l at limit f t h ∙ ap (λ x. and_then x (λ g u. turns_effect w l (at +ℤ (out-Loop l).step) limit g u)) q
turns_stop w l at limit f g t u o stop.Memory inv h q = tt

pub turn_is : (w : Context) (l : Loop) (at : ℤ) (f g h : Frame) (t u : Tape) → scope_effect w (out-Loop l).body (inside f at) t ≡ Ok (passed g u) → g.iters ≡ (inside f at).iters
    → h ≡ record g { iters = take (length g.iters - 1) g.iters } → turn_effect w l at f t ≡ Ok (passed h u)
turn_is w l at f g h t u scope iters left =
    ap (λ o. and_then o (λ g u. Ok (passed (outside f g) u))) scope ∙ ap (λ k. Ok (passed k u)) (sym (left ∙ turn_behind f g at iters))

pub frame_behind : (f g h : Frame) (at : ℤ) → g.iters ≡ (inside f at).iters → h ≡ record g { iters = take (length g.iters - 1) g.iters } → h.iters ≡ f.iters
frame_behind f g h at iters left = ap (λ k. k.iters) (left ∙ turn_behind f g at iters)

pub shorter : (l : Loop) (at next limit : ℤ) → has_turn (out-Loop l).test at limit (out-Loop l).step ≡ true → next ≡ at +ℤ (out-Loop l).step
    → length (iterator_values (out-Loop l).test next limit (out-Loop l).step) < length (iterator_values (out-Loop l).test at limit (out-Loop l).step)
shorter l at next limit h step =
    let longer = ap length (turn_first (out-Loop l).test at limit (out-Loop l).step h) in
    let same = ap (λ k. length (iterator_values (out-Loop l).test k limit (out-Loop l).step)) step in
    omega (arith, longer, same)

-- what a call tells that ended at an action, or past the last
pub walks_at : (e : Stop) (why : Option Action) (f : Frame) (t : Tape) (o : Walked Frame) → Walks (failed e) f t o → e ≡ stop.At why → o ≡ Err why
walks_at e why f t o h is = subst (λ z. Walks (failed z) f t o) is h
