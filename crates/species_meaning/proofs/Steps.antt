-- How the effects of statements go on.
use Rattle.std.proofs.Common.{◌≡◌, refl, ap, sym, ◌∙◌, ℕ, ◌-◌, ◌<◌, List, [], length, take, Option, Some, None, Bool, true, false, Ok, Err, ℤ, ◌+ℤ◌}
use Rattle.species_ast.specs.declared.tree.Value.{Value}
use Rattle.species_ast.specs.declared.tree.Expr.{Expr}
use Rattle.species_ast.specs.declared.tree.Loop.{Loop, out-Loop}
use Rattle.species_ast.specs.declared.tree.Binary.TheVariants as binary
use Rattle.species_ast.specs.Operators.{converted, binary_of}
use Rattle.species_ast.specs.Accesses.{Cells, cell, changed, Outcome, Ended, Stopped}
use Rattle.species_ast.specs.Evaluation.{Frame, Context, array_kind, local_kind, with_local}
use Rattle.species_ast.specs.Run.{inside, outside, iterator_values}
use Rattle.species_meaning.specs.Effects.{after, element, value, target_of, adding, initialised, effects, scope_effect, turns_done, turn_effect, turns_effect, has_turn}
use Rattle.species_meaning.specs.Answers.{answer_of, Runs, Gives}
use Rattle.species_meaning.specs.declared.answer.RunAnswer.{RunAnswer}
use Rattle.species_meaning.specs.declared.answer.RunAnswer.TheVariants as answer
use Rattle.std.specs.Prelude.{replicate}
use Rattle.std.proofs.Common.{Result, arith}
use Rattle.species_ast.specs.declared.tree.Unit.{Unit as Program}
use Rattle.species_ast.specs.Accesses.{sums}
use Rattle.species_ast.specs.Run.{source_context, source_run}
use Rattle.species_meaning.proofs.Law.{source_run_is}
use Rattle.species_meaning.proofs.Loops.{no_values}
use Rattle.std.specs.Prelude.{FitsSigned}
use Rattle.std.proofs.Common.{w32}
use Rattle.species_meaning.proofs.Loops.{turn_first, turn_none, turn_out, popped, set_twice}

pub sum_ends : (w : Context) (place a : ℕ) (atomic : Bool) (subs : List Expr) (v : Expr) (f : Frame) (m : Cells) (n : ℕ) (x sum : Value) (new : Cells)
    → target_of w a subs f m ≡ Ok n → value w v f m ≡ Ok x → atomic ≡ false → binary_of binary.Add (cell m (element a n)) x ≡ Ok sum
    → new ≡ changed m (element a n) (λ c. converted (array_kind w a) sum) → adding w place a atomic subs v f m ≡ Ended f new
sum_ends w place a atomic subs v f m n x sum new p q r s t = rw (p, r, q, s, t) refl

pub declaration_ends : (w : Context) (place x : ℕ) (e : Expr) (init : Option Expr) (f : Frame) (m : Cells) (v : Value) (new : Frame)
    → init ≡ Some e → value w e (with_local f x None) m ≡ Ok v → new ≡ with_local (with_local f x None) x (Some (converted (local_kind w x) v))
    → initialised w place x init f m ≡ Ended new m
declaration_ends w place x e init f m v new p q r = rw (p, q, r) (ap (λ ls. Ended (record f { locals = ls }) m) (sym (set_twice f.locals x None (Some (converted (local_kind w x) v)))))

pub turns_next : (w : Context) (l : Loop) (at limit : ℤ) (f : Frame) (m : Cells) → has_turn (out-Loop l).test at limit (out-Loop l).step ≡ true
    → turns_effect w l at limit f m ≡ after (turn_effect w l at f m) (λ g n. turns_effect w l (at +ℤ (out-Loop l).step) limit g n)
turns_next w l at limit f m h =
    ap (λ is. turns_done is (scope_effect w (out-Loop l).body) f m) (turn_first (out-Loop l).test at limit (out-Loop l).step h)
    ∙ go (scope_effect w (out-Loop l).body (inside f at) m)
  where
    go : (o : Outcome Frame) → after o (λ g n. turns_effect w l (at +ℤ (out-Loop l).step) limit (outside f g) n)
        ≡ after (after o (λ g n. Ended (outside f g) n)) (λ g n. turns_effect w l (at +ℤ (out-Loop l).step) limit g n)
    go (Ended g n) = refl
    go (Stopped why place) = refl

pub turns_over : (w : Context) (l : Loop) (at limit : ℤ) (f : Frame) (m : Cells) → has_turn (out-Loop l).test at limit (out-Loop l).step ≡ false
    → turns_effect w l at limit f m ≡ Ended f m
turns_over w l at limit f m h = ap (λ is. turns_done is (scope_effect w (out-Loop l).body) f m) (turn_none (out-Loop l).test at limit (out-Loop l).step h)

pub turns_past : (w : Context) (l : Loop) (at limit : ℤ) (f : Frame) (m : Cells) → has_turn (out-Loop l).test at limit (out-Loop l).step ≡ true
    → FitsSigned w32 at → FitsSigned w32 limit → (FitsSigned w32 (at +ℤ (out-Loop l).step) → ⊥) → turns_effect w l (at +ℤ (out-Loop l).step) limit f m ≡ Ended f m
turns_past w l at limit f m h fits_at fits out =
    ap (λ is. turns_done is (scope_effect w (out-Loop l).body) f m) (turn_out (out-Loop l).test at limit (out-Loop l).step h fits_at fits out)

-- the frame behind a turn
pub turn_behind : (f g : Frame) (at : ℤ) → g.iters ≡ (inside f at).iters → record g { iters = take (length g.iters - 1) g.iters } ≡ outside f g
turn_behind f g at h = ap (λ is. record g { iters = is }) (popped f.iters g.iters at h)

pub run_is : (u : Program) (f : Frame) (m : Cells) → f ≡ record { iters = []; locals = replicate (length u.locals) None }
    → source_run sums u m ≡ effects (source_context u) u.body f m
run_is u f m h =
    source_run_is u m
    ∙ ap (λ (ls : List (Option Value)). effects (source_context u) u.body (record { iters = []; locals = ls }) m) (sym (no_values u.locals))
    ∙ ap (λ g. effects (source_context u) u.body g m) (sym h)

pub gives_end : (o p : Outcome Frame) (f : Frame) (m : Cells) → p ≡ o → o ≡ Ended f m → answer_of p ≡ Ok m
gives_end o p f m same h = ap answer_of (same ∙ h)

abbrev pub failed : RunAnswer → Result (Unit {0}) RunAnswer
failed e = Err e

pub gives_stop : (e : RunAnswer) (f : Frame) (m : Cells) (o p : Outcome Frame) → p ≡ o → Runs (failed e) f m o → Gives (Err e) p
gives_stop (answer.Undefined why place) f m o p same h = ap answer_of (same ∙ h)
gives_stop answer.Memory f m o p same h = tt

-- the loop, over plain variables
pub turns_on : (w : Context) (l : Loop) (at next limit : ℤ) (f g : Frame) (m n : Cells) (o : Outcome Frame) → o ≡ turns_effect w l at limit f m
    → has_turn (out-Loop l).test at limit (out-Loop l).step ≡ true → turn_effect w l at f m ≡ Ended g n → next ≡ at +ℤ (out-Loop l).step
    → o ≡ turns_effect w l next limit g n
turns_on w l at next limit f g m n o inv h turn step =
    inv ∙ turns_next w l at limit f m h
    ∙ ap (λ x. after x (λ g n. turns_effect w l (at +ℤ (out-Loop l).step) limit g n)) turn
    ∙ ap (λ k. turns_effect w l k limit g n) (sym step)

pub turns_stop : (w : Context) (l : Loop) (at limit : ℤ) (f g : Frame) (m n : Cells) (o : Outcome Frame) (e : RunAnswer) → o ≡ turns_effect w l at limit f m
    → has_turn (out-Loop l).test at limit (out-Loop l).step ≡ true → Runs (failed e) g n (turn_effect w l at f m) → Runs (failed e) g n o
turns_stop w l at limit f g m n o (answer.Undefined why place) inv h q =
    inv ∙ turns_next w l at limit f m h ∙ ap (λ x. after x (λ g n. turns_effect w l (at +ℤ (out-Loop l).step) limit g n)) q
turns_stop w l at limit f g m n o answer.Memory inv h q = tt

pub turn_is : (w : Context) (l : Loop) (at : ℤ) (f g h : Frame) (m n : Cells) → scope_effect w (out-Loop l).body (inside f at) m ≡ Ended g n → g.iters ≡ (inside f at).iters
    → h ≡ record g { iters = take (length g.iters - 1) g.iters } → turn_effect w l at f m ≡ Ended h n
turn_is w l at f g h m n scope iters left =
    ap (λ o. after o (λ g n. Ended (outside f g) n)) scope ∙ ap (λ k. Ended k n) (sym (left ∙ turn_behind f g at iters))

pub frame_behind : (f g h : Frame) (at : ℤ) → g.iters ≡ (inside f at).iters → h ≡ record g { iters = take (length g.iters - 1) g.iters } → h.iters ≡ f.iters
frame_behind f g h at iters left = ap (λ k. k.iters) (left ∙ turn_behind f g at iters)

pub shorter : (l : Loop) (at next limit : ℤ) → has_turn (out-Loop l).test at limit (out-Loop l).step ≡ true → next ≡ at +ℤ (out-Loop l).step
    → length (iterator_values (out-Loop l).test next limit (out-Loop l).step) < length (iterator_values (out-Loop l).test at limit (out-Loop l).step)
shorter l at next limit h step =
    let longer = ap length (turn_first (out-Loop l).test at limit (out-Loop l).step h) in
    let same = ap (λ k. length (iterator_values (out-Loop l).test k limit (out-Loop l).step)) step in
    omega (arith, longer, same)
