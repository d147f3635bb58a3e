use Rattle.std.proofs.Common.{◌≡◌, ◌∙◌, ap, refl, rules, nat_le, nat_lt, Bool, ◌&&◌, ◌||◌, not}
use Rattle.std.specs.Int.RustNames.{unsigned_abs}
use Rattle.species_ast.specs.declared.tree.Loop.{out-Loop}
use Rattle.species_ast.specs.Scope.Hulls.{passes_hull}
use Rattle.species_ast.specs.Scope.Magnitudes.{passes_bound}
use Rattle.species_loops.specs.Headers as headers
use Rattle.species_limits.proofs.WalkLaws.{noted_loop, asked_once}
use Rattle.species_limits.proofs.walk.note_loop.Goals as goal

pub returns-clause-found : goal.returns-clause-found
returns-clause-found c s h =
    let l = out-Loop c.args.head.now in
    let at = c.args.at in
    let path = c.args.path.now in
    let hull : c.passes_hull.result ≡ passes_hull path l = c.passes_hull.ensures ∙ (λ i. headers.passes_hull (c.as_slice.ensures.value i) (c.in_ok-of.ensures i)) in
    let bound : c.passes_bound.result ≡ passes_bound path l = c.passes_bound.ensures ∙ ap (λ p. passes_bound p l) c.as_slice-2.ensures.value in
    let size : c.unsigned_abs-far.result ≡ unsigned_abs l.step = search rules in
    noted_loop c.args.head.now at path s c.args.limits.now c.note_if.new.self c.note_if-2.new.self c.note_if-3.new.self c.note_if-4.new.self c.note_if-5.new.self
    (nat_le 8 at.level) c.unless_passed-hull.result (nat_lt 65536 c.unsigned_abs-far.result) c.unless_passed-bound.result c.is_bad_mark-bad.result h
    refl (c.unless_passed-hull.ensures ∙ ap (λ (b : Bool). not at.passed && b) hull) (ap (λ n. nat_lt 65536 n) size)
    (c.unless_passed-bound.ensures ∙ ap (λ (b : Bool). not at.passed && b) bound) c.is_bad_mark-bad.ensures
    c.note_if.ensures c.note_if-2.ensures c.note_if-3.ensures c.note_if-4.ensures c.note_if-5.ensures

pub returns-clause-passed : goal.returns-clause-passed
returns-clause-passed c =
    let l = out-Loop c.args.head.now in
    let at = c.args.at in
    let path = c.args.path.now in
    let hull : c.passes_hull.result ≡ passes_hull path l = c.passes_hull.ensures ∙ (λ i. headers.passes_hull (c.as_slice.ensures.value i) (c.in_ok-of.ensures i)) in
    let bound : c.passes_bound.result ≡ passes_bound path l = c.passes_bound.ensures ∙ ap (λ p. passes_bound p l) c.as_slice-2.ensures.value in
    let first : c.unless_passed-hull.result ≡ (not at.passed && passes_hull path l) = c.unless_passed-hull.ensures ∙ ap (λ (b : Bool). not at.passed && b) hull in
    let second : c.unless_passed-bound.result ≡ (not at.passed && passes_bound path l) = c.unless_passed-bound.ensures ∙ ap (λ (b : Bool). not at.passed && b) bound in
    c.either-passed.ensures ∙ ap (λ (b : Bool). at.passed || b) (c.either-2.ensures ∙ ap (λ (b : Bool). nat_le 8 at.level || b) (c.either.ensures ∙ (λ i. first i || second i)))
    ∙ asked_once at.passed (nat_le 8 at.level) (passes_hull path l) (passes_bound path l)
