use Rattle.std.proofs.Common.{◌≡◌, ◌∙◌, ◌≤◌, ◌^◌, sym, ap, subst, rules, arith, Bool, Option, Some, None, to_z, of_z, FitsSigned}
use Rattle.std.specs.Prelude.{IfSome}
use Rattle.std.specs.Int.{w32, w64}
use Rattle.std.specs.Int.RustNames.{unsigned_abs}
use Rattle.std.proofs.lemmas.Int.{to_z-of_z, fits_signed_from_abs}
use Rattle.species_ast.specs.Scope.Hulls.{fixed_range, no_range}
use Rattle.species_loops.specs.Headers.{loose_range}
use Rattle.species_loops.specs.Ranges.{ranges_seen}
use Rattle.species_loops.proofs.HeaderLaws.{range_of_constants, range_of_start, range_of_others}
use Rattle.species_loops.proofs.header.Header.range.Goals as goal

pub returns-in-Some-last-clause-value : goal.returns-in-Some-last-clause-value
returns-in-Some-last-clause-value c =
    let path = ranges_seen c.args.path.now in
    let h = c.args.self.now in
    let a = c.in-Some.a in
    let b = c.in-Some-last.b in
    let small_a : unsigned_abs a ≤ 2 ^ 32 = subst (λ o. IfSome o (λ m. unsigned_abs m ≤ 2 ^ 32)) c.in-Some.is c.in_ok-first.ensures.small in
    let small_b : unsigned_abs b ≤ 2 ^ 32 = subst (λ o. IfSome o (λ m. unsigned_abs m ≤ 2 ^ 32)) c.in-Some-last.is c.in_ok-last.ensures.small in
    let fits_a : FitsSigned w64 a = fits_signed_from_abs w64 a (omega (arith, small_a)) in
    let fits_b : FitsSigned w64 b = fits_signed_from_abs w64 b (omega (arith, small_b)) in
    let fits_step : FitsSigned w32 h.step = search rules in
    let step : to_z w32 (of_z w32 h.step) ≡ h.step = to_z-of_z w32 h.step fits_step in
    let first : to_z w64 (of_z w64 a) ≡ a = to_z-of_z w64 a fits_a in
    let last : to_z w64 (of_z w64 b) ≡ b = to_z-of_z w64 b fits_b in
    range_of_constants path h a b _ (sym c.in-Some.is ∙ c.in_ok-first.ensures.value) (sym c.in-Some-last.is ∙ c.in_ok-last.ensures.value)
    (c.fixed_range.ensures.value ∙ (λ i. fixed_range (step i) (first i) (last i)))

pub returns-in-None-last-clause-value : goal.returns-in-None-last-clause-value
returns-in-None-last-clause-value c =
    let path = ranges_seen c.args.path.now in
    let h = c.args.self.now in
    let a = c.in-Some.a in
    let small_a : unsigned_abs a ≤ 2 ^ 32 = subst (λ o. IfSome o (λ m. unsigned_abs m ≤ 2 ^ 32)) c.in-Some.is c.in_ok-first.ensures.small in
    let fits_a : FitsSigned w64 a = fits_signed_from_abs w64 a (omega (arith, small_a)) in
    let first : to_z w64 (of_z w64 a) ≡ a = to_z-of_z w64 a fits_a in
    range_of_start path h (to_z w64 (of_z w64 a)) _ (ap (λ z. Some z) first ∙ sym c.in-Some.is ∙ c.in_ok-first.ensures.value) (sym c.in-None-last.is ∙ c.in_ok-last.ensures.value)
    c.loose_range.ensures.empty c.loose_range.ensures.full

pub returns-in-None-clause-value : goal.returns-in-None-clause-value
returns-in-None-clause-value c =
    let path = ranges_seen c.args.path.now in
    let h = c.args.self.now in
    range_of_others path h c.in_ok-last.last _ (sym c.in-None.is ∙ c.in_ok-first.ensures.value) c.in_ok-last.ensures.value
    (λ e. c.loose_range-in-None.ensures.empty e ∙ ap (λ (b : Bool). record (no_range h.step h.start h.last) { start = None; fixed = b }) c.is_some.ensures)
    (λ e. c.loose_range-in-None.ensures.full e ∙ ap (λ (b : Bool). loose_range path h None b) c.is_some.ensures)
