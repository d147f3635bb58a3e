use Rattle.std.proofs.Common.{◌∙◌, sym, arith, rules, pos, ℤ, FitsSigned}
use Rattle.std.specs.Prelude.{slice_index_or}
use Rattle.std.specs.Int.{w64}
use Rattle.std.proofs.lemmas.Int.{ints}
use Rattle.species_affine.specs.Limited.{IsWithin}
use Rattle.species_affine.proofs.Terms.{term_more, term_less, zero_word, word_zero}
use Rattle.species_affine.proofs.subscript.sparse.Goals as goal
use Rattle.species_affine.proofs.subscript.sparse.Goals.{then-c-ne0+in_ok-push, else-c-ne0}

pub loop-level-preserved : goal.loop-level-preserved
loop-level-preserved c =
    let x : ℤ = slice_index_or c.coefficients-c-items.result.now c.loop-level.level (pos 0) in
    let fits : FitsSigned w64 x = search rules in
    let small : IsWithin x = c.coefficients-c-items.ensures.small c.loop-level.level (pos 0) c.loop-level-test.true in
    elim c.if-c-ne0.branch [
      | then-c-ne0+in_ok-push w ↦
          term_more c.coefficients-c-items.result.now c.loop-level.level c.loop-level.terms _ c.if-c-ne0.terms (w.terms-is ∙ w.in_ok-push.ensures.ok) c.loop-level.invariant c.loop-level-test.true
          (search (rules, arith)) (omega (arith, ints)) (λ e. w.if-c-ne0.true (word_zero x (sym (omega (arith, ints)) ∙ e))) (omega (arith, ints, small))
      | else-c-ne0 w ↦
          rw w.terms-is (term_less c.coefficients-c-items.result.now c.loop-level.level c.loop-level.terms c.loop-level.invariant c.loop-level-test.true (zero_word x fits w.if-c-ne0.false))
    ]
