use Rattle.std.proofs.Common.{◌≡◌, ◌∙◌, refl, sym, true, arith}
use Rattle.species_merge.specs.Classes.{are_alike}
use Rattle.species_merge.specs.Exact.{is_regular}
use Rattle.species_merge.proofs.Covering.{clash, not_true}
use Rattle.species_merge.proofs.MemberLemmas.{item_with, item_without, item_has, items_done}
use Rattle.species_merge.proofs.classes.all_regular.Goals.{else-are_alike-via-then-are_alike+else-not-is_regular-2, else-are_alike-via-else-are_alike}
use Rattle.species_merge.proofs.classes.all_regular.Goals as goal

pub returns-then-not-is_regular-2 : goal.returns-then-not-is_regular-2
returns-then-not-is_regular-2 c =
    ((λ t. not_true t), (λ h. absurd (clash c.is_regular-then-are_alike.result (c.is_regular-then-are_alike.ensures ∙ item_has (λ r. is_regular c.args.inner r ≡ true) (are_alike c.args.top c.args.first.now) c.args.first.now c.args.behind.now c.loop-reference.reference-index c.reference-item.result c.loop-reference-test.true c.reference-item.is (sym c.are_alike.ensures ∙ c.if-are_alike.true) h) c.if-not-is_regular-2.true)))

pub loop-reference-preserved : goal.loop-reference-preserved
loop-reference-preserved c = elim c.else-are_alike.branch [
  | else-are_alike-via-then-are_alike+else-not-is_regular-2 w ↦ item_with (λ r. is_regular c.args.inner r ≡ true) (are_alike c.args.top c.args.first.now) c.args.first.now c.args.behind.now c.loop-reference.reference-index c.reference-item.result c.loop-reference-test.true c.reference-item.is (sym c.are_alike.ensures ∙ w.if-are_alike.true) (sym w.is_regular-then-are_alike.ensures ∙ w.if-not-is_regular-2.false) c.loop-reference.invariant
  | else-are_alike-via-else-are_alike w ↦ item_without (λ r. is_regular c.args.inner r ≡ true) (are_alike c.args.top c.args.first.now) c.args.first.now c.args.behind.now c.loop-reference.reference-index c.reference-item.result c.loop-reference-test.true c.reference-item.is (sym c.are_alike.ensures ∙ w.if-are_alike.false) c.loop-reference.invariant
]

pub returns : goal.returns
returns c = ((λ t. items_done (λ r. is_regular c.args.inner r ≡ true) (are_alike c.args.top c.args.first.now) c.args.first.now c.args.behind.now c.loop-reference.reference-index (omega (arith, c.loop-reference-test.false)) c.loop-reference.invariant), (λ h. refl))
