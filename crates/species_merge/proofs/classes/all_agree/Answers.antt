use Rattle.std.proofs.Common.{◌≡◌, ◌∙◌, refl, sym, arith}
use Rattle.species_merge.specs.Classes.{are_alike, box_in}
use Rattle.species_merge.proofs.Covering.{clash, not_true}
use Rattle.species_merge.proofs.MemberLemmas.{item_with, item_without, item_has, items_done}
use Rattle.species_merge.proofs.classes.all_agree.Goals.{else-are_alike-via-then-are_alike+else-not-same_box, else-are_alike-via-else-are_alike}
use Rattle.species_merge.proofs.classes.all_agree.Goals as goal

pub returns-then-not-same_box : goal.returns-then-not-same_box
returns-then-not-same_box c =
    ((λ t. not_true t), (λ h. absurd (clash c.same_box.result (c.same_box.ensures.1 (item_has (λ r. box_in c.args.number r ≡ box_in c.args.number c.args.first.now) (are_alike c.args.top c.args.first.now) c.args.first.now c.args.behind.now c.loop-reference.reference-index c.reference-item.result c.loop-reference-test.true c.reference-item.is (sym c.are_alike.ensures ∙ c.if-are_alike.true) h)) c.if-not-same_box.true)))

pub loop-reference-preserved : goal.loop-reference-preserved
loop-reference-preserved c = elim c.else-are_alike.branch [
  | else-are_alike-via-then-are_alike+else-not-same_box w ↦ item_with (λ r. box_in c.args.number r ≡ box_in c.args.number c.args.first.now) (are_alike c.args.top c.args.first.now) c.args.first.now c.args.behind.now c.loop-reference.reference-index c.reference-item.result c.loop-reference-test.true c.reference-item.is (sym c.are_alike.ensures ∙ w.if-are_alike.true) (w.same_box.ensures.0 w.if-not-same_box.false) c.loop-reference.invariant
  | else-are_alike-via-else-are_alike w ↦ item_without (λ r. box_in c.args.number r ≡ box_in c.args.number c.args.first.now) (are_alike c.args.top c.args.first.now) c.args.first.now c.args.behind.now c.loop-reference.reference-index c.reference-item.result c.loop-reference-test.true c.reference-item.is (sym c.are_alike.ensures ∙ w.if-are_alike.false) c.loop-reference.invariant
]

pub returns : goal.returns
returns c = ((λ t. items_done (λ r. box_in c.args.number r ≡ box_in c.args.number c.args.first.now) (are_alike c.args.top c.args.first.now) c.args.first.now c.args.behind.now c.loop-reference.reference-index (omega (arith, c.loop-reference-test.false)) c.loop-reference.invariant), (λ h. refl))
