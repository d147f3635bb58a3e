use Rattle.std.proofs.Common.{◌∷◌, filter, ◌≡◌, ◌∙◌, refl, sym, arith, ◌≢◌}
use Rattle.species_merge.specs.Classes.{are_alike}
use Rattle.species_merge.proofs.Covering.{clash, not_true}
use Rattle.species_merge.proofs.MemberLemmas.{item_with, item_without, item_any, items_done, all_not_any}
use Rattle.species_merge.proofs.classes.some_has.Goals.{else-are_alike-via-then-are_alike+else-has_boxes-2, else-are_alike-via-else-are_alike}
use Rattle.species_merge.proofs.classes.some_has.Goals as goal

pub returns-then-has_boxes-2 : goal.returns-then-has_boxes-2
returns-then-has_boxes-2 c =
    ((λ t. item_any (λ r. r.boxes ≡ c.args.boxes.now) (are_alike c.args.top c.args.first.now) c.args.first.now c.args.behind.now c.loop-reference.reference-index c.reference-item.result c.loop-reference-test.true c.reference-item.is (sym c.are_alike.ensures ∙ c.if-are_alike.true) (c.has_boxes-then-are_alike.ensures.0 c.if-has_boxes-2.true)), (λ h. refl))

pub loop-reference-preserved : goal.loop-reference-preserved
loop-reference-preserved c = elim c.else-are_alike.branch [
  | else-are_alike-via-then-are_alike+else-has_boxes-2 w ↦ item_with (λ r. r.boxes ≢ c.args.boxes.now) (are_alike c.args.top c.args.first.now) c.args.first.now c.args.behind.now c.loop-reference.reference-index c.reference-item.result c.loop-reference-test.true c.reference-item.is (sym c.are_alike.ensures ∙ w.if-are_alike.true)
      (λ e. clash w.has_boxes-then-are_alike.result (w.has_boxes-then-are_alike.ensures.1 e) w.if-has_boxes-2.false) c.loop-reference.invariant
  | else-are_alike-via-else-are_alike w ↦ item_without (λ r. r.boxes ≢ c.args.boxes.now) (are_alike c.args.top c.args.first.now) c.args.first.now c.args.behind.now c.loop-reference.reference-index c.reference-item.result c.loop-reference-test.true c.reference-item.is (sym c.are_alike.ensures ∙ w.if-are_alike.false) c.loop-reference.invariant
]

pub returns : goal.returns
returns c = (
  (λ t. not_true t),
  (λ h. absurd (all_not_any (λ r. r.boxes ≡ c.args.boxes.now) (c.args.first.now ∷ filter (are_alike c.args.top c.args.first.now) c.args.behind.now)
      (items_done (λ r. r.boxes ≢ c.args.boxes.now) (are_alike c.args.top c.args.first.now) c.args.first.now c.args.behind.now c.loop-reference.reference-index (omega (arith, c.loop-reference-test.false)) c.loop-reference.invariant) h)),
)
