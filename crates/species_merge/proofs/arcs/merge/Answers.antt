use Rattle.std.proofs.Common.{◌≡◌, ◌∙◌, sym, subst, rules, ◌+◌, ◌∷◌, [], ◌++◌, All}
use Rattle.std.proofs.lemmas.List.Elements.{All-append}
use Rattle.species_arcs.specs.Sizes.{HasSmallSpan}
use Rattle.species_merge.specs.Arcs.{IsArcOf}
use Rattle.species_merge.specs.Sizes.{IsMergeable}
use Rattle.species_merge.proofs.ArcLemmas.{AreArcsSoFar, arcs_more, class_is, class_all}
use Rattle.species_merge.proofs.MemberLemmas.{all_one}
use Rattle.species_merge.proofs.arcs.merge.Goals as goal

pub arc_of-requires-clause-refs : goal.arc_of-requires-clause-refs
arc_of-requires-clause-refs c =
    class_all IsMergeable (c.args.outer + c.args.depth) c.args.refs.now c.loop-number.number c.index-refs-number.result c.new-class.result c.loop-number-test.true c.index-refs-number.is
    c.new-class.ensures c.requires.refs

pub loop-number-preserved : goal.loop-number-preserved
loop-number-preserved c =
    let top = c.args.outer + c.args.depth in
    let more : c.push.new.self.items ≡ c.loop-number.arcs.items ++ c.in_ok-arc_of.field-0 ∷ [] = search rules in
    record {
      arcs = subst (λ found. AreArcsSoFar c.args.outer c.args.bands.now top c.args.refs.now (c.loop-number.number + 1) found) (sym more)
          (arcs_more c.args.outer c.args.bands.now top c.args.refs.now c.loop-number.number c.loop-number.arcs.items c.index-refs-number.result c.in_ok-arc_of.field-0
          c.loop-number-test.true c.index-refs-number.is (sym c.is_alike_one.ensures ∙ c.if-is_alike_one.false)
          (subst (λ x. IsArcOf c.args.outer c.args.bands.now x c.in_ok-arc_of.field-0)
          (class_is top c.args.refs.now c.loop-number.number c.index-refs-number.result c.new-class.result c.new-class.ensures) c.in_ok-arc_of.ensures.arc) c.loop-number.invariant.arcs);
      spans = subst (λ found. All (λ arc. All HasSmallSpan arc.dims) found) (sym more)
          (All-append (λ arc. All HasSmallSpan arc.dims) c.loop-number.arcs.items (c.in_ok-arc_of.field-0 ∷ []) c.loop-number.invariant.spans
          (all_one (λ arc. All HasSmallSpan arc.dims) c.in_ok-arc_of.field-0 c.in_ok-arc_of.ensures.spans));
    }
