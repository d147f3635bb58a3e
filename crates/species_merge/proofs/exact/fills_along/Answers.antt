use Rattle.std.proofs.Common.{rules, ◌≡◌, subst, sym, pos, slice_index_or, All}
use Rattle.species_arcs.specs.declared.spans.Span.{Span}
use Rattle.species_merge.specs.Classes.{members, column, no_box, box_at}
use Rattle.species_merge.specs.Hulls.{Covers}
use Rattle.species_merge.specs.Stretches.{IsSmallWhole}
use Rattle.species_merge.proofs.SmallBoxes.{small_column, any_default}
use Rattle.species_merge.proofs.exact.fills_along.Goals as goal

abbrev zero_span : Span
zero_span = record { low = pos 0; high = pos 0; stride = 0 }

pub covers-requires-clause-spans : goal.covers-requires-clause-spans
covers-requires-clause-spans c =
    let items : c.as_slice.result.now ≡ column (members c.args.class.now) c.args.number = search (rules, c.as_slice.ensures.value, c.in_ok-spans.ensures) in
    subst (λ xs. All IsSmallWhole xs) (sym items) (small_column (members c.args.class.now) c.args.number c.requires.refs)

pub returns : goal.returns
returns c =
    let items : c.as_slice.result.now ≡ column (members c.args.class.now) c.args.number = search (rules, c.as_slice.ensures.value, c.in_ok-spans.ensures) in
    let own = slice_index_or c.args.hulls.now c.args.number zero_span in
    let at : own ≡ box_at c.args.hulls.now c.args.number = any_default c.args.hulls.now c.args.number zero_span no_box c.requires.within in (
      (λ t. record {
        within = c.requires.within;
        others = c.others_agree.ensures.0 c.if-not-others_agree.false;
        covered = subst (λ x. Covers (column (members c.args.class.now) c.args.number) x) at (subst (λ xs. Covers xs own) items (c.covers.ensures.0 t));
      }),
      (λ h. c.covers.ensures.1 (subst (λ xs. Covers xs own) (sym items) (subst (λ x. Covers (column (members c.args.class.now) c.args.number) x) (sym at) h.covered))),
    )
