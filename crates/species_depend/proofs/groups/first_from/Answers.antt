use Rattle.std.proofs.Common.{subst, sym}
use Rattle.species_references.specs.declared.nest.Reference.{Reference}
use Rattle.species_depend.specs.Carried.{AtOrBefore}
use Rattle.species_depend.proofs.PlaceLemmas.{none_before, one_before}
use Rattle.species_depend.proofs.groups.first_from.Goals as goal

pub returns-then-is_at_or_before-clause-none : goal.returns-then-is_at_or_before-clause-none
returns-then-is_at_or_before-clause-none c =
    none_before c.args.refs.now c.as_slice.result.now c.args.outer c.args.level c.args.exempt.now c.args.found c.args.first c.in_ok-second.second c.index-as_slice-first.result c.as_slice.ensures c.requires.here
    c.index-as_slice-first.is c.in_ok-second.ensures
    (subst (λ (x : Reference). AtOrBefore c.args.found x.number c.in_ok-second.second) (sym c.index-as_slice-first.is) (c.is_at_or_before.ensures.0 c.if-is_at_or_before.true))

pub returns-else-is_at_or_before-clause-some : goal.returns-else-is_at_or_before-clause-some
returns-else-is_at_or_before-clause-some c =
    one_before c.args.refs.now c.as_slice.result.now c.args.outer c.args.level c.args.exempt.now c.args.found c.args.first c.in_ok-second.second c.index-as_slice-first.result c.as_slice.ensures c.requires.here
    c.index-as_slice-first.is c.in_ok-second.ensures
    (λ h. cc (c.is_at_or_before.ensures.1 (subst (λ (x : Reference). AtOrBefore c.args.found x.number c.in_ok-second.second) c.index-as_slice-first.is h), c.if-is_at_or_before.false))
