-- The decision: by a local of the outside, or else by the plain references.
use Rattle.std.proofs.Common.{◌≡◌, ◌∙◌, ◌≤◌, ap, arith, refl, length, rules, None}
use Rattle.std.proofs.lemmas.Result.{IfOk-weaker}
use Rattle.std.specs.Prelude.{slice_get}
use Rattle.species_ast.specs.Scope.Nests.{front_of}
use Rattle.species_gather.specs.Summed.{summed_arrays}
use Rattle.species_references.specs.Ranges.{ranges_seen}
use Rattle.species_runs.specs.Scopes.{outer_locals_set}
use Rattle.species_classify.specs.declared.decide.Decision.{Decision}
use Rattle.species_classify.specs.Decisions.{IsDecidedBy, IsDecision}
use Rattle.species_classify.proofs.DecisionLemmas.{outer_decision, front_is, outer_fits, plain_asked, plain_decision, decided_within}
use Rattle.species_classify.proofs.decide.decide.Goals as goal

pub returns-in-Some-clause-decision : goal.returns-in-Some-clause-decision
returns-in-Some-clause-decision c =
    outer_decision c.args.unit.now c.args.head.now (ranges_seen c.args.path.now) c.in-Some.local c.first_outer_local.result c.sequential.result
    (c.first_outer_local.ensures ∙ ap (λ b. slice_get (outer_locals_set b) 0) c.as_slice.ensures) c.in-Some.is c.sequential.ensures

pub overflow_cast-outer : goal.overflow_cast-outer
overflow_cast-outer c = omega (arith, outer_fits c.args.unit.now c.args.head.now c.args.path.now c.requires.made c.requires.stands)

pub decide_by-requires-clause-some : goal.decide_by-requires-clause-some
decide_by-requires-clause-some c =
    let found = c.perfect_depth-front.ensures in
    (front_is c.args.unit.now c.args.head.now c.args.path.now (length c.args.path.now) c.perfect_depth-front.result found.0 c.requires.made c.requires.stands refl found.1 found.2).1

pub decide_by-requires-clause-asked : goal.decide_by-requires-clause-asked
decide_by-requires-clause-asked c level below =
    let found = c.perfect_depth-front.ensures in
    let front = front_is c.args.unit.now c.args.head.now c.args.path.now (length c.args.path.now) c.perfect_depth-front.result found.0 c.requires.made c.requires.stands refl found.1 found.2 in
    plain_asked c.args.unit.now c.args.head.now c.args.path.now c.in_ok-refs.refs (length c.args.path.now) c.perfect_depth-front.result level c.requires.made c.requires.stands refl c.in_ok-refs.ensures front.2 below

pub returns-clause-decision : goal.returns-clause-decision
returns-clause-decision c =
    let u = c.args.unit.now in
    let head = c.args.head.now in
    let path = c.args.path.now in
    let refs = c.in_ok-refs.refs in
    let depth = c.perfect_depth-front.result in
    let found = c.perfect_depth-front.ensures in
    let front = front_is u head path (length path) depth found.0 c.requires.made c.requires.stands refl found.1 found.2 in
    let local = c.first_outer_local.ensures ∙ ap (λ b. slice_get (outer_locals_set b) 0) c.as_slice.ensures in
    let none : c.first_outer_local.result ≡ None = search rules in
    IfOk-weaker c.decide_by.result (IsDecidedBy refs (length path) depth (summed_arrays u head)) (IsDecision u head (ranges_seen path))
    (λ d h. plain_decision u head path refs (length path) depth found.0 c.first_outer_local.result d local none refl front.0 found.1 c.in_ok-refs.ensures h)
    c.decide_by.ensures

pub returns-clause-deep : goal.returns-clause-deep
returns-clause-deep c =
    let u = c.args.unit.now in
    let head = c.args.head.now in
    let path = c.args.path.now in
    let refs = c.in_ok-refs.refs in
    let depth = c.perfect_depth-front.result in
    let found = c.perfect_depth-front.ensures in
    let front = front_is u head path (length path) depth found.0 c.requires.made c.requires.stands refl found.1 found.2 in
    IfOk-weaker c.decide_by.result (IsDecidedBy refs (length path) depth (summed_arrays u head)) (λ (d : Decision). d.depth ≤ length (front_of head))
    (λ d h. omega (arith, front.2, decided_within refs (length path) depth (summed_arrays u head) d h)) c.decide_by.ensures
