use Rattle.std.proofs.Common.{◌≡◌, ap, ◌∙◌, arith, ◌+◌, [], map, length}
use Rattle.std.specs.Prelude.{IfOk, Result, Ok, Err}
use Rattle.species_ast.specs.Evaluation.{sizes_of}
use Rattle.species_ast.specs.Run.{source_context}
use Rattle.species_ast.specs.Scope.References.{references_of}
use Rattle.species_occurrences.specs.Anywhere.{unplaced}
use Rattle.species_references.specs.Ranges.{ranges_seen}
use Rattle.species_references.specs.References.{adds_of}
use Rattle.species_references.specs.Occurrences.{all_seen}
use Rattle.species_references.proofs.DimensionLemmas.{nest_seen, seen_length, resolved_placed}
use Rattle.species_references.proofs.nest.references.Goals as goal

then : {V E : Type 0} (P Q : V → Type 0) (r : Result V E) → ((v : V) → P v → Q v) → IfOk r P → IfOk r Q
then P Q (Ok v) f h = f v h
then P Q (Err e) f h = h

pub resolved-requires : goal.resolved-requires
resolved-requires c =
    let adds = adds_of c.args.gathered.now in
    let path = ranges_seen c.args.path.now in
    let listed : all_seen c.add_loop.new.found.items ≡ map unplaced (references_of adds c.args.head.now [] path c.args.depth) =
    nest_seen adds c.args.head.now [] path (ranges_seen c.as_slice.result.now) (ranges_seen c.in_ok-add_loop.field-0.now) c.args.depth (all_seen c.new-occurrences.result.items) (all_seen c.add_loop.new.found.items)
    (ap ranges_seen c.as_slice.ensures ∙ c.requires.ranges) (ap all_seen c.new-occurrences.ensures.items) c.in_ok-add_loop.ensures
    in
    omega (arith, ap length c.as_slice-2.ensures.value, seen_length c.add_loop.new.found.items (references_of adds c.args.head.now [] path c.args.depth) listed, c.requires.few)

pub returns-clause-listed : goal.returns-clause-listed
returns-clause-listed c =
    then _ _ c.resolved.result (λ found h at.
    let adds = adds_of c.args.gathered.now in
    let path = ranges_seen c.args.path.now in
    let listed : all_seen c.add_loop.new.found.items ≡ map unplaced (references_of adds c.args.head.now at path c.args.depth) =
    nest_seen adds c.args.head.now at path (ranges_seen c.as_slice.result.now) (ranges_seen c.in_ok-add_loop.field-0.now) c.args.depth (all_seen c.new-occurrences.result.items) (all_seen c.add_loop.new.found.items)
    (ap ranges_seen c.as_slice.ensures ∙ c.requires.ranges) (ap all_seen c.new-occurrences.ensures.items) c.in_ok-add_loop.ensures
    in
    resolved_placed (sizes_of (source_context c.args.unit.now)) (length c.args.path.now + c.args.depth) found.items c.as_slice-2.result.now (references_of adds c.args.head.now at path c.args.depth) (ap all_seen c.as_slice-2.ensures.value ∙ listed) h) c.resolved.ensures.listed
