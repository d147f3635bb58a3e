use Rattle.std.proofs.Common.{pos, ◌+ℤ◌, ◌-ℤ◌, ◌<ℤ◌, FitsSigned, rules}
use Rattle.std.proofs.lemmas.Int.{to_z-of_z}
use Rattle.std.specs.Int.{w128}
use Rattle.species_banerjee.specs.declared.pairs.Entry.TheVariants.{Equal, Less, Greater}
use Rattle.species_banerjee.proofs.Corners.{shared_by, corners_equal, corners_less, corners_greater, corners_any, open_equal, open_less, open_greater, open_any}
use Rattle.species_banerjee.proofs.pairs.corners_of.Goals as goal

pub overflow_add-result : goal.overflow_add-result
overflow_add-result c =
    let first : FitsSigned w128 c.span_of-s.result.first = search rules in
    let last : FitsSigned w128 c.span_of-s.result.last = search rules in
    let room : c.span_of-s.result.first <ℤ c.span_of-s.result.last =
    (open_less c.args.loops c.span_of-s.result.first c.span_of-s.result.last c.in-Less.is (shared_by c.args.loops Less c.in-Less.is c.requires.usable.same) c.span_of-s.ensures).0 c.requires.inhabited in
    let next : FitsSigned w128 (c.span_of-s.result.first +ℤ pos 1) = search rules in
    simp to_z-of_z next

pub overflow_sub-result : goal.overflow_sub-result
overflow_sub-result c =
    let first : FitsSigned w128 c.span_of-s.result.first = search rules in
    let last : FitsSigned w128 c.span_of-s.result.last = search rules in
    let room : c.span_of-s.result.first <ℤ c.span_of-s.result.last =
    (open_less c.args.loops c.span_of-s.result.first c.span_of-s.result.last c.in-Less.is (shared_by c.args.loops Less c.in-Less.is c.requires.usable.same) c.span_of-s.ensures).0 c.requires.inhabited in
    let before : FitsSigned w128 (c.span_of-s.result.last -ℤ pos 1) = search rules in
    simp to_z-of_z before

pub overflow_add-result-in-Greater : goal.overflow_add-result-in-Greater
overflow_add-result-in-Greater c =
    let first : FitsSigned w128 c.span_of-s.result.first = search rules in
    let last : FitsSigned w128 c.span_of-s.result.last = search rules in
    let room : c.span_of-s.result.first <ℤ c.span_of-s.result.last =
    (open_greater c.args.loops c.span_of-s.result.first c.span_of-s.result.last c.in-Greater.is (shared_by c.args.loops Greater c.in-Greater.is c.requires.usable.same) c.span_of-s.ensures).0 c.requires.inhabited in
    let next : FitsSigned w128 (c.span_of-s.result.first +ℤ pos 1) = search rules in
    simp to_z-of_z next

pub overflow_sub-result-in-Greater : goal.overflow_sub-result-in-Greater
overflow_sub-result-in-Greater c =
    let first : FitsSigned w128 c.span_of-s.result.first = search rules in
    let last : FitsSigned w128 c.span_of-s.result.last = search rules in
    let room : c.span_of-s.result.first <ℤ c.span_of-s.result.last =
    (open_greater c.args.loops c.span_of-s.result.first c.span_of-s.result.last c.in-Greater.is (shared_by c.args.loops Greater c.in-Greater.is c.requires.usable.same) c.span_of-s.ensures).0 c.requires.inhabited in
    let before : FitsSigned w128 (c.span_of-s.result.last -ℤ pos 1) = search rules in
    simp to_z-of_z before

pub returns-in-Equal : goal.returns-in-Equal
returns-in-Equal c =
    let first : FitsSigned w128 c.span_of-s.result.first = search rules in
    let last : FitsSigned w128 c.span_of-s.result.last = search rules in
    let same = shared_by c.args.loops Equal c.in-Equal.is c.requires.usable.same in
    let full = (open_equal c.args.loops c.span_of-s.result.first c.span_of-s.result.last c.in-Equal.is same c.span_of-s.ensures).0 c.requires.inhabited in
    simp to_z-of_z (corners_equal c.args.loops c.span_of-s.result.first c.span_of-s.result.last c.in-Equal.is same c.span_of-s.ensures full)

pub returns-in-Less : goal.returns-in-Less
returns-in-Less c =
    let first : FitsSigned w128 c.span_of-s.result.first = search rules in
    let last : FitsSigned w128 c.span_of-s.result.last = search rules in
    let same = shared_by c.args.loops Less c.in-Less.is c.requires.usable.same in
    let room : c.span_of-s.result.first <ℤ c.span_of-s.result.last =
    (open_less c.args.loops c.span_of-s.result.first c.span_of-s.result.last c.in-Less.is same c.span_of-s.ensures).0 c.requires.inhabited in
    let next : FitsSigned w128 (c.span_of-s.result.first +ℤ pos 1) = search rules in
    let before : FitsSigned w128 (c.span_of-s.result.last -ℤ pos 1) = search rules in
    simp to_z-of_z (corners_less c.args.loops c.span_of-s.result.first c.span_of-s.result.last c.in-Less.is same c.span_of-s.ensures room)

pub returns-in-Greater : goal.returns-in-Greater
returns-in-Greater c =
    let first : FitsSigned w128 c.span_of-s.result.first = search rules in
    let last : FitsSigned w128 c.span_of-s.result.last = search rules in
    let same = shared_by c.args.loops Greater c.in-Greater.is c.requires.usable.same in
    let room : c.span_of-s.result.first <ℤ c.span_of-s.result.last =
    (open_greater c.args.loops c.span_of-s.result.first c.span_of-s.result.last c.in-Greater.is same c.span_of-s.ensures).0 c.requires.inhabited in
    let next : FitsSigned w128 (c.span_of-s.result.first +ℤ pos 1) = search rules in
    let before : FitsSigned w128 (c.span_of-s.result.last -ℤ pos 1) = search rules in
    simp to_z-of_z (corners_greater c.args.loops c.span_of-s.result.first c.span_of-s.result.last c.in-Greater.is same c.span_of-s.ensures room)

pub returns-in-Any : goal.returns-in-Any
returns-in-Any c =
    let first : FitsSigned w128 c.span_of-s.result.first = search rules in
    let last : FitsSigned w128 c.span_of-s.result.last = search rules in
    let left : FitsSigned w128 c.span_of-t.result.first = search rules in
    let right : FitsSigned w128 c.span_of-t.result.last = search rules in
    let full = (open_any c.args.loops c.span_of-s.result.first c.span_of-s.result.last c.span_of-t.result.first c.span_of-t.result.last c.in-Any.is c.span_of-s.ensures c.span_of-t.ensures).0 c.requires.inhabited in
    simp to_z-of_z (corners_any c.args.loops c.span_of-s.result.first c.span_of-s.result.last c.span_of-t.result.first c.span_of-t.result.last c.in-Any.is c.span_of-s.ensures c.span_of-t.ensures full.0 full.1)
