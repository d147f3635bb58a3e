-- The names in a header.
use Rattle.species_ast.specs.declared.raw.RawLoop.{out-RawLoop}
use Rattle.species_scope.proofs.LoopLaws.{header_noted}
use Rattle.species_scope.proofs.headers.read_header.Goals as goal

pub returns-clause-noted : goal.returns-clause-noted
returns-clause-noted c =
    let l = out-RawLoop c.args.raw.now in
    header_noted l c.args.place.now c.enter_loop.new.self _ _ _ _ _ _ c.in_ok-enter_loop.ensures
    c.note_iterator.ensures c.in_ok-start.ensures.noted c.in_ok-limit.ensures.noted c.note_in_header.ensures c.in_ok-by.ensures.noted
