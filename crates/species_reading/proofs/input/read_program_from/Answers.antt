-- What is answered of a source.
use Rattle.std.proofs.Common.{[]}
use Rattle.species_lexer.specs.Fed.{room}
use Rattle.species_reading.proofs.InputLemmas.{fed_text, was_read, answers_told, exact_told}
use Rattle.species_reading.proofs.input.read_program_from.Goals as goal

pub read_fed-requires : goal.read_fed-requires
read_fed-requires g c = fed_text c.read_each.new.to (room c.new-cutter.result) (room c.read_each.new.to) (g.S.Source.left c.args.src.now) (g.S.Source.left c.read_each.new.src) (c.in-Ok.ensures.value [] c.new-cutter.ensures.empty)

pub returns-in-Ok-clause-read : goal.returns-in-Ok-clause-read
returns-in-Ok-clause-read g c of =
    was_read c.read_each.new.to (room c.new-cutter.result) (room c.read_each.new.to) (g.S.Source.left c.args.src.now) (g.S.Source.left c.read_each.new.src) c.read_fed.result c.in_input.result
    (c.in-Ok.ensures.value [] c.new-cutter.ensures.empty) c.in-Ok.ensures.end c.read_fed.ensures.answers c.in_input.ensures

pub returns-in-Ok-clause-answers : goal.returns-in-Ok-clause-answers
returns-in-Ok-clause-answers g c =
    answers_told (g.S.Source.left c.args.src.now) (g.S.Source.left c.read_each.new.src) c.in_input.result
    (was_read c.read_each.new.to (room c.new-cutter.result) (room c.read_each.new.to) (g.S.Source.left c.args.src.now) (g.S.Source.left c.read_each.new.src) c.read_fed.result c.in_input.result
    (c.in-Ok.ensures.value [] c.new-cutter.ensures.empty) c.in-Ok.ensures.end c.read_fed.ensures.answers c.in_input.ensures)

pub returns-in-Ok-clause-exact : goal.returns-in-Ok-clause-exact
returns-in-Ok-clause-exact g c bytes answer told short holds =
    exact_told (g.S.Source.left c.args.src.now) (g.S.Source.left c.read_each.new.src) c.in_input.result
    (was_read c.read_each.new.to (room c.new-cutter.result) (room c.read_each.new.to) (g.S.Source.left c.args.src.now) (g.S.Source.left c.read_each.new.src) c.read_fed.result c.in_input.result
    (c.in-Ok.ensures.value [] c.new-cutter.ensures.empty) c.in-Ok.ensures.end c.read_fed.ensures.answers c.in_input.ensures) bytes answer told holds
