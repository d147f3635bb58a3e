-- The goals of `read_table` that need an answer.
use Rattle.std.proofs.Common.{ap, ◌∙◌, subst}
use Rattle.species_grammar.specs.Whole.{whole}
use Rattle.species_ast.specs.Text.Load.{load_refusal}
use Rattle.species_ast.specs.Text.Stream.{grammar_tokens}
use Rattle.species_parser.specs.Finished.{GivesWhole}
use Rattle.species_parser.specs.Parsing.{unit}
use Rattle.species_parser.proofs.Answering.{table_load, table_whole}
use Rattle.species_parser.proofs.table.read_table.Goals as goal

pub returns-in-Some : goal.returns-in-Some
returns-in-Some c = table_load c.args.table.now c.in_ok-place.field-0 c.in-Some.place (c.in_ok-place.ensures ∙ ap load_refusal c.over.ensures) c.in-Some.is

pub returns-in-None : goal.returns-in-None
returns-in-None c =
    let tokens = subst (λ ts. GivesWhole c.length.result c.whole_unit.result (whole unit ts)) c.over-in-None.ensures c.whole_unit.ensures in
    table_whole c.args.table.now c.in_ok-place.field-0 (c.in_ok-place.ensures ∙ ap load_refusal c.over.ensures) c.in-None.is c.whole_unit.result
    (subst (λ n. GivesWhole n c.whole_unit.result (whole unit (grammar_tokens c.args.table.now.tokens))) c.length.ensures tokens)
