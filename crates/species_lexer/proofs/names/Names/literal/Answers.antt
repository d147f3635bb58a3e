-- The goals of `literal` that need an answer.
use Rattle.std.proofs.Common.{◌∙◌, ap}
use Rattle.species_ast.specs.Text.Stream.{look_up}
use Rattle.species_lexer.proofs.NameLemmas.{looks_up}
use Rattle.species_lexer.proofs.names.Names.literal.Goals as goal

pub returns : goal.returns
returns c = c.copied.ensures ∙ c.get.ensures.value ∙ looks_up c.self.inside.literals.entries c.args.name.now ∙ ap (λ ds. look_up ds c.args.name.now) c.self.view_is
