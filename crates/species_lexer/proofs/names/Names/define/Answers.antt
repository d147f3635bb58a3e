-- The goals of `define` that need an answer.
use Rattle.std.proofs.Common.{◌≡◌, ◌∙◌, ap, ◌++◌, ◌∷◌, [], None, List}
use Rattle.std.specs.Prelude.{map, bytes_eq}
use Rattle.indexmap.specs.IndexMap.{insert_entry}
use Rattle.species_ast.specs.Text.Stream.{Definition, look_up}
use Rattle.species_lexer.specs.Cut.{definition_of}
use Rattle.species_lexer.proofs.NameLemmas.{one_more}
use Rattle.species_lexer.proofs.names.Names.define.Goals as goal

pub returns-clause-ok : goal.returns-clause-ok
returns-clause-ok c =
    let before = c.self.inside.literals in
    let name = c.args.name.now in
    let e : c.insert.new.self.entries ≡ insert_entry (λ x y. bytes_eq x.items y.items) before.entries c.in_ok-key.key c.args.literal = c.in_ok-insert.ensures.entries in
    let new : look_up (map definition_of before.entries) name ≡ None = ap (λ ds. look_up ds name) c.self.view_is ∙ c.requires in
    let with_one : List Definition → List Definition = λ ds. ds ++ (record { name = name; literal = c.args.literal } ∷ []) in
    ap (map definition_of) e ∙ one_more before c.in_ok-key.key name c.args.literal c.in_ok-key.ensures.items new ∙ ap with_one c.self.view_is
