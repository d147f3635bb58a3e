-- The goals of `push` that need an answer.
use Rattle.std.proofs.Common.{rules, ◌≡◌, ◌∙◌, ◌++◌, List, ◌∷◌, [], ap}
use Rattle.species_ast.specs.Token as ast
use Rattle.species_lexer.specs.Tokens.{seen_token}
use Rattle.species_lexer.specs.Entries.{Table, others_of}
use Rattle.species_lexer.proofs.EntryLemmas.{pushed}
use Rattle.species_lexer.proofs.table.TokenTable.push.Goals as goal

pub invariant_of-self-2 : goal.invariant_of-self-2
invariant_of-self-2 c =
    let s = c.self.inside in
    let e : c.push.new.self.items ≡ s.entries.items ++ record { place = c.args.token.place; size = c.in_ok-size.size; class = c.class_of-class.result } ∷ [] = search rules in
    let t : c.extend_from_slice.new.self.items ≡ s.texts.items ++ c.args.token.text.now = search rules in
    let o : c.keep_other.new.others.items ≡ s.others.items ++ others_of c.args.token.kind = search rules in
    (pushed s.entries.items _ s.texts.items _ c.args.token.text.now s.others.items _ c.args.token.place c.in_ok-size.size c.class_of-class.result c.args.token.kind
    e (search rules) (search rules) t o c.self.invariant).0

pub returns-clause-ok : goal.returns-clause-ok
returns-clause-ok c =
    let s = c.self.inside in
    let e : c.push.new.self.items ≡ s.entries.items ++ record { place = c.args.token.place; size = c.in_ok-size.size; class = c.class_of-class.result } ∷ [] = search rules in
    let t : c.extend_from_slice.new.self.items ≡ s.texts.items ++ c.args.token.text.now = search rules in
    let o : c.keep_other.new.others.items ≡ s.others.items ++ others_of c.args.token.kind = search rules in
    let p = (pushed s.entries.items _ s.texts.items _ c.args.token.text.now s.others.items _ c.args.token.place c.in_ok-size.size c.class_of-class.result c.args.token.kind
    e (search rules) (search rules) t o c.self.invariant).1 in
    let with_one : Table → Table = λ old. record { tokens = old.tokens ++ (seen_token c.args.token ∷ []); length = old.length } in
    let length_kept : List ast.Token → Table = λ ts. record { tokens = ts; length = s.length } in
    ap length_kept p ∙ ap with_one c.self.view_is
