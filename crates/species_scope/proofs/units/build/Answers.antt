-- What is built, from what stands before the body and the body.
use Rattle.std.proofs.Common.{rules, ◌≡◌, ◌∙◌, ap, [], ◌++◌, map}
use Rattle.species_ast.specs.Scope.Statements.{in_order, stmt_fragment}
use Rattle.species_scope.specs.Built.{after_fragment}
use Rattle.species_scope.proofs.WholeLaws.{whole_built}
use Rattle.species_scope.proofs.units.build.Goals as goal

pub returns : goal.returns
returns c =
    let h = c.in_ok-heads.heads in
    let b = h.builder in
    let name : c.in_ok-function.function ≡ c.args.raw.now.function.text = search rules in
    let items : c.as_slice.result.now ≡ c.args.raw.now.body = search rules in
    let begun : c.new-body.result ≡ [] = c.new-body.ensures in
    let state = c.in_ok-statements.ensures.state ∙ ap (λ l. after_fragment b (in_order (map stmt_fragment l) b.place)) items in
    let body =
    c.in_ok-statements.ensures.made ∙ ap (λ l. l ++ (in_order (map stmt_fragment c.as_slice.result.now) b.place).statements) begun
    ∙ ap (λ l. [] ++ (in_order (map stmt_fragment l) b.place).statements) items in
    (λ i. record {
      unit = record { includes = h.includes; arrays = h.arrays; locals = c.statements.new.b.locals; function = name i; body = c.statements.new.out };
      places = h.places;
      found = c.statements.new.b.found;
      forms = c.statements.new.b.forms;
    })
    ∙ whole_built c.args.raw.now c.args.taken.now h c.statements.new.b c.statements.new.out c.in_ok-heads.ensures state body
