use Rattle.std.proofs.Common.{rules, ◌≡◌, Ok}
use Rattle.species_ast.specs.declared.tree.Value.TheVariants.{Int}
use Rattle.species_ast.specs.Operators.{binary_of}
use Rattle.species_meaning.specs.Effects.{value}
use Rattle.species_meaning.proofs.IntLemmas.{both_given}
use Rattle.species_meaning.proofs.quick.leaves.Goals as goal

pub returns-in-Some-int_operator : goal.returns-in-Some-int_operator
returns-in-Some-int_operator c w m =
    let left : value w c.args.a.now c.args.frame.now m ≡ Ok (Int c.in-Some.x) = search (rules, c.in-Some.ensures w m) in
    let right : value w c.args.b.now c.args.frame.now m ≡ Ok (Int c.in-Some-leaf.y) = search (rules, c.in-Some-leaf.ensures w m) in
    let is : binary_of c.args.op (Int c.in-Some.x) (Int c.in-Some-leaf.y) ≡ Ok (Int c.in-Some-int_operator.n) = search (rules, c.in-Some-int_operator.ensures) in
    let both = both_given c.args.op (Int c.in-Some.x) (Int c.in-Some-leaf.y) c.in-Some-int_operator.n (value w c.args.a.now c.args.frame.now m) (value w c.args.b.now c.args.frame.now m) left right is in
    search (rules, both)
