use Rattle.std.proofs.Common.{rules, ◌≡◌, Ok}
use Rattle.species_ast.specs.declared.tree.Kind.TheVariants as kind
use Rattle.species_ast.specs.declared.tree.Value.TheVariants.{Int}
use Rattle.species_ast.specs.Operators.{binary_in, binary_of}
use Rattle.species_meaning.proofs.IntLemmas.{given_in_int}
use Rattle.species_meaning.proofs.quick.int_operator.Goals as goal

pub returns-in-Some : goal.returns-in-Some
returns-in-Some c =
    let h : binary_in kind.Int c.args.op c.args.a c.args.b ≡ Ok (Int c.in-Some.n) = search rules in
    let is : binary_of c.args.op (Int c.args.a) (Int c.args.b) ≡ Ok (Int c.in-Some.n) =
    given_in_int c.args.op c.args.a c.args.b c.in-Some.n (search rules, search rules) (search rules, search rules) h in
    search (rules, is)
