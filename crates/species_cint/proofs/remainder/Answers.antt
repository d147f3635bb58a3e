use Rattle.std.proofs.Common.{◌≡◌, ap, sym, ◌∙◌, subst, Ok}
use Rattle.std.specs.Int.{w128}
use Rattle.std.proofs.lemmas.Int.{to_z-of_z, rem_is}
use Rattle.species_ast.specs.Operators.{in_kind, quotient}
use Rattle.species_cint.proofs.Words.{remainder_is, rest_is_number}
use Rattle.species_cint.specs.Ranges.{IsNumber}
use Rattle.species_cint.proofs.remainder.Goals as goal

pub returns : goal.returns
returns c =
    let a_is = to_z-of_z w128 c.args.a c.ranges.a in
    let b_is = to_z-of_z w128 c.args.b c.ranges.b in
    let found : quotient c.args.kind c.args.a c.args.b ≡ Ok c.in_ok-_quotient._quotient =
    sym (c.quotient.ensures ∙ (λ i. quotient c.args.kind (a_is i) (b_is i))) ∙ c.in_ok-_quotient.was in
    ap Ok (c.value.ensures ∙ ap (in_kind c.args.kind) (rem_is w128 c.args.a c.args.b c.ranges.a c.ranges.b))
    ∙ sym (remainder_is c.args.kind c.args.a c.args.b c.in_ok-_quotient._quotient c.requires.left c.requires.right found)

pub value-requires : goal.value-requires
value-requires c =
    subst (IsNumber c.args.kind) (sym (rem_is w128 c.args.a c.args.b c.ranges.a c.ranges.b)) (rest_is_number c.args.kind c.args.a c.args.b c.requires.left)
