use Rattle.std.proofs.Common.{rules, ◌≡◌, to_z, of_z, w32}
use Rattle.species_meaning.proofs.IntLemmas.{operator_given}
use Rattle.species_meaning.proofs.quick.near.Goals as goal

pub returns-in-Some : goal.returns-in-Some
returns-in-Some c w m =
    let n : to_z w32 (of_z w32 c.in-Some.n) ≡ c.in-Some.n = search rules in
    let given = operator_given w c.in-Binary.op c.in-Binary.a c.in-Binary.b c.get.result.now c.get-in-Binary.result.now c.args.frame.now m c.in-Some.n c.get.ensures c.get-in-Binary.ensures (c.in-Some.ensures w m) in
    rw (c.in-Binary.is, n) given
