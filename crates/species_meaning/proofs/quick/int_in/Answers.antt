use Rattle.std.proofs.Common.{rules, ◌≡◌, to_z, of_z, w32}
use Rattle.species_meaning.proofs.IntLemmas.{kept_in_int}
use Rattle.species_meaning.proofs.quick.int_in.Goals as goal

pub returns-in-Int : goal.returns-in-Int
returns-in-Int c =
    let x : to_z w32 (of_z w32 c.args.n) ≡ c.args.n = search rules in
    rw (c.in-Int.is, x) (kept_in_int c.args.n (search rules, search rules))
