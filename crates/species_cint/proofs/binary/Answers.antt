use Rattle.std.proofs.Common.{◌≡◌, rules, ◌∙◌, to_z, of_z, w32}
use Rattle.species_cint.proofs.Words.{in_int}
use Rattle.species_cint.proofs.binary.Goals as goal

pub returns-in-Int-b : goal.returns-in-Int-b
returns-in-Int-b c =
    let x : to_z w32 (of_z w32 c.in-Int.x) ≡ c.in-Int.x = search rules in
    let y : to_z w32 (of_z w32 c.in-Int-b.y) ≡ c.in-Int-b.y = search rules in
    let same = in_int c.args.op c.in-Int.x c.in-Int-b.y (search rules, search rules) (search rules, search rules) in
    rw (c.in-Int.is, c.in-Int-b.is) ((rw (x, y) at c.int_binary.ensures) ∙ same)
