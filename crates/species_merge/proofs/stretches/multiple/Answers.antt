use Rattle.std.proofs.Common.{arith}
use Rattle.species_merge.proofs.Covering.{gcd_some, multiple_of}
use Rattle.species_merge.proofs.stretches.multiple.Goals as goal

pub nonzero_div-turns : goal.nonzero_div-turns
nonzero_div-turns c = omega (arith, gcd_some _ _ _ c.gcd.ensures c.requires.first)

pub returns : goal.returns
returns c = multiple_of c.args.a c.args.b c.gcd.result c.args.most c.gcd.ensures c.requires.first c.requires.second
