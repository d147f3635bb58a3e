use Rattle.std.proofs.Common.{append_assoc, codes, decimal, ◌∷◌}
use Rattle.species_notation.specs.Written.{name_at}
use Rattle.species_notation.proofs.ArcTexts.{carried_text, local_text, regroup_four}
use Rattle.species_notation.proofs.writing.put_reason.Goals as goal

pub returns-in_ok-put_spaced-in-Carried-2 : goal.returns-in_ok-put_spaced-in-Carried-2
returns-in_ok-put_spaced-in-Carried-2 c =
    let name = name_at c.args.names.now.arrays c.in-Carried.array in
    rw (
      c.in-Carried.is,
      carried_text name c.in-Carried.first c.in-Carried.second,
      c.in_ok-put_spaced-in-Carried-2.ensures,
      c.in_ok-put_spaced-in-Carried.ensures,
      c.in_ok-put-in-Carried-2.ensures,
      c.in_ok-put-in-Carried.ensures,
      c.name_at.ensures,
      c.as_slice.ensures,
    )
    (regroup_four c.args.out.now.items (codes "sequential carried ") name (32 ∷ decimal c.in-Carried.first) (32 ∷ decimal c.in-Carried.second))

pub returns-in_ok-put-in-Outer-2 : goal.returns-in_ok-put-in-Outer-2
returns-in_ok-put-in-Outer-2 c =
    let name = name_at c.args.names.now.locals c.in-Outer.local in
    rw (
      c.in-Outer.is,
      local_text name,
      c.in_ok-put-in-Outer-2.ensures,
      c.in_ok-put-in-Outer.ensures,
      c.name_at-in-Outer.ensures,
      c.as_slice-in-Outer.ensures,
    )
    (append_assoc c.args.out.now.items (codes "sequential local ") name)
