use Rattle.std.proofs.Common.{rules, FitsSigned, ◌-ℤ◌}
use Rattle.std.specs.Int.{w128}
use Rattle.std.proofs.lemmas.Int.{to_z-of_z}
use Rattle.species_arcs.proofs.places.dim_contains.Goals as goal

pub returns : goal.returns
returns c =
    let fits_at : FitsSigned w128 c.value-at.result = search rules in
    let fits_index = c.ranges.index in
    let fits_wide : FitsSigned w128 c.args.index = search rules in
    let fits_a : FitsSigned w128 c.args.dim.now.a = search rules in
    let fits_b : FitsSigned w128 c.args.dim.now.b = search rules in
    let fits_way : FitsSigned w128 (c.args.index -ℤ c.value-at.result) = search rules in
    rw (← c.value-at.ensures.value) (simp to_z-of_z at c.holds.ensures)
