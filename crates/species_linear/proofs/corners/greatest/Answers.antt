use Rattle.std.proofs.Common.{FitsSigned, rules}
use Rattle.std.proofs.lemmas.Int.{to_z-of_z}
use Rattle.std.specs.Int.{w128}
use Rattle.species_linear.specs.Box.{IsGreatest}
use Rattle.species_linear.proofs.CornerEnds.{greatest_at_corner}
use Rattle.species_linear.proofs.Magnitude.{abs_greatest}
use Rattle.species_linear.proofs.corners.greatest.Goals as goal

pub returns : goal.returns
returns c =
    let fits : FitsSigned w128 c.corner.result = search rules in
    let greatest : IsGreatest c.args.form.now c.args.path.now c.corner.result =
    rw c.corner.ensures.value (greatest_at_corner c.args.form.now c.args.path.now c.corner.ensures.rising c.requires.named c.requires.full) in
    rw (to_z-of_z w128 c.corner.result fits) (record {
      greatest = greatest;
      size = abs_greatest c.args.form.now c.args.path.now c.corner.result c.corner.ensures.rising c.requires.named c.requires.short c.requires.small_form c.requires.small_path greatest;
    })
