use Rattle.std.proofs.Common.{◌∙◌, ap, refl, map}
use Rattle.species_ast.specs.Scope.Loops.{list_loops, loops_in}
use Rattle.species_limits.specs.Found.{found_of}
use Rattle.species_limits.proofs.WalkLaws.{whole_unit}
use Rattle.species_limits.proofs.walk.note_loops.Goals as goal

pub returns : goal.returns
returns c =
    whole_unit c.args.unit.now c.args.limits.now c.walk_all.new.limits _ c.new-path.result refl refl refl c.new-path.ensures
    (λ s k h. c.in_ok-walk_all.ensures.found s k h ∙ ap (λ xs. found_of c.args.limits.now (list_loops (map loops_in xs) s k)) c.as_slice.ensures)
