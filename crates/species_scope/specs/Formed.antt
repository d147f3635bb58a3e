-- What is refused of the bounds and the steps of loops, and of the sizes of arrays.
use Rattle.std.specs.Prelude.{◌&&◌, not, is_none, List, ◌++◌, flat_map}
use Rattle.species_ast.specs.declared.tree.Loop.{out-Loop}
use Rattle.species_ast.specs.Scope.Refusals.{Refusal, Finding}
use Rattle.species_ast.specs.Scope.Statements.{LoopSite}
use Rattle.species_ast.specs.Scope.Programs.{Size, ArraySite}
use Rattle.species_ast.specs.Scope.Conditions.{is_static, is_good_step}
use Rattle.species_names.specs.Kept.{refused_if}

-- of a loop
abbrev pub forms_at : LoopSite → List Finding
forms_at x =
    refused_if (not (is_static x.level (out-Loop x.loop).start)) Refusal.NotStatic x.start
    ++ (refused_if (not (is_static x.level (out-Loop x.loop).limit)) Refusal.NotStatic x.limit
    ++ refused_if (not (x.one_variable && is_good_step (out-Loop x.loop).test x.step)) Refusal.BadStep x.place)

-- of a size
abbrev pub size_found : Size → List Finding
size_found x = refused_if (is_none x.number) Refusal.NotStatic x.place

-- of an array
abbrev pub sizes_at : ArraySite → List Finding
sizes_at a = flat_map size_found a.sizes
