-- What is built of a whole program, where some locals are the iterators of loops.
use Rattle.std.specs.Prelude.{ℕ, List, [], ◌∷◌, ◌++◌, map, flat_map, None}
use Rattle.species_ast.specs.declared.raw.RawUnit.{RawUnit}
use Rattle.species_ast.specs.Scope.Meanings.{Meaning, Declared, occurrence, scope_with}
use Rattle.species_ast.specs.Scope.Refusals.{Finding}
use Rattle.species_ast.specs.Scope.Conditions.{refused_forms, refused_limits, refused_references}
use Rattle.species_ast.specs.Scope.Programs.{Program, first_scope}
use Rattle.species_lawful.specs.Walks.{walk_of}
use Rattle.species_names.specs.Kept.{kept}
use Rattle.species_names.specs.Noted.{noted}
use Rattle.species_scope.specs.declared.globals.Heads.{Heads}
use Rattle.species_scope.specs.declared.units.Built.{Built}
use Rattle.species_scope.specs.Declaring.{after_items}
use Rattle.species_scope.specs.Formed.{forms_at, sizes_at}

abbrev pub no_heads : List ℕ → Heads
no_heads its = record {
  builder = record { place = first_scope its; found = None; forms = None; locals = [] };
  includes = [];
  arrays = [];
  places = [];
}

-- what stands before the body, the function's name included
abbrev pub heads_of : RawUnit → List ℕ → Heads
heads_of u its =
    let h = after_items (no_heads its) u.items in
    let b = h.builder in
    record h {
      builder = record b {
        place = scope_with u.function Meaning.Function b.place;
        found = noted b.place.iterators b.found (occurrence Declared b.place u.function ∷ []);
      };
    }

-- what is found at the sizes of arrays and at the bounds and steps of loops
abbrev pub forms_of : Program → List Finding
forms_of p = flat_map sizes_at p.arrays ++ flat_map forms_at p.loops

abbrev pub whole_of : RawUnit → List ℕ → Built
whole_of u its =
    let p = walk_of u its in
    record {
      unit = p.unit;
      places = map (λ a. a.name.place) p.arrays;
      found = noted its None p.names;
      forms = kept None (forms_of p);
    }

-- what is refused of a program whose names and forms are lawful, in groups
abbrev pub unit_groups : Program → List (List Finding)
unit_groups p = refused_limits p ∷ refused_references p.unit ∷ []

-- what is refused of a program whose names are lawful
abbrev pub form_groups : Program → List (List Finding)
form_groups p = refused_forms p ∷ unit_groups p
