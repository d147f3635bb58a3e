-- What is built behind sizes, arrays and headers.
use Rattle.std.specs.Prelude.{ℕ, List, ◌++◌, map, flat_map, length}
use Rattle.std.specs.List.{filter_map}
use Rattle.species_ast.specs.declared.raw.RawExpr.{RawExpr}
use Rattle.species_ast.specs.declared.raw.RawItem.{RawItem}
use Rattle.species_ast.specs.Scope.Meanings.{Scope}
use Rattle.species_ast.specs.Scope.Programs.{Size, ArrayParts, Globals, size_parts, size_in, extent, globals_from, arrays_of, header_of}
use Rattle.species_names.specs.Kept.{kept}
use Rattle.species_names.specs.Noted.{noted}
use Rattle.species_scope.specs.declared.builder.Builder.{Builder}
use Rattle.species_scope.specs.declared.globals.Heads.{Heads}
use Rattle.species_scope.specs.Formed.{size_found, sizes_at}
use Rattle.species_scope.specs.Readings.{names_in}

abbrev pub sizes_in : List RawExpr → Scope → List Size
sizes_in es s = map (λ e. size_in s (size_parts e)) es

-- the sizes that these expressions give an array
abbrev pub sizes_of : List RawExpr → Scope → List ℕ
sizes_of es s = map (λ x. extent x.number) (sizes_in es s)

abbrev pub after_sizes : Builder → List RawExpr → Builder
after_sizes b es = record b {
  found = noted b.place.iterators b.found (names_in es b.place);
  forms = kept b.forms (flat_map size_found (sizes_in es b.place));
}

abbrev pub after_globals : Builder → Globals → Builder
after_globals b g = record b {
  place = g.next;
  found = noted b.place.iterators b.found g.names;
  forms = kept b.forms (flat_map sizes_at g.arrays);
}

-- arrays, numbered behind those before them
abbrev pub after_arrays : Heads → List ArrayParts → Heads
after_arrays h parts =
    let g = globals_from (length h.arrays) parts h.builder.place in
    record h {
      builder = after_globals h.builder g;
      arrays = h.arrays ++ map (λ a. a.array) g.arrays;
      places = h.places ++ map (λ a. a.name.place) g.arrays;
    }

abbrev pub after_items : Heads → List RawItem → Heads
after_items h items = record (after_arrays h (flat_map arrays_of items)) { includes = h.includes ++ filter_map header_of items }
