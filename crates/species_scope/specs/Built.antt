-- What is built behind a fragment of program.
use Rattle.std.specs.Prelude.{◌++◌, flat_map}
use Rattle.species_ast.specs.Scope.Meanings.{Scope}
use Rattle.species_ast.specs.Scope.Statements.{Notes, Fragment}
use Rattle.species_names.specs.Kept.{kept}
use Rattle.species_names.specs.Noted.{noted}
use Rattle.species_scope.specs.declared.builder.Builder.{Builder}
use Rattle.species_scope.specs.Formed.{forms_at}

abbrev pub after : Builder → Scope → Notes → Builder
after b next n = record {
  place = next;
  found = noted b.place.iterators b.found n.names;
  forms = kept b.forms (flat_map forms_at n.loops);
  locals = b.locals ++ n.locals;
}

abbrev pub after_fragment : Builder → Fragment → Builder
after_fragment b p = after b p.next p.notes
