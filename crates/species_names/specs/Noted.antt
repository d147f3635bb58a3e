-- What is found at names.
use Rattle.std.specs.Prelude.{ℕ, List, ◌++◌, flat_map, Option, option_map}
use Rattle.species_ast.specs.Spelling.{Spelling}
use Rattle.species_ast.specs.Scope.Refusals.{Refusal, Finding}
use Rattle.species_ast.specs.Scope.Meanings.{Role, Declared, Taken, Assigned, Iterates, InHeader, Occurrence}
use Rattle.species_ast.specs.Scope.Conditions.{is_unknown, is_duplicate, is_miscounted, is_assigned_iterator, is_outside}
use Rattle.species_names.specs.declared.findings.Role as code_role
use Rattle.species_names.specs.declared.findings.Role.TheVariants as role
use Rattle.species_names.specs.declared.meaning.Meaning as code
use Rattle.species_names.specs.Seen.{seen}
use Rattle.species_names.specs.Kept.{kept, refused_if}

abbrev pub role_seen : code_role.Role → Role
role_seen role.Declared = Declared
role_seen (role.Taken n) = Taken n
role_seen (role.Assigned n) = Assigned n
role_seen role.Iterates = Iterates
role_seen role.InHeader = InHeader

abbrev pub name_seen : Spelling → code_role.Role → Option code.Meaning → Occurrence
name_seen name r means = record { name = name; role = role_seen r; means = option_map seen means }

abbrev pub found_at : List ℕ → Occurrence → List Finding
found_at iterators o =
    refused_if (is_unknown o) Refusal.Unknown o.name.place
    ++ (refused_if (is_duplicate o) Refusal.Duplicate o.name.place
    ++ (refused_if (is_miscounted o) Refusal.DimensionCount o.name.place
    ++ (refused_if (is_assigned_iterator o) Refusal.IteratorAssigned o.name.place
    ++ refused_if (is_outside iterators o) Refusal.IteratorOutside o.name.place)))

-- what is kept behind these names
abbrev pub noted : List ℕ → Option Finding → List Occurrence → Option Finding
noted iterators first names = kept first (flat_map (found_at iterators) names)
