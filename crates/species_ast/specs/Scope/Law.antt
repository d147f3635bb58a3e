-- The law of refusals: of a group, what is reported is the first.
use Rattle.std.specs.Prelude.{◌≡◌, false, List, [], Some, None, All}
use Rattle.std.specs.List.{Contains}
use Rattle.species_ast.specs.Scope.Refusals.{Finding, is_earlier, first_in}

pub record ReportsTheFirst : Type 0 where
  -- it is one of the group
  pub is_one : (group : List Finding) (f : Finding) → first_in group ≡ Some f → Contains group f
  -- none of the group is earlier
  pub is_first : (group : List Finding) (f : Finding) → first_in group ≡ Some f → All (λ g. is_earlier g f ≡ false) group
  -- nothing is reported of an empty group alone
  pub is_empty : (group : List Finding) → first_in group ≡ None → group ≡ []
