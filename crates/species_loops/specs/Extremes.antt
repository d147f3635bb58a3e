-- The extremes of a form: the least (true), or the greatest (false).
use Rattle.std.specs.Prelude.{Bool, true, false, List, ℤ}
use Rattle.species_ast.specs.Scope.Forms.{Form}
use Rattle.species_ast.specs.Scope.Hulls.{Range, least_product, greatest_product, least_sum, greatest_sum, least_of, greatest_of}

abbrev pub extreme_product : Bool → ℤ → Range → ℤ
extreme_product true = least_product
extreme_product false = greatest_product

abbrev pub extreme_sum : Bool → List ℤ → List Range → ℤ
extreme_sum true = least_sum
extreme_sum false = greatest_sum

abbrev pub extreme_of : Bool → List Range → Form → ℤ
extreme_of true = least_of
extreme_of false = greatest_of
