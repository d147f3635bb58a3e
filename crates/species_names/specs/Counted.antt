-- A table of how many locals before each one are not the iterators of loops.
use Rattle.std.specs.Prelude.{◌≡◌, ℕ, suc, ◌<◌, ◌≤◌, Bool, true, false, List, [], ◌∷◌, length, get_or}
use Rattle.species_ast.specs.Scope.Meanings.{is_among, count_before}

-- The table goes up to the last iterator.
pub record Counts (iterators before : List ℕ) : Type 0 where
  pub some : 0 < length before
  pub agrees : (n : ℕ) → n < length before → get_or before n 0 ≡ count_before iterators n
  pub past : (n : ℕ) → length before ≤ suc n → is_among iterators n ≡ false

-- how many flags before each are not set, from a count on
abbrev pub counts_from : ℕ → List Bool → List ℕ
counts_from count [] = count ∷ []
counts_from count (true ∷ flags) = count ∷ counts_from count flags
counts_from count (false ∷ flags) = count ∷ counts_from (suc count) flags
