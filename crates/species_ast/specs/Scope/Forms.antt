-- Affine forms: expressions that are a constant plus whole coefficients times the iterators of the loops around them.
use Rattle.std.specs.Prelude.{ℕ, zero, suc, Bool, ◌&&◌, nat_le, if◌then◌else◌, List, [], ◌∷◌, ◌++◌, map, flat_map, ℤ, pos, ◌+ℤ◌, ◌*ℤ◌, neg_ℤ, unsigned_abs, Option, Some, None, option_and_then, slice_index_or}
use Rattle.std.specs.Ordering.{int_eq}
use Rattle.std.specs.List.{list_all}
use Rattle.species_ast.specs.declared.tree.Value.TheVariants.{Int}
use Rattle.species_ast.specs.declared.tree.Unary.TheVariants.{Neg}
use Rattle.species_ast.specs.declared.tree.Binary.TheVariants.{Mul, Add, Sub}
use Rattle.species_ast.specs.declared.tree.Expr.{Expr, fold-Expr}
use Rattle.species_ast.specs.declared.tree.Expr.TheOpen.{Expr-F}

-- A constant, and the coefficients of the iterators: that of level 0 first, and 0 for each level past the end. So `i - i` and
-- `0` have one form under two spellings: forms are compared by their constants and by `coefficient_at`.
pub record Form : Type 0 where
  pub constant : ℤ
  pub coefficients : List ℤ

abbrev pub coefficient_at : Form → ℕ → ℤ
coefficient_at f level = slice_index_or f.coefficients level (pos 0)

-- the sum of coefficient times iterator
abbrev pub sum_of : List ℤ → List ℤ → ℤ
sum_of [] is = pos 0
sum_of (c ∷ cs) [] = pos 0
sum_of (c ∷ cs) (i ∷ is) = c *ℤ i +ℤ sum_of cs is

-- the value of a form where the iterators have these values, that of level 0 first
abbrev pub form_value : Form → List ℤ → ℤ
form_value f is = f.constant +ℤ sum_of f.coefficients is

-- ---- forms of parts

abbrev pub constant_form : ℤ → Form
constant_form n = record { constant = n; coefficients = [] }

-- 1 at a level, and 0 before it
abbrev pub one_at : ℕ → List ℤ
one_at zero = pos 1 ∷ []
one_at (suc level) = pos 0 ∷ one_at level

abbrev pub iterator_form : ℕ → Form
iterator_form level = record { constant = pos 0; coefficients = one_at level }

abbrev pub added_coefficients : List ℤ → List ℤ → List ℤ
added_coefficients [] ds = ds
added_coefficients (c ∷ cs) [] = c ∷ cs
added_coefficients (c ∷ cs) (d ∷ ds) = (c +ℤ d) ∷ added_coefficients cs ds

abbrev pub sum_form : Form → Form → Form
sum_form f g = record { constant = f.constant +ℤ g.constant; coefficients = added_coefficients f.coefficients g.coefficients }

abbrev pub scaled : ℤ → Form → Form
scaled n f = record { constant = n *ℤ f.constant; coefficients = map (λ c. n *ℤ c) f.coefficients }

abbrev pub negated : Form → Form
negated f = record { constant = neg_ℤ f.constant; coefficients = map neg_ℤ f.coefficients }

-- no iterator has a coefficient other than 0, as in `i - i + 4`
abbrev pub is_constant : Form → Bool
is_constant f = list_all (λ c. int_eq c (pos 0)) f.coefficients

-- ---- the form of an expression

-- the greatest size of a number in a form
abbrev pub form_limit : ℕ
form_limit = 2147483647

abbrev pub is_within : ℤ → Bool
is_within n = nat_le (unsigned_abs n) form_limit

-- a form, if its numbers are within the limit
abbrev pub limited : Form → Option Form
limited f = if is_within f.constant && list_all is_within f.coefficients then Some f else None

-- a product of forms of which one is constant
abbrev pub product_form : Form → Form → Option Form
product_form f g =
    if is_constant f then limited (scaled f.constant g) else if is_constant g then limited (scaled g.constant f) else None

abbrev pub of_both : (Form → Form → Option Form) → Option Form → Option Form → Option Form
of_both join a b = option_and_then (λ f. option_and_then (λ g. join f g) b) a

-- `int` literals, iterators, sums, differences, negations, and products with a constant; each part keeps the limit
abbrev pub form_step : Expr-F (Option Form) → Option Form
form_step (Expr-F.Literal (Int n)) = limited (constant_form n)
form_step (Expr-F.Iter level) = Some (iterator_form level)
form_step (Expr-F.Unary Neg a) = option_and_then (λ f. limited (negated f)) a
form_step (Expr-F.Binary Add a b) = of_both (λ f g. limited (sum_form f g)) a b
form_step (Expr-F.Binary Sub a b) = of_both (λ f g. limited (sum_form f (negated g))) a b
form_step (Expr-F.Binary Mul a b) = of_both product_form a b
form_step e = None

-- The form of an expression that is affine, and nothing for any other.
abbrev pub form_of : Expr → Option Form
form_of = fold-Expr (Option Form) form_step

-- the constant of an expression whose form is constant
abbrev pub constant_of : Expr → Option ℤ
constant_of e = option_and_then (λ f. if is_constant f then Some f.constant else None) (form_of e)

-- ---- the iterators that an expression names

abbrev pub iterators_at : Expr-F (List ℕ) → List ℕ
iterators_at (Expr-F.Literal v) = []
iterators_at (Expr-F.Iter level) = level ∷ []
iterators_at (Expr-F.Local x) = []
iterators_at (Expr-F.Elem a subs) = flat_map (λ is. is) subs
iterators_at (Expr-F.Unary op a) = a
iterators_at (Expr-F.Binary op a b) = a ++ b
iterators_at (Expr-F.And a b) = a ++ b
iterators_at (Expr-F.Or a b) = a ++ b
iterators_at (Expr-F.Cond c a b) = c ++ (a ++ b)
iterators_at (Expr-F.Cast k a) = a

-- their levels, also where they cancel out, as in `i - i`
abbrev pub iterators_in : Expr → List ℕ
iterators_in = fold-Expr (List ℕ) iterators_at
