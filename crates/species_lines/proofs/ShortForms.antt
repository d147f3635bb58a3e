-- A form has coefficients of the iterators that its expression names alone.
use Rattle.std.proofs.Common.{◌≡◌, refl, ap, sym, ◌∙◌, subst, arith, ℕ, zero, suc, ◌≤◌, Bool, true, false, ◌&&◌, nat_lt, if◌then◌else◌, List, [], ◌∷◌, ◌++◌, map, length, ℤ, neg_ℤ, ◌+ℤ◌, ◌*ℤ◌, Option, Some, None}
use Rattle.std.specs.Prelude.{is_some}
use Rattle.std.specs.List.{list_all}
use Rattle.std.proofs.lemmas.Bool.{and_parts}
use Rattle.std.proofs.lemmas.Bool.Decides.{nat_tests}
use Rattle.std.proofs.lemmas.List.{length-map}
use Rattle.std.proofs.lemmas.List.Folds.{list_all-append}
use Rattle.species_ast.specs.declared.tree.Binary.{Binary}
use Rattle.species_ast.specs.declared.tree.Binary.TheVariants as binary
use Rattle.species_ast.specs.declared.tree.Expr.{Expr}
use Rattle.species_ast.specs.declared.tree.Expr.TheOpen.{Expr-F}
use Rattle.species_ast.specs.declared.tree.Unary.{Unary}
use Rattle.species_ast.specs.declared.tree.Unary.TheVariants as unary
use Rattle.species_ast.specs.declared.tree.Value.{Value}
use Rattle.species_ast.specs.declared.tree.Value.TheVariants as value
use Rattle.species_ast.specs.Scope.Forms.{Form, sum_of, form_value, constant_form, one_at, added_coefficients, sum_form, scaled, negated, is_constant, is_within, limited, product_form, of_both, form_step, form_of, iterators_at, iterators_in}
use Rattle.species_ast.specs.Scope.Hulls.{form_or_zero, bound_form}
use Rattle.species_ast.specs.Scope.WellMade.{is_made_bound}
use Rattle.species_ast.proofs.Folds.{fold_expr-Literal, fold_expr-Iter, fold_expr-Local, fold_expr-Elem, fold_expr-Unary, fold_expr-Binary, fold_expr-And, fold_expr-Or, fold_expr-Cond, fold_expr-Cast}
use Rattle.species_ast.proofs.Induction.{expr_ind}

-- ---- forms

-- no coefficient of a level from n on
abbrev pub IsShort : ℕ → Form → Type 0
IsShort n f = length f.coefficients ≤ n

abbrev IsShortIf : ℕ → Option Form → Type 0
IsShortIf n (Some f) = IsShort n f
IsShortIf n None = Unit {0}

short_limited : (n : ℕ) (f : Form) → IsShort n f → IsShortIf n (limited f)
short_limited n f h = go (is_within f.constant && list_all is_within f.coefficients)
  where
    go : (t : Bool) → IsShortIf n (if t then Some f else None)
    go true = h
    go false = tt

length_one : (level : ℕ) → length (one_at level) ≡ suc level
length_one zero = refl
length_one (suc level) = omega (arith, length_one level)

short_added : (n : ℕ) (cs ds : List ℤ) → length cs ≤ n → length ds ≤ n → length (added_coefficients cs ds) ≤ n
short_added n [] ds h k = k
short_added n (c ∷ cs) [] h k = h
short_added zero (c ∷ cs) (d ∷ ds) h k = absurd (omega (arith, h))
short_added (suc n) (c ∷ cs) (d ∷ ds) h k = omega (arith, short_added n cs ds (omega (arith, h)) (omega (arith, k)))

short_negated : (n : ℕ) (f : Form) → IsShort n f → IsShort n (negated f)
short_negated n f h = omega (arith, length-map f.coefficients neg_ℤ, h)

short_scaled : (n : ℕ) (a : ℤ) (f : Form) → IsShort n f → IsShort n (scaled a f)
short_scaled n a f h = omega (arith, length-map f.coefficients (λ (c : ℤ). a *ℤ c), h)

short_product : (n : ℕ) (f g : Form) → IsShort n f → IsShort n g → IsShortIf n (product_form f g)
short_product n f g h k = go (is_constant f) (is_constant g)
  where
    go : (s t : Bool) → IsShortIf n (if s then limited (scaled f.constant g) else if t then limited (scaled g.constant f) else None)
    go true t = short_limited n (scaled f.constant g) (short_scaled n f.constant g k)
    go false true = short_limited n (scaled g.constant f) (short_scaled n g.constant f h)
    go false false = tt

short_unary : (n : ℕ) (op : Unary) (o : Option Form) → IsShortIf n o → IsShortIf n (form_step (Expr-F.Unary op o))
short_unary n unary.Neg (Some f) h = short_limited n (negated f) (short_negated n f h)
short_unary n unary.Neg None h = tt
short_unary n unary.Not o h = tt
short_unary n unary.LogNot o h = tt

short_both : (n : ℕ) (join : Form → Form → Option Form) → ((f g : Form) → IsShort n f → IsShort n g → IsShortIf n (join f g)) → (o q : Option Form) → IsShortIf n o → IsShortIf n q → IsShortIf n (of_both join o q)
short_both n join both None q h k = tt
short_both n join both (Some f) None h k = tt
short_both n join both (Some f) (Some g) h k = both f g h k

short_binary : (n : ℕ) (op : Binary) (o q : Option Form) → IsShortIf n o → IsShortIf n q → IsShortIf n (form_step (Expr-F.Binary op o q))
short_binary n binary.Add o q h k = short_both n (λ f g. limited (sum_form f g)) (λ f g a b. short_limited n (sum_form f g) (short_added n f.coefficients g.coefficients a b)) o q h k
short_binary n binary.Sub o q h k =
    short_both n (λ f g. limited (sum_form f (negated g))) (λ f g a b. short_limited n (sum_form f (negated g)) (short_added n f.coefficients (map neg_ℤ g.coefficients) a (short_negated n g b))) o q h k
short_binary n binary.Mul o q h k = short_both n product_form (λ f g a b. short_product n f g a b) o q h k
short_binary n binary.Div o q h k = tt
short_binary n binary.Rem o q h k = tt
short_binary n binary.Shl o q h k = tt
short_binary n binary.Shr o q h k = tt
short_binary n binary.Lt o q h k = tt
short_binary n binary.Le o q h k = tt
short_binary n binary.Gt o q h k = tt
short_binary n binary.Ge o q h k = tt
short_binary n binary.Eq o q h k = tt
short_binary n binary.Ne o q h k = tt
short_binary n binary.BitAnd o q h k = tt
short_binary n binary.BitXor o q h k = tt
short_binary n binary.BitOr o q h k = tt

-- ---- expressions

abbrev AreBelow : ℕ → List ℕ → Type 0
AreBelow n ls = list_all (λ i. nat_lt i n) ls ≡ true

abbrev NamesBelow : Expr → Type 0
NamesBelow x = (n : ℕ) → AreBelow n (iterators_in x) → IsShortIf n (form_of x)

two_below : (n : ℕ) (ls ks : List ℕ) → AreBelow n (ls ++ ks) → AreBelow n ls × AreBelow n ks
two_below n ls ks h = and_parts (list_all (λ i. nat_lt i n) ls) (list_all (λ i. nat_lt i n) ks) (sym (list_all-append (λ i. nat_lt i n) ls ks) ∙ h)

short_as : (n : ℕ) (x : Expr) (o : Option Form) → form_of x ≡ o → IsShortIf n o → IsShortIf n (form_of x)
short_as n x o p h = subst (IsShortIf n) (sym p) h

short_literal : (n : ℕ) (v : Value) → IsShortIf n (form_step (Expr-F.Literal v))
short_literal n (value.Int k) = short_limited n (constant_form k) (omega arith)
short_literal n (value.Unsigned k) = tt
short_literal n (value.Long k) = tt
short_literal n (value.UnsignedLong k) = tt

names_below : (x : Expr) → NamesBelow x
names_below = expr_ind NamesBelow (record {
  literal = λ v n h. short_as n _ _ (fold_expr-Literal form_step v) (short_literal n v);
  iter = λ level n h.
      let first : nat_lt level n ≡ true = (and_parts (nat_lt level n) true (sym (ap (λ (ls : List ℕ). list_all (λ i. nat_lt i n) ls) (fold_expr-Iter iterators_at level)) ∙ h)).0 in
      short_as n _ _ (fold_expr-Iter form_step level) (grind (arith, nat_tests, first, length_one level));
  local = λ x n h. short_as n _ _ (fold_expr-Local form_step x) tt;
  elem = λ a subs each n h. short_as n _ _ (fold_expr-Elem form_step a subs) tt;
  unary = λ op a k n h.
      short_as n _ _ (fold_expr-Unary form_step op a) (short_unary n op (form_of a) (k n (sym (ap (λ (ls : List ℕ). list_all (λ i. nat_lt i n) ls) (fold_expr-Unary iterators_at op a)) ∙ h)));
  binary = λ op a b j k n h.
      let both = two_below n (iterators_in a) (iterators_in b) (sym (ap (λ (ls : List ℕ). list_all (λ i. nat_lt i n) ls) (fold_expr-Binary iterators_at op a b)) ∙ h) in
      short_as n _ _ (fold_expr-Binary form_step op a b) (short_binary n op (form_of a) (form_of b) (j n both.0) (k n both.1));
  both = λ a b j k n h. short_as n _ _ (fold_expr-And form_step a b) tt;
  either = λ a b j k n h. short_as n _ _ (fold_expr-Or form_step a b) tt;
  cond = λ c a b l j k n h. short_as n _ _ (fold_expr-Cond form_step c a b) tt;
  cast = λ kind a k n h. short_as n _ _ (fold_expr-Cast form_step kind a) tt;
})

pub short_bound : (n : ℕ) (x : Expr) → is_made_bound n x ≡ true → IsShort n (bound_form x)
short_bound n x h = go (form_of x) (names_below x n (and_parts (is_some (form_of x)) (list_all (λ i. nat_lt i n) (iterators_in x)) h).1)
  where
    go : (o : Option Form) → IsShortIf n o → IsShort n (form_or_zero o)
    go (Some f) k = k
    go None k = omega arith

-- ---- values

sum_short : (cs before more : List ℤ) → length cs ≤ length before → sum_of cs (before ++ more) ≡ sum_of cs before
sum_short [] before more h = refl
sum_short (c ∷ cs) [] more h = absurd (omega (arith, h))
sum_short (c ∷ cs) (i ∷ before) more h = ap (λ (z : ℤ). c *ℤ i +ℤ z) (sum_short cs before more (omega (arith, h)))

pub value_short : (f : Form) (before more : List ℤ) → IsShort (length before) f → form_value f (before ++ more) ≡ form_value f before
value_short f before more h = ap (λ (z : ℤ). f.constant +ℤ z) (sum_short f.coefficients before more h)
