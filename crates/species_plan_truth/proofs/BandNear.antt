-- The numbers in the bounds of a band are small.
use Rattle.std.proofs.Common.{◌≡◌, refl, sym, subst, arith, ℕ, zero, suc, ◌*◌, ◌/◌, ◌≤◌, ◌^◌, Bool, true, false, ◌&&◌, if◌then◌else◌, List, [], ◌∷◌, slice_index_or, ℤ, pos, negsuc, ◌-ℤ◌, ◌*ℤ◌, Option, Some, None}
use Rattle.std.specs.Prelude.{int_le}
use Rattle.std.specs.Int.RustNames.{unsigned_abs}
use Rattle.std.specs.List.{list_all}
use Rattle.std.proofs.lemmas.Bool.{and_parts}
use Rattle.std.proofs.lemmas.Bool.Decides.{nat_tests}
use Rattle.std.proofs.lemmas.Int.{unsigned_abs-mul}
use Rattle.species_affine.specs.Subscript.{IsSameForm}
use Rattle.species_arcs.specs.Pairwise.{Pairwise}
use Rattle.species_ast.specs.Scope.Forms as text
use Rattle.species_ast.specs.Scope.Forms.{form_limit, constant_form, one_at, iterator_form, sum_form, scaled, negated, is_constant, is_within, limited, product_form, of_both, form_step, form_of}
use Rattle.species_ast.specs.Scope.Hulls.{form_or_zero, bound_form, last_form, last_value, fixed_range}
use Rattle.species_ast.specs.declared.tree.Binary.{Binary}
use Rattle.species_ast.specs.declared.tree.Binary.TheVariants as binary
use Rattle.species_ast.specs.declared.tree.Expr.{Expr}
use Rattle.species_ast.specs.declared.tree.Expr.TheOpen.{Expr-F}
use Rattle.species_ast.specs.declared.tree.Loop.{Loop, out-Loop}
use Rattle.species_ast.specs.declared.tree.Test.{Test}
use Rattle.species_ast.specs.declared.tree.Test.TheVariants.{Lt, Le, Gt, Ge}
use Rattle.species_ast.specs.declared.tree.Unary.{Unary}
use Rattle.species_ast.specs.declared.tree.Unary.TheVariants as unary
use Rattle.species_ast.specs.declared.tree.Value.{Value}
use Rattle.species_ast.specs.declared.tree.Value.TheVariants as value
use Rattle.species_ast.proofs.Folds.{fold_expr-Literal, fold_expr-Iter, fold_expr-Local, fold_expr-Elem, fold_expr-Unary, fold_expr-Binary, fold_expr-And, fold_expr-Or, fold_expr-Cond, fold_expr-Cast}
use Rattle.species_ast.proofs.Induction.{expr_ind}
use Rattle.species_integers.proofs.Sizes.{abs_sum, abs_difference}
use Rattle.species_linear.specs.declared.forms.Form.{Form}
use Rattle.species_lines.specs.Lines.{NamesOutside}
use Rattle.species_linear.specs.Value.{NamesOnly}
use Rattle.species_merge.specs.Bounds.{range_ends, ends_by, ends_of, IsBoundOf}
use Rattle.species_merge.specs.declared.bands.BandBound.{BandBound}
use Rattle.species_merge.proofs.Folding.{Each}
use Rattle.species_nests.specs.Nests.{Placed}
use Rattle.species_plan_truth.proofs.BandReadable.{each_term, IsNearForm, IsNear}

-- ---- forms of expressions

-- the constant is at most so large, and each coefficient is within the limit of a form
record Fits (m : ℕ) (f : text.Form) : Type 0 where
  constant : unsigned_abs f.constant ≤ m
  coefficients : Each (λ c. unsigned_abs c ≤ form_limit) f.coefficients

abbrev FitsIf : Option text.Form → Type 0
FitsIf (Some f) = Fits form_limit f
FitsIf None = Unit {0}

each_within : (cs : List ℤ) → list_all is_within cs ≡ true → Each (λ c. unsigned_abs c ≤ form_limit) cs
each_within [] h = tt
each_within (c ∷ cs) h = let parts = and_parts (is_within c) (list_all is_within cs) h in (grind (arith, nat_tests, parts.0), each_within cs parts.1)

fits_limited : (f : text.Form) → FitsIf (limited f)
fits_limited f = go (is_within f.constant && list_all is_within f.coefficients) refl
  where
    go : (t : Bool) → (is_within f.constant && list_all is_within f.coefficients) ≡ t → FitsIf (if t then Some f else None)
    go true is =
        let parts = and_parts (is_within f.constant) (list_all is_within f.coefficients) is in
        record { constant = grind (arith, nat_tests, parts.0); coefficients = each_within f.coefficients parts.1 }
    go false is = tt

fits_one : (level : ℕ) → Each (λ c. unsigned_abs c ≤ form_limit) (one_at level)
fits_one zero = (omega arith, tt)
fits_one (suc level) = (omega arith, fits_one level)

fits_product : (f g : text.Form) → FitsIf (product_form f g)
fits_product f g = go (is_constant f) (is_constant g)
  where
    go : (s t : Bool) → FitsIf (if s then limited (scaled f.constant g) else if t then limited (scaled g.constant f) else None)
    go true t = fits_limited (scaled f.constant g)
    go false true = fits_limited (scaled g.constant f)
    go false false = tt

fits_unary : (op : Unary) (o : Option text.Form) → FitsIf (form_step (Expr-F.Unary op o))
fits_unary unary.Neg (Some f) = fits_limited (negated f)
fits_unary unary.Neg None = tt
fits_unary unary.Not o = tt
fits_unary unary.LogNot o = tt

fits_both : (join : text.Form → text.Form → Option text.Form) → ((f g : text.Form) → FitsIf (join f g)) → (o q : Option text.Form) → FitsIf (of_both join o q)
fits_both join both None q = tt
fits_both join both (Some f) None = tt
fits_both join both (Some f) (Some g) = both f g

fits_binary : (op : Binary) (o q : Option text.Form) → FitsIf (form_step (Expr-F.Binary op o q))
fits_binary binary.Add o q = fits_both (λ f g. limited (sum_form f g)) (λ f g. fits_limited (sum_form f g)) o q
fits_binary binary.Sub o q = fits_both (λ f g. limited (sum_form f (negated g))) (λ f g. fits_limited (sum_form f (negated g))) o q
fits_binary binary.Mul o q = fits_both product_form fits_product o q
fits_binary binary.Div o q = tt
fits_binary binary.Rem o q = tt
fits_binary binary.Shl o q = tt
fits_binary binary.Shr o q = tt
fits_binary binary.Lt o q = tt
fits_binary binary.Le o q = tt
fits_binary binary.Gt o q = tt
fits_binary binary.Ge o q = tt
fits_binary binary.Eq o q = tt
fits_binary binary.Ne o q = tt
fits_binary binary.BitAnd o q = tt
fits_binary binary.BitXor o q = tt
fits_binary binary.BitOr o q = tt

fits_literal : (v : Value) → FitsIf (form_step (Expr-F.Literal v))
fits_literal (value.Int k) = fits_limited (constant_form k)
fits_literal (value.Unsigned k) = tt
fits_literal (value.Long k) = tt
fits_literal (value.UnsignedLong k) = tt

fits_as : (x : Expr) (o : Option text.Form) → form_of x ≡ o → FitsIf o → FitsIf (form_of x)
fits_as x o p h = subst FitsIf (sym p) h

form_fits : (x : Expr) → FitsIf (form_of x)
form_fits = expr_ind (λ x. FitsIf (form_of x)) (record {
  literal = λ v. fits_as _ _ (fold_expr-Literal form_step v) (fits_literal v);
  iter = λ level. fits_as _ (Some (iterator_form level)) (fold_expr-Iter form_step level) (record { constant = omega arith; coefficients = fits_one level });
  local = λ x. fits_as _ _ (fold_expr-Local form_step x) tt;
  elem = λ a subs each. fits_as _ _ (fold_expr-Elem form_step a subs) tt;
  unary = λ op a k. fits_as _ _ (fold_expr-Unary form_step op a) (fits_unary op (form_of a));
  binary = λ op a b j k. fits_as _ _ (fold_expr-Binary form_step op a b) (fits_binary op (form_of a) (form_of b));
  both = λ a b j k. fits_as _ _ (fold_expr-And form_step a b) tt;
  either = λ a b j k. fits_as _ _ (fold_expr-Or form_step a b) tt;
  cond = λ c a b l j k. fits_as _ _ (fold_expr-Cond form_step c a b) tt;
  cast = λ kind a k. fits_as _ _ (fold_expr-Cast form_step kind a) tt;
})

bound_fits : (x : Expr) → Fits form_limit (bound_form x)
bound_fits x = go (form_of x) (form_fits x)
  where
    go : (o : Option text.Form) → FitsIf o → Fits form_limit (form_or_zero o)
    go (Some f) h = h
    go None h = record { constant = omega arith; coefficients = tt }

-- ---- ends

abbrev most : ℕ
most = 2147483648

last_fits : (test : Test) (f : text.Form) → Fits form_limit f → Fits most (last_form test f)
last_fits Lt f h = record { constant = omega (arith, abs_difference f.constant (pos 1), h.constant); coefficients = h.coefficients }
last_fits Le f h = record { constant = omega (arith, h.constant); coefficients = h.coefficients }
last_fits Gt f h = record { constant = omega (arith, abs_sum f.constant (pos 1), h.constant); coefficients = h.coefficients }
last_fits Ge f h = record { constant = omega (arith, h.constant); coefficients = h.coefficients }

-- whole steps are no longer than the way
steps_within : (step : ℤ) (way : ℕ) → unsigned_abs (pos (way / unsigned_abs step) *ℤ step) ≤ way
steps_within step way =
    let whole : unsigned_abs (pos (way / unsigned_abs step) *ℤ step) ≡ (way / unsigned_abs step) * unsigned_abs step = unsigned_abs-mul (pos (way / unsigned_abs step)) step in
    omega (arith, whole, div_le way (unsigned_abs step))
  where
    div_le : (x n : ℕ) → (x / n) * n ≤ x
    div_le x zero = omega arith
    div_le x (suc n) = grind arith

far_fits : (t : Bool) (step a b : ℤ) → unsigned_abs a ≤ most → unsigned_abs b ≤ most → unsigned_abs (if t then last_value step a b else b) ≤ 2 ^ 33
far_fits true step a b h k =
    let way = unsigned_abs (b -ℤ a) in
    let sum = abs_sum a (pos (way / unsigned_abs step) *ℤ step) in
    omega (arith, sum, steps_within step way, abs_difference b a, h, k)
far_fits false step a b h k = omega (arith, k)

record EndsFit (low high : text.Form) : Type 0 where
  least : Fits (2 ^ 33) low
  greatest : Fits (2 ^ 33) high

wider : (f : text.Form) → Fits most f → Fits (2 ^ 33) f
wider f h = record { constant = omega (arith, h.constant); coefficients = h.coefficients }

fixed_fits : (step a b : ℤ) → unsigned_abs a ≤ most → unsigned_abs b ≤ most → EndsFit (range_ends (fixed_range step a b)).least (range_ends (fixed_range step a b)).greatest
fixed_fits (pos n) a b h k = record {
  least = record { constant = omega (arith, h); coefficients = tt };
  greatest = record { constant = far_fits (int_le a b) (pos n) a b h k; coefficients = tt };
}
fixed_fits (negsuc n) a b h k = record {
  least = record { constant = far_fits (int_le b a) (negsuc n) a b h k; coefficients = tt };
  greatest = record { constant = omega (arith, h); coefficients = tt };
}

by_sign : (step : ℤ) (first last : text.Form) → Fits most first → Fits most last → EndsFit (ends_by step first last).least (ends_by step first last).greatest
by_sign (pos n) first last h k = record { least = wider first h; greatest = wider last k }
by_sign (negsuc n) first last h k = record { least = wider last k; greatest = wider first h }

between : (t : Bool) (step : ℤ) (first last : text.Form) → Fits most first → Fits most last
    → let e = if t then range_ends (fixed_range step first.constant last.constant) else ends_by step first last in EndsFit e.least e.greatest
between true step first last h k = fixed_fits step first.constant last.constant h.constant k.constant
between false step first last h k = by_sign step first last h k

coefficient_fits : (cs : List ℤ) (k : ℕ) → Each (λ c. unsigned_abs c ≤ form_limit) cs → unsigned_abs (slice_index_or cs k (pos 0)) ≤ 2 ^ 32
coefficient_fits [] k h = omega arith
coefficient_fits (c ∷ cs) zero h = omega (arith, h.0)
coefficient_fits (c ∷ cs) (suc k) h = coefficient_fits cs k h.1

near_form : (outer : ℕ) (f : Form) (g : text.Form) → IsSameForm f g → NamesOnly f outer → Fits (2 ^ 33) g → IsNearForm outer f
near_form outer f g same named fits = record {
  rising = same.rising;
  named = named;
  constant = subst (λ (z : ℤ). unsigned_abs z ≤ 2 ^ 33) (sym same.constant) fits.constant;
  terms = each_term (λ level c. unsigned_abs c ≤ 2 ^ 32) 0 f.terms same.rising (λ level any some.
      subst (λ (z : ℤ). unsigned_abs z ≤ 2 ^ 32) (sym (same.coefficients level)) (coefficient_fits g.coefficients level fits.coefficients));
}

near_bound : (outer : ℕ) (l : Loop) (b : BandBound) → IsBoundOf (out-Loop l) b → NamesOutside outer b → IsNear outer b
near_bound outer l b is named =
    let x = out-Loop l in
    let first = bound_form x.start in
    let last = last_form x.test (bound_form x.limit) in
    let start : Fits most first = let h = bound_fits x.start in record { constant = omega (arith, h.constant); coefficients = h.coefficients } in
    let ends = between (is_constant first && is_constant last) x.step first last start (last_fits x.test (bound_form x.limit) (bound_fits x.limit)) in
    (near_form outer b.least (ends_of x).least is.least named.0 ends.least, near_form outer b.greatest (ends_of x).greatest is.greatest named.1 ends.greatest)

-- The law: of bounds that name iterators of the loops outside alone.
pub bounds_near : (outer : ℕ) (ps : List Placed) (bs : List BandBound) → Pairwise (λ p b. IsBoundOf (out-Loop p.loop) b) ps bs → Each (NamesOutside outer) bs → Each (IsNear outer) bs
bounds_near outer [] [] is named = tt
bounds_near outer [] (b ∷ bs) is named = absurd is
bounds_near outer (p ∷ ps) [] is named = absurd is
bounds_near outer (p ∷ ps) (b ∷ bs) is named = (near_bound outer p.loop b is.0 named.0, bounds_near outer ps bs is.1 named.1)
