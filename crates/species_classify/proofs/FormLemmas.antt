-- The form of an expression of a well made unit names iterators of the loops around it alone, and its constant is within the limit.
use Rattle.std.proofs.Common.{◌≡◌, refl, ap, sym, ◌∙◌, subst, arith, ℕ, zero, suc, ◌<◌, ◌≤◌, Bool, true, false, ◌&&◌, if◌then◌else◌, nat_lt, List, [], ◌∷◌, length, ℤ, neg_ℤ, ◌*ℤ◌, Option, Some, None}
use Rattle.std.proofs.lemmas.List.{length-map}
use Rattle.std.specs.Prelude.{unsigned_abs}
use Rattle.std.specs.List.{list_all}
use Rattle.std.proofs.lemmas.Bool.{and_parts}
use Rattle.std.proofs.lemmas.Bool.Decides.{nat_tests}
use Rattle.species_ast.specs.declared.tree.Value.{Value}
use Rattle.species_ast.specs.declared.tree.Value.TheVariants.{Int, Unsigned, Long, UnsignedLong}
use Rattle.species_ast.specs.declared.tree.Unary.{Unary}
use Rattle.species_ast.specs.declared.tree.Unary.TheVariants.{Neg, Not, LogNot}
use Rattle.species_ast.specs.declared.tree.Binary.{Binary}
use Rattle.species_ast.specs.declared.tree.Binary.TheVariants.{Mul, Div, Rem, Add, Sub, Shl, Shr, Lt, Le, Gt, Ge, Eq, Ne, BitAnd, BitXor, BitOr}
use Rattle.species_ast.specs.declared.tree.Expr.{Expr}
use Rattle.species_ast.specs.declared.tree.Expr.TheOpen.{Expr-F}
use Rattle.species_ast.specs.Scope.Forms.{Form, form_of, form_step, form_limit, is_within, limited, is_constant, constant_form, iterator_form, one_at, added_coefficients, sum_form, scaled, negated, product_form, of_both}
use Rattle.species_ast.specs.Scope.WellMade.{Around, is_made, is_made_at}
use Rattle.species_ast.proofs.Folds.{fold_expr-Literal, fold_expr-Iter, fold_expr-Local, fold_expr-Elem, fold_expr-Unary, fold_expr-Binary, fold_expr-And, fold_expr-Or, fold_expr-Cond, fold_expr-Cast}
use Rattle.species_ast.proofs.Induction.{expr_ind}

-- the constant is within the limit; and if the test is passed, there are as many coefficients as levels at most
pub record IsOver (n : ℕ) (b : Bool) (f : Form) : Type 0 where
  pub levels : b ≡ true → length f.coefficients ≤ n
  pub constant : unsigned_abs f.constant ≤ form_limit

abbrev AreOver : ℕ → Bool → Option Form → Type 0
AreOver n b o = (f : Form) → o ≡ Some f → IsOver n b f

none_over : (n : ℕ) (b : Bool) (o : Option Form) → o ≡ None → AreOver n b o
none_over n b o none f is = absurd (apart (sym none ∙ is))
  where
    apart : None ≡ Some f → ⊥
    apart e = cc

limited_over : (n : ℕ) (b : Bool) (g f : Form) → limited g ≡ Some f → (b ≡ true → length g.coefficients ≤ n) → IsOver n b f
limited_over n b g f is few = go (is_within g.constant && list_all is_within g.coefficients) refl is
  where
    go : (t : Bool) → (is_within g.constant && list_all is_within g.coefficients) ≡ t → (if t then Some g else None) ≡ Some f → IsOver n b f
    go true test e =
        let same : g ≡ f = cc in
        let within : is_within g.constant ≡ true = (and_parts (is_within g.constant) (list_all is_within g.coefficients) test).0 in
        subst (IsOver n b) same (record { levels = few; constant = grind (arith, nat_tests, within) })
    go false test e = absurd cc

one_length : (level : ℕ) → length (one_at level) ≡ suc level
one_length zero = refl
one_length (suc level) = ap suc (one_length level)

added_length : (cs ds : List ℤ) (n : ℕ) → length cs ≤ n → length ds ≤ n → length (added_coefficients cs ds) ≤ n
added_length [] ds n h k = k
added_length (c ∷ cs) [] n h k = h
added_length (c ∷ cs) (d ∷ ds) zero h k = absurd (omega (arith, h))
added_length (c ∷ cs) (d ∷ ds) (suc n) h k = omega (arith, added_length cs ds n (omega (arith, h)) (omega (arith, k)))

scaled_over : (n : ℕ) (b : Bool) (c : ℤ) (g f : Form) → limited (scaled c g) ≡ Some f → (b ≡ true → length g.coefficients ≤ n) → IsOver n b f
scaled_over n b c g f is few = limited_over n b (scaled c g) f is (λ t. omega (arith, few t, length-map g.coefficients (λ z. c *ℤ z)))

negated_few : (n : ℕ) (g : Form) → length g.coefficients ≤ n → length (negated g).coefficients ≤ n
negated_few n g few = omega (arith, few, length-map g.coefficients neg_ℤ)

product_over : (n : ℕ) (b : Bool) (g h f : Form) → product_form g h ≡ Some f → (b ≡ true → length g.coefficients ≤ n) → (b ≡ true → length h.coefficients ≤ n) → IsOver n b f
product_over n b g h f is few few_other = go (is_constant g) (is_constant h) is
  where
    go : (s t : Bool) → (if s then limited (scaled g.constant h) else if t then limited (scaled h.constant g) else None) ≡ Some f → IsOver n b f
    go true t e = scaled_over n b g.constant h f e few_other
    go false true e = scaled_over n b h.constant g f e few
    go false false e = absurd cc

-- ---- parts

of_both_over : (n : ℕ) (join : Form → Form → Option Form) (o p : Option Form) (a b : Bool)
    → ((g h f : Form) → join g h ≡ Some f → ((a && b) ≡ true → length g.coefficients ≤ n) → ((a && b) ≡ true → length h.coefficients ≤ n) → IsOver n (a && b) f)
    → AreOver n a o → AreOver n b p → AreOver n (a && b) (of_both join o p)
of_both_over n join None p a b j h k = none_over n (a && b) None refl
of_both_over n join (Some s) None a b j h k = none_over n (a && b) None refl
of_both_over n join (Some s) (Some t) a b j h k = λ f is. j s t f is (λ test. (h s refl).levels (and_parts a b test).0) (λ test. (k t refl).levels (and_parts a b test).1)

unary_over : (n : ℕ) (op : Unary) (o : Option Form) (a : Bool) → AreOver n a o → AreOver n a (form_step (Expr-F.Unary op o))
unary_over n Neg None a h = none_over n a None refl
unary_over n Neg (Some g) a h = λ f is. limited_over n a (negated g) f is (λ t. negated_few n g ((h g refl).levels t))
unary_over n Not o a h = none_over n a None refl
unary_over n LogNot o a h = none_over n a None refl

binary_over : (n : ℕ) (op : Binary) (o p : Option Form) (a b : Bool) → AreOver n a o → AreOver n b p → AreOver n (a && b) (form_step (Expr-F.Binary op o p))
binary_over n Add o p a b h k = of_both_over n (λ f g. limited (sum_form f g)) o p a b
    (λ g g' f is few more. limited_over n (a && b) (sum_form g g') f is (λ t. added_length g.coefficients g'.coefficients n (few t) (more t))) h k
binary_over n Sub o p a b h k = of_both_over n (λ f g. limited (sum_form f (negated g))) o p a b
    (λ g g' f is few more. limited_over n (a && b) (sum_form g (negated g')) f is (λ t. added_length g.coefficients (negated g').coefficients n (few t) (negated_few n g' (more t)))) h k
binary_over n Mul o p a b h k = of_both_over n product_form o p a b (product_over n (a && b)) h k
binary_over n Div o p a b h k = none_over n (a && b) None refl
binary_over n Rem o p a b h k = none_over n (a && b) None refl
binary_over n Shl o p a b h k = none_over n (a && b) None refl
binary_over n Shr o p a b h k = none_over n (a && b) None refl
binary_over n Lt o p a b h k = none_over n (a && b) None refl
binary_over n Le o p a b h k = none_over n (a && b) None refl
binary_over n Gt o p a b h k = none_over n (a && b) None refl
binary_over n Ge o p a b h k = none_over n (a && b) None refl
binary_over n Eq o p a b h k = none_over n (a && b) None refl
binary_over n Ne o p a b h k = none_over n (a && b) None refl
binary_over n BitAnd o p a b h k = none_over n (a && b) None refl
binary_over n BitXor o p a b h k = none_over n (a && b) None refl
binary_over n BitOr o p a b h k = none_over n (a && b) None refl

literal_over : (n : ℕ) (v : Value) → AreOver n true (form_step (Expr-F.Literal v))
literal_over n (Int k) = λ f is. limited_over n true (constant_form k) f is (λ t. omega arith)
literal_over n (Unsigned k) = none_over n true None refl
literal_over n (Long k) = none_over n true None refl
literal_over n (UnsignedLong k) = none_over n true None refl

iterator_over : (n level : ℕ) → AreOver n (nat_lt level n) (Some (iterator_form level))
iterator_over n level f is =
    let same : iterator_form level ≡ f = cc in
    subst (IsOver n (nat_lt level n)) same (record { levels = λ t. few t; constant = omega arith })
  where
    few : nat_lt level n ≡ true → length (one_at level) ≤ n
    few t = let below : level < n = grind (arith, nat_tests, t) in omega (arith, below, one_length level)

-- ---- the law

both_from : (n : ℕ) (b c : Bool) (o p : Option Form) → b ≡ c → o ≡ p → AreOver n c p → AreOver n b o
both_from n b c o p s e h = λ f is. subst (λ t. IsOver n t f) (sym s) (h f (sym e ∙ is))

forms_over : (w : Around) (x : Expr) → AreOver w.level (is_made w x) (form_of x)
forms_over w = expr_ind (λ x. AreOver w.level (is_made w x) (form_of x)) (record {
  literal = λ v. both_from w.level _ _ _ _ (fold_expr-Literal (is_made_at w) v) (fold_expr-Literal form_step v) (literal_over w.level v);
  iter = λ level. both_from w.level _ _ _ _ (fold_expr-Iter (is_made_at w) level) (fold_expr-Iter form_step level) (iterator_over w.level level);
  local = λ x. none_over w.level _ _ (fold_expr-Local form_step x);
  elem = λ a subs h. none_over w.level _ _ (fold_expr-Elem form_step a subs);
  unary = λ op a h. both_from w.level _ _ _ _ (fold_expr-Unary (is_made_at w) op a) (fold_expr-Unary form_step op a) (unary_over w.level op (form_of a) (is_made w a) h);
  binary = λ op a b h k. both_from w.level _ _ _ _ (fold_expr-Binary (is_made_at w) op a b) (fold_expr-Binary form_step op a b) (binary_over w.level op (form_of a) (form_of b) (is_made w a) (is_made w b) h k);
  both = λ a b h k. none_over w.level _ _ (fold_expr-And form_step a b);
  either = λ a b h k. none_over w.level _ _ (fold_expr-Or form_step a b);
  cond = λ c a b l h k. none_over w.level _ _ (fold_expr-Cond form_step c a b);
  cast = λ k a h. none_over w.level _ _ (fold_expr-Cast form_step k a);
})

-- the form of an expression that is made names iterators of loops around it alone
pub form_over : (w : Around) (x : Expr) (f : Form) → is_made w x ≡ true → form_of x ≡ Some f → length f.coefficients ≤ w.level
form_over w x f made is = (forms_over w x f is).levels made

nowhere : Around
nowhere = record { arrays = []; locals = []; level = 0 }

-- the constant of any form is within the limit
pub form_constant : (x : Expr) (f : Form) → form_of x ≡ Some f → unsigned_abs f.constant ≤ form_limit
form_constant x f is = (forms_over nowhere x f is).constant
