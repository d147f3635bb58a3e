-- What operators give is the value of the form that they have, and indices are the values of the forms of their subscripts.
use Rattle.std.proofs.Common.{◌≡◌, refl, ap, sym, ◌∙◌, subst, arith, ℕ, zero, suc, Bool, true, false, ◌&&◌, if◌then◌else◌, List, [], ◌∷◌, ℤ, pos, negsuc, ◌+ℤ◌, ◌-ℤ◌, ◌*ℤ◌, neg_ℤ, Option, Some, None, Ok, Err}
use Rattle.std.specs.Prelude.{slice_get, unwrap_or, option_and_then, option_map, nat_lt}
use Rattle.std.specs.List.{list_all}
use Rattle.std.proofs.lemmas.Int.{ints}
use Rattle.species_ast.specs.declared.tree.Kind.TheVariants as kind
use Rattle.species_ast.specs.declared.tree.Value.{Value}
use Rattle.species_ast.specs.declared.tree.Value.TheVariants.{Int, Unsigned, Long, UnsignedLong}
use Rattle.species_ast.specs.declared.tree.Unary.{Unary}
use Rattle.species_ast.specs.declared.tree.Unary.TheVariants.{Neg, Not, LogNot}
use Rattle.species_ast.specs.declared.tree.Binary.{Binary}
use Rattle.species_ast.specs.declared.tree.Binary.TheVariants.{Mul, Div, Rem, Add, Sub, Shl, Shr, Lt, Le, Gt, Ge, Eq, Ne, BitAnd, BitXor, BitOr}
use Rattle.species_ast.specs.declared.tree.Expr.TheOpen.{Expr-F}
use Rattle.species_ast.specs.declared.trap.Undefined.TheVariants.{Overflow}
use Rattle.species_ast.specs.Operators.{Answer, number_of, fits, exact_in, reduced, binary_of, unary_of}
use Rattle.species_ast.specs.Evaluation.{index_in, indices_in}
use Rattle.species_ast.specs.Scope.Forms.{Form, form_step, limited, is_within, is_constant, constant_form, sum_form, negated, scaled, product_form, of_both, form_value}
use Rattle.species_occurrences.specs.Iterators.{IsInt, AreInts}
use Rattle.species_occurrences.specs.Affine.{IsFormValue, IsValueOf, AreValuesOf, IsIndexOf, AreIndicesOf}
use Rattle.species_occurrences.proofs.Numbers.{fits_int, reduced_int, within_int}
use Rattle.species_occurrences.proofs.FormLaws.{value-constant, value-iterator, value-sum, value-negated, value-scaled-left, value-scaled-right}

-- what an operator answers
abbrev pub IsAnswerOf : Option Form → List ℤ → Answer → Type 0
IsAnswerOf o iters (Ok v) = IsValueOf o iters v
IsAnswerOf o iters (Err why) = Unit {0}

any_answer : (iters : List ℤ) (a : Answer) → IsAnswerOf None iters a
any_answer iters (Ok v) = tt
any_answer iters (Err why) = tt

value_limited : (f : Form) (iters : List ℤ) (v : Value) → (is_within f.constant ≡ true → IsFormValue f iters v) → IsValueOf (limited f) iters v
value_limited f iters v h = go (is_within f.constant) (list_all is_within f.coefficients) refl
  where
    go : (s t : Bool) → is_within f.constant ≡ s → IsValueOf (if s && t then Some f else None) iters v
    go true true is = h is
    go true false is = tt
    go false t is = tt

-- ---- literals and iterators

pub value_literal : (v : Value) (iters : List ℤ) → IsValueOf (form_step (Expr-F.Literal v)) iters v
value_literal (Int n) iters = value_limited (constant_form n) iters (Int n) (λ h.
    let same = value-constant n iters in (ap Int (sym same), subst IsInt (sym same) (within_int n h)))
value_literal (Unsigned n) iters = tt
value_literal (Long n) iters = tt
value_literal (UnsignedLong n) iters = tt

int_at : (iters : List ℤ) (level : ℕ) → AreInts iters → IsInt (unwrap_or (slice_get iters level) (pos 0))
int_at [] level h = (omega (arith, ints), omega (arith, ints))
int_at (i ∷ iters) zero h = h.0
int_at (i ∷ iters) (suc level) h = int_at iters level h.1

pub value_iter : (level : ℕ) (iters : List ℤ) → AreInts iters → IsValueOf (form_step (Expr-F.Iter level)) iters (Int (unwrap_or (slice_get iters level) (pos 0)))
value_iter level iters h = let same = value-iterator level iters in (ap Int (sym same), subst IsInt (sym same) (int_at iters level h))

-- ---- operators

exact_answer : (f : Form) (iters : List ℤ) (n : ℤ) → form_value f iters ≡ n → IsAnswerOf (limited f) iters (exact_in kind.Int n)
exact_answer f iters n same = go (fits 32 n) refl
  where
    go : (t : Bool) → fits 32 n ≡ t → IsAnswerOf (limited f) iters (if t then Ok (Int n) else Err Overflow)
    go true h = value_limited f iters (Int n) (λ _. (ap Int (sym same), subst IsInt (sym same) (fits_int n h)))
    go false h = tt

-- an operator on two numbers of the kind `int`
on_ints : (P : Answer → Type 0) (k : ℤ → ℤ → Answer) (a b : ℤ) → IsInt a → IsInt b → P (k a b) → P (k (reduced kind.Int a) (reduced kind.Int b))
on_ints P k a b p q h = subst (λ z. P (k z (reduced kind.Int b))) (sym (reduced_int a p)) (subst (λ z. P (k a z)) (sym (reduced_int b q)) h)

sum_answer : (o q : Option Form) (iters : List ℤ) (x y : Value) → IsValueOf o iters x → IsValueOf q iters y
    → IsAnswerOf (of_both (λ f g. limited (sum_form f g)) o q) iters (binary_of Add x y)
sum_answer None q iters x y h k = any_answer iters (binary_of Add x y)
sum_answer (Some f) None iters x y h k = any_answer iters (binary_of Add x y)
sum_answer (Some f) (Some g) iters x y h k =
    let P = IsAnswerOf (limited (sum_form f g)) iters in
    subst (λ z. P (binary_of Add z y)) (sym h.0)
    (subst (λ z. P (binary_of Add (Int (form_value f iters)) z)) (sym k.0)
    (on_ints P (λ a b. exact_in kind.Int (a +ℤ b)) (form_value f iters) (form_value g iters) h.1 k.1
    (exact_answer (sum_form f g) iters (form_value f iters +ℤ form_value g iters) (value-sum f g iters))))

difference : (f g : Form) (iters : List ℤ) → form_value (sum_form f (negated g)) iters ≡ form_value f iters -ℤ form_value g iters
difference f g iters = omega (arith, ints, value-sum f (negated g) iters, value-negated g iters)

difference_answer : (o q : Option Form) (iters : List ℤ) (x y : Value) → IsValueOf o iters x → IsValueOf q iters y
    → IsAnswerOf (of_both (λ f g. limited (sum_form f (negated g))) o q) iters (binary_of Sub x y)
difference_answer None q iters x y h k = any_answer iters (binary_of Sub x y)
difference_answer (Some f) None iters x y h k = any_answer iters (binary_of Sub x y)
difference_answer (Some f) (Some g) iters x y h k =
    let P = IsAnswerOf (limited (sum_form f (negated g))) iters in
    subst (λ z. P (binary_of Sub z y)) (sym h.0)
    (subst (λ z. P (binary_of Sub (Int (form_value f iters)) z)) (sym k.0)
    (on_ints P (λ a b. exact_in kind.Int (a -ℤ b)) (form_value f iters) (form_value g iters) h.1 k.1
    (exact_answer (sum_form f (negated g)) iters (form_value f iters -ℤ form_value g iters) (difference f g iters))))

exact_product : (f g : Form) (iters : List ℤ) → IsAnswerOf (product_form f g) iters (exact_in kind.Int (form_value f iters *ℤ form_value g iters))
exact_product f g iters = go (is_constant f) (is_constant g) refl refl
  where
    go : (s t : Bool) → is_constant f ≡ s → is_constant g ≡ t
        → IsAnswerOf (if s then limited (scaled f.constant g) else if t then limited (scaled g.constant f) else None) iters (exact_in kind.Int (form_value f iters *ℤ form_value g iters))
    go true t p q = exact_answer (scaled f.constant g) iters _ (value-scaled-left f g iters p)
    go false true p q = exact_answer (scaled g.constant f) iters _ (value-scaled-right f g iters q)
    go false false p q = any_answer iters (exact_in kind.Int (form_value f iters *ℤ form_value g iters))

product_answer : (o q : Option Form) (iters : List ℤ) (x y : Value) → IsValueOf o iters x → IsValueOf q iters y
    → IsAnswerOf (of_both product_form o q) iters (binary_of Mul x y)
product_answer None q iters x y h k = any_answer iters (binary_of Mul x y)
product_answer (Some f) None iters x y h k = any_answer iters (binary_of Mul x y)
product_answer (Some f) (Some g) iters x y h k =
    let P = IsAnswerOf (product_form f g) iters in
    subst (λ z. P (binary_of Mul z y)) (sym h.0)
    (subst (λ z. P (binary_of Mul (Int (form_value f iters)) z)) (sym k.0)
    (on_ints P (λ a b. exact_in kind.Int (a *ℤ b)) (form_value f iters) (form_value g iters) h.1 k.1 (exact_product f g iters)))

pub binary_answer : (op : Binary) (o q : Option Form) (iters : List ℤ) (x y : Value) → IsValueOf o iters x → IsValueOf q iters y
    → IsAnswerOf (form_step (Expr-F.Binary op o q)) iters (binary_of op x y)
binary_answer Add o q iters x y h k = sum_answer o q iters x y h k
binary_answer Sub o q iters x y h k = difference_answer o q iters x y h k
binary_answer Mul o q iters x y h k = product_answer o q iters x y h k
binary_answer Div o q iters x y h k = any_answer iters (binary_of Div x y)
binary_answer Rem o q iters x y h k = any_answer iters (binary_of Rem x y)
binary_answer Shl o q iters x y h k = any_answer iters (binary_of Shl x y)
binary_answer Shr o q iters x y h k = any_answer iters (binary_of Shr x y)
binary_answer Lt o q iters x y h k = any_answer iters (binary_of Lt x y)
binary_answer Le o q iters x y h k = any_answer iters (binary_of Le x y)
binary_answer Gt o q iters x y h k = any_answer iters (binary_of Gt x y)
binary_answer Ge o q iters x y h k = any_answer iters (binary_of Ge x y)
binary_answer Eq o q iters x y h k = any_answer iters (binary_of Eq x y)
binary_answer Ne o q iters x y h k = any_answer iters (binary_of Ne x y)
binary_answer BitAnd o q iters x y h k = any_answer iters (binary_of BitAnd x y)
binary_answer BitXor o q iters x y h k = any_answer iters (binary_of BitXor x y)
binary_answer BitOr o q iters x y h k = any_answer iters (binary_of BitOr x y)

negation_answer : (o : Option Form) (iters : List ℤ) (x : Value) → IsValueOf o iters x
    → IsAnswerOf (option_and_then (λ f. limited (negated f)) o) iters (unary_of Neg x)
negation_answer None iters x h = any_answer iters (unary_of Neg x)
negation_answer (Some f) iters x h =
    subst (λ z. IsAnswerOf (limited (negated f)) iters (unary_of Neg z)) (sym h.0)
    (exact_answer (negated f) iters (neg_ℤ (form_value f iters)) (value-negated f iters))

pub unary_answer : (op : Unary) (o : Option Form) (iters : List ℤ) (x : Value) → IsValueOf o iters x
    → IsAnswerOf (form_step (Expr-F.Unary op o)) iters (unary_of op x)
unary_answer Neg o iters x h = negation_answer o iters x h
unary_answer Not o iters x h = any_answer iters (unary_of Not x)
unary_answer LogNot o iters x h = any_answer iters (unary_of LogNot x)

-- ---- bounds

-- as the bound of a loop such a value is the number itself
pub bound_number : (v : Value) (n : ℤ) → v ≡ Int n → IsInt n → reduced kind.Int (number_of v) ≡ n
bound_number v n is int = ap (λ u. reduced kind.Int (number_of u)) is ∙ reduced_int n int

-- ---- indices

index_is : (size : ℕ) (n : ℤ) (i : ℕ) → index_in size n ≡ Some i → pos i ≡ n
index_is size (pos m) i h = go (nat_lt m size) h
  where
    go : (t : Bool) → (if t then Some m else None) ≡ Some i → pos i ≡ pos m
    go true same = ap (λ o. pos (unwrap_or o 0)) (sym same)
    go false same = absurd cc
index_is size (negsuc m) i h = absurd cc

index_of : (o : Option Form) (iters : List ℤ) (v : Value) (i : ℕ) → IsValueOf o iters v → pos i ≡ number_of v → IsIndexOf o iters i
index_of None iters v i h same = tt
index_of (Some f) iters v i h same = same ∙ ap number_of h.0

pub indices_of : (sizes : List ℕ) (forms : List (Option Form)) (iters : List ℤ) (vs : List Value) (is : List ℕ) → indices_in sizes vs ≡ Some is
    → AreValuesOf forms iters vs → AreIndicesOf forms iters is
indices_of [] [] iters [] [] h k = tt
indices_of [] [] iters [] (i ∷ is) h k = absurd cc
indices_of [] (o ∷ forms) iters [] is h k = absurd k
indices_of [] forms iters (v ∷ vs) is h k = absurd cc
indices_of (size ∷ sizes) forms iters [] is h k = absurd cc
indices_of (size ∷ sizes) [] iters (v ∷ vs) is h k = absurd k
indices_of (size ∷ sizes) (o ∷ forms) iters (v ∷ vs) is h k =
    go (λ rest e. indices_of sizes forms iters vs rest e k.1) (index_in size (number_of v)) (indices_in sizes vs) refl refl h
  where
    go : ((rest : List ℕ) → indices_in sizes vs ≡ Some rest → AreIndicesOf forms iters rest)
        → (p : Option ℕ) (r : Option (List ℕ)) → index_in size (number_of v) ≡ p → indices_in sizes vs ≡ r
        → option_and_then (λ i. option_map (λ rest. i ∷ rest) r) p ≡ Some is → AreIndicesOf (o ∷ forms) iters is
    go inner (Some i) (Some rest) e f same =
        let all : i ∷ rest ≡ is = ap (λ z. unwrap_or z []) same in
        subst (AreIndicesOf (o ∷ forms) iters) all (index_of o iters v i k.0 (index_is size (number_of v) i e), inner rest f)
    go inner (Some i) None e f same = absurd cc
    go inner None r e f same = absurd cc
