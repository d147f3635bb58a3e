-- Values of `int` on a short way.
use Rattle.std.proofs.Common.{◌≡◌, ap, sym, ◌∙◌, Result, Ok, ℤ}
use Rattle.species_ast.specs.declared.tree.Kind.TheVariants as kind
use Rattle.species_ast.specs.declared.tree.Value.{Value}
use Rattle.species_ast.specs.declared.tree.Value.TheVariants.{Int}
use Rattle.species_ast.specs.declared.tree.Binary.{Binary}
use Rattle.species_ast.specs.declared.trap.Trap.{Trap}
use Rattle.species_ast.specs.Operators.{binary_in, binary_of, converted}
use Rattle.species_cint.specs.Ranges.{IsNumber}
use Rattle.species_cint.proofs.Words.{in_int, reduced_same}
use Rattle.species_ast.specs.declared.tree.Expr.{Expr}
use Rattle.species_ast.specs.declared.tree.Expr.TheVariants as expr
use Rattle.species_ast.specs.Accesses.{Cells}
use Rattle.species_ast.specs.Evaluation.{Frame, Context}
use Rattle.species_meaning.specs.Effects.{and_then, answer_in, value}
use Rattle.species_meaning.proofs.Law.{reads-Binary}

-- in `int` an operator that gives this there
pub given_in_int : (op : Binary) (a b n : ℤ) → IsNumber kind.Int a → IsNumber kind.Int b → binary_in kind.Int op a b ≡ Ok (Int n) → binary_of op (Int a) (Int b) ≡ Ok (Int n)
given_in_int op a b n p q h = sym (in_int op a b p q) ∙ h

-- a number of `int` is not changed by a conversion to `int`
pub kept_in_int : (n : ℤ) → IsNumber kind.Int n → Int n ≡ converted kind.Int (Int n)
kept_in_int n h = ap Int (reduced_same kind.Int n h)

-- an operator on two values that are given
pub both_given : (op : Binary) (x y : Value) (n : ℤ) (p q : Result Value Trap) → p ≡ Ok x → q ≡ Ok y → binary_of op x y ≡ Ok (Int n)
    → and_then p (λ x. and_then q (λ y. answer_in (binary_of op x y))) ≡ Ok (Int n)
both_given op x y n p q h k is =
    ap (λ r. and_then r (λ x. and_then q (λ y. answer_in (binary_of op x y)))) h ∙ ap (λ r. and_then r (λ y. answer_in (binary_of op x y))) k ∙ ap answer_in is

-- an operator whose value was found from its two sides
pub operator_given : (w : Context) (op : Binary) (a b x y : Expr) (f : Frame) (m : Cells) (n : ℤ) → x ≡ a → y ≡ b
    → and_then (value w x f m) (λ u. and_then (value w y f m) (λ v. answer_in (binary_of op u v))) ≡ Ok (Int n) → value w (expr.Binary op a b) f m ≡ Ok (Int n)
operator_given w op a b x y f m n same_a same_b h =
    ap (λ r. r.gives f m) (reads-Binary w op a b)
    ∙ ap (λ e. and_then (value w e f m) (λ u. and_then (value w b f m) (λ v. answer_in (binary_of op u v)))) (sym same_a)
    ∙ ap (λ e. and_then (value w x f m) (λ u. and_then (value w e f m) (λ v. answer_in (binary_of op u v)))) (sym same_b) ∙ h
