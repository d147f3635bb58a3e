-- Elements as code finds them: a place by Horner's rule.
use Rattle.std.proofs.Common.{◌≡◌, refl, ap, sym, ◌∙◌, arith, ℕ, ◌+◌, ◌*◌, ◌<◌, ◌≤◌, List, [], ◌∷◌, length, get_or, drop, suc, Option, Some, None, Ok, Err, add-one, drop-cons}
use Rattle.std.specs.Prelude.{option_map, option_and_then}
use Rattle.species_ast.specs.declared.action.Action.{Action}
use Rattle.species_ast.specs.declared.tree.Value.{Value}
use Rattle.species_ast.specs.declared.tree.Expr.{Expr}
use Rattle.species_ast.specs.Operators.{number_of}
use Rattle.species_ast.specs.Evaluation.{Frame, Context, index_in, indices_in, row_order, product, sizes_of}
use Rattle.bones_meaning.specs.Places.{capped, placed_in, found_in, next_in, tail_of}
use Rattle.bones_meaning.specs.Tapes.{Tape, passed, Walked, and_then, fault, fault_of}
use Rattle.bones_meaning.specs.Walked.{value, values, target_of}
use Rattle.bones_meaning.proofs.Law.{and_then-assoc, same_next}

none_found : (sizes : List ℕ) (o : Option ℕ) (t : Tape) → found_in sizes o None t ≡ fault t
none_found sizes (Some n) t = refl
none_found sizes None t = refl

one_more : (n size rest i more : ℕ) → n * (size * rest) + (i * rest + more) ≡ (n * size + i) * rest + more
one_more n size rest i more = omega (arith)

found_next : (sizes : List ℕ) (o : Option ℕ) (v : Value) (vs : List Value) (t : Tape)
    → found_in sizes o (indices_in sizes (v ∷ vs)) t ≡ found_in (tail_of sizes) (next_in sizes o v) (indices_in (tail_of sizes) vs) t
found_next [] o v vs t = none_found [] o t
found_next (size ∷ sizes) None v vs t = refl
found_next (size ∷ sizes) (Some n) v vs t = go (index_in size (number_of v))
  where
    go : (i : Option ℕ)
        → found_in (size ∷ sizes) (Some n) (option_and_then (λ i. option_map (λ rest. i ∷ rest) (indices_in sizes vs)) i) t
        ≡ found_in sizes (option_map (λ i. n * size + i) i) (indices_in sizes vs) t
    go None = refl
    go (Some i) = rest (indices_in sizes vs)
      where
        rest : (is : Option (List ℕ)) → found_in (size ∷ sizes) (Some n) (option_map (λ rest. i ∷ rest) is) t ≡ found_in sizes (Some (n * size + i)) is t
        rest None = refl
        rest (Some is) = ap (λ k. Ok (passed (capped k) t)) (one_more n size (product sizes) i (row_order sizes is))

pub found_first : (w : Context) (a : ℕ) (subs : List Expr) (f : Frame) (t : Tape)
    → target_of w a subs f t ≡ and_then (values w subs f t) (λ vs u. found_in (sizes_of w a) (Some 0) (indices_in (sizes_of w a) vs) u)
found_first w a subs f t = same_next (values w subs f t) _ _ (λ vs u. at (indices_in (sizes_of w a) vs) u)
  where
    at : (is : Option (List ℕ)) (u : Tape) → placed_in (sizes_of w a) is u ≡ found_in (sizes_of w a) (Some 0) is u
    at None u = refl
    at (Some is) u = let same : row_order (sizes_of w a) is ≡ 0 * product (sizes_of w a) + row_order (sizes_of w a) is = omega arith in ap (λ k. Ok (passed (capped k) u)) same

pub found_step : (w : Context) (all : List Expr) (i : ℕ) (f : Frame) (t : Tape) (e : Expr) (sizes : List ℕ) (o : Option ℕ) → e ≡ get_or all i e → i < length all
    → and_then (values w (drop i all) f t) (λ vs u. found_in sizes o (indices_in sizes vs) u)
    ≡ and_then (value w e f t) (λ v u. and_then (values w (drop (i + 1) all) f u) (λ vs s. found_in (tail_of sizes) (next_in sizes o v) (indices_in (tail_of sizes) vs) s))
found_step w all i f t e sizes o at within =
    let d : drop i all ≡ e ∷ drop (i + 1) all = rw (add-one, drop-cons all i e within) (ap (λ x. x ∷ drop (suc i) all) (sym at)) in
    ap (λ l. and_then (values w l f t) (λ vs u. found_in sizes o (indices_in sizes vs) u)) d
    ∙ and_then-assoc (value w e f t) (λ v u. and_then (values w (drop (i + 1) all) f u) (λ vs s. Ok (passed (v ∷ vs) s))) (λ vs u. found_in sizes o (indices_in sizes vs) u)
    ∙ same_next (value w e f t) _ _ (λ v u.
    and_then-assoc (values w (drop (i + 1) all) f u) (λ vs s. Ok (passed (v ∷ vs) s)) (λ vs s. found_in sizes o (indices_in sizes vs) s)
    ∙ same_next (values w (drop (i + 1) all) f u) _ _ (λ vs s. found_next sizes o v vs s))

left_over : (sizes : List ℕ) (o : Option ℕ) (t : Tape) → 1 ≤ length sizes → found_in sizes o (indices_in sizes []) t ≡ fault t
left_over [] o t h = absurd (omega (arith, h))
left_over (size ∷ sizes) o t h = none_found (size ∷ sizes) o t

abbrev pub missing : Option Action → Walked ℕ
missing why = Err why

pub no_place : (sizes : List ℕ) (o : Option ℕ) (t : Tape) (why : Option Action) → 1 ≤ length sizes → why ≡ fault_of t.done → missing why ≡ found_in sizes o (indices_in sizes []) t
no_place sizes o t why more is = ap missing is ∙ sym (left_over sizes o t more)
