-- Elements and rows.
use Rattle.std.proofs.Common.{◌≡◌, refl, ap, sym, ◌∙◌, arith, ℕ, zero, suc, ◌+◌, ◌-◌, ◌*◌, ◌<◌, ◌≤◌, ◌^◌, List, [], ◌∷◌, map, length, get_or, set, drop, Option, Some, None, Result, Ok, Err, add-one, drop-cons, pos, ⊎_elim}
use Rattle.std.specs.Prelude.{slice_get, unwrap_or, option_map, option_and_then, min}
use Rattle.std.proofs.Math.Nat.{mul-le-mul_left}
use Rattle.std.proofs.lemmas.Bool.{cases_lt}
use Rattle.species_ast.specs.declared.tree.Value.{Value}
use Rattle.species_ast.specs.declared.tree.Value.TheVariants.{Int}
use Rattle.species_ast.specs.declared.tree.Expr.{Expr}
use Rattle.species_ast.specs.declared.trap.Trap.{Trap}
use Rattle.species_ast.specs.declared.trap.Trap.TheVariants as trap
use Rattle.species_ast.specs.Operators.{number_of}
use Rattle.species_ast.specs.Accesses.{Cells, cell, change, changed}
use Rattle.species_ast.specs.Evaluation.{Frame, Context, index_in, indices_in, row_order, product, sizes_of}
use Rattle.species_meaning.specs.Effects.{and_then, value, values, target_of, placed_in, element}
use Rattle.species_meaning.specs.Places.{capped, found_in, next_in, tail_of}

pub set_change : {A : Type 0} (xs : List A) (i : ℕ) (v : A) → set xs i v ≡ change xs i (λ c. v)
set_change [] i v = refl
set_change (x ∷ xs) zero v = refl
set_change (x ∷ xs) (suc i) v = ap (λ l. x ∷ l) (set_change xs i v)

pub change_none : {A : Type 0} (xs : List A) (i : ℕ) (by : A → A) → length xs ≤ i → change xs i by ≡ xs
change_none [] i by h = refl
change_none (x ∷ xs) zero by h = absurd (omega (arith, h))
change_none (x ∷ xs) (suc i) by h = ap (λ l. x ∷ l) (change_none xs i by (omega (arith, h)))

pub changed_row : {V : Type 0} (f : V → List Value) (rows : List V) (m : Cells) (a at : ℕ) (r new : V) (by : Value → Value)
    → map f rows ≡ m → r ≡ get_or rows a r → a < length rows → f new ≡ change (f r) at by → map f (set rows a new) ≡ change m a (λ row. change row at by)
changed_row {V} f rows m a at r new by view is below h = go rows a is below ∙ ap (λ l. change l a (λ row. change row at by)) view
  where
    go : (rows : List V) (a : ℕ) → r ≡ get_or rows a r → a < length rows → map f (set rows a new) ≡ change (map f rows) a (λ row. change row at by)
    go [] a is below = absurd (omega (arith, below))
    go (x ∷ rows) zero is below = ap (λ l. l ∷ map f rows) (h ∙ ap (λ y. change (f y) at by) is)
    go (x ∷ rows) (suc a) is below = ap (λ l. f x ∷ l) (go rows a is (omega (arith, below)))

change_at : (row : List Value) (at : ℕ) (by : Value → Value) → change row at (λ c. by (unwrap_or (slice_get row at) (Int (pos 0)))) ≡ change row at by
change_at [] at by = refl
change_at (x ∷ row) zero by = refl
change_at (x ∷ row) (suc at) by = ap (λ l. x ∷ l) (change_at row at by)

pub changed_at : (m : Cells) (a at : ℕ) (by : Value → Value) → changed m (element a at) (λ c. by (cell m (element a at))) ≡ changed m (element a at) by
changed_at [] a at by = refl
changed_at (row ∷ m) zero at by = ap (λ l. l ∷ m) (change_at row at by)
changed_at (row ∷ m) (suc a) at by = ap (λ l. row ∷ l) (changed_at m a at by)

-- ---- a place by Horner's rule

none_found : (sizes : List ℕ) (o : Option ℕ) → found_in sizes o None ≡ Err trap.Index
none_found sizes (Some n) = refl
none_found sizes None = refl

one_more : (n size rest i more : ℕ) → n * (size * rest) + (i * rest + more) ≡ (n * size + i) * rest + more
one_more n size rest i more = omega (arith)

pub found_next : (sizes : List ℕ) (o : Option ℕ) (v : Value) (vs : List Value)
    → found_in sizes o (indices_in sizes (v ∷ vs)) ≡ found_in (tail_of sizes) (next_in sizes o v) (indices_in (tail_of sizes) vs)
found_next [] o v vs = none_found [] o
found_next (size ∷ sizes) None v vs = refl
found_next (size ∷ sizes) (Some n) v vs = go (index_in size (number_of v))
  where
    go : (i : Option ℕ)
        → found_in (size ∷ sizes) (Some n) (option_and_then (λ i. option_map (λ rest. i ∷ rest) (indices_in sizes vs)) i)
        ≡ found_in sizes (option_map (λ i. n * size + i) i) (indices_in sizes vs)
    go None = refl
    go (Some i) = rest (indices_in sizes vs)
      where
        rest : (is : Option (List ℕ)) → found_in (size ∷ sizes) (Some n) (option_map (λ rest. i ∷ rest) is) ≡ found_in sizes (Some (n * size + i)) is
        rest None = refl
        rest (Some is) = ap Ok (one_more n size (product sizes) i (row_order sizes is))

pub found_first : (w : Context) (a : ℕ) (subs : List Expr) (f : Frame) (m : Cells)
    → target_of w a subs f m ≡ and_then (values w subs f m) (λ vs. found_in (sizes_of w a) (Some 0) (indices_in (sizes_of w a) vs))
found_first w a subs f m = go (values w subs f m)
  where
    placed : (is : Option (List ℕ)) → placed_in (sizes_of w a) is ≡ found_in (sizes_of w a) (Some 0) is
    placed None = refl
    placed (Some is) = let same : row_order (sizes_of w a) is ≡ 0 * product (sizes_of w a) + row_order (sizes_of w a) is = omega arith in ap Ok same

    go : (r : Result (List Value) Trap) → and_then r (λ vs. placed_in (sizes_of w a) (indices_in (sizes_of w a) vs)) ≡ and_then r (λ vs. found_in (sizes_of w a) (Some 0) (indices_in (sizes_of w a) vs))
    go (Ok vs) = placed (indices_in (sizes_of w a) vs)
    go (Err why) = refl

pub found_step : (w : Context) (all : List Expr) (i : ℕ) (f : Frame) (m : Cells) (e : Expr) (sizes : List ℕ) (o : Option ℕ) → e ≡ get_or all i e → i < length all
    → and_then (values w (drop i all) f m) (λ vs. found_in sizes o (indices_in sizes vs))
    ≡ and_then (value w e f m) (λ v. and_then (values w (drop (i + 1) all) f m) (λ vs. found_in (tail_of sizes) (next_in sizes o v) (indices_in (tail_of sizes) vs)))
found_step w all i f m e sizes o at within =
    let d : drop i all ≡ e ∷ drop (i + 1) all = rw (add-one, drop-cons all i e within) (ap (λ x. x ∷ drop (suc i) all) (sym at)) in
    ap (λ l. and_then (values w l f m) (λ vs. found_in sizes o (indices_in sizes vs))) d ∙ go (value w e f m) (values w (drop (i + 1) all) f m)
  where
    go : (r : Result Value Trap) (rest : Result (List Value) Trap)
        → and_then (and_then r (λ v. and_then rest (λ vs. Ok (v ∷ vs)))) (λ vs. found_in sizes o (indices_in sizes vs))
        ≡ and_then r (λ v. and_then rest (λ vs. found_in (tail_of sizes) (next_in sizes o v) (indices_in (tail_of sizes) vs)))
    go (Ok v) (Ok vs) = found_next sizes o v vs
    go (Ok v) (Err why) = refl
    go (Err why) rest = refl

-- a word that is the cap stays so
pub capped_next : (n size i : ℕ) → i < size → min (min (capped n * size) (2 ^ 64 - 1) + i) (2 ^ 64 - 1) ≡ capped (n * size + i)
capped_next n zero i h = absurd (omega (arith, h))
capped_next n (suc size) i h = ⊎_elim great small (cases_lt (2 ^ 64 - 1) n)
  where
    least : (k : ℕ) → k * 1 ≤ k * suc size
    least k = mul-le-mul_left k (omega arith)

    small : n ≤ 2 ^ 64 - 1 → min (min (capped n * suc size) (2 ^ 64 - 1) + i) (2 ^ 64 - 1) ≡ capped (n * suc size + i)
    small h =
        let same : capped n ≡ n = omega (arith, h) in
        let scaled : capped n * suc size ≡ n * suc size = ap (λ k. k * suc size) same in
        omega (arith, scaled)

    great : 2 ^ 64 - 1 < n → min (min (capped n * suc size) (2 ^ 64 - 1) + i) (2 ^ 64 - 1) ≡ capped (n * suc size + i)
    great h = omega (arith, h, least n, least (capped n))

pub left_over : (sizes : List ℕ) (o : Option ℕ) → 1 ≤ length sizes → found_in sizes o (indices_in sizes []) ≡ Err trap.Index
left_over [] o h = absurd (omega (arith, h))
left_over (size ∷ sizes) o h = none_found (size ∷ sizes) o

pub product_next : (all : List ℕ) (i n size more : ℕ) → i < length all → size ≡ get_or all i 0 → more ≡ n * size
    → more * product (drop (i + 1) all) ≡ n * product (drop i all)
product_next all i n size more within is more_is =
    let d : drop i all ≡ size ∷ drop (i + 1) all = rw (add-one, drop-cons all i 0 within) (ap (λ x. x ∷ drop (suc i) all) (sym is)) in
    ap (λ k. k * product (drop (i + 1) all)) more_is ∙ regroup n size (product (drop (i + 1) all)) ∙ ap (λ l. n * product l) (sym d)
  where
    regroup : (n size rest : ℕ) → n * size * rest ≡ n * (size * rest)
    regroup n size rest = omega arith
