-- Rows of the arrays of a program.
use Rattle.std.proofs.Common.{◌≡◌, ◌∙◌, ap, sym, subst, refl, ℕ, zero, suc, ◌<◌, List, [], ◌∷◌, length, set, get_or, Option, Some, None, Result, Ok, Err, arith}
use Rattle.std.specs.Prelude.{All, slice_get}
use Rattle.species_decimal.specs.Words.{Word}
use Rattle.species_ast.specs.declared.tree.Array.{Array}
use Rattle.species_ast.specs.declared.tree.Kind.{Kind}
use Rattle.species_ast.specs.declared.tree.Value.{Value}
use Rattle.species_ast.specs.Accesses.{Cells}
use Rattle.species_ast.specs.Evaluation.{product}
use Rattle.species_ast.specs.Run.{AreArraysOf}
use Rattle.species_runs.specs.Values.{IsOf}
use Rattle.species_data.specs.Elements.{element_of}
use Rattle.species_data.specs.Data.{then_values, values_of, given_row}
use Rattle.species_data.proofs.ElementLaws.{element_read}

-- ---- one of the arrays

pub got_row : (arrays : List Array) (m : Cells) (a : ℕ) (x : Array) → AreArraysOf arrays m → slice_get arrays a ≡ Some x → length (get_or m a []) ≡ product x.dims
got_row [] m a x h is = absurd (cc)
got_row (y ∷ arrays) [] a x h is = absurd h
got_row (y ∷ arrays) (row ∷ m) zero x h is = let same : y ≡ x = cc in h.0 ∙ ap (λ z. product z.dims) same
got_row (y ∷ arrays) (row ∷ m) (suc a) x h is = got_row arrays m a x h.2 is

pub as_many : (arrays : List Array) (m : Cells) → AreArraysOf arrays m → length arrays ≡ length m
as_many [] [] h = refl
as_many [] (row ∷ m) h = absurd h
as_many (a ∷ arrays) [] h = absurd h
as_many (a ∷ arrays) (row ∷ m) h = ap suc (as_many arrays m h.2)

pub got_item : (arrays : List Array) (a : ℕ) (x : Array) → a < length arrays → x ≡ get_or arrays a x → slice_get arrays a ≡ Some x
got_item [] a x less is = absurd (omega arith)
got_item (y ∷ arrays) zero x less is = ap Some (sym is)
got_item (y ∷ arrays) (suc a) x less is = got_item arrays a x (omega arith) is

-- ---- a row that was read

all_none : (P : Value → Type 0) → All P []
all_none P k d less = absurd (omega arith)

pub all_first : (P : Value → Type 0) (v : Value) (vs : List Value) → P v → All P vs → All P (v ∷ vs)
all_first P v vs here rest zero d less = here
all_first P v vs here rest (suc k) d less = rest k d (omega arith)

pub all_rest : (P : Value → Type 0) (v : Value) (vs : List Value) → All P (v ∷ vs) → All P vs
all_rest P v vs h k d less = h (suc k) d (omega arith)

-- so many values of the kind
abbrev IsRow : Kind → ℕ → List Value → Type 0
IsRow k n vs = (length vs ≡ n) × All (IsOf k) vs

-- what the words say is so many values of the kind
abbrev SaysRow : Kind → ℕ → Result (List Value) ℕ → Type 0
SaysRow k n (Ok vs) = IsRow k n vs
SaysRow k n (Err place) = Unit {0}

says_next : (k : Kind) (n place : ℕ) (word : List ℕ) (o : Option Value) (r : Result (List Value) ℕ) → element_of k word ≡ o → SaysRow k n r → SaysRow k (suc n) (then_values o place r)
says_next k n place word None r is h = tt
says_next k n place word (Some v) (Err other) is h = tt
says_next k n place word (Some v) (Ok vs) is h = (ap suc h.0, all_first (IsOf k) v vs (element_read k word v is).0 h.1)

says_row : (k : Kind) (end n : ℕ) (ws : List Word) → SaysRow k n (values_of k end n ws)
says_row k end zero [] = (refl, all_none (IsOf k))
says_row k end zero (w ∷ ws) = tt
says_row k end (suc n) [] = tt
says_row k end (suc n) (w ∷ ws) = says_next k n w.place w.text (element_of k w.text) (values_of k end n ws) refl (says_row k end n ws)

set_row : (arrays : List Array) (m : Cells) (a : ℕ) (x : Array) (vs : List Value) → AreArraysOf arrays m → slice_get arrays a ≡ Some x → IsRow x.kind (product x.dims) vs
    → AreArraysOf arrays (set m a vs)
set_row [] [] a x vs h is row = h
set_row [] (r ∷ m) a x vs h is row = absurd h
set_row (y ∷ arrays) [] a x vs h is row = absurd h
set_row (y ∷ arrays) (r ∷ m) zero x vs h is row =
    let same : x ≡ y = cc in
    let of_y : IsRow y.kind (product y.dims) vs = subst (λ z. IsRow z.kind (product z.dims) vs) same row in
    (of_y.0, of_y.1, h.2)
set_row (y ∷ arrays) (r ∷ m) (suc a) x vs h is row = (h.0, h.1, set_row arrays m a x vs h.2 is row)

-- arrays stay arrays of the program
pub row_kept : (arrays : List Array) (m n : Cells) (a end : ℕ) (x : Array) (ws : List Word) → AreArraysOf arrays m → slice_get arrays a ≡ Some x
    → given_row m a (values_of x.kind end (product x.dims) ws) ≡ Ok n → AreArraysOf arrays n
row_kept arrays m n a end x ws h is given = go (values_of x.kind end (product x.dims) ws) (says_row x.kind end (product x.dims) ws) given
  where
    go : (r : Result (List Value) ℕ) → SaysRow x.kind (product x.dims) r → given_row m a r ≡ Ok n → AreArraysOf arrays n
    go (Ok vs) row e = let same : set m a vs ≡ n = cc in subst (AreArraysOf arrays) same (set_row arrays m a x vs h is row)
    go (Err place) row e = absurd (cc)
