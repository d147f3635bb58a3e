-- A row whose elements are set one after another.
use Rattle.std.proofs.Common.{◌≡◌, ◌∙◌, ap, sym, refl, ℕ, zero, suc, ◌+◌, ◌-◌, ◌<◌, ◌≤◌, List, [], ◌∷◌, ◌++◌, length, drop, set, get_or, append_assoc, append-nil, length-append, Some, None, Result, Ok, Err, arith}
use Rattle.std.proofs.lemmas.List.{drop-drop, drop_all, length-drop}
use Rattle.species_decimal.specs.Words.{Word}
use Rattle.species_ast.specs.declared.tree.Kind.{Kind}
use Rattle.species_ast.specs.declared.tree.Value.{Value}
use Rattle.species_ast.specs.Accesses.{Cells, change, changed}
use Rattle.species_meaning.specs.Effects.{element}
use Rattle.species_data.specs.Elements.{element_of}
use Rattle.species_data.specs.Data.{then_values, values_of, given_row}

-- what was read so far, before what the words behind it say
abbrev pub before : List Value → Result (List Value) ℕ → Result (List Value) ℕ
before vs (Ok more) = Ok (vs ++ more)
before vs (Err place) = Err place

before_none : (r : Result (List Value) ℕ) → r ≡ before [] r
before_none (Ok more) = refl
before_none (Err place) = refl

pushed : (vs : List Value) (v : Value) (place : ℕ) (r : Result (List Value) ℕ) → before vs (then_values (Some v) place r) ≡ before (vs ++ v ∷ []) r
pushed vs v place (Ok more) = ap Ok (sym (append_assoc vs (v ∷ []) more))
pushed vs v place (Err other) = refl

-- Of the row of an array, so many elements are set to what the words said; the others are as they were.
pub record Filling (start now : Cells) (a at size : ℕ) (all left : Result (List Value) ℕ) : Type 0 where
  pub values : List Value
  pub count : length values ≡ at
  pub within : at ≤ size
  pub arrays : now ≡ set start a (values ++ drop at (get_or start a []))
  pub read : all ≡ before values left

set_same : (m : Cells) (a : ℕ) → m ≡ set m a (get_or m a [])
set_same [] a = refl
set_same (row ∷ m) zero = refl
set_same (row ∷ m) (suc a) = ap (λ rows. row ∷ rows) (set_same m a)

change_set : (m : Cells) (a : ℕ) (row : List Value) (by : List Value → List Value) → change (set m a row) a by ≡ set m a (by row)
change_set [] a row by = refl
change_set (x ∷ m) zero row by = refl
change_set (x ∷ m) (suc a) row by = ap (λ rows. x ∷ rows) (change_set m a row by)

change_first : (vs xs : List Value) (v : Value) → 0 < length xs → change (vs ++ xs) (length vs) (λ c. v) ≡ (vs ++ v ∷ []) ++ drop 1 xs
change_first [] [] v some = absurd (omega arith)
change_first [] (x ∷ xs) v some = refl
change_first (y ∷ vs) xs v some = ap (λ l. y ∷ l) (change_first vs xs v some)

pub filling_starts : (start : Cells) (a size : ℕ) (all : Result (List Value) ℕ) → Filling start start a 0 size all all
filling_starts start a size all = record {
  values = [];
  count = refl;
  within = omega arith;
  arrays = set_same start a;
  read = before_none all;
}

left_is : (k : Kind) (end size at : ℕ) (w : Word) (ws : List Word) (v : Value) → at < size → element_of k w.text ≡ Some v
    → values_of k end (size - at) (w ∷ ws) ≡ then_values (Some v) w.place (values_of k end (size - (at + 1)) ws)
left_is k end size at w ws v less is =
    let more : size - at ≡ suc (size - (at + 1)) = omega (arith, less) in
    ap (λ n. values_of k end n (w ∷ ws)) more ∙ ap (λ o. then_values o w.place (values_of k end (size - (at + 1)) ws)) is

pub filling_goes_on : (start now next : Cells) (a at size end : ℕ) (k : Kind) (w : Word) (words ws : List Word) (v : Value) (all : Result (List Value) ℕ)
    → length (get_or start a []) ≡ size → at < size → words ≡ w ∷ ws → element_of k w.text ≡ Some v
    → next ≡ changed now (element a at) (λ c. v)
    → Filling start now a at size all (values_of k end (size - at) words)
    → Filling start next a (at + 1) size all (values_of k end (size - (at + 1)) ws)
filling_goes_on start now next a at size end k w words ws v all long less split is changed_is f =
    let row = get_or start a [] in
    let some : 0 < length (drop at row) = omega (arith, long, less, length-drop at row) in
    let first : change (f.values ++ drop at row) at (λ c. v) ≡ (f.values ++ v ∷ []) ++ drop 1 (drop at row) =
    ap (λ n. change (f.values ++ drop at row) n (λ c. v)) (sym f.count) ∙ change_first f.values (drop at row) v some in
    record {
      values = f.values ++ v ∷ [];
      count = simp length-append (omega (arith, f.count));
      within = omega (arith, less);
      arrays =
          changed_is ∙ ap (λ m. changed m (element a at) (λ c. v)) f.arrays
          ∙ change_set start a (f.values ++ drop at row) (λ r. change r at (λ c. v))
          ∙ ap (set start a) (first ∙ ap (λ l. (f.values ++ v ∷ []) ++ l) (drop-drop 1 at row));
      read =
          f.read ∙ ap (λ l. before f.values (values_of k end (size - at) l)) split
          ∙ ap (before f.values) (left_is k end size at w ws v less is)
          ∙ pushed f.values v w.place (values_of k end (size - (at + 1)) ws);
    }

-- the words and the elements end together
pub filling_ends : (start now : Cells) (a at size end : ℕ) (k : Kind) (words : List Word) (all : Result (List Value) ℕ)
    → length (get_or start a []) ≡ size → size ≤ at → words ≡ [] → Filling start now a at size all (values_of k end (size - at) words)
    → given_row start a all ≡ Ok now
filling_ends start now a at size end k words all long full none f =
    let zero_left : size - at ≡ 0 = omega (arith, full) in
    let past : length (get_or start a []) ≤ at = omega (arith, long, full) in
    let whole : all ≡ Ok f.values =
    f.read ∙ ap (λ l. before f.values (values_of k end (size - at) l)) none
    ∙ ap (λ n. before f.values (values_of k end n [])) zero_left ∙ ap Ok (append-nil f.values) in
    ap (given_row start a) whole
    ∙ ap (λ l. Ok (set start a l)) (sym (append-nil f.values) ∙ ap (λ l. f.values ++ l) (sym (drop_all at (get_or start a []) past)))
    ∙ ap Ok (sym f.arrays)

fails : (start now : Cells) (a at size place : ℕ) (all left : Result (List Value) ℕ) → left ≡ Err place → Filling start now a at size all left
    → given_row start a all ≡ Err place
fails start now a at size place all left is f = ap (given_row start a) (f.read ∙ ap (before f.values) is)

-- a word that is no element
pub word_fails : (start now : Cells) (a at size end : ℕ) (k : Kind) (w : Word) (words ws : List Word) (all : Result (List Value) ℕ)
    → at < size → words ≡ w ∷ ws → element_of k w.text ≡ None → Filling start now a at size all (values_of k end (size - at) words)
    → given_row start a all ≡ Err w.place
word_fails start now a at size end k w words ws all less split is f =
    let more : size - at ≡ suc (size - (at + 1)) = omega (arith, less) in
    fails start now a at size w.place all (values_of k end (size - at) words)
    (ap (values_of k end (size - at)) split ∙ ap (λ n. values_of k end n (w ∷ ws)) more
    ∙ ap (λ o. then_values o w.place (values_of k end (size - (at + 1)) ws)) is) f

-- a word too many
pub many_fail : (start now : Cells) (a at size end : ℕ) (k : Kind) (w : Word) (words ws : List Word) (all : Result (List Value) ℕ)
    → at ≡ size → words ≡ w ∷ ws → Filling start now a at size all (values_of k end (size - at) words)
    → given_row start a all ≡ Err w.place
many_fail start now a at size end k w words ws all full split f =
    let none : size - at ≡ 0 = omega (arith, full) in
    fails start now a at size w.place all (values_of k end (size - at) words)
    (ap (values_of k end (size - at)) split ∙ ap (λ n. values_of k end n (w ∷ ws)) none) f

-- too few words
pub few_fail : (start now : Cells) (a at size end : ℕ) (k : Kind) (words : List Word) (all : Result (List Value) ℕ)
    → at < size → words ≡ [] → Filling start now a at size all (values_of k end (size - at) words)
    → given_row start a all ≡ Err end
few_fail start now a at size end k words all less none f =
    let more : size - at ≡ suc (size - (at + 1)) = omega (arith, less) in
    fails start now a at size end all (values_of k end (size - at) words)
    (ap (values_of k end (size - at)) none ∙ ap (λ n. values_of k end n []) more) f
