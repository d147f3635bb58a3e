-- The values that an iterator takes lie in the range of its loop.
use Rattle.std.proofs.Common.{◌≡◌, refl, ap, sym, subst, arith, ℕ, Bool, true, false, ◌&&◌, ◌||◌, if◌then◌else◌, List, [], ◌∷◌, ◌++◌, ℤ, pos, negsuc, ◌≤ℤ◌, Some, None}
use Rattle.std.proofs.lemmas.Int.{ints}
use Rattle.species_ast.specs.declared.tree.Stmt.TheOpen.{Loop-F}
use Rattle.species_ast.specs.Run.{iterator_values}
use Rattle.species_ast.specs.Scope.Forms.{Form, form_of, is_constant, form_value}
use Rattle.species_ast.specs.Scope.Hulls.{Range, is_empty, has_empty, AreIn, last_form, fixed_range, wide_range, no_range, start_constant, range_between, form_or_zero, range_of}
use Rattle.species_ast.specs.Scope.Limits.{goes}
use Rattle.species_ast.proofs.HullLaws.{least_of-below, greatest_of-above}
use Rattle.species_ast.proofs.Induction.{Each}
use Rattle.species_ast.proofs.IteratorLaws.{in_turn}
use Rattle.species_occurrences.specs.Iterators.{IsInt, AreInts, IsCounted, MayTake, AreTaken}
use Rattle.species_occurrences.proofs.FormLaws.{value-is_constant}
use Rattle.species_occurrences.proofs.RangeLaws.{less_of, range_start, range_step, value-last_form, IsBetween, turn_between, int_between, each_counted, in_fixed}

-- values that are taken lie in the ranges
pub taken_in : (path : List Range) (iters : List ℤ) → AreTaken path iters → AreIn path iters
taken_in [] [] h = tt
taken_in [] (i ∷ iters) h = absurd h
taken_in (r ∷ path) [] h = absurd h
taken_in (r ∷ path) (i ∷ iters) h = (h.0.0, h.0.1, taken_in path iters h.1)

-- no range is empty from which a value is taken
pub not_empty : (path : List Range) (iters : List ℤ) → AreTaken path iters → has_empty path ≡ false
not_empty [] iters h = refl
not_empty (r ∷ path) [] h = absurd h
not_empty (r ∷ path) (i ∷ iters) h = go (not_empty path iters h.1) (is_empty r) refl
  where
    go : has_empty path ≡ false → (t : Bool) → is_empty r ≡ t → (t || has_empty path) ≡ false
    go rest true is = absurd (omega (arith, ints, less_of r.high r.low is, h.0.0, h.0.1))
    go rest false is = rest

pub taken_inside : (path : List Range) (iters : List ℤ) (r : Range) (i : ℤ) → AreTaken path iters → MayTake r i → AreTaken (path ++ r ∷ []) (iters ++ i ∷ [])
taken_inside [] [] r i h k = (k, tt)
taken_inside [] (j ∷ iters) r i h k = absurd h
taken_inside (q ∷ path) [] r i h k = absurd h
taken_inside (q ∷ path) (j ∷ iters) r i h k = (h.0, taken_inside path iters r i h.1 k)

pub ints_inside : (iters : List ℤ) (i : ℤ) → AreInts iters → IsInt i → AreInts (iters ++ i ∷ [])
ints_inside [] i h k = (k, tt)
ints_inside (j ∷ iters) i h k = (h.0, ints_inside iters i h.1 k)

-- ---- the values of one loop

abbrev IsIn : Range → ℤ → Type 0
IsIn r i = (r.low ≤ℤ i) × (i ≤ℤ r.high)

in_wide : (path : List Range) (step : ℤ) (first last : Form) (iters : List ℤ) (i : ℤ) → AreTaken path iters
    → IsBetween step (form_value first iters) (form_value last iters) i → IsIn (wide_range path step first last) i
in_wide path (pos n) first last iters i h b =
    (omega (arith, ints, least_of-below path first iters (taken_in path iters h), b.0), omega (arith, ints, greatest_of-above path last iters (taken_in path iters h), b.1))
in_wide path (negsuc n) first last iters i h b =
    (omega (arith, ints, least_of-below path last iters (taken_in path iters h), b.0), omega (arith, ints, greatest_of-above path first iters (taken_in path iters h), b.1))

in_range : (path : List Range) (step : ℤ) (first last : Form) (iters : List ℤ) (k : ℕ) → AreTaken path iters
    → IsBetween step (form_value first iters) (form_value last iters) (in_turn (form_value first iters) step k)
    → IsIn (range_between path step first last) (in_turn (form_value first iters) step k)
in_range path step s e iters k h b = go (is_constant s) (is_constant e) refl refl
  where
    rest : IsIn (if has_empty path then no_range step s e else wide_range path step s e) (in_turn (form_value s iters) step k)
    rest =
        subst (λ t. IsIn (if t then no_range step s e else wide_range path step s e) (in_turn (form_value s iters) step k)) (sym (not_empty path iters h))
        (in_wide path step s e iters _ h b)

    go : (t u : Bool) → is_constant s ≡ t → is_constant e ≡ u
        → IsIn (if t && u then fixed_range step s.constant e.constant else (if has_empty path then no_range step s e else wide_range path step s e)) (in_turn (form_value s iters) step k)
    go true true p q =
        let first = value-is_constant s iters p in
        let last = value-is_constant e iters q in
        subst (λ z. IsIn (fixed_range step s.constant e.constant) (in_turn z step k)) (sym first)
        (in_fixed step s.constant e.constant k (subst (λ z. IsBetween step z e.constant (in_turn z step k)) first (subst (λ z. IsBetween step (form_value s iters) z (in_turn (form_value s iters) step k)) last b)))
    go true false p q = rest
    go false u p q = rest

-- a turn is counted from a constant start
counted_turn : (path : List Range) (step : ℤ) (first last : Form) (iters : List ℤ) (k : ℕ)
    → IsCounted (range_between path step first last).start (range_between path step first last).step (in_turn (form_value first iters) step k)
counted_turn path step s e iters k =
    subst (λ o. IsCounted o (range_between path step s e).step (in_turn (form_value s iters) step k)) (sym (range_start path step s e))
    (subst (λ z. IsCounted (start_constant s) z (in_turn (form_value s iters) step k)) (sym (range_step path step s e)) (go (is_constant s) refl))
  where
    go : (t : Bool) → is_constant s ≡ t → IsCounted (if t then Some s.constant else None) step (in_turn (form_value s iters) step k)
    go true p = (k, ap (λ z. in_turn z step k) (value-is_constant s iters p))
    go false p = tt

-- the law: where the iterators around are taken from their ranges, those of a loop's turns are taken from its range, and are
-- numbers of the kind `int`
pub values_taken : {X Y : Type 0} (path : List Range) (l : Loop-F X Y) (s e : Form) (iters : List ℤ) → form_of l.start ≡ Some s → form_of l.limit ≡ Some e
    → goes l.test l.step ≡ true → AreTaken path iters → IsInt (form_value s iters) → IsInt (form_value e iters)
    → Each (λ i. MayTake (range_of path l) i × IsInt i) (iterator_values l.test (form_value s iters) (form_value e iters) l.step)
values_taken path l s e iters p q g h a b =
    let range : range_of path l ≡ range_between path l.step s (last_form l.test e) =
    (λ i. range_between path l.step (form_or_zero (p i)) (last_form l.test (form_or_zero (q i))))
    in
    each_counted (λ i. MayTake (range_of path l) i × IsInt i) _ (form_value s iters) l.step (λ k below.
    let between = turn_between l.test (form_value s iters) (form_value e iters) l.step k g below in
    let in_it = in_range path l.step s (last_form l.test e) iters k h
    (subst (λ z. IsBetween l.step (form_value s iters) z (in_turn (form_value s iters) l.step k)) (sym (value-last_form l.test e iters)) between)
    in (
      subst (λ r. MayTake r (in_turn (form_value s iters) l.step k)) (sym range) (in_it.0, in_it.1, counted_turn path l.step s (last_form l.test e) iters k),
      int_between l.test l.step (form_value s iters) (form_value e iters) (in_turn (form_value s iters) l.step k) g a b between,
    ))
