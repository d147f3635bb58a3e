-- The ends of a loop by its range, or by the forms of its bounds.
use Rattle.std.proofs.Common.{◌≡◌, refl, ap, sym, ◌∙◌, subst, arith, ℕ, ◌≤◌, Bool, true, false, ◌&&◌, if◌then◌else◌, List, ℤ, pos, negsuc, ◌<ℤ◌, ◌≤ℤ◌, Some, None, is_some}
use Rattle.std.proofs.lemmas.Int.{ints}
use Rattle.species_affine.specs.Subscript.{IsSameForm}
use Rattle.species_ast.specs.declared.tree.Stmt.TheOpen.{Loop-F}
use Rattle.species_ast.specs.Scope.Forms as text
use Rattle.species_ast.specs.Scope.Hulls.{Range, has_empty, fixed_range, no_range, wide_range, range_between, range_of, start_constant, bound_form, last_form}
use Rattle.species_linear.specs.declared.forms.Form.{Form}
use Rattle.species_references.specs.Boxes.{has_constant_bounds}
use Rattle.species_merge.specs.Bounds.{Ends, range_ends, ends_by, ends_of, IsBoundOf}
use Rattle.species_merge.specs.Sizes.{HasNumbers}

-- ---- ranges

some_start : (f : text.Form) → is_some (start_constant f) ≡ text.is_constant f
some_start f = go (text.is_constant f)
  where
    go : (t : Bool) → is_some (if t then Some f.constant else None) ≡ t
    go true = refl
    go false = refl

fixed_bounds : (step first last : ℤ) → has_constant_bounds (fixed_range step first last) ≡ true
fixed_bounds (pos n) first last = refl
fixed_bounds (negsuc n) first last = refl

wide_bounds : (path : List Range) (step : ℤ) (first last : text.Form) → has_constant_bounds (wide_range path step first last) ≡ (is_some (start_constant first) && text.is_constant last)
wide_bounds path (pos n) first last = refl
wide_bounds path (negsuc n) first last = refl

-- a range has constant bounds where both forms are constant
bounds_known : (path : List Range) (step : ℤ) (first last : text.Form) → has_constant_bounds (range_between path step first last) ≡ (text.is_constant first && text.is_constant last)
bounds_known path step first last = go (text.is_constant first && text.is_constant last) (has_empty path) refl
  where
    both : (is_some (start_constant first) && text.is_constant last) ≡ (text.is_constant first && text.is_constant last)
    both = ap (λ (b : Bool). b && text.is_constant last) (some_start first)

    go : (t u : Bool) → (text.is_constant first && text.is_constant last) ≡ t
        → has_constant_bounds (if t then fixed_range step first.constant last.constant else (if u then no_range step first last else wide_range path step first last)) ≡ t
    go true u e = fixed_bounds step first.constant last.constant
    go false true e = both ∙ e
    go false false e = wide_bounds path step first last ∙ both ∙ e

-- ---- bounds

-- of a loop from a constant to a constant
pub fixed_bound : {X Y : Type 0} (l : Loop-F X Y) (path : List Range) (r : Range) (least greatest : Form) (step : ℤ) → r ≡ range_of path l → has_constant_bounds r ≡ true
    → IsSameForm least (text.constant_form r.low) → IsSameForm greatest (text.constant_form r.high) → step ≡ l.step → IsBoundOf l (record { least = least; greatest = greatest; step = step })
fixed_bound l path r least greatest step same constant low high steps =
    let first = bound_form l.start in
    let last = last_form l.test (bound_form l.limit) in
    let both : (text.is_constant first && text.is_constant last) ≡ true = sym (bounds_known path l.step first last) ∙ ap has_constant_bounds (sym same) ∙ constant in
    let fixed : r ≡ fixed_range l.step first.constant last.constant =
    same ∙ ap (λ (t : Bool). if t then fixed_range l.step first.constant last.constant else (if has_empty path then no_range l.step first last else wide_range path l.step first last)) both in
    let ends : ends_of l ≡ range_ends r =
    ap (λ (t : Bool). if t then range_ends (fixed_range l.step first.constant last.constant) else ends_by l.step first last) both ∙ ap range_ends (sym fixed) in
    record {
      least = subst (λ (e : Ends). IsSameForm least e.least) (sym ends) low;
      greatest = subst (λ (e : Ends). IsSameForm greatest e.greatest) (sym ends) high;
      step = steps;
    }

-- of another, which goes down or up
moving_ends : {X Y : Type 0} (l : Loop-F X Y) (path : List Range) (r : Range) → r ≡ range_of path l → has_constant_bounds r ≡ false → ends_of l ≡ ends_by l.step (bound_form l.start) (last_form l.test (bound_form l.limit))
moving_ends l path r same moving =
    let first = bound_form l.start in
    let last = last_form l.test (bound_form l.limit) in
    let both : (text.is_constant first && text.is_constant last) ≡ false = sym (bounds_known path l.step first last) ∙ ap has_constant_bounds (sym same) ∙ moving in
    ap (λ (t : Bool). if t then range_ends (fixed_range l.step first.constant last.constant) else ends_by l.step first last) both

ends_down : (step : ℤ) (first last : text.Form) → step <ℤ pos 0 → ends_by step first last ≡ record { least = last; greatest = first }
ends_down (pos n) first last h = absurd (omega (arith, ints, h))
ends_down (negsuc n) first last h = refl

ends_up : (step : ℤ) (first last : text.Form) → pos 0 ≤ℤ step → ends_by step first last ≡ record { least = first; greatest = last }
ends_up (pos n) first last h = refl
ends_up (negsuc n) first last h = absurd (omega (arith, ints, h))

pub bound_down : {X Y : Type 0} (l : Loop-F X Y) (path : List Range) (r : Range) (first last : Form) (step : ℤ) → r ≡ range_of path l → has_constant_bounds r ≡ false → IsSameForm first (bound_form l.start)
    → IsSameForm last (last_form l.test (bound_form l.limit)) → l.step <ℤ pos 0 → step ≡ l.step → IsBoundOf l (record { least = last; greatest = first; step = step })
bound_down l path r first last step same moving begins ends down steps =
    let e = moving_ends l path r same moving ∙ ends_down l.step (bound_form l.start) (last_form l.test (bound_form l.limit)) down in
    record {
      least = subst (λ (x : Ends). IsSameForm last x.least) (sym e) ends;
      greatest = subst (λ (x : Ends). IsSameForm first x.greatest) (sym e) begins;
      step = steps;
    }

pub bound_up : {X Y : Type 0} (l : Loop-F X Y) (path : List Range) (r : Range) (first last : Form) (step : ℤ) → r ≡ range_of path l → has_constant_bounds r ≡ false → IsSameForm first (bound_form l.start)
    → IsSameForm last (last_form l.test (bound_form l.limit)) → pos 0 ≤ℤ l.step → step ≡ l.step → IsBoundOf l (record { least = first; greatest = last; step = step })
bound_up l path r first last step same moving begins ends up steps =
    let e = moving_ends l path r same moving ∙ ends_up l.step (bound_form l.start) (last_form l.test (bound_form l.limit)) up in
    record {
      least = subst (λ (x : Ends). IsSameForm first x.least) (sym e) begins;
      greatest = subst (λ (x : Ends). IsSameForm last x.greatest) (sym e) ends;
      step = steps;
    }

-- ---- numbers

pub more_numbers : (m n : ℕ) (f : Form) → m ≤ n → HasNumbers m f → HasNumbers n f
more_numbers m n f le h = (omega (arith, le, h.0), (λ k d l. omega (arith, le, h.1 k d l)))
