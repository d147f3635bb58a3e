-- The indices of an access lie in the boxes of the reference that makes it.
use Rattle.std.proofs.Common.{◌≡◌, refl, sym, ◌∙◌, subst, arith, ℕ, zero, suc, ◌<◌, ◌≤◌, Bool, true, false, nat_eq, nat_lt, if◌then◌else◌, List, [], ◌∷◌, ◌++◌, map, length, take, slice_index_or, ℤ, pos, ◌-ℤ◌, Option, Some, None}
use Rattle.std.proofs.Math.Nat.{one-dvd}
use Rattle.std.proofs.lemmas.Int.{ints}
use Rattle.std.proofs.lemmas.Bool.Decides.{nat_tests}
use Rattle.species_affine.specs.Subscript.{IsSubscript, IsSameForm}
use Rattle.species_affine.specs.declared.subscript.Subscript.{Subscript}
use Rattle.species_affine.specs.declared.subscript.Subscript.TheVariants.{Affine, Other}
use Rattle.species_affine.proofs.FormLaws.{same_value}
use Rattle.species_arcs.specs.Pairwise.{Pairwise}
use Rattle.species_arcs.specs.Spans.{IsInSpan}
use Rattle.species_arcs.specs.declared.spans.Span.{Span}
use Rattle.species_ast.specs.declared.tree.Loop.{Loop}
use Rattle.species_ast.specs.Scope.Forms.{Form, form_value, sum_of}
use Rattle.species_ast.specs.Scope.Hulls.{Range}
use Rattle.species_linear.specs.Point.{point_of}
use Rattle.species_linear.specs.Value.{sum_at, coefficient_at}
use Rattle.species_linear.specs.declared.forms.Form as linear
use Rattle.species_linear.specs.declared.forms.Term.{Term}
use Rattle.species_linear.proofs.Agree.{sum_at-agree, agree_below}
use Rattle.species_linear.proofs.Coefficients.{coefficient_past}
use Rattle.species_merge.specs.Classes.{terms_of, terms_below}
use Rattle.species_merge.specs.Law.{AreInBoxes}
use Rattle.species_merge.proofs.Folding.{all_of}
use Rattle.species_merge.proofs.TermLemmas.{all_below, below_rising}
use Rattle.species_occurrences.specs.Affine.{IsIndexOf, AreIndicesOf}
use Rattle.species_occurrences.specs.Iterators.{AreTaken, ranges_of}
use Rattle.species_references.specs.Boxes.{IsBoxIn, AreBoxes}
use Rattle.species_references.proofs.BoxLaws.{boxes_hold}
use Rattle.species_runs.specs.Indices.{AreIndices}

-- ---- the terms below a level

below_coefficient : (top level : ℕ) (ts : List Term) → level < top → coefficient_at (terms_below top ts) level ≡ coefficient_at ts level
below_coefficient top level [] l = refl
below_coefficient top level (t ∷ ts) l = go (nat_lt t.level top) refl (below_coefficient top level ts l)
  where
    kept : (b : Bool) (x : ℤ) (us vs : List Term) → coefficient_at us level ≡ coefficient_at vs level → (if b then x else coefficient_at us level) ≡ (if b then x else coefficient_at vs level)
    kept true x us vs e = refl
    kept false x us vs e = e

    go : (b : Bool) → nat_lt t.level top ≡ b → coefficient_at (terms_below top ts) level ≡ coefficient_at ts level
        → coefficient_at (if b then t ∷ terms_below top ts else terms_below top ts) level ≡ (if nat_eq t.level level then t.coefficient else coefficient_at ts level)
    go true is rest = kept (nat_eq t.level level) t.coefficient (terms_below top ts) ts rest
    go false is rest = let other : nat_eq t.level level ≡ false = grind (arith, nat_tests, is, l) in rw other rest

take_at : (top level : ℕ) (cs : List ℤ) → level < top → slice_index_or (take top cs) level (pos 0) ≡ slice_index_or cs level (pos 0)
take_at zero level cs l = absurd (omega (arith, l))
take_at (suc n) level [] l = refl
take_at (suc n) zero (c ∷ cs) l = refl
take_at (suc n) (suc k) (c ∷ cs) l = take_at n k cs (omega (arith, l))

take_past : (top level : ℕ) (cs : List ℤ) → top ≤ level → slice_index_or (take top cs) level (pos 0) ≡ pos 0
take_past zero level cs l = refl
take_past (suc n) level [] l = refl
take_past (suc n) zero (c ∷ cs) l = absurd (omega (arith, l))
take_past (suc n) (suc k) (c ∷ cs) l = take_past n k cs (omega (arith, l))

same_front : (top : ℕ) (f : linear.Form) (g : Form) → IsSameForm f g
    → IsSameForm (record { constant = pos 0; terms = terms_below top f.terms }) (record { constant = pos 0; coefficients = take top g.coefficients })
same_front top f g same = record { constant = refl; coefficients = λ level. at level (nat_lt level top) refl; rising = below_rising top 0 f.terms same.rising }
  where
    at : (level : ℕ) (b : Bool) → nat_lt level top ≡ b → coefficient_at (terms_below top f.terms) level ≡ slice_index_or (take top g.coefficients) level (pos 0)
    at level true is =
        let l : level < top = grind (arith, nat_tests, is) in
        below_coefficient top level f.terms l ∙ same.coefficients level ∙ sym (take_at top level g.coefficients l)
    at level false is =
        let l : top ≤ level = grind (arith, nat_tests, is) in
        coefficient_past top level (terms_below top f.terms) (all_of (λ t. t.level < top) (terms_below top f.terms) (all_below top f.terms)) l ∙ sym (take_past top level g.coefficients l)

front_point : (iters more : List ℤ) (k : ℕ) → k < length iters → point_of iters k ≡ point_of (iters ++ more) k
front_point [] more k l = absurd (omega (arith, l))
front_point (i ∷ iters) more zero l = refl
front_point (i ∷ iters) more (suc k) l = front_point iters more k (omega (arith, l))

front_sum : (top : ℕ) (f : linear.Form) (g : Form) (iters more : List ℤ) → IsSameForm f g → length iters ≡ top
    → sum_at (terms_below top f.terms) (point_of iters) ≡ sum_of (take top g.coefficients) (iters ++ more)
front_sum top f g iters more same long =
    let ts = terms_below top f.terms in
    let value = same_value (record { constant = pos 0; terms = ts }) (record { constant = pos 0; coefficients = take top g.coefficients }) (iters ++ more) (same_front top f g same) in
    let agree : sum_at ts (point_of iters) ≡ sum_at ts (point_of (iters ++ more)) =
    sum_at-agree ts (point_of iters) (point_of (iters ++ more))
    (agree_below ts top (point_of iters) (point_of (iters ++ more)) (all_of (λ t. t.level < top) ts (all_below top f.terms)) (λ k l. front_point iters more k (omega (arith, l, long)))) in
    omega (arith, ints, agree, value)

-- ---- one dimension

index_in_box : (path : List Range) (inner : List Loop) (size : ℕ) (s : Subscript) (o : Option Form) (x : Span) (iters more : List ℤ) (v : ℕ) → length iters ≡ length path → IsSubscript s o
    → IsBoxIn (length path) (ranges_of path inner) size o x → AreTaken (ranges_of path inner) (iters ++ more) → IsIndexOf o (iters ++ more) v → v < size
    → IsInSpan x (pos v -ℤ sum_at (terms_below (length path) (terms_of s)) (point_of iters))
index_in_box path inner size (Affine f) (Some g) x iters more v long same box taken index below =
    let front = front_sum (length path) f g iters more same long in
    let moved : form_value g (iters ++ more) -ℤ sum_of (take (length path) g.coefficients) (iters ++ more) ≡ pos v -ℤ sum_at (terms_below (length path) f.terms) (point_of iters) = omega (arith, ints, index, front) in
    subst (IsInSpan x) moved (boxes_hold path inner g x (iters ++ more) box taken)
index_in_box path inner size (Affine f) None x iters more v long same box taken index below = absurd same
index_in_box path inner size Other (Some g) x iters more v long same box taken index below = absurd same
index_in_box path inner size Other None x iters more v long same box taken index below =
    subst (λ y. IsInSpan y (pos v -ℤ pos 0)) (sym box) (omega (arith, ints), omega (arith, ints, below), one-dvd _)

-- ---- all dimensions

pub indices_in_boxes : (path : List Range) (inner : List Loop) (sizes : List ℕ) (ss : List Subscript) (os : List (Option Form)) (xs : List Span) (is : List ℕ) (iters more : List ℤ)
    → length iters ≡ length path → Pairwise IsSubscript ss os → AreBoxes (length path) (ranges_of path inner) sizes os xs → AreTaken (ranges_of path inner) (iters ++ more)
    → AreIndicesOf os (iters ++ more) is → AreIndices sizes is → AreInBoxes (length path) (point_of iters) ss xs (map pos is)
indices_in_boxes path inner sizes [] [] [] [] iters more long subs boxes taken forms below = tt
indices_in_boxes path inner sizes [] [] [] (i ∷ is) iters more long subs boxes taken forms below = absurd forms
indices_in_boxes path inner sizes [] [] (x ∷ xs) is iters more long subs boxes taken forms below = absurd boxes
indices_in_boxes path inner sizes [] (o ∷ os) xs is iters more long subs boxes taken forms below = absurd subs
indices_in_boxes path inner sizes (s ∷ ss) [] xs is iters more long subs boxes taken forms below = absurd subs
indices_in_boxes path inner sizes (s ∷ ss) (o ∷ os) [] is iters more long subs boxes taken forms below = absurd boxes
indices_in_boxes path inner sizes (s ∷ ss) (o ∷ os) (x ∷ xs) [] iters more long subs boxes taken forms below = absurd forms
indices_in_boxes path inner [] (s ∷ ss) (o ∷ os) (x ∷ xs) (i ∷ is) iters more long subs boxes taken forms below = absurd below
indices_in_boxes path inner (n ∷ sizes) (s ∷ ss) (o ∷ os) (x ∷ xs) (i ∷ is) iters more long subs boxes taken forms below = (
  index_in_box path inner n s o x iters more i long subs.0 boxes.0 taken forms.0 below.0,
  indices_in_boxes path inner sizes ss os xs is iters more long subs.1 boxes.1 taken forms.1 below.1,
)
