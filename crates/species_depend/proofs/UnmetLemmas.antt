-- A pair of references that is refuted in a direction names no one place from a pair of points of its region.
use Rattle.std.proofs.Common.{◌≡◌, sym, ◌∙◌, arith, ℕ, zero, suc, List, [], ◌∷◌, length, ℤ, pos, Option, Some, None, inl, inr, All}
use Rattle.std.specs.Prelude.{slice_index_or}
use Rattle.std.proofs.lemmas.Int.{ints}
use Rattle.species_affine.proofs.FormLaws.{same_value}
use Rattle.species_affine.specs.Subscript.{IsSubscript}
use Rattle.species_affine.specs.declared.subscript.Subscript.{Subscript}
use Rattle.species_affine.specs.declared.subscript.Subscript.TheVariants.{Affine, Other}
use Rattle.species_arcs.specs.Pairwise.{Pairwise}
use Rattle.species_ast.specs.Scope.Forms as text
use Rattle.species_gcd.proofs.Solutions.{divides_where_met}
use Rattle.species_linear.specs.declared.forms.Form.{Form}
use Rattle.species_linear.specs.declared.loops.LoopRange.{LoopRange}
use Rattle.species_linear.specs.declared.loops.Direction.{Direction}
use Rattle.species_linear.specs.Rising.{IsRising}
use Rattle.species_linear.specs.Point.{Point, point_of}
use Rattle.species_linear.specs.Value.{form_at}
use Rattle.species_linear.proofs.Agree.{form_at-agree_below}
use Rattle.species_occurrences.specs.Affine.{IsIndexOf, AreIndicesOf}
use Rattle.species_references.specs.declared.nest.Reference.{Reference}
use Rattle.species_region.specs.Coordinate.{iterators_at}
use Rattle.species_region.specs.Region.{IsInRegion}
use Rattle.species_region.specs.Asked.{ShareLoops, IsSmallPath, IsFormOver}
use Rattle.species_region.proofs.Levels.{names_16}
use Rattle.species_depend.specs.Refuted.{FormsRuleOut, RulesOut, IsRefuted, IsSubscriptOver, IsTestable}
use Rattle.species_depend.specs.Law.{AreIteratorsAt}

-- ---- subscripts, dimension by dimension

-- what holds of each item and of the default holds at each index, those past the end included
pub at_dimension : {X : Type 0} (P : X → Type 0) (xs : List X) (d : X) → All P xs → P d → (k : ℕ) → P (slice_index_or xs k d)
at_dimension P [] d each none k = none
at_dimension P (x ∷ xs) d each none zero = each 0 d (omega arith)
at_dimension P (x ∷ xs) d each none (suc k) = at_dimension P xs d (λ j e h. each (suc j) e (omega (arith, h))) none k

-- the levels of a form's terms rise, as those of every form in the code
abbrev pub IsRisingSubscript : Subscript → Type 0
IsRisingSubscript (Affine f) = IsRising f.terms
IsRisingSubscript Other = Prim.Unit {0}

-- the index is the value of the form at the iterators
abbrev pub IsValueOfForm : Subscript → ℕ → List ℤ → Type 0
IsValueOfForm (Affine f) i iters = pos i ≡ form_at f (point_of iters)
IsValueOfForm Other i iters = Prim.Unit {0}

pub rising_of : (s : Subscript) (o : Option text.Form) → IsSubscript s o → IsRisingSubscript s
rising_of (Affine f) (Some g) h = h.rising
rising_of (Affine f) None h = absurd h
rising_of Other o h = tt

pub value_of : (s : Subscript) (o : Option text.Form) (i : ℕ) (iters : List ℤ) → IsSubscript s o → IsIndexOf o iters i → IsValueOfForm s i iters
value_of (Affine f) (Some g) i iters same h = h ∙ sym (same_value f g iters same)
value_of (Affine f) None i iters same h = absurd same
value_of Other o i iters same h = tt

pub subs_at : (ss : List Subscript) (os : List (Option text.Form)) → Pairwise IsSubscript ss os → (k : ℕ) → IsSubscript (slice_index_or ss k Other) (slice_index_or os k None)
subs_at [] [] h k = tt
subs_at [] (o ∷ os) h k = absurd h
subs_at (s ∷ ss) [] h k = absurd h
subs_at (s ∷ ss) (o ∷ os) h zero = h.0
subs_at (s ∷ ss) (o ∷ os) h (suc k) = subs_at ss os h.1 k

pub indices_at : (os : List (Option text.Form)) (iters : List ℤ) (is : List ℕ) → AreIndicesOf os iters is → (k : ℕ) → IsIndexOf (slice_index_or os k None) iters (slice_index_or is k 0)
indices_at [] iters [] h k = tt
indices_at [] iters (i ∷ is) h k = absurd h
indices_at (o ∷ os) iters [] h k = absurd h
indices_at (o ∷ os) iters (i ∷ is) h zero = h.0
indices_at (o ∷ os) iters (i ∷ is) h (suc k) = indices_at os iters is h.1 k

-- ---- forms with one value

-- two forms with one value at a pair of the region rule nothing out
forms_unmet : (at : Direction) (ps qs : List LoopRange) (f g : Form) (x y : Point) → ShareLoops at ps qs → IsSmallPath ps → IsSmallPath qs → IsFormOver ps f → IsFormOver qs g →
    IsRising f.terms → IsRising g.terms → IsInRegion at ps qs x y → form_at f (iterators_at ps x) ≡ form_at g (iterators_at qs y) → ¬ FormsRuleOut at ps qs f g
forms_unmet at ps qs f g x y loops small_p small_q over_f over_g rising_f rising_g region meet rules = elim rules [
  | inl not ↦ not (λ d is. divides_where_met 16 f g at ps qs d x y rising_f rising_g (names_16 f ps over_f.named small_p.short) (names_16 g qs over_g.named small_q.short) loops is.common region meet)
  | inr excluded ↦ elim excluded [
    | inl empty ↦ empty x y region
    | inr signs ↦ elim signs [
      | inl positive ↦ omega (arith, ints, positive x y region, meet)
      | inr negative ↦ omega (arith, ints, negative x y region, meet)
    ]
  ]
]

value_at_point : (path : List LoopRange) (f : Form) (is : List ℤ) (x : Point) → IsFormOver path f → AreIteratorsAt path x is → form_at f (iterators_at path x) ≡ form_at f (point_of is)
value_at_point path f is x over point = form_at-agree_below f (length path) (iterators_at path x) (point_of is) over.named (λ k h. point k)

dimension_unmet : (at : Direction) (ps qs : List LoopRange) (s t : Subscript) (i : ℕ) (is js : List ℤ) (x y : Point) → ShareLoops at ps qs → IsSmallPath ps → IsSmallPath qs →
    IsSubscriptOver ps s → IsSubscriptOver qs t → IsRisingSubscript s → IsRisingSubscript t → IsInRegion at ps qs x y → AreIteratorsAt ps x is → AreIteratorsAt qs y js →
    IsValueOfForm s i is → IsValueOfForm t i js → ¬ RulesOut at ps qs s t
dimension_unmet at ps qs (Affine f) (Affine g) i is js x y loops small_p small_q over_s over_t rising_s rising_t region first second index_s index_t rules =
    let meet : form_at f (iterators_at ps x) ≡ form_at g (iterators_at qs y) =
    value_at_point ps f is x over_s first ∙ (sym index_s ∙ (index_t ∙ sym (value_at_point qs g js y over_t second))) in
    forms_unmet at ps qs f g x y loops small_p small_q over_s over_t rising_s rising_t region meet rules
dimension_unmet at ps qs (Affine f) Other i is js x y loops small_p small_q over_s over_t rising_s rising_t region first second index_s index_t rules = rules
dimension_unmet at ps qs Other t i is js x y loops small_p small_q over_s over_t rising_s rising_t region first second index_s index_t rules = rules

-- an access of a reference, at these iterators, with these indices
pub record HasIndices (p : Reference) (is : List ℤ) (a : List ℕ) : Type 0 where
  pub rising : (k : ℕ) → IsRisingSubscript (slice_index_or p.subs k Other)
  pub values : (k : ℕ) → IsValueOfForm (slice_index_or p.subs k Other) (slice_index_or a k 0) is

pub refuted_unmet : (at : Direction) (p q : Reference) (is js : List ℤ) (a : List ℕ) (x y : Point) → IsTestable at p q → HasIndices p is a → HasIndices q js a →
    IsInRegion at p.path q.path x y → AreIteratorsAt p.path x is → AreIteratorsAt q.path y js → ¬ IsRefuted at p q
refuted_unmet at p q is js a x y asked one other region first second refuted = elim refuted [
  | inl empty ↦ empty x y region
  | inr some ↦
      let k = some.0 in
      dimension_unmet at p.path q.path _ _ (slice_index_or a k 0) is js x y asked.loops asked.first.path asked.second.path
      (at_dimension (IsSubscriptOver p.path) p.subs Other asked.first.forms tt k)
      (at_dimension (IsSubscriptOver q.path) q.subs Other asked.second.forms tt k)
      (one.rising k) (other.rising k) region first second (one.values k) (other.values k) some.1
]
