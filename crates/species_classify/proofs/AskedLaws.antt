-- References of one nest share the loops of its front, so each two may be tested at each of its levels.
use Rattle.std.proofs.Common.{◌≡◌, ◌≢◌, refl, ap, sym, ◌∙◌, subst, arith, ℕ, zero, suc, ◌+◌, ◌<◌, ◌≤◌, ◌^◌, Bool, true, false, nat_eq, if◌then◌else◌, List, [], ◌∷◌, ◌++◌, length, length-append, pos, ℤ, Option, Some, None, All, inl, inr}
use Rattle.std.proofs.lemmas.List.{length-map}
use Rattle.std.specs.Int.RustNames.{unsigned_abs}
use Rattle.std.proofs.lemmas.Bool.{cases_lt}
use Rattle.std.proofs.lemmas.Bool.Decides.{nat_tests}
use Rattle.species_affine.specs.Limited.{IsWithin}
use Rattle.species_affine.specs.Subscript.{IsSubscript, HasFormNumbers}
use Rattle.species_affine.specs.declared.subscript.Subscript.{Subscript}
use Rattle.species_affine.specs.declared.subscript.Subscript.TheVariants.{Affine, Other}
use Rattle.species_arcs.specs.Pairwise.{Pairwise}
use Rattle.species_ast.specs.declared.tree.Loop.{Loop}
use Rattle.species_ast.specs.declared.tree.Unit.{Unit as Program}
use Rattle.species_ast.specs.Evaluation.{sizes_of}
use Rattle.species_ast.specs.Run.{source_context}
use Rattle.species_ast.specs.Scope.Forms as text
use Rattle.species_ast.specs.Scope.Nests.{front_of}
use Rattle.species_ast.specs.Scope.References as references
use Rattle.species_ast.specs.Scope.WellMade.{IsWellMade}
use Rattle.species_ast.proofs.Induction.{Each}
use Rattle.species_depend.specs.Carried.{AreAsked}
use Rattle.species_depend.specs.Refuted.{IsSubscriptOver}
use Rattle.species_linear.specs.Box.{HasSmallEnds}
use Rattle.species_linear.specs.Rising.{IsRisingFrom}
use Rattle.species_linear.specs.Value.{coefficient_at}
use Rattle.species_linear.specs.declared.forms.Term.{Term}
use Rattle.species_occurrences.proofs.PositionLaws.{each_weaker}
use Rattle.species_references.specs.References.{adds_of, IsReference}
use Rattle.species_references.proofs.TurnLaws.{each_to_all}
use Rattle.species_classify.specs.Places.{StandsIn}
use Rattle.species_classify.proofs.FrontLemmas.{nest_front}
use Rattle.species_classify.proofs.PlaceLaws.{IsOverLevels, IsPlaced, standing_placed}
use Rattle.species_classify.proofs.SoundLemmas.{IsSound}
use Rattle.std.specs.Prelude.{slice_index_or}
use Rattle.species_ast.specs.Scope.Hulls.{Range}
use Rattle.species_linear.specs.declared.loops.LoopRange.{LoopRange}
use Rattle.species_linear.specs.Box.{zero_range, range_at}
use Rattle.species_occurrences.specs.Made.{Begins}
use Rattle.species_references.specs.declared.nest.Reference.{Reference}
use Rattle.species_references.specs.Ranges.{range_seen, ranges_seen}
use Rattle.species_region.specs.Asked.{ShareLoops}
use Rattle.species_depend.specs.Refuted.{directed, IsSmallReference, IsTestable}

-- ---- ranges by level

seen_same : (a b : LoopRange) → range_seen a ≡ range_seen b → a ≡ b
seen_same a b h = λ t. record { low = (h t).low; high = (h t).high; step = (h t).step; start = (h t).start; fixed = (h t).fixed }

seen_at : (path : List LoopRange) (k : ℕ) → range_seen (range_at path k) ≡ slice_index_or (ranges_seen path) k (range_seen zero_range)
seen_at [] k = refl
seen_at (r ∷ path) zero = refl
seen_at (r ∷ path) (suc k) = seen_at path k

in_front : (xs ys : List Range) (k : ℕ) (d : Range) → k < length xs → slice_index_or (xs ++ ys) k d ≡ slice_index_or xs k d
in_front [] ys k d below = absurd (omega (arith, below))
in_front (x ∷ xs) ys zero d below = refl
in_front (x ∷ xs) ys (suc k) d below = in_front xs ys k d (omega (arith, below))

-- paths that begin alike have the same ranges there
same_range : (front : List Range) (ps qs : List LoopRange) (k : ℕ) → Begins front (ranges_seen ps) → Begins front (ranges_seen qs) → k < length front → range_at ps k ≡ range_at qs k
same_range front ps qs k b c below = seen_same (range_at ps k) (range_at qs k) (side ps b ∙ sym (side qs c))
  where
    side : (path : List LoopRange) → Begins front (ranges_seen path) → range_seen (range_at path k) ≡ slice_index_or front k (range_seen zero_range)
    side path b = seen_at path k ∙ (ap (λ (l : List Range). slice_index_or l k (range_seen zero_range)) b.1 ∙ in_front front b.0 k (range_seen zero_range) below)

long_path : (front : List Range) (path : List LoopRange) → Begins front (ranges_seen path) → length front ≤ length path
long_path front path b =
    let seen : length (ranges_seen path) ≡ length path = length-map path range_seen in
    let whole : length (ranges_seen path) ≡ length (front ++ b.0) = ap length b.1 in
    omega (arith, seen, whole, length-append front b.0)

-- ---- pairs of references

pub share_loops : (path more : List Range) (d level : ℕ) (ps qs : List LoopRange) → length more ≡ d → level < d → Begins (path ++ more) (ranges_seen ps) → Begins (path ++ more) (ranges_seen qs)
    → ShareLoops (directed (length path) level true) ps qs
share_loops path more d level ps qs few below b c =
    let whole : length (path ++ more) ≡ length path + length more = length-append path more in
    record {
      first = omega (arith, few, below, whole, long_path (path ++ more) ps b);
      second = omega (arith, few, below, whole, long_path (path ++ more) qs c);
      same = λ k h. same_range (path ++ more) ps qs k b c (omega (arith, few, below, whole, h));
    }

pub testable : (path more : List Range) (d level : ℕ) (p q : Reference) → length more ≡ d → level < d → Begins (path ++ more) (ranges_seen p.path) → Begins (path ++ more) (ranges_seen q.path)
    → IsSmallReference p → IsSmallReference q → IsTestable (directed (length path) level true) p q
testable path more d level p q few below b c small small_other = record { loops = share_loops path more d level p.path q.path few below b c; first = small; second = small_other }

-- ---- references with small numbers

all_to_each : {X : Type 0} (P : X → Type 0) (xs : List X) → All P xs → Each P xs
all_to_each P [] h = tt
all_to_each P (x ∷ xs) h = (h 0 x (omega arith), all_to_each P xs (λ k d l. h (suc k) d (omega (arith, l))))

-- terms that have no coefficient from a level on name levels below it
named_below : (ts : List Term) (k n : ℕ) → IsRisingFrom k ts → ((level : ℕ) → n ≤ level → coefficient_at ts level ≡ pos 0) → Each (λ t. t.level < n) ts
named_below [] k n rising none = tt
named_below (t ∷ ts) k n rising none = (first, named_below ts (t.level + 1) n rising.2 rest)
  where
    own : coefficient_at (t ∷ ts) t.level ≡ t.coefficient
    own = let same : nat_eq t.level t.level ≡ true = grind (arith, nat_tests) in ap (λ (b : Bool). if b then t.coefficient else coefficient_at ts t.level) same

    first : t.level < n
    first = elim (cases_lt t.level n) [
      | inl less ↦ less
      | inr more ↦ absurd (rising.1 (sym own ∙ none t.level more))
    ]

    rest : (level : ℕ) → n ≤ level → coefficient_at ts level ≡ pos 0
    rest level more =
        let other : nat_eq t.level level ≡ false = grind (arith, nat_tests, first, more) in
        sym (ap (λ (b : Bool). if b then t.coefficient else coefficient_at ts level) other) ∙ none level more

past_end : (cs : List ℤ) (level : ℕ) → length cs ≤ level → slice_index_or cs level (pos 0) ≡ pos 0
past_end [] level h = refl
past_end (c ∷ cs) zero h = absurd (omega (arith, h))
past_end (c ∷ cs) (suc level) h = past_end cs level (omega (arith, h))

subscript_over : (path : List LoopRange) (n : ℕ) (s : Subscript) (o : Option text.Form) → n ≡ length path → IsSubscript s o → IsOverLevels n o → HasFormNumbers s → IsSubscriptOver path s
subscript_over path n Other o same shown over numbers = tt
subscript_over path n (Affine f) None same shown over numbers = absurd shown
subscript_over path n (Affine f) (Some g) same shown over numbers =
    let none : (level : ℕ) → n ≤ level → coefficient_at f.terms level ≡ pos 0 = λ level more. shown.coefficients level ∙ past_end g.coefficients level (omega (arith, over g refl, more)) in
    record {
      named = subst (λ k. All (λ t. t.level < k) f.terms) same (each_to_all (λ t. t.level < n) f.terms (named_below f.terms 0 n shown.rising none));
      small = (
        omega (arith, numbers.0),
        each_to_all (λ t. unsigned_abs t.coefficient < 2 ^ 70) f.terms (each_weaker (λ t. IsWithin t.coefficient) (λ t. unsigned_abs t.coefficient < 2 ^ 70) (λ t k. omega (arith, k)) f.terms (all_to_each (λ t. IsWithin t.coefficient) f.terms numbers.1)),
      );
    }

subscripts_over : (path : List LoopRange) (n : ℕ) (ss : List Subscript) (os : List (Option text.Form)) → n ≡ length path → Pairwise IsSubscript ss os → Each (IsOverLevels n) os → Each HasFormNumbers ss → Each (IsSubscriptOver path) ss
subscripts_over path n [] [] same shown over numbers = tt
subscripts_over path n [] (o ∷ os) same shown over numbers = absurd shown
subscripts_over path n (s ∷ ss) [] same shown over numbers = absurd shown
subscripts_over path n (s ∷ ss) (o ∷ os) same shown over numbers = (subscript_over path n s o same shown.0 over.0 numbers.0, subscripts_over path n ss os same shown.1 over.1 numbers.1)

small_ends : (path : List LoopRange) → Each IsSound (ranges_seen path) → Each HasSmallEnds path
small_ends [] h = tt
small_ends (r ∷ path) h = ((h.0.low, h.0.high), small_ends path h.1)

with_steps : (path : List LoopRange) → Each IsSound (ranges_seen path) → Each (λ r. r.step ≢ pos 0) path
with_steps [] h = tt
with_steps (r ∷ path) h = (h.0.step, with_steps path h.1)

small_reference : (u : Program) (inner : ℕ) (r : Reference) (q : references.Reference) → IsReference (sizes_of (source_context u)) inner r q → IsPlaced u inner q → IsSmallReference r
small_reference u inner r q shown placed =
    let sound = subst (Each IsSound) (sym shown.path) placed.sound in
    let long : length q.path ≡ length r.path = ap length (sym shown.path) ∙ length-map r.path range_seen in
    record {
      path = record {
        short = omega (arith, long, placed.deep);
        small = each_to_all HasSmallEnds r.path (small_ends r.path sound);
        steps = each_to_all (λ x. x.step ≢ pos 0) r.path (with_steps r.path sound);
      };
      forms = each_to_all (IsSubscriptOver r.path) r.subs (subscripts_over r.path (length q.path) r.subs q.subs long shown.subs placed.forms (all_to_each HasFormNumbers r.subs shown.numbers));
    }

-- ---- all references of a nest

-- what is known of each: it has small numbers, and its path begins with that of the front
abbrev IsKnown : List Range → Reference → Type 0
IsKnown front r = IsSmallReference r × Begins front (ranges_seen r.path)

all_known : (u : Program) (inner : ℕ) (front : List Range) (rs : List Reference) (qs : List references.Reference) → Pairwise (IsReference (sizes_of (source_context u)) inner) rs qs → Each (IsPlaced u inner) qs
    → Each (λ q. Begins front q.path) qs → Each (IsKnown front) rs
all_known u inner front [] [] shown placed begins = tt
all_known u inner front [] (q ∷ qs) shown placed begins = absurd shown
all_known u inner front (r ∷ rs) [] shown placed begins = absurd shown
all_known u inner front (r ∷ rs) (q ∷ qs) shown placed begins = (
  (small_reference u inner r q shown.0 placed.0, subst (Begins front) (sym shown.0.path) begins.0),
  all_known u inner front rs qs shown.1 placed.1 begins.1,
)

known_asked : (path more : List Range) (d level : ℕ) (refs : List Reference) → length more ≡ d → level < d → Each (IsKnown (path ++ more)) refs → AreAsked refs (length path) level
known_asked path more d level refs few below known =
    each_to_all (λ p. All (λ q. p.array ≡ q.array → IsTestable (directed (length path) level true) p q) refs) refs
    (each_weaker (IsKnown (path ++ more)) (λ p. All (λ q. p.array ≡ q.array → IsTestable (directed (length path) level true) p q) refs)
    (λ p h. each_to_all (λ q. p.array ≡ q.array → IsTestable (directed (length path) level true) p q) refs
    (each_weaker (IsKnown (path ++ more)) (λ q. p.array ≡ q.array → IsTestable (directed (length path) level true) p q)
    (λ q k same. testable path more d level p q few below h.1 k.1 h.0 k.0) refs known)) refs known)

-- each two references of a nest may be tested at each level of its front
pub nest_asked : (u : Program) (head : Loop) (path : List Range) (refs : List Reference) (front level : ℕ) → IsWellMade u → StandsIn u head path
    → Pairwise (IsReference (sizes_of (source_context u)) (length path + 1)) refs (references.references_of (adds_of []) head [] path 1)
    → front ≤ length (front_of head) → level < front → AreAsked refs (length path) level
nest_asked u head path refs front level well stands shown within below =
    let shares = nest_front (adds_of []) head [] path 1 front within in
    known_asked path shares.0 front level refs shares.1 below
    (all_known u (length path + 1) (path ++ shares.0) refs (references.references_of (adds_of []) head [] path 1) shown (standing_placed (adds_of []) u head path [] 1 well stands) shares.2)

-- ---- the ranges around a loop of a unit

pub sound_path : (path : List LoopRange) → Each IsSound (ranges_seen path) → All HasSmallEnds path
sound_path path h = each_to_all HasSmallEnds path (small_ends path h)
