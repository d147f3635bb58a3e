-- Accesses in two turns of the band of a planned nest are harmless, if they are to one element.
use Rattle.std.proofs.Common.{◌≡◌, refl, ap, sym, ◌∙◌, subst, arith, ℕ, zero, suc, ◌+◌, ◌<◌, ◌≤◌, List, [], ◌∷◌, ◌++◌, length, ℤ}
use Rattle.std.specs.List.{Contains}
use Rattle.std.proofs.lemmas.List.{length-append, length-map}
use Rattle.species_ast.specs.Accesses.{Joins, Access, Tree}
use Rattle.species_ast.specs.Evaluation.{Frame, sizes_of}
use Rattle.species_ast.specs.Run.{source_context}
use Rattle.species_ast.specs.Scope.Hulls.{Range}
use Rattle.species_ast.specs.Scope.Nests.{front_of}
use Rattle.species_ast.specs.Scope.References.{references_of}
use Rattle.species_ast.specs.Scope.WellMade.{IsWellMade}
use Rattle.species_ast.specs.declared.tree.Unit.{Unit as Program}
use Rattle.species_ast.proofs.Induction.{Each}
use Rattle.species_classify.specs.Decisions.{IsDecision}
use Rattle.species_classify.specs.Places.{StandsIn}
use Rattle.species_classify.specs.declared.decide.Decision.{Decision}
use Rattle.species_depend.specs.Law.{DifferInBand}
use Rattle.species_linear.specs.Point.{point_of}
use Rattle.species_lines.specs.Lines.{Standing, standing_nest, band_loops, AdditionsAreMarked}
use Rattle.species_lines.proofs.StandingLaws.{ranges_append, own_references}
use Rattle.species_lines.proofs.TurnIterators.{turn_iterators}
use Rattle.species_nests.specs.Arrivals.{Running, turn_of}
use Rattle.species_occurrences.specs.Iterators.{AreTaken, ranges_of}
use Rattle.species_occurrences.specs.Made.{IsMadeAmong, Begins, IsMade}
use Rattle.species_occurrences.specs.Regular.{as_marked}
use Rattle.species_occurrences.specs.Turns.{Turn}
use Rattle.species_occurrences.proofs.HeaderLaws.{HasIters}
use Rattle.species_occurrences.proofs.IterationLaws.{nest_body_made}
use Rattle.species_references.specs.References.{adds_of}
use Rattle.species_runs.proofs.EveryLaws.{every_access}
use Rattle.species_plan_truth.specs.Meetings.{AreHarmless, PlannedNeverMeet}
use Rattle.species_plan_truth.specs.Truth.{IsTurnOf, accessed}
use Rattle.species_plan_truth.proofs.LineBands.{ranges_length, same_sizes, same_path, band_deep, outer_length}
use Rattle.species_plan_truth.proofs.LineHolds.{innermost_regular, elsewhere}
use Rattle.species_plan_truth.proofs.MarkLaws.{unmarked_same, marked_same}

-- ---- lists

each_contains : {X : Type 0} (P : X → Type 0) (xs : List X) → Each P xs → (x : X) → Contains xs x → P x
each_contains P [] h x c = let below = c.1 in absurd (omega (arith, below))
each_contains P (y ∷ xs) h x (zero, below, is) = subst P is h.0
each_contains P (y ∷ xs) h x (suc k, below, is) = each_contains P xs h.1 x (k, omega (arith, below), is)

front_point : (iters more : List ℤ) (k : ℕ) → k < length iters → point_of (iters ++ more) k ≡ point_of iters k
front_point [] more k l = absurd (omega (arith, l))
front_point (i ∷ iters) more zero l = refl
front_point (i ∷ iters) more (suc k) l = front_point iters more k (omega (arith, l))

taken_length : (path : List Range) (iters : List ℤ) → AreTaken path iters → length path ≡ length iters
taken_length [] [] h = refl
taken_length [] (i ∷ iters) h = absurd h
taken_length (r ∷ path) [] h = absurd h
taken_length (r ∷ path) (i ∷ iters) h = ap suc (taken_length path iters h.1)

-- what begins with iterators differs as these do
differ_behind : (outer depth : ℕ) (is js xs ys : List ℤ) → outer + depth ≡ length is → outer + depth ≡ length js → Begins is xs → Begins js ys → DifferInBand outer depth is js → DifferInBand outer depth xs ys
differ_behind outer depth is js xs ys p q (more, e) (rest, f) h =
    let first : (k : ℕ) → k < outer + depth → point_of xs k ≡ point_of is k = λ k l. ap (λ z. point_of z k) e ∙ front_point is more k (omega (arith, l, p)) in
    let second : (k : ℕ) → k < outer + depth → point_of ys k ≡ point_of js k = λ k l. ap (λ z. point_of z k) f ∙ front_point js rest k (omega (arith, l, q)) in
    record {
      same = λ k l. first k (omega (arith, l)) ∙ h.same k l ∙ sym (second k (omega (arith, l)));
      level = h.level;
      below = h.below;
      differ = λ same. h.differ (sym (first (outer + h.level) (omega (arith, h.below))) ∙ same ∙ second (outer + h.level) (omega (arith, h.below)));
    }

-- ---- the accesses of a turn

-- the access is made by one of the references of the nest, in a turn with these iterators
abbrev IsMadeThere : Program → Standing → List ℕ → List ℤ → Access → Type 0
IsMadeThere u s gathered iters a =
    IsMadeAmong (sizes_of (source_context u)) (references_of (adds_of gathered) s.head s.at (ranges_of [] s.around) (suc s.below)) a × Begins iters a.site.iters

record IsOfTurn (u : Program) (s : Standing) (gathered : List ℕ) (t : Turn) (done : List Access) : Type 0 where
  long : length s.around + suc s.below ≡ length t.frame.iters
  made : Each (IsMadeThere u s gathered t.frame.iters) done

turn_made : (additions : AdditionsAreMarked) (join : Joins) (u : Program) (s : Standing) (gathered : List ℕ) (r : Running) (t : Turn) → suc s.below ≤ length (front_of s.head)
    → (here : IsTurnOf join u s gathered r t) → IsOfTurn u s gathered t (accessed join here.marked r t)
turn_made additions join u s gathered r t deep here =
    let v = here.marked in
    let n = here.nest in
    let adds = adds_of gathered in
    let there = elsewhere join u s gathered r t here in
    let iters = t.frame.iters in
    let around = ranges_of [] r.around in
    let does : Tree Frame = turn_of (source_context v) r.loop r.at t.frame in
    let regular = innermost_regular adds n r here.innermost (additions join v here.start r here.made here.comes).0 here.marks.head.additions in
    let their = turn_iterators join v here.start r t here.made here.comes here.turn in
    let taken : AreTaken (ranges_of around (r.loop ∷ [])) iters = subst (λ p. AreTaken p iters) (ranges_append [] r.around (r.loop ∷ [])) their.0.0 in
    let own : references_of adds r.loop r.at around 1 ≡ references_of adds s.head s.at (ranges_of [] s.around) (suc s.below) =
    sym (own_references adds n r here.innermost)
    ∙ (λ i. references_of adds n.head (here.marks.at i) (same_path u v s n there i) (band_deep u v s n there deep i))
    ∙ unmarked_same gathered n.head s.head s.at (ranges_of [] s.around) (suc s.below) here.marks.head.text in
    let done = every_access join (IsMade (sizes_of (source_context v)) iters (references_of adds r.loop r.at around 1)) (HasIters iters) does t.arrays
    (nest_body_made (source_context v) adds 0 r.loop r.at around iters t.frame regular taken their.0.1 refl) in
    let count = band_deep u v s n there deep in
    record {
      long =
          omega (
            arith,
            taken_length (ranges_of [] (r.around ++ r.loop ∷ [])) iters their.0.0,
            ranges_length [] (r.around ++ r.loop ∷ []),
            ap length here.innermost.loops,
            length-append n.around (band_loops n),
            length-map (standing_nest n).loops (λ p. p.loop),
            count,
            outer_length u v s n there,
            ranges_length [] s.around,
          );
      made = subst (λ z. Each (λ a. IsMadeAmong z (references_of adds s.head s.at (ranges_of [] s.around) (suc s.below)) a × Begins iters a.site.iters) (accessed join v r t)) (same_sizes u v here.same)
          (subst (λ rs. Each (IsMade (sizes_of (source_context v)) iters rs) (accessed join v r t)) own done);
    }

-- ---- the law

-- Of a nest with this decision, which is parallel with this band.
pub line_apart : (never : PlannedNeverMeet) (additions : AdditionsAreMarked) (u : Program) (s : Standing) (d : Decision) → IsWellMade u → StandsIn u s.head (ranges_of [] s.around)
    → IsDecision u s.head (ranges_of [] s.around) d → d.depth ≡ suc s.below → suc s.below ≤ length (front_of s.head)
    → (join : Joins) (r q : Running) (t v : Turn) (here : IsTurnOf join u s d.gathered r t) (there : IsTurnOf join u s d.gathered q v) (a b : Access)
    → Contains (accessed join here.marked r t) a → Contains (accessed join there.marked q v) b
    → DifferInBand (length s.around) (suc s.below) t.frame.iters v.frame.iters → a.element ≡ b.element → AreHarmless d.gathered a b
line_apart never additions u s d well stands decided parallel deep join r q t v here there a b first second differ same =
    let path = ranges_of [] s.around in
    let sizes = sizes_of (source_context u) in
    let marked = here.nest.head in
    let own = turn_made additions join u s d.gathered r t deep here in
    let other = turn_made additions join u s d.gathered q v deep there in
    let x = each_contains (IsMadeThere u s d.gathered t.frame.iters) (accessed join here.marked r t) own.made a first in
    let y = each_contains (IsMadeThere u s d.gathered v.frame.iters) (accessed join there.marked q v) other.made b second in
    let refs : references_of (adds_of d.gathered) s.head s.at path (suc s.below) ≡ references_of as_marked marked s.at path (suc s.below) = sym (marked_same (adds_of d.gathered) marked s.at path (suc s.below) here.marks.head.additions ∙ unmarked_same d.gathered marked s.head s.at path (suc s.below) here.marks.head.text) in
    let outer : length s.around ≡ length path = omega (arith, ranges_length [] s.around) in
    let apart = differ_behind (length s.around) (suc s.below) t.frame.iters v.frame.iters a.site.iters b.site.iters own.long other.long x.1 y.1 differ in
    never u s.head marked path d s.at (suc s.below) a b well stands decided here.marks.head (subst (λ rs. IsMadeAmong sizes rs a) refs x.0) (subst (λ rs. IsMadeAmong sizes rs b) refs y.0)
    (subst (λ k. DifferInBand k d.depth a.site.iters b.site.iters) outer (subst (λ k. DifferInBand (length s.around) k a.site.iters b.site.iters) (sym parallel) apart)) same
