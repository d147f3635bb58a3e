-- The table of a unit that is read is true of each run.
use Rattle.std.proofs.Common.{◌≡◌, ◌≢◌, refl, ap, sym, ◌∙◌, subst, arith, ℕ, zero, suc, ◌+◌, ◌<◌, ◌≤◌, ◌^◌, Bool, true, false, not, nat_lt, List, [], ◌∷◌, ◌++◌, map, length, ℤ, ◌≤ℤ◌, Some, inl, inr}
use Rattle.std.specs.Prelude.{codes, slice_get, slice_index_or}
use Rattle.std.specs.List.{Any, Contains, flat_map, list_all}
use Rattle.std.proofs.lemmas.Bool.{and_parts}
use Rattle.std.proofs.lemmas.Bool.Decides.{nat_tests}
use Rattle.species_arcs.specs.Pairwise.{Pairwise}
use Rattle.species_arcs.specs.Sets.{IsInSet, IsInDimDomain, IsInDomain}
use Rattle.species_arcs.specs.declared.places.Arc.{Arc}
use Rattle.species_arcs.specs.declared.places.ArcDim.{ArcDim}
use Rattle.species_arcs.specs.declared.places.Dir.{Dir}
use Rattle.species_arcs.specs.declared.places.Dir.TheVariants as dir
use Rattle.species_arcs.proofs.PairwiseLaws.{pairwise_length}
use Rattle.species_ast.specs.declared.tree.Loop.{Loop, out-Loop}
use Rattle.species_ast.specs.declared.tree.Stmt.TheVariants as stmt
use Rattle.species_ast.specs.declared.tree.Unit.{Unit as Program}
use Rattle.species_ast.specs.Accesses.{Joins, Access}
use Rattle.species_ast.specs.Evaluation.{sizes_of}
use Rattle.species_ast.specs.Names.{is_name}
use Rattle.species_ast.specs.Run.{source_context}
use Rattle.species_ast.specs.Strip.{strip_loop, source_of}
use Rattle.species_ast.specs.Scope.Limits.{most_references_made}
use Rattle.species_ast.specs.Scope.Loops.{outermost_loops}
use Rattle.species_ast.specs.Scope.References.{Reference, no_adds, references_of, reference_count}
use Rattle.species_ast.specs.Scope.WellMade.{IsWellMade}
use Rattle.species_ast.proofs.Induction.{Each}
use Rattle.species_ast.proofs.StripKeeps.{strip-IsWellMade}
use Rattle.species_ast.proofs.StripLaws.{strip_of-IsUnmarked}
use Rattle.species_cover.specs.Places.{IsInGivenDim}
use Rattle.species_linear.specs.Point.{Point, point_of}
use Rattle.species_linear.specs.Value.{form_at}
use Rattle.species_lines.specs.Lines.{place_of, IsIn, IsTouch, Standing, IsInnermost, AreNestArcs, HoldIn, LinesHold, AdditionsAreMarked}
use Rattle.species_merge.specs.Arcs.{AreArcsOf}
use Rattle.species_merge.specs.Bounds.{IsBoundOf}
use Rattle.species_merge.specs.Law.{AreSettled, ReferencesAreSettled}
use Rattle.species_merge.specs.declared.bands.BandBound.{BandBound}
use Rattle.species_nests.specs.Arrivals.{Running}
use Rattle.species_notation.specs.Law.{dim_as_given}
use Rattle.species_notation.specs.TableLines.{table_line_of, table_line_for, TableReadsBack}
use Rattle.species_notation.specs.Written.{table_line_text}
use Rattle.species_occurrences.specs.Made.{IsMadeBy, IsMadeAmong}
use Rattle.species_occurrences.specs.Surely.{IsOneOf}
use Rattle.species_occurrences.specs.Turns.{Turn}
use Rattle.species_references.specs.Law.{HasTurns}
use Rattle.species_references.specs.References.{direction_of, IsReference, AreNumberedFrom}
use Rattle.species_references.specs.declared.nest.Reference.{Reference as Held}
use Rattle.species_references.proofs.TurnLaws.{references_have_turns}
use Rattle.species_ranges.proofs.BoundedLaws.{IsBounded, outermost_bounded}
use Rattle.species_report.specs.Table.{names_in, AreOfNest, IsLineOf, IsOfLoop, joined, place_line}
use Rattle.species_truth.specs.Truth.{IsInSaidSet, IsBetween, IsInSaidDomain, IsTurn, accessed, Ends, references_in, IsOf, SaysTrue, IsTrueLine, IsTrueOfLoop, TablesAreTrue}
use Rattle.species_notation.proofs.FeedLaws.{IsOneLine, line_is_one}
use Rattle.species_truth.proofs.FixedForms.{fixed_value}
use Rattle.species_truth.proofs.HeadLaws.{HasConstantEnds, outermost_constant}
use Rattle.species_truth.proofs.ListLemmas.{all_one, any_one, each_contains, each_of_all}
use Rattle.species_truth.proofs.NameLaws.{HasName, IsNamed, read_named, where_none}
use Rattle.species_truth.proofs.PlainLaws.{IsPlain, IsPlainReference, references_plain}
use Rattle.species_truth.proofs.ReadableLaws.{HasFixedEnds, arc_readable}
use Rattle.species_truth.proofs.SourceLaws.{source_references, source_bound}

-- ---- lists

-- the item of a list at a position
abbrev StandsAt : {X : Type 0} → List X → ℕ → X → Type 0
StandsAt xs k x = slice_get xs k ≡ Some x

one_of : (qs : List Reference) (k : ℕ) (q : Reference) → StandsAt qs k q → IsOneOf q qs
one_of [] k q h = absurd cc
one_of (x ∷ qs) zero q h = inl cc
one_of (x ∷ qs) (suc k) q h = inr (one_of qs k q h)

each_standing : {X : Type 0} (P : X → Type 0) (xs : List X) (k : ℕ) (x : X) → Each P xs → StandsAt xs k x → P x
each_standing P [] k x h at = absurd cc
each_standing P (y ∷ xs) zero x h at = let same : y ≡ x = cc in subst P same h.0
each_standing P (y ∷ xs) (suc k) x h at = each_standing P xs k x h.1 at

both_stand : {X Y : Type 0} (R : X → Y → Type 0) (xs : List X) (ys : List Y) (k : ℕ) (x : X) (y : Y) → Pairwise R xs ys → StandsAt xs k x → StandsAt ys k y → R x y
both_stand R [] ys k x y h at to = absurd cc
both_stand R (v ∷ xs) [] k x y h at to = absurd h
both_stand R (v ∷ xs) (w ∷ ys) zero x y h at to = let p : v ≡ x = cc in let q : w ≡ y = cc in subst (λ z. R z y) p (subst (R v) q h.0)
both_stand R (v ∷ xs) (w ∷ ys) (suc k) x y h at to = both_stand R xs ys k x y h.1 at to

other_stands : {X Y : Type 0} (R : X → Y → Type 0) (xs : List X) (ys : List Y) (k : ℕ) (x : X) → Pairwise R xs ys → StandsAt xs k x → (y : Y) × StandsAt ys k y × R x y
other_stands R [] ys k x h at = absurd cc
other_stands R (v ∷ xs) [] k x h at = absurd h
other_stands R (v ∷ xs) (w ∷ ys) zero x h at = let p : v ≡ x = cc in (w, refl, subst (λ z. R z w) p h.0)
other_stands R (v ∷ xs) (w ∷ ys) (suc k) x h at = other_stands R xs ys k x h.1 at

-- what stands beside the item at a position
first_stands : {X Y : Type 0} (R : X → Y → Type 0) (xs : List X) (ys : List Y) (k : ℕ) (d : Y) → Pairwise R xs ys → k < length ys → (x : X) × StandsAt xs k x × R x (slice_index_or ys k d)
first_stands R [] [] k d h l = absurd (omega (arith, l))
first_stands R [] (w ∷ ys) k d h l = absurd h
first_stands R (v ∷ xs) [] k d h l = absurd h
first_stands R (v ∷ xs) (w ∷ ys) zero d h l = (v, refl, h.0)
first_stands R (v ∷ xs) (w ∷ ys) (suc k) d h l = first_stands R xs ys k d h.1 (omega (arith, l))

mapped : {X Y Z : Type 0} (f : X → Y) (R : Y → Z → Type 0) (xs : List X) (zs : List Z) → Pairwise (λ x z. R (f x) z) xs zs → Pairwise R (map f xs) zs
mapped f R [] [] h = tt
mapped f R [] (z ∷ zs) h = absurd h
mapped f R (x ∷ xs) [] h = absurd h
mapped f R (x ∷ xs) (z ∷ zs) h = (h.0, mapped f R xs zs h.1)

unmapped : {X Y Z : Type 0} (f : X → Y) (R : Y → Z → Type 0) (xs : List X) (zs : List Z) → Pairwise R (map f xs) zs → Pairwise (λ x z. R (f x) z) xs zs
unmapped f R [] [] h = tt
unmapped f R [] (z ∷ zs) h = absurd h
unmapped f R (x ∷ xs) [] h = absurd h
unmapped f R (x ∷ xs) (z ∷ zs) h = (h.0, unmapped f R xs zs h.1)

-- ---- what is said of places is that of the arc

said_set : (n : ℕ) (arc : Arc) (p : Point) (place : List ℤ) → IsInSet arc p place → IsInSaidSet (table_line_for n arc) p place
said_set n arc p place h = mapped dim_as_given (IsInGivenDim p) arc.dims place h

set_said : (n : ℕ) (arc : Arc) (p : Point) (place : List ℤ) → IsInSaidSet (table_line_for n arc) p place → IsInSet arc p place
set_said n arc p place h = unmapped dim_as_given (IsInGivenDim p) arc.dims place h

said_domain : (n : ℕ) (arc : Arc) (p : Point) (place : List ℤ) → IsInDomain arc p place → IsInSaidDomain (table_line_for n arc) p place
said_domain n arc p place h = mapped (λ (d : ArcDim). (d.low, d.high)) (IsBetween p) arc.dims place h

-- ends that have one value at all points are the same at any two
domain_anywhere : (ds : List ArcDim) (p q : Point) (place : List ℤ) → Each HasFixedEnds ds → Pairwise (λ d index. IsInDimDomain d p index) ds place → Pairwise (λ d index. IsInDimDomain d q index) ds place
domain_anywhere [] p q [] fixed h = tt
domain_anywhere [] p q (v ∷ place) fixed h = absurd h
domain_anywhere (d ∷ ds) p q [] fixed h = absurd h
domain_anywhere (d ∷ ds) p q (v ∷ place) fixed h =
    let low : form_at d.low p ≡ form_at d.low q = fixed_value d.low p fixed.0.low ∙ sym (fixed_value d.low q fixed.0.low) in
    let high : form_at d.high p ≡ form_at d.high q = fixed_value d.high p fixed.0.high ∙ sym (fixed_value d.high q fixed.0.high) in
    ((subst (λ z. z ≤ℤ v) low h.0.0, subst (λ z. v ≤ℤ z) high h.0.1), domain_anywhere ds p q place fixed.1 h.1)

-- ---- one line, in a turn

-- the nest of one loop
abbrev alone_at : Running → Standing
alone_at r = record { around = []; head = r.loop; at = r.at; below = 0 }

innermost : (r : Running) → r.around ≡ [] → IsInnermost (alone_at r) r
innermost r e = record { loops = ap (λ a. a ++ r.loop ∷ []) e; at = refl }

-- what holds of the arcs of references in a turn
turn_holds : (lines : LinesHold) (marked : AdditionsAreMarked) (join : Joins) (u : Program) (head : Loop) (r : Running) (t : Turn) (qs : List Reference) (arcs : List Arc) → IsWellMade u → IsTurn join u head r t
    → AreNestArcs (sizes_of (source_context (source_of u))) no_adds (alone_at r) qs arcs
    → HoldIn (sizes_of (source_context u)) t.frame.iters (references_in r) qs arcs (accessed join u r t) (Ends join u r t)
turn_holds lines marked join u head r t qs arcs well is nest =
    let v = source_of u in
    let made = strip-IsWellMade false u well in
    lines join v is.start r no_adds (alone_at r) qs arcs t made is.comes (innermost r is.outermost) ((marked join v is.start r made is.comes).1 (strip_of-IsUnmarked false u)) nest is.turn

-- the arc that a reference has alone
record HasArc (u : Program) (head : Loop) (bound : BandBound) (r : Held) (arc : Arc) : Type 0 where
  ends : IsBoundOf (out-Loop head) bound
  alone : AreArcsOf 0 (bound ∷ []) (r ∷ []) (arc ∷ [])

nest_arcs : (u : Program) (head : Loop) (bound : BandBound) (held : Held) (arc : Arc) (r : Running) (q : Reference) → HasArc u head bound held arc → r.loop ≡ strip_loop false head
    → IsOneOf q (references_in r) → IsReference (sizes_of (source_context u)) 1 held q → AreNestArcs (sizes_of (source_context (source_of u))) no_adds (alone_at r) (q ∷ []) (arc ∷ [])
nest_arcs u head bound held arc r q has same among shown = record {
  among = all_one (λ p. IsOneOf p (references_in r)) q among;
  bands = bound ∷ [];
  bounds = (subst (λ l. IsBoundOf (out-Loop l) bound) (sym same) (source_bound false head bound has.ends), tt);
  refs = held ∷ [];
  shown = (shown, tt);
  merged = has.alone;
}

in_arc : (sizes : ℕ → List ℕ) (iters : List ℤ) (n : ℕ) (q : Reference) (arc : Arc) (a : Access) → Each HasFixedEnds arc.dims → (IsMadeAmong sizes (q ∷ []) a → Any (IsIn iters a) (arc ∷ [])) → IsMadeBy sizes q a
    → IsInSaidSet (table_line_for n arc) (point_of iters) (place_of a) × ((p : Point) → IsInSaidDomain (table_line_for n arc) p (place_of a))
in_arc sizes iters n q arc a fixed h made =
    let one = any_one (IsIn iters a) arc (h (inl made)) in
    (said_set n arc (point_of iters) (place_of a) one.set, λ p. said_domain n arc p (place_of a) (domain_anywhere arc.dims (point_of iters) p (place_of a) fixed one.domain))

touched : (sizes : ℕ → List ℕ) (q : Reference) (arc : Arc) (place : List ℤ) (made : List Access) → Any (IsTouch sizes (q ∷ []) arc place) made → Any (λ a. IsMadeBy sizes q a × (place_of a ≡ place)) made
touched sizes q arc place made (k, a, l, is, h) = (k, a, l, is, (by h.made, h.stands))
  where
    by : IsMadeAmong sizes (q ∷ []) a → IsMadeBy sizes q a
    by (inl m) = m
    by (inr m) = absurd m

is_of : (sizes : ℕ → List ℕ) (u : Program) (head : Loop) (bound : BandBound) (held : Held) (arc : Arc) (n : ℕ) (q : Reference) → HasArc u head bound held arc → IsReference sizes 1 held q → IsOf (table_line_for n arc) q
is_of sizes u head bound held arc n q has shown =
    let of = has.alone.0 in
    record { array = ap (λ (a : ℕ). Some a) (of.array ∙ shown.array); direction = ap direction_of of.direction ∙ shown.direction }

says_true : (lines : LinesHold) (marked : AdditionsAreMarked) (join : Joins) (u : Program) (head : Loop) (bound : BandBound) (held : Held) (arc : Arc) (n : ℕ) (r : Running) (t : Turn) (q : Reference)
    → IsWellMade u → HasArc u head bound held arc → Each HasFixedEnds arc.dims → IsTurn join u head r t → IsOneOf q (references_in r) → IsReference (sizes_of (source_context u)) 1 held q
    → SaysTrue (sizes_of (source_context u)) (table_line_for n arc) q t.frame.iters (accessed join u r t) (Ends join u r t)
says_true lines marked join u head bound held arc n r t q well has fixed is among shown =
    let sizes = sizes_of (source_context u) in
    let all = turn_holds lines marked join u head r t (q ∷ []) (arc ∷ []) well is (nest_arcs u head bound held arc r q has is.loop among shown) in
    record {
      of = is_of sizes u head bound held arc n q has shown;
      inside = λ k d l. in_arc sizes t.frame.iters n q arc (slice_index_or (accessed join u r t) k d) fixed (all.inside k d l);
      filled = λ ended exact place h.
          touched sizes q arc place (accessed join u r t) (all.filled ended 0 arc (omega arith) exact place (set_said n arc (point_of t.frame.iters) place h));
    }

-- ---- one line, read back

not_added : (d : Dir) → IsPlain (direction_of d) → d ≢ dir.Add
not_added dir.Read h e = absurd cc
not_added dir.Write h e = absurd cc
not_added dir.Add h e = h

-- of the loop, and of the text of its lines
pub record IsReady (u : Program) (head : Loop) : Type 0 where
  pub well : IsWellMade u
  pub there : Contains (outermost_loops u) head
  pub named : IsNamed u
  pub constant : HasConstantEnds head
  pub few : reference_count head ≤ 1024

one_different : (w : List ℕ) (i j : ℕ) → i < j → j < length (w ∷ []) → ⊥
one_different w i j l k = omega (arith, l, k)

standing_below : {X : Type 0} (xs : List X) (k : ℕ) (x : X) → StandsAt xs k x → k < length xs
standing_below [] k x h = absurd cc
standing_below (y ∷ xs) zero x h = omega arith
standing_below (y ∷ xs) (suc k) x h = omega (arith, standing_below xs k x h)

line_reads : (back : TableReadsBack) (settled : ReferencesAreSettled) (u : Program) (head : Loop) (bound : BandBound) (held : Held) (arc : Arc) (k : ℕ) (q : Reference) → IsReady u head → HasArc u head bound held arc
    → StandsAt (references_of no_adds head [] [] 1) k q → IsReference (sizes_of (source_context u)) 1 held q
    → IsOneLine (table_line_text (names_in u head) k arc) × (table_line_of (names_in u head) (table_line_text (names_in u head) k arc) ≡ Some (table_line_for k arc)) × Each HasFixedEnds arc.dims
line_reads back settled u head bound held arc k q ready has at shown =
    let qs = references_of no_adds head [] [] 1 in
    let w = (out-Loop head).iter in
    let bounded = each_standing (IsBounded u 1) qs k q (outermost_bounded no_adds u head [] 1 ready.well ready.there) at in
    let full = each_standing (HasTurns 1) qs k q (each_of_all (HasTurns 1) qs (references_have_turns no_adds head [] [] 1)) at in
    let whole = each_standing (AreSettled 1) qs k q (each_of_all (AreSettled 1) qs (settled no_adds head [] [] 1)) at in
    let plain = each_standing IsPlainReference qs k q (references_plain head [] [] 1) at in
    let good = arc_readable u head bound held q arc ready.named.dimensions ready.constant has.ends shown bounded full whole has.alone in
    let of = has.alone.0 in
    let direction : direction_of arc.dir ≡ q.direction = ap direction_of of.direction ∙ shown.direction in
    let few : k ≤ 2 ^ 70 = omega (arith, ready.few, standing_below qs k q at) in
    let name = each_contains HasName (outermost_loops u) ready.named.iterators head ready.there in (
      line_is_one (map (λ a. a.name) u.arrays) w k arc ready.named.arrays name few good.readable good.sizes,
      back (names_in u head) k arc ready.named.arrays (all_one (λ v. is_name v ≡ true) w name) ready.named.different (λ i j l m. absurd (one_different w i j l m)) good.readable
          (not_added arc.dir (subst IsPlain (sym direction) plain)) few good.sizes,
      good.ends,
    )

-- ---- the lines of a loop

-- the line is that of the reference, without its line feed
record IsArcLine (u : Program) (head : Loop) (bound : BandBound) (r : Held) (line : List ℕ) : Type 0 where
  arc : Arc
  has : HasArc u head bound r arc
  text : line ≡ table_line_text (names_in u head) r.number arc

record AreTrimmed (u : Program) (head : Loop) (bound : BandBound) (rs : List Held) (ended : List (List ℕ)) : Type 0 where
  lines : List (List ℕ)
  each : Pairwise (IsArcLine u head bound) rs lines
  text : joined ended ≡ flat_map (λ line. line ++ codes "\n") lines

trimmed : (u : Program) (head : Loop) (bound : BandBound) (rs : List Held) (ended : List (List ℕ)) → IsBoundOf (out-Loop head) bound → Pairwise (IsLineOf (names_in u head) bound) rs ended → AreTrimmed u head bound rs ended
trimmed u head bound [] [] ends h = record { lines = []; each = tt; text = refl }
trimmed u head bound [] (t ∷ ended) ends h = absurd h
trimmed u head bound (r ∷ rs) [] ends h = absurd h
trimmed u head bound (r ∷ rs) (t ∷ ended) ends h =
    let more = trimmed u head bound rs ended ends h.1 in
    let line = table_line_text (names_in u head) r.number h.0.arc in
    record {
      lines = line ∷ more.lines;
      each = (record { arc = h.0.arc; has = record { ends = ends; alone = h.0.alone }; text = refl }, more.each);
      text = (λ i. h.0.text i ++ more.text i);
    }

numbered_at : (n : ℕ) (rs : List Held) (k : ℕ) (r : Held) → AreNumberedFrom n rs → StandsAt rs k r → r.number ≡ n + k
numbered_at n [] k r h at = absurd cc
numbered_at n (x ∷ rs) zero r h at = let same : x ≡ r = cc in omega (arith, sym (ap (λ (y : Held). y.number) same) ∙ h.0)
numbered_at n (x ∷ rs) (suc k) r h at = omega (arith, numbered_at (n + 1) rs k r h.1 at)

-- the references of the loop where it runs are those of the loop in the unit
running_references : (head : Loop) (r : Running) → r.loop ≡ strip_loop false head → references_in r ≡ references_of no_adds head r.at [] 1
running_references head r same = ap (λ l. references_of no_adds l r.at [] 1) same ∙ source_references false head r.at

line_true : (lines : LinesHold) (marked : AdditionsAreMarked) (back : TableReadsBack) (settled : ReferencesAreSettled) (u : Program) (head : Loop) (bound : BandBound) (rs : List Held) (held : Held) (k : ℕ) (line : List ℕ)
    → IsReady u head → AreOfNest u head rs → StandsAt rs k held → IsArcLine u head bound held line → IsTrueLine u head k line
line_true lines marked back settled u head bound rs held k line ready nest at is =
    let sizes = sizes_of (source_context u) in
    let number : held.number ≡ k = omega (arith, numbered_at 0 rs k held nest.numbered at) in
    let here = other_stands (IsReference sizes 1) rs (references_of no_adds head [] [] 1) k held (nest.shown []) at in
    let text : line ≡ table_line_text (names_in u head) k is.arc = is.text ∙ ap (λ (n : ℕ). table_line_text (names_in u head) n is.arc) number in
    let read = line_reads back settled u head bound held is.arc k here.0 ready is.has here.1 here.2 in
    record {
      one = subst IsOneLine (sym text) read.0;
      said = table_line_for k is.arc;
      reads = ap (table_line_of (names_in u head)) text ∙ read.1;
      number = refl;
      known = refl;
      of = λ q stands. is_of sizes u head bound held is.arc k q is.has (both_stand (IsReference sizes 1) rs (references_of no_adds head [] [] 1) k held q (nest.shown []) at stands);
      holds = λ join r t q turn stands.
          let in_text : StandsAt (references_of no_adds head r.at [] 1) k q = subst (λ qs. StandsAt qs k q) (running_references head r turn.loop) stands in
          says_true lines marked join u head bound held is.arc k r t q ready.well is.has read.2 turn (one_of (references_in r) k q stands)
          (both_stand (IsReference sizes 1) rs (references_of no_adds head r.at [] 1) k held q (nest.shown r.at) at in_text);
    }

no_arcs : (u : Program) (r : Running) (bound : BandBound) → IsBoundOf (out-Loop r.loop) bound → AreNestArcs (sizes_of (source_context (source_of u))) no_adds (alone_at r) [] []
no_arcs u r bound ends = record { among = λ k d l. absurd (omega (arith, l)); bands = bound ∷ []; bounds = (ends, tt); refs = []; shown = tt; merged = tt }

loop_true : (lines : LinesHold) (marked : AdditionsAreMarked) (back : TableReadsBack) (settled : ReferencesAreSettled) (u : Program) (head : Loop) (text : List ℕ) → IsReady u head → IsOfLoop u head text → IsTrueOfLoop u head text
loop_true lines marked back settled u head text ready is =
    let sizes = sizes_of (source_context u) in
    let cut = trimmed u head is.bound is.references is.lines is.ends is.each in
    record {
      lines = cut.lines;
      count = sym (pairwise_length (IsArcLine u head is.bound) is.references cut.lines cut.each) ∙ pairwise_length (IsReference sizes 1) is.references (references_of no_adds head [] [] 1) (is.plain.shown []);
      each = λ k below.
          let first = first_stands (IsArcLine u head is.bound) is.references cut.lines k [] cut.each below in
          line_true lines marked back settled u head is.bound is.references first.0 k (slice_index_or cut.lines k []) ready is.plain first.1 first.2;
      whole = λ join r t turn.
          let ends : IsBoundOf (out-Loop r.loop) is.bound = subst (λ l. IsBoundOf (out-Loop l) is.bound) (sym turn.loop) (source_bound false head is.bound is.ends) in
          (turn_holds lines marked join u head r t [] [] ready.well turn (no_arcs u r is.bound ends)).made;
      is = is.is ∙ ap (λ l. place_line (out-Loop head).place ++ l) cut.text;
    }

-- ---- the table

loops_true : (lines : LinesHold) (marked : AdditionsAreMarked) (back : TableReadsBack) (settled : ReferencesAreSettled) (u : Program) (heads : List Loop) (parts : List (List ℕ)) → Each (IsReady u) heads
    → Pairwise (IsOfLoop u) heads parts → Pairwise (IsTrueOfLoop u) heads parts
loops_true lines marked back settled u [] [] ready h = tt
loops_true lines marked back settled u [] (p ∷ parts) ready h = absurd h
loops_true lines marked back settled u (l ∷ heads) [] ready h = absurd h
loops_true lines marked back settled u (l ∷ heads) (p ∷ parts) ready h = (loop_true lines marked back settled u l p ready.0 h.0, loops_true lines marked back settled u heads parts ready.1 h.1)

each_from_contains : {X : Type 0} (P : X → Type 0) (xs : List X) → ((x : X) → Contains xs x → P x) → Each P xs
each_from_contains P [] f = tt
each_from_contains P (x ∷ xs) f = (f x (0, omega arith, refl), each_from_contains P xs (λ y c. f y (suc c.0, omega (arith, c.1), c.2)))

all_contains : {X : Type 0} (p : X → Bool) (xs : List X) → list_all p xs ≡ true → (x : X) → Contains xs x → p x ≡ true
all_contains {X} p xs h = each_contains (λ x. p x ≡ true) xs (go xs h)
  where
    go : (ys : List X) → list_all p ys ≡ true → Each (λ x. p x ≡ true) ys
    go [] h = tt
    go (y ∷ ys) h = let parts = and_parts (p y) (list_all p ys) h in (parts.0, go ys parts.1)

few_references : (u : Program) → IsWellMade u → (head : Loop) → Contains (outermost_loops u) head → reference_count head ≤ 1024
few_references u well head there =
    let none = all_contains (λ l. not (nat_lt most_references_made (reference_count l))) (outermost_loops u)
    (where_none (λ l. nat_lt most_references_made (reference_count l)) (λ l. (out-Loop l).place) (outermost_loops u) well.references) head there in
    few (reference_count head) none
  where
    few : (n : ℕ) → not (nat_lt 1024 n) ≡ true → n ≤ 1024
    few n h = grind (arith, nat_tests, h)

all_ready : (u : Program) → IsWellMade u → IsNamed u → Each (IsReady u) (outermost_loops u)
all_ready u well named = each_from_contains (IsReady u) (outermost_loops u) (λ head there. record {
  well = well;
  there = there;
  named = named;
  constant = outermost_constant u head well there;
  few = few_references u well head there;
})

-- The law.
pub tables_are_true : LinesHold → AdditionsAreMarked → TableReadsBack → ReferencesAreSettled → TablesAreTrue
tables_are_true lines marked back settled bytes text raw u accepted is well table =
    record {
      parts = table.parts;
      each = loops_true lines marked back settled u (outermost_loops u) table.parts (all_ready u well (read_named bytes raw u accepted is)) table.each;
      is = table.is;
    }
