-- The lines of a loop and the parts of the table, one after another.
use Rattle.std.proofs.Common.{◌≡◌, ◌∙◌, refl, sym, ap, subst, arith, ℕ, zero, suc, ◌+◌, ◌<◌, ◌≤◌, ◌^◌, Bool, true, false, nat_lt, List, [], ◌∷◌, ◌++◌, map, take, take_all, length, get_or, All, append_assoc, append-nil}
use Rattle.std.specs.Prelude.{slice_index_or, codes, if◌then◌else◌}
use Rattle.std.specs.Borrow.{Bor}
use Rattle.std.specs.List.{Contains, filter}
use Rattle.std.proofs.lemmas.Bool.Decides.{nat_tests}
use Rattle.std.proofs.lemmas.List.{take_more}
use Rattle.species_arcs.specs.Pairwise.{Pairwise}
use Rattle.species_arcs.specs.Sizes.{HasSmallSpan}
use Rattle.species_arcs.specs.declared.places.Arc.{Arc}
use Rattle.species_ast.specs.declared.tree.Array.{Array}
use Rattle.species_ast.specs.declared.tree.Loop.{Loop, out-Loop}
use Rattle.species_ast.specs.declared.tree.Unit.{Unit as Program}
use Rattle.species_ast.specs.Scope.Hulls.{Range, range_of}
use Rattle.species_ast.specs.Scope.Limits.{most_references_made}
use Rattle.species_ast.specs.Scope.Loops.{outermost_loops}
use Rattle.species_ast.specs.Scope.References.{no_adds, references_of, reference_count, larger_than}
use Rattle.species_ast.specs.Scope.Refusals.{places_where}
use Rattle.species_ast.specs.Scope.WellMade.{IsWellMade}
use Rattle.species_ast.proofs.Folds.{fold_loop-out}
use Rattle.species_linear.specs.Box.{zero_range}
use Rattle.species_linear.specs.declared.loops.LoopRange.{LoopRange}
use Rattle.species_merge.specs.Arcs.{AreArcsOf}
use Rattle.species_merge.specs.Bounds.{IsBoundOf}
use Rattle.species_merge.specs.Sizes.{IsMergeable}
use Rattle.species_merge.specs.declared.bands.BandBound.{BandBound}
use Rattle.species_notation.specs.Written.{table_line_text}
use Rattle.species_notation.specs.declared.given.Names.{Names}
use Rattle.species_ranges.specs.Fitting.{fits_in_loop}
use Rattle.species_ranges.proofs.BoundedLaws.{outermost_bounded}
use Rattle.species_ranges.proofs.KeepLaws.{outermost_fit}
use Rattle.species_references.specs.Law.{HasTurns}
use Rattle.species_references.specs.Ranges.{range_seen, ranges_seen, ranges_at, ranges_within, ranges_in_list, ranges_in_loop}
use Rattle.species_references.specs.declared.nest.Reference.{Reference}
use Rattle.species_references.proofs.TurnLaws.{each_to_all, references_have_turns}
use Rattle.species_report.specs.Heads.{loops_seen}
use Rattle.species_report.specs.Lines.{HaveLines}
use Rattle.species_report.specs.Table.{joined, names_in, place_line, AreOfNest, IsLineOf, IsOfLoop, HaveParts, IsTable}
use Rattle.species_report.proofs.HeadLemmas.{seen_more}
use Rattle.species_ranges.proofs.MergeableLaws.{each_of_all, all_mergeable}

-- ---- lists

pub all_one : {X : Type 0} (P : X → Type 0) (x : X) → P x → All P (x ∷ [])
all_one P x h zero d l = h
all_one P x h (suc k) d l = absurd (omega (arith, l))

joined_more : (xs : List (List ℕ)) (y : List ℕ) → joined (xs ++ y ∷ []) ≡ joined xs ++ y
joined_more [] y = append-nil y
joined_more (x ∷ xs) y = ap (λ l. x ++ l) (joined_more xs y) ∙ sym (append_assoc x (joined xs) y)

one_more : {X Y : Type 0} (R : X → Y → Type 0) (xs : List X) (ys : List Y) (x : X) (y : Y) → Pairwise R xs ys → R x y → Pairwise R (xs ++ x ∷ []) (ys ++ y ∷ [])
one_more R [] [] x y h r = (r, tt)
one_more R [] (w ∷ ys) x y h r = absurd h
one_more R (v ∷ xs) [] x y h r = absurd h
one_more R (v ∷ xs) (w ∷ ys) x y h r = (h.0, one_more R xs ys x y h.1 r)

-- ---- one line

-- a reference alone has one arc
pub one_arc : (bound : BandBound) (r : Reference) (arcs : List Arc) (d : Arc) → AreArcsOf 0 (bound ∷ []) (r ∷ []) arcs → (0 < length arcs) × AreArcsOf 0 (bound ∷ []) (r ∷ []) (slice_index_or arcs 0 d ∷ [])
one_arc bound r [] d h = absurd h
one_arc bound r (a ∷ []) d h = (omega arith, h)
one_arc bound r (a ∷ b ∷ more) d h = absurd h.1

pub first_spans : (arcs : List Arc) (d : Arc) → 0 < length arcs → All (λ arc. All HasSmallSpan arc.dims) arcs → All HasSmallSpan (slice_index_or arcs 0 d).dims
first_spans arcs d some h = h 0 d some

pub line_is : (names : Names) (bound : BandBound) (r : Reference) (arcs : List Arc) (d : Arc) (text : List ℕ) → AreArcsOf 0 (bound ∷ []) (r ∷ []) arcs
    → text ≡ table_line_text names r.number (slice_index_or arcs 0 d) ++ codes "\n" → IsLineOf names bound r text
line_is names bound r arcs d text h e = record { arc = slice_index_or arcs 0 d; alone = (one_arc bound r arcs d h).1; text = e }

-- ---- lines

pub no_lines : (names : Names) (bound : BandBound) → HaveLines names bound [] []
no_lines names bound = record { lines = []; each = tt; is = refl }

pub lines_next : (names : Names) (bound : BandBound) (all : List Reference) (i : ℕ) (r : Reference) (text part new : List ℕ) → r ≡ get_or all i r → i < length all → HaveLines names bound (take i all) text
    → IsLineOf names bound r part → new ≡ text ++ part → HaveLines names bound (take (i + 1) all) new
lines_next names bound all i r text part new at within h line e =
    let items : take (i + 1) all ≡ take i all ++ r ∷ [] = take_more all i r within ∙ ap (λ y. take i all ++ y ∷ []) (sym at) in
    subst (λ rs. HaveLines names bound rs new) (sym items) (record {
      lines = h.lines ++ part ∷ [];
      each = one_more (IsLineOf names bound) (take i all) h.lines r part h.each line;
      is = e ∙ ap (λ l. l ++ part) h.is ∙ sym (joined_more h.lines part);
    })

pub all_lines : (names : Names) (bound : BandBound) (all : List Reference) (i : ℕ) (text : List ℕ) → length all ≤ i → HaveLines names bound (take i all) text → HaveLines names bound all text
all_lines names bound all i text past_end h = subst (λ rs. HaveLines names bound rs text) (take_all i all past_end) h

-- ---- parts

pub no_parts : (u : Program) → HaveParts u [] []
no_parts u = record { parts = []; each = tt; is = refl }

pub parts_next : (u : Program) (all : List (Bor Loop)) (i : ℕ) (b : Bor Loop) (text part new : List ℕ) → b ≡ get_or all i b → i < length all → HaveParts u (loops_seen (take i all)) text → IsOfLoop u b.now part
    → new ≡ text ++ part → HaveParts u (loops_seen (take (i + 1) all)) new
parts_next u all i b text part new at within h is e =
    let items : take (i + 1) all ≡ take i all ++ b ∷ [] = take_more all i b within ∙ ap (λ y. take i all ++ y ∷ []) (sym at) in
    subst (λ bs. HaveParts u bs new) (sym (ap loops_seen items ∙ seen_more (take i all) b)) (record {
      parts = h.parts ++ part ∷ [];
      each = one_more (IsOfLoop u) (loops_seen (take i all)) h.parts b.now part h.each is;
      is = e ∙ ap (λ l. l ++ part) h.is ∙ sym (joined_more h.parts part);
    })

pub table_is : (u : Program) (all : List (Bor Loop)) (i : ℕ) (text : List ℕ) → length all ≤ i → loops_seen all ≡ outermost_loops u → HaveParts u (loops_seen (take i all)) text → IsTable u text
table_is u all i text past_end heads h =
    let same : loops_seen (take i all) ≡ outermost_loops u = ap loops_seen (take_all i all past_end) ∙ heads in
    subst (λ ls. HaveParts u ls text) same h

seen_at : (all : List (Bor Loop)) (i : ℕ) (b : Bor Loop) (d : Loop) → b ≡ get_or all i b → i < length all → (i < length (loops_seen all)) × (slice_index_or (loops_seen all) i d ≡ b.now)
seen_at [] i b d at within = absurd (omega (arith, within))
seen_at (x ∷ all) zero b d at within = (omega arith, ap (λ (y : Bor Loop). y.now) (sym at))
seen_at (x ∷ all) (suc i) b d at within = let more = seen_at all i b d at (omega (arith, within)) in (omega (arith, more.0), more.1)

pub head_there : (u : Program) (all : List (Bor Loop)) (i : ℕ) (b : Bor Loop) → loops_seen all ≡ outermost_loops u → b ≡ get_or all i b → i < length all → Contains (outermost_loops u) b.now
head_there u all i b heads at within = let here = seen_at all i b b.now at within in subst (λ ls. Contains ls b.now) heads (i, here.0, here.1)

-- ---- the nest of a loop

first_range : (found : List LoopRange) (head : Loop) (d : LoopRange) → ranges_seen found ≡ ranges_in_loop head [] → (0 < length found) × (range_seen (slice_index_or found 0 d) ≡ range_of [] (out-Loop head))
first_range found head d h = go found (h ∙ ap (λ k. k []) (fold_loop-out ranges_at ranges_within head))
  where
    head_of : List Range → Range → Range
    head_of [] e = e
    head_of (x ∷ xs) e = x

    go : (xs : List LoopRange) → ranges_seen xs ≡ range_of [] (out-Loop head) ∷ ranges_in_list (out-Loop head).body (range_of [] (out-Loop head) ∷ []) → (0 < length xs) × (range_seen (slice_index_or xs 0 d) ≡ range_of [] (out-Loop head))
    go [] e = absurd cc
    go (x ∷ xs) e = (omega arith, ap (λ l. head_of l (range_seen x)) e)

pub first_there : (found seen : List LoopRange) (head : Loop) → seen ≡ found → ranges_seen found ≡ ranges_in_loop head [] → 0 < length seen
first_there found seen head same h = subst (λ xs. 0 < length xs) (sym same) (first_range found head zero_range h).0

pub first_seen : (found seen : List LoopRange) (head : Loop) → seen ≡ found → ranges_seen found ≡ ranges_in_loop head [] → range_seen (slice_index_or seen 0 zero_range) ≡ range_of [] (out-Loop head)
first_seen found seen head same h = ap (λ xs. range_seen (slice_index_or xs 0 zero_range)) same ∙ (first_range found head zero_range h).1

few_places : (ls : List Loop) (most : ℕ) → places_where (λ l. nat_lt most (reference_count l)) (λ l. (out-Loop l).place) ls ≡ [] → (l : Loop) → Contains ls l → reference_count l ≤ most
few_places [] most h l there = let below = there.1 in absurd (omega (arith, below))
few_places (x ∷ ls) most h l there = go (λ e c. few_places ls most e l c) (nat_lt most (reference_count x)) refl h there
  where
    large : List Loop
    large = filter (λ l. nat_lt most (reference_count l)) ls

    go : (places_where (λ l. nat_lt most (reference_count l)) (λ l. (out-Loop l).place) ls ≡ [] → Contains ls l → reference_count l ≤ most) → (b : Bool) → nat_lt most (reference_count x) ≡ b → map (λ l. (out-Loop l).place) (if b then x ∷ large else large) ≡ [] → Contains (x ∷ ls) l → reference_count l ≤ most
    go more true is e there = absurd cc
    go more false is e (zero, below, same) = let few : reference_count x ≤ most = grind (arith, nat_tests, is) in subst (λ k. reference_count k ≤ most) same few
    go more false is e (suc k, below, same) = more e (k, omega (arith, below), same)

-- a loop that stands in no other has few references
pub few_references : (u : Program) (head : Loop) → IsWellMade u → Contains (outermost_loops u) head → length (references_of no_adds head [] [] 1) < 2 ^ 32
few_references u head well there = let few = few_places (outermost_loops u) most_references_made well.references head there in omega (arith, few)

pub part_is : (u : Program) (head : Loop) (names : Names) (bound : BandBound) (refs : List Reference) (lines text : List ℕ) → names ≡ names_in u head → IsBoundOf (out-Loop head) bound → AreOfNest u head refs
    → HaveLines names bound refs lines → text ≡ place_line (out-Loop head).place ++ lines → IsOfLoop u head text
part_is u head names bound refs lines text same ends plain h is =
    let here = subst (λ n. HaveLines n bound refs lines) same h in
    record { bound = bound; references = refs; lines = here.lines; ends = ends; plain = plain; each = here.each; is = is ∙ ap (λ l. place_line (out-Loop head).place ++ l) here.is }

-- ---- names

pub names_next : (all : List Array) (i : ℕ) (a : Array) (now new : List (List ℕ)) → a ≡ get_or all i a → i < length all → now ≡ map (λ x. x.name) (take i all) → new ≡ now ++ a.name ∷ [] → new ≡ map (λ x. x.name) (take (i + 1) all)
names_next all i a now new at within h e =
    let items : take (i + 1) all ≡ take i all ++ a ∷ [] = take_more all i a within ∙ ap (λ y. take i all ++ y ∷ []) (sym at) in
    e ∙ ap (λ l. l ++ a.name ∷ []) h ∙ sym (more (take i all) a) ∙ ap (map (λ (x : Array). x.name)) (sym items)
  where
    more : (xs : List Array) (y : Array) → map (λ x. x.name) (xs ++ y ∷ []) ≡ map (λ x. x.name) xs ++ y.name ∷ []
    more [] y = refl
    more (x ∷ xs) y = ap (λ l. x.name ∷ l) (more xs y)

pub names_are : (u : Program) (head : Loop) (old new : Names) → new ≡ record old { iters = (out-Loop head).iter ∷ [] } → old.arrays ≡ map (λ a. a.name) u.arrays → old.locals ≡ [] → new ≡ names_in u head
names_are u head old new e arrays locals = e ∙ (λ i. record { arrays = arrays i; iters = (out-Loop head).iter ∷ []; locals = locals i })

-- ---- the references of a nest

pub nest_mergeable : (u : Program) (head : Loop) (refs : List Reference) → IsWellMade u → Contains (outermost_loops u) head → AreOfNest u head refs → All IsMergeable refs
nest_mergeable u head refs well there nest =
    let qs = references_of no_adds head [] [] 1 in
    each_to_all IsMergeable refs (all_mergeable u 1 refs qs (nest.shown []) (outermost_bounded no_adds u head [] 1 well there) (each_of_all (HasTurns 1) qs (references_have_turns no_adds head [] [] 1)))

-- ---- the ranges of a nest

pub head_fits : (u : Program) (head : Loop) → IsWellMade u → Contains (outermost_loops u) head → fits_in_loop head [] ≡ true
head_fits u head well there = subst (λ l. fits_in_loop l [] ≡ true) there.2 (outermost_fit u well there.0 head there.1)
