-- The bounds of the loops of a band, loop by loop.
use Rattle.std.proofs.Common.{◌≡◌, refl, ap, sym, ◌∙◌, subst, arith, ℕ, zero, suc, ◌-◌, ◌<◌, ◌≤◌, Bool, true, false, ◌&&◌, not, nat_lt, List, [], ◌∷◌, ◌++◌, map, length, append_assoc, append-nil, get_or, Option, Some, None, All}
use Rattle.std.proofs.lemmas.Bool.{and_parts}
use Rattle.std.proofs.lemmas.Bool.Decides.{nat_tests}
use Rattle.species_arcs.specs.Pairwise.{Pairwise}
use Rattle.species_ast.specs.declared.tree.Expr.{Expr}
use Rattle.species_ast.specs.declared.tree.Loop.{Loop, out-Loop, roll-Loop}
use Rattle.species_ast.specs.declared.tree.Stmt.{Stmt}
use Rattle.species_ast.specs.declared.tree.Stmt.TheVariants as stmt
use Rattle.species_ast.specs.Scope.Hulls.{Range, range_of, passes_hull}
use Rattle.species_ast.specs.Scope.Nests.{Bounds, only_loops, front_step, front_layer, front_of}
use Rattle.species_ast.proofs.Folds.{fold_stmt-Assign, fold_stmt-AddTo, fold_stmt-Declare, fold_stmt-SetLocal, fold_stmt-If, fold_stmt-For, fold_stmt-Block, fold_loop, fold_loop-out}
use Rattle.species_ast.proofs.Induction.{Each, each_all, stmt_ind}
use Rattle.species_ast.proofs.Paras.{para_stmt-Assign, para_stmt-AddTo, para_stmt-Declare, para_stmt-SetLocal, para_stmt-If}
use Rattle.species_linear.specs.declared.loops.LoopRange.{LoopRange}
use Rattle.species_loops.specs.declared.header.Header.{Header}
use Rattle.species_loops.specs.Bands.{front_in}
use Rattle.species_loops.specs.Headers.{header_of, range_in}
use Rattle.species_loops.specs.Ranges.{range_seen, ranges_seen}
use Rattle.species_merge.specs.declared.bands.BandBound.{BandBound}
use Rattle.species_merge.specs.Bounds.{IsBoundOf}
use Rattle.species_nests.specs.Nests.{Placed, sole_at, sole, only, nest_in, nest_of}
use Rattle.species_nests.proofs.NestLaws.{under, no_loops, sole-For, sole-Block}
use Rattle.species_ranges.specs.Fitting.{fits_at, fits_within, fits_in, fits_in_list, fits_in_loop}
use Rattle.species_classify.specs.Plans.{HasOneMore, AddsBounds}

-- ---- where loops fit

pub record FitsLoop (head : Loop) (path : List Range) : Type 0 where
  pub short : length path < 16
  pub hull : passes_hull path (out-Loop head) ≡ false
  pub body : fits_in_list (out-Loop head).body (path ++ range_of path (out-Loop head) ∷ []) ≡ true

not_true : (b : Bool) → not b ≡ true → b ≡ false
not_true true e = absurd cc
not_true false e = refl

pub fits_loop : (head : Loop) (path : List Range) → fits_in_loop head path ≡ true → FitsLoop head path
fits_loop head path h =
    let l = out-Loop head in
    let next = path ++ range_of path l ∷ [] in
    let fits : (nat_lt (length path) 16 && (not (passes_hull path l) && fits_in_list l.body next)) ≡ true = sym (ap (λ k. k path) (fold_loop-out fits_at fits_within head)) ∙ h in
    let short = and_parts (nat_lt (length path) 16) (not (passes_hull path l) && fits_in_list l.body next) fits in
    let rest = and_parts (not (passes_hull path l)) (fits_in_list l.body next) short.1 in
    record { short = grind (arith, nat_tests, short.0); hull = not_true (passes_hull path l) rest.0; body = rest.1 }

pub fits_only : (xs : List Stmt) (x : Stmt) (path : List Range) → xs ≡ x ∷ [] → fits_in_list xs path ≡ true → fits_in x path ≡ true
fits_only xs x path is h = (and_parts (fits_in x path) true (sym (ap (λ l. fits_in_list l path) is) ∙ h)).0

pub fits_for : (x : Stmt) (head : Loop) (path : List Range) → x ≡ stmt.For head → fits_in x path ≡ true → fits_in_loop head path ≡ true
fits_for x head path is h = sym (ap (λ z. fits_in z path) is ∙ ap (λ k. k path) (fold_stmt-For fits_at fits_within head)) ∙ h

pub fits_block : (x : Stmt) (body : List Stmt) (path : List Range) → x ≡ stmt.Block body → fits_in x path ≡ true → fits_in_list body path ≡ true
fits_block x body path is h = sym (ap (λ z. fits_in z path) is ∙ ap (λ k. k path) (fold_stmt-Block fits_at fits_within body)) ∙ h

-- ---- one loop more

-- the range that a header gives is that of its loop
pub range_is : (head : Loop) (h : Header) (r : LoopRange) (seen : List LoopRange) (path : List Range) → range_seen r ≡ range_in (ranges_seen seen) h → ranges_seen seen ≡ path → h ≡ header_of (out-Loop head)
    → range_seen r ≡ range_of path (out-Loop head)
range_is head h r seen path value same is = value ∙ ap (λ p. range_in p h) same ∙ ap (range_in path) is

pub all_more : {X : Type 0} (P : X → Type 0) (xs : List X) (y : X) → All P xs → P y → All P (xs ++ y ∷ [])
all_more P [] y h p zero d l = p
all_more P [] y h p (suc k) d l = absurd (omega (arith, l))
all_more P (x ∷ xs) y h p zero d l = h 0 d (omega arith)
all_more P (x ∷ xs) y h p (suc k) d l = all_more P xs y (λ j e m. h (suc j) e (omega (arith, m))) p k d (omega (arith, l))

pub add_none : (old : List BandBound) (loops : List Placed) → loops ≡ [] → AddsBounds old old loops
add_none old loops none = subst (AddsBounds old old) (sym none) ([], sym (append-nil old), tt)

pub add_more : (old mid new : List BandBound) (b : BandBound) (p : Placed) (rest : List Placed) → mid ≡ old ++ b ∷ [] → IsBoundOf (out-Loop p.loop) b → AddsBounds mid new rest → AddsBounds old new (p ∷ rest)
add_more old mid new b p rest added bound more = (
  b ∷ more.0,
  more.1 ∙ ap (λ l. l ++ more.0) added ∙ append_assoc old (b ∷ []) more.0,
  (bound, more.2),
)

-- ---- what is perfectly nested

pub nest_for : (d e : ℕ) (x : Stmt) (head : Loop) (at : List ℕ) → d ≡ suc e → x ≡ stmt.For head → (nest_in d (x ∷ []) at).loops ≡ (nest_of e head (at ++ 0 ∷ [])).loops
nest_for d e x head at size is =
    ap (λ n. (nest_in n (x ∷ []) at).loops) size
    ∙ ap (λ (s : List ℕ → Option Placed). (under e (x ∷ []) at (s (at ++ 0 ∷ []))).loops) (ap sole is ∙ sole-For head)

pub nest_block : (d : ℕ) (x : Stmt) (body : List Stmt) (at : List ℕ) → x ≡ stmt.Block body → (nest_in d (x ∷ []) at).loops ≡ (nest_in d body (at ++ 0 ∷ [])).loops
nest_block zero x body at is = refl
nest_block (suc e) x body at is =
    ap (λ (s : List ℕ → Option Placed). (under e (x ∷ []) at (s (at ++ 0 ∷ []))).loops) (ap sole is ∙ sole-Block body) ∙ go (only body (at ++ 0 ∷ []))
  where
    go : (o : Option Placed) → (under e (x ∷ []) at o).loops ≡ (under e body (at ++ 0 ∷ []) o).loops
    go None = refl
    go (Some p) = refl

pub nest_other : (d : ℕ) (x : Stmt) (at : List ℕ) → sole x ≡ (λ here. None) → (nest_in d (x ∷ []) at).loops ≡ []
nest_other zero x at none = refl
nest_other (suc e) x at none = ap (λ (s : List ℕ → Option Placed). (under e (x ∷ []) at (s (at ++ 0 ∷ []))).loops) none

pub nest_empty : (d : ℕ) (xs : List Stmt) (at : List ℕ) → xs ≡ [] → (nest_in d xs at).loops ≡ []
nest_empty zero xs at is = refl
nest_empty (suc e) xs at is = ap (λ l. (nest_in (suc e) l at).loops) is

pub nest_several : (d : ℕ) (xs : List Stmt) (x y : Stmt) (more : List Stmt) (at : List ℕ) → xs ≡ x ∷ y ∷ more → (nest_in d xs at).loops ≡ []
nest_several zero xs x y more at is = refl
nest_several (suc e) xs x y more at is = ap (λ l. (nest_in (suc e) l at).loops) is

pub sole_assign : (x : Stmt) (place a : ℕ) (subs : List Expr) (value : Expr) → x ≡ stmt.Assign place a subs value → sole x ≡ (λ here. None)
sole_assign x place a subs value is = ap sole is ∙ para_stmt-Assign sole_at no_loops place a subs value

pub sole_add : (x : Stmt) (place a : ℕ) (subs : List Expr) (value : Expr) (atomic : Bool) → x ≡ stmt.AddTo place a subs value atomic → sole x ≡ (λ here. None)
sole_add x place a subs value atomic is = ap sole is ∙ para_stmt-AddTo sole_at no_loops place a subs value atomic

pub sole_declare : (x : Stmt) (place n : ℕ) (init : Option Expr) → x ≡ stmt.Declare place n init → sole x ≡ (λ here. None)
sole_declare x place n init is = ap sole is ∙ para_stmt-Declare sole_at no_loops place n init

pub sole_set : (x : Stmt) (place n : ℕ) (value : Expr) → x ≡ stmt.SetLocal place n value → sole x ≡ (λ here. None)
sole_set x place n value is = ap sole is ∙ para_stmt-SetLocal sole_at no_loops place n value

pub sole_if : (x : Stmt) (place : ℕ) (test : Expr) (body otherwise : List Stmt) → x ≡ stmt.If place test body otherwise → sole x ≡ (λ here. None)
sole_if x place test body otherwise is = ap sole is ∙ para_stmt-If sole_at no_loops place test body otherwise

-- ---- a loop, and what is below it

pub one_bound : (depth : ℕ) (head : Loop) (path : List Range) (at : List ℕ) (old new : List BandBound) → depth ≡ 1
    → (passes_hull path (out-Loop head) ≡ false → HasOneMore head old new) → fits_in_loop head path ≡ true → AddsBounds old new (nest_of (depth - 1) head at).loops
one_bound depth head path at old new one added h =
    let more = added (fits_loop head path h).hull in
    let none : 0 ≡ depth - 1 = omega (arith, one) in
    subst (λ n. AddsBounds old new (nest_of n head at).loops) none
    (add_more old new new more.0 (record { loop = head; at = at }) [] more.1 more.2 (add_none new [] refl))

pub more_bounds : (below depth : ℕ) (head : Loop) (p : List Stmt) (path next : List Range) (at : List ℕ) (old mid new : List BandBound) → below ≡ depth - 1 → p ≡ (out-Loop head).body
    → (passes_hull path (out-Loop head) ≡ false → HasOneMore head old mid)
    → (passes_hull path (out-Loop head) ≡ false → length path < 16 → next ≡ path ++ range_of path (out-Loop head) ∷ [])
    → (fits_in_list p next ≡ true → (here : List ℕ) → AddsBounds mid new (nest_in below p here).loops)
    → fits_in_loop head path ≡ true → AddsBounds old new (nest_of (depth - 1) head at).loops
more_bounds below depth head p path next at old mid new size b added entering f h =
    let fits = fits_loop head path h in
    let more = added fits.hull in
    let next_is = entering fits.hull fits.short in
    let rest : AddsBounds mid new (nest_in below (out-Loop head).body at).loops =
    subst (λ xs. AddsBounds mid new (nest_in below xs at).loops) b (f ((λ i. fits_in_list (b i) (next_is i)) ∙ fits.body) at) in
    subst (λ n. AddsBounds old new (nest_of n head at).loops) size (add_more old mid new more.0 (record { loop = head; at = at }) (nest_in below (out-Loop head).body at).loops more.1 more.2 rest)

pub for_bounds : (depth : ℕ) (x : Stmt) (head : Loop) (path : List Range) (at : List ℕ) (old new : List BandBound) → 0 < depth → x ≡ stmt.For head
    → (fits_in_loop head path ≡ true → (here : List ℕ) → AddsBounds old new (nest_of (depth - 1) head here).loops) → fits_in x path ≡ true → AddsBounds old new (nest_in depth (x ∷ []) at).loops
for_bounds depth x head path at old new some is f h =
    subst (AddsBounds old new) (sym (nest_for depth (depth - 1) x head at (omega (arith, some)) is)) (f (fits_for x head path is h) (at ++ 0 ∷ []))

pub block_bounds : (depth : ℕ) (x : Stmt) (body p : List Stmt) (path : List Range) (at : List ℕ) (old new : List BandBound) → x ≡ stmt.Block body → p ≡ body
    → (fits_in_list p path ≡ true → (here : List ℕ) → AddsBounds old new (nest_in depth p here).loops) → fits_in x path ≡ true → AddsBounds old new (nest_in depth (x ∷ []) at).loops
block_bounds depth x body p path at old new is b f h =
    subst (AddsBounds old new) (sym (nest_block depth x body at is))
    (subst (λ xs. AddsBounds old new (nest_in depth xs (at ++ 0 ∷ [])).loops) b (f (ap (λ xs. fits_in_list xs path) b ∙ fits_block x body path is h) (at ++ 0 ∷ [])))

pub other_bounds : (depth : ℕ) (x : Stmt) (at : List ℕ) (old : List BandBound) → sole x ≡ (λ here. None) → AddsBounds old old (nest_in depth (x ∷ []) at).loops
other_bounds depth x at old none = add_none old (nest_in depth (x ∷ []) at).loops (nest_other depth x at none)

pub only_bounds : (depth : ℕ) (xs : List Stmt) (x : Stmt) (path : List Range) (at : List ℕ) (old new : List BandBound) → xs ≡ x ∷ []
    → (fits_in x path ≡ true → (here : List ℕ) → AddsBounds old new (nest_in depth (x ∷ []) here).loops) → fits_in_list xs path ≡ true → AddsBounds old new (nest_in depth xs at).loops
only_bounds depth xs x path at old new is f h = subst (λ l. AddsBounds old new (nest_in depth l at).loops) (sym is) (f (fits_only xs x path is h) at)

pub no_bounds : (depth : ℕ) (xs : List Stmt) (at : List ℕ) (old : List BandBound) → length xs < 1 → AddsBounds old old (nest_in depth xs at).loops
no_bounds depth [] at old none = add_none old (nest_in depth [] at).loops (nest_empty depth [] at refl)
no_bounds depth (x ∷ xs) at old none = absurd (omega (arith, none))

pub several_bounds : (depth : ℕ) (xs : List Stmt) (at : List ℕ) (old : List BandBound) → 2 ≤ length xs → AddsBounds old old (nest_in depth xs at).loops
several_bounds depth [] at old few = absurd (omega (arith, few))
several_bounds depth (x ∷ []) at old few = absurd (omega (arith, few))
several_bounds depth (x ∷ y ∷ more) at old few = add_none old (nest_in depth (x ∷ y ∷ more) at).loops (nest_several depth (x ∷ y ∷ more) x y more at refl)

pub one_is : (xs : List Stmt) (x : Stmt) → 1 ≤ length xs → length xs < 2 → x ≡ get_or xs 0 x → xs ≡ x ∷ []
one_is [] x some few is = absurd (omega (arith, some))
one_is (y ∷ []) x some few is = ap (λ z. z ∷ []) (sym is)
one_is (y ∷ z ∷ xs) x some few is = absurd (omega (arith, few))

-- ---- as many loops as the front has

abbrev HasSole : Stmt → Type 0
HasSole x = (e : ℕ) (at : List ℕ) → suc e ≤ length (front_in x) → (p : Placed) × (sole x at ≡ Some p) × (e ≤ length (only_loops (map front_in (out-Loop p.loop).body)))

no_front : (x : Stmt) → front_in x ≡ [] → HasSole x
no_front x none e at few = absurd (omega (arith, few, ap length none))

sole_in : (xs : List Stmt) → Each HasSole xs → (e : ℕ) (at : List ℕ) → suc e ≤ length (only_loops (map front_in xs)) → (p : Placed) × (only xs at ≡ Some p) × (e ≤ length (only_loops (map front_in (out-Loop p.loop).body)))
sole_in [] h e at few = absurd (omega (arith, few))
sole_in (x ∷ []) h e at few = h.0 e (at ++ 0 ∷ []) few
sole_in (x ∷ y ∷ xs) h e at few = absurd (omega (arith, few))

pub has_sole : (x : Stmt) → HasSole x
has_sole = stmt_ind HasSole (record {
  assign = λ place a subs value. no_front _ (fold_stmt-Assign front_step front_layer place a subs value);
  add_to = λ place a subs value atomic. no_front _ (fold_stmt-AddTo front_step front_layer place a subs value atomic);
  declare = λ place n init. no_front _ (fold_stmt-Declare front_step front_layer place n init);
  set_local = λ place n value. no_front _ (fold_stmt-SetLocal front_step front_layer place n value);
  choice = λ place test body otherwise h k. no_front _ (fold_stmt-If front_step front_layer place test body otherwise);
  loop = λ l h e at few.
      let loops : front_in (stmt.For (roll-Loop l)) ≡ _ = fold_stmt-For front_step front_layer (roll-Loop l) ∙ fold_loop front_step front_layer l in
      (record { loop = roll-Loop l; at = at }, ap (λ s. s at) (sole-For (roll-Loop l)), omega (arith, few, ap length loops));
  block = λ body h e at few.
      let found = sole_in body h e at (subst (λ (bs : List Bounds). suc e ≤ length bs) (fold_stmt-Block front_step front_layer body) few) in
      (found.0, ap (λ s. s at) (sole-Block body) ∙ found.1, found.2);
})

pub nest_in_deep : (d : ℕ) (body : List Stmt) (at : List ℕ) → d ≤ length (only_loops (map front_in body)) → length (nest_in d body at).loops ≡ d
nest_in_deep zero body at few = refl
nest_in_deep (suc e) body at few =
    let found = sole_in body (each_all HasSole has_sole body) e at few in
    ap (λ o. length (under e body at o).loops) found.1 ∙ ap suc (nest_in_deep e (out-Loop found.0.loop).body found.0.at found.2)

pub nest_deep : (d : ℕ) (head : Loop) (at : List ℕ) → suc d ≤ length (front_of head) → length (nest_of d head at).loops ≡ suc d
nest_deep d head at few =
    let loops : front_of head ≡ _ = fold_loop-out front_step front_layer head in
    ap suc (nest_in_deep d (out-Loop head).body at (omega (arith, few, ap length loops)))

pub pairs_length : {X Y : Type 0} (R : X → Y → Type 0) (xs : List X) (ys : List Y) → Pairwise R xs ys → length xs ≡ length ys
pairs_length R [] [] h = refl
pairs_length R [] (y ∷ ys) h = absurd h
pairs_length R (x ∷ xs) [] h = absurd h
pairs_length R (x ∷ xs) (y ∷ ys) h = ap suc (pairs_length R xs ys h.1)
