-- The ranges of the loops in each kind of statement, where it fits.
use Rattle.std.proofs.Common.{◌≡◌, ◌∙◌, refl, sym, ap, arith, ℕ, zero, suc, ◌+◌, ◌<◌, ◌≤◌, List, [], ◌∷◌, ◌++◌, map, take, take_all, length, get_or, Bool, true, false, ◌&&◌, not, nat_lt, Option, append_assoc, append-nil, All}
use Rattle.std.proofs.lemmas.Bool.{and_parts}
use Rattle.std.proofs.lemmas.Bool.Decides.{nat_tests}
use Rattle.std.proofs.lemmas.List.{take_more}
use Rattle.species_ast.specs.declared.tree.Expr.{Expr}
use Rattle.species_ast.specs.declared.tree.Stmt.{Stmt}
use Rattle.species_ast.specs.declared.tree.Stmt.TheVariants as stmt
use Rattle.species_ast.specs.declared.tree.Loop.{Loop, out-Loop}
use Rattle.species_ast.specs.Scope.Hulls.{Range, range_of, passes_hull}
use Rattle.species_ast.proofs.Folds.{fold_stmt-Assign, fold_stmt-AddTo, fold_stmt-Declare, fold_stmt-SetLocal, fold_stmt-If, fold_stmt-For, fold_stmt-Block, fold_loop-out}
use Rattle.species_linear.specs.Box.{zero_range, range_at}
use Rattle.species_linear.specs.declared.loops.LoopRange.{LoopRange}
use Rattle.species_references.specs.Ranges.{range_seen, ranges_seen, ranges_at, ranges_within, ranges_in, ranges_in_list, ranges_in_loop}
use Rattle.species_ranges.specs.Fitting.{fits_at, fits_within, fits_in, fits_in_list, fits_in_loop}

-- ---- paths

pub seen_more : (xs : List LoopRange) (y : LoopRange) → ranges_seen (xs ++ y ∷ []) ≡ ranges_seen xs ++ range_seen y ∷ []
seen_more [] y = refl
seen_more (x ∷ xs) y = ap (λ l. range_seen x ∷ l) (seen_more xs y)

pub seen_length : (xs : List LoopRange) → length (ranges_seen xs) ≡ length xs
seen_length [] = refl
seen_length (x ∷ xs) = ap suc (seen_length xs)

pub all_more : {X : Type 0} (P : X → Type 0) (xs : List X) (y : X) → All P xs → P y → All P (xs ++ y ∷ [])
all_more P [] y h p zero d l = p
all_more P [] y h p (suc k) d l = absurd (omega (arith, l))
all_more P (x ∷ xs) y h p zero d l = h 0 d (omega arith)
all_more P (x ∷ xs) y h p (suc k) d l = all_more P xs y (λ j e m. h (suc j) e (omega (arith, m))) p k d (omega (arith, l))

-- one loop further
pub seen_next : (all : List LoopRange) (i : ℕ) (now new : List Range) → i < length all → length all ≤ 16 → now ≡ ranges_seen (take i all)
    → (length now < 16 → new ≡ now ++ range_seen (range_at all i) ∷ []) → new ≡ ranges_seen (take (i + 1) all)
seen_next all i now new within short h e =
    let x = range_at all i in
    let items : take (i + 1) all ≡ take i all ++ x ∷ [] = take_more all i zero_range within in
    let count : length now ≡ length (take i all) = ap length h ∙ seen_length (take i all) in
    let few : length (take i all) ≤ i = take_few all i in
    e (omega (arith, count, few, within, short)) ∙ ap (λ l. l ++ range_seen x ∷ []) h ∙ sym (seen_more (take i all) x) ∙ ap ranges_seen (sym items)
  where
    take_few : {X : Type 0} (xs : List X) (n : ℕ) → length (take n xs) ≤ n
    take_few xs zero = omega arith
    take_few [] (suc n) = omega arith
    take_few (x ∷ xs) (suc n) = omega (arith, take_few xs n)

-- ---- lists

ranges-snoc : (xs : List Stmt) (x : Stmt) (path : List Range) → ranges_in_list (xs ++ x ∷ []) path ≡ ranges_in_list xs path ++ ranges_in x path
ranges-snoc [] x path = append-nil (ranges_in x path)
ranges-snoc (y ∷ xs) x path = ap (λ l. ranges_in y path ++ l) (ranges-snoc xs x path) ∙ sym (append_assoc (ranges_in y path) (ranges_in_list xs path) (ranges_in x path))

pub next_ranges : (all : List Stmt) (i : ℕ) (x : Stmt) (path : List Range) (old now new : List Range) → x ≡ get_or all i x → i < length all
    → now ≡ old ++ ranges_in_list (take i all) path → new ≡ now ++ ranges_in x path → new ≡ old ++ ranges_in_list (take (i + 1) all) path
next_ranges all i x path old now new at within h e =
    let items : take (i + 1) all ≡ take i all ++ x ∷ [] = take_more all i x within ∙ ap (λ y. take i all ++ y ∷ []) (sym at) in
    e ∙ ap (λ l. l ++ ranges_in x path) h ∙ append_assoc old (ranges_in_list (take i all) path) (ranges_in x path)
    ∙ ap (λ l. old ++ l) (sym (ranges-snoc (take i all) x path) ∙ ap (λ xs. ranges_in_list xs path) (sym items))

pub all_ranges : (all : List Stmt) (i : ℕ) (path old new : List Range) → length all ≤ i → new ≡ old ++ ranges_in_list (take i all) path → new ≡ old ++ ranges_in_list all path
all_ranges all i path old new past_end h = h ∙ ap (λ xs. old ++ ranges_in_list xs path) (take_all i all past_end)

pub fits_there : (all : List Stmt) (i : ℕ) (x : Stmt) (path : List Range) → x ≡ get_or all i x → i < length all → fits_in_list all path ≡ true → fits_in x path ≡ true
fits_there [] i x path at within h = absurd (omega (arith, within))
fits_there (y ∷ ys) zero x path at within h = ap (λ z. fits_in z path) at ∙ (and_parts (fits_in y path) (fits_in_list ys path) h).0
fits_there (y ∷ ys) (suc i) x path at within h = fits_there ys i x path at (omega (arith, within)) (and_parts (fits_in y path) (fits_in_list ys path) h).1

-- ---- statements

pub if_ranges : (x : Stmt) (place : ℕ) (test : Expr) (body otherwise p q : List Stmt) (path mid old now new : List Range)
    → x ≡ stmt.If place test body otherwise → p ≡ body → q ≡ otherwise → mid ≡ path
    → (fits_in_list p path ≡ true → now ≡ old ++ ranges_in_list p path) → (fits_in_list q mid ≡ true → new ≡ now ++ ranges_in_list q mid)
    → fits_in x path ≡ true → new ≡ old ++ ranges_in x path
if_ranges x place test body otherwise p q path mid old now new is s t same f g h =
    let fits : (fits_in_list body path && fits_in_list otherwise path) ≡ true = sym (ap (λ z. fits_in z path) is ∙ ap (λ k. k path) (fold_stmt-If fits_at fits_within place test body otherwise)) ∙ h in
    let parts = and_parts (fits_in_list body path) (fits_in_list otherwise path) fits in
    let first : now ≡ old ++ ranges_in_list body path = f (ap (λ xs. fits_in_list xs path) s ∙ parts.0) ∙ ap (λ xs. old ++ ranges_in_list xs path) s in
    let second : new ≡ now ++ ranges_in_list otherwise path = g ((λ i. fits_in_list (t i) (same i)) ∙ parts.1) ∙ (λ i. now ++ ranges_in_list (t i) (same i)) in
    let shown : ranges_in x path ≡ ranges_in_list body path ++ ranges_in_list otherwise path = ap (λ z. ranges_in z path) is ∙ ap (λ k. k path) (fold_stmt-If ranges_at ranges_within place test body otherwise) in
    second ∙ ap (λ l. l ++ ranges_in_list otherwise path) first ∙ append_assoc old (ranges_in_list body path) (ranges_in_list otherwise path) ∙ ap (λ l. old ++ l) (sym shown)

pub block_ranges : (x : Stmt) (body p : List Stmt) (path old new : List Range) → x ≡ stmt.Block body → p ≡ body → (fits_in_list p path ≡ true → new ≡ old ++ ranges_in_list p path)
    → fits_in x path ≡ true → new ≡ old ++ ranges_in x path
block_ranges x body p path old new is s f h =
    let fits : fits_in_list body path ≡ true = sym (ap (λ z. fits_in z path) is ∙ ap (λ k. k path) (fold_stmt-Block fits_at fits_within body)) ∙ h in
    f (ap (λ xs. fits_in_list xs path) s ∙ fits) ∙ ap (λ xs. old ++ ranges_in_list xs path) s
    ∙ ap (λ l. old ++ l) (sym (ap (λ z. ranges_in z path) is ∙ ap (λ k. k path) (fold_stmt-Block ranges_at ranges_within body)))

pub for_ranges : (x : Stmt) (head : Loop) (path old new : List Range) → x ≡ stmt.For head → (fits_in_loop head path ≡ true → new ≡ old ++ ranges_in_loop head path)
    → fits_in x path ≡ true → new ≡ old ++ ranges_in x path
for_ranges x head path old new is f h =
    f (sym (ap (λ z. fits_in z path) is ∙ ap (λ k. k path) (fold_stmt-For fits_at fits_within head)) ∙ h)
    ∙ ap (λ l. old ++ l) (sym (ap (λ z. ranges_in z path) is ∙ ap (λ k. k path) (fold_stmt-For ranges_at ranges_within head)))

-- ---- loops

pub loop_ranges : (head : Loop) (p : List Stmt) (path next old now new : List Range) → p ≡ (out-Loop head).body
    → (passes_hull path (out-Loop head) ≡ false → now ≡ old ++ range_of path (out-Loop head) ∷ [])
    → (passes_hull path (out-Loop head) ≡ false → length path < 16 → next ≡ path ++ range_of path (out-Loop head) ∷ [])
    → (fits_in_list p next ≡ true → new ≡ now ++ ranges_in_list p next) → fits_in_loop head path ≡ true → new ≡ old ++ ranges_in_loop head path
loop_ranges head p path next old now new s added entering f h =
    let l = out-Loop head in
    let r = range_of path l in
    let fits : (nat_lt (length path) 16 && (not (passes_hull path l) && fits_in_list l.body (path ++ r ∷ []))) ≡ true = sym (ap (λ k. k path) (fold_loop-out fits_at fits_within head)) ∙ h in
    let short = and_parts (nat_lt (length path) 16) (not (passes_hull path l) && fits_in_list l.body (path ++ r ∷ [])) fits in
    let rest = and_parts (not (passes_hull path l)) (fits_in_list l.body (path ++ r ∷ [])) short.1 in
    let hull : passes_hull path l ≡ false = not_true (passes_hull path l) rest.0 in
    let few : length path < 16 = grind (arith, nat_tests, short.0) in
    let next_is : next ≡ path ++ r ∷ [] = entering hull few in
    let body : new ≡ now ++ ranges_in_list l.body (path ++ r ∷ []) = f ((λ i. fits_in_list (s i) (next_is i)) ∙ rest.1) ∙ (λ i. now ++ ranges_in_list (s i) (next_is i)) in
    body ∙ ap (λ k. k ++ ranges_in_list l.body (path ++ r ∷ [])) (added hull) ∙ append_assoc old (r ∷ []) (ranges_in_list l.body (path ++ r ∷ []))
    ∙ ap (λ k. old ++ k) (sym (ap (λ k. k path) (fold_loop-out ranges_at ranges_within head)))
  where
    not_true : (b : Bool) → not b ≡ true → b ≡ false
    not_true true e = absurd cc
    not_true false e = refl

-- ---- statements with no loops

nothing : (x : Stmt) (path old : List Range) → ranges_in x path ≡ [] → old ≡ old ++ ranges_in x path
nothing x path old h = sym (append-nil old) ∙ ap (λ l. old ++ l) (sym h)

pub assign_ranges : (x : Stmt) (place a : ℕ) (subs : List Expr) (value : Expr) (path old : List Range) → x ≡ stmt.Assign place a subs value → old ≡ old ++ ranges_in x path
assign_ranges x place a subs value path old is = nothing x path old (ap (λ z. ranges_in z path) is ∙ ap (λ k. k path) (fold_stmt-Assign ranges_at ranges_within place a subs value))

pub add_ranges : (x : Stmt) (place a : ℕ) (subs : List Expr) (value : Expr) (atomic : Bool) (path old : List Range) → x ≡ stmt.AddTo place a subs value atomic → old ≡ old ++ ranges_in x path
add_ranges x place a subs value atomic path old is = nothing x path old (ap (λ z. ranges_in z path) is ∙ ap (λ k. k path) (fold_stmt-AddTo ranges_at ranges_within place a subs value atomic))

pub declare_ranges : (x : Stmt) (place n : ℕ) (init : Option Expr) (path old : List Range) → x ≡ stmt.Declare place n init → old ≡ old ++ ranges_in x path
declare_ranges x place n init path old is = nothing x path old (ap (λ z. ranges_in z path) is ∙ ap (λ k. k path) (fold_stmt-Declare ranges_at ranges_within place n init))

pub set_ranges : (x : Stmt) (place n : ℕ) (value : Expr) (path old : List Range) → x ≡ stmt.SetLocal place n value → old ≡ old ++ ranges_in x path
set_ranges x place n value path old is = nothing x path old (ap (λ z. ranges_in z path) is ∙ ap (λ k. k path) (fold_stmt-SetLocal ranges_at ranges_within place n value))
