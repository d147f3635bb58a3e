-- Weights up to the greatest one, and what a well made unit keeps on the way to each of its loops.
use Rattle.std.proofs.Common.{◌≡◌, ◌∙◌, refl, sym, ap, arith, ℕ, zero, suc, ◌+◌, ◌*◌, ◌<◌, ◌≤◌, List, [], ◌∷◌, ◌++◌, map, take, take_all, length, get_or, Bool, true, false, ◌&&◌, not, Option, ◌⊎◌, inl, inr}
use Rattle.std.specs.Prelude.{min, max}
use Rattle.std.proofs.lemmas.Bool.{and_parts, cases_lt}
use Rattle.std.proofs.lemmas.Bool.Decides.{nat_tests}
use Rattle.std.proofs.lemmas.List.{take_more}
use Rattle.species_ast.specs.declared.tree.Expr.{Expr}
use Rattle.species_ast.specs.declared.tree.Stmt.{Stmt}
use Rattle.species_ast.specs.declared.tree.Stmt.TheVariants as stmt
use Rattle.species_ast.specs.declared.tree.Loop.{Loop, out-Loop, fold-Loop}
use Rattle.species_ast.specs.Scope.Hulls.{Range, range_of, passes_hull}
use Rattle.species_ast.specs.Scope.Limits.{is_too_deep}
use Rattle.species_ast.specs.declared.tree.Unit.{Unit as Program}
use Rattle.species_ast.specs.Scope.Loops.{Nesting, no_loops, entered}
use Rattle.species_ast.specs.Scope.Nests.{front_with}
use Rattle.species_ast.specs.Scope.WellMade.{Made, made, made_at, made_loop, list_keeps, fronts_of, head_keeps, IsWellMade}
use Rattle.species_ast.proofs.Folds.{fold_stmt-Assign, fold_stmt-AddTo, fold_stmt-Declare, fold_stmt-SetLocal, fold_stmt-If, fold_stmt-For, fold_stmt-Block, fold_loop-out}
use Rattle.species_loops.specs.Weights.{turns_of, weight_at, weight_inside, weight_in, weight_in_list, weight_in_loop, weight_of, most_weight, IsAround}

-- ---- up to the greatest weight

pub sum_within : (a b x y most : ℕ) → x ≡ min a most → y ≡ min b most → min (x + y) most ≡ min (a + b) most
sum_within a b x y most h k = omega (arith, h, k)

-- not below the greatest
past : (n most : ℕ) → most ≤ n → min n most ≡ most
past n most h = omega arith

pub product_within : (t s x most : ℕ) → 1 ≤ most → x ≡ min s most → min (t * max x 1) most ≡ min (t * max s 1) most
product_within zero s x most one h = omega arith
product_within (suc t) s x most one h = go (cases_lt s most)
  where
    go : (s < most) ⊎ (most ≤ s) → min (suc t * max x 1) most ≡ min (suc t * max s 1) most
    go (inl below) = ap (λ n. min (suc t * max n 1) most) (omega (arith, h, below))
    go (inr over) =
        let left : max x 1 ≤ suc t * max x 1 = grows (max x 1) in
        let right : max s 1 ≤ suc t * max s 1 = grows (max s 1) in
        let most_left : most ≤ max x 1 = omega (arith, h, over) in
        let most_right : most ≤ max s 1 = omega (arith, over) in
        past (suc t * max x 1) most (omega (arith, left, most_left)) ∙ sym (past (suc t * max s 1) most (omega (arith, right, most_right)))
      where
        grows : (m : ℕ) → m ≤ suc t * m
        grows m = omega arith

-- ---- lists

weight-snoc : (xs : List Stmt) (x : Stmt) (path : List Range) → weight_in_list (xs ++ x ∷ []) path ≡ weight_in_list xs path + weight_in x path
weight-snoc [] x path = omega arith
weight-snoc (y ∷ xs) x path = omega (arith, weight-snoc xs x path)

pub next_weight : (all : List Stmt) (i : ℕ) (x : Stmt) (path : List Range) (now more new : ℕ) → x ≡ get_or all i x → i < length all →
    now ≡ min (weight_in_list (take i all) path) most_weight → more ≡ min (weight_in x path) most_weight → new ≡ min (now + more) most_weight →
    new ≡ min (weight_in_list (take (i + 1) all) path) most_weight
next_weight all i x path now more new at within h k e =
    let items : take (i + 1) all ≡ take i all ++ x ∷ [] = take_more all i x within ∙ ap (λ y. take i all ++ y ∷ []) (sym at) in
    e ∙ sum_within (weight_in_list (take i all) path) (weight_in x path) now more most_weight h k
    ∙ ap (λ n. min n most_weight) (sym (weight-snoc (take i all) x path) ∙ ap (λ xs. weight_in_list xs path) (sym items))

pub all_weighed : (all : List Stmt) (i : ℕ) (path : List Range) (w : ℕ) → length all ≤ i → w ≡ min (weight_in_list (take i all) path) most_weight →
    w ≡ min (weight_in_list all path) most_weight
all_weighed all i path w past_end h = h ∙ ap (λ xs. min (weight_in_list xs path) most_weight) (take_all i all past_end)

pub keeps_at : (all : List Stmt) (i : ℕ) (x : Stmt) (n : Nesting) → x ≡ get_or all i x → i < length all → list_keeps (map made all) n ≡ true → (made x).keeps n ≡ true
keeps_at [] i x n at within h = absurd (omega (arith, within))
keeps_at (y ∷ ys) zero x n at within h = ap (λ z. (made z).keeps n) at ∙ (and_parts ((made y).keeps n) (list_keeps (map made ys) n) h).0
keeps_at (y ∷ ys) (suc i) x n at within h =
    keeps_at ys i x n at (omega (arith, within)) (and_parts ((made y).keeps n) (list_keeps (map made ys) n) h).1

-- the same loops around
pub still_around : (path next : List Range) (n : Nesting) → next ≡ path → IsAround path n → IsAround next n
still_around path next n same h = record { path = h.path ∙ sym same; level = h.level ∙ sym (ap length same) }

-- ---- statements

pub if_weight : (x : Stmt) (place : ℕ) (test : Expr) (body otherwise p q : List Stmt) (path mid : List Range) (n : Nesting) (a b w : ℕ) →
    x ≡ stmt.If place test body otherwise → p ≡ body → q ≡ otherwise → mid ≡ path →
    ((m : Nesting) → IsAround path m → list_keeps (map made p) m ≡ true → a ≡ min (weight_in_list p path) most_weight) →
    ((m : Nesting) → IsAround mid m → list_keeps (map made q) m ≡ true → b ≡ min (weight_in_list q mid) most_weight) →
    w ≡ min (a + b) most_weight → IsAround path n → (made x).keeps n ≡ true → w ≡ min (weight_in x path) most_weight
if_weight x place test body otherwise p q path mid n a b w is s t same f g e around h =
    let keeps : (list_keeps (map made body) n && list_keeps (map made otherwise) n) ≡ true =
    sym (ap (λ m. m.keeps n) (ap made is ∙ fold_stmt-If made_at made_loop place test body otherwise)) ∙ h in
    let parts = and_parts (list_keeps (map made body) n) (list_keeps (map made otherwise) n) keeps in
    let first : a ≡ min (weight_in_list body path) most_weight =
    f n around (ap (λ xs. list_keeps (map made xs) n) s ∙ parts.0) ∙ ap (λ xs. min (weight_in_list xs path) most_weight) s in
    let second : b ≡ min (weight_in_list otherwise path) most_weight =
    g n (still_around path mid n same around) (ap (λ xs. list_keeps (map made xs) n) t ∙ parts.1) ∙ (λ i. min (weight_in_list (t i) (same i)) most_weight) in
    let shown : weight_in x path ≡ weight_in_list body path + weight_in_list otherwise path =
    ap (λ z. weight_in z path) is ∙ ap (λ k. k path) (fold_stmt-If weight_at weight_inside place test body otherwise) in
    e ∙ sum_within (weight_in_list body path) (weight_in_list otherwise path) a b most_weight first second ∙ ap (λ z. min z most_weight) (sym shown)

pub block_weight : (x : Stmt) (body p : List Stmt) (path : List Range) (n : Nesting) (w : ℕ) → x ≡ stmt.Block body → p ≡ body →
    ((m : Nesting) → IsAround path m → list_keeps (map made p) m ≡ true → w ≡ min (weight_in_list p path) most_weight) →
    IsAround path n → (made x).keeps n ≡ true → w ≡ min (weight_in x path) most_weight
block_weight x body p path n w is s f around h =
    let keeps : list_keeps (map made body) n ≡ true = sym (ap (λ m. m.keeps n) (ap made is ∙ fold_stmt-Block made_at made_loop body)) ∙ h in
    f n around (ap (λ xs. list_keeps (map made xs) n) s ∙ keeps) ∙ ap (λ xs. min (weight_in_list xs path) most_weight) s
    ∙ ap (λ z. min z most_weight) (sym (ap (λ z. weight_in z path) is ∙ ap (λ k. k path) (fold_stmt-Block weight_at weight_inside body)))

pub for_weight : (x : Stmt) (head : Loop) (path : List Range) (n : Nesting) (w : ℕ) → x ≡ stmt.For head →
    ((m : Nesting) → IsAround path m → (fold-Loop Made Made made_at made_loop head).keeps m ≡ true → w ≡ min (weight_in_loop head path) most_weight) →
    IsAround path n → (made x).keeps n ≡ true → w ≡ min (weight_in x path) most_weight
for_weight x head path n w is f around h =
    f n around (sym (ap (λ m. m.keeps n) (ap made is ∙ fold_stmt-For made_at made_loop head)) ∙ h)
    ∙ ap (λ z. min z most_weight) (sym (ap (λ z. weight_in z path) is ∙ ap (λ k. k path) (fold_stmt-For weight_at weight_inside head)))

-- ---- loops

first_and_third : (a b c d : Bool) → (not a && (not b && (not c && d))) ≡ true → (a ≡ false) × (c ≡ false)
first_and_third true b c d h = absurd cc
first_and_third false true c d h = absurd cc
first_and_third false false true d h = absurd cc
first_and_third false false false d h = (refl, refl)

keeps_loop : (head : Loop) (n : Nesting) → (fold-Loop Made Made made_at made_loop head).keeps n ≡ true →
    (is_too_deep n.level ≡ false) × (passes_hull n.path (out-Loop head) ≡ false) × (list_keeps (map made (out-Loop head).body) (entered (out-Loop head) n) ≡ true)
keeps_loop head n h =
    let l = out-Loop head in
    let front = front_with l.start l.limit (fronts_of (map made l.body)) in
    let whole : (head_keeps front l n && list_keeps (map made l.body) (entered l n)) ≡ true = sym (ap (λ m. m.keeps n) (fold_loop-out made_at made_loop head)) ∙ h in
    let parts = and_parts (head_keeps front l n) (list_keeps (map made l.body) (entered l n)) whole in
    let limits = first_and_third (is_too_deep n.level) _ (passes_hull n.path l) _ parts.0 in
    (limits.0, limits.1, parts.1)

length_more : (xs : List Range) (x : Range) → length (xs ++ x ∷ []) ≡ suc (length xs)
length_more [] x = refl
length_more (y ∷ xs) x = ap suc (length_more xs x)

pub loop_weight : (head : Loop) (p : List Stmt) (path next : List Range) (n : Nesting) (turns inside w : ℕ) → p ≡ (out-Loop head).body →
    (passes_hull path (out-Loop head) ≡ false → turns ≡ turns_of path (range_of path (out-Loop head))) →
    (passes_hull path (out-Loop head) ≡ false → length path < 16 → next ≡ path ++ range_of path (out-Loop head) ∷ []) →
    ((m : Nesting) → IsAround next m → list_keeps (map made p) m ≡ true → inside ≡ min (weight_in_list p next) most_weight) →
    w ≡ min (turns * max inside 1) most_weight → IsAround path n → (fold-Loop Made Made made_at made_loop head).keeps n ≡ true →
    w ≡ min (weight_in_loop head path) most_weight
loop_weight head p path next n turns inside w s counted entering f e around h =
    let l = out-Loop head in
    let r = range_of path l in
    let kept = keeps_loop head n h in
    let hull : passes_hull path l ≡ false = ap (λ z. passes_hull z l) (sym around.path) ∙ kept.1 in
    let shallow : n.level < 8 = grind (arith, nat_tests, kept.0) in
    let few : length path < 16 = omega (arith, shallow, around.level) in
    let next_is : next ≡ path ++ r ∷ [] = entering hull few in
    let within : IsAround next (entered l n) = record {
      path = (λ i. around.path i ++ range_of (around.path i) l ∷ []) ∙ sym next_is;
      level = ap suc around.level ∙ sym (length_more path r) ∙ sym (ap length next_is);
    } in
    let body : inside ≡ min (weight_in_list l.body (path ++ r ∷ [])) most_weight =
    f (entered l n) within (ap (λ xs. list_keeps (map made xs) (entered l n)) s ∙ kept.2) ∙ (λ i. min (weight_in_list (s i) (next_is i)) most_weight) in
    e ∙ ap (λ t. min (t * max inside 1) most_weight) (counted hull)
    ∙ product_within (turns_of path r) (weight_in_list l.body (path ++ r ∷ [])) inside most_weight (omega arith) body
    ∙ ap (λ z. min z most_weight) (sym (ap (λ k. k path) (fold_loop-out weight_at weight_inside head)))

-- ---- statements with no loops

nothing : (x : Stmt) (path : List Range) → weight_in x path ≡ 0 → 0 ≡ min (weight_in x path) most_weight
nothing x path h = sym (ap (λ z. min z most_weight) h)

pub assign_weight : (x : Stmt) (place a : ℕ) (subs : List Expr) (value : Expr) (path : List Range) → x ≡ stmt.Assign place a subs value → 0 ≡ min (weight_in x path) most_weight
assign_weight x place a subs value path is = nothing x path (ap (λ z. weight_in z path) is ∙ ap (λ k. k path) (fold_stmt-Assign weight_at weight_inside place a subs value))

pub add_weight : (x : Stmt) (place a : ℕ) (subs : List Expr) (value : Expr) (atomic : Bool) (path : List Range) → x ≡ stmt.AddTo place a subs value atomic →
    0 ≡ min (weight_in x path) most_weight
add_weight x place a subs value atomic path is =
    nothing x path (ap (λ z. weight_in z path) is ∙ ap (λ k. k path) (fold_stmt-AddTo weight_at weight_inside place a subs value atomic))

pub declare_weight : (x : Stmt) (place n : ℕ) (init : Option Expr) (path : List Range) → x ≡ stmt.Declare place n init → 0 ≡ min (weight_in x path) most_weight
declare_weight x place n init path is = nothing x path (ap (λ z. weight_in z path) is ∙ ap (λ k. k path) (fold_stmt-Declare weight_at weight_inside place n init))

pub set_weight : (x : Stmt) (place n : ℕ) (value : Expr) (path : List Range) → x ≡ stmt.SetLocal place n value → 0 ≡ min (weight_in x path) most_weight
set_weight x place n value path is = nothing x path (ap (λ z. weight_in z path) is ∙ ap (λ k. k path) (fold_stmt-SetLocal weight_at weight_inside place n value))

-- ---- units

pub whole_weight : (u : Program) (all : List Stmt) (path : List Range) (w : ℕ) → all ≡ u.body → path ≡ [] →
    ((n : Nesting) → IsAround path n → list_keeps (map made all) n ≡ true → w ≡ min (weight_in_list all path) most_weight) → IsWellMade u →
    w ≡ min (weight_of u) most_weight
whole_weight u all path w s outside f h =
    f no_loops (record { path = sym outside; level = sym (ap length outside) }) (ap (λ xs. list_keeps (map made xs) no_loops) s ∙ h.limits)
    ∙ (λ i. min (weight_in_list (s i) (outside i)) most_weight)
