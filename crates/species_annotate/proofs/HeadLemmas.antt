-- The loops in each kind of statement, where it fits.
use Rattle.std.proofs.Common.{◌≡◌, ◌∙◌, refl, sym, ap, subst, arith, ℕ, zero, suc, ◌+◌, ◌<◌, ◌≤◌, List, [], ◌∷◌, ◌++◌, map, drop, take, take_all, length, get_or, Bool, true, false, ◌&&◌, not, nat_lt, Option, Some, append_assoc, append-nil}
use Rattle.std.specs.List.{Contains}
use Rattle.std.specs.Prelude.{slice_get, is_some, IfSome}
use Rattle.std.proofs.lemmas.Bool.{and_parts, and_from}
use Rattle.std.proofs.lemmas.Bool.Decides.{nat_tests}
use Rattle.std.proofs.lemmas.List.{map-append}
use Rattle.species_ast.specs.declared.tree.Expr.{Expr}
use Rattle.species_ast.specs.declared.tree.Stmt.{Stmt}
use Rattle.species_ast.specs.declared.tree.Stmt.TheVariants as stmt
use Rattle.species_ast.specs.declared.tree.Loop.{Loop, out-Loop, roll-out-Loop}
use Rattle.species_ast.specs.declared.tree.Unit.{Unit as Program}
use Rattle.species_ast.specs.Scope.Hulls.{Range, range_of, passes_hull}
use Rattle.species_ast.specs.Scope.Loops.{no_loops, Standing, numbered, standing_in, PlacedLoop, list_loops, loops_in, outside_loops, placed_loops}
use Rattle.species_ast.specs.Scope.WellMade.{made, list_keeps, IsWellMade}
use Rattle.species_ast.proofs.Folds.{fold_stmt-If, fold_stmt-For, fold_stmt-Block, fold_loop-out}
use Rattle.species_occurrences.proofs.PositionLaws.{loops_in-Assign, loops_in-AddTo, loops_in-Declare, loops_in-SetLocal, loops_in-If, loops_in-For, loops_in-Block}
use Rattle.species_classify.specs.Places.{StandsIn}
use Rattle.species_ranges.proofs.KeepLaws.{keeps_fits}
use Rattle.species_ranges.specs.Fitting.{fits_at, fits_within, fits_in, fits_in_list, fits_in_loop}
use Rattle.species_annotate.specs.Loops.{Head, head_at, heads_in, heads_in_list, heads_inside, heads_of}

-- ---- lists

heads_more : (all : List Stmt) (i : ℕ) (x : Stmt) (s : Standing) (k : ℕ) → x ≡ get_or all i x → i < length all
    → heads_in_list (take (suc i) all) s k ≡ heads_in_list (take i all) s k ++ heads_in x (numbered s (k + i))
heads_more [] i x s k at within = absurd (omega (arith, within))
heads_more (y ∷ all) zero x s k at within =
    let here : k ≡ k + 0 = omega arith in
    ap (map head_at) (append-nil (loops_in y (numbered s k))) ∙ (λ i. heads_in (sym at i) (numbered s (here i)))
heads_more (y ∷ all) (suc i) x s k at within =
    let next : suc k + i ≡ k + suc i = omega arith in
    map-append head_at (loops_in y (numbered s k)) (list_loops (map loops_in (take (suc i) all)) s (suc k))
    ∙ ap (λ l. heads_in y (numbered s k) ++ l) (heads_more all i x s (suc k) at (omega (arith, within)))
    ∙ sym (append_assoc (heads_in y (numbered s k)) (heads_in_list (take i all) s (suc k)) (heads_in x (numbered s (suc k + i))))
    ∙ (λ j. sym (map-append head_at (loops_in y (numbered s k)) (list_loops (map loops_in (take i all)) s (suc k))) j ++ heads_in x (numbered s (next j)))

pub next_heads : (all : List Stmt) (i : ℕ) (x : Stmt) (s : Standing) (k : ℕ) (old now new : List Head) → x ≡ get_or all i x → i < length all
    → now ≡ old ++ heads_in_list (take i all) s k → new ≡ now ++ heads_in x (numbered s (k + i)) → new ≡ old ++ heads_in_list (take (i + 1) all) s k
next_heads all i x s k old now new at within h e =
    let one : suc i ≡ i + 1 = omega arith in
    e ∙ ap (λ l. l ++ heads_in x (numbered s (k + i))) h ∙ append_assoc old (heads_in_list (take i all) s k) (heads_in x (numbered s (k + i)))
    ∙ ap (λ l. old ++ l) (sym (heads_more all i x s k at within)) ∙ ap (λ n. old ++ heads_in_list (take n all) s k) one

pub all_heads : (all : List Stmt) (i : ℕ) (s : Standing) (k : ℕ) (old new : List Head) → length all ≤ i → new ≡ old ++ heads_in_list (take i all) s k → new ≡ old ++ heads_in_list all s k
all_heads all i s k old new past h = h ∙ ap (λ xs. old ++ heads_in_list xs s k) (take_all i all past)

pub fits_there : (all : List Stmt) (i : ℕ) (x : Stmt) (path : List Range) → x ≡ get_or all i x → i < length all → fits_in_list all path ≡ true → fits_in x path ≡ true
fits_there [] i x path at within h = absurd (omega (arith, within))
fits_there (y ∷ ys) zero x path at within h = ap (λ z. fits_in z path) at ∙ (and_parts (fits_in y path) (fits_in_list ys path) h).0
fits_there (y ∷ ys) (suc i) x path at within h = fits_there ys i x path at (omega (arith, within)) (and_parts (fits_in y path) (fits_in_list ys path) h).1

-- ---- what stands in a statement

pub heads-If : (x : Stmt) (place : ℕ) (test : Expr) (body otherwise : List Stmt) (s : Standing) → x ≡ stmt.If place test body otherwise
    → heads_in x s ≡ heads_in_list body s 0 ++ heads_in_list otherwise s (length body)
heads-If x place test body otherwise s is =
    ap (λ z. heads_in z s) is ∙ ap (λ k. map head_at (k s)) (loops_in-If place test body otherwise)
    ∙ map-append head_at (list_loops (map loops_in body) s 0) (list_loops (map loops_in otherwise) s (length body))

pub heads-Block : (x : Stmt) (body : List Stmt) (s : Standing) → x ≡ stmt.Block body → heads_in x s ≡ heads_in_list body s 0
heads-Block x body s is = ap (λ z. heads_in z s) is ∙ ap (λ k. map head_at (k s)) (loops_in-Block body)

pub heads-For : (x : Stmt) (head : Loop) (s : Standing) → x ≡ stmt.For head → heads_in x s ≡ record { loop = head; path = s.around.path } ∷ heads_inside head s
heads-For x head s is =
    ap (λ z. heads_in z s) is ∙ ap (λ l. heads_in (stmt.For l) s) (sym (roll-out-Loop head)) ∙ ap (λ k. map head_at (k s)) (loops_in-For (out-Loop head))
    ∙ ap (λ l. record { loop = l; path = s.around.path } ∷ heads_inside head s) (roll-out-Loop head)

pub heads-Assign : (x : Stmt) (place a : ℕ) (subs : List Expr) (value : Expr) (s : Standing) → x ≡ stmt.Assign place a subs value → heads_in x s ≡ []
heads-Assign x place a subs value s is = ap (λ z. heads_in z s) is ∙ ap (λ k. map head_at (k s)) (loops_in-Assign place a subs value)

pub heads-AddTo : (x : Stmt) (place a : ℕ) (subs : List Expr) (value : Expr) (atomic : Bool) (s : Standing) → x ≡ stmt.AddTo place a subs value atomic → heads_in x s ≡ []
heads-AddTo x place a subs value atomic s is = ap (λ z. heads_in z s) is ∙ ap (λ k. map head_at (k s)) (loops_in-AddTo place a subs value atomic)

pub heads-Declare : (x : Stmt) (place n : ℕ) (init : Option Expr) (s : Standing) → x ≡ stmt.Declare place n init → heads_in x s ≡ []
heads-Declare x place n init s is = ap (λ z. heads_in z s) is ∙ ap (λ k. map head_at (k s)) (loops_in-Declare place n init)

pub heads-SetLocal : (x : Stmt) (place n : ℕ) (value : Expr) (s : Standing) → x ≡ stmt.SetLocal place n value → heads_in x s ≡ []
heads-SetLocal x place n value s is = ap (λ z. heads_in z s) is ∙ ap (λ k. map head_at (k s)) (loops_in-SetLocal place n value)

-- ---- what is found in it

-- what is found in statements of a list
abbrev pub Finds : List Stmt → List Range → List Head → List Head → Type 0
Finds xs path old new = fits_in_list xs path ≡ true → (s : Standing) (k : ℕ) → s.around.path ≡ path → new ≡ old ++ heads_in_list xs s k

pub if_heads : (x : Stmt) (place : ℕ) (test : Expr) (body otherwise p q : List Stmt) (path mid : List Range) (old now new : List Head)
    → x ≡ stmt.If place test body otherwise → p ≡ body → q ≡ otherwise → mid ≡ path → Finds p path old now → Finds q mid now new
    → fits_in x path ≡ true → (s : Standing) → s.around.path ≡ path → new ≡ old ++ heads_in x s
if_heads x place test body otherwise p q path mid old now new is b o same f g h s at =
    let fits : (fits_in_list body path && fits_in_list otherwise path) ≡ true = sym (ap (λ z. fits_in z path) is ∙ ap (λ k. k path) (fold_stmt-If fits_at fits_within place test body otherwise)) ∙ h in
    let parts = and_parts (fits_in_list body path) (fits_in_list otherwise path) fits in
    let first : now ≡ old ++ heads_in_list body s 0 = f (ap (λ xs. fits_in_list xs path) b ∙ parts.0) s 0 at ∙ ap (λ xs. old ++ heads_in_list xs s 0) b in
    let second : new ≡ now ++ heads_in_list otherwise s (length body) =
    g ((λ i. fits_in_list (o i) (same i)) ∙ parts.1) s (length body) (at ∙ sym same) ∙ ap (λ xs. now ++ heads_in_list xs s (length body)) o in
    second ∙ ap (λ l. l ++ heads_in_list otherwise s (length body)) first ∙ append_assoc old (heads_in_list body s 0) (heads_in_list otherwise s (length body))
    ∙ ap (λ l. old ++ l) (sym (heads-If x place test body otherwise s is))

pub block_heads : (x : Stmt) (body p : List Stmt) (path : List Range) (old new : List Head) → x ≡ stmt.Block body → p ≡ body → Finds p path old new
    → fits_in x path ≡ true → (s : Standing) → s.around.path ≡ path → new ≡ old ++ heads_in x s
block_heads x body p path old new is b f h s at =
    let fits : fits_in_list body path ≡ true = sym (ap (λ z. fits_in z path) is ∙ ap (λ k. k path) (fold_stmt-Block fits_at fits_within body)) ∙ h in
    f (ap (λ xs. fits_in_list xs path) b ∙ fits) s 0 at ∙ ap (λ xs. old ++ heads_in_list xs s 0) b ∙ ap (λ l. old ++ l) (sym (heads-Block x body s is))

pub for_heads : (x : Stmt) (head : Loop) (path : List Range) (old new : List Head) → x ≡ stmt.For head
    → (fits_in_loop head path ≡ true → (s : Standing) → s.around.path ≡ path → new ≡ old ++ heads_in (stmt.For head) s)
    → fits_in x path ≡ true → (s : Standing) → s.around.path ≡ path → new ≡ old ++ heads_in x s
for_heads x head path old new is f h s at =
    f (sym (ap (λ z. fits_in z path) is ∙ ap (λ k. k path) (fold_stmt-For fits_at fits_within head)) ∙ h) s at ∙ ap (λ z. old ++ heads_in z s) (sym is)

pub none_heads : (x : Stmt) (old : List Head) (s : Standing) → heads_in x s ≡ [] → old ≡ old ++ heads_in x s
none_heads x old s none = sym (append-nil old) ∙ ap (λ l. old ++ l) (sym none)

pub loop_heads : (head : Loop) (p : List Stmt) (path next : List Range) (old now new : List Head) → p ≡ (out-Loop head).body
    → now ≡ old ++ record { loop = head; path = path } ∷ []
    → (passes_hull path (out-Loop head) ≡ false → length path < 16 → next ≡ path ++ range_of path (out-Loop head) ∷ [])
    → Finds p next now new → fits_in_loop head path ≡ true → (s : Standing) → s.around.path ≡ path → new ≡ old ++ heads_in (stmt.For head) s
loop_heads head p path next old now new b added entering f h s at =
    let l = out-Loop head in
    let r = range_of path l in
    let fits : (nat_lt (length path) 16 && (not (passes_hull path l) && fits_in_list l.body (path ++ r ∷ []))) ≡ true = sym (ap (λ k. k path) (fold_loop-out fits_at fits_within head)) ∙ h in
    let short = and_parts (nat_lt (length path) 16) (not (passes_hull path l) && fits_in_list l.body (path ++ r ∷ [])) fits in
    let rest = and_parts (not (passes_hull path l)) (fits_in_list l.body (path ++ r ∷ [])) short.1 in
    let few : length path < 16 = grind (arith, nat_tests, short.0) in
    let next_is : next ≡ path ++ r ∷ [] = entering (not_true (passes_hull path l) rest.0) few in
    let inner : Standing = standing_in l s in
    let around : inner.around.path ≡ next = ap (λ q. q ++ range_of q l ∷ []) at ∙ sym next_is in
    let body : new ≡ now ++ heads_inside head s = f ((λ i. fits_in_list (b i) (next_is i)) ∙ rest.1) inner 0 around ∙ ap (λ xs. now ++ heads_in_list xs inner 0) b in
    body ∙ ap (λ k. k ++ heads_inside head s) added ∙ append_assoc old (record { loop = head; path = path } ∷ []) (heads_inside head s)
    ∙ ap (λ q. old ++ record { loop = head; path = q } ∷ heads_inside head s) (sym at) ∙ ap (λ k. old ++ k) (sym (heads-For (stmt.For head) head s refl))
  where
    not_true : (t : Bool) → not t ≡ true → t ≡ false
    not_true true e = absurd cc
    not_true false e = refl

-- ---- units

-- the body of a well made unit fits
pub body_fits : (u : Program) → IsWellMade u → fits_in_list u.body [] ≡ true
body_fits u well = go u.body well.limits
  where
    go : (xs : List Stmt) → list_keeps (map made xs) no_loops ≡ true → fits_in_list xs [] ≡ true
    go [] h = refl
    go (x ∷ xs) h =
        let parts = and_parts ((made x).keeps no_loops) (list_keeps (map made xs) no_loops) h in
        and_from (fits_in x []) (fits_in_list xs []) (keeps_fits x no_loops refl parts.0) (go xs parts.1)

-- a loop among those of a unit stands in it
pub stands_there : (u : Program) (placed : List Head) (i : ℕ) (loop : Loop) (ranges : List Range) → placed ≡ heads_of u → slice_get placed i ≡ Some (record { loop = loop; path = ranges }) → StandsIn u loop ranges
stands_there u placed i loop ranges all there =
    let found = among (placed_loops u) i (ap (λ l. slice_get l i) (sym all) ∙ there) in
    record { placed = found.0; there = found.1; loop = ap (λ (h : Head). h.loop) found.2; path = ap (λ (h : Head). h.path) found.2 }
  where
    among : (ls : List PlacedLoop) (n : ℕ) → slice_get (map head_at ls) n ≡ Some (record { loop = loop; path = ranges }) → (l : PlacedLoop) × Contains ls l × (head_at l ≡ record { loop = loop; path = ranges })
    among [] n e = absurd cc
    among (l ∷ ls) zero e = (l, (0, omega arith, refl), cc)
    among (l ∷ ls) (suc n) e = let found = among ls n e in (found.0, (suc found.1.0, omega (arith, found.1.1), found.1.2), found.2)

-- the first of those from one on
pub first_left : (all : List Head) (i : ℕ) (head first : Head) (rest : List Head) → slice_get all i ≡ Some head → drop i all ≡ first ∷ rest → first ≡ head
first_left [] i head first rest e h = absurd cc
first_left (x ∷ all) zero head first rest e h = cc
first_left (x ∷ all) (suc i) head first rest e h = first_left all i head first rest e h

pub none_left : (all : List Head) (i : ℕ) → length all ≤ i → drop i all ≡ []
none_left [] zero h = refl
none_left [] (suc i) h = refl
none_left (x ∷ all) zero h = absurd (omega (arith, h))
none_left (x ∷ all) (suc i) h = none_left all i (omega (arith, h))

pub one_less : (all : List Head) (i : ℕ) → drop (i + 1) all ≡ drop 1 (drop i all)
one_less all i = ap (λ n. drop n all) next ∙ go all i
  where
    next : i + 1 ≡ suc i
    next = omega arith

    go : (xs : List Head) (n : ℕ) → drop (suc n) xs ≡ drop 1 (drop n xs)
    go [] zero = refl
    go [] (suc n) = refl
    go (x ∷ xs) zero = refl
    go (x ∷ xs) (suc n) = go xs n

-- all that is found in the body of a unit
pub all_placed : (u : Program) (p : List Stmt) (path : List Range) (old new : List Head) → IsWellMade u → p ≡ u.body → path ≡ [] → old ≡ [] → Finds p path old new → new ≡ heads_of u
all_placed u p path old new well b outermost empty f =
    f ((λ i. fits_in_list (b i) (outermost i)) ∙ body_fits u well) outside_loops 0 (sym outermost) ∙ (λ i. empty i ++ heads_in_list (b i) outside_loops 0)

-- what is lent at a place
pub item_there : {R : Type 0} (now : R → Head) (xs : List Head) (i : ℕ) (o : Option R) (x : R) → o ≡ Some x → is_some o ≡ nat_lt i (length xs) → IfSome o (λ y. now y ≡ get_or xs i (now y)) → slice_get xs i ≡ Some (now x)
item_there {R} now xs i o x is within there =
    let some : true ≡ nat_lt i (length xs) = subst (λ (z : Option R). is_some z ≡ nat_lt i (length xs)) is within in
    go xs i (now x) (grind (arith, nat_tests, some)) (subst (λ (z : Option R). IfSome z (λ y. now y ≡ get_or xs i (now y))) is there)
  where
    go : (ys : List Head) (n : ℕ) (h : Head) → n < length ys → h ≡ get_or ys n h → slice_get ys n ≡ Some h
    go [] n h b e = absurd (omega (arith, b))
    go (y ∷ ys) zero h b e = ap Some (sym e)
    go (y ∷ ys) (suc n) h b e = go ys n h (omega (arith, b)) e
