-- Iterators that bounds name, and bands of loops.
use Rattle.std.proofs.Common.{◌≡◌, ◌∙◌, refl, sym, ap, arith, ℕ, zero, suc, ◌+◌, ◌<◌, ◌≤◌, List, [], ◌∷◌, ◌++◌, map, take, length, get_or, Bool, true, false, ◌&&◌, ◌||◌, not, nat_le, nat_lt, nat_eq, ◌-◌, min, append-nil}
use Rattle.std.specs.List.{flat_map, list_any}
use Rattle.std.proofs.lemmas.Bool.{and_parts}
use Rattle.std.proofs.lemmas.Bool.Decides.{nat_tests}
use Rattle.std.proofs.lemmas.List.{map-append, take_more}
use Rattle.std.proofs.lemmas.Grind.{flat_map-append}
use Rattle.std.proofs.Math.Nat.{min-eq_left, min-eq_right}
use Rattle.species_ast.specs.declared.tree.Expr.{Expr}
use Rattle.species_ast.specs.declared.tree.Loop.{Loop, out-Loop}
use Rattle.species_ast.specs.declared.tree.Stmt.{Stmt}
use Rattle.species_ast.specs.declared.tree.Stmt.TheVariants as stmt
use Rattle.species_ast.specs.Scope.Forms.{iterators_in}
use Rattle.species_ast.specs.Scope.Nests.{Bounds, named_in, front_of, front_with, front_step, front_layer, only_loops}
use Rattle.species_ast.proofs.Folds.{fold_loop-out, fold_stmt-For, fold_stmt-Block}
use Rattle.species_loops.specs.Bands.{front_in, iterators_of_all, is_of_band, names_band, keeps_out, is_band, IsLongestBand}

or_assoc : (a b c : Bool) → (a || (b || c)) ≡ ((a || b) || c)
or_assoc true b c = refl
or_assoc false b c = refl

pub any_both : (p : ℕ → Bool) (xs ys : List ℕ) → list_any p (xs ++ ys) ≡ (list_any p xs || list_any p ys)
any_both p [] ys = refl
any_both p (x ∷ xs) ys = ap (λ b. p x || b) (any_both p xs ys) ∙ or_assoc (p x) (list_any p xs) (list_any p ys)

-- ---- names in expressions

one_more : (es : List Expr) (i : ℕ) (e : Expr) → e ≡ get_or es i e → i < length es → iterators_of_all (take (i + 1) es) ≡ iterators_of_all (take i es) ++ iterators_in e
one_more es i e at within =
    ap iterators_of_all (take_more es i e within ∙ ap (λ y. take i es ++ y ∷ []) (sym at))
    ∙ ap (flat_map (λ is. is)) (map-append iterators_in (take i es) (e ∷ []))
    ∙ flat_map-append (λ is. is) (map iterators_in (take i es)) (iterators_in e ∷ [])
    ∙ ap (λ l. iterators_of_all (take i es) ++ l) (append-nil (iterators_in e))

pub named_next : (first size : ℕ) (es : List Expr) (i : ℕ) (e : Expr) (found here next : Bool) → found ≡ names_band first size (iterators_of_all (take i es)) →
    e ≡ get_or es i e → i < length es → here ≡ names_band first size (iterators_in e) → next ≡ (found || here) →
    next ≡ names_band first size (iterators_of_all (take (i + 1) es))
named_next first size es i e found here next h at within there more =
    more ∙ (λ j. h j || there j) ∙ sym (any_both (is_of_band first size) (iterators_of_all (take i es)) (iterators_in e))
    ∙ ap (names_band first size) (sym (one_more es i e at within))

pub two_parts : (first size : ℕ) (xs ys : List ℕ) (a b r : Bool) → a ≡ names_band first size xs → b ≡ names_band first size ys → r ≡ (a || b) → r ≡ names_band first size (xs ++ ys)
two_parts first size xs ys a b r h k e = e ∙ (λ i. h i || k i) ∙ sym (any_both (is_of_band first size) xs ys)

-- ---- fronts

-- a loop and those in it
pub front_more : (first size n : ℕ) (b : Bounds) (front : List Bounds) (start limit bounds inner : Bool) →
    start ≡ names_band first size (iterators_in b.start) → limit ≡ names_band first size (iterators_in b.limit) → bounds ≡ (start || limit) →
    inner ≡ keeps_out first size n front → (inner && not bounds) ≡ keeps_out first size (suc n) (b ∷ front)
front_more first size n b front start limit bounds inner hs hl hb hi =
    let p = is_of_band first size in
    let own : bounds ≡ list_any p (iterators_in b.start ++ iterators_in b.limit) = hb ∙ (λ i. hs i || hl i) ∙ sym (any_both p (iterators_in b.start) (iterators_in b.limit)) in
    let longer : nat_le (suc n) (suc (length front)) ≡ nat_le n (length front) = grind (arith, nat_tests) in
    (λ i. hi i && not (own i))
    ∙ go (nat_le n (length front)) (list_any p (iterators_in b.start ++ iterators_in b.limit)) (list_any p (named_in (take n front)))
    ∙ (λ i. sym longer i && not (sym (any_both p (iterators_in b.start ++ iterators_in b.limit) (named_in (take n front))) i))
  where
    go : (l x y : Bool) → ((l && not y) && not x) ≡ (l && not (x || y))
    go true true true = refl
    go true true false = refl
    go true false y = go_y y
      where
        go_y : (y : Bool) → (not y && not false) ≡ not y
        go_y true = refl
        go_y false = refl
    go false x y = refl

pub no_front : (first size n : ℕ) → keeps_out first size n [] ≡ nat_le n 0
no_front first size n = go (nat_le n 0) (take_none n)
  where
    take_none : (n : ℕ) → names_band first size (named_in (take n [])) ≡ false
    take_none zero = refl
    take_none (suc n) = refl

    go : (b : Bool) → names_band first size (named_in (take n [])) ≡ false → (b && not (names_band first size (named_in (take n [])))) ≡ b
    go true e = ap not e
    go false e = refl

pub none_first : (first size : ℕ) (front : List Bounds) → keeps_out first size 0 front ≡ true
none_first first size front = let least : nat_le 0 (length front) ≡ true = grind (arith, nat_tests) in rw least refl

-- ---- bands

any_less : (p q : ℕ → Bool) (xs : List ℕ) → ((i : ℕ) → q i ≡ true → p i ≡ true) → list_any q xs ≡ true → list_any p xs ≡ true
any_less p q [] h e = e
any_less p q (x ∷ xs) h e = go (q x) refl e (any_less p q xs h)
  where
    or_right : (a b : Bool) → b ≡ true → (a || b) ≡ true
    or_right true b h = refl
    or_right false b h = h

    go : (b : Bool) → q x ≡ b → (b || list_any q xs) ≡ true → (list_any q xs ≡ true → list_any p xs ≡ true) → (p x || list_any p xs) ≡ true
    go true at e rest = ap (λ b. b || list_any p xs) (h x at)
    go false at e rest = or_right (p x) (list_any p xs) (rest e)

any_front : (p : ℕ → Bool) (k n : ℕ) (front : List Bounds) → k ≤ n → list_any p (named_in (take k front)) ≡ true → list_any p (named_in (take n front)) ≡ true
any_front p zero n front h e = absurd (cc e)
any_front p (suc k) zero front h e = absurd (omega (arith, h))
any_front p (suc k) (suc n) [] h e = e
any_front p (suc k) (suc n) (b ∷ front) h e =
    let own = iterators_in b.start ++ iterators_in b.limit in
    any_both p own (named_in (take n front)) ∙ go (list_any p own) (sym (any_both p own (named_in (take k front))) ∙ e) (any_front p k n front (omega (arith, h)))
  where
    go : (a : Bool) → (a || list_any p (named_in (take k front))) ≡ true → (list_any p (named_in (take k front)) ≡ true → list_any p (named_in (take n front)) ≡ true) →
        (a || list_any p (named_in (take n front))) ≡ true
    go true e rest = refl
    go false e rest = rest e

-- a part of a band is one
pub shorter : (level k n : ℕ) (front : List Bounds) → k ≤ n → is_band level front n ≡ true → is_band level front k ≡ true
shorter level k n front h e =
    let parts = and_parts (nat_le n (length front)) (not (names_band level n (named_in (take n front)))) e in
    let there : nat_le k (length front) ≡ true = grind (arith, nat_tests, parts.0) in
    ap (λ b. b && not (names_band level k (named_in (take k front)))) there ∙ go (names_band level k (named_in (take k front))) refl parts.1
  where
    go : (b : Bool) → names_band level k (named_in (take k front)) ≡ b → not (names_band level n (named_in (take n front))) ≡ true → not b ≡ true
    go false at e = refl
    go true at e =
        let wider : (i : ℕ) → is_of_band level k i ≡ true → is_of_band level n i ≡ true = λ i t. grind (arith, nat_tests) in
        let more : names_band level n (named_in (take n front)) ≡ true =
        any_front (is_of_band level n) k n front h (any_less (is_of_band level n) (is_of_band level k) (named_in (take k front)) wider at) in
        sym (ap not more) ∙ e

pub there : (level n : ℕ) (front : List Bounds) → is_band level front n ≡ true → n ≤ length front
there level n front h =
    let parts = and_parts (nat_le n (length front)) (not (names_band level n (named_in (take n front)))) h in grind (arith, nat_tests, parts.0)

pub longest : (level n : ℕ) (front : List Bounds) → is_band level front n ≡ true → is_band level front (n + 1) ≡ false → IsLongestBand level front n
longest level n front h e = record {
  is_one = h;
  longest = λ m t. by_le m t;
}
  where
    by_le : (m : ℕ) → is_band level front m ≡ true → m ≤ n
    by_le m t = go (nat_le m n) refl
      where
        go : (b : Bool) → nat_le m n ≡ b → m ≤ n
        go true at = grind (arith, nat_tests, at)
        go false at =
            let past : n + 1 ≤ m = grind (arith, nat_tests, at) in
            let wrong : true ≡ false = sym (shorter level (n + 1) m front past t) ∙ e in
            absurd cc

-- above a band there is a longest one
pub some_longest : (level n : ℕ) (front : List Bounds) → is_band level front n ≡ true → (m : ℕ) × IsLongestBand level front m × (n ≤ m)
some_longest level n front h = go (length front - n) n (omega (arith, there level n front h)) h
  where
    go : (fuel k : ℕ) → length front ≡ k + fuel → is_band level front k ≡ true → (m : ℕ) × IsLongestBand level front m × (k ≤ m)
    go zero k full b = (k, longest level k front b (past (is_band level front (k + 1)) refl), omega arith)
      where
        past : (more : Bool) → is_band level front (k + 1) ≡ more → more ≡ false
        past false at = refl
        past true at = absurd (omega (arith, full, there level (k + 1) front at))
    go (suc fuel) k full b = more (is_band level front (k + 1)) refl (λ at. go fuel (k + 1) (omega (arith, full)) at)
      where
        more : (next : Bool) → is_band level front (k + 1) ≡ next → (is_band level front (k + 1) ≡ true → (m : ℕ) × IsLongestBand level front m × (k + 1 ≤ m))
            → (m : ℕ) × IsLongestBand level front m × (k ≤ m)
        more false at up = (k, longest level k front b at, omega arith)
        more true at up = let found = up at in (found.0, found.1, omega (arith, found.2))

-- the count of loops stopped at a longest band, or at the greatest number that is counted
pub as_many : (level n : ℕ) (front : List Bounds) → is_band level front n ≡ true → (nat_lt n 4294967295 && is_band level front (n + 1)) ≡ false → n ≤ 4294967295
    → (m : ℕ) × IsLongestBand level front m × (n ≡ min m 4294967295)
as_many level n front h stop small = go (nat_lt n 4294967295) refl stop
  where
    go : (below : Bool) → nat_lt n 4294967295 ≡ below → (below && is_band level front (n + 1)) ≡ false → (m : ℕ) × IsLongestBand level front m × (n ≡ min m 4294967295)
    go true at past = (n, longest level n front h past, sym (min-eq_left small))
    go false at past =
        let full : n ≡ 4294967295 = grind (arith, nat_tests, at, small) in
        let up = some_longest level n front h in
        (up.0, up.1, full ∙ sym (min-eq_right (omega (arith, up.2, full))))

-- a count that goes on is one of loops that are there
pub goes_on : (level n : ℕ) (front : List Bounds) → (nat_lt n 4294967295 && is_band level front (n + 1)) ≡ true → (n < 4294967295) × (is_band level front (n + 1) ≡ true)
goes_on level n front h =
    let parts = and_parts (nat_lt n 4294967295) (is_band level front (n + 1)) h in
    (grind (arith, nat_tests, parts.0), parts.1)

-- ---- fronts of loops and statements

front_is : (head : Loop) → front_of head ≡ front_with (out-Loop head).start (out-Loop head).limit (map front_in (out-Loop head).body)
front_is head = fold_loop-out front_step front_layer head

pub loop_front : (head : Loop) (first size count : ℕ) (start limit bounds inner : Bool) → (count ≡ 0 → ⊥) →
    start ≡ names_band first size (iterators_in (out-Loop head).start) → limit ≡ names_band first size (iterators_in (out-Loop head).limit) → bounds ≡ (start || limit) →
    inner ≡ keeps_out first size (count - 1) (only_loops (map front_in (out-Loop head).body)) → (inner && not bounds) ≡ keeps_out first size count (front_of head)
loop_front head first size zero start limit bounds inner some hs hl hb hi = absurd (some refl)
loop_front head first size (suc n) start limit bounds inner some hs hl hb hi =
    let back : suc n - 1 ≡ n = omega arith in
    front_more first size n (record { start = (out-Loop head).start; limit = (out-Loop head).limit }) (only_loops (map front_in (out-Loop head).body)) start limit bounds inner hs hl hb
    (hi ∙ ap (λ m. keeps_out first size m (only_loops (map front_in (out-Loop head).body))) back)
    ∙ ap (keeps_out first size (suc n)) (sym (front_is head))

pub for_front : (l : Loop) → front_in (stmt.For l) ≡ front_of l
for_front l = fold_stmt-For front_step front_layer l

pub block_front : (body : List Stmt) → front_in (stmt.Block body) ≡ only_loops (map front_in body)
block_front body = fold_stmt-Block front_step front_layer body

pub none_there : (first size n : ℕ) (front : List Bounds) → front ≡ [] → nat_eq n 0 ≡ keeps_out first size n front
none_there first size n front h =
    let same : nat_eq n 0 ≡ nat_le n 0 = grind (arith, nat_tests) in
    same ∙ sym (no_front first size n) ∙ ap (keeps_out first size n) (sym h)
