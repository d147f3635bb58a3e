-- In a well made unit, wherever a run comes to a loop, the loop's body fits there, and so does the body of its nest.
use Rattle.std.proofs.Common.{◌≡◌, arith, refl, ap, sym, ◌∙◌, subst, ℕ, zero, suc, ◌≤◌, ◌<◌, List, [], ◌∷◌, ◌++◌, map, flat_map, filter, length, Bool, true, false, ◌||◌, ◌&&◌, if◌then◌else◌, nat_eq, Option, None}
use Rattle.std.specs.Prelude.{nat_lt, slice_get, unwrap_or}
use Rattle.std.specs.List.{list_all}
use Rattle.std.proofs.lemmas.Bool.Decides.{nat_tests}
use Rattle.species_ast.specs.declared.tree.Loop.{Loop, out-Loop}
use Rattle.species_ast.specs.declared.tree.LocalInfo.{LocalInfo}
use Rattle.species_ast.specs.declared.tree.Expr.{Expr}
use Rattle.species_ast.specs.declared.tree.Stmt.{Stmt}
use Rattle.species_ast.specs.declared.tree.Stmt.TheOpen.{Loop-F}
use Rattle.species_ast.specs.declared.tree.Stmt.TheVariants as stmt
use Rattle.species_ast.specs.declared.tree.Unit.{Unit as Program}
use Rattle.species_ast.specs.declared.tree.Value.{Value}
use Rattle.species_ast.specs.Accesses.{Joins, Cells}
use Rattle.species_ast.specs.Evaluation.{Frame, Context}
use Rattle.species_ast.specs.Run.{inside, turns, step, first_frame, locals_at, locals_of, locals_in, source_context}
use Rattle.species_ast.specs.Scope.Meanings.{is_among}
use Rattle.species_ast.specs.Scope.WellMade.{Around, list_holds, made, made_at, made_loop, below, is_declared_once, outermost, IsWellMade}
use Rattle.species_ast.proofs.Folds.{fold_stmt-If, fold_stmt-For, fold_stmt-Block, fold_loop-out}
use Rattle.species_ast.proofs.RunLaws.{locals-If, locals-Block}
use Rattle.species_runs.specs.Every.{Anything}
use Rattle.species_runs.specs.Scopes.{HasOnly, AreApart, FitIn}
use Rattle.species_runs.proofs.EveryLaws.{every_ended}
use Rattle.species_runs.proofs.FrameLaws.{AllMay, all_in, leaves_frame}
use Rattle.species_runs.proofs.ScopeLaws.{or_false, both_false, and_true, never_both, out_both, body_keeps_scope, keeps_scope, turns_keep_scope, same_declares}
use Rattle.species_nests.specs.Arrivals.{turn_of, Moment, Reaches, here, in_turn, in_body, in_otherwise, in_block, ReachesIn, first, later, Begins, Running, moment, ComesTo}

-- ---- each local is declared once

abbrev pub Once : List ℕ → Type 0
Once [] = Unit {0}
Once (x ∷ xs) = (is_among xs x ≡ false) × Once xs

once_left : (xs ys : List ℕ) → Once (xs ++ ys) → Once xs
once_left [] ys h = tt
once_left (x ∷ xs) ys h = (among_left xs ys x h.0, once_left xs ys h.1)
  where
    among_left : (xs ys : List ℕ) (y : ℕ) → is_among (xs ++ ys) y ≡ false → is_among xs y ≡ false
    among_left [] ys y h = refl
    among_left (x ∷ xs) ys y h =
        let o = or_false (nat_eq y x) (is_among (xs ++ ys) y) h in
        both_false (nat_eq y x) (is_among xs y) o.0 (among_left xs ys y o.1)

once_right : (xs ys : List ℕ) → Once (xs ++ ys) → Once ys
once_right [] ys h = h
once_right (x ∷ xs) ys h = once_right xs ys h.1

among_right : (xs ys : List ℕ) (y : ℕ) → is_among (xs ++ ys) y ≡ false → is_among ys y ≡ false
among_right [] ys y h = h
among_right (x ∷ xs) ys y h = among_right xs ys y (or_false (nat_eq y x) (is_among (xs ++ ys) y) h).1

once_apart : (xs ys : List ℕ) → Once (xs ++ ys) → AreApart xs ys
once_apart [] ys h y there = absurd cc
once_apart (x ∷ xs) ys h y there = go (λ t. once_apart xs ys h.1 y t) (nat_eq y x) refl there
  where
    go : (is_among xs y ≡ true → is_among ys y ≡ false) → (b : Bool) → nat_eq y x ≡ b → (b || is_among xs y) ≡ true → is_among ys y ≡ false
    go rest true is t = let same : y ≡ x = grind (arith, nat_tests) in subst (λ z. is_among ys z ≡ false) (sym same) (among_right xs ys x h.0)
    go rest false is t = rest t

abbrev count : List ℕ → ℕ → ℕ
count xs y = length (filter (nat_eq y) xs)

count_first : (x y : ℕ) (xs : List ℕ) (b : Bool) → nat_eq y x ≡ b → count (x ∷ xs) y ≡ (if b then suc (count xs y) else count xs y)
count_first x y xs true is = ap (λ b. length (if b then x ∷ filter (nat_eq y) xs else filter (nat_eq y) xs)) is
count_first x y xs false is = ap (λ b. length (if b then x ∷ filter (nat_eq y) xs else filter (nat_eq y) xs)) is

count_grows : (x y : ℕ) (xs : List ℕ) → count xs y ≤ count (x ∷ xs) y
count_grows x y xs = go (nat_eq y x) refl
  where
    go : (b : Bool) → nat_eq y x ≡ b → count xs y ≤ count (x ∷ xs) y
    go true is = omega (arith, count_first x y xs true is)
    go false is = omega (arith, count_first x y xs false is)

among_counts : (xs : List ℕ) (y : ℕ) → is_among xs y ≡ true → 0 < count xs y
among_counts [] y h = absurd cc
among_counts (x ∷ xs) y h = go (λ t. among_counts xs y t) (nat_eq y x) refl h
  where
    go : (is_among xs y ≡ true → 0 < count xs y) → (b : Bool) → nat_eq y x ≡ b → (b || is_among xs y) ≡ true → 0 < count (x ∷ xs) y
    go rest true is t = omega (arith, count_first x y xs true is)
    go rest false is t = omega (arith, count_first x y xs false is, rest t)

same_self : (x : ℕ) → nat_eq x x ≡ true
same_self x = grind (arith, nat_tests)

once_from : (xs : List ℕ) → ((y : ℕ) → count xs y ≤ 1) → Once xs
once_from [] h = tt
once_from (x ∷ xs) h = (go (is_among xs x) refl, once_from xs (λ y. omega (arith, count_grows x y xs, h y)))
  where
    go : (b : Bool) → is_among xs x ≡ b → is_among xs x ≡ false
    go true is = absurd (omega (arith, h x, count_first x x xs true (same_self x), among_counts xs x is))
    go false is = is

at_below : (p : ℕ → Bool) (n y : ℕ) → y < n → list_all p (below n) ≡ true → p y ≡ true
at_below p zero y less h = absurd (omega arith)
at_below p (suc n) y less h = go (λ l t. at_below p n y l t) (nat_eq y n) refl
  where
    go : (y < n → list_all p (below n) ≡ true → p y ≡ true) → (b : Bool) → nat_eq y n ≡ b → p y ≡ true
    go rest true is = let same : y ≡ n = grind (arith, nat_tests) in subst (λ z. p z ≡ true) (sym same) (and_true (p n) (list_all p (below n)) h).0
    go rest false is = let differ : y < n = grind (arith, nat_tests) in rest differ (and_true (p n) (list_all p (below n)) h).1

none_past : (n y : ℕ) (xs : List ℕ) → nat_lt y n ≡ false → list_all (λ x. nat_lt x n) xs ≡ true → count xs y ≡ 0
none_past n y [] past h = refl
none_past n y (x ∷ xs) past h = go (nat_eq y x) refl (and_true (nat_lt x n) (list_all (λ x. nat_lt x n) xs) h) (λ t. none_past n y xs past t)
  where
    go : (b : Bool) → nat_eq y x ≡ b → (nat_lt x n ≡ true) × (list_all (λ x. nat_lt x n) xs ≡ true) → (list_all (λ x. nat_lt x n) xs ≡ true → count xs y ≡ 0) → count (x ∷ xs) y ≡ 0
    go true is both rest =
        let same : y ≡ x = grind (arith, nat_tests) in
        absurd (never_both (nat_lt x n) both.0 (subst (λ z. nat_lt z n ≡ false) same past))
    go false is both rest = count_first x y xs false is ∙ rest both.1

declared_once : (n : ℕ) (declared : List ℕ) → is_declared_once n declared ≡ true → Once declared
declared_once n declared h = once_from declared (λ y. go y (nat_lt y n) refl)
  where
    go : (y : ℕ) (b : Bool) → nat_lt y n ≡ b → count declared y ≤ 1
    go y true less =
        let below_n : y < n = grind (arith, nat_tests) in
        let both = and_true (list_all (λ x. nat_eq (count declared x) 1) (below n)) (list_all (λ x. nat_lt x n) declared) h in
        let one : nat_eq (count declared y) 1 ≡ true = at_below (λ x. nat_eq (count declared x) 1) n y below_n both.0 in
        grind (arith, nat_tests, one)
    go y false past =
        let both = and_true (list_all (λ x. nat_eq (count declared x) 1) (below n)) (list_all (λ x. nat_lt x n) declared) h in
        omega (arith, none_past n y declared past both.1)

-- ---- what fits where a run comes to it

-- a statement, and a list, that fit where they stand; a local that is declared in them is declared once
pub record FitsAt (w : Around) (x : Stmt) (f : Frame) : Type 0 where
  pub holds : (made x).holds w ≡ true
  pub once : Once (locals_of x)
  pub apart : AreApart (locals_of x) w.locals
  pub only : HasOnly w.locals f

pub record FitsInList (w : Around) (xs : List Stmt) (f : Frame) : Type 0 where
  pub holds : list_holds (map made xs) w ≡ true
  pub once : Once (locals_in xs)
  pub apart : AreApart (locals_in xs) w.locals
  pub only : HasOnly w.locals f

pub among_front : (xs ys : List ℕ) (y : ℕ) → is_among xs y ≡ true → is_among (xs ++ ys) y ≡ true
among_front [] ys y h = absurd cc
among_front (x ∷ xs) ys y h = go (λ t. among_front xs ys y t) (nat_eq y x) h
  where
    go : (is_among xs y ≡ true → is_among (xs ++ ys) y ≡ true) → (b : Bool) → (b || is_among xs y) ≡ true → (b || is_among (xs ++ ys) y) ≡ true
    go rest true t = refl
    go rest false t = rest t

among_back : (xs ys : List ℕ) (y : ℕ) → is_among ys y ≡ true → is_among (xs ++ ys) y ≡ true
among_back [] ys y h = h
among_back (x ∷ xs) ys y h = go (nat_eq y x) (among_back xs ys y h)
  where
    go : (b : Bool) → is_among (xs ++ ys) y ≡ true → (b || is_among (xs ++ ys) y) ≡ true
    go true t = refl
    go false t = t

may_of : (may : ℕ → Bool) (xs : List ℕ) → AllMay may xs → (y : ℕ) → is_among xs y ≡ true → may y ≡ true
may_of may [] h y there = absurd cc
may_of may (x ∷ xs) h y there = go (λ t. may_of may xs h.1 y t) (nat_eq y x) refl there
  where
    go : (is_among xs y ≡ true → may y ≡ true) → (b : Bool) → nat_eq y x ≡ b → (b || is_among xs y) ≡ true → may y ≡ true
    go rest true is t = let same : y ≡ x = grind (arith, nat_tests) in subst (λ z. may z ≡ true) (sym same) h.0
    go rest false is t = rest t

-- what a statement declares for those behind it, it declares
declares_own : (c : Context) (x : Stmt) (y : ℕ) → is_among (made x).declares y ≡ true → is_among (locals_of x) y ≡ true
declares_own c x y there =
    let may = is_among (locals_of x) in
    let all = (leaves_frame may c x).declares (all_in may (locals_of x) (λ z t. t)) in
    may_of may (made x).declares (subst (AllMay may) (same_declares c x) all) y there

-- so it stays apart from what is declared behind it
apart_behind : (c : Context) (x : Stmt) (xs : List Stmt) (scope : List ℕ) → Once (locals_of x ++ locals_in xs) → AreApart (locals_of x ++ locals_in xs) scope
    → AreApart (locals_in xs) ((made x).declares ++ scope)
apart_behind c x xs scope once apart y there =
    out_both (made x).declares scope y (go (is_among (made x).declares y) refl) (apart y (among_back (locals_of x) (locals_in xs) y there))
  where
    go : (b : Bool) → is_among (made x).declares y ≡ b → is_among (made x).declares y ≡ false
    go true is = absurd (never_both (is_among (locals_in xs) y) there (once_apart (locals_of x) (locals_in xs) once y (declares_own c x y is)))
    go false is = is

-- ---- the parts of what fits

abbrev loop_locals : Loop-F (List ℕ) (List ℕ) → List ℕ
loop_locals l = flat_map (λ xs. xs) l.body

pub locals_of_loop : (l : Loop) → locals_of (stmt.For l) ≡ locals_in (out-Loop l).body
locals_of_loop l = fold_stmt-For locals_at loop_locals l ∙ fold_loop-out locals_at loop_locals l

abbrev pub deeper : Around → Around
deeper w = record w { level = suc w.level }

body_fits : (w : Around) (l : Loop) (f : Frame) → FitsAt w (stmt.For l) f → FitsInList (deeper w) (out-Loop l).body f
body_fits w l f fit =
    let all = ap (λ m. m.holds w) (sym (fold_stmt-For made_at made_loop l ∙ fold_loop-out made_at made_loop l)) ∙ fit.holds in
    record {
      holds = (and_true _ (list_holds (map made (out-Loop l).body) (deeper w)) all).1;
      once = subst Once (locals_of_loop l) fit.once;
      apart = subst (λ xs. AreApart xs w.locals) (locals_of_loop l) fit.apart;
      only = fit.only;
    }

abbrev Branches : Around → List Stmt → List Stmt → Frame → Type 0
Branches w body otherwise f = FitsInList w body f × FitsInList w otherwise f

branches_fit : (w : Around) (place : ℕ) (test : Expr) (body otherwise : List Stmt) (f : Frame) → FitsAt w (stmt.If place test body otherwise) f → Branches w body otherwise f
branches_fit w place test body otherwise f fit =
    let all = ap (λ m. m.holds w) (sym (fold_stmt-If made_at made_loop place test body otherwise)) ∙ fit.holds in
    let both = and_true (list_holds (map made body) w) (list_holds (map made otherwise) w) (and_true _ (list_holds (map made body) w && list_holds (map made otherwise) w) all).1 in
    let once : Once (locals_in body ++ locals_in otherwise) = subst Once (locals-If place test body otherwise) fit.once in
    let apart : AreApart (locals_in body ++ locals_in otherwise) w.locals = subst (λ xs. AreApart xs w.locals) (locals-If place test body otherwise) fit.apart in (
      record {
        holds = both.0;
        once = once_left (locals_in body) (locals_in otherwise) once;
        apart = λ y there. apart y (among_front (locals_in body) (locals_in otherwise) y there);
        only = fit.only;
      },
      record {
        holds = both.1;
        once = once_right (locals_in body) (locals_in otherwise) once;
        apart = λ y there. apart y (among_back (locals_in body) (locals_in otherwise) y there);
        only = fit.only;
      },
    )

block_fits : (w : Around) (body : List Stmt) (f : Frame) → FitsAt w (stmt.Block body) f → FitsInList w body f
block_fits w body f fit = record {
  holds = ap (λ m. m.holds w) (sym (fold_stmt-Block made_at made_loop body)) ∙ fit.holds;
  once = subst Once (locals-Block body) fit.once;
  apart = subst (λ xs. AreApart xs w.locals) (locals-Block body) fit.apart;
  only = fit.only;
}

abbrev next : Around → Stmt → Around
next w x = record w { locals = (made x).declares ++ w.locals }

first_fits : (w : Around) (x : Stmt) (xs : List Stmt) (f : Frame) → FitsInList w (x ∷ xs) f → FitsAt w x f
first_fits w x xs f fit = record {
  holds = (and_true ((made x).holds w) (list_holds (map made xs) (next w x)) fit.holds).0;
  once = once_left (locals_of x) (locals_in xs) fit.once;
  apart = λ y there. fit.apart y (among_front (locals_of x) (locals_in xs) y there);
  only = fit.only;
}

rest_fits : (c : Context) (w : Around) (x : Stmt) (xs : List Stmt) (f g : Frame) → FitsInList w (x ∷ xs) f → HasOnly ((made x).declares ++ w.locals) g → FitsInList (next w x) xs g
rest_fits c w x xs f g fit only = record {
  holds = (and_true ((made x).holds w) (list_holds (map made xs) (next w x)) fit.holds).1;
  once = once_right (locals_of x) (locals_in xs) fit.once;
  apart = apart_behind c x xs w.locals fit.once fit.apart;
  only = only;
}

-- ---- moments and runnings

-- the statement that begins fits there
abbrev pub MomentFits : Moment → Type 0
MomentFits q = (w : Around) × FitsAt w q.statement q.frame

abbrev pub RunningFits : Running → Type 0
RunningFits r = MomentFits (moment r)

mutual
  reaches_fit : (join : Joins) (c : Context) (q : Moment) (x : Stmt) (around : List Loop) (at : List ℕ) (f : Frame) (m : Cells) → Reaches join c q x around at f m
      → (w : Around) → FitsAt w x f → MomentFits q
  reaches_fit join c q x around at f m here w fit = (w, fit)
  reaches_fit join c q x around at f m (in_turn l _ _ _ g _ begun n before i behind is ended inner) w fit =
      let body = body_fits w l f fit in
      let only = every_ended join Anything (HasOnly w.locals) (turns before (turn_of c l at) f) begun g n
      (turns_keep_scope w.locals before (turn_of c l at) (λ h p. body_keeps_scope c (out-Loop l).body (deeper w) body.holds at 0 h p) f fit.only) ended in
      reaches_in_fit join c q (out-Loop l).body (around ++ l ∷ []) at 0 (inside g i) n inner (deeper w)
      (record { holds = body.holds; once = body.once; apart = body.apart; only = only })
  reaches_fit join c q x around at f m (in_body place test body otherwise _ _ _ _ n v is taken inner) w fit =
      reaches_in_fit join c q body around at 0 f n inner w (branches_fit w place test body otherwise f fit).0
  reaches_fit join c q x around at f m (in_otherwise place test body otherwise _ _ _ _ n v is taken inner) w fit =
      reaches_in_fit join c q otherwise around at (length body) f n inner w (branches_fit w place test body otherwise f fit).1
  reaches_fit join c q x around at f m (in_block body _ _ _ _ inner) w fit = reaches_in_fit join c q body around at 0 f m inner w (block_fits w body f fit)

  reaches_in_fit : (join : Joins) (c : Context) (q : Moment) (xs : List Stmt) (around : List Loop) (at : List ℕ) (k : ℕ) (f : Frame) (m : Cells) → ReachesIn join c q xs around at k f m
      → (w : Around) → FitsInList w xs f → MomentFits q
  reaches_in_fit join c q xs around at k f m (first x rest _ _ _ _ _ inner) w fit = reaches_fit join c q x around (at ++ k ∷ []) f m inner w (first_fits w x rest f fit)
  reaches_in_fit join c q xs around at k f m (later x rest _ _ _ _ g _ n ended inner) w fit =
      let here = first_fits w x rest f fit in
      let only = every_ended join Anything (HasOnly ((made x).declares ++ w.locals)) ((step c x).does (at ++ k ∷ []) f) m g n
      (keeps_scope c x w here.holds (at ++ k ∷ []) f fit.only) ended in
      reaches_in_fit join c q rest around at (suc k) g n inner (next w x) (rest_fits c w x rest f g fit only)

pub no_values : (ls : List LocalInfo) (x : ℕ) → unwrap_or (slice_get (map (λ (l : LocalInfo). let o : Option Value = None in o) ls) x) None ≡ None
no_values [] x = refl
no_values (l ∷ ls) zero = refl
no_values (l ∷ ls) (suc x) = no_values ls x

-- the law
pub moment_fits : (join : Joins) (u : Program) (m : Cells) (q : Moment) → IsWellMade u → Begins join u m q → MomentFits q
moment_fits join u m q well_made begins =
    reaches_in_fit join (source_context u) q u.body [] [] 0 (first_frame u) m begins (outermost u) (record {
      holds = well_made.body;
      once = declared_once (length u.locals) (locals_in u.body) well_made.locals;
      apart = λ y there. refl;
      only = λ x out. no_values u.locals x;
    })

pub running_fits : (join : Joins) (u : Program) (m : Cells) (r : Running) → IsWellMade u → ComesTo join u m r → RunningFits r
running_fits join u m r well_made comes = moment_fits join u m (moment r) well_made comes

-- the body of the loop
pub fit_body : (r : Running) → RunningFits r → FitIn (out-Loop r.loop).body r.frame
fit_body r fits =
    let body = body_fits fits.0 r.loop r.frame fits.1 in
    record { around = deeper fits.0; holds = body.holds; apart = body.apart; only = body.only }
