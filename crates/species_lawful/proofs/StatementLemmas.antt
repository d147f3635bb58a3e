-- What statements become holds where it stands, in the order of the text and at any depth.
use Rattle.std.proofs.Common.{◌≡◌, ◌∙◌, refl, sym, ap, subst, ℕ, zero, suc, ◌+◌, ◌≤◌, Bool, true, false, ◌&&◌, not, List, [], ◌∷◌, ◌++◌, map, length, Option, Some, None, option_map, ℤ, pos, arith, length-append}
use Rattle.std.specs.Prelude.{unwrap_or}
use Rattle.std.specs.List.{list_all}
use Rattle.std.proofs.lemmas.Bool.{and_parts, and_from}
use Rattle.std.proofs.lemmas.List.Folds.{list_all-append}
use Rattle.species_ast.specs.Spelling.{Spelling}
use Rattle.species_ast.specs.Marks.{all_true}
use Rattle.species_ast.specs.declared.tree.Kind.{Kind}
use Rattle.species_ast.specs.declared.tree.Schedule.{Schedule}
use Rattle.species_ast.specs.declared.tree.Test.{Test}
use Rattle.species_ast.specs.declared.tree.Expr.{Expr}
use Rattle.species_ast.specs.declared.tree.Stmt.{Stmt}
use Rattle.species_ast.specs.declared.tree.Stmt.TheOpen.{Loop-F}
use Rattle.species_ast.specs.declared.tree.Loop.{Loop, roll-Loop, out-Loop}
use Rattle.species_ast.specs.declared.raw.RawExpr.{RawExpr}
use Rattle.species_ast.specs.declared.raw.RawLocal.{RawLocal}
use Rattle.species_ast.specs.declared.raw.RawStmt.{RawStmt, roll-RawStmt, ind-RawStmt, fold-roll-RawStmt}
use Rattle.species_ast.specs.declared.raw.RawWhat.{RawWhat, roll-RawWhat, map-RawWhat, fold-RawWhat, fold-roll-RawWhat}
use Rattle.species_ast.specs.declared.raw.RawLoop.{RawLoop, roll-RawLoop, map-RawLoop, fold-RawLoop, fold-roll-RawLoop}
use Rattle.species_ast.specs.declared.raw.RawWhat.TheOpen.{RawWhat-F, RawLoop-F}
use Rattle.species_ast.specs.Run.{locals_in, locals_of}
use Rattle.species_ast.specs.Scope.Limits.{goes}
use Rattle.species_ast.specs.Scope.Meanings.{Scope, in_loop, behind, count_before, Occurrence, occurrence, InHeader}
use Rattle.species_ast.specs.Scope.Expressions.{ExprReading, reading}
use Rattle.species_ast.specs.Scope.Statements.{LoopSite, Fragment, Walk, PlacedWalk, fragment, in_order, declarator, increased, mark_of, line_of, step_reading, iterator_role, if_fragment, block_fragment, loop_fragment, what_at, loop_at, stmt_at, stmt_fragment}
use Rattle.species_ast.specs.Scope.Conditions.{is_static, is_good_step}
use Rattle.species_ast.specs.Scope.Written as written
use Rattle.species_ast.specs.Scope.Written.{has_depths, depths_at}
use Rattle.species_ast.specs.Scope.WellMade.{Around, Made, made, made_at, made_loop, list_holds, has_depth, is_made}
use Rattle.species_ast.proofs.Folds.{fold_stmt-If, fold_stmt-For, fold_stmt-Block, fold_loop}
use Rattle.species_ast.proofs.RunLaws.{locals-If, locals-For, locals-Block}
use Rattle.species_lawful.proofs.FitLemmas.{is_good, are_good, Fits, fits_loop}
use Rattle.species_lawful.proofs.ReadLemmas.{both_good, expr_made, start_made, limit_made}
use Rattle.species_lawful.proofs.MadeLemmas.{behind_all, from, from_more, MadeOf, Makes, AllMake, in_order_makes}
use Rattle.species_lawful.proofs.ChangeLemmas.{increases, by_makes, change_makes, declarator_makes}

-- nothing is refused of the bounds and the step of a loop
abbrev pub has_form : LoopSite → Bool
has_form x =
    is_static x.level (out-Loop x.loop).start && (is_static x.level (out-Loop x.loop).limit && is_good_step (out-Loop x.loop).test x.step)

abbrev pub Holds : Walk → Type 0
Holds = Makes has_form

-- behind a scope that ends
fits_behind : (its : List ℕ) (s t : Scope) (w : Around) → Fits its s w → Fits its (behind s t) w
fits_behind its s t w h = record { names = h.names; level = h.level; iterators = h.iterators }

-- what is behind one statement that declares nothing for those behind it
closed : (its : List ℕ) (s : Scope) (w : Around) (x : Stmt) (m : Made) → made x ≡ m → m.declares ≡ [] → Fits its s w → Fits its s (behind_all (x ∷ []) w)
closed its s w x m p d h = subst (Fits its s) (sym (λ i. record w { locals = (ap (λ k. k.declares) p ∙ d) i ++ w.locals })) h

-- ---- blocks

no_more : (ls : List ℕ) → ls ++ [] ≡ ls
no_more [] = refl
no_more (l ∷ ls) = ap (λ r. l ∷ r) (no_more ls)

one_list : (x : Stmt) (ls : List ℕ) → locals_of x ≡ ls → locals_in (x ∷ []) ≡ ls
one_list x ls h = ap (λ r. r ++ []) h ∙ no_more ls

block_holds : (ps : List Walk) → Holds (in_order ps) → Holds (block_fragment ps)
block_holds ps more its s w h good sites =
    let inner = in_order ps s in
    let a = more its s w h good sites in
    let m = fold_stmt-Block made_at made_loop inner.statements in
    record {
      statements = and_from _ _ (ap (λ k. k.holds w) m ∙ a.statements) refl;
      body = a.statements;
      next = closed its (behind s inner.next) w _ _ m refl (fits_behind its s inner.next w h);
      numbers = one_list _ _ (locals-Block inner.statements) ∙ a.numbers;
      body_numbers = a.numbers;
      count = a.count;
      few = a.few;
    }

-- ---- branches

add_few : (names a b c d : ℕ) → a ≤ c → b ≤ d → a + b ≤ names + (c + d)
add_few names a b c d h k = omega (arith, h, k)

count_two : (a b c n m : ℕ) → b ≡ a + n → c ≡ b + m → c ≡ a + (n + m)
count_two a b c n m h k = omega (arith, h, k)

if_holds : (p : ℕ) (test : RawExpr) (body otherwise : Walk) → Holds body → Holds otherwise → Holds (if_fragment p (reading test) body (Some otherwise))
if_holds p test body otherwise hb ho its s w h good sites =
    let condition = reading test s in
    let first = body s in
    let s2 = behind s first.next in
    let second = otherwise s2 in
    let g = both_good its condition.names (first.notes.names ++ second.notes.names) good in
    let g2 = both_good its first.notes.names second.notes.names g.1 in
    let l = and_parts _ _ (sym (list_all-append has_form first.notes.loops second.notes.loops) ∙ sites) in
    let a = hb its s w h g2.0 l.0 in
    let h2 = fits_behind its s first.next w h in
    let b = ho its s2 w h2 g2.1 l.1 in
    let m = fold_stmt-If made_at made_loop p condition.expr first.body second.body in
    let n = count_before its s.serials in
    let long = length-append first.notes.locals second.notes.locals in
    let holds : list_holds (map made ((if_fragment p (reading test) body (Some otherwise) s).statements)) w ≡ true =
    and_from _ _ (ap (λ k. k.holds w) m ∙ and_from _ _ (expr_made test its s w h g.0) (and_from _ _ a.body b.body)) refl in
    let numbers : locals_in ((if_fragment p (reading test) body (Some otherwise) s).statements) ≡ from n (length (first.notes.locals ++ second.notes.locals)) =
    one_list _ _ (locals-If p condition.expr first.body second.body)
    ∙ (λ i. a.body_numbers i ++ (b.body_numbers ∙ ap (λ z. from z (length second.notes.locals)) a.count) i)
    ∙ sym (from_more n (length first.notes.locals) (length second.notes.locals)) ∙ ap (from n) (sym long) in
    record {
      statements = holds;
      body = holds;
      next = closed its (behind s2 second.next) w _ _ m refl (fits_behind its s2 second.next w h2);
      numbers = numbers;
      body_numbers = numbers;
      count = count_two n (count_before its first.next.serials) (count_before its second.next.serials) (length first.notes.locals) (length second.notes.locals) a.count b.count ∙ ap (λ z. n + z) (sym long);
      few = few first.notes.locals second.notes.locals condition.names first.notes.names second.notes.names long a.few b.few;
    }
  where
    few : {X : Type 0} (xs ys : List X) (c f g : List Occurrence) → length (xs ++ ys) ≡ length xs + length ys → length xs ≤ length f → length ys ≤ length g → length (xs ++ ys) ≤ length (c ++ (f ++ g))
    few xs ys c f g long h k =
        subst (λ z. z ≤ length (c ++ (f ++ g))) (sym long)
        (subst (λ z. length xs + length ys ≤ z) (sym (length-append c (f ++ g) ∙ ap (λ z. length c + z) (length-append f g))) (add_few (length c) (length xs) (length ys) (length f) (length g) h k))

abbrev nothing : Walk
nothing s = fragment [] (record { locals = []; names = []; loops = [] }) s

nothing_holds : Holds nothing
nothing_holds = in_order_makes has_form [] tt

-- without `else`: as with an empty one
alone_holds : (p : ℕ) (test : RawExpr) (body : Walk) → Holds body → Holds (if_fragment p (reading test) body None)
alone_holds p test body hb its s w h good sites =
    let a = if_holds p test body nothing hb nothing_holds its s w h good sites in
    record { statements = a.statements; body = a.body; next = a.next; numbers = a.numbers; body_numbers = a.body_numbers; count = a.count; few = a.few }

-- ---- loops

depth_of : (o : Option (ℕ × Schedule)) → written.has_depth o ≡ true → has_depth (mark_of o) ≡ true
depth_of (Some m) h = h
depth_of None h = refl

step_goes : (t : Test) (n : Option ℤ) → is_good_step t n ≡ true → goes t (unwrap_or n (pos 0)) ≡ true
step_goes t (Some n) h = h
step_goes t None h = absurd cc

later_few : (names a b : ℕ) → a ≤ b → a ≤ names + b
later_few names a b h = omega (arith, h)

loop_holds : (l : RawLoop-F PlacedWalk PlacedWalk Walk) → written.has_depth l.parallel ≡ true → Holds l.body → (p : ℕ) → Holds (loop_at l p)
loop_holds l deep hb p its s w h good sites =
    let u = in_loop l.iter s in
    let v = record w { level = suc w.level } in
    let start = reading l.start s in
    let limit = reading l.limit u in
    let by = step_reading l.step u in
    let body = l.body u in
    let iter = occurrence (iterator_role l.typed) s l.iter in
    let header = map (occurrence InHeader u) (l.tested ∷ by.variables) ++ by.names in
    let names = iter ∷ (start.names ++ (limit.names ++ header)) in
    let g = both_good its names body.notes.names good in
    let g1 = both_good its start.names (limit.names ++ header) (and_parts (is_good its iter) _ g.0).1 in
    let g2 = both_good its limit.names header g1.1 in
    let site = and_parts _ _ sites in
    let forms = and_parts _ _ site.0 in
    let later = and_parts _ _ forms.1 in
    let fit = fits_loop its l.iter s w h in
    let a = hb its u v fit g.1 site.1 in
    let layer : Loop-F Stmt Loop = record {
      place = p;
      iter = l.iter.text;
      start = start.expr;
      test = l.test;
      limit = limit.expr;
      step = unwrap_or by.number (pos 0);
      body = body.body;
      line = option_map line_of l.line;
      mark = mark_of l.parallel;
    } in
    let m = fold_stmt-For made_at made_loop (roll-Loop layer) ∙ fold_loop made_at made_loop layer in
    let holds : list_holds (map made ((loop_at l p s).statements)) w ≡ true =
    and_from _ _ (ap (λ k. k.holds w) m ∙ and_from _ _
    (and_from _ _ (start_made w s.level start.expr h.level forms.0 (expr_made l.start its s w h g1.0))
    (and_from _ _ (limit_made w s.level limit.expr h.level later.0 (expr_made l.limit its u v fit g2.0))
    (and_from _ _ (step_goes l.test by.number later.1) (depth_of l.parallel deep))))
    a.body) refl in
    let numbers : locals_in ((loop_at l p s).statements) ≡ from (count_before its s.serials) (length body.notes.locals) =
    one_list _ _ (locals-For layer) ∙ a.body_numbers in
    record {
      statements = holds;
      body = holds;
      next = closed its (behind s body.next) w _ _ m refl (fits_behind its s body.next w h);
      numbers = numbers;
      body_numbers = numbers;
      count = a.count;
      few = subst (λ z. length body.notes.locals ≤ z) (sym (length-append names body.notes.names)) (later_few (length names) (length body.notes.locals) (length body.notes.names) a.few);
    }

-- ---- statements

abbrev what_walk : RawWhat → PlacedWalk
what_walk = fold-RawWhat PlacedWalk PlacedWalk Walk what_at loop_at stmt_at

abbrev loop_walk : RawLoop → PlacedWalk
loop_walk = fold-RawLoop PlacedWalk PlacedWalk Walk what_at loop_at stmt_at

abbrev what_deep : RawWhat → Bool
what_deep = fold-RawWhat Bool Bool Bool depths_at (λ l. written.has_depth l.parallel && l.body) (λ s. s.what)

abbrev loop_deep : RawLoop → Bool
loop_deep = fold-RawLoop Bool Bool Bool depths_at (λ l. written.has_depth l.parallel && l.body) (λ s. s.what)

abbrev WhatHolds : RawWhat → Type 0
WhatHolds x = what_deep x ≡ true → (p : ℕ) → Holds (what_walk x p)

abbrev LoopHolds : RawLoop → Type 0
LoopHolds x = loop_deep x ≡ true → (p : ℕ) → Holds (loop_walk x p)

abbrev StmtHolds : RawStmt → Type 0
StmtHolds x = has_depths x ≡ true → Holds (stmt_fragment x)

abbrev KnownWhat : Type 0
KnownWhat = (x : RawWhat) × WhatHolds x

abbrev KnownLoop : Type 0
KnownLoop = (x : RawLoop) × LoopHolds x

abbrev KnownStmt : Type 0
KnownStmt = (x : RawStmt) × StmtHolds x

all_hold : (ks : List KnownStmt) → all_true (map has_depths (map (λ k. k.0) ks)) ≡ true → AllMake has_form (map stmt_fragment (map (λ k. k.0) ks))
all_hold [] deep = tt
all_hold (k ∷ ks) deep = let d = and_parts (has_depths k.0) _ deep in (k.1 d.0, all_hold ks d.1)

declarators_hold : (k : Kind) (ls : List RawLocal) → AllMake has_form (map (declarator k) ls)
declarators_hold k [] = tt
declarators_hold k (l ∷ ls) = (declarator_makes has_form k l, declarators_hold k ls)

layer : (y : RawWhat-F KnownWhat KnownLoop KnownStmt)
    → depths_at (map-RawWhat RawWhat RawLoop RawStmt Bool Bool Bool what_deep loop_deep has_depths (map-RawWhat KnownWhat KnownLoop KnownStmt RawWhat RawLoop RawStmt (λ k. k.0) (λ k. k.0) (λ k. k.0) y)) ≡ true
    → (p : ℕ) → Holds (what_at (map-RawWhat RawWhat RawLoop RawStmt PlacedWalk PlacedWalk Walk what_walk loop_walk stmt_fragment
    (map-RawWhat KnownWhat KnownLoop KnownStmt RawWhat RawLoop RawStmt (λ k. k.0) (λ k. k.0) (λ k. k.0) y)) p)
layer (RawWhat-F.Declare k locals) deep p = in_order_makes has_form (map (declarator k) locals) (declarators_hold k locals)
layer (RawWhat-F.Block ks) deep p =
    block_holds (map stmt_fragment (map (λ k. k.0) ks)) (in_order_makes has_form (map stmt_fragment (map (λ k. k.0) ks)) (all_hold ks deep))
layer RawWhat-F.Empty deep p = nothing_holds
layer (RawWhat-F.If test body None) deep p = alone_holds p test (stmt_fragment body.0) (body.1 (and_parts (has_depths body.0) _ deep).0)
layer (RawWhat-F.If test body (Some otherwise)) deep p =
    let d = and_parts (has_depths body.0) _ deep in
    if_holds p test (stmt_fragment body.0) (stmt_fragment otherwise.0) (body.1 d.0) (otherwise.1 d.1)
layer (RawWhat-F.Loop l) deep p = l.1 deep p
layer (RawWhat-F.Change c) deep p = change_makes has_form p c
layer (RawWhat-F.Atomic e v) deep p = by_makes has_form (λ s. increased s p true) (increases p true) e v

loop_layer : (y : RawLoop-F KnownWhat KnownLoop KnownStmt) → (written.has_depth y.parallel && has_depths y.body.0) ≡ true
    → (p : ℕ) → Holds (loop_at (map-RawLoop RawWhat RawLoop RawStmt PlacedWalk PlacedWalk Walk what_walk loop_walk stmt_fragment
    (map-RawLoop KnownWhat KnownLoop KnownStmt RawWhat RawLoop RawStmt (λ k. k.0) (λ k. k.0) (λ k. k.0) y)) p)
loop_layer y deep p =
    let d = and_parts (written.has_depth y.parallel) _ deep in
    loop_holds (map-RawLoop RawWhat RawLoop RawStmt PlacedWalk PlacedWalk Walk what_walk loop_walk stmt_fragment
    (map-RawLoop KnownWhat KnownLoop KnownStmt RawWhat RawLoop RawStmt (λ k. k.0) (λ k. k.0) (λ k. k.0) y)) d.0 (y.body.1 d.1) p

walk_holds : (v w : Walk) → v ≡ w → Holds w → Holds v
walk_holds v w h k = subst Holds (sym h) k

pub stmt_holds : (r : RawStmt) → StmtHolds r
stmt_holds = ind-RawStmt WhatHolds LoopHolds StmtHolds
    (λ x y h. subst (λ z. WhatHolds (roll-RawWhat z)) h
    (λ deep p. walk_holds _ _ (ap (λ (w : PlacedWalk). w p) (fold-roll-RawWhat PlacedWalk PlacedWalk Walk what_at loop_at stmt_at _))
    (layer y (sym (fold-roll-RawWhat Bool Bool Bool depths_at (λ l. written.has_depth l.parallel && l.body) (λ s. s.what) _) ∙ deep) p)))
    (λ x y h. subst (λ z. LoopHolds (roll-RawLoop z)) h
    (λ deep p. walk_holds _ _ (ap (λ (w : PlacedWalk). w p) (fold-roll-RawLoop PlacedWalk PlacedWalk Walk what_at loop_at stmt_at _))
    (loop_layer y (sym (fold-roll-RawLoop Bool Bool Bool depths_at (λ l. written.has_depth l.parallel && l.body) (λ s. s.what) _) ∙ deep) p)))
    (λ x y h. subst (λ z. StmtHolds (roll-RawStmt z)) h
    (λ deep. walk_holds _ _ (fold-roll-RawStmt PlacedWalk PlacedWalk Walk what_at loop_at stmt_at _)
    (y.what.1 (sym (fold-roll-RawStmt Bool Bool Bool depths_at (λ l. written.has_depth l.parallel && l.body) (λ s. s.what) _) ∙ deep) y.place)))

all_stmts : (ss : List RawStmt) → list_all has_depths ss ≡ true → AllMake has_form (map stmt_fragment ss)
all_stmts [] deep = tt
all_stmts (s ∷ ss) deep = let d = and_parts (has_depths s) _ deep in (stmt_holds s d.0, all_stmts ss d.1)

pub stmts_hold : (ss : List RawStmt) → list_all has_depths ss ≡ true → Holds (in_order (map stmt_fragment ss))
stmts_hold ss deep = in_order_makes has_form (map stmt_fragment ss) (all_stmts ss deep)
