-- The iterators of loops, one in the other, have different names in the unit of a lawful program.
use Rattle.std.proofs.Common.{◌≡◌, ◌∙◌, refl, sym, ap, subst, ℕ, List, [], ◌∷◌, ◌++◌, map, Option, Some, None, Bool, true, false, ◌&&◌, ◌||◌, not, if◌then◌else◌}
use Rattle.std.specs.Prelude.{bytes_eq, is_some, option_map, unwrap_or, pos}
use Rattle.std.specs.List.{list_all, list_any}
use Rattle.std.proofs.lemmas.Bool.{and_parts, and_from}
use Rattle.std.proofs.lemmas.List.Folds.{list_all-append}
use Rattle.std.proofs.lemmas.Slice.Eq.{bytes_eq-Decides}
use Rattle.species_ast.specs.Spelling.{Spelling}
use Rattle.species_ast.specs.declared.tree.Binary.{Binary}
use Rattle.species_ast.specs.declared.tree.Binary.TheVariants as binary
use Rattle.species_ast.specs.declared.tree.Expr.{Expr}
use Rattle.species_ast.specs.declared.tree.Kind.{Kind}
use Rattle.species_ast.specs.declared.tree.Loop.{Loop, roll-Loop}
use Rattle.species_ast.specs.declared.tree.Stmt.{Stmt, fold-Stmt}
use Rattle.species_ast.specs.declared.tree.Stmt.TheOpen.{Stmt-F, Loop-F}
use Rattle.species_ast.specs.declared.tree.Stmt.TheVariants as stmt
use Rattle.species_ast.specs.declared.raw.RawChange.{RawChange}
use Rattle.species_ast.specs.declared.raw.RawChange.TheVariants as change
use Rattle.species_ast.specs.declared.raw.RawExpr.{RawExpr}
use Rattle.species_ast.specs.declared.raw.RawLocal.{RawLocal}
use Rattle.species_ast.specs.declared.raw.RawOp.{RawOp}
use Rattle.species_ast.specs.declared.raw.RawOp.TheVariants as op
use Rattle.species_ast.specs.declared.raw.RawStmt.{RawStmt, roll-RawStmt, ind-RawStmt, fold-roll-RawStmt}
use Rattle.species_ast.specs.declared.raw.RawTarget.{RawTarget}
use Rattle.species_ast.specs.declared.raw.RawWhat.{RawWhat, roll-RawWhat, map-RawWhat, fold-RawWhat, fold-roll-RawWhat}
use Rattle.species_ast.specs.declared.raw.RawLoop.{RawLoop, roll-RawLoop, map-RawLoop, fold-RawLoop, fold-roll-RawLoop}
use Rattle.species_ast.specs.declared.raw.RawWhat.TheOpen.{RawWhat-F, RawLoop-F}
use Rattle.species_ast.specs.Scope.Meanings.{Meaning, Scope, meaning_in, in_loop, is_among, behind, local_number, Role, Declared, Iterates, InHeader, Occurrence, occurrence}
use Rattle.species_ast.specs.Scope.Expressions.{ExprReading, ResolvedTarget, reading, target_in}
use Rattle.species_ast.specs.Scope.Statements.{Fragment, Walk, PlacedWalk, fragment, names_only, in_order, declarator, change_fragment, change_by, change_by_one, assigned, operated, increased, combined, one, line_of, mark_of, step_reading, iterator_role, what_at, loop_at, stmt_at, stmt_fragment}
use Rattle.species_ast.proofs.Folds.{fold_stmt-Assign, fold_stmt-AddTo, fold_stmt-Declare, fold_stmt-SetLocal, fold_stmt-If, fold_stmt-For, fold_stmt-Block, fold_loop}
use Rattle.species_ast.proofs.Induction.{Each}
use Rattle.species_lawful.proofs.TwoWalks.{local_in_scope, init_names, shape}

-- ---- loops whose iterators have names of their own

-- the iterator of each loop has a name that none of these is, nor that of a loop around it
abbrev pub apart_at : Stmt-F (List (List ℕ) → Bool) (List (List ℕ) → Bool) → List (List ℕ) → Bool
apart_at (Stmt-F.If place test body otherwise) iters = list_all (λ s. s iters) body && list_all (λ s. s iters) otherwise
apart_at (Stmt-F.For l) iters = l iters
apart_at (Stmt-F.Block body) iters = list_all (λ s. s iters) body
apart_at s iters = true

abbrev pub apart_within : Loop-F (List (List ℕ) → Bool) (List (List ℕ) → Bool) → List (List ℕ) → Bool
apart_within l iters = not (list_any (bytes_eq l.iter) iters) && list_all (λ s. s (iters ++ l.iter ∷ [])) l.body

abbrev pub apart : Stmt → List (List ℕ) → Bool
apart = fold-Stmt (List (List ℕ) → Bool) (List (List ℕ) → Bool) apart_at apart_within

abbrev pub all_apart : List Stmt → List (List ℕ) → Bool
all_apart xs iters = list_all (λ s. s iters) (map apart xs)

append_apart : (xs ys : List Stmt) (iters : List (List ℕ)) → all_apart xs iters ≡ true → all_apart ys iters ≡ true → all_apart (xs ++ ys) iters ≡ true
append_apart [] ys iters h k = k
append_apart (x ∷ xs) ys iters h k =
    let parts = and_parts (apart x iters) (all_apart xs iters) h in
    and_from (apart x iters) (all_apart (xs ++ ys) iters) parts.0 (append_apart xs ys iters parts.1 k)

one_apart : (x : Stmt) (iters : List (List ℕ)) (f : List (List ℕ) → Bool) → apart x ≡ f → f iters ≡ true → all_apart (x ∷ []) iters ≡ true
one_apart x iters f is h = and_from (apart x iters) true (ap (λ k. k iters) is ∙ h) refl

-- ---- scopes

abbrev is_iterator : Option Meaning → Bool
is_iterator (Some (Meaning.Iterator level)) = true
is_iterator m = false

-- each of these names is that of an iterator there
abbrev InScope : List (List ℕ) → Scope → Type 0
InScope iters s = Each (λ w. is_iterator (meaning_in s.names w) ≡ true) iters

-- a name is declared where it means nothing, and a loop takes none that is an iterator's
abbrev is_new_as : Role → Option Meaning → Bool
is_new_as Declared m = not (is_some m)
is_new_as Iterates m = not (is_iterator m)
is_new_as role m = true

abbrev pub is_new : Occurrence → Bool
is_new o = is_new_as o.role o.means

false_true : false ≡ true → ⊥
false_true e = cc

not_true : (b : Bool) → not b ≡ true → b ≡ false
not_true true h = absurd (false_true h)
not_true false h = refl

-- a name that is no iterator's is none of these
differs : (iters : List (List ℕ)) (s : Scope) (w : List ℕ) → InScope iters s → is_iterator (meaning_in s.names w) ≡ false → list_any (bytes_eq w) iters ≡ false
differs [] s w h none = refl
differs (v ∷ iters) s w h none = ap (λ b. b || list_any (bytes_eq w) iters) (other (bytes_eq w v) refl) ∙ differs iters s w h.1 none
  where
    other : (b : Bool) → bytes_eq w v ≡ b → b ≡ false
    other true is =
        let same : w ≡ v = (bytes_eq-Decides w v).0 is in
        absurd (false_true (sym none ∙ ap (λ z. is_iterator (meaning_in s.names z)) same ∙ h.0))
    other false is = refl

-- behind a declaration of a name that meant nothing
declared_keeps : (iters : List (List ℕ)) (s : Scope) (n : List ℕ) (m : Meaning) → InScope iters s → is_some (meaning_in s.names n) ≡ false
    → Each (λ w. is_iterator (meaning_in ((n, m) ∷ s.names) w) ≡ true) iters
declared_keeps [] s n m h none = tt
declared_keeps (w ∷ iters) s n m h none = (go (bytes_eq n w) refl, declared_keeps iters s n m h.1 none)
  where
    lost : (o : Option Meaning) → is_some o ≡ false → is_iterator o ≡ true → ⊥
    lost (Some x) e k = absurd cc
    lost None e k = absurd cc

    go : (b : Bool) → bytes_eq n w ≡ b → is_iterator (if b then Some m else meaning_in s.names w) ≡ true
    go true is = let same : n ≡ w = (bytes_eq-Decides n w).0 is in absurd (lost (meaning_in s.names w) (ap (λ z. is_some (meaning_in s.names z)) (sym same) ∙ none) h.0)
    go false is = h.0

inside_keeps : (iters : List (List ℕ)) (s : Scope) (n : List ℕ) (level : ℕ) → InScope iters s → Each (λ w. is_iterator (meaning_in ((n, Meaning.Iterator level) ∷ s.names) w) ≡ true) (iters ++ n ∷ [])
inside_keeps [] s n level h =
    let same : bytes_eq n n ≡ true = (bytes_eq-Decides n n).1 refl in
    (ap (λ (b : Bool). is_iterator (if b then Some (Meaning.Iterator level) else meaning_in s.names n)) same, tt)
inside_keeps (w ∷ iters) s n level h = (go (bytes_eq n w), inside_keeps iters s n level h.1)
  where
    go : (b : Bool) → is_iterator (if b then Some (Meaning.Iterator level) else meaning_in s.names w) ≡ true
    go true = refl
    go false = h.0

-- ---- walks

record Keeps (iters : List (List ℕ)) (p : Fragment) : Type 0 where
  statements : all_apart p.statements iters ≡ true
  body : all_apart p.body iters ≡ true
  next : InScope iters p.next

abbrev AreNew : List Occurrence → Type 0
AreNew names = list_all is_new names ≡ true

abbrev Apart : Walk → Type 0
Apart p = (s : Scope) (iters : List (List ℕ)) → InScope iters s → AreNew (p s).notes.names → Keeps iters (p s)

abbrev AllApart : List Walk → Type 0
AllApart [] = Unit {0}
AllApart (p ∷ ps) = Apart p × AllApart ps

both_new : (xs ys : List Occurrence) → AreNew (xs ++ ys) → AreNew xs × AreNew ys
both_new xs ys h = and_parts (list_all is_new xs) (list_all is_new ys) (sym (list_all-append is_new xs ys) ∙ h)

in_order_apart : (ps : List Walk) → AllApart ps → Apart (in_order ps)
in_order_apart [] all s iters h new = record { statements = refl; body = refl; next = h }
in_order_apart (p ∷ ps) all s iters h new =
    let first = p s in
    let parts = both_new first.notes.names (in_order ps first.next).notes.names new in
    let a = all.0 s iters h parts.0 in
    let b = in_order_apart ps all.1 first.next iters a.next parts.1 in
    let whole = append_apart first.statements (in_order ps first.next).statements iters a.statements b.statements in
    record { statements = whole; body = whole; next = b.next }

-- ---- declarations and changes

declarator_apart : (k : Kind) (l : RawLocal) → Apart (declarator k l)
declarator_apart k l s iters h new =
    let is = shape k l s in
    let names : AreNew (occurrence Declared s l.name ∷ init_names l.init (local_in_scope l k s)) = subst AreNew is.0 new in
    let fresh : is_some (meaning_in s.names l.name.text) ≡ false = not_true (is_some (meaning_in s.names l.name.text)) (and_parts (not (is_some (meaning_in s.names l.name.text))) _ names).0 in
    let next = declared_keeps iters s l.name.text (Meaning.Variable (record { serial = s.serials; kind = k; initialised = is_some (option_map reading l.init) })) h fresh in
    let plain = statements (is_among s.iterators s.serials) in
    record { statements = plain.0; body = plain.1; next = subst (InScope iters) (sym is.1) next }
  where
    statements : (b : Bool) → let inner = local_in_scope l k s in
        let value = option_map (λ (read : Scope → ExprReading). read inner) (option_map reading l.init) in
        let names = occurrence Declared s l.name ∷ unwrap_or (option_map (λ (r : ExprReading). r.names) value) [] in
        let p : Fragment = if b then fragment [] (names_only names) inner
        else fragment (stmt.Declare l.name.place (local_number s s.serials) (option_map (λ (r : ExprReading). r.expr) value) ∷ []) (record { locals = record { name = l.name.text; kind = k } ∷ []; names = names; loops = [] }) inner in
        (all_apart p.statements iters ≡ true) × (all_apart p.body iters ≡ true)
    statements true = (refl, refl)
    statements false =
        let inner = local_in_scope l k s in
        let value = option_map (λ (r : ExprReading). r.expr) (option_map (λ (read : Scope → ExprReading). read inner) (option_map reading l.init)) in
        let one = one_apart (stmt.Declare l.name.place (local_number s s.serials) value) iters _ (fold_stmt-Declare apart_at apart_within l.name.place (local_number s s.serials) value) refl in
        (one, one)

assigned_apart : (s : Scope) (p : ℕ) (name : Spelling) (m : Option Meaning) (subs : List Expr) (names : List Occurrence) (v : Expr) (iters : List (List ℕ))
    → all_apart (assigned s p (record { name = name; means = m; subs = subs; names = names }) v) iters ≡ true
assigned_apart s p name (Some (Meaning.Array a n)) subs names v iters = one_apart _ iters _ (fold_stmt-Assign apart_at apart_within p a subs v) refl
assigned_apart s p name (Some (Meaning.Variable x)) subs names v iters = one_apart _ iters _ (fold_stmt-SetLocal apart_at apart_within p (local_number s x.serial) v) refl
assigned_apart s p name (Some (Meaning.Iterator level)) subs names v iters = refl
assigned_apart s p name (Some Meaning.Function) subs names v iters = refl
assigned_apart s p name None subs names v iters = refl

combined_apart : (s : Scope) (p : ℕ) (o : Binary) (t : ResolvedTarget) (v : Expr) (iters : List (List ℕ)) → all_apart (combined s p o t v) iters ≡ true
combined_apart s p o t v iters = assigned_apart s p t.name t.means t.subs t.names _ iters

increased_apart : (s : Scope) (p : ℕ) (atomic : Bool) (name : Spelling) (m : Option Meaning) (subs : List Expr) (names : List Occurrence) (v : Expr) (iters : List (List ℕ))
    → all_apart (increased s p atomic (record { name = name; means = m; subs = subs; names = names }) v) iters ≡ true
increased_apart s p atomic name (Some (Meaning.Array a n)) subs names v iters = one_apart _ iters _ (fold_stmt-AddTo apart_at apart_within p a subs v atomic) refl
increased_apart s p atomic name (Some (Meaning.Variable x)) subs names v iters = combined_apart s p binary.Add (record { name = name; means = Some (Meaning.Variable x); subs = subs; names = names }) v iters
increased_apart s p atomic name (Some (Meaning.Iterator level)) subs names v iters = refl
increased_apart s p atomic name (Some Meaning.Function) subs names v iters = refl
increased_apart s p atomic name None subs names v iters = refl

abbrev Plain : (Scope → ResolvedTarget → Expr → List Stmt) → Type 0
Plain becomes = (s : Scope) (t : ResolvedTarget) (v : Expr) (iters : List (List ℕ)) → all_apart (becomes s t v) iters ≡ true

increases : (p : ℕ) (atomic : Bool) → Plain (λ s. increased s p atomic)
increases p atomic s t v iters = increased_apart s p atomic t.name t.means t.subs t.names v iters

combines : (p : ℕ) (o : Binary) → Plain (λ s. combined s p o)
combines p o s t v iters = combined_apart s p o t v iters

operates : (p : ℕ) (o : RawOp) → Plain (λ s. operated s p o)
operates p op.Plain s t v iters = assigned_apart s p t.name t.means t.subs t.names v iters
operates p op.Add s t v iters = increases p false s t v iters
operates p op.Sub s t v iters = combines p binary.Sub s t v iters
operates p op.Mul s t v iters = combines p binary.Mul s t v iters
operates p op.Div s t v iters = combines p binary.Div s t v iters
operates p op.Rem s t v iters = combines p binary.Rem s t v iters
operates p op.BitAnd s t v iters = combines p binary.BitAnd s t v iters
operates p op.BitXor s t v iters = combines p binary.BitXor s t v iters
operates p op.BitOr s t v iters = combines p binary.BitOr s t v iters
operates p op.Shl s t v iters = combines p binary.Shl s t v iters
operates p op.Shr s t v iters = combines p binary.Shr s t v iters

by_apart : (becomes : Scope → ResolvedTarget → Expr → List Stmt) → Plain becomes → (e : RawTarget) (v : RawExpr) → Apart (change_by becomes (target_in e) (reading v))
by_apart becomes k e v s iters h new = let plain = k s (target_in e s) (reading v s).expr iters in record { statements = plain; body = plain; next = h }

by_one_apart : (becomes : Scope → ResolvedTarget → Expr → List Stmt) → Plain becomes → (e : RawTarget) → Apart (change_by_one becomes (target_in e))
by_one_apart becomes k e s iters h new = let plain = k s (target_in e s) one iters in record { statements = plain; body = plain; next = h }

change_apart : (p : ℕ) (c : RawChange) → Apart (change_fragment p c)
change_apart p (change.Set e o v) = by_apart (λ s. operated s p o) (operates p o) e v
change_apart p (change.Up e) = by_one_apart (λ s. increased s p false) (increases p false) e
change_apart p (change.UpBefore e) = by_one_apart (λ s. increased s p false) (increases p false) e
change_apart p (change.Down e) = by_one_apart (λ s. combined s p binary.Sub) (combines p binary.Sub) e
change_apart p (change.DownBefore e) = by_one_apart (λ s. combined s p binary.Sub) (combines p binary.Sub) e

-- ---- statements

abbrev what_walk : RawWhat → PlacedWalk
what_walk = fold-RawWhat PlacedWalk PlacedWalk Walk what_at loop_at stmt_at

abbrev loop_walk : RawLoop → PlacedWalk
loop_walk = fold-RawLoop PlacedWalk PlacedWalk Walk what_at loop_at stmt_at

abbrev WhatApart : RawWhat → Type 0
WhatApart w = (p : ℕ) → Apart (what_walk w p)

abbrev LoopApart : RawLoop → Type 0
LoopApart l = (p : ℕ) → Apart (loop_walk l p)

abbrev StmtApart : RawStmt → Type 0
StmtApart r = Apart (stmt_fragment r)

abbrev KnownWhat : Type 0
KnownWhat = (x : RawWhat) × WhatApart x

abbrev KnownLoop : Type 0
KnownLoop = (x : RawLoop) × LoopApart x

abbrev KnownStmt : Type 0
KnownStmt = (x : RawStmt) × StmtApart x

all_known : (ks : List KnownStmt) → AllApart (map stmt_fragment (map (λ k. k.0) ks))
all_known [] = tt
all_known (k ∷ ks) = (k.1, all_known ks)

declarators_apart : (k : Kind) (ls : List RawLocal) → AllApart (map (declarator k) ls)
declarators_apart k [] = tt
declarators_apart k (l ∷ ls) = (declarator_apart k l, declarators_apart k ls)

if_apart : (p : ℕ) (c : Expr) (xs ys : List Stmt) (iters : List (List ℕ)) → all_apart xs iters ≡ true → all_apart ys iters ≡ true → all_apart (stmt.If p c xs ys ∷ []) iters ≡ true
if_apart p c xs ys iters h k = one_apart _ iters _ (fold_stmt-If apart_at apart_within p c xs ys) (and_from (all_apart xs iters) (all_apart ys iters) h k)

layer : (y : RawWhat-F KnownWhat KnownLoop KnownStmt) (p : ℕ)
    → Apart (what_at (map-RawWhat RawWhat RawLoop RawStmt PlacedWalk PlacedWalk Walk what_walk loop_walk stmt_fragment
    (map-RawWhat KnownWhat KnownLoop KnownStmt RawWhat RawLoop RawStmt (λ k. k.0) (λ k. k.0) (λ k. k.0) y)) p)
layer (RawWhat-F.Declare k locals) p s iters h new = in_order_apart (map (declarator k) locals) (declarators_apart k locals) s iters h new
layer (RawWhat-F.Block ks) p s iters h new =
    let inner = in_order_apart (map stmt_fragment (map (λ k. k.0) ks)) (all_known ks) s iters h new in
    let ss = (in_order (map stmt_fragment (map (λ (k : KnownStmt). k.0) ks)) s).statements in
    record { statements = one_apart _ iters _ (fold_stmt-Block apart_at apart_within ss) inner.statements; body = inner.statements; next = h }
layer RawWhat-F.Empty p s iters h new = record { statements = refl; body = refl; next = h }
layer (RawWhat-F.If test body None) p s iters h new =
    let first = stmt_fragment body.0 s in
    let rest = (both_new (reading test s).names (first.notes.names ++ []) new).1 in
    let a = body.1 s iters h (both_new first.notes.names [] rest).0 in
    let whole = if_apart p (reading test s).expr first.body [] iters a.body refl in
    record { statements = whole; body = whole; next = h }
layer (RawWhat-F.If test body (Some otherwise)) p s iters h new =
    let first = stmt_fragment body.0 s in
    let between = behind s first.next in
    let second = stmt_fragment otherwise.0 between in
    let rest = (both_new (reading test s).names (first.notes.names ++ second.notes.names) new).1 in
    let parts = both_new first.notes.names second.notes.names rest in
    let a = body.1 s iters h parts.0 in
    let b = otherwise.1 between iters h parts.1 in
    let whole = if_apart p (reading test s).expr first.body second.body iters a.body b.body in
    record { statements = whole; body = whole; next = h }
layer (RawWhat-F.Loop l) p s iters h new = l.1 p s iters h new
layer (RawWhat-F.Change c) p s iters h new = change_apart p c s iters h new
layer (RawWhat-F.Atomic e v) p s iters h new = by_apart (λ s. increased s p true) (increases p true) e v s iters h new

-- whatever its role, the iterator of a loop is new
iterator_new : (typed : Bool) (m : Option Meaning) → is_new_as (iterator_role typed) m ≡ true → is_iterator m ≡ false
iterator_new true (Some m) h = absurd (false_true h)
iterator_new true None h = refl
iterator_new false m h = not_true (is_iterator m) h

loop_layer : (y : RawLoop-F KnownWhat KnownLoop KnownStmt) (p : ℕ)
    → Apart (loop_at (map-RawLoop RawWhat RawLoop RawStmt PlacedWalk PlacedWalk Walk what_walk loop_walk stmt_fragment
    (map-RawLoop KnownWhat KnownLoop KnownStmt RawWhat RawLoop RawStmt (λ k. k.0) (λ k. k.0) (λ k. k.0) y)) p)
loop_layer y p s iters h new =
    let u = in_loop y.iter s in
    let start = reading y.start s in
    let limit = reading y.limit u in
    let by = step_reading y.step u in
    let body = stmt_fragment y.body.0 u in
    let iter = occurrence (iterator_role y.typed) s y.iter in
    let header = start.names ++ (limit.names ++ (map (occurrence InHeader u) (y.tested ∷ by.variables) ++ by.names)) in
    let parts = both_new (iter ∷ header) body.notes.names new in
    let fresh = iterator_new y.typed (meaning_in s.names y.iter.text) (and_parts (is_new iter) (list_all is_new header) parts.0).0 in
    let a = y.body.1 u (iters ++ y.iter.text ∷ []) (inside_keeps iters s y.iter.text s.level h) parts.1 in
    let l : Loop-F Stmt Loop = record {
      place = p;
      iter = y.iter.text;
      start = start.expr;
      test = y.test;
      limit = limit.expr;
      step = unwrap_or by.number (pos 0);
      body = body.body;
      line = option_map line_of y.line;
      mark = mark_of y.parallel;
    } in
    let whole = one_apart (stmt.For (roll-Loop l)) iters _ (fold_stmt-For apart_at apart_within (roll-Loop l) ∙ ap (λ z. apart_at (Stmt-F.For z)) (fold_loop apart_at apart_within l))
    (and_from (not (list_any (bytes_eq y.iter.text) iters)) (all_apart body.body (iters ++ y.iter.text ∷ [])) (ap not (differs iters s y.iter.text h fresh)) a.body) in
    record { statements = whole; body = whole; next = h }

walk_apart : (v w : Walk) → v ≡ w → Apart w → Apart v
walk_apart v w h k = subst Apart (sym h) k

stmt_apart : (r : RawStmt) → StmtApart r
stmt_apart = ind-RawStmt WhatApart LoopApart StmtApart
    (λ x y h. subst (λ z. WhatApart (roll-RawWhat z)) h
    (λ p. walk_apart _ _ (ap (λ (w : PlacedWalk). w p) (fold-roll-RawWhat PlacedWalk PlacedWalk Walk what_at loop_at stmt_at _)) (layer y p)))
    (λ x y h. subst (λ z. LoopApart (roll-RawLoop z)) h
    (λ p. walk_apart _ _ (ap (λ (w : PlacedWalk). w p) (fold-roll-RawLoop PlacedWalk PlacedWalk Walk what_at loop_at stmt_at _)) (loop_layer y p)))
    (λ x y h. subst (λ z. StmtApart (roll-RawStmt z)) h
    (walk_apart _ _ (fold-roll-RawStmt PlacedWalk PlacedWalk Walk what_at loop_at stmt_at _) (y.what.1 y.place)))

all_stmts : (ss : List RawStmt) → AllApart (map stmt_fragment ss)
all_stmts [] = tt
all_stmts (s ∷ ss) = (stmt_apart s, all_stmts ss)

-- The law: of the statements of a function's body, in any scope.
pub stmts_apart : (ss : List RawStmt) (s : Scope) → AreNew (in_order (map stmt_fragment ss) s).notes.names → all_apart (in_order (map stmt_fragment ss) s).statements [] ≡ true
stmts_apart ss s new = (in_order_apart (map stmt_fragment ss) (all_stmts ss) s [] tt new).statements
