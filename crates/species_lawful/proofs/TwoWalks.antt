-- What names mean does not depend on which locals are the iterators of loops: both walks see the same names.
use Rattle.std.proofs.Common.{◌≡◌, ◌∙◌, refl, sym, ap, subst, ℕ, suc, List, [], ◌∷◌, ◌++◌, map, Option, Some, None, Bool, true, false}
use Rattle.std.specs.Prelude.{is_some, option_map, unwrap_or, if◌then◌else◌}
use Rattle.species_ast.specs.Spelling.{Spelling}
use Rattle.species_ast.specs.declared.tree.Kind.{Kind}
use Rattle.species_ast.specs.declared.tree.Expr.{Expr}
use Rattle.species_ast.specs.declared.tree.Binary.TheVariants as binary
use Rattle.species_ast.specs.declared.tree.Stmt.{Stmt}
use Rattle.species_ast.specs.declared.raw.RawExpr.{RawExpr}
use Rattle.species_ast.specs.declared.raw.RawTarget.{RawTarget}
use Rattle.species_ast.specs.declared.raw.RawLocal.{RawLocal}
use Rattle.species_ast.specs.declared.raw.RawStep.{RawStep}
use Rattle.species_ast.specs.declared.raw.RawStep.TheVariants as step
use Rattle.species_ast.specs.declared.raw.RawChange.{RawChange}
use Rattle.species_ast.specs.declared.raw.RawChange.TheVariants as change
use Rattle.species_ast.specs.declared.raw.RawStmt.{RawStmt, roll-RawStmt, ind-RawStmt, fold-roll-RawStmt}
use Rattle.species_ast.specs.declared.raw.RawWhat.{RawWhat, roll-RawWhat, map-RawWhat, fold-RawWhat, fold-roll-RawWhat}
use Rattle.species_ast.specs.declared.raw.RawLoop.{RawLoop, roll-RawLoop, map-RawLoop, fold-RawLoop, fold-roll-RawLoop}
use Rattle.species_ast.specs.declared.raw.RawWhat.TheOpen.{RawWhat-F, RawLoop-F}
use Rattle.species_ast.specs.Scope.Meanings.{Meaning, Scope, meaning_in, scope_with_local, in_loop, is_among, behind, Role, Declared, Assigned, InHeader, Occurrence, occurrence}
use Rattle.species_ast.specs.Scope.Expressions.{ExprReading, ResolvedTarget, reading, target_in}
use Rattle.species_ast.specs.Scope.Statements.{Fragment, Walk, PlacedWalk, in_order, declarator, change_fragment, change_by, change_by_one, assigned_names, operated, increased, combined, mark_of, step_reading, iterator_role, what_at, loop_at, stmt_at, stmt_fragment}
use Rattle.species_lawful.proofs.RawLaws.{expr_plain, target_plain}

-- two scopes that differ at most in which locals are iterators
pub record Alike (s t : Scope) : Type 0 where
  pub names : s.names ≡ t.names
  pub level : s.level ≡ t.level
  pub serials : s.serials ≡ t.serials

pub record SameFragment (p q : Fragment) : Type 0 where
  pub names : p.notes.names ≡ q.notes.names
  pub next : Alike p.next q.next

abbrev pub Same : Walk → Type 0
Same p = (s t : Scope) → Alike s t → SameFragment (p s) (p t)

abbrev AllSame : List Walk → Type 0
AllSame [] = Unit {0}
AllSame (p ∷ ps) = Same p × AllSame ps

two : {X : Type 0} (a b c d : List X) → a ≡ c → b ≡ d → a ++ b ≡ c ++ d
two a b c d h k = λ i. h i ++ k i

at_name : (r : Role) (n : Spelling) (s t : Scope) → Alike s t → occurrence r s n ≡ occurrence r t n
at_name r n s t h = λ i. record { name = n; role = r; means = meaning_in (h.names i) n.text }

in_order_same : (ps : List Walk) → AllSame ps → Same (in_order ps)
in_order_same [] all s t h = record { names = refl; next = h }
in_order_same (p ∷ ps) all s t h =
    let first = all.0 s t h in
    let rest = in_order_same ps all.1 (p s).next (p t).next first.next in
    record { names = two _ _ _ _ first.names rest.names; next = rest.next }

-- ---- declarations and changes

abbrev pub local_in_scope : RawLocal → Kind → Scope → Scope
local_in_scope l k s = scope_with_local l.name (record { serial = s.serials; kind = k; initialised = is_some (option_map reading l.init) }) s

abbrev pub init_names : Option RawExpr → Scope → List Occurrence
init_names init s = unwrap_or (option_map (λ (r : ExprReading). r.names) (option_map (λ (read : Scope → ExprReading). read s) (option_map reading init))) []

init_same : (init : Option RawExpr) (s t : Scope) → s.names ≡ t.names → init_names init s ≡ init_names init t
init_same (Some e) s t h = (expr_plain e s t h).alike
init_same None s t h = refl

pub shape : (k : Kind) (l : RawLocal) (s : Scope) → ((declarator k l s).notes.names ≡ occurrence Declared s l.name ∷ init_names l.init (local_in_scope l k s)) × ((declarator k l s).next ≡ local_in_scope l k s)
shape k l s = go (is_among s.iterators s.serials) _ _ refl refl
  where
    go : (b : Bool) (p q : Fragment) → p.notes.names ≡ q.notes.names → p.next ≡ q.next → ((if b then p else q).notes.names ≡ q.notes.names) × ((if b then p else q).next ≡ q.next)
    go true p q h k = (h, k)
    go false p q h k = (refl, refl)

declarator_same : (k : Kind) (l : RawLocal) → Same (declarator k l)
declarator_same k l s t h =
    let names : (local_in_scope l k s).names ≡ (local_in_scope l k t).names =
    λ i. (l.name.text, Meaning.Variable (record { serial = h.serials i; kind = k; initialised = is_some (option_map reading l.init) })) ∷ h.names i in
    let inner : Alike (local_in_scope l k s) (local_in_scope l k t) = record { names = names; level = h.level; serials = ap suc h.serials } in
    let a = shape k l s in
    let b = shape k l t in
    let one = at_name Declared l.name s t h in
    let more = init_same l.init (local_in_scope l k s) (local_in_scope l k t) names in
    record {
      names = a.0 ∙ (λ i. one i ∷ more i) ∙ sym b.0;
      next = subst (λ z. Alike z (declarator k l t).next) (sym a.1) (subst (λ z. Alike (local_in_scope l k s) z) (sym b.1) inner);
    }

set_names : (e : RawTarget) (s t : Scope) → Alike s t → assigned_names s (target_in e s) ≡ assigned_names t (target_in e t)
set_names e s t h =
    let k = target_plain e s t h.names in
    λ i. record { name = k.name i; role = Assigned (k.count i); means = meaning_in (h.names i) (k.name i).text } ∷ k.names.alike i

by_same : (becomes : Scope → ResolvedTarget → Expr → List Stmt) (e : RawTarget) (v : RawExpr) → Same (change_by becomes (target_in e) (reading v))
by_same becomes e v s t h = record { names = two _ _ _ _ (set_names e s t h) (expr_plain v s t h.names).alike; next = h }

one_same : (becomes : Scope → ResolvedTarget → Expr → List Stmt) (e : RawTarget) → Same (change_by_one becomes (target_in e))
one_same becomes e s t h = record { names = set_names e s t h; next = h }

change_same : (p : ℕ) (c : RawChange) → Same (change_fragment p c)
change_same p (change.Set e o v) = by_same (λ s. operated s p o) e v
change_same p (change.Up e) = one_same (λ s. increased s p false) e
change_same p (change.UpBefore e) = one_same (λ s. increased s p false) e
change_same p (change.Down e) = one_same (λ s. combined s p binary.Sub) e
change_same p (change.DownBefore e) = one_same (λ s. combined s p binary.Sub) e

-- ---- loops

abbrev StepNames : RawStep → Scope → List Occurrence
StepNames r s = map (occurrence InHeader s) (step_reading r s).variables ++ (step_reading r s).names

heads : (ns : List Spelling) (s t : Scope) → Alike s t → map (occurrence InHeader s) ns ≡ map (occurrence InHeader t) ns
heads [] s t h = refl
heads (n ∷ ns) s t h = let one = at_name InHeader n s t h in let rest = heads ns s t h in λ i. one i ∷ rest i

step_same : (r : RawStep) (s t : Scope) → Alike s t → StepNames r s ≡ StepNames r t
step_same (step.Up n) s t h = two _ _ _ _ (heads (n ∷ []) s t h) refl
step_same (step.UpBefore n) s t h = two _ _ _ _ (heads (n ∷ []) s t h) refl
step_same (step.Down n) s t h = two _ _ _ _ (heads (n ∷ []) s t h) refl
step_same (step.DownBefore n) s t h = two _ _ _ _ (heads (n ∷ []) s t h) refl
step_same (step.AddBy n e) s t h = two _ _ _ _ (heads (n ∷ []) s t h) (expr_plain e s t h.names).alike
step_same (step.SubBy n e) s t h = two _ _ _ _ (heads (n ∷ []) s t h) (expr_plain e s t h.names).alike
step_same (step.SetAdd n m e) s t h = two _ _ _ _ (heads (n ∷ m ∷ []) s t h) (expr_plain e s t h.names).alike
step_same (step.SetSub n m e) s t h = two _ _ _ _ (heads (n ∷ m ∷ []) s t h) (expr_plain e s t h.names).alike

into_loop : (n : Spelling) (s t : Scope) → Alike s t → Alike (in_loop n s) (in_loop n t)
into_loop n s t h = record { names = (λ i. (n.text, Meaning.Iterator (h.level i)) ∷ h.names i); level = ap suc h.level; serials = h.serials }

-- ---- statements

abbrev what_walk : RawWhat → PlacedWalk
what_walk = fold-RawWhat PlacedWalk PlacedWalk Walk what_at loop_at stmt_at

abbrev loop_walk : RawLoop → PlacedWalk
loop_walk = fold-RawLoop PlacedWalk PlacedWalk Walk what_at loop_at stmt_at

abbrev WhatSame : RawWhat → Type 0
WhatSame w = (p : ℕ) → Same (what_walk w p)

abbrev LoopSame : RawLoop → Type 0
LoopSame l = (p : ℕ) → Same (loop_walk l p)

abbrev StmtSame : RawStmt → Type 0
StmtSame r = Same (stmt_fragment r)

abbrev KnownWhat : Type 0
KnownWhat = (x : RawWhat) × WhatSame x

abbrev KnownLoop : Type 0
KnownLoop = (x : RawLoop) × LoopSame x

abbrev KnownStmt : Type 0
KnownStmt = (x : RawStmt) × StmtSame x

all_same : (ks : List KnownStmt) → AllSame (map stmt_fragment (map (λ k. k.0) ks))
all_same [] = tt
all_same (k ∷ ks) = (k.1, all_same ks)

declarators_same : (k : Kind) (ls : List RawLocal) → AllSame (map (declarator k) ls)
declarators_same k [] = tt
declarators_same k (l ∷ ls) = (declarator_same k l, declarators_same k ls)

-- behind a scope that ends
ended : (s t u v : Scope) → Alike s t → Alike u v → Alike (record s { serials = u.serials }) (record t { serials = v.serials })
ended s t u v h k = record { names = h.names; level = h.level; serials = k.serials }

layer : (y : RawWhat-F KnownWhat KnownLoop KnownStmt) (p : ℕ)
    → Same (what_at (map-RawWhat RawWhat RawLoop RawStmt PlacedWalk PlacedWalk Walk what_walk loop_walk stmt_fragment
    (map-RawWhat KnownWhat KnownLoop KnownStmt RawWhat RawLoop RawStmt (λ k. k.0) (λ k. k.0) (λ k. k.0) y)) p)
layer (RawWhat-F.Declare k locals) p s t h = in_order_same (map (declarator k) locals) (declarators_same k locals) s t h
layer (RawWhat-F.Block ks) p s t h =
    let inner = in_order_same (map stmt_fragment (map (λ k. k.0) ks)) (all_same ks) s t h in
    record { names = inner.names; next = ended s t _ _ h inner.next }
layer RawWhat-F.Empty p s t h = record { names = refl; next = h }
layer (RawWhat-F.If test body None) p s t h =
    let first = body.1 s t h in
    record { names = two _ _ _ _ (expr_plain test s t h.names).alike (two _ _ _ _ first.names refl); next = ended s t _ _ h first.next }
layer (RawWhat-F.If test body (Some otherwise)) p s t h =
    let first = body.1 s t h in
    let behind_first = ended s t _ _ h first.next in
    let second = otherwise.1 (behind s (stmt_fragment body.0 s).next) (behind t (stmt_fragment body.0 t).next) behind_first in
    record { names = two _ _ _ _ (expr_plain test s t h.names).alike (two _ _ _ _ first.names second.names); next = ended _ _ _ _ behind_first second.next }
layer (RawWhat-F.Loop l) p s t h = l.1 p s t h
layer (RawWhat-F.Change c) p s t h = change_same p c s t h
layer (RawWhat-F.Atomic e v) p s t h = by_same (λ s. increased s p true) e v s t h

loop_layer : (y : RawLoop-F KnownWhat KnownLoop KnownStmt) (p : ℕ)
    → Same (loop_at (map-RawLoop RawWhat RawLoop RawStmt PlacedWalk PlacedWalk Walk what_walk loop_walk stmt_fragment
    (map-RawLoop KnownWhat KnownLoop KnownStmt RawWhat RawLoop RawStmt (λ k. k.0) (λ k. k.0) (λ k. k.0) y)) p)
loop_layer y p s t h =
    let u = in_loop y.iter s in
    let v = in_loop y.iter t in
    let inner : Alike u v = into_loop y.iter s t h in
    let body = y.body.1 u v inner in
    let iter = at_name (iterator_role y.typed) y.iter s t h in
    let start = (expr_plain y.start s t h.names).alike in
    let limit = (expr_plain y.limit u v inner.names).alike in
    let tested = at_name InHeader y.tested u v inner in
    let by = step_same y.step u v inner in
    record { names = (λ i. iter i ∷ ((start i ++ (limit i ++ (tested i ∷ by i))) ++ body.names i)); next = ended s t _ _ h body.next }

walk_same : (v w : Walk) → v ≡ w → Same w → Same v
walk_same v w h k = subst Same (sym h) k

pub stmt_same : (r : RawStmt) → Same (stmt_fragment r)
stmt_same = ind-RawStmt WhatSame LoopSame StmtSame
    (λ x y h. subst (λ z. WhatSame (roll-RawWhat z)) h
    (λ p. walk_same _ _ (ap (λ (w : PlacedWalk). w p) (fold-roll-RawWhat PlacedWalk PlacedWalk Walk what_at loop_at stmt_at _)) (layer y p)))
    (λ x y h. subst (λ z. LoopSame (roll-RawLoop z)) h
    (λ p. walk_same _ _ (ap (λ (w : PlacedWalk). w p) (fold-roll-RawLoop PlacedWalk PlacedWalk Walk what_at loop_at stmt_at _)) (loop_layer y p)))
    (λ x y h. subst (λ z. StmtSame (roll-RawStmt z)) h
    (walk_same _ _ (fold-roll-RawStmt PlacedWalk PlacedWalk Walk what_at loop_at stmt_at _) (y.what.1 y.place)))

all_stmts : (ss : List RawStmt) → AllSame (map stmt_fragment ss)
all_stmts [] = tt
all_stmts (s ∷ ss) = (stmt_same s, all_stmts ss)

pub stmts_same : (ss : List RawStmt) → Same (in_order (map stmt_fragment ss))
stmts_same ss = in_order_same (map stmt_fragment ss) (all_stmts ss)
