-- What a statement becomes in the scope where it stands, and what is noted on the way: locals, names and loops.
use Rattle.std.specs.Prelude.{ℕ, Bool, true, false, bytes_eq, if◌then◌else◌, List, [], ◌∷◌, ◌++◌, map, length, ℤ, pos, negsuc, neg_ℤ, Option, Some, None, option_map, is_some, unwrap_or}
use Rattle.std.specs.List.{list_all}
use Rattle.species_ast.specs.Spelling.{Spelling}
use Rattle.species_ast.specs.Line.{Line}
use Rattle.species_ast.specs.declared.tree.Kind.{Kind}
use Rattle.species_ast.specs.declared.tree.Value.TheVariants.{Int}
use Rattle.species_ast.specs.declared.tree.Binary.{Binary}
use Rattle.species_ast.specs.declared.tree.Binary.TheVariants as binary
use Rattle.species_ast.specs.declared.tree.Schedule.{Schedule}
use Rattle.species_ast.specs.declared.tree.Test.{Test}
use Rattle.species_ast.specs.declared.tree.Mark.{Mark}
use Rattle.species_ast.specs.declared.tree.Mark.TheVariants.{Plain, Parallel}
use Rattle.species_ast.specs.declared.tree.Expr.{Expr}
use Rattle.species_ast.specs.declared.tree.Expr.TheVariants as expr
use Rattle.species_ast.specs.declared.tree.LocalInfo.{LocalInfo}
use Rattle.species_ast.specs.declared.tree.Stmt.{Stmt}
use Rattle.species_ast.specs.declared.tree.Stmt.TheVariants as stmt
use Rattle.species_ast.specs.declared.tree.Loop.{Loop, roll-Loop}
use Rattle.species_ast.specs.declared.raw.RawLocal.{RawLocal}
use Rattle.species_ast.specs.declared.raw.RawOp.{RawOp}
use Rattle.species_ast.specs.declared.raw.RawOp.TheVariants as op
use Rattle.species_ast.specs.declared.raw.RawChange.{RawChange}
use Rattle.species_ast.specs.declared.raw.RawChange.TheVariants as change
use Rattle.species_ast.specs.declared.raw.RawStep.{RawStep}
use Rattle.species_ast.specs.declared.raw.RawStep.TheVariants as step
use Rattle.species_ast.specs.declared.raw.RawStmt.{RawStmt, fold-RawStmt}
use Rattle.species_ast.specs.declared.raw.RawWhat.TheOpen.{RawWhat-F, RawStmt-F, RawLoop-F}
use Rattle.species_ast.specs.Grammar.Expressions.{place_of}
use Rattle.species_ast.specs.Scope.Forms.{constant_of}
use Rattle.species_ast.specs.Scope.Meanings.{Meaning, Scope, scope_with_local, in_loop, behind, is_among, local_number, Role, Declared, Assigned, Iterates, InHeader, Occurrence, occurrence}
use Rattle.species_ast.specs.Scope.Expressions.{ExprReading, ResolvedTarget, reading, target_in, value_of}

-- ---- what is noted

-- A loop where it is written.
pub record LoopSite : Type 0 where
  pub loop : Loop
  -- how many loops stand around it
  pub level : ℕ
  -- the places of its `for`, its start and its limit
  pub place : ℕ
  pub start : ℕ
  pub limit : ℕ
  -- whether its header has one variable, and the step, if it is constant
  pub one_variable : Bool
  pub step : Option ℤ

-- The locals that keep their declaration, the names and the loops of a fragment of program, in the order of the text.
pub record Notes : Type 0 where
  pub locals : List LocalInfo
  pub names : List Occurrence
  pub loops : List LoopSite

abbrev pub no_notes : Notes
no_notes = record { locals = []; names = []; loops = [] }

abbrev pub names_only : List Occurrence → Notes
names_only names = record { locals = []; names = names; loops = [] }

abbrev pub both : Notes → Notes → Notes
both a b = record { locals = a.locals ++ b.locals; names = a.names ++ b.names; loops = a.loops ++ b.loops }

-- What a fragment of program becomes: the statements that it is in a list, and those that it is as the body of a loop or a
-- branch; what is noted; and the scope behind it.
pub record Fragment : Type 0 where
  pub statements : List Stmt
  pub body : List Stmt
  pub notes : Notes
  pub next : Scope

-- A statement waits for its scope; what it does, and a loop, wait for their place as well.
abbrev pub Walk : Type 0
Walk = Scope → Fragment

abbrev pub PlacedWalk : Type 0
PlacedWalk = ℕ → Scope → Fragment

-- a fragment that is the same in a list and as a body
abbrev pub fragment : List Stmt → Notes → Scope → Fragment
fragment ss notes next = record { statements = ss; body = ss; notes = notes; next = next }

-- one fragment after another, each in the scope that the one before it leaves
abbrev pub in_order : List Walk → Walk
in_order [] s = fragment [] no_notes s
in_order (p ∷ ps) s =
    let first = p s in
    let rest = in_order ps first.next in
    fragment (first.statements ++ rest.statements) (both first.notes rest.notes) rest.next

-- ---- declarations (C17 6.7)

-- a local that its declaration keeps: its number is that of the locals before it that are kept too
abbrev pub kept_local : Kind → Spelling → Option ExprReading → Scope → List Stmt
kept_local k name init s = stmt.Declare name.place (local_number s s.serials) (option_map (λ r. r.expr) init) ∷ []

-- A local is in scope in its own initialiser. One that is the iterator of a loop leaves nothing behind.
abbrev pub local_fragment : Kind → Spelling → Option (Scope → ExprReading) → Walk
local_fragment k name init s =
    let inner = scope_with_local name (record { serial = s.serials; kind = k; initialised = is_some init }) s in
    let value = option_map (λ read. read inner) init in
    let names = occurrence Declared s name ∷ unwrap_or (option_map (λ r. r.names) value) [] in
    if is_among s.iterators s.serials then fragment [] (names_only names) inner
    else fragment (kept_local k name value s) (record { locals = record { name = name.text; kind = k } ∷ []; names = names; loops = [] }) inner

abbrev pub declarator : Kind → RawLocal → Walk
declarator k l = local_fragment k l.name (option_map reading l.init)

-- ---- changes (C17 6.5.16, 6.5.2.4 and 6.5.3.1)

abbrev pub one : Expr
one = expr.Literal (Int (pos 1))

-- the target is set to a value
abbrev pub assigned : Scope → ℕ → ResolvedTarget → Expr → List Stmt
assigned s p t v = elim t.means [
  | Some m ↦ elim m [
    | Meaning.Array a n ↦ stmt.Assign p a t.subs v ∷ []
    | Meaning.Variable x ↦ stmt.SetLocal p (local_number s x.serial) v ∷ []
    | Meaning.Iterator level ↦ []
    | Meaning.Function ↦ []
  ]
  | None ↦ []
]

-- the target is set to what an operator gives of its value and another
abbrev pub combined : Scope → ℕ → Binary → ResolvedTarget → Expr → List Stmt
combined s p o t v = assigned s p t (expr.Binary o (value_of s t) v)

-- a value is added to the target; an addition to a local is never atomic
abbrev pub increased : Scope → ℕ → Bool → ResolvedTarget → Expr → List Stmt
increased s p atomic t v = elim t.means [
  | Some m ↦ elim m [
    | Meaning.Array a n ↦ stmt.AddTo p a t.subs v atomic ∷ []
    | Meaning.Variable x ↦ combined s p binary.Add t v
    | Meaning.Iterator level ↦ []
    | Meaning.Function ↦ []
  ]
  | None ↦ []
]

-- `t = v`, `t += v` and the like
abbrev pub operated : Scope → ℕ → RawOp → ResolvedTarget → Expr → List Stmt
operated s p op.Plain t v = assigned s p t v
operated s p op.Add t v = increased s p false t v
operated s p op.Sub t v = combined s p binary.Sub t v
operated s p op.Mul t v = combined s p binary.Mul t v
operated s p op.Div t v = combined s p binary.Div t v
operated s p op.Rem t v = combined s p binary.Rem t v
operated s p op.BitAnd t v = combined s p binary.BitAnd t v
operated s p op.BitXor t v = combined s p binary.BitXor t v
operated s p op.BitOr t v = combined s p binary.BitOr t v
operated s p op.Shl t v = combined s p binary.Shl t v
operated s p op.Shr t v = combined s p binary.Shr t v

-- the names of a target that is set
abbrev pub assigned_names : Scope → ResolvedTarget → List Occurrence
assigned_names s t = occurrence (Assigned (length t.subs)) s t.name ∷ t.names

-- a change of a target by a value, and one of a target alone
abbrev pub change_by : (Scope → ResolvedTarget → Expr → List Stmt) → (Scope → ResolvedTarget) → (Scope → ExprReading) → Walk
change_by becomes target value s =
    let t = target s in
    let v = value s in
    fragment (becomes s t v.expr) (names_only (assigned_names s t ++ v.names)) s

abbrev pub change_by_one : (Scope → ResolvedTarget → Expr → List Stmt) → (Scope → ResolvedTarget) → Walk
change_by_one becomes target s = let t = target s in fragment (becomes s t one) (names_only (assigned_names s t)) s

abbrev pub change_fragment : ℕ → RawChange → Walk
change_fragment p (change.Set t o e) = change_by (λ s. operated s p o) (target_in t) (reading e)
change_fragment p (change.Up t) = change_by_one (λ s. increased s p false) (target_in t)
change_fragment p (change.UpBefore t) = change_by_one (λ s. increased s p false) (target_in t)
change_fragment p (change.Down t) = change_by_one (λ s. combined s p binary.Sub) (target_in t)
change_fragment p (change.DownBefore t) = change_by_one (λ s. combined s p binary.Sub) (target_in t)

-- an addition under a pragma that makes it atomic
abbrev pub atomic_fragment : ℕ → (Scope → ResolvedTarget) → (Scope → ExprReading) → Walk
atomic_fragment p = change_by (λ s. increased s p true)

-- ---- loops (C17 6.8.5)

-- A step: the names that stand where the iterator should, the names of its expression, and its number, if it is constant.
pub record StepReading : Type 0 where
  pub variables : List Spelling
  pub names : List Occurrence
  pub number : Option ℤ

abbrev pub step_by : List Spelling → (ℤ → ℤ) → ExprReading → StepReading
step_by variables sign r = record { variables = variables; names = r.names; number = option_map sign (constant_of r.expr) }

abbrev pub step_one : Spelling → ℤ → StepReading
step_one i n = record { variables = i ∷ []; names = []; number = Some n }

-- `i -= e` and `i = j - e` go by the negated constant
abbrev pub step_reading : RawStep → Scope → StepReading
step_reading (step.Up i) s = step_one i (pos 1)
step_reading (step.UpBefore i) s = step_one i (pos 1)
step_reading (step.Down i) s = step_one i (negsuc 0)
step_reading (step.DownBefore i) s = step_one i (negsuc 0)
step_reading (step.AddBy i e) s = step_by (i ∷ []) (λ n. n) (reading e s)
step_reading (step.SubBy i e) s = step_by (i ∷ []) neg_ℤ (reading e s)
step_reading (step.SetAdd i j e) s = step_by (i ∷ j ∷ []) (λ n. n) (reading e s)
step_reading (step.SetSub i j e) s = step_by (i ∷ j ∷ []) neg_ℤ (reading e s)

abbrev pub line_of : Spelling → Line
line_of l = record { text = l.text; place = l.place }

abbrev pub mark_of : Option (ℕ × Schedule) → Mark
mark_of (Some m) = Parallel m.0 m.1
mark_of None = Plain

-- a loop declares its iterator, or it takes a local
abbrev pub iterator_role : Bool → Role
iterator_role true = Declared
iterator_role false = Iterates

-- A loop's pragmas and header, and its body.
pub record Parts : Type 0 where
  pub line : Option Spelling
  pub parallel : Option (ℕ × Schedule)
  pub typed : Bool
  pub iter : Spelling
  pub start : Scope → ExprReading
  pub start_place : ℕ
  pub tested : Spelling
  pub test : Test
  pub limit : Scope → ExprReading
  pub limit_place : ℕ
  pub step : Scope → StepReading
  pub body : Walk

-- what a loop becomes
abbrev pub loop_of : Parts → ℕ → ExprReading → ExprReading → StepReading → List Stmt → Loop
loop_of l p start limit by body = roll-Loop (record {
  place = p;
  iter = l.iter.text;
  start = start.expr;
  test = l.test;
  limit = limit.expr;
  step = unwrap_or by.number (pos 0);
  body = body;
  line = option_map line_of l.line;
  mark = mark_of l.parallel;
})

-- all these names are the iterator's
abbrev pub is_one : Spelling → List Spelling → Bool
is_one iter names = list_all (λ n. bytes_eq n.text iter.text) names

-- A loop is a scope. Its start stands outside of it; limit, step and body stand inside.
abbrev pub loop_fragment : Parts → PlacedWalk
loop_fragment l p s =
    let inner = in_loop l.iter s in
    let start = l.start s in
    let limit = l.limit inner in
    let by = l.step inner in
    let body = l.body inner in
    let others = l.tested ∷ by.variables in
    let loop = loop_of l p start limit by body.body in
    let names = occurrence (iterator_role l.typed) s l.iter ∷ (start.names ++ (limit.names ++ (map (occurrence InHeader inner) others ++ by.names))) in
    let site : LoopSite = record {
      loop = loop;
      level = s.level;
      place = p;
      start = l.start_place;
      limit = l.limit_place;
      one_variable = is_one l.iter others;
      step = by.number;
    } in
    fragment (stmt.For loop ∷ []) (both (record { locals = []; names = names; loops = site ∷ [] }) body.notes) (behind s body.next)

-- ---- blocks and branches (C17 6.8.2 and 6.8.4)

-- a statement as the body of a loop or a branch, which is a scope of its own
abbrev pub branch : Walk → Walk
branch p s = let inner = p s in record inner { next = behind s inner.next }

-- what stands behind `else`, if there is one
abbrev pub else_branch : Option Walk → Walk
else_branch (Some p) s = branch p s
else_branch None s = fragment [] no_notes s

abbrev pub if_fragment : ℕ → (Scope → ExprReading) → Walk → Option Walk → Walk
if_fragment p test body otherwise s =
    let condition = test s in
    let first = branch body s in
    let second = else_branch otherwise first.next in
    fragment (stmt.If p condition.expr first.body second.body ∷ []) (both (names_only condition.names) (both first.notes second.notes)) second.next

-- `{ .. }`: as a statement a block, and as a body its list
abbrev pub block_fragment : List Walk → Walk
block_fragment ss s =
    let inner = in_order ss s in
    record { statements = stmt.Block inner.statements ∷ []; body = inner.statements; notes = inner.notes; next = behind s inner.next }

-- an empty statement leaves nothing behind
abbrev pub empty_fragment : Walk
empty_fragment s = fragment [] no_notes s

-- ---- statements

abbrev pub what_at : RawWhat-F PlacedWalk PlacedWalk Walk → PlacedWalk
what_at (RawWhat-F.Declare k locals) p = in_order (map (declarator k) locals)
what_at (RawWhat-F.Block ss) p = block_fragment ss
what_at RawWhat-F.Empty p = empty_fragment
what_at (RawWhat-F.If test body otherwise) p = if_fragment p (reading test) body otherwise
what_at (RawWhat-F.Loop l) p = l p
what_at (RawWhat-F.Change c) p = change_fragment p c
what_at (RawWhat-F.Atomic t e) p = atomic_fragment p (target_in t) (reading e)

abbrev pub loop_at : RawLoop-F PlacedWalk PlacedWalk Walk → PlacedWalk
loop_at l = loop_fragment (record {
  line = l.line;
  parallel = l.parallel;
  typed = l.typed;
  iter = l.iter;
  start = reading l.start;
  start_place = place_of l.start;
  tested = l.tested;
  test = l.test;
  limit = reading l.limit;
  limit_place = place_of l.limit;
  step = step_reading l.step;
  body = l.body;
})

abbrev pub stmt_at : RawStmt-F PlacedWalk PlacedWalk Walk → Walk
stmt_at s = s.what s.place

-- What a statement becomes in a scope.
abbrev pub stmt_fragment : RawStmt → Walk
stmt_fragment = fold-RawStmt PlacedWalk PlacedWalk Walk what_at loop_at stmt_at
