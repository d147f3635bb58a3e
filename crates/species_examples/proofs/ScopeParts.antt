-- Parts of programs of which is known what they become, for worked examples: each is a fragment of the raw tree, what it becomes,
-- and that it does.
use Rattle.std.proofs.Common.{◌≡◌, ◌∙◌, ap, refl, ℕ, ◌+◌, List, [], ◌∷◌, map, flat_map, Option, Some, None, option_map, Bool, true, false, pos, negsuc, neg_ℤ, Result, Err}
use Rattle.std.specs.Prelude.{codes}
use Rattle.std.specs.List.{filter_map}
use Prim.Native.String.{String}
use Rattle.species_ast.specs.Spelling.{Spelling}
use Rattle.species_ast.specs.Grammar.Expressions.{expression, target, place_of}
use Rattle.species_ast.specs.Grammar.Declarations.{statement}
use Rattle.species_ast.specs.declared.tree.Kind.{Kind}
use Rattle.species_ast.specs.declared.tree.Kind.TheVariants as kind
use Rattle.species_ast.specs.declared.tree.Value.TheVariants as value
use Rattle.species_ast.specs.declared.tree.Binary.{Binary}
use Rattle.species_ast.specs.declared.tree.Binary.TheVariants as binary
use Rattle.species_ast.specs.declared.tree.Test.{Test}
use Rattle.species_ast.specs.declared.tree.Test.TheVariants as test
use Rattle.species_ast.specs.declared.tree.Schedule.{Schedule}
use Rattle.species_ast.specs.declared.tree.Schedule.TheVariants as schedule
use Rattle.species_ast.specs.declared.tree.Mark.TheVariants as mark
use Rattle.species_ast.specs.declared.tree.Expr.{Expr}
use Rattle.species_ast.specs.declared.tree.Expr.TheVariants as expr
use Rattle.species_ast.specs.declared.tree.Stmt.{Stmt}
use Rattle.species_ast.specs.declared.tree.Stmt.TheVariants as stmt
use Rattle.species_ast.specs.declared.tree.Loop.{roll-Loop}
use Rattle.species_ast.specs.declared.tree.LocalInfo.{LocalInfo}
use Rattle.species_ast.specs.declared.tree.Array.{Array}
use Rattle.species_ast.specs.declared.tree.Unit.{Unit}
use Rattle.species_ast.specs.declared.raw.RawExpr.{RawExpr}
use Rattle.species_ast.specs.declared.raw.RawTarget.{RawTarget}
use Rattle.species_ast.specs.declared.raw.RawTerm.TheVariants as term
use Rattle.species_ast.specs.declared.raw.RawUnary.TheVariants as unary
use Rattle.species_ast.specs.declared.raw.RawItem.{RawItem}
use Rattle.species_ast.specs.declared.raw.RawItem.TheVariants as item
use Rattle.species_ast.specs.declared.raw.RawLocal.{RawLocal}
use Rattle.species_ast.specs.declared.raw.RawOp.{RawOp}
use Rattle.species_ast.specs.declared.raw.RawChange.TheVariants as change
use Rattle.species_ast.specs.declared.raw.RawStep.{RawStep}
use Rattle.species_ast.specs.declared.raw.RawStep.TheVariants as step
use Rattle.species_ast.specs.declared.raw.RawStmt.{RawStmt}
use Rattle.species_ast.specs.declared.raw.RawLoop.{roll-RawLoop}
use Rattle.species_ast.specs.declared.raw.RawWhat.TheVariants as what
use Rattle.species_ast.specs.declared.raw.RawUnit.{RawUnit}
use Rattle.species_ast.specs.Scope.Meanings.{Scope}
use Rattle.species_ast.specs.Scope.Expressions.{ExprReading, ResolvedTarget, reading, target_in, taken, one_part, two_parts, unary_expr}
use Rattle.species_ast.specs.Scope.Statements.{Walk, StepReading, step_by, step_one, step_reading, in_order, local_fragment, declarator, change_by, change_by_one, operated, increased, combined, atomic_fragment, if_fragment, block_fragment, empty_fragment, loop_fragment, stmt_fragment}
use Rattle.species_ast.specs.Scope.Programs.{SizeParts, size_parts, ArrayParts, Program, program_with, in_two_walks, program_of, arrays_of, header_of}
use Rattle.species_ast.specs.Scope.Refusals.{Refusal, Finding}
use Rattle.species_ast.specs.Scope.Conditions.{resolution_of, resolved}
use Rattle.species_ast.proofs.Folds.{fold_expr-Literal, fold_expr-Iter, fold_expr-Local, fold_expr-Elem, fold_expr-Unary, fold_expr-Binary, fold_stmt-Assign, fold_stmt-AddTo, fold_stmt-Declare, fold_stmt-SetLocal, fold_stmt-If, fold_stmt-For, fold_stmt-Block, fold_loop}
use Rattle.species_ast.proofs.Paras.{para_expr-Literal, para_expr-Iter, para_expr-Local, para_expr-Elem, para_expr-Unary, para_expr-Binary, para_stmt-Assign, para_stmt-AddTo, para_stmt-Declare, para_stmt-SetLocal, para_stmt-If, para_stmt-For, para_stmt-Block, para_loop}
use Rattle.species_ast.proofs.ScopeLaws.{reading-Number, reading-Target, reading-Unary, reading-Binary, readings, target_with, target_in-target, stmt_fragment-Declare, stmt_fragment-Block, stmt_fragment-Empty, stmt_fragment-If, stmt_fragment-IfElse, stmt_fragment-Change, stmt_fragment-Atomic, stmt_fragment-Loop}

-- ---- expressions

-- an expression, and what it becomes
pub record Known : Type 0 where
  pub raw : RawExpr
  pub reads : Scope → ExprReading
  pub is : reading raw ≡ reads

abbrev pub raws : List Known → List RawExpr
raws es = map (λ e. e.raw) es

abbrev pub reads_of : List Known → Scope → List ExprReading
reads_of es s = map (λ e. e.reads s) es

pub readings_are : (es : List Known) → readings (raws es) ≡ reads_of es
readings_are [] = refl
readings_are (e ∷ es) = λ i s. e.is i s ∷ readings_are es i s

abbrev pub at : ℕ → String → Spelling
at p s = record { text = codes s; place = p }

-- the number n at a place
abbrev pub num : ℕ → ℕ → Known
num p n = record {
  raw = expression p (term.Number (value.Int (pos n)));
  reads = λ s. record { expr = expr.Literal (value.Int (pos n)); names = [] };
  is = λ i s. reading-Number p (value.Int (pos n)) s i;
}

-- a name with subscripts, as a target ..
pub record KnownTarget : Type 0 where
  pub raw : RawTarget
  pub reads : Scope → ResolvedTarget
  pub is : target_in raw ≡ reads

abbrev pub spot : ℕ → String → List Known → KnownTarget
spot p n subs = record {
  raw = target (at p n) (raws subs);
  reads = λ s. target_with (at p n) (reads_of subs s) s;
  is = (λ i s. target_in-target (at p n) (raws subs) s i) ∙ (λ i s. target_with (at p n) (readings_are subs i s) s);
}

-- .. and as an operand
abbrev pub elem : ℕ → String → List Known → Known
elem p n subs = record {
  raw = expression p (term.Target (spot p n subs).raw);
  reads = λ s. taken s ((spot p n subs).reads s);
  is = (λ i s. reading-Target p (spot p n subs).raw s i) ∙ (λ i s. taken s ((spot p n subs).is i s));
}

abbrev pub var : ℕ → String → Known
var p n = elem p n []

-- a binary operation; its place is that of its left side
abbrev pub bin : ℕ → Binary → Known → Known → Known
bin p o a b = record {
  raw = expression p (term.Binary o a.raw b.raw);
  reads = λ s. two_parts (expr.Binary o) (a.reads s) (b.reads s);
  is = (λ i s. reading-Binary p o a.raw b.raw s i) ∙ (λ i s. two_parts (expr.Binary o) (a.is i s) (b.is i s));
}

-- `-e`
abbrev pub neg : ℕ → Known → Known
neg p a = record {
  raw = expression p (term.Unary unary.Neg a.raw);
  reads = λ s. one_part (unary_expr unary.Neg) (a.reads s);
  is = (λ i s. reading-Unary p unary.Neg a.raw s i) ∙ (λ i s. one_part (unary_expr unary.Neg) (a.is i s));
}

-- ---- statements

-- a statement, and what it becomes
pub record Does : Type 0 where
  pub raw : RawStmt
  pub walk : Walk
  pub is : stmt_fragment raw ≡ walk

abbrev pub raw_stmts : List Does → List RawStmt
raw_stmts ss = map (λ s. s.raw) ss

abbrev pub walks : List Does → List Walk
walks ss = map (λ s. s.walk) ss

pub walks_are : (ss : List Does) → map stmt_fragment (raw_stmts ss) ≡ walks ss
walks_are [] = refl
walks_are (s ∷ ss) = λ i. s.is i ∷ walks_are ss i

-- `t = e;`, `t += e;` and the like
abbrev pub set : ℕ → KnownTarget → RawOp → Known → Does
set p t o e = record {
  raw = statement p (what.Change (change.Set t.raw o e.raw));
  walk = change_by (λ s. operated s p o) t.reads e.reads;
  is = stmt_fragment-Change p (change.Set t.raw o e.raw) ∙ (λ i. change_by (λ s. operated s p o) (t.is i) (e.is i));
}

-- `t++;` and `--t;`
abbrev pub up : ℕ → KnownTarget → Does
up p t = record {
  raw = statement p (what.Change (change.Up t.raw));
  walk = change_by_one (λ s. increased s p false) t.reads;
  is = stmt_fragment-Change p (change.Up t.raw) ∙ (λ i. change_by_one (λ s. increased s p false) (t.is i));
}

abbrev pub down_before : ℕ → KnownTarget → Does
down_before p t = record {
  raw = statement p (what.Change (change.DownBefore t.raw));
  walk = change_by_one (λ s. combined s p binary.Sub) t.reads;
  is = stmt_fragment-Change p (change.DownBefore t.raw) ∙ (λ i. change_by_one (λ s. combined s p binary.Sub) (t.is i));
}

-- `t += e;` under an atomic pragma
abbrev pub atomic : ℕ → KnownTarget → Known → Does
atomic p t e = record {
  raw = statement p (what.Atomic t.raw e.raw);
  walk = atomic_fragment p t.reads e.reads;
  is = stmt_fragment-Atomic p t.raw e.raw ∙ (λ i. atomic_fragment p (t.is i) (e.is i));
}

-- a name with its initialiser
pub record KnownLocal : Type 0 where
  pub raw : RawLocal
  pub reads : Option (Scope → ExprReading)
  pub is : option_map reading raw.init ≡ reads

abbrev pub plain : ℕ → String → KnownLocal
plain p n = record { raw = record { name = at p n; init = None }; reads = None; is = refl }

abbrev pub with_value : ℕ → String → Known → KnownLocal
with_value p n e = record { raw = record { name = at p n; init = Some e.raw }; reads = Some e.reads; is = λ i. Some (e.is i) }

abbrev pub local_walks : Kind → List KnownLocal → List Walk
local_walks k ls = map (λ l. local_fragment k l.raw.name l.reads) ls

pub local_walks_are : (k : Kind) (ls : List KnownLocal) → map (declarator k) (map (λ l. l.raw) ls) ≡ local_walks k ls
local_walks_are k [] = refl
local_walks_are k (l ∷ ls) = λ i. local_fragment k l.raw.name (l.is i) ∷ local_walks_are k ls i

-- `int x, y = e;`
abbrev pub declare : ℕ → Kind → List KnownLocal → Does
declare p k ls = record {
  raw = statement p (what.Declare k (map (λ l. l.raw) ls));
  walk = in_order (local_walks k ls);
  is = stmt_fragment-Declare p k (map (λ l. l.raw) ls) ∙ (λ i. in_order (local_walks_are k ls i));
}

abbrev pub block : ℕ → List Does → Does
block p ss = record {
  raw = statement p (what.Block (raw_stmts ss));
  walk = block_fragment (walks ss);
  is = stmt_fragment-Block p (raw_stmts ss) ∙ (λ i. block_fragment (walks_are ss i));
}

abbrev pub empty : ℕ → Does
empty p = record { raw = statement p what.Empty; walk = empty_fragment; is = stmt_fragment-Empty p }

abbrev pub if_else : ℕ → Known → Does → Does → Does
if_else p e s t = record {
  raw = statement p (what.If e.raw s.raw (Some t.raw));
  walk = if_fragment p e.reads s.walk (Some t.walk);
  is = stmt_fragment-IfElse p e.raw s.raw t.raw ∙ (λ i. if_fragment p (e.is i) (s.is i) (Some (t.is i)));
}

abbrev pub if_only : ℕ → Known → Does → Does
if_only p e s = record {
  raw = statement p (what.If e.raw s.raw None);
  walk = if_fragment p e.reads s.walk None;
  is = stmt_fragment-If p e.raw s.raw ∙ (λ i. if_fragment p (e.is i) (s.is i) None);
}

-- ---- loops

pub record KnownStep : Type 0 where
  pub raw : RawStep
  pub reads : Scope → StepReading
  pub is : step_reading raw ≡ reads

-- `i++`, `++i`, `i--` and `--i`; the place is that of the name
abbrev pub plus_plus : ℕ → String → KnownStep
plus_plus p n = record { raw = step.Up (at p n); reads = λ s. step_one (at p n) (pos 1); is = refl }

abbrev pub plus_plus_before : ℕ → String → KnownStep
plus_plus_before p n = record { raw = step.UpBefore (at p n); reads = λ s. step_one (at p n) (pos 1); is = refl }

abbrev pub minus_minus : ℕ → String → KnownStep
minus_minus p n = record { raw = step.Down (at p n); reads = λ s. step_one (at p n) (negsuc 0); is = refl }

abbrev pub minus_minus_before : ℕ → String → KnownStep
minus_minus_before p n = record { raw = step.DownBefore (at p n); reads = λ s. step_one (at p n) (negsuc 0); is = refl }

-- `i += e` and `i -= e`
abbrev pub add_by : ℕ → String → Known → KnownStep
add_by p n e = record {
  raw = step.AddBy (at p n) e.raw;
  reads = λ s. step_by (at p n ∷ []) (λ x. x) (e.reads s);
  is = λ i s. step_by (at p n ∷ []) (λ x. x) (e.is i s);
}

abbrev pub sub_by : ℕ → String → Known → KnownStep
sub_by p n e = record {
  raw = step.SubBy (at p n) e.raw;
  reads = λ s. step_by (at p n ∷ []) neg_ℤ (e.reads s);
  is = λ i s. step_by (at p n ∷ []) neg_ℤ (e.is i s);
}

-- `i = j + e` and `i = j - e`, where `j` stands 4 behind `i`
abbrev pub set_add : ℕ → String → String → Known → KnownStep
set_add p n m e = record {
  raw = step.SetAdd (at p n) (at (p + 4) m) e.raw;
  reads = λ s. step_by (at p n ∷ at (p + 4) m ∷ []) (λ x. x) (e.reads s);
  is = λ i s. step_by (at p n ∷ at (p + 4) m ∷ []) (λ x. x) (e.is i s);
}

abbrev pub set_sub : ℕ → String → String → Known → KnownStep
set_sub p n m e = record {
  raw = step.SetSub (at p n) (at (p + 4) m) e.raw;
  reads = λ s. step_by (at p n ∷ at (p + 4) m ∷ []) neg_ℤ (e.reads s);
  is = λ i s. step_by (at p n ∷ at (p + 4) m ∷ []) neg_ℤ (e.is i s);
}

-- a loop's pragmas, header and body
pub record KnownLoop : Type 0 where
  pub parallel : Option (ℕ × Schedule)
  pub typed : Bool
  pub iter : Spelling
  pub start : Known
  pub tested : Spelling
  pub test : Test
  pub limit : Known
  pub step : KnownStep
  pub body : Does

abbrev pub loop : ℕ → KnownLoop → Does
loop p l = record {
  raw = statement p (what.Loop (roll-RawLoop (record {
    line = None;
    parallel = l.parallel;
    typed = l.typed;
    iter = l.iter;
    start = l.start.raw;
    tested = l.tested;
    test = l.test;
    limit = l.limit.raw;
    step = l.step.raw;
    body = l.body.raw;
  })));
  walk = loop_fragment (record {
    line = None;
    parallel = l.parallel;
    typed = l.typed;
    iter = l.iter;
    start = l.start.reads;
    start_place = place_of l.start.raw;
    tested = l.tested;
    test = l.test;
    limit = l.limit.reads;
    limit_place = place_of l.limit.raw;
    step = l.step.reads;
    body = l.body.walk;
  }) p;
  is = stmt_fragment-Loop p (record {
    line = None;
    parallel = l.parallel;
    typed = l.typed;
    iter = l.iter;
    start = l.start.raw;
    tested = l.tested;
    test = l.test;
    limit = l.limit.raw;
    step = l.step.raw;
    body = l.body.raw;
  }) ∙ (λ i. loop_fragment (record {
    line = None;
    parallel = l.parallel;
    typed = l.typed;
    iter = l.iter;
    start = l.start.is i;
    start_place = place_of l.start.raw;
    tested = l.tested;
    test = l.test;
    limit = l.limit.is i;
    limit_place = place_of l.limit.raw;
    step = l.step.is i;
    body = l.body.is i;
  }) p);
}

-- `for (int i = 0; i < n; i++) s`, and the same without `int`; its names stand 9, 16 and 23 behind the `for`
abbrev pub count_up : ℕ → String → Known → Does → Does
count_up p n limit s = loop p (record {
  parallel = None;
  typed = true;
  iter = at (p + 9) n;
  start = num (p + 13) 0;
  tested = at (p + 16) n;
  test = test.Lt;
  limit = limit;
  step = plus_plus (p + 23) n;
  body = s;
})

-- `for (i = e; i < 4; i++) ;`, where the start stands 9 behind the `for`
abbrev pub old_loop : ℕ → String → Known → Does → Does
old_loop p n start s = loop p (record { parallel = None; typed = false; iter = at (p + 5) n; start = start; tested = at (p + 12) n; test = test.Lt; limit = num (p + 16) 4; step = plus_plus (p + 19) n; body = s })

-- `for (int i = 0; i < 4; i++) s` with a mark of this depth
abbrev pub marked : ℕ → ℕ → String → Known → Does → Does
marked depth p n limit s = loop p (record { parallel = Some (depth, schedule.Static); typed = true; iter = at (p + 9) n; start = num (p + 13) 0; tested = at (p + 16) n; test = test.Lt; limit = limit; step = plus_plus (p + 23) n; body = s })

-- ---- programs

-- an array with its sizes
pub record KnownArray : Type 0 where
  pub name : Spelling
  pub sizes : List Known

abbrev pub known_size : Known → SizeParts
known_size e = record { place = place_of e.raw; reads = e.reads }

pub sizes_are : (es : List Known) → map size_parts (raws es) ≡ map known_size es
sizes_are [] = refl
sizes_are (e ∷ es) = λ i. record { place = place_of e.raw; reads = e.is i } ∷ sizes_are es i

abbrev pub raw_items : List KnownArray → List RawItem
raw_items xs = map (λ a. item.Global kind.Int (record { name = a.name; sizes = raws a.sizes } ∷ [])) xs

abbrev pub array_parts : List KnownArray → List ArrayParts
array_parts xs = map (λ a. record { kind = kind.Int; name = a.name; sizes = map known_size a.sizes }) xs

pub arrays_are : (xs : List KnownArray) → flat_map arrays_of (raw_items xs) ≡ array_parts xs
arrays_are [] = refl
arrays_are (a ∷ xs) = λ i. record { kind = kind.Int; name = a.name; sizes = sizes_are a.sizes i } ∷ arrays_are xs i

pub no_headers : (xs : List KnownArray) → filter_map header_of (raw_items xs) ≡ []
no_headers [] = refl
no_headers (a ∷ xs) = no_headers xs

-- a program of int arrays and a function, and what it becomes
pub record KnownProgram : Type 0 where
  pub raw : RawUnit
  pub program : Program
  pub is : program_of raw ≡ program

abbrev pub program : List KnownArray → Spelling → List Does → KnownProgram
program xs f ss = record {
  raw = record { items = raw_items xs; function = f; body = raw_stmts ss };
  program = in_two_walks (program_with [] (array_parts xs) f (walks ss));
  is = λ i. in_two_walks (program_with (no_headers xs i) (arrays_are xs i) f (walks_are ss i));
}

abbrev pub answers : KnownProgram → Result Unit Finding → Type 0
answers u a = resolved u.raw ≡ a

-- the answer is that of what the program is known to become
pub answer : (u : KnownProgram) (a : Result Unit Finding) → resolution_of u.program ≡ a → answers u a
answer u a h = ap resolution_of u.is ∙ h

-- the unit that a program becomes, whether or not something in it is refused
abbrev pub becomes : KnownProgram → Unit → Type 0
becomes u a = (program_of u.raw).unit ≡ a

pub become : (u : KnownProgram) (a : Unit) → u.program.unit ≡ a → becomes u a
become u a h = ap (λ p. p.unit) u.is ∙ h

abbrev pub refused : Refusal → ℕ → Result Unit Finding
refused r p = Err (record { refusal = r; place = p })

abbrev pub k_at_5 : Spelling
k_at_5 = at 5 "k"

abbrev pub k_at_15 : Spelling
k_at_15 = at 15 "k"

-- `int A[4]; `
abbrev pub a4 : KnownArray
a4 = record { name = at 4 "A"; sizes = num 6 4 ∷ [] }

-- ---- units

abbrev pub int : ℕ → Expr
int n = expr.Literal (value.Int (pos n))

abbrev pub unit : List Array → List LocalInfo → List Stmt → Unit
unit arrays locals body = record { includes = []; arrays = arrays; locals = locals; function = codes "k"; body = body }

abbrev pub int_local : String → LocalInfo
int_local n = record { name = codes n; kind = kind.Int }

abbrev pub array_a : Array
array_a = record { name = codes "A"; kind = kind.Int; dims = 4 ∷ [] }

-- the loop that counts up to 4 with this body
abbrev pub loop_to_4 : ℕ → String → List Stmt → Stmt
loop_to_4 p n body = stmt.For (roll-Loop (record { place = p; iter = codes n; start = int 0; test = test.Lt; limit = int 4; step = pos 1; body = body; line = None; mark = mark.Plain }))

-- ---- computing

-- the fronts of loops, and the forms of expressions and the fronts of loops, part by part
pub ruleset fronts = (fold_stmt-Assign, fold_stmt-AddTo, fold_stmt-Declare, fold_stmt-SetLocal, fold_stmt-If, fold_stmt-For, fold_stmt-Block, fold_loop, para_stmt-Assign, para_stmt-AddTo, para_stmt-Declare, para_stmt-SetLocal, para_stmt-If, para_stmt-For, para_stmt-Block, para_loop)

pub ruleset folded = (para_expr-Literal, para_expr-Iter, para_expr-Local, para_expr-Elem, para_expr-Unary, para_expr-Binary, para_stmt-Assign, para_stmt-AddTo, para_stmt-Declare, para_stmt-SetLocal, para_stmt-If, para_stmt-For, para_stmt-Block, para_loop, fold_expr-Literal, fold_expr-Iter, fold_expr-Local, fold_expr-Elem, fold_expr-Unary, fold_expr-Binary, fold_stmt-Assign, fold_stmt-AddTo, fold_stmt-Declare, fold_stmt-SetLocal, fold_stmt-If, fold_stmt-For, fold_stmt-Block, fold_loop)
