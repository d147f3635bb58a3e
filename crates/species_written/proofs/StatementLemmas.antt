-- The names that are noted in a statement, and the statements in it, are together no more than its tokens.
use Rattle.std.proofs.Common.{◌≡◌, ap, refl, ℕ, suc, ◌+◌, ◌≤◌, Bool, true, false, List, [], ◌∷◌, ◌++◌, map, length, Option, Some, None, arith, length-append}
use Rattle.std.specs.Prelude.{sum, if◌then◌else◌, is_some, option_map, unwrap_or}
use Rattle.species_ast.specs.Token.{Token}
use Rattle.species_ast.specs.Spelling.{Spelling}
use Rattle.species_ast.specs.Signs.{assignment_sign, test_sign}
use Rattle.species_ast.specs.declared.tree.Kind.{Kind}
use Rattle.species_ast.specs.declared.tree.Expr.{Expr}
use Rattle.species_ast.specs.declared.tree.Stmt.{Stmt}
use Rattle.species_ast.specs.declared.tree.Binary.TheVariants as binary
use Rattle.species_ast.specs.declared.raw.RawExpr.{RawExpr}
use Rattle.species_ast.specs.declared.raw.RawTarget.{RawTarget}
use Rattle.species_ast.specs.declared.raw.RawLocal.{RawLocal}
use Rattle.species_ast.specs.declared.raw.RawChange.{RawChange}
use Rattle.species_ast.specs.declared.raw.RawStep.{RawStep}
use Rattle.species_ast.specs.declared.raw.RawStmt.{RawStmt}
use Rattle.species_ast.specs.declared.raw.RawLoop.{RawLoop}
use Rattle.species_ast.specs.declared.raw.RawWhat.{RawWhat}
use Rattle.species_ast.specs.declared.raw.RawWhat.TheOpen.{RawLoop-F}
use Rattle.species_ast.specs.Grammar.Words.{sign, punctuator, keyword, name}
use Rattle.species_ast.specs.Grammar.Expressions.{TypeSpecifier, Expression, Target}
use Rattle.species_ast.specs.Grammar.Declarations.{InitDeclarator, MoreDeclarators, LocalDeclaration}
use Rattle.species_ast.specs.Grammar.Statements.{Change, Step, Header, ForHeader, Statement, BlockItems, target_place}
use Rattle.species_ast.specs.Scope.Meanings.{Local, Scope, scope_with_local, in_loop, behind, is_among, occurrence, InHeader, Declared, Occurrence}
use Rattle.species_ast.specs.Scope.Expressions.{ExprReading, ResolvedTarget, reading, target_in}
use Rattle.species_ast.specs.Scope.Statements.{Walk, Fragment, Parts, fragment, names_only, in_order, kept_local, local_fragment, declarator, operated, increased, combined, change_by, change_by_one, change_fragment, step_reading, loop_fragment, stmt_fragment}
use Rattle.species_ast.specs.Scope.Written.{statements_in}
use Rattle.species_ast.proofs.ScopeLaws.{stmt_fragment-Declare, stmt_fragment-Block, stmt_fragment-Empty, stmt_fragment-If, stmt_fragment-IfElse, stmt_fragment-Change, stmt_fragment-Atomic, stmt_fragment-Loop, parts_in}
use Rattle.species_written.proofs.NameLemmas.{expr_fits, target_fits}
use Rattle.species_written.proofs.CountLemmas.{statements_in-Declare, statements_in-Block, statements_in-Empty, statements_in-If, statements_in-IfElse, statements_in-Change, statements_in-Atomic, statements_in-Loop, statements_in-list}

-- how many names are noted in a fragment
abbrev pub noted : Fragment → ℕ
noted p = length p.notes.names

-- a statement, with the names in it, in any scope
abbrev pub StmtFits : RawStmt → ℕ → Type 0
StmtFits x n = (s : Scope) → noted (stmt_fragment x s) + statements_in x ≤ n

abbrev pub ListFits : List RawStmt → ℕ → Type 0
ListFits xs n = (s : Scope) → noted (in_order (map stmt_fragment xs) s) + sum (map statements_in xs) ≤ n

-- by what the statement becomes, and by how many statements it is
stmt_as : (x : RawStmt) (n : ℕ) (w : Walk) (k : ℕ) → stmt_fragment x ≡ w → statements_in x ≡ k → ((s : Scope) → noted (w s) + k ≤ n) → StmtFits x n
stmt_as x n w k is e h = λ s.
    let i : noted (stmt_fragment x s) ≡ noted (w s) = ap (λ (z : Walk). noted (z s)) is in
    omega (arith, i, e, h s)

-- ---- changes

by_value : (f : Scope → ResolvedTarget → Expr → List Stmt) (t : RawTarget) (x : RawExpr) (ts xs : List Token) (n : ℕ) → Target t ts → Expression n x xs
    → (s : Scope) → noted (change_by f (target_in t) (reading x) s) ≤ length ts + length xs
by_value f t x ts xs n dt dx s =
    let a = target_fits s t ts dt in
    let b = expr_fits s n x xs dx in
    omega (arith, a, b, length-append (target_in t s).names (reading x s).names)

by_one : (f : Scope → ResolvedTarget → Expr → List Stmt) (t : RawTarget) (ts : List Token) → Target t ts → (s : Scope) → noted (change_by_one f (target_in t) s) ≤ length ts
by_one f t ts dt s = target_fits s t ts dt

change_fits : (p q : ℕ) (x : RawChange) (ts : List Token) → Change q x ts → (s : Scope) → noted (change_fragment p x s) + 1 ≤ length ts
change_fits p q x ts (Change.set r o t y us ys dt dy) s =
    omega (arith, by_value (λ s. operated s p o) t y us ys _ dt dy s, length-append us (sign r (assignment_sign o) ∷ ys))
change_fits p q x ts (Change.up r t us dt) s = omega (arith, by_one (λ s. increased s p false) t us dt s, length-append us (punctuator r "++" ∷ []))
change_fits p q x ts (Change.down r t us dt) s = omega (arith, by_one (λ s. combined s p binary.Sub) t us dt s, length-append us (punctuator r "--" ∷ []))
change_fits p q x ts (Change.up_before r t us dt) s = omega (arith, by_one (λ s. increased s p false) t us dt s)
change_fits p q x ts (Change.down_before r t us dt) s = omega (arith, by_one (λ s. combined s p binary.Sub) t us dt s)

-- ---- declarations

-- the names of a declarator, whether it is kept or not
local_noted : (k : Kind) (n : Spelling) (init : Option (Scope → ExprReading)) (s : Scope) (m : ℕ)
    → ((d : Scope) → length (unwrap_or (option_map (λ (r : ExprReading). r.names) (option_map (λ (read : Scope → ExprReading). read d) init)) []) ≤ m)
    → noted (local_fragment k n init s) ≤ suc m
local_noted k n init s m h =
    let x : Local = record { serial = s.serials; kind = k; initialised = is_some init } in
    let inner = scope_with_local n x s in
    let value = option_map (λ (read : Scope → ExprReading). read inner) init in
    let names = occurrence Declared s n ∷ unwrap_or (option_map (λ (r : ExprReading). r.names) value) [] in
    go inner value names (omega (arith, h inner)) (is_among s.iterators s.serials)
  where
    go : (inner : Scope) (value : Option ExprReading) (names : List Occurrence) → length names ≤ suc m → (c : Bool)
        → noted (if c then fragment [] (names_only names) inner
        else fragment (kept_local k n value s) (record { locals = record { name = n.text; kind = k } ∷ []; names = names; loops = [] }) inner) ≤ suc m
    go inner value names e true = e
    go inner value names e false = e

declarator_fits : (k : Kind) (l : RawLocal) (ts : List Token) → InitDeclarator l ts → (s : Scope) → noted (declarator k l s) ≤ length ts
declarator_fits k l ts (InitDeclarator.plain n) s = local_noted k n None s 0 (λ d. omega arith)
declarator_fits k l ts (InitDeclarator.initialised p n e es d) s =
    let a = local_noted k n (Some (reading e)) s (length es) (λ i. expr_fits i _ e es d) in
    omega (arith, a)

-- one fragment before others
then_fits : (w : Walk) (ws : List Walk) (m n : ℕ) → ((s : Scope) → noted (w s) ≤ m) → ((s : Scope) → noted (in_order ws s) ≤ n) → (s : Scope) → noted (in_order (w ∷ ws) s) ≤ m + n
then_fits w ws m n h k s = omega (arith, h s, k (w s).next, length-append (w s).notes.names (in_order ws (w s).next).notes.names)

declarators_fit : (k : Kind) (ls : List RawLocal) (ts : List Token) → MoreDeclarators ls ts → (s : Scope) → noted (in_order (map (declarator k) ls) s) ≤ length ts
declarators_fit k ls ts MoreDeclarators.none s = omega arith
declarators_fit k ls ts (MoreDeclarators.more p l rest xs us d e) s =
    let a = then_fits (declarator k l) (map (declarator k) rest) (length xs) (length us) (declarator_fits k l xs d) (declarators_fit k rest us e) s in
    omega (arith, a, length-append xs us)

-- a type is a word at least
pub some_type : (p : ℕ) (k : Kind) (ts : List Token) → TypeSpecifier p k ts → 1 ≤ length ts
some_type p k ts (TypeSpecifier.int q) = omega arith
some_type p k ts (TypeSpecifier.unsigned q) = omega arith
some_type p k ts (TypeSpecifier.unsigned_int q r) = omega arith
some_type p k ts (TypeSpecifier.long q r i us o) = omega arith
some_type p k ts (TypeSpecifier.unsigned_long q r u i us o) = omega arith

declaration_fits : (x : RawStmt) (ts : List Token) → LocalDeclaration x ts → StmtFits x (length ts)
declaration_fits x ts (LocalDeclaration.declaration p q k l rest ks xs us t d e) =
    stmt_as _ (length (ks ++ ((xs ++ us) ++ punctuator q ";" ∷ []))) _ _ (stmt_fragment-Declare p k (l ∷ rest)) (statements_in-Declare p k (l ∷ rest))
    (λ s.
    let a = then_fits (declarator k l) (map (declarator k) rest) (length xs) (length us) (declarator_fits k l xs d) (declarators_fit k rest us e) s in
    omega (arith, a, some_type p k ks t, length-append ks ((xs ++ us) ++ punctuator q ";" ∷ []), length-append (xs ++ us) (punctuator q ";" ∷ []), length-append xs us))

-- ---- loops

mapped : {X Y : Type 0} (f : X → Y) (xs : List X) → length (map f xs) ≡ length xs
mapped f [] = refl
mapped f (x ∷ xs) = ap suc (mapped f xs)

step_fits : (x : RawStep) (ts : List Token) → Step x ts → (s : Scope) → length (step_reading x s).variables + length (step_reading x s).names ≤ length ts
step_fits x ts (Step.up p i) s = omega arith
step_fits x ts (Step.up_before p i) s = omega arith
step_fits x ts (Step.down p i) s = omega arith
step_fits x ts (Step.down_before p i) s = omega arith
step_fits x ts (Step.add_by p i e es d) s = omega (arith, expr_fits s _ e es d)
step_fits x ts (Step.sub_by p i e es d) s = omega (arith, expr_fits s _ e es d)
step_fits x ts (Step.set_add p q i j e es d) s = omega (arith, expr_fits s _ e es d)
step_fits x ts (Step.set_sub p q i j e es d) s = omega (arith, expr_fits s _ e es d)

-- the names of a header: those of its start, its limit and its step, and two more
abbrev header_names : Header → Scope → Scope → ℕ
header_names h s d =
    length (reading h.start s).names + (length (reading h.limit d).names + (length (step_reading h.step d).variables + length (step_reading h.step d).names))

header_fits : (h : Header) (hs : List Token) → ForHeader h hs → (s d : Scope) → suc (suc (header_names h s d)) ≤ length hs
header_fits h hs (ForHeader.header p q r o u w b i j c x y st bs xs ys ss opt dx dy ds) s d =
    let a = expr_fits s _ x xs dx in
    let e = expr_fits d _ y ys dy in
    let f = step_fits st ss ds d in
    let closed = ss ++ punctuator w ")" ∷ [] in
    let limited = ys ++ (punctuator u ";" ∷ closed) in
    let started = xs ++ (punctuator r ";" ∷ name j ∷ sign o (test_sign c) ∷ limited) in
    omega (
      arith,
      a,
      e,
      f,
      length-append bs (name i ∷ punctuator q "=" ∷ started),
      length-append xs (punctuator r ";" ∷ name j ∷ sign o (test_sign c) ∷ limited),
      length-append ys (punctuator u ";" ∷ closed),
      length-append ss (punctuator w ")" ∷ []),
    )

-- the names of a loop are those of its header and its body
loop_noted : (l : Parts) (p : ℕ) (s : Scope) →
    let d = in_loop l.iter s in
    noted (loop_fragment l p s) ≡ suc (suc (length (l.start s).names + (length (l.limit d).names + (length (l.step d).variables + length (l.step d).names)))) + noted (l.body d)
loop_noted l p s =
    let d = in_loop l.iter s in
    let start = (l.start s).names in
    let limit = (l.limit d).names in
    let by = l.step d in
    let heads = map (occurrence InHeader d) by.variables in
    let others = occurrence InHeader d l.tested ∷ heads in
    omega (
      arith,
      mapped (occurrence InHeader d) by.variables,
      length-append heads by.names,
      length-append limit (others ++ by.names),
      length-append start (limit ++ (others ++ by.names)),
      length-append (start ++ (limit ++ (others ++ by.names))) (l.body d).notes.names,
    )

-- ---- all statements

mutual
  pub stmt_fits : (b : Bool) (x : RawStmt) (ts : List Token) → Statement b x ts → StmtFits x (length ts)
  stmt_fits b x ts (Statement.empty p) = stmt_as _ 1 _ _ (stmt_fragment-Empty p) (statements_in-Empty p) (λ s. omega arith)
  stmt_fits b x ts (Statement.block p body us d) =
      stmt_as _ (suc (length us)) _ _ (stmt_fragment-Block p body) (statements_in-Block p body) (λ s. omega (arith, items_fit body us d s))
  stmt_fits b x ts (Statement.assignment p q y cs d) =
      stmt_as _ (length (cs ++ punctuator q ";" ∷ [])) _ _ (stmt_fragment-Change p y) (statements_in-Change p y) (λ s. omega (arith, change_fits p p y cs d s, length-append cs (punctuator q ";" ∷ [])))
  stmt_fits b x ts (Statement.atomic_assignment p q n t y us ys dt dy) =
      stmt_as _ (suc (length (us ++ (punctuator p "+=" ∷ (ys ++ punctuator q ";" ∷ []))))) _ _ (stmt_fragment-Atomic (target_place t) t y) (statements_in-Atomic (target_place t) t y)
      (λ s. omega (
        arith,
        by_value (λ s. increased s (target_place t) true) t y us ys _ dt dy s,
        length-append us (punctuator p "+=" ∷ (ys ++ punctuator q ";" ∷ [])),
        length-append ys (punctuator q ";" ∷ []),
      ))
  stmt_fits b x ts (Statement.if_only b' p q r y body ys ss dy ds) =
      stmt_as _ (suc (length ((punctuator q "(" ∷ (ys ++ punctuator r ")" ∷ [])) ++ ss))) _ _ (stmt_fragment-If p y body) (statements_in-If p y body)
      (λ s.
      let first = (stmt_fragment body s).notes.names in
      omega (
        arith,
        expr_fits s _ y ys dy,
        stmt_fits b' body ss ds s,
        length-append (reading y s).names (first ++ []),
        length-append first [],
        length-append (punctuator q "(" ∷ (ys ++ punctuator r ")" ∷ [])) ss,
        length-append (ys ++ punctuator r ")" ∷ []) ss,
        length-append ys (punctuator r ")" ∷ []),
      ))
  stmt_fits b x ts (Statement.if_else b' p q r o y body other ys ss us dy ds dt) =
      stmt_as _ (suc (length (((punctuator q "(" ∷ (ys ++ punctuator r ")" ∷ [])) ++ ss) ++ (keyword o "else" ∷ us)))) _ _ (stmt_fragment-IfElse p y body other) (statements_in-IfElse p y body other)
      (λ s.
      let first = stmt_fragment body s in
      let d = behind s first.next in
      let second = stmt_fragment other d in
      let test = ys ++ punctuator r ")" ∷ [] in
      omega (
        arith,
        expr_fits s _ y ys dy,
        stmt_fits false body ss ds s,
        stmt_fits b' other us dt d,
        length-append (reading y s).names (first.notes.names ++ second.notes.names),
        length-append first.notes.names second.notes.names,
        length-append (test ++ ss) (keyword o "else" ∷ us),
        length-append test ss,
        length-append ys (punctuator r ")" ∷ []),
      ))
  stmt_fits b x ts (Statement.for b' p l m h body ls ms hs ss dl dm dh ds) =
      let raw : RawLoop-F RawWhat RawLoop RawStmt = record { line = l; parallel = m; typed = h.typed; iter = h.iter; start = h.start; tested = h.tested; test = h.test; limit = h.limit; step = h.step; body = body } in
      stmt_as _ (length (ls ++ (ms ++ (keyword p "for" ∷ (hs ++ ss))))) _ _ (stmt_fragment-Loop p raw) (statements_in-Loop p raw)
      (λ s.
      let d = in_loop h.iter s in
      omega (
        arith,
        loop_noted (parts_in raw) p s,
        header_fits h hs dh s d,
        stmt_fits b' body ss ds d,
        length-append ls (ms ++ (keyword p "for" ∷ (hs ++ ss))),
        length-append ms (keyword p "for" ∷ (hs ++ ss)),
        length-append hs ss,
      ))

  pub items_fit : (xs : List RawStmt) (ts : List Token) → BlockItems xs ts → ListFits xs (length ts)
  items_fit xs ts (BlockItems.end p) s = omega arith
  items_fit xs ts (BlockItems.item b x rest ss us d e) s =
      let first = stmt_fragment x s in
      omega (
        arith,
        stmt_fits b x ss d s,
        items_fit rest us e first.next,
        statements_in-list x rest,
        length-append first.notes.names (in_order (map stmt_fragment rest) first.next).notes.names,
        length-append ss us,
      )
  items_fit xs ts (BlockItems.declaration x rest ss us d e) s =
      let first = stmt_fragment x s in
      omega (
        arith,
        declaration_fits x ss d s,
        items_fit rest us e first.next,
        statements_in-list x rest,
        length-append first.notes.names (in_order (map stmt_fragment rest) first.next).notes.names,
        length-append ss us,
      )
