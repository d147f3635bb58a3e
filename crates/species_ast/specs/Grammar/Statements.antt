-- Statements (C17 6.8): which lists of tokens derive which statement.
use Rattle.std.specs.Prelude.{ℕ, List, [], ◌∷◌, ◌++◌, Option, Some, None, Bool, true, false}
use Rattle.species_ast.specs.Token.{Token}
use Rattle.species_ast.specs.Spelling.{Spelling}
use Rattle.species_ast.specs.Grammar.Words.{sign, punctuator, keyword, name, species, parallel, atomic, Optional}
use Rattle.species_ast.specs.Signs.{conditional_level, multiplicative_level, assignment_sign, test_sign}
use Rattle.species_ast.specs.Grammar.Expressions.{Expression, Target}
use Rattle.species_ast.specs.Grammar.Declarations.{LocalDeclaration, statement}
use Rattle.species_ast.specs.declared.tree.Schedule.{Schedule}
use Rattle.species_ast.specs.declared.tree.Test.{Test}
use Rattle.species_ast.specs.declared.raw.RawOp.{RawOp}
use Rattle.species_ast.specs.declared.raw.RawExpr.{RawExpr}
use Rattle.species_ast.specs.declared.raw.RawTarget.{RawTarget, out-RawTarget}
use Rattle.species_ast.specs.declared.raw.RawChange.{RawChange}
use Rattle.species_ast.specs.declared.raw.RawChange.TheVariants as change
use Rattle.species_ast.specs.declared.raw.RawStep.{RawStep}
use Rattle.species_ast.specs.declared.raw.RawStep.TheVariants as step
use Rattle.species_ast.specs.declared.raw.RawStmt.{RawStmt}
use Rattle.species_ast.specs.declared.raw.RawLoop.{RawLoop, roll-RawLoop}
use Rattle.species_ast.specs.declared.raw.RawWhat.TheVariants as what

-- ---- assignments (C17 6.5.16, 6.5.2.4 and 6.5.3.1), which are statements here

abbrev pub target_place : RawTarget → ℕ
target_place t = (out-RawTarget t).name.place

-- A change and the place of its first token.
pub data Change : ℕ → RawChange → List Token → Type 0 where
  -- `t = x`, `t += x` and the like
  set : (p : ℕ) (o : RawOp) (t : RawTarget) (x : RawExpr) (ts xs : List Token) → Target t ts → Expression conditional_level x xs
      → Change (target_place t) (change.Set t o x) (ts ++ (sign p (assignment_sign o) ∷ xs))
  -- `t++`
  up : (p : ℕ) (t : RawTarget) (ts : List Token) → Target t ts → Change (target_place t) (change.Up t) (ts ++ punctuator p "++" ∷ [])
  -- `t--`
  down : (p : ℕ) (t : RawTarget) (ts : List Token) → Target t ts → Change (target_place t) (change.Down t) (ts ++ punctuator p "--" ∷ [])
  -- `++t`
  up_before : (p : ℕ) (t : RawTarget) (ts : List Token) → Target t ts → Change p (change.UpBefore t) (punctuator p "++" ∷ ts)
  -- `--t`
  down_before : (p : ℕ) (t : RawTarget) (ts : List Token) → Target t ts → Change p (change.DownBefore t) (punctuator p "--" ∷ ts)

-- ---- the header of a loop (C17 6.8.5.3)

pub data Step : RawStep → List Token → Type 0 where
  -- `i++`
  up : (p : ℕ) (i : Spelling) → Step (step.Up i) (name i ∷ punctuator p "++" ∷ [])
  -- `++i`
  up_before : (p : ℕ) (i : Spelling) → Step (step.UpBefore i) (punctuator p "++" ∷ name i ∷ [])
  -- `i--`
  down : (p : ℕ) (i : Spelling) → Step (step.Down i) (name i ∷ punctuator p "--" ∷ [])
  -- `--i`
  down_before : (p : ℕ) (i : Spelling) → Step (step.DownBefore i) (punctuator p "--" ∷ name i ∷ [])
  -- `i += x`
  add_by : (p : ℕ) (i : Spelling) (x : RawExpr) (xs : List Token) → Expression conditional_level x xs → Step (step.AddBy i x) (name i ∷ punctuator p "+=" ∷ xs)
  -- `i -= x`
  sub_by : (p : ℕ) (i : Spelling) (x : RawExpr) (xs : List Token) → Expression conditional_level x xs → Step (step.SubBy i x) (name i ∷ punctuator p "-=" ∷ xs)
  -- `i = j + x`
  set_add : (p q : ℕ) (i j : Spelling) (x : RawExpr) (xs : List Token) → Expression multiplicative_level x xs
      → Step (step.SetAdd i j x) (name i ∷ punctuator p "=" ∷ name j ∷ punctuator q "+" ∷ xs)
  -- `i = j - x`
  set_sub : (p q : ℕ) (i j : Spelling) (x : RawExpr) (xs : List Token) → Expression multiplicative_level x xs
      → Step (step.SetSub i j x) (name i ∷ punctuator p "=" ∷ name j ∷ punctuator q "-" ∷ xs)

-- What stands between the brackets of a `for`.
pub record Header : Type 0 where
  pub typed : Bool
  pub iter : Spelling
  pub start : RawExpr
  pub tested : Spelling
  pub test : Test
  pub limit : RawExpr
  pub step : RawStep

pub data ForHeader : Header → List Token → Type 0 where
  -- `(int i = x; j < y; i++)`, with or without `int`
  header : (p q r o u w : ℕ) (b : Bool) (i j : Spelling) (c : Test) (x y : RawExpr) (s : RawStep) (bs xs ys ss : List Token)
      → Optional "int" b bs → Expression conditional_level x xs → Expression conditional_level y ys → Step s ss
      → ForHeader (record { typed = b; iter = i; start = x; tested = j; test = c; limit = y; step = s })
      (punctuator p "(" ∷ (bs ++ (name i ∷ punctuator q "=" ∷ (xs ++ (punctuator r ";" ∷ name j ∷ sign o (test_sign c) ∷ (ys ++ (punctuator u ";" ∷ (ss ++ punctuator w ")" ∷ []))))))))

-- ---- pragmas before a loop

pub data SpeciesLine : Option Spelling → List Token → Type 0 where
  absent : SpeciesLine None []
  -- `#pragma species ..`
  present : (n : Spelling) → SpeciesLine (Some n) (species n ∷ [])

pub data ParallelLine : Option (ℕ × Schedule) → List Token → Type 0 where
  absent : ParallelLine None []
  -- `#pragma omp parallel for ..`
  present : (n : Spelling) (d : ℕ) (s : Schedule) → ParallelLine (Some (d, s)) (parallel n d s ∷ [])

-- ---- statements

abbrev pub loop : Option Spelling → Option (ℕ × Schedule) → Header → RawStmt → RawLoop
loop l m h s = roll-RawLoop (record {
  line = l;
  parallel = m;
  typed = h.typed;
  iter = h.iter;
  start = h.start;
  tested = h.tested;
  test = h.test;
  limit = h.limit;
  step = h.step;
  body = s;
})

mutual
  -- A statement. `true` is that it ends in an `if` without an `else`, as an `else` after it would belong to that `if` (C17 6.8.4.1);
  -- so it is no body before an `else`.
  pub data Statement : Bool → RawStmt → List Token → Type 0 where
    -- `;`
    empty : (p : ℕ) → Statement false (statement p what.Empty) (punctuator p ";" ∷ [])
    -- `{ .. }`
    block : (p : ℕ) (body : List RawStmt) (ts : List Token) → BlockItems body ts → Statement false (statement p (what.Block body)) (punctuator p "{" ∷ ts)
    -- `t = x;` and the other changes
    assignment : (p q : ℕ) (c : RawChange) (cs : List Token) → Change p c cs → Statement false (statement p (what.Change c)) (cs ++ punctuator q ";" ∷ [])
    -- `t += x;` after `#pragma omp atomic update`
    atomic_assignment : (p q : ℕ) (n : Spelling) (t : RawTarget) (x : RawExpr) (ts xs : List Token) → Target t ts → Expression conditional_level x xs
        → Statement false (statement (target_place t) (what.Atomic t x)) (atomic n ∷ (ts ++ (punctuator p "+=" ∷ (xs ++ punctuator q ";" ∷ []))))
    -- `if (x) s`
    if_only : (b : Bool) (p q r : ℕ) (x : RawExpr) (s : RawStmt) (xs ss : List Token) → Expression conditional_level x xs → Statement b s ss
        → Statement true (statement p (what.If x s None)) (keyword p "if" ∷ ((punctuator q "(" ∷ (xs ++ punctuator r ")" ∷ [])) ++ ss))
    -- `if (x) s else t`
    if_else : (b : Bool) (p q r o : ℕ) (x : RawExpr) (s t : RawStmt) (xs ss ts : List Token) → Expression conditional_level x xs → Statement false s ss → Statement b t ts
        → Statement b (statement p (what.If x s (Some t))) (keyword p "if" ∷ (((punctuator q "(" ∷ (xs ++ punctuator r ")" ∷ [])) ++ ss) ++ (keyword o "else" ∷ ts)))
    -- `for (..) s`, after its pragmas
    for : (b : Bool) (p : ℕ) (l : Option Spelling) (m : Option (ℕ × Schedule)) (h : Header) (s : RawStmt) (ls ms hs ss : List Token)
        → SpeciesLine l ls → ParallelLine m ms → ForHeader h hs → Statement b s ss
        → Statement b (statement p (what.Loop (loop l m h s))) (ls ++ (ms ++ (keyword p "for" ∷ (hs ++ ss))))

  -- What stands in a block, and the bracket that ends it (C17 6.8.2).
  pub data BlockItems : List RawStmt → List Token → Type 0 where
    -- `}`
    end : (p : ℕ) → BlockItems [] (punctuator p "}" ∷ [])
    -- a statement and more
    item : (b : Bool) (s : RawStmt) (rest : List RawStmt) (ss ts : List Token) → Statement b s ss → BlockItems rest ts → BlockItems (s ∷ rest) (ss ++ ts)
    -- a declaration and more
    declaration : (s : RawStmt) (rest : List RawStmt) (ss ts : List Token) → LocalDeclaration s ss → BlockItems rest ts → BlockItems (s ∷ rest) (ss ++ ts)
