-- Expressions (C17 6.5): which lists of tokens derive which expression.
use Rattle.std.specs.Prelude.{ℕ, suc, Bool, List, [], ◌∷◌, ◌++◌}
use Rattle.species_ast.specs.Token.{Token}
use Rattle.species_ast.specs.Spelling.{Spelling}
use Rattle.species_ast.specs.Grammar.Words.{sign, punctuator, keyword, name, number, Optional}
use Rattle.species_ast.specs.Signs.{conditional_level, or_level, and_level, cast_level, primary_level, binary_level, binary_sign, and_sign, or_sign, raw_unary_sign}
use Rattle.species_ast.specs.declared.tree.Kind.{Kind}
use Rattle.species_ast.specs.declared.tree.Kind.TheVariants as kind
use Rattle.species_ast.specs.declared.tree.Value.{Value}
use Rattle.species_ast.specs.declared.tree.Binary.{Binary}
use Rattle.species_ast.specs.declared.raw.RawUnary.{RawUnary}
use Rattle.species_ast.specs.declared.raw.RawExpr.{RawExpr, roll-RawExpr, out-RawExpr}
use Rattle.species_ast.specs.declared.raw.RawTerm.{RawTerm}
use Rattle.species_ast.specs.declared.raw.RawTerm.TheVariants as term
use Rattle.species_ast.specs.declared.raw.RawTarget.{RawTarget, roll-RawTarget}

-- ---- types

-- type-specifiers (C17 6.7.2), and the place of the first word
pub data TypeSpecifier : ℕ → Kind → List Token → Type 0 where
  -- `int`
  int : (p : ℕ) → TypeSpecifier p kind.Int (keyword p "int" ∷ [])
  -- `unsigned`
  unsigned : (p : ℕ) → TypeSpecifier p kind.Unsigned (keyword p "unsigned" ∷ [])
  -- `unsigned int`
  unsigned_int : (p q : ℕ) → TypeSpecifier p kind.Unsigned (keyword p "unsigned" ∷ keyword q "int" ∷ [])
  -- `long long`, and `int` behind it or not
  long : (p q : ℕ) (i : Bool) (ts : List Token) → Optional "int" i ts → TypeSpecifier p kind.Long (keyword p "long" ∷ keyword q "long" ∷ ts)
  -- `unsigned long long`, and `int` behind it or not
  unsigned_long : (p q r : ℕ) (i : Bool) (ts : List Token) → Optional "int" i ts
      → TypeSpecifier p kind.UnsignedLong (keyword p "unsigned" ∷ keyword q "long" ∷ keyword r "long" ∷ ts)

-- ---- operators

-- What a binary operator makes.
pub data Operation : Type 0 where
  strict : Binary → Operation
  logical_and : Operation
  logical_or : Operation

-- how tightly it binds
abbrev pub level_of : Operation → ℕ
level_of (Operation.strict o) = binary_level o
level_of Operation.logical_and = and_level
level_of Operation.logical_or = or_level

abbrev pub operation_sign : Operation → List ℕ
operation_sign (Operation.strict o) = binary_sign o
operation_sign Operation.logical_and = and_sign
operation_sign Operation.logical_or = or_sign

-- ---- expressions

abbrev pub expression : ℕ → RawTerm → RawExpr
expression p t = roll-RawExpr (record { place = p; what = t })

abbrev pub place_of : RawExpr → ℕ
place_of x = (out-RawExpr x).place

abbrev pub target : Spelling → List RawExpr → RawTarget
target n xs = roll-RawTarget (record { name = n; subs = xs })

abbrev pub operation : Operation → RawExpr → RawExpr → RawTerm
operation (Operation.strict o) x y = term.Binary o x y
operation Operation.logical_and x y = term.And x y
operation Operation.logical_or x y = term.Or x y

mutual
  -- An expression of a level or a higher one. Its place is that of its first token.
  pub data Expression : ℕ → RawExpr → List Token → Type 0 where
    -- `c ? x : y`
    conditional : (p q : ℕ) (c x y : RawExpr) (cs xs ys : List Token) → Expression (suc conditional_level) c cs → Expression conditional_level x xs → Expression conditional_level y ys
        → Expression conditional_level (expression (place_of c) (term.Cond c x y)) (cs ++ (punctuator p "?" ∷ (xs ++ (punctuator q ":" ∷ ys))))
    -- `x o y`, from left to right
    binary_operation : (p : ℕ) (o : Operation) (x y : RawExpr) (xs ys : List Token) → Expression (level_of o) x xs → Expression (suc (level_of o)) y ys
        → Expression (level_of o) (expression (place_of x) (operation o x y)) (xs ++ (sign p (operation_sign o) ∷ ys))
    -- `o x`
    unary_operation : (p : ℕ) (o : RawUnary) (x : RawExpr) (xs : List Token) → Expression cast_level x xs → Expression cast_level (expression p (term.Unary o x)) (sign p (raw_unary_sign o) ∷ xs)
    -- `(type) x`
    cast : (p q r : ℕ) (k : Kind) (x : RawExpr) (ks xs : List Token) → TypeSpecifier q k ks → Expression cast_level x xs
        → Expression cast_level (expression p (term.Cast k x)) (punctuator p "(" ∷ ((ks ++ punctuator r ")" ∷ []) ++ xs))
    -- a number
    constant : (n : Spelling) (v : Value) → Expression primary_level (expression n.place (term.Number v)) (number n v ∷ [])
    -- a name, or an element of an array: `A[x][y]`
    element : (n : Spelling) (subs : List RawExpr) (ts : List Token) → Subscripts subs ts → Expression primary_level (expression n.place (term.Target (target n subs))) (name n ∷ ts)
    -- `(x)`
    paren : (p q : ℕ) (x : RawExpr) (xs : List Token) → Expression conditional_level x xs → Expression primary_level (expression p (term.Paren x)) (punctuator p "(" ∷ (xs ++ punctuator q ")" ∷ []))
    -- each expression of a higher level
    higher : (n : ℕ) (x : RawExpr) (xs : List Token) → Expression (suc n) x xs → Expression n x xs

  -- `[x]`, as often as it stands there
  pub data Subscripts : List RawExpr → List Token → Type 0 where
    none : Subscripts [] []
    more : (p q : ℕ) (x : RawExpr) (subs : List RawExpr) (xs ts : List Token) → Expression conditional_level x xs → Subscripts subs ts
        → Subscripts (x ∷ subs) (punctuator p "[" ∷ ((xs ++ punctuator q "]" ∷ []) ++ ts))

-- A name with its subscripts.
pub data Target : RawTarget → List Token → Type 0 where
  -- `x` or `A[x][y]`
  element : (n : Spelling) (subs : List RawExpr) (ts : List Token) → Subscripts subs ts → Target (target n subs) (name n ∷ ts)
