-- Declarations (C17 6.7): which lists of tokens derive which global or local.
use Rattle.std.specs.Prelude.{ℕ, List, [], ◌∷◌, ◌++◌, Some, None}
use Rattle.species_ast.specs.Token.{Token}
use Rattle.species_ast.specs.Spelling.{Spelling}
use Rattle.species_ast.specs.Grammar.Words.{punctuator, name}
use Rattle.species_ast.specs.Signs.{conditional_level}
use Rattle.species_ast.specs.Grammar.Expressions.{TypeSpecifier, Expression, Subscripts}
use Rattle.species_ast.specs.declared.tree.Kind.{Kind}
use Rattle.species_ast.specs.declared.raw.RawExpr.{RawExpr}
use Rattle.species_ast.specs.declared.raw.RawArray.{RawArray}
use Rattle.species_ast.specs.declared.raw.RawLocal.{RawLocal}
use Rattle.species_ast.specs.declared.raw.RawItem.{RawItem}
use Rattle.species_ast.specs.declared.raw.RawItem.TheVariants as item
use Rattle.species_ast.specs.declared.raw.RawStmt.{RawStmt, roll-RawStmt}
use Rattle.species_ast.specs.declared.raw.RawWhat.{RawWhat}
use Rattle.species_ast.specs.declared.raw.RawWhat.TheVariants as what

-- ---- of arrays

pub data ArrayDeclarator : RawArray → List Token → Type 0 where
  -- `A[x][y]`, with at least one size
  array : (n : Spelling) (size : RawExpr) (sizes : List RawExpr) (ts : List Token) → Subscripts (size ∷ sizes) ts
      → ArrayDeclarator (record { name = n; sizes = size ∷ sizes }) (name n ∷ ts)

pub data MoreArrays : List RawArray → List Token → Type 0 where
  none : MoreArrays [] []
  -- `, A[x]` and more
  more : (p : ℕ) (a : RawArray) (rest : List RawArray) (xs ts : List Token) → ArrayDeclarator a xs → MoreArrays rest ts
      → MoreArrays (a ∷ rest) (punctuator p "," ∷ (xs ++ ts))

-- an external declaration of arrays (C17 6.9), after its `static`
pub data GlobalDeclaration : RawItem → List Token → Type 0 where
  -- `int A[x], B[y];`
  global : (p q : ℕ) (k : Kind) (a : RawArray) (rest : List RawArray) (ks xs ts : List Token) → TypeSpecifier p k ks → ArrayDeclarator a xs → MoreArrays rest ts
      → GlobalDeclaration (item.Global k (a ∷ rest)) (ks ++ ((xs ++ ts) ++ punctuator q ";" ∷ []))

-- ---- of locals

pub data InitDeclarator : RawLocal → List Token → Type 0 where
  -- `x`
  plain : (n : Spelling) → InitDeclarator (record { name = n; init = None }) (name n ∷ [])
  -- `x = e`
  initialised : (p : ℕ) (n : Spelling) (e : RawExpr) (es : List Token) → Expression conditional_level e es
      → InitDeclarator (record { name = n; init = Some e }) (name n ∷ punctuator p "=" ∷ es)

pub data MoreDeclarators : List RawLocal → List Token → Type 0 where
  none : MoreDeclarators [] []
  -- `, x` and more
  more : (p : ℕ) (l : RawLocal) (rest : List RawLocal) (xs ts : List Token) → InitDeclarator l xs → MoreDeclarators rest ts
      → MoreDeclarators (l ∷ rest) (punctuator p "," ∷ (xs ++ ts))

-- a statement that does this, and whose first token stands there
abbrev pub statement : ℕ → RawWhat → RawStmt
statement p w = roll-RawStmt (record { place = p; what = w })

-- a declaration in a block
pub data LocalDeclaration : RawStmt → List Token → Type 0 where
  -- `int x, y = e;`
  declaration : (p q : ℕ) (k : Kind) (l : RawLocal) (rest : List RawLocal) (ks xs ts : List Token) → TypeSpecifier p k ks → InitDeclarator l xs → MoreDeclarators rest ts
      → LocalDeclaration (statement p (what.Declare k (l ∷ rest))) (ks ++ ((xs ++ ts) ++ punctuator q ";" ∷ []))
