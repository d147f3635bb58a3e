-- Programs (C17 6.9): which lists of tokens derive which unit, and where a list that derives none goes wrong.
use Rattle.std.specs.Prelude.{◌≡◌, ℕ, List, [], ◌∷◌, ◌++◌, Bool}
use Rattle.species_ast.specs.Token.{Token}
use Rattle.species_ast.specs.Spelling.{Spelling}
use Rattle.species_ast.specs.Grammar.Words.{punctuator, keyword, name, include, Optional}
use Rattle.species_ast.specs.Grammar.Declarations.{GlobalDeclaration}
use Rattle.species_ast.specs.Grammar.Statements.{BlockItems}
use Rattle.species_ast.specs.declared.raw.RawItem.{RawItem}
use Rattle.species_ast.specs.declared.raw.RawItem.TheVariants as item
use Rattle.species_ast.specs.declared.raw.RawStmt.{RawStmt}
use Rattle.species_ast.specs.declared.raw.RawUnit.{RawUnit}

-- the unit with one more item before the others
abbrev pub after : RawItem → RawUnit → RawUnit
after i u = record { items = i ∷ u.items; function = u.function; body = u.body }

pub data TranslationUnit : RawUnit → List Token → Type 0 where
  -- `#include ..` and more
  directive : (n : Spelling) (u : RawUnit) (ts : List Token) → TranslationUnit u ts → TranslationUnit (after (item.Include n) u) (include n ∷ ts)
  -- `static int A[x];` and more, with or without `static`
  global : (b : Bool) (g : RawItem) (u : RawUnit) (bs gs ts : List Token) → Optional "static" b bs → GlobalDeclaration g gs → TranslationUnit u ts
      → TranslationUnit (after g u) (bs ++ (gs ++ ts))
  -- `static void f(void) { .. }`, with or without `static` and the second `void`, and nothing after it
  function : (b c : Bool) (p q r o : ℕ) (f : Spelling) (body : List RawStmt) (bs cs ts : List Token) → Optional "static" b bs → Optional "void" c cs → BlockItems body ts
      → TranslationUnit (record { items = []; function = f; body = body })
      (bs ++ (keyword p "void" ∷ name f ∷ punctuator q "(" ∷ (cs ++ (punctuator r ")" ∷ punctuator o "{" ∷ ts))))

-- The whole list of tokens derives the unit. It is the grammar's list, which has no definitions in it: with a `#define`
-- among the tokens nothing is derived.
abbrev pub Derives : List Token → RawUnit → Type 0
Derives ts u = TranslationUnit u ts

-- Some list that derives a unit begins with these tokens.
abbrev pub Viable : List Token → Type 0
Viable ts = (more : List Token) × (u : RawUnit) × Derives (ts ++ more) u

-- The list derives no unit and goes wrong before `back`: derivations go on up to there, and none with the first token of
-- `back`. Where `back` is empty it is the end of the program that comes too early.
pub record SyntaxErrorBefore (ts back : List Token) : Type 0 where
  pub underived : (u : RawUnit) → Derives ts u → ⊥
  pub front : List Token
  pub is : ts ≡ front ++ back
  pub viable : Viable front
  pub dead : (t : Token) (rest : List Token) → back ≡ t ∷ rest → Viable (front ++ t ∷ []) → ⊥

-- The place of a syntax error in a program of so many bytes: that of the first token with which no derivation goes on, or
-- the end of the program.
abbrev pub place_before : ℕ → List Token → ℕ
place_before size [] = size
place_before size (t ∷ ts) = t.place
