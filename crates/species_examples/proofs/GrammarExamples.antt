-- Small texts and what they derive, by hand. Places are those of the text that stands above each.
use Rattle.std.proofs.Common.{◌≡◌, subst, ℕ, zero, suc, ◌+◌, List, [], ◌∷◌, Some, None, true, false, arith}
use Rattle.std.specs.Prelude.{codes, pos}
use Prim.Native.String.{String}
use Rattle.species_ast.specs.Token.{Token}
use Rattle.species_ast.specs.Spelling.{Spelling}
use Rattle.species_ast.specs.Grammar.Words.{punctuator, keyword, name, number, species, Optional}
use Rattle.species_ast.specs.Signs.{conditional_level}
use Rattle.species_ast.specs.Grammar.Expressions.{Expression, Subscripts, TypeSpecifier, Operation, expression, target}
use Rattle.species_ast.specs.Grammar.Declarations.{ArrayDeclarator, MoreArrays, GlobalDeclaration, statement}
use Rattle.species_ast.specs.Grammar.Statements.{Step, ForHeader, SpeciesLine, ParallelLine, Statement, BlockItems, loop}
use Rattle.species_ast.specs.Grammar.Units.{TranslationUnit, Derives}
use Rattle.species_ast.specs.declared.tree.Kind.TheVariants as kind
use Rattle.species_ast.specs.declared.tree.Value.TheVariants as value
use Rattle.species_ast.specs.declared.tree.Binary.TheVariants as binary
use Rattle.species_ast.specs.declared.tree.Test.TheVariants as test
use Rattle.species_ast.specs.declared.raw.RawUnary.TheVariants as unary
use Rattle.species_ast.specs.declared.raw.RawStep.TheVariants as step
use Rattle.species_ast.specs.declared.raw.RawItem.TheVariants as item
use Rattle.species_ast.specs.declared.raw.RawExpr.{RawExpr}
use Rattle.species_ast.specs.declared.raw.RawTerm.TheVariants as term
use Rattle.species_ast.specs.declared.raw.RawWhat.TheVariants as what

-- an expression of a level is one of each level below
pub raised : (k n : ℕ) (x : RawExpr) (xs : List Token) → Expression (k + n) x xs → Expression n x xs
raised zero n x xs d = let e : 0 + n ≡ n = omega arith in subst (λ m. Expression m x xs) e d
raised (suc k) n x xs d = let e : suc k + n ≡ suc (k + n) = omega arith in raised k n x xs (Expression.higher (k + n) x xs (subst (λ m. Expression m x xs) e d))

abbrev at : ℕ → String → Spelling
at p s = record { text = codes s; place = p }

-- a variable, as a tree and as what it derives
abbrev variable : Spelling → RawExpr
variable n = expression n.place (term.Target (target n []))

derives_variable : (n : Spelling) → Expression 12 (variable n) (name n ∷ [])
derives_variable n = Expression.element n [] [] Subscripts.none

abbrev literal : ℕ → String → ℕ → RawExpr
literal p s v = expression p (term.Number (value.Int (pos v)))

abbrev digits : ℕ → String → ℕ → Token
digits p s v = number (at p s) (value.Int (pos v))

-- `- -1`
pub minus_minus_one : Expression conditional_level (expression 0 (term.Unary unary.Neg (expression 2 (term.Unary unary.Neg (literal 3 "1" 1))))) (punctuator 0 "-" ∷ punctuator 2 "-" ∷ digits 3 "1" 1 ∷ [])
minus_minus_one =
    raised 11 0 _ _ (Expression.unary_operation 0 unary.Neg _ _ (Expression.unary_operation 2 unary.Neg _ _ (raised 1 11 _ _ (Expression.constant (at 3 "1") (value.Int (pos 1))))))

-- `a - b - c` is `(a - b) - c`
pub a_minus_b_minus_c : (a b c : Spelling) (p q : ℕ)
    → Expression conditional_level (expression a.place (term.Binary binary.Sub (expression a.place (term.Binary binary.Sub (variable a) (variable b))) (variable c)))
    (name a ∷ punctuator p "-" ∷ name b ∷ punctuator q "-" ∷ name c ∷ [])
a_minus_b_minus_c a b c p q =
    let minus : Operation = Operation.strict binary.Sub in
    let first = Expression.binary_operation p minus (variable a) (variable b) (name a ∷ []) (name b ∷ []) (raised 3 9 _ _ (derives_variable a)) (raised 2 10 _ _ (derives_variable b)) in
    raised 9 0 _ _ (Expression.binary_operation q minus _ (variable c) _ (name c ∷ []) first (raised 2 10 _ _ (derives_variable c)))

-- `a ? b : c ? d : e` is `a ? b : (c ? d : e)`
pub choice_of_choices : (a b c d e : Spelling) (p q r s : ℕ)
    → Expression conditional_level (expression a.place (term.Cond (variable a) (variable b) (expression c.place (term.Cond (variable c) (variable d) (variable e)))))
    (name a ∷ punctuator p "?" ∷ name b ∷ punctuator q ":" ∷ name c ∷ punctuator r "?" ∷ name d ∷ punctuator s ":" ∷ name e ∷ [])
choice_of_choices a b c d e p q r s =
    let inner = Expression.conditional r s (variable c) (variable d) (variable e) (name c ∷ []) (name d ∷ []) (name e ∷ []) (raised 11 1 _ _ (derives_variable c)) (raised 12 0 _ _ (derives_variable d)) (raised 12 0 _ _ (derives_variable e)) in
    Expression.conditional p q (variable a) (variable b) _ (name a ∷ []) (name b ∷ []) _ (raised 11 1 _ _ (derives_variable a)) (raised 12 0 _ _ (derives_variable b)) inner

size : (p q r : ℕ) (s : String) (v : ℕ) (subs : List RawExpr) (ts : List Token) → Subscripts subs ts → Subscripts (literal p s v ∷ subs) (punctuator q "[" ∷ digits p s v ∷ punctuator r "]" ∷ ts)
size p q r s v subs ts d = Subscripts.more q r _ subs _ ts (raised 12 0 _ _ (Expression.constant (at p s) (value.Int (pos v)))) d

-- `int A[4], B[2][3];`
pub two_arrays : GlobalDeclaration
    (item.Global kind.Int (record { name = at 4 "A"; sizes = literal 6 "4" 4 ∷ [] } ∷ record { name = at 10 "B"; sizes = literal 12 "2" 2 ∷ literal 15 "3" 3 ∷ [] } ∷ []))
    (keyword 0 "int" ∷ name (at 4 "A") ∷ punctuator 5 "[" ∷ digits 6 "4" 4 ∷ punctuator 7 "]" ∷ punctuator 8 ","
    ∷ name (at 10 "B") ∷ punctuator 11 "[" ∷ digits 12 "2" 2 ∷ punctuator 13 "]" ∷ punctuator 14 "[" ∷ digits 15 "3" 3 ∷ punctuator 16 "]" ∷ punctuator 17 ";" ∷ [])
two_arrays =
    GlobalDeclaration.global 0 17 kind.Int _ _ _ _ _ (TypeSpecifier.int 0)
    (ArrayDeclarator.array (at 4 "A") _ [] _ (size 6 5 7 "4" 4 [] [] Subscripts.none))
    (MoreArrays.more 8 _ [] _ [] (ArrayDeclarator.array (at 10 "B") _ _ _ (size 12 11 13 "2" 2 _ _ (size 15 14 16 "3" 3 [] [] Subscripts.none))) MoreArrays.none)

-- `if (a) if (b) ; else ;`: the `else` is the second `if`'s
pub nearest_if : (a b : Spelling) (o p q r s t u v w : ℕ) → Statement true
    (statement o (what.If (variable a) (statement r (what.If (variable b) (statement u what.Empty) (Some (statement w what.Empty)))) None))
    (keyword o "if" ∷ punctuator p "(" ∷ name a ∷ punctuator q ")" ∷ keyword r "if" ∷ punctuator s "(" ∷ name b ∷ punctuator t ")" ∷ punctuator u ";" ∷ keyword v "else" ∷ punctuator w ";" ∷ [])
nearest_if a b o p q r s t u v w =
    Statement.if_only false o p q (variable a) _ (name a ∷ []) _ (raised 12 0 _ _ (derives_variable a))
    (Statement.if_else false r s t v (variable b) _ _ (name b ∷ []) (punctuator u ";" ∷ []) (punctuator w ";" ∷ []) (raised 12 0 _ _ (derives_variable b)) (Statement.empty u) (Statement.empty w))

-- `for (i = 0; i < n; i = i + 2) ;` after a species line
pub for_after_line : (line i j k l m n : Spelling) (o p q r s t u v w x y z : ℕ) → Statement false
    (statement o (what.Loop (loop (Some line) None
    (record { typed = false; iter = i; start = literal q "0" 0; tested = j; test = test.Lt; limit = variable n; step = step.SetAdd k l (literal x "2" 2) }) (statement z what.Empty))))
    (species line ∷ keyword o "for" ∷ punctuator p "(" ∷ name i ∷ punctuator r "=" ∷ digits q "0" 0 ∷ punctuator s ";" ∷ name j ∷ punctuator t "<" ∷ name n ∷ punctuator u ";"
    ∷ name k ∷ punctuator v "=" ∷ name l ∷ punctuator w "+" ∷ digits x "2" 2 ∷ punctuator y ")" ∷ punctuator z ";" ∷ [])
for_after_line line i j k l m n o p q r s t u v w x y z =
    Statement.for false o (Some line) None _ _ _ _ _ _ (SpeciesLine.present line) ParallelLine.absent
    (ForHeader.header p r s t u y false i j test.Lt _ (variable n) _ [] _ (name n ∷ []) _ Optional.absent (raised 12 0 _ _ (Expression.constant (at q "0") (value.Int (pos 0)))) (raised 12 0 _ _ (derives_variable n))
    (Step.set_add v w k l _ _ (raised 2 10 _ _ (Expression.constant (at x "2") (value.Int (pos 2))))))
    (Statement.empty z)

-- `void f() { }`
pub least : (f : Spelling) (p q r s t : ℕ) → Derives (keyword p "void" ∷ name f ∷ punctuator q "(" ∷ punctuator r ")" ∷ punctuator s "{" ∷ punctuator t "}" ∷ []) (record { items = []; function = f; body = [] })
least f p q r s t = TranslationUnit.function false false p q r s f [] [] [] _ Optional.absent Optional.absent (BlockItems.end t)
