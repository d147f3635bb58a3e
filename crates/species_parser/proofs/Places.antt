-- An expression has the place of its first token, a statement that of its first token after any pragma.
use Rattle.std.proofs.Common.{ap, sym, refl, subst, ℕ, suc, List, [], ◌∷◌, ◌++◌, Bool, append_assoc}
use Rattle.species_ast.specs.Signs.{assignment_sign}
use Rattle.species_ast.specs.Token.{Token}
use Rattle.species_ast.specs.Grammar.Words.{sign, punctuator}
use Rattle.species_ast.specs.Grammar.Expressions.{TypeSpecifier, place_of, Expression, Target}
use Rattle.species_ast.specs.Grammar.Declarations.{LocalDeclaration}
use Rattle.species_ast.specs.Grammar.Statements.{target_place, Change, SpeciesLine, ParallelLine, Statement}
use Rattle.species_ast.specs.declared.tree.Kind.{Kind}
use Rattle.species_ast.specs.declared.raw.RawExpr.{RawExpr}
use Rattle.species_ast.specs.declared.raw.RawTarget.{RawTarget}
use Rattle.species_ast.specs.declared.raw.RawTerm.TheViews.{out-roll-RawTarget}
use Rattle.species_ast.specs.declared.raw.RawChange.{RawChange}
use Rattle.species_ast.specs.declared.raw.RawStmt.{RawStmt}
use Rattle.species_parser.specs.Places.{StartsAt, after_pragmas, statement_place_of}

pub starts_before : (p : ℕ) (ts us : List Token) → StartsAt p ts → StartsAt p (ts ++ us)
starts_before p [] us h = absurd h
starts_before p (t ∷ ts) us h = h

pub expression_place : (n : ℕ) (x : RawExpr) (ts : List Token) → Expression n x ts → StartsAt (place_of x) ts
expression_place n x ts (Expression.conditional p q c y z cs ys zs d e f) = starts_before (place_of c) cs _ (expression_place 1 c cs d)
expression_place n x ts (Expression.binary_operation p o y z ys zs d e) = starts_before (place_of y) ys _ (expression_place _ y ys d)
expression_place n x ts (Expression.unary_operation p o y ys d) = refl
expression_place n x ts (Expression.cast p q r k y ks ys kd d) = refl
expression_place n x ts (Expression.constant m v) = refl
expression_place n x ts (Expression.element m subs us d) = refl
expression_place n x ts (Expression.paren p q y ys d) = refl
expression_place n x ts (Expression.higher m y ys d) = expression_place (suc m) y ys d

-- ---- statements

target_at : (t : RawTarget) (ts us : List Token) → Target t ts → StartsAt (target_place t) (after_pragmas (ts ++ us))
target_at t ts us (Target.element m subs vs s) = ap (λ z. z.name.place) (sym (out-roll-RawTarget (record { name = m; subs = subs })))

change_at : (p : ℕ) (c : RawChange) (cs us : List Token) → Change p c cs → StartsAt p (after_pragmas (cs ++ us))
change_at p c cs us (Change.set q o t x ts xs d e) = subst (λ z. StartsAt p (after_pragmas z)) (sym (append_assoc ts (sign q (assignment_sign o) ∷ xs) us)) (target_at t ts _ d)
change_at p c cs us (Change.up q t ts d) = subst (λ z. StartsAt p (after_pragmas z)) (sym (append_assoc ts (punctuator q "++" ∷ []) us)) (target_at t ts _ d)
change_at p c cs us (Change.down q t ts d) = subst (λ z. StartsAt p (after_pragmas z)) (sym (append_assoc ts (punctuator q "--" ∷ []) us)) (target_at t ts _ d)
change_at p c cs us (Change.up_before q t ts d) = refl
change_at p c cs us (Change.down_before q t ts d) = refl

pub statement_place : (b : Bool) (s : RawStmt) (ts : List Token) → Statement b s ts → StartsAt (statement_place_of s) (after_pragmas ts)
statement_place b s ts (Statement.empty p) = refl
statement_place b s ts (Statement.block p body us d) = refl
statement_place b s ts (Statement.assignment p q c cs d) = change_at p c cs _ d
statement_place b s ts (Statement.atomic_assignment p q n t x us xs d e) = target_at t us _ d
statement_place b s ts (Statement.if_only c p q r x u xs us d e) = refl
statement_place b s ts (Statement.if_else c p q r o x u v xs us vs d e f) = refl
statement_place b s ts (Statement.for c p l m h u ls ms hs us SpeciesLine.absent ParallelLine.absent hd d) = refl
statement_place b s ts (Statement.for c p l m h u ls ms hs us SpeciesLine.absent (ParallelLine.present n k e) hd d) = refl
statement_place b s ts (Statement.for c p l m h u ls ms hs us (SpeciesLine.present n) ParallelLine.absent hd d) = refl
statement_place b s ts (Statement.for c p l m h u ls ms hs us (SpeciesLine.present n) (ParallelLine.present o k e) hd d) = refl

type_at : (p : ℕ) (k : Kind) (ks us : List Token) → TypeSpecifier p k ks → StartsAt p (ks ++ us)
type_at p k ks us (TypeSpecifier.int o) = refl
type_at p k ks us (TypeSpecifier.unsigned o) = refl
type_at p k ks us (TypeSpecifier.unsigned_int o r) = refl
type_at p k ks us (TypeSpecifier.long o r i ts m) = refl
type_at p k ks us (TypeSpecifier.unsigned_long o r s i ts m) = refl

pub declaration_place : (s : RawStmt) (ts : List Token) → LocalDeclaration s ts → StartsAt (statement_place_of s) ts
declaration_place s ts (LocalDeclaration.declaration p q k l rest ks xs us kd d ds) = type_at p k ks _ kd
