-- How many statements each construct of the grammar has in it, and whether its parallel marks have depths.
use Rattle.std.proofs.Common.{◌≡◌, ◌∙◌, ap, sym, ℕ, suc, ◌+◌, Bool, true, List, ◌∷◌, map, Some, None}
use Rattle.std.proofs.lemmas.List.Sums.{sum_by-cons}
use Rattle.std.specs.Prelude.{◌&&◌, sum}
use Rattle.species_ast.specs.declared.tree.Kind.{Kind}
use Rattle.species_ast.specs.declared.raw.RawExpr.{RawExpr}
use Rattle.species_ast.specs.declared.raw.RawTarget.{RawTarget}
use Rattle.species_ast.specs.declared.raw.RawLocal.{RawLocal}
use Rattle.species_ast.specs.declared.raw.RawChange.{RawChange}
use Rattle.species_ast.specs.declared.raw.RawStmt.{RawStmt, fold-roll-RawStmt}
use Rattle.species_ast.specs.declared.raw.RawWhat.{RawWhat, roll-RawWhat, map-RawWhat, fold-RawWhat, fold-roll-RawWhat}
use Rattle.species_ast.specs.declared.raw.RawLoop.{RawLoop, roll-RawLoop, fold-RawLoop, fold-roll-RawLoop}
use Rattle.species_ast.specs.declared.raw.RawWhat.TheOpen.{RawWhat-F, RawLoop-F}
use Rattle.species_ast.specs.declared.raw.RawWhat.TheVariants as what
use Rattle.species_ast.specs.Marks.{all_true}
use Rattle.species_ast.specs.Grammar.Declarations.{statement}
use Rattle.species_ast.specs.Scope.Written.{count_at, statements_in, has_depth, depths_at, has_depths}

-- ---- statements

abbrev count_of : RawWhat → ℕ
count_of = fold-RawWhat ℕ ℕ ℕ count_at (λ l. l.body) (λ s. suc s.what)

abbrev loop_count : RawLoop → ℕ
loop_count = fold-RawLoop ℕ ℕ ℕ count_at (λ l. l.body) (λ s. suc s.what)

counted : (p : ℕ) (w : RawWhat) (f : RawWhat-F RawWhat RawLoop RawStmt) → roll-RawWhat f ≡ w
    → statements_in (statement p w) ≡ suc (count_at (map-RawWhat RawWhat RawLoop RawStmt ℕ ℕ ℕ count_of loop_count statements_in f))
counted p w f is =
    fold-roll-RawStmt ℕ ℕ ℕ count_at (λ l. l.body) (λ s. suc s.what) (record { place = p; what = w })
    ∙ ap (λ z. suc (count_of z)) (sym is)
    ∙ ap suc (fold-roll-RawWhat ℕ ℕ ℕ count_at (λ l. l.body) (λ s. suc s.what) f)

pub statements_in-Declare : (p : ℕ) (k : Kind) (locals : List RawLocal) → statements_in (statement p (what.Declare k locals)) ≡ 1
statements_in-Declare p k locals = counted p _ (RawWhat-F.Declare k locals) (what.rolls-Declare k locals)

pub statements_in-Block : (p : ℕ) (body : List RawStmt) → statements_in (statement p (what.Block body)) ≡ suc (sum (map statements_in body))
statements_in-Block p body = counted p _ (RawWhat-F.Block body) (what.rolls-Block body)

pub statements_in-Empty : (p : ℕ) → statements_in (statement p what.Empty) ≡ 1
statements_in-Empty p = counted p _ RawWhat-F.Empty what.rolls-Empty

pub statements_in-If : (p : ℕ) (test : RawExpr) (body : RawStmt) → statements_in (statement p (what.If test body None)) ≡ suc (statements_in body + 0)
statements_in-If p test body = counted p _ (RawWhat-F.If test body None) (what.rolls-If test body None)

pub statements_in-IfElse : (p : ℕ) (test : RawExpr) (body otherwise : RawStmt)
    → statements_in (statement p (what.If test body (Some otherwise))) ≡ suc (statements_in body + statements_in otherwise)
statements_in-IfElse p test body otherwise = counted p _ (RawWhat-F.If test body (Some otherwise)) (what.rolls-If test body (Some otherwise))

pub statements_in-Change : (p : ℕ) (c : RawChange) → statements_in (statement p (what.Change c)) ≡ 1
statements_in-Change p c = counted p _ (RawWhat-F.Change c) (what.rolls-Change c)

pub statements_in-Atomic : (p : ℕ) (t : RawTarget) (e : RawExpr) → statements_in (statement p (what.Atomic t e)) ≡ 1
statements_in-Atomic p t e = counted p _ (RawWhat-F.Atomic t e) (what.rolls-Atomic t e)

pub statements_in-Loop : (p : ℕ) (l : RawLoop-F RawWhat RawLoop RawStmt) → statements_in (statement p (what.Loop (roll-RawLoop l))) ≡ suc (statements_in l.body)
statements_in-Loop p l =
    counted p _ (RawWhat-F.Loop (roll-RawLoop l)) (what.rolls-Loop (roll-RawLoop l))
    ∙ ap suc (fold-roll-RawLoop ℕ ℕ ℕ count_at (λ l. l.body) (λ s. suc s.what) l)

-- the statements of a list are those of the first and those of the others
pub statements_in-list : (x : RawStmt) (rest : List RawStmt) → sum (map statements_in (x ∷ rest)) ≡ statements_in x + sum (map statements_in rest)
statements_in-list x rest = sum_by-cons (λ n. n) (statements_in x) (map statements_in rest)

-- ---- depths

abbrev depths_of : RawWhat → Bool
depths_of = fold-RawWhat Bool Bool Bool depths_at (λ l. has_depth l.parallel && l.body) (λ s. s.what)

abbrev loop_depths : RawLoop → Bool
loop_depths = fold-RawLoop Bool Bool Bool depths_at (λ l. has_depth l.parallel && l.body) (λ s. s.what)

tested : (p : ℕ) (w : RawWhat) (f : RawWhat-F RawWhat RawLoop RawStmt) → roll-RawWhat f ≡ w
    → has_depths (statement p w) ≡ depths_at (map-RawWhat RawWhat RawLoop RawStmt Bool Bool Bool depths_of loop_depths has_depths f)
tested p w f is =
    fold-roll-RawStmt Bool Bool Bool depths_at (λ l. has_depth l.parallel && l.body) (λ s. s.what) (record { place = p; what = w })
    ∙ ap depths_of (sym is)
    ∙ fold-roll-RawWhat Bool Bool Bool depths_at (λ l. has_depth l.parallel && l.body) (λ s. s.what) f

pub has_depths-Declare : (p : ℕ) (k : Kind) (locals : List RawLocal) → has_depths (statement p (what.Declare k locals)) ≡ true
has_depths-Declare p k locals = tested p _ (RawWhat-F.Declare k locals) (what.rolls-Declare k locals)

pub has_depths-Block : (p : ℕ) (body : List RawStmt) → has_depths (statement p (what.Block body)) ≡ all_true (map has_depths body)
has_depths-Block p body = tested p _ (RawWhat-F.Block body) (what.rolls-Block body)

pub has_depths-Empty : (p : ℕ) → has_depths (statement p what.Empty) ≡ true
has_depths-Empty p = tested p _ RawWhat-F.Empty what.rolls-Empty

pub has_depths-If : (p : ℕ) (test : RawExpr) (body : RawStmt) → has_depths (statement p (what.If test body None)) ≡ (has_depths body && true)
has_depths-If p test body = tested p _ (RawWhat-F.If test body None) (what.rolls-If test body None)

pub has_depths-IfElse : (p : ℕ) (test : RawExpr) (body otherwise : RawStmt)
    → has_depths (statement p (what.If test body (Some otherwise))) ≡ (has_depths body && has_depths otherwise)
has_depths-IfElse p test body otherwise = tested p _ (RawWhat-F.If test body (Some otherwise)) (what.rolls-If test body (Some otherwise))

pub has_depths-Change : (p : ℕ) (c : RawChange) → has_depths (statement p (what.Change c)) ≡ true
has_depths-Change p c = tested p _ (RawWhat-F.Change c) (what.rolls-Change c)

pub has_depths-Atomic : (p : ℕ) (t : RawTarget) (e : RawExpr) → has_depths (statement p (what.Atomic t e)) ≡ true
has_depths-Atomic p t e = tested p _ (RawWhat-F.Atomic t e) (what.rolls-Atomic t e)

pub has_depths-Loop : (p : ℕ) (l : RawLoop-F RawWhat RawLoop RawStmt) → has_depths (statement p (what.Loop (roll-RawLoop l))) ≡ (has_depth l.parallel && has_depths l.body)
has_depths-Loop p l =
    tested p _ (RawWhat-F.Loop (roll-RawLoop l)) (what.rolls-Loop (roll-RawLoop l))
    ∙ fold-roll-RawLoop Bool Bool Bool depths_at (λ l. has_depth l.parallel && l.body) (λ s. s.what) l
