-- The first local that statements set and do not declare, statement by statement.
use Rattle.std.proofs.Common.{◌≡◌, refl, ap, sym, ◌∙◌, ℕ, ◌+◌, ◌<◌, not, List, [], ◌∷◌, ◌++◌, drop, length, get_or, Option, Some, None}
use Rattle.std.specs.Prelude.{slice_get}
use Rattle.std.specs.List.{flat_map}
use Rattle.std.proofs.lemmas.List.{at_drop_more}
use Rattle.std.proofs.lemmas.List.Elements.{filter-append}
use Rattle.species_ast.specs.declared.tree.Expr.{Expr}
use Rattle.species_ast.specs.declared.tree.Stmt.{Stmt}
use Rattle.species_ast.specs.declared.tree.Stmt.TheVariants as stmt
use Rattle.species_ast.specs.Scope.Meanings.{is_among}
use Rattle.species_ast.proofs.Folds.{fold_stmt-If}
use Rattle.species_runs.specs.Scopes.{sets_at, sets_of, sets_in, without}

-- the first of the locals that is not among these
abbrev pub first_of : List ℕ → List ℕ → Option ℕ
first_of xs known = slice_get (without xs known) 0

first_some : (xs ys : List ℕ) (x : ℕ) → slice_get xs 0 ≡ Some x → slice_get (xs ++ ys) 0 ≡ Some x
first_some [] ys x is = absurd cc
first_some (y ∷ xs) ys x is = is

first_none : (xs ys : List ℕ) → slice_get xs 0 ≡ None → slice_get (xs ++ ys) 0 ≡ slice_get ys 0
first_none [] ys is = refl
first_none (y ∷ xs) ys is = absurd cc

-- of two lists after each other, where the first one gives a local, and where it gives none
some_append : (xs ys known : List ℕ) (o : Option ℕ) (x : ℕ) → o ≡ first_of xs known → o ≡ Some x → first_of (xs ++ ys) known ≡ Some x
some_append xs ys known o x found some =
    ap (λ l. slice_get l 0) (filter-append (λ x. not (is_among known x)) xs ys) ∙ first_some (without xs known) (without ys known) x (sym found ∙ some)

none_append : (xs ys known : List ℕ) (o : Option ℕ) → o ≡ first_of xs known → o ≡ None → first_of (xs ++ ys) known ≡ first_of ys known
none_append xs ys known o found none =
    ap (λ l. slice_get l 0) (filter-append (λ x. not (is_among known x)) xs ys) ∙ first_none (without xs known) (without ys known) (sym found ∙ none)

-- ---- a list of statements

set_more : (all : List Stmt) (i : ℕ) (s : Stmt) (known : List ℕ) → s ≡ get_or all i s → i < length all
    → first_of (sets_in (drop i all)) known ≡ first_of (sets_of s ++ sets_in (drop (i + 1) all)) known
set_more all i s known is h =
    at_drop_more (λ l. first_of (sets_in l) known) all i s h ∙ ap (λ z. first_of (sets_of z ++ sets_in (drop (i + 1) all)) known) (sym is)

pub set_there : (all : List Stmt) (i : ℕ) (s : Stmt) (known : List ℕ) (o : Option ℕ) (x : ℕ) → s ≡ get_or all i s → i < length all → o ≡ Some x → o ≡ first_of (sets_of s) known
    → first_of (sets_in (drop i all)) known ≡ Some x
set_there all i s known o x is h some found = set_more all i s known is h ∙ some_append (sets_of s) (sets_in (drop (i + 1) all)) known o x found some

pub set_next : (all : List Stmt) (i : ℕ) (s : Stmt) (known : List ℕ) (o : Option ℕ) → s ≡ get_or all i s → i < length all → o ≡ None → o ≡ first_of (sets_of s) known
    → first_of (sets_in (drop i all)) known ≡ first_of (sets_in (drop (i + 1) all)) known
set_next all i s known o is h none found = set_more all i s known is h ∙ none_append (sets_of s) (sets_in (drop (i + 1) all)) known o found none

-- ---- a choice

sets_if : (s : Stmt) (place : ℕ) (test : Expr) (body otherwise : List Stmt) → s ≡ stmt.If place test body otherwise → sets_of s ≡ sets_in body ++ sets_in otherwise
sets_if s place test body otherwise is = ap sets_of is ∙ fold_stmt-If sets_at (λ l. flat_map (λ xs. xs) l.body) place test body otherwise

pub if_first : (s : Stmt) (place : ℕ) (test : Expr) (body otherwise inner : List Stmt) (known : List ℕ) (o : Option ℕ) (x : ℕ) → s ≡ stmt.If place test body otherwise → inner ≡ body
    → o ≡ first_of (sets_in inner) known → o ≡ Some x → Some x ≡ first_of (sets_of s) known
if_first s place test body otherwise inner known o x is same found some =
    sym (ap (λ l. first_of l known) (sets_if s place test body otherwise is)
    ∙ some_append (sets_in body) (sets_in otherwise) known o x (found ∙ ap (λ b. first_of (sets_in b) known) same) some)

pub if_second : (s : Stmt) (place : ℕ) (test : Expr) (body otherwise inner other : List Stmt) (known : List ℕ) (o p : Option ℕ) → s ≡ stmt.If place test body otherwise → inner ≡ body → other ≡ otherwise
    → o ≡ first_of (sets_in inner) known → o ≡ None → p ≡ first_of (sets_in other) known → p ≡ first_of (sets_of s) known
if_second s place test body otherwise inner other known o p is same same_other found none second =
    second ∙ ap (λ b. first_of (sets_in b) known) same_other
    ∙ sym (ap (λ l. first_of l known) (sets_if s place test body otherwise is)
    ∙ none_append (sets_in body) (sets_in otherwise) known o (found ∙ ap (λ b. first_of (sets_in b) known) same) none)
