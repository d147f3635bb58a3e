-- The loops that are found in statements one after another.
use Rattle.std.proofs.Common.{◌≡◌, ◌∙◌, refl, sym, ap, subst, arith, ℕ, zero, suc, ◌+◌, ◌<◌, ◌≤◌, List, [], ◌∷◌, ◌++◌, map, take, take_all, length, get_or, Bool, Option, append_assoc, append-nil}
use Rattle.std.specs.Borrow.{Bor}
use Rattle.std.specs.List.{flat_map}
use Rattle.std.proofs.lemmas.List.{take_more}
use Rattle.species_ast.specs.declared.tree.Expr.{Expr}
use Rattle.species_ast.specs.declared.tree.Loop.{Loop}
use Rattle.species_ast.specs.declared.tree.Stmt.{Stmt}
use Rattle.species_ast.specs.declared.tree.Stmt.TheVariants as stmt
use Rattle.species_ast.specs.Scope.Loops.{outermost_at, outermost_in}
use Rattle.species_ast.proofs.Paras.{para_stmt-Assign, para_stmt-AddTo, para_stmt-Declare, para_stmt-SetLocal}
use Rattle.species_ranges.proofs.OutermostLaws.{outermost-If, outermost-For, outermost-Block}
use Rattle.species_report.specs.Heads.{loops_seen}

pub seen_more : (xs : List (Bor Loop)) (y : Bor Loop) → loops_seen (xs ++ y ∷ []) ≡ loops_seen xs ++ y.now ∷ []
seen_more [] y = refl
seen_more (x ∷ xs) y = ap (λ l. x.now ∷ l) (seen_more xs y)

pub pushed : (old new : List (Bor Loop)) (y : Bor Loop) → new ≡ old ++ y ∷ [] → loops_seen new ≡ loops_seen old ++ y.now ∷ []
pushed old new y h = ap loops_seen h ∙ seen_more old y

flat_more : (xs : List Stmt) (x : Stmt) → flat_map outermost_in (xs ++ x ∷ []) ≡ flat_map outermost_in xs ++ outermost_in x
flat_more [] x = append-nil (outermost_in x)
flat_more (y ∷ xs) x = ap (λ l. outermost_in y ++ l) (flat_more xs x) ∙ sym (append_assoc (outermost_in y) (flat_map outermost_in xs) (outermost_in x))

pub next_heads : (all : List Stmt) (i : ℕ) (x : Stmt) (old now new : List Loop) → x ≡ get_or all i x → i < length all → now ≡ old ++ flat_map outermost_in (take i all) → new ≡ now ++ outermost_in x
    → new ≡ old ++ flat_map outermost_in (take (i + 1) all)
next_heads all i x old now new at within h e =
    let items : take (i + 1) all ≡ take i all ++ x ∷ [] = take_more all i x within ∙ ap (λ y. take i all ++ y ∷ []) (sym at) in
    e ∙ ap (λ l. l ++ outermost_in x) h ∙ append_assoc old (flat_map outermost_in (take i all)) (outermost_in x)
    ∙ ap (λ l. old ++ l) (sym (flat_more (take i all) x) ∙ ap (flat_map outermost_in) (sym items))

pub all_heads : (all : List Stmt) (i : ℕ) (old new : List Loop) → length all ≤ i → new ≡ old ++ flat_map outermost_in (take i all) → new ≡ old ++ flat_map outermost_in all
all_heads all i old new past_end h = h ∙ ap (λ xs. old ++ flat_map outermost_in xs) (take_all i all past_end)

pub if_heads : (x : Stmt) (place : ℕ) (test : Expr) (body otherwise p q : List Stmt) (old now new : List Loop) → x ≡ stmt.If place test body otherwise → p ≡ body → q ≡ otherwise
    → now ≡ old ++ flat_map outermost_in p → new ≡ now ++ flat_map outermost_in q → new ≡ old ++ outermost_in x
if_heads x place test body otherwise p q old now new is s t h k =
    k ∙ (λ i. h i ++ flat_map outermost_in (t i)) ∙ append_assoc old (flat_map outermost_in p) (flat_map outermost_in otherwise)
    ∙ (λ i. old ++ (flat_map outermost_in (s i) ++ flat_map outermost_in otherwise)) ∙ ap (λ l. old ++ l) (sym (outermost-If place test body otherwise) ∙ ap outermost_in (sym is))

pub block_heads : (x : Stmt) (body p : List Stmt) (old new : List Loop) → x ≡ stmt.Block body → p ≡ body → new ≡ old ++ flat_map outermost_in p → new ≡ old ++ outermost_in x
block_heads x body p old new is s h = h ∙ ap (λ xs. old ++ flat_map outermost_in xs) s ∙ ap (λ l. old ++ l) (sym (outermost-Block body) ∙ ap outermost_in (sym is))

pub for_heads : (x : Stmt) (head : Loop) (old new : List Loop) → x ≡ stmt.For head → new ≡ old ++ head ∷ [] → new ≡ old ++ outermost_in x
for_heads x head old new is h = h ∙ ap (λ l. old ++ l) (sym (outermost-For head) ∙ ap outermost_in (sym is))

nothing : (x : Stmt) (old : List Loop) → outermost_in x ≡ [] → old ≡ old ++ outermost_in x
nothing x old h = sym (append-nil old) ∙ ap (λ l. old ++ l) (sym h)

pub assign_heads : (x : Stmt) (place a : ℕ) (subs : List Expr) (value : Expr) (old : List Loop) → x ≡ stmt.Assign place a subs value → old ≡ old ++ outermost_in x
assign_heads x place a subs value old is = nothing x old (ap outermost_in is ∙ para_stmt-Assign outermost_at (λ l. []) place a subs value)

pub add_heads : (x : Stmt) (place a : ℕ) (subs : List Expr) (value : Expr) (atomic : Bool) (old : List Loop) → x ≡ stmt.AddTo place a subs value atomic → old ≡ old ++ outermost_in x
add_heads x place a subs value atomic old is = nothing x old (ap outermost_in is ∙ para_stmt-AddTo outermost_at (λ l. []) place a subs value atomic)

pub declare_heads : (x : Stmt) (place n : ℕ) (init : Option Expr) (old : List Loop) → x ≡ stmt.Declare place n init → old ≡ old ++ outermost_in x
declare_heads x place n init old is = nothing x old (ap outermost_in is ∙ para_stmt-Declare outermost_at (λ l. []) place n init)

pub set_heads : (x : Stmt) (place n : ℕ) (value : Expr) (old : List Loop) → x ≡ stmt.SetLocal place n value → old ≡ old ++ outermost_in x
set_heads x place n value old is = nothing x old (ap outermost_in is ∙ para_stmt-SetLocal outermost_at (λ l. []) place n value)
