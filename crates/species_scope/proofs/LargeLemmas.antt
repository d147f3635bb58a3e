-- Outermost loops that have too many references.
use Rattle.std.proofs.Common.{◌≡◌, ◌∙◌, refl, sym, ap, ℕ, ◌+◌, ◌<◌, List, [], ◌∷◌, ◌++◌, map, take, length, get_or, Bool, Option, nat_lt, append-nil}
use Rattle.std.specs.List.{flat_map}
use Rattle.std.proofs.lemmas.List.{take_more}
use Rattle.std.proofs.lemmas.Grind.{flat_map-append}
use Rattle.species_ast.specs.declared.tree.Expr.{Expr}
use Rattle.species_ast.specs.declared.tree.Loop.{Loop, out-Loop}
use Rattle.species_ast.specs.declared.tree.Stmt.{Stmt}
use Rattle.species_ast.specs.declared.tree.Stmt.TheVariants as stmt
use Rattle.species_ast.specs.declared.tree.Unit.{Unit as Tree}
use Rattle.species_ast.specs.Scope.Limits.{most_references}
use Rattle.species_ast.specs.Scope.Loops.{outermost_at, outermost_in, outermost_loops}
use Rattle.species_ast.specs.Scope.References.{reference_count}
use Rattle.species_ast.specs.Scope.Refusals.{Limit, Refusal, Finding}
use Rattle.species_ast.specs.Scope.Conditions.{refused_references}
use Rattle.species_ast.proofs.Paras.{beside, para_stmt-Assign, para_stmt-AddTo, para_stmt-Declare, para_stmt-SetLocal, para_stmt-If, para_stmt-For, para_stmt-Block}
use Rattle.species_names.specs.Kept.{kept, refused_if}
use Rattle.species_names.proofs.KeptLaws.{kept-append}
use Rattle.species_names.proofs.JoinLaws.{refused_where}
use Rattle.species_scope.specs.Referenced.{large_at, large_in}

large_in-append : (first : Option Finding) (xs ys : List Loop) → kept first (large_in (xs ++ ys)) ≡ kept (kept first (large_in xs)) (large_in ys)
large_in-append first xs ys = ap (kept first) (flat_map-append large_at xs ys) ∙ kept-append first (large_in xs) (large_in ys)

pub large_next : (all : List Stmt) (i : ℕ) (x : Stmt) (old now new : Option Finding) → x ≡ get_or all i x → i < length all
    → now ≡ kept old (large_in (flat_map outermost_in (take i all))) → new ≡ kept now (large_in (outermost_in x))
    → new ≡ kept old (large_in (flat_map outermost_in (take (i + 1) all)))
large_next all i x old now new at within h k =
    let more : take (i + 1) all ≡ take i all ++ x ∷ [] = take_more all i x within ∙ ap (λ y. take i all ++ y ∷ []) (sym at) in
    let first = flat_map outermost_in (take i all) in
    k ∙ ap (λ m. kept m (large_in (outermost_in x))) h ∙ sym (large_in-append old first (outermost_in x))
    ∙ ap (λ l. kept old (large_in (first ++ l))) (sym (append-nil (outermost_in x)))
    ∙ ap (λ l. kept old (large_in l)) (sym (flat_map-append outermost_in (take i all) (x ∷ [])) ∙ ap (flat_map outermost_in) (sym more))

flat_seconds : (xs : List Stmt) → flat_map (λ (x : Stmt × List Loop). x.1) (map (beside outermost_in) xs) ≡ flat_map outermost_in xs
flat_seconds [] = refl
flat_seconds (x ∷ xs) = ap (λ l. outermost_in x ++ l) (flat_seconds xs)

pub in_assign : (place array : ℕ) (subs : List Expr) (value : Expr) → outermost_in (stmt.Assign place array subs value) ≡ []
in_assign place array subs value = para_stmt-Assign outermost_at (λ l. []) place array subs value

pub in_add : (place array : ℕ) (subs : List Expr) (value : Expr) (atomic : Bool) → outermost_in (stmt.AddTo place array subs value atomic) ≡ []
in_add place array subs value atomic = para_stmt-AddTo outermost_at (λ l. []) place array subs value atomic

pub in_declare : (place local : ℕ) (init : Option Expr) → outermost_in (stmt.Declare place local init) ≡ []
in_declare place local init = para_stmt-Declare outermost_at (λ l. []) place local init

pub in_set : (place local : ℕ) (value : Expr) → outermost_in (stmt.SetLocal place local value) ≡ []
in_set place local value = para_stmt-SetLocal outermost_at (λ l. []) place local value

pub in_if : (place : ℕ) (test : Expr) (body otherwise : List Stmt) → outermost_in (stmt.If place test body otherwise) ≡ flat_map outermost_in body ++ flat_map outermost_in otherwise
in_if place test body otherwise = para_stmt-If outermost_at (λ l. []) place test body otherwise ∙ (λ i. flat_seconds body i ++ flat_seconds otherwise i)

pub in_block : (body : List Stmt) → outermost_in (stmt.Block body) ≡ flat_map outermost_in body
in_block body = para_stmt-Block outermost_at (λ l. []) body ∙ flat_seconds body

pub in_for : (l : Loop) → outermost_in (stmt.For l) ≡ l ∷ []
in_for l = para_stmt-For outermost_at (λ l. []) l

pub none_large : (s s' : Stmt) (old : Option Finding) → s ≡ s' → outermost_in s' ≡ [] → old ≡ kept old (large_in (outermost_in s))
none_large s s' old is none = ap (λ l. kept old (large_in l)) (sym (ap outermost_in is ∙ none))

pub two_large : (s : Stmt) (place : ℕ) (test : Expr) (body otherwise : List Stmt) (old mid new : Option Finding) → s ≡ stmt.If place test body otherwise
    → mid ≡ kept old (large_in (flat_map outermost_in body)) → new ≡ kept mid (large_in (flat_map outermost_in otherwise)) → new ≡ kept old (large_in (outermost_in s))
two_large s place test body otherwise old mid new is h k =
    k ∙ ap (λ m. kept m (large_in (flat_map outermost_in otherwise))) h ∙ sym (large_in-append old (flat_map outermost_in body) (flat_map outermost_in otherwise))
    ∙ ap (λ l. kept old (large_in l)) (sym (in_if place test body otherwise) ∙ ap outermost_in (sym is))

pub one_large : (s : Stmt) (l : Loop) (count place : ℕ) (large : Bool) (old new : Option Finding) → s ≡ stmt.For l → count ≡ reference_count l
    → large ≡ nat_lt most_references count → place ≡ (out-Loop l).place → new ≡ kept old (refused_if large (Refusal.LimitPassed Limit.References) place)
    → new ≡ kept old (large_in (outermost_in s))
one_large s l count place large old new is counted test at h =
    h ∙ (λ i. kept old (refused_if ((test ∙ ap (nat_lt most_references) counted) i) (Refusal.LimitPassed Limit.References) (at i)))
    ∙ ap (kept old) (sym (append-nil (large_at l))) ∙ ap (λ l. kept old (large_in l)) (sym (in_for l) ∙ ap outermost_in (sym is))

pub all_large : (u : Tree) (old : Option Finding) → kept old (large_in (flat_map outermost_in u.body)) ≡ kept old (refused_references u)
all_large u old = ap (kept old) (refused_where (Refusal.LimitPassed Limit.References) (λ head. nat_lt most_references (reference_count head)) (λ head. (out-Loop head).place) (outermost_loops u))
