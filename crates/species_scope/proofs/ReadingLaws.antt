-- What targets become.
use Rattle.std.proofs.Common.{◌≡◌, ◌∙◌, ap, sym, refl, ℕ, suc, List, [], ◌∷◌, ◌++◌, length, Option, Some, None}
use Rattle.species_ast.specs.Spelling.{Spelling}
use Rattle.species_ast.specs.declared.tree.Expr.{Expr}
use Rattle.species_ast.specs.declared.raw.RawExpr.{RawExpr}
use Rattle.species_ast.specs.declared.raw.RawTarget.{RawTarget, out-RawTarget, fold_out-RawTarget}
use Rattle.species_ast.specs.Scope.Meanings.{Meaning, Scope, Occurrence, meaning_of, Role, occurrence}
use Rattle.species_ast.specs.Scope.Expressions.{ExprReading, ResolvedTarget, target_in, value_of, term_at, expr_at, target_at}
use Rattle.species_ast.specs.Scope.Refusals.{Finding}
use Rattle.species_names.specs.Noted.{noted}
use Rattle.species_scope.specs.Targets.{resolved, bare}
use Rattle.species_scope.specs.Readings.{exprs_in, names_in, value_with}
use Rattle.species_names.proofs.KeptLaws.{noted-append}

abbrev pub target_of : Spelling → List RawExpr → Scope → ResolvedTarget
target_of n subs s = record { name = n; means = meaning_of s n; subs = exprs_in subs s; names = names_in subs s }

pub target-out : (t : RawTarget) (s : Scope) → target_in t s ≡ target_of (out-RawTarget t).name (out-RawTarget t).subs s
target-out t s = fold_out-RawTarget ExprReading ExprReading ResolvedTarget (term_at s) expr_at (target_at s) t

value_is : (s : Scope) (n : Spelling) (o : Option Meaning) (subs : List Expr) (names : List Occurrence)
    → value_of s (record { name = n; means = o; subs = subs; names = names }) ≡ value_with s o subs
value_is s n (Some (Meaning.Array a k)) subs names = refl
value_is s n (Some (Meaning.Variable x)) subs names = refl
value_is s n (Some (Meaning.Iterator level)) subs names = refl
value_is s n (Some Meaning.Function) subs names = refl
value_is s n None subs names = refl

pub value-out : (t : RawTarget) (s : Scope) (o : Option Meaning) (es : List RawExpr) (subs : List Expr)
    → o ≡ meaning_of s (out-RawTarget t).name → es ≡ (out-RawTarget t).subs → subs ≡ exprs_in es s
    → value_with s o subs ≡ value_of s (target_in t s)
value-out t s o es subs h k e =
    ap (λ m. value_with s m subs) h ∙ ap (value_with s (meaning_of s (out-RawTarget t).name)) (e ∙ ap (λ l. exprs_in l s) k)
    ∙ sym (value_is s (out-RawTarget t).name (meaning_of s (out-RawTarget t).name) (exprs_in (out-RawTarget t).subs s) (names_in (out-RawTarget t).subs s))
    ∙ ap (value_of s) (sym (target-out t s))

length_is : (es : List RawExpr) (s : Scope) → length (exprs_in es s) ≡ length es
length_is [] s = refl
length_is (e ∷ es) s = ap suc (length_is es s)

-- the names of a target whose role counts its subscripts
pub names-out : (role : ℕ → Role) (t : RawTarget) (s : Scope) (its : List ℕ) (o : Option Meaning) (n : ℕ) (es : List RawExpr) (old mid new : Option Finding)
    → its ≡ s.iterators → o ≡ meaning_of s (out-RawTarget t).name → n ≡ length (out-RawTarget t).subs → es ≡ (out-RawTarget t).subs
    → mid ≡ noted its old (record { name = (out-RawTarget t).name; role = role n; means = o } ∷ [])
    → new ≡ noted s.iterators mid (names_in es s)
    → new ≡ noted s.iterators old (occurrence (role (length (target_in t s).subs)) s (target_in t s).name ∷ (target_in t s).names)
names-out role t s its o n es old mid new hi ho hn he hm hw =
    let name = (out-RawTarget t).name in
    let subs = (out-RawTarget t).subs in
    let one : List Occurrence = occurrence (role (length (exprs_in subs s))) s name ∷ [] in
    let first : mid ≡ noted s.iterators old one =
    hm ∙ ap (λ i. noted i old (record { name = name; role = role n; means = o } ∷ [])) hi
    ∙ ap (λ m. noted s.iterators old (record { name = name; role = role n; means = m } ∷ [])) ho
    ∙ ap (λ k. noted s.iterators old (occurrence (role k) s name ∷ [])) (hn ∙ sym (length_is subs s)) in
    let second : new ≡ noted s.iterators old (one ++ names_in subs s) =
    hw ∙ ap (λ l. noted s.iterators mid (names_in l s)) he ∙ ap (λ m. noted s.iterators m (names_in subs s)) first
    ∙ sym (noted-append s.iterators old one (names_in subs s)) in
    second ∙ ap (λ (r : ResolvedTarget). noted s.iterators old (occurrence (role (length r.subs)) s r.name ∷ r.names)) (sym (target-out t s))

pub bare-out : (t : RawTarget) (s : Scope) (o : Option Meaning) (es : List RawExpr) (subs : List Expr)
    → o ≡ meaning_of s (out-RawTarget t).name → es ≡ (out-RawTarget t).subs → subs ≡ exprs_in es s
    → resolved o subs ≡ bare (target_in t s)
bare-out t s o es subs h k e =
    ap (λ m. resolved m subs) h ∙ ap (resolved (meaning_of s (out-RawTarget t).name)) (e ∙ ap (λ l. exprs_in l s) k) ∙ ap bare (sym (target-out t s))
