-- The locals that loops without a type have as their iterators, in the order of the text.
use Rattle.std.proofs.Common.{◌≡◌, ◌∙◌, refl, sym, ap, subst, ℕ, List, [], ◌∷◌, ◌++◌, map, take, length, get_or, ◌<◌, ◌+◌, Option, Some, None, append-nil, append_assoc}
use Rattle.std.proofs.lemmas.List.{map-append, take_more}
use Rattle.species_ast.specs.Spelling.{Spelling}
use Rattle.species_ast.specs.declared.tree.Kind.{Kind}
use Rattle.species_ast.specs.declared.raw.RawExpr.{RawExpr}
use Rattle.species_ast.specs.declared.raw.RawTarget.{RawTarget}
use Rattle.species_ast.specs.declared.raw.RawLocal.{RawLocal}
use Rattle.species_ast.specs.declared.raw.RawStep.{RawStep}
use Rattle.species_ast.specs.declared.raw.RawStep.TheVariants as step
use Rattle.species_ast.specs.declared.raw.RawChange.{RawChange}
use Rattle.species_ast.specs.declared.raw.RawChange.TheVariants as change
use Rattle.species_ast.specs.Scope.Meanings.{Scope, InHeader, Occurrence, occurrence, behind, meaning_of, scope_with_local}
use Rattle.species_ast.specs.Scope.Programs.{iterators_of, local_in}
use Rattle.species_ast.specs.Scope.Expressions.{reading, target_in}
use Rattle.species_ast.specs.Scope.Statements.{Fragment, Walk, PlacedWalk, fragment, both, iterator_role, what_at, loop_at, stmt_at, stmt_fragment, in_order, declarator, change_fragment, assigned_names, step_reading}
use Rattle.std.specs.Prelude.{Bool, is_some, option_map, option_to_list}
use Rattle.species_ast.specs.declared.raw.RawStmt.{RawStmt, out-RawStmt, fold_out-RawStmt}
use Rattle.species_ast.specs.declared.raw.RawWhat.{RawWhat, roll-RawWhat, map-RawWhat, fold-RawWhat, fold-roll-RawWhat}
use Rattle.species_ast.specs.declared.raw.RawWhat.TheVariants as what
use Rattle.species_ast.specs.declared.raw.RawLoop.{RawLoop, out-RawLoop, fold_out-RawLoop}
use Rattle.species_ast.specs.declared.raw.RawWhat.TheOpen.{RawWhat-F}
use Rattle.species_names.specs.Inside.{IsInside}
use Rattle.species_scope.specs.Loops.{loop_walk, inner_of}
use Rattle.species_scope.proofs.StayLaws.{declares}
use Rattle.species_lawful.proofs.TwoWalks.{shape, init_names, local_in_scope}
use Rattle.species_lawful.proofs.RawLaws.{expr_plain, target_plain, iterators-append}
use Rattle.species_scope.proofs.BuildLaws.{in_order-snoc}

no_more : (xs ys : List Occurrence) → iterators_of xs ≡ [] → iterators_of ys ≡ [] → iterators_of (xs ++ ys) ≡ []
no_more xs ys h k = iterators-append xs ys ∙ ap (λ l. l ++ iterators_of ys) h ∙ k

pub in_expression : (e : RawExpr) (s : Scope) → iterators_of (reading e s).names ≡ []
in_expression e s = (expr_plain e s s refl).no_iterators

set_target : (e : RawTarget) (s : Scope) → iterators_of (assigned_names s (target_in e s)) ≡ []
set_target e s = (target_plain e s s refl).names.no_iterators

pub in_change : (p : ℕ) (c : RawChange) (s : Scope) → iterators_of (change_fragment p c s).notes.names ≡ []
in_change p (change.Set e o v) s = no_more (assigned_names s (target_in e s)) (reading v s).names (set_target e s) (in_expression v s)
in_change p (change.Up e) s = set_target e s
in_change p (change.UpBefore e) s = set_target e s
in_change p (change.Down e) s = set_target e s
in_change p (change.DownBefore e) s = set_target e s

pub in_atomic : (e : RawTarget) (v : RawExpr) (s : Scope) → iterators_of (assigned_names s (target_in e s) ++ (reading v s).names) ≡ []
in_atomic e v s = no_more (assigned_names s (target_in e s)) (reading v s).names (set_target e s) (in_expression v s)

in_heads : (ns : List Spelling) (s : Scope) → iterators_of (map (occurrence InHeader s) ns) ≡ []
in_heads [] s = refl
in_heads (n ∷ ns) s = in_heads ns s

pub in_step : (r : RawStep) (s : Scope) → iterators_of (step_reading r s).names ≡ []
in_step (step.Up n) s = refl
in_step (step.UpBefore n) s = refl
in_step (step.Down n) s = refl
in_step (step.DownBefore n) s = refl
in_step (step.AddBy n e) s = in_expression e s
in_step (step.SubBy n e) s = in_expression e s
in_step (step.SetAdd n m e) s = in_expression e s
in_step (step.SetSub n m e) s = in_expression e s

pub behind_iterator : (start limit : RawExpr) (ns : List Spelling) (r : RawStep) (s u : Scope)
    → iterators_of ((reading start s).names ++ ((reading limit u).names ++ (map (occurrence InHeader u) ns ++ (step_reading r u).names))) ≡ []
behind_iterator start limit ns r s u =
    let last = map (occurrence InHeader u) ns ++ (step_reading r u).names in
    no_more (reading start s).names ((reading limit u).names ++ last) (in_expression start s)
    (no_more (reading limit u).names last (in_expression limit u) (no_more (map (occurrence InHeader u) ns) (step_reading r u).names (in_heads ns u) (in_step r u)))

-- ---- declarations

init_none : (init : Option RawExpr) (s : Scope) → iterators_of (init_names init s) ≡ []
init_none (Some e) s = in_expression e s
init_none None s = refl

declarator_none : (k : Kind) (l : RawLocal) (s : Scope) → iterators_of (declarator k l s).notes.names ≡ []
declarator_none k l s = ap iterators_of (shape k l s).0 ∙ init_none l.init (local_in_scope l k s)

declared_none : (k : Kind) (ls : List RawLocal) (s : Scope) → iterators_of (in_order (map (declarator k) ls) s).notes.names ≡ []
declared_none k [] s = refl
declared_none k (l ∷ ls) s = no_more (declarator k l s).notes.names (in_order (map (declarator k) ls) (declarator k l s).next).notes.names
    (declarator_none k l s) (declared_none k ls (declarator k l s).next)

pub in_declare : (raw : RawStmt) (k : Kind) (ls : List RawLocal) → (out-RawStmt raw).what ≡ what.Declare k ls → (s : Scope) → iterators_of (stmt_fragment raw s).notes.names ≡ []
in_declare raw k ls is s = ap (λ (w : Walk). iterators_of (w s).notes.names) (declares raw k ls is) ∙ declared_none k ls s

some_map : (init : Option RawExpr) → is_some init ≡ is_some (option_map reading init)
some_map (Some e) = refl
some_map None = refl

one_more : {X : Type 0} (f : X → Walk) (xs : List X) (s : Scope) (i : ℕ) (x : X) → x ≡ get_or xs i x → i < length xs
    → in_order (map f (take (i + 1) xs)) s
    ≡ fragment ((in_order (map f (take i xs)) s).statements ++ (f x (in_order (map f (take i xs)) s).next).statements)
    (both (in_order (map f (take i xs)) s).notes (f x (in_order (map f (take i xs)) s).next).notes) (f x (in_order (map f (take i xs)) s).next).next
one_more f xs s i x at within =
    ap (λ ps. in_order ps s) (ap (map f) (take_more xs i x within ∙ ap (λ y. take i xs ++ y ∷ []) (sym at)) ∙ map-append f (take i xs) (x ∷ [])) ∙ in_order-snoc (map f (take i xs)) (f x) s

pub declared_next : (k : Kind) (ls : List RawLocal) (s now next : Scope) (i : ℕ) (l : RawLocal) (b : Bool)
    → now ≡ (in_order (map (declarator k) (take i ls)) s).next → l ≡ get_or ls i l → i < length ls
    → b ≡ is_some l.init → next ≡ scope_with_local l.name (record { serial = now.serials; kind = k; initialised = b }) now
    → next ≡ (in_order (map (declarator k) (take (i + 1) ls)) s).next
declared_next k ls s now next i l b h at within hb hn =
    hn ∙ ap (λ c. scope_with_local l.name (record { serial = now.serials; kind = k; initialised = c }) now) (hb ∙ some_map l.init)
    ∙ sym (shape k l now).1 ∙ ap (λ z. (declarator k l z).next) h ∙ sym (ap (λ (r : Fragment). r.next) (one_more (declarator k) ls s i l at within))

-- ---- lists

pub record Gathered {X : Type 0} (f : X → Walk) (xs : List X) (s now : Scope) (old found : List ℕ) (i : ℕ) : Type 0 where
  pub place : now ≡ (in_order (map f (take i xs)) s).next
  pub found_is : found ≡ old ++ iterators_of (in_order (map f (take i xs)) s).notes.names

pub gathered_next : {X : Type 0} (f : X → Walk) (xs : List X) (s now next : Scope) (old found more : List ℕ) (i : ℕ) (x : X)
    → Gathered f xs s now old found i → x ≡ get_or xs i x → i < length xs
    → next ≡ (f x now).next → more ≡ found ++ iterators_of (f x now).notes.names → Gathered f xs s next old more (i + 1)
gathered_next f xs s now next old found more i x h at within hn hm =
    let front = in_order (map f (take i xs)) s in
    let last = f x front.next in
    let whole = one_more f xs s i x at within in
    record {
      place = hn ∙ ap (λ z. (f x z).next) h.place ∙ sym (ap (λ (r : Fragment). r.next) whole);
      found_is =
          hm ∙ ap (λ z. found ++ iterators_of (f x z).notes.names) h.place ∙ ap (λ l. l ++ iterators_of last.notes.names) h.found_is
          ∙ append_assoc old (iterators_of front.notes.names) (iterators_of last.notes.names)
          ∙ ap (λ l. old ++ l) (sym (iterators-append front.notes.names last.notes.names))
          ∙ ap (λ (r : Fragment). old ++ iterators_of r.notes.names) (sym whole);
    }

-- ---- scopes

pub ends_at : (s now t u : Scope) → now ≡ u → IsInside s u → (IsInside s now → t ≡ behind s now) → t ≡ behind s u
ends_at s now t u h inside ends = ends (subst (IsInside s) (sym h) inside) ∙ ap (behind s) h

-- ---- statements by their variants

abbrev what_walk : RawWhat → PlacedWalk
what_walk = fold-RawWhat PlacedWalk PlacedWalk Walk what_at loop_at stmt_at

by_layer : (raw : RawStmt) (w : RawWhat) (f : RawWhat-F RawWhat RawLoop RawStmt) → (out-RawStmt raw).what ≡ w → roll-RawWhat f ≡ w
    → stmt_fragment raw ≡ what_at (map-RawWhat RawWhat RawLoop RawStmt PlacedWalk PlacedWalk Walk what_walk loop_walk stmt_fragment f) (out-RawStmt raw).place
by_layer raw w f is rolls =
    fold_out-RawStmt PlacedWalk PlacedWalk Walk what_at loop_at stmt_at raw ∙ ap (λ z. what_walk z (out-RawStmt raw).place) (is ∙ sym rolls)
    ∙ ap (λ (z : PlacedWalk). z (out-RawStmt raw).place) (fold-roll-RawWhat PlacedWalk PlacedWalk Walk what_at loop_at stmt_at f)

same_next : (v w : Walk) (s : Scope) → v ≡ w → (v s).next ≡ (w s).next
same_next v w s h = ap (λ (z : Walk). (z s).next) h

same_found : (v w : Walk) (s : Scope) → v ≡ w → iterators_of (v s).notes.names ≡ iterators_of (w s).notes.names
same_found v w s h = ap (λ (z : Walk). iterators_of (z s).notes.names) h

pub block_next : (raw : RawStmt) (ss : List RawStmt) → (out-RawStmt raw).what ≡ what.Block ss → (s : Scope) → behind s (in_order (map stmt_fragment ss) s).next ≡ (stmt_fragment raw s).next
block_next raw ss is s = sym (same_next _ _ s (by_layer raw (what.Block ss) (RawWhat-F.Block ss) is (what.rolls-Block ss)))

pub change_none : (raw : RawStmt) (c : RawChange) → (out-RawStmt raw).what ≡ what.Change c → (s : Scope) (old : List ℕ) → old ≡ old ++ iterators_of (stmt_fragment raw s).notes.names
change_none raw c is s old = nothing_new old _ (same_found _ _ s (by_layer raw (what.Change c) (RawWhat-F.Change c) is (what.rolls-Change c)) ∙ in_change (out-RawStmt raw).place c s)
  where
    nothing_new : (old more : List ℕ) → more ≡ [] → old ≡ old ++ more
    nothing_new old more h = sym (ap (λ l. old ++ l) h ∙ append-nil old)

pub nothing : (old more : List ℕ) → more ≡ [] → old ≡ old ++ more
nothing old more h = sym (ap (λ l. old ++ l) h ∙ append-nil old)

pub atomic_none : (raw : RawStmt) (e : RawTarget) (v : RawExpr) → (out-RawStmt raw).what ≡ what.Atomic e v → (s : Scope) → iterators_of (stmt_fragment raw s).notes.names ≡ []
atomic_none raw e v is s = same_found _ _ s (by_layer raw (what.Atomic e v) (RawWhat-F.Atomic e v) is (what.rolls-Atomic e v)) ∙ in_atomic e v s

pub if_found : (raw : RawStmt) (e : RawExpr) (body : RawStmt) → (out-RawStmt raw).what ≡ what.If e body None → (s : Scope)
    → iterators_of (stmt_fragment body s).notes.names ≡ iterators_of (stmt_fragment raw s).notes.names
if_found raw e body is s =
    let p = stmt_fragment body s in
    sym (same_found _ _ s (by_layer raw (what.If e body None) (RawWhat-F.If e body None) is (what.rolls-If e body None))
    ∙ iterators-append (reading e s).names (p.notes.names ++ []) ∙ ap (λ l. l ++ iterators_of (p.notes.names ++ [])) (in_expression e s)
    ∙ ap iterators_of (append-nil p.notes.names))

pub else_found : (raw : RawStmt) (e : RawExpr) (body otherwise : RawStmt) → (out-RawStmt raw).what ≡ what.If e body (Some otherwise) → (s : Scope) (old mid new : List ℕ) (t : Scope)
    → mid ≡ old ++ iterators_of (stmt_fragment body s).notes.names → t ≡ behind s (stmt_fragment body s).next → new ≡ mid ++ iterators_of (stmt_fragment otherwise t).notes.names
    → new ≡ old ++ iterators_of (stmt_fragment raw s).notes.names
else_found raw e body otherwise is s old mid new t hm ht hn =
    let p = stmt_fragment body s in
    let q = stmt_fragment otherwise (behind s p.next) in
    let whole : iterators_of (stmt_fragment raw s).notes.names ≡ iterators_of p.notes.names ++ iterators_of q.notes.names =
    same_found _ _ s (by_layer raw (what.If e body (Some otherwise)) (RawWhat-F.If e body (Some otherwise)) is (what.rolls-If e body (Some otherwise)))
    ∙ iterators-append (reading e s).names (p.notes.names ++ q.notes.names) ∙ ap (λ l. l ++ iterators_of (p.notes.names ++ q.notes.names)) (in_expression e s)
    ∙ iterators-append p.notes.names q.notes.names in
    hn ∙ ap (λ z. mid ++ iterators_of (stmt_fragment otherwise z).notes.names) ht ∙ ap (λ l. l ++ iterators_of q.notes.names) hm
    ∙ append_assoc old (iterators_of p.notes.names) (iterators_of q.notes.names) ∙ ap (λ l. old ++ l) (sym whole)

-- ---- loops

first_of : (o : Occurrence) (os : List Occurrence) → iterators_of (o ∷ os) ≡ option_to_list (local_in o.role o.means) ++ iterators_of os
first_of o os = iterators-append (o ∷ []) os ∙ ap (λ l. l ++ iterators_of os) (go (local_in o.role o.means) refl)
  where
    go : (x : Option ℕ) → local_in o.role o.means ≡ x → iterators_of (o ∷ []) ≡ option_to_list (local_in o.role o.means)
    go (Some n) e = rw e refl
    go None e = rw e refl

pub loop_found : (raw : RawLoop) (body : RawStmt) (s u : Scope) (old mid new : List ℕ)
    → u ≡ inner_of (out-RawLoop raw) s → body ≡ (out-RawLoop raw).body
    → mid ≡ old ++ option_to_list (local_in (iterator_role (out-RawLoop raw).typed) (meaning_of s (out-RawLoop raw).iter))
    → new ≡ mid ++ iterators_of (stmt_fragment body u).notes.names
    → new ≡ old ++ iterators_of (loop_walk raw 0 s).notes.names
loop_found raw body s u old mid new hu hb hm hn =
    let l = out-RawLoop raw in
    let v = inner_of l s in
    let p = stmt_fragment l.body v in
    let o = occurrence (iterator_role l.typed) s l.iter in
    let here = option_to_list (local_in (iterator_role l.typed) (meaning_of s l.iter)) in
    let rest = (reading l.start s).names ++ ((reading l.limit v).names ++ (map (occurrence InHeader v) (l.tested ∷ (step_reading l.step v).variables) ++ (step_reading l.step v).names)) in
    let whole : iterators_of (loop_walk raw 0 s).notes.names ≡ here ++ iterators_of p.notes.names =
    ap (λ (w : PlacedWalk). iterators_of (w 0 s).notes.names) (fold_out-RawLoop PlacedWalk PlacedWalk Walk what_at loop_at stmt_at raw)
    ∙ first_of o (rest ++ p.notes.names)
    ∙ ap (λ m. here ++ m) (iterators-append rest p.notes.names ∙ ap (λ m. m ++ iterators_of p.notes.names) (behind_iterator l.start l.limit (l.tested ∷ (step_reading l.step v).variables) l.step s v)) in
    hn ∙ ap (λ z. mid ++ iterators_of (stmt_fragment body z).notes.names) hu ∙ ap (λ b. mid ++ iterators_of (stmt_fragment b v).notes.names) hb
    ∙ ap (λ m. m ++ iterators_of p.notes.names) hm ∙ append_assoc old here (iterators_of p.notes.names) ∙ ap (λ m. old ++ m) (sym whole)

pub loop_place : (raw : RawLoop) (body : RawStmt) (s u now t : Scope) → u ≡ inner_of (out-RawLoop raw) s → body ≡ (out-RawLoop raw).body
    → now ≡ behind u (stmt_fragment body u).next → (IsInside s now → t ≡ behind s now) → t ≡ (loop_walk raw 0 s).next
loop_place raw body s u now t hu hb hn ends =
    let l = out-RawLoop raw in
    let v = inner_of l s in
    let here : now ≡ behind v (stmt_fragment l.body v).next = hn ∙ ap (λ b. behind u (stmt_fragment b u).next) hb ∙ ap (λ z. behind z (stmt_fragment l.body z).next) hu in
    let inside : IsInside s (behind v (stmt_fragment l.body v).next) = record { more = (l.iter.text, _) ∷ []; names = refl; iterators = refl } in
    ends_at s now t _ here inside ends ∙ sym (ap (λ (w : PlacedWalk). (w 0 s).next) (fold_out-RawLoop PlacedWalk PlacedWalk Walk what_at loop_at stmt_at raw))
