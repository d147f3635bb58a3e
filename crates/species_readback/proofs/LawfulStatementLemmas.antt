-- What a lawful statement becomes, by its derivation.
use Rattle.std.proofs.Common.{◌≡◌, ◌∙◌, ap, sym, refl, subst, ℕ, suc, ◌+◌, Bool, true, false, List, [], ◌∷◌, ◌++◌, map, length, Option, Some, None, arith}
use Rattle.std.proofs.lemmas.Bool.{and_parts}
use Rattle.std.specs.Prelude.{option_map}
use Rattle.std.specs.List.{list_all}
use Rattle.species_ast.specs.Names.{is_name}
use Rattle.species_ast.specs.Spelling.{Spelling}
use Rattle.species_ast.specs.Marks.{all_true}
use Rattle.species_ast.specs.declared.tree.Unit.{Unit}
use Rattle.species_ast.specs.declared.tree.LocalInfo.{LocalInfo}
use Rattle.species_ast.specs.declared.tree.Binary.TheVariants as binary
use Rattle.species_ast.specs.declared.tree.Expr.{Expr}
use Rattle.species_ast.specs.declared.tree.Stmt.{Stmt}
use Rattle.species_ast.specs.declared.tree.Stmt.TheVariants as stmt
use Rattle.species_ast.specs.Scope.Meanings.{Scope, meaning_in, local_number, behind, is_among, Occurrence}
use Rattle.species_ast.specs.Scope.Expressions.{ResolvedTarget}
use Rattle.species_ast.specs.Scope.Statements as walk
use Rattle.species_ast.proofs.Folds.{fold_stmt-If, fold_stmt-Block}
use Rattle.species_print.specs.Expressions.{local_name}
use Rattle.species_ast.proofs.Folds.{fold_expr-Literal}
use Rattle.species_readback.proofs.LawfulLemmas.{Sound, is_assignable}
use Rattle.std.specs.Prelude.{if◌then◌else◌, is_some, pos, unwrap_or}
use Rattle.species_ast.specs.declared.tree.Kind.{Kind}
use Rattle.species_ast.specs.declared.tree.Loop.{Loop, roll-Loop}
use Rattle.species_ast.specs.declared.tree.Stmt.TheOpen.{Loop-F}
use Rattle.species_ast.specs.Scope.Meanings.{Local, scope_with_local, occurrence, InHeader, Declared}
use Rattle.species_ast.proofs.Folds.{fold_stmt-For, fold_loop}
use Rattle.species_print.specs.Statements.{local_kind}
use Rattle.species_readback.proofs.KeptLemmas.{Place, Kept, BodyKept}
use Rattle.species_ast.specs.Token.{Token}
use Rattle.species_ast.specs.declared.tree.Schedule.{Schedule}
use Rattle.species_ast.specs.declared.tree.Mark.TheVariants as mark
use Rattle.species_ast.specs.declared.raw.RawExpr.{RawExpr}
use Rattle.species_ast.specs.declared.raw.RawTarget.{RawTarget}
use Rattle.species_ast.specs.declared.raw.RawChange.{RawChange}
use Rattle.species_ast.specs.declared.raw.RawStmt.{RawStmt}
use Rattle.species_ast.specs.declared.raw.RawLocal.{RawLocal}
use Rattle.species_ast.specs.declared.raw.RawWhat.{RawWhat}
use Rattle.species_ast.specs.declared.raw.RawWhat.TheOpen.{RawLoop-F}
use Rattle.species_ast.specs.declared.raw.RawLoop.{RawLoop}
use Rattle.species_ast.specs.Grammar.Expressions as grammar
use Rattle.species_ast.specs.Grammar.Words as word
use Rattle.species_ast.specs.Grammar.Declarations.{InitDeclarator, MoreDeclarators, LocalDeclaration}
use Rattle.species_ast.specs.Grammar.Statements.{Change, Header, ForHeader, SpeciesLine, ParallelLine, Statement, BlockItems, target_place}
use Rattle.species_ast.specs.Scope.Expressions.{ExprReading, reading, target_in}
use Rattle.species_ast.proofs.ScopeLaws.{target_in-target, stmt_fragment-Declare, stmt_fragment-Block, stmt_fragment-Empty, stmt_fragment-If, stmt_fragment-IfElse, stmt_fragment-Change, stmt_fragment-Atomic, stmt_fragment-Loop, parts_in}
use Rattle.species_readback.proofs.LawfulLemmas.{is_good, is_fine, Here, expr_sound, subs_sound}
use Rattle.species_readback.proofs.KeptLemmas.{Target, next_place, kept_nothing, operated_kept, increased_kept, combined_kept, kept_then, body_of, behind_place, block_kept, if_kept}
use Rattle.species_readback.proofs.KeptLoopLemmas.{loop_place, loop_kept, declared_place, InitSound, declare_kept, dropped_kept}
use Rattle.species_readback.specs.Meant.{expr_meant, declared}
use Rattle.species_readback.specs.Spelt.{expr_spelt, is_int_step, line_spelt, mark_spelt, is_species_text}
use Rattle.species_ast.specs.Marks.{test_step, test_layer}
use Rattle.species_ast.specs.declared.tree.Stmt.{fold-Stmt}
use Rattle.species_readback.proofs.KeptLemmas.{all_same}
use Rattle.species_readback.proofs.ListLemmas.{all_split}

-- the unit's locals from this number on are these
abbrev pub Named : Unit → ℕ → List LocalInfo → Type 0
Named u n [] = Prim.Unit {0}
Named u n (x ∷ xs) = (local_name u n ≡ x.name) × (local_kind u n ≡ x.kind) × Named u (suc n) xs

named_split : (u : Unit) (n : ℕ) (xs ys : List LocalInfo) → Named u n (xs ++ ys) → Named u n xs × Named u (n + length xs) ys
named_split u n [] ys h = let at : n ≡ n + 0 = omega arith in (tt, subst (λ k. Named u k ys) at h)
named_split u n (x ∷ xs) ys h =
    let r = named_split u (suc n) xs ys h.2 in
    let at : suc n + length xs ≡ n + length (x ∷ xs) = omega arith in
    ((h.0, h.1, r.0), subst (λ k. Named u k ys) at r.1)

-- each step in the statement is that of an `int`
abbrev pub is_stepped : Stmt → Bool
is_stepped = fold-Stmt Bool Bool (test_step (λ atomic. true)) (test_layer (λ l. is_int_step l.step))

-- what is known of statements of a lawful program at a place, and of what is noted of them
pub record Fine (c : Place) (p : walk.Fragment) (ss : List Stmt) : Type 0 where
  pub names : list_all (is_fine c.s.iterators) p.notes.names ≡ true
  pub named : Named c.u c.t.serials p.notes.locals
  pub steps : list_all is_stepped ss ≡ true

abbrev pub ListKept : Place → walk.Fragment → Type 0
ListKept c p = Fine c p p.statements → Kept c p.statements p.next p.notes.locals

-- in a list, and as a body
abbrev pub FragmentKept : Place → walk.Fragment → Type 0
FragmentKept c p = ListKept c p × (Fine c p p.body → BodyKept c p.body p.next p.notes.locals)

abbrev here : Place → Here
here c = record { u = c.u; it = c.it; s = c.s; t = c.t; matches = c.matches }

-- the same in a list and as a body
one_way : (c : Place) (ss : List Stmt) (notes : walk.Notes) (next : Scope) → ListKept c (walk.fragment ss notes next) → FragmentKept c (walk.fragment ss notes next)
one_way c ss notes next k = (k, λ w. body_of c ss next notes.locals (k w))

-- ---- the steps in a statement

if_steps : (p : ℕ) (e : Expr) (xs ys : List Stmt) → list_all is_stepped (stmt.If p e xs ys ∷ []) ≡ true → (list_all is_stepped xs ≡ true) × (list_all is_stepped ys ≡ true)
if_steps p e xs ys h =
    let own = (and_parts (is_stepped (stmt.If p e xs ys)) true h).0 in
    let k = and_parts (all_true (map is_stepped xs)) (all_true (map is_stepped ys)) (sym (fold_stmt-If (test_step (λ atomic. true)) (test_layer (λ l. is_int_step l.step)) p e xs ys) ∙ own) in
    (sym (all_same is_stepped xs) ∙ k.0, sym (all_same is_stepped ys) ∙ k.1)

block_steps : (xs : List Stmt) → list_all is_stepped (stmt.Block xs ∷ []) ≡ true → list_all is_stepped xs ≡ true
block_steps xs h =
    let own = (and_parts (is_stepped (stmt.Block xs)) true h).0 in
    sym (all_same is_stepped xs) ∙ sym (fold_stmt-Block (test_step (λ atomic. true)) (test_layer (λ l. is_int_step l.step)) xs) ∙ own

for_steps : (l : Loop-F Stmt Loop) → list_all is_stepped (stmt.For (roll-Loop l) ∷ []) ≡ true → (is_int_step l.step ≡ true) × (list_all is_stepped l.body ≡ true)
for_steps l h =
    let step = test_step (λ atomic. true) in
    let layer : Loop-F Bool Bool → Bool = test_layer (λ l. is_int_step l.step) in
    let own = (and_parts (is_stepped (stmt.For (roll-Loop l))) true h).0 in
    let k = and_parts (is_int_step l.step) (all_true (map is_stepped l.body)) (sym (fold_stmt-For step layer (roll-Loop l) ∙ fold_loop step layer l) ∙ own) in
    (k.0, sym (all_same is_stepped l.body) ∙ k.1)

-- ---- targets and changes

target_known : (c : Place) (t : RawTarget) (ts : List Token) → grammar.Target t ts → list_all is_good ts ≡ true → list_all (is_fine c.s.iterators) (target_in t c.s).names ≡ true
    → Target c (target_in t c.s).name (target_in t c.s).means (target_in t c.s).subs
target_known c t ts (grammar.Target.element n subs us d) g w =
    let a = and_parts (is_name n.text) (list_all is_good us) g in
    let is = target_in-target n subs c.s in
    subst (λ r. Target c r.name r.means r.subs) (sym is) (c.matches n.text, a.0, subs_sound (here c) subs us d a.1 (sym (ap (λ r. list_all (is_fine c.s.iterators) r.names) is) ∙ w))

-- the statements that a change by a value becomes
by_value : (c : Place) (f : Scope → ResolvedTarget → Expr → List Stmt) (t : RawTarget) (x : RawExpr) (ts xs : List Token) (n : ℕ)
    → ((r : ResolvedTarget) (v : Expr) → Target c r.name r.means r.subs → is_assignable c.s.iterators r.means ≡ true → Sound c.u c.it c.t v → Kept c (f c.s r v) c.s [])
    → grammar.Target t ts → grammar.Expression n x xs → list_all is_good ts ≡ true → list_all is_good xs ≡ true → FragmentKept c (walk.change_by f (target_in t) (reading x) c.s)
by_value c f t x ts xs n h dt dx gt gx =
    let r = target_in t c.s in
    one_way c (f c.s r (reading x c.s).expr) (walk.names_only (walk.assigned_names c.s r ++ (reading x c.s).names)) c.s (λ w.
    let a = all_split (is_fine c.s.iterators) (walk.assigned_names c.s r) (reading x c.s).names w.names in
    let b = and_parts (is_assignable c.s.iterators (meaning_in c.s.names r.name.text)) (list_all (is_fine c.s.iterators) r.names) a.0 in
    let m : meaning_in c.s.names r.name.text ≡ r.means = means_same c t ts dt in
    h r (reading x c.s).expr (target_known c t ts dt gt b.1) (ap (is_assignable c.s.iterators) (sym m) ∙ b.0) (expr_sound (here c) n x xs dx gx a.1))
  where
    means_same : (c : Place) (t : RawTarget) (ts : List Token) → grammar.Target t ts → meaning_in c.s.names (target_in t c.s).name.text ≡ (target_in t c.s).means
    means_same c t ts (grammar.Target.element n subs us d) = let is = target_in-target n subs c.s in ap (λ r. meaning_in c.s.names r.name.text) is ∙ sym (ap (λ r. r.means) is)

by_one : (c : Place) (f : Scope → ResolvedTarget → Expr → List Stmt) (t : RawTarget) (ts : List Token)
    → ((r : ResolvedTarget) (v : Expr) → Target c r.name r.means r.subs → is_assignable c.s.iterators r.means ≡ true → Sound c.u c.it c.t v → Kept c (f c.s r v) c.s [])
    → grammar.Target t ts → list_all is_good ts ≡ true → FragmentKept c (walk.change_by_one f (target_in t) c.s)
by_one c f t ts h dt gt =
    let r = target_in t c.s in
    one_way c (f c.s r walk.one) (walk.names_only (walk.assigned_names c.s r)) c.s (λ w.
    let b = and_parts (is_assignable c.s.iterators (meaning_in c.s.names r.name.text)) (list_all (is_fine c.s.iterators) r.names) w.names in
    let m : meaning_in c.s.names r.name.text ≡ r.means = means_same c t ts dt in
    h r walk.one (target_known c t ts dt gt b.1) (ap (is_assignable c.s.iterators) (sym m) ∙ b.0) (one_sound c))
  where
    means_same : (c : Place) (t : RawTarget) (ts : List Token) → grammar.Target t ts → meaning_in c.s.names (target_in t c.s).name.text ≡ (target_in t c.s).means
    means_same c t ts (grammar.Target.element n subs us d) = let is = target_in-target n subs c.s in ap (λ r. meaning_in c.s.names r.name.text) is ∙ sym (ap (λ r. r.means) is)

    one_sound : (c : Place) → Sound c.u c.it c.t walk.one
    one_sound c = (fold_expr-Literal (expr_meant c.u c.it c.t) _, fold_expr-Literal (expr_spelt c.u c.it) _)

change_kept : (c : Place) (p q : ℕ) (x : RawChange) (ts : List Token) → Change q x ts → list_all is_good ts ≡ true → FragmentKept c (walk.change_fragment p x c.s)
change_kept c p q x ts (Change.set r o t y us ys dt dy) g =
    let a = all_split is_good us (_ ∷ ys) g in
    by_value c (λ s. walk.operated s p o) t y us ys _ (λ r v k b h. operated_kept c p o r.name r.means r.subs r.names v k b h) dt dy a.0 a.1
change_kept c p q x ts (Change.up r t us dt) g =
    let a = all_split is_good us (_ ∷ []) g in by_one c (λ s. walk.increased s p false) t us (λ r v k b h. increased_kept c p false r.name r.means r.subs r.names v k b h) dt a.0
change_kept c p q x ts (Change.down r t us dt) g =
    let a = all_split is_good us (_ ∷ []) g in by_one c (λ s. walk.combined s p binary.Sub) t us (λ r v k b h. combined_kept c p binary.Sub r.name r.means r.subs r.names v k b h) dt a.0
change_kept c p q x ts (Change.up_before r t us dt) g = by_one c (λ s. walk.increased s p false) t us (λ r v k b h. increased_kept c p false r.name r.means r.subs r.names v k b h) dt g
change_kept c p q x ts (Change.down_before r t us dt) g = by_one c (λ s. walk.combined s p binary.Sub) t us (λ r v k b h. combined_kept c p binary.Sub r.name r.means r.subs r.names v k b h) dt g

-- ---- declarations

init_sound : (c : Place) (i : Option RawExpr) → ((e : RawExpr) → i ≡ Some e → Sound c.u c.it c.t (reading e c.s).expr) → InitSound c.u c.it c.t (option_map (λ (r : ExprReading). r.expr) (option_map (λ (read : Scope → ExprReading). read c.s) (option_map reading i)))
init_sound c None h = (refl, refl)
init_sound c (Some e) h = h e refl

-- ---- branches and blocks

if_only_kept : (c : Place) (p : ℕ) (x : RawExpr) (f : walk.Walk) → (list_all (is_fine c.s.iterators) (reading x c.s).names ≡ true → Sound c.u c.it c.t (reading x c.s).expr) → FragmentKept c (f c.s) → FragmentKept c (walk.if_fragment p (reading x) f None c.s)
if_only_kept c p x f hx hf =
    let q = f c.s in
    let e = (reading x c.s).expr in
    one_way c (stmt.If p e q.body [] ∷ []) (walk.both (walk.names_only (reading x c.s).names) (walk.both q.notes walk.no_notes)) (behind c.s q.next) (λ w.
    let a = all_split (is_fine c.s.iterators) (reading x c.s).names (q.notes.names ++ []) w.names in
    let b = all_split (is_fine c.s.iterators) q.notes.names [] a.1 in
    let n = named_split c.u c.t.serials q.notes.locals [] w.named in
    let l = if_steps p e q.body [] w.steps in
    let k = hf.1 (record { names = b.0; named = n.0; steps = l.0 }) in
    let d = behind_place c q.body q.next q.notes.locals k in
    if_kept c p e q.body [] q.next d.s q.notes.locals [] (hx a.0) k (body_of d [] d.s [] (kept_nothing d)))

if_else_kept : (c : Place) (p : ℕ) (x : RawExpr) (f g : walk.Walk) → (list_all (is_fine c.s.iterators) (reading x c.s).names ≡ true → Sound c.u c.it c.t (reading x c.s).expr) → FragmentKept c (f c.s)
    → ((d : Place) → d.s ≡ behind c.s (f c.s).next → FragmentKept d (g d.s)) → FragmentKept c (walk.if_fragment p (reading x) f (Some g) c.s)
if_else_kept c p x f g hx hf hg =
    let q = f c.s in
    let s = behind c.s q.next in
    let r = g s in
    let e = (reading x c.s).expr in
    one_way c (stmt.If p e q.body r.body ∷ []) (walk.both (walk.names_only (reading x c.s).names) (walk.both q.notes r.notes)) (behind s r.next) (λ w.
    let a = all_split (is_fine c.s.iterators) (reading x c.s).names (q.notes.names ++ r.notes.names) w.names in
    let b = all_split (is_fine c.s.iterators) q.notes.names r.notes.names a.1 in
    let n = named_split c.u c.t.serials q.notes.locals r.notes.locals w.named in
    let l = if_steps p e q.body r.body w.steps in
    let k = hf.1 (record { names = b.0; named = n.0; steps = l.0 }) in
    let d = behind_place c q.body q.next q.notes.locals k in
    let m = (hg d refl).1 (record { names = b.1; named = subst (λ z. Named c.u z r.notes.locals) (sym k.count) n.1; steps = l.1 }) in
    if_kept c p e q.body r.body q.next r.next q.notes.locals r.notes.locals (hx a.0) k m)

-- one fragment before others
in_order_kept : (c : Place) (f : walk.Walk) (fs : List walk.Walk) → ListKept c (f c.s) → ((d : Place) → ListKept d (walk.in_order fs d.s)) → ListKept c (walk.in_order (f ∷ fs) c.s)
in_order_kept c f fs h k = λ w.
    let p = f c.s in
    let r = walk.in_order fs p.next in
    let a = all_split (is_fine c.s.iterators) p.notes.names r.notes.names w.names in
    let n = named_split c.u c.t.serials p.notes.locals r.notes.locals w.named in
    let l = all_split is_stepped p.statements r.statements w.steps in
    let x = h (record { names = a.0; named = n.0; steps = l.0 }) in
    let d = next_place c p.statements p.next p.notes.locals x in
    let y = k d (record { names = subst (λ z. list_all (is_fine z) r.notes.names ≡ true) (sym x.same_iterators) a.1; named = subst (λ z. Named c.u z r.notes.locals) (sym x.count) n.1; steps = l.1 }) in
    kept_then c p.statements r.statements p.next r.next p.notes.locals r.notes.locals x y

block_fragment_kept : (c : Place) (fs : List walk.Walk) → ListKept c (walk.in_order fs c.s) → FragmentKept c (walk.block_fragment fs c.s)
block_fragment_kept c fs h =
    let i = walk.in_order fs c.s in (
      λ w. block_kept c i.statements i.next i.notes.locals (body_of c i.statements i.next i.notes.locals (h (record { names = w.names; named = w.named; steps = block_steps i.statements w.steps }))),
      λ w. let b = body_of c i.statements i.next i.notes.locals (h (record { names = w.names; named = w.named; steps = w.steps })) in
          record { holds = b.holds; written = b.written; is_locals = b.is_locals; serials = b.serials; count = b.count },
    )

-- ---- loops

loop_fragment_kept : (c : Place) (p : ℕ) (l : RawLoop-F RawWhat RawLoop RawStmt) → is_name l.iter.text ≡ true
    → (list_all (is_fine c.s.iterators) (reading l.start c.s).names ≡ true → Sound c.u c.it c.t (reading l.start c.s).expr)
    → (let d = loop_place c l.iter in list_all (is_fine d.s.iterators) (reading l.limit d.s).names ≡ true → Sound d.u d.it d.t (reading l.limit d.s).expr)
    → line_spelt (option_map walk.line_of l.line) ≡ true → mark_spelt (walk.mark_of l.parallel) ≡ true
    → (let d = loop_place c l.iter in FragmentKept d (walk.stmt_fragment l.body d.s))
    → FragmentKept c (walk.loop_fragment (parts_in l) p c.s)
loop_fragment_kept c p l n hx hy hl hm hb =
    let d = loop_place c l.iter in
    let its = c.s.iterators in
    let start = reading l.start c.s in
    let limit = reading l.limit d.s in
    let by = walk.step_reading l.step d.s in
    let body = walk.stmt_fragment l.body d.s in
    let heads = map (occurrence InHeader d.s) (l.tested ∷ by.variables) in
    let made : Loop-F Stmt Loop = record {
      place = p;
      iter = l.iter.text;
      start = start.expr;
      test = l.test;
      limit = limit.expr;
      step = unwrap_or by.number (pos 0);
      body = body.body;
      line = option_map walk.line_of l.line;
      mark = walk.mark_of l.parallel;
    } in
    let own = occurrence (walk.iterator_role l.typed) c.s l.iter ∷ (start.names ++ (limit.names ++ (heads ++ by.names))) in
    let all = walk.loop_fragment (parts_in l) p c.s in
    one_way c (stmt.For (roll-Loop made) ∷ []) all.notes (behind c.s body.next) (λ w.
    let a = all_split (is_fine its) own body.notes.names w.names in
    let b = and_parts (is_fine its (occurrence (walk.iterator_role l.typed) c.s l.iter)) (list_all (is_fine its) (start.names ++ (limit.names ++ (heads ++ by.names)))) a.0 in
    let e = all_split (is_fine its) start.names (limit.names ++ (heads ++ by.names)) b.1 in
    let f = all_split (is_fine its) limit.names (heads ++ by.names) e.1 in
    let z = for_steps made w.steps in
    let k = hb.1 (record { names = a.1; named = w.named; steps = z.1 }) in
    loop_kept c l.iter p start.expr limit.expr l.test (unwrap_or by.number (pos 0)) body.body (option_map walk.line_of l.line) (walk.mark_of l.parallel) body.next body.notes.locals n (hx e.0) (hy f.0) z.0 hl hm k)

-- ---- declarators

abbrev own_local : Place → Kind → Option (Scope → ExprReading) → Local
own_local c k init = record { serial = c.s.serials; kind = k; initialised = is_some init }

abbrev own_scope : Place → Kind → Spelling → Option (Scope → ExprReading) → Scope
own_scope c k n init = scope_with_local n (own_local c k init) c.s

abbrev own_value : Place → Kind → Spelling → Option (Scope → ExprReading) → Option ExprReading
own_value c k n init = option_map (λ (read : Scope → ExprReading). read (own_scope c k n init)) init

abbrev own_made : Place → Kind → Spelling → Option (Scope → ExprReading) → Option Expr
own_made c k n init = option_map (λ (r : ExprReading). r.expr) (own_value c k n init)

abbrev own_names : Place → Kind → Spelling → Option (Scope → ExprReading) → List Occurrence
own_names c k n init = occurrence Declared c.s n ∷ unwrap_or (option_map (λ (r : ExprReading). r.names) (own_value c k n init)) []

abbrev dropped : Place → Kind → Spelling → Option (Scope → ExprReading) → walk.Fragment
dropped c k n init = walk.fragment [] (walk.names_only (own_names c k n init)) (own_scope c k n init)

abbrev kept : Place → Kind → Spelling → Option (Scope → ExprReading) → walk.Fragment
kept c k n init = walk.fragment (walk.kept_local k n (own_value c k n init) c.s) (record { locals = record { name = n.text; kind = k } ∷ []; names = own_names c k n init; loops = [] }) (own_scope c k n init)

local_fragment_kept : (c : Place) (k : Kind) (n : Spelling) (init : Option (Scope → ExprReading)) → is_name n.text ≡ true
    → (list_all (is_fine c.s.iterators) (unwrap_or (option_map (λ (r : ExprReading). r.names) (own_value c k n init)) []) ≡ true → (kept : is_among c.s.iterators c.s.serials ≡ false) (is : local_name c.u (local_number c.s c.s.serials) ≡ n.text)
    → InitSound c.u c.it (declared c.u (local_number c.s c.s.serials) (is_some (own_made c k n init)) c.t) (own_made c k n init))
    → ListKept c (walk.local_fragment k n init c.s)
local_fragment_kept c k n init name h = go (is_among c.s.iterators c.s.serials) refl
  where
    go : (b : Bool) → is_among c.s.iterators c.s.serials ≡ b → ListKept c (walk.local_fragment k n init c.s)
    go true e = λ w. subst (λ z. Kept c z.statements z.next z.notes.locals) (sym (ap (λ z. if z then dropped c k n init else kept c k n init) e)) (dropped_kept c n (own_local c k init) refl e)
    go false e = λ w.
        let number = local_number c.s c.s.serials in
        let made = own_made c k n init in
        let inner = own_scope c k n init in
        let x = own_local c k init in
        let g = subst (λ z. Fine c z z.statements) (ap (λ z. if z then dropped c k n init else kept c k n init) e) w in
        let is : local_name c.u number ≡ n.text = ap (local_name c.u) (sym c.serials) ∙ g.named.0 in
        let same : local_kind c.u number ≡ k = ap (local_kind c.u) (sym c.serials) ∙ g.named.1 in
        subst (λ z. Kept c z.statements z.next z.notes.locals) (sym (ap (λ z. if z then dropped c k n init else kept c k n init) e))
        (subst (Kept c (stmt.Declare n.place number made ∷ []) inner) (λ i. record { name = is i; kind = same i } ∷ []) (declare_kept c n.place n x made number refl e refl is name (h g.names e is)))

declarator_kept : (c : Place) (k : Kind) (l : RawLocal) (ts : List Token) → InitDeclarator l ts → list_all is_good ts ≡ true → ListKept c (walk.declarator k l c.s)
declarator_kept c k l ts (InitDeclarator.plain n) g = local_fragment_kept c k n None (and_parts (is_name n.text) true g).0 (λ names kept is. (refl, refl))
declarator_kept c k l ts (InitDeclarator.initialised p n e es d) g =
    let a = and_parts (is_name n.text) (list_all is_good es) g in
    local_fragment_kept c k n (Some (reading e)) a.0
    (λ names kept is. expr_sound (here (declared_place c n (own_local c k (Some (reading e))) (local_number c.s c.s.serials) true refl kept refl is)) _ e es d a.1 names)

declarators_kept : (k : Kind) (ls : List RawLocal) (ts : List Token) → MoreDeclarators ls ts → list_all is_good ts ≡ true → (c : Place) → ListKept c (walk.in_order (map (walk.declarator k) ls) c.s)
declarators_kept k ls ts MoreDeclarators.none g c = λ w. kept_nothing c
declarators_kept k ls ts (MoreDeclarators.more p l rest xs us d e) g c =
    let a = all_split is_good xs us g in
    in_order_kept c (walk.declarator k l) (map (walk.declarator k) rest) (declarator_kept c k l xs d a.0) (declarators_kept k rest us e a.1)

declaration_kept : (c : Place) (x : RawStmt) (ts : List Token) → LocalDeclaration x ts → list_all is_good ts ≡ true → ListKept c (walk.stmt_fragment x c.s)
declaration_kept c x ts (LocalDeclaration.declaration p q k l rest ks xs us t d e) g =
    let a = all_split is_good ks ((xs ++ us) ++ _ ∷ []) g in
    let b = all_split is_good (xs ++ us) (_ ∷ []) a.1 in
    let f = all_split is_good xs us b.0 in
    subst (λ z. ListKept c (z c.s)) (sym (stmt_fragment-Declare p k (l ∷ rest)))
    (in_order_kept c (walk.declarator k l) (map (walk.declarator k) rest) (declarator_kept c k l xs d f.0) (declarators_kept k rest us e f.1))

-- ---- headers and pragmas

record HeaderKnown (h : Header) : Type 0 where
  pub name : is_name h.iter.text ≡ true
  pub start : (c : Place) → list_all (is_fine c.s.iterators) (reading h.start c.s).names ≡ true → Sound c.u c.it c.t (reading h.start c.s).expr
  pub limit : (c : Place) → list_all (is_fine c.s.iterators) (reading h.limit c.s).names ≡ true → Sound c.u c.it c.t (reading h.limit c.s).expr

header_known : (h : Header) (hs : List Token) → ForHeader h hs → list_all is_good hs ≡ true → HeaderKnown h
header_known h hs (ForHeader.header p q r o u w b i j c x y s bs xs ys ss opt dx dy ds) g =
    let e = all_split is_good bs (_ ∷ _ ∷ (xs ++ (_ ∷ _ ∷ _ ∷ (ys ++ (_ ∷ (ss ++ _ ∷ [])))))) g in
    let f = and_parts (is_name i.text) (list_all is_good (xs ++ (_ ∷ _ ∷ _ ∷ (ys ++ (_ ∷ (ss ++ _ ∷ [])))))) e.1 in
    let k = all_split is_good xs (_ ∷ _ ∷ _ ∷ (ys ++ (_ ∷ (ss ++ _ ∷ [])))) f.1 in
    let m = and_parts (is_name j.text) (list_all is_good (ys ++ (_ ∷ (ss ++ _ ∷ [])))) k.1 in
    let n = all_split is_good ys (_ ∷ (ss ++ _ ∷ [])) m.1 in
    record { name = f.0; start = λ c. expr_sound (here c) _ x xs dx k.0; limit = λ c. expr_sound (here c) _ y ys dy n.0 }

line_known : (l : Option Spelling) (ls : List Token) → SpeciesLine l ls → list_all is_good ls ≡ true → line_spelt (option_map walk.line_of l) ≡ true
line_known l ls SpeciesLine.absent g = refl
line_known l ls (SpeciesLine.present n) g = (and_parts (is_species_text n.text) true g).0

mark_known : (m : Option (ℕ × Schedule)) (ms : List Token) → ParallelLine m ms → list_all is_good ms ≡ true → mark_spelt (walk.mark_of m) ≡ true
mark_known m ms ParallelLine.absent g = refl
mark_known m ms (ParallelLine.present n d s) g = (and_parts (mark_spelt (mark.Parallel d s)) true g).0

-- ---- all statements

mutual
  pub stmt_kept : (c : Place) (b : Bool) (x : RawStmt) (ts : List Token) → Statement b x ts → list_all is_good ts ≡ true → FragmentKept c (walk.stmt_fragment x c.s)
  stmt_kept c b x ts (Statement.empty p) g = subst (λ z. FragmentKept c (z c.s)) (sym (stmt_fragment-Empty p)) (one_way c [] walk.no_notes c.s (λ w. kept_nothing c))
  stmt_kept c b x ts (Statement.block p body us d) g =
      subst (λ z. FragmentKept c (z c.s)) (sym (stmt_fragment-Block p body)) (block_fragment_kept c (map walk.stmt_fragment body) (items_kept c body us d g))
  stmt_kept c b x ts (Statement.assignment p q y cs d) g =
      let a = all_split is_good cs (_ ∷ []) g in
      subst (λ z. FragmentKept c (z c.s)) (sym (stmt_fragment-Change p y)) (change_kept c p p y cs d a.0)
  stmt_kept c b x ts (Statement.atomic_assignment p q n t y us ys dt dy) g =
      let a = all_split is_good us (_ ∷ (ys ++ _ ∷ [])) g in
      let e = all_split is_good ys (_ ∷ []) a.1 in
      subst (λ z. FragmentKept c (z c.s)) (sym (stmt_fragment-Atomic (target_place t) t y))
      (by_value c (λ s. walk.increased s (target_place t) true) t y us ys _ (λ r v k l h. increased_kept c (target_place t) true r.name r.means r.subs r.names v k l h) dt dy a.0 e.0)
  stmt_kept c b x ts (Statement.if_only b' p q r y s ys ss dy ds) g =
      let a = all_split is_good (ys ++ word.punctuator r ")" ∷ []) ss g in
      let e = all_split is_good ys (word.punctuator r ")" ∷ []) a.0 in
      subst (λ z. FragmentKept c (z c.s)) (sym (stmt_fragment-If p y s))
      (if_only_kept c p y (walk.stmt_fragment s) (expr_sound (here c) _ y ys dy e.0) (stmt_kept c b' s ss ds a.1))
  stmt_kept c b x ts (Statement.if_else b' p q r o y s t ys ss us dy ds dt) g =
      let f = all_split is_good ((ys ++ word.punctuator r ")" ∷ []) ++ ss) (word.keyword o "else" ∷ us) g in
      let a = all_split is_good (ys ++ word.punctuator r ")" ∷ []) ss f.0 in
      let e = all_split is_good ys (word.punctuator r ")" ∷ []) a.0 in
      subst (λ z. FragmentKept c (z c.s)) (sym (stmt_fragment-IfElse p y s t))
      (if_else_kept c p y (walk.stmt_fragment s) (walk.stmt_fragment t) (expr_sound (here c) _ y ys dy e.0) (stmt_kept c false s ss ds a.1) (λ d i. stmt_kept d b' t us dt f.1))
  stmt_kept c b x ts (Statement.for b' p l m h s ls ms hs ss dl dm dh ds) g =
      let a = all_split is_good ls (ms ++ (_ ∷ (hs ++ ss))) g in
      let e = all_split is_good ms (_ ∷ (hs ++ ss)) a.1 in
      let f = all_split is_good hs ss e.1 in
      let k = header_known h hs dh f.0 in
      let d = loop_place c h.iter in
      let raw : RawLoop-F RawWhat RawLoop RawStmt = record { line = l; parallel = m; typed = h.typed; iter = h.iter; start = h.start; tested = h.tested; test = h.test; limit = h.limit; step = h.step; body = s } in
      subst (λ z. FragmentKept c (z c.s)) (sym (stmt_fragment-Loop p raw))
      (loop_fragment_kept c p raw k.name (k.start c) (k.limit d) (line_known l ls dl a.0) (mark_known m ms dm e.0) (stmt_kept d b' s ss ds f.1))

  pub items_kept : (c : Place) (xs : List RawStmt) (ts : List Token) → BlockItems xs ts → list_all is_good ts ≡ true → ListKept c (walk.in_order (map walk.stmt_fragment xs) c.s)
  items_kept c xs ts (BlockItems.end p) g = λ w. kept_nothing c
  items_kept c xs ts (BlockItems.item b s rest ss us d e) g =
      let a = all_split is_good ss us g in
      in_order_kept c (walk.stmt_fragment s) (map walk.stmt_fragment rest) (stmt_kept c b s ss d a.0).0 (λ d'. items_kept d' rest us e a.1)
  items_kept c xs ts (BlockItems.declaration s rest ss us d e) g =
      let a = all_split is_good ss us g in
      in_order_kept c (walk.stmt_fragment s) (map walk.stmt_fragment rest) (declaration_kept c s ss d a.0) (λ d'. items_kept d' rest us e a.1)
