-- What changes and declarations become holds where it stands.
use Rattle.std.proofs.Common.{◌≡◌, ◌∙◌, refl, sym, ap, subst, ℕ, zero, suc, ◌+◌, ◌≤◌, Bool, true, false, ◌&&◌, ◌||◌, if◌then◌else◌, List, [], ◌∷◌, ◌++◌, map, length, Option, Some, None, arith, is_some, option_map, pos}
use Rattle.std.specs.Prelude.{unwrap_or}
use Rattle.std.specs.List.{list_all}
use Rattle.std.proofs.lemmas.Bool.{and_parts, and_from}
use Rattle.species_ast.specs.Spelling.{Spelling}
use Rattle.species_ast.specs.declared.tree.Kind.{Kind}
use Rattle.species_ast.specs.declared.tree.Value.TheVariants.{Int}
use Rattle.species_ast.specs.declared.tree.Binary.{Binary}
use Rattle.species_ast.specs.declared.tree.Binary.TheVariants as binary
use Rattle.species_ast.specs.declared.tree.Expr.{Expr}
use Rattle.species_ast.specs.declared.tree.Expr.TheVariants as expr
use Rattle.species_ast.specs.declared.tree.Stmt.{Stmt}
use Rattle.species_ast.specs.declared.tree.Stmt.TheVariants as stmt
use Rattle.species_ast.specs.declared.raw.RawExpr.{RawExpr}
use Rattle.species_ast.specs.declared.raw.RawTarget.{RawTarget}
use Rattle.species_ast.specs.declared.raw.RawLocal.{RawLocal}
use Rattle.species_ast.specs.declared.raw.RawOp.{RawOp}
use Rattle.species_ast.specs.declared.raw.RawOp.TheVariants as op
use Rattle.species_ast.specs.declared.raw.RawChange.{RawChange}
use Rattle.species_ast.specs.declared.raw.RawChange.TheVariants as change
use Rattle.species_ast.specs.Run.{locals_in, locals_of}
use Rattle.species_ast.specs.Scope.Meanings.{Local, Meaning, Scope, meaning_of, scope_with_local, is_among, count_before, local_number, Role, Declared, Taken, Assigned, Occurrence, occurrence}
use Rattle.species_ast.specs.Scope.Expressions.{ExprReading, ResolvedTarget, reading, target_in, value_of}
use Rattle.species_ast.specs.Scope.Statements.{LoopSite, Fragment, Walk, fragment, names_only, declarator, kept_local, assigned, combined, increased, operated, one, change_by, change_by_one, change_fragment, assigned_names}
use Rattle.species_ast.specs.Scope.WellMade.{Around, Made, made, made_at, made_loop, list_holds, is_made, is_made_at, is_array, is_made_target, init_holds}
use Rattle.species_ast.proofs.Folds.{fold_expr-Literal, fold_expr-Binary, fold_stmt-Assign, fold_stmt-AddTo, fold_stmt-Declare, fold_stmt-SetLocal}
use Rattle.species_ast.proofs.RunLaws.{locals-Assign, locals-AddTo, locals-Declare, locals-SetLocal}
use Rattle.species_lawful.proofs.FitLemmas.{is_good, are_good, fits_if, Fits, known, fits_taken, fits_kept, set_or_taken}
use Rattle.species_lawful.proofs.ReadLemmas.{TargetParts, both_good, array_taken, local_taken, value_made, expr_made, target_made}
use Rattle.species_lawful.proofs.MadeLemmas.{after, behind_all, from, MadeOf, Makes}

-- statements that declare nothing
pub record Simple (w : Around) (ss : List Stmt) : Type 0 where
  pub holds : list_holds (map made ss) w ≡ true
  pub around : behind_all ss w ≡ w
  pub locals : locals_in ss ≡ []

none : (w : Around) → Simple w []
none w = record { holds = refl; around = refl; locals = refl }

-- one statement that declares nothing
alone : (w : Around) (s : Stmt) (m : Made) → made s ≡ m → m.declares ≡ [] → m.holds w ≡ true → locals_of s ≡ [] → Simple w (s ∷ [])
alone w s m p d h l = record {
  holds = and_from _ _ (ap (λ k. k.holds w) p ∙ h) refl;
  around = λ i. record w { locals = (ap (λ k. k.declares) p ∙ d) i ++ w.locals };
  locals = ap (λ ls. ls ++ []) l;
}

-- a target and what it means
pub record Aims (its : List ℕ) (s : Scope) (w : Around) (t : ResolvedTarget) : Type 0 where
  pub iterators : s.iterators ≡ its
  pub means : fits_if its w t.means ≡ true
  pub good : is_good its (record { name = t.name; role = Taken (length t.subs); means = t.means }) ≡ true
  pub subs : list_all (is_made w) t.subs ≡ true

assigned_made : (its : List ℕ) (s : Scope) (w : Around) (p : ℕ) (name : Spelling) (m : Option Meaning) (subs : List Expr) (names : List Occurrence) (v : Expr)
    → Aims its s w (record { name = name; means = m; subs = subs; names = names }) → is_made w v ≡ true
    → Simple w (assigned s p (record { name = name; means = m; subs = subs; names = names }) v)
assigned_made its s w p name (Some (Meaning.Array a n)) subs names v h made_v =
    alone w _ _ (fold_stmt-Assign made_at made_loop p a subs v) refl
    (and_from _ _ (and_from _ _ (array_taken its w name a n (length subs) h.means h.good) h.subs) made_v) (locals-Assign p a subs v)
assigned_made its s w p name (Some (Meaning.Variable x)) subs names v h made_v =
    alone w _ _ (fold_stmt-SetLocal made_at made_loop p (local_number s x.serial) v) refl
    (and_from _ _ (local_taken its s w name x (length subs) h.iterators h.means h.good) made_v) (locals-SetLocal p (local_number s x.serial) v)
assigned_made its s w p name (Some (Meaning.Iterator level)) subs names v h made_v = none w
assigned_made its s w p name (Some Meaning.Function) subs names v h made_v = none w
assigned_made its s w p name None subs names v h made_v = none w

combined_made : (its : List ℕ) (s : Scope) (w : Around) (p : ℕ) (o : Binary) (t : ResolvedTarget) (v : Expr) → Aims its s w t → is_made w v ≡ true → Simple w (combined s p o t v)
combined_made its s w p o t v h made_v =
    assigned_made its s w p t.name t.means t.subs t.names (expr.Binary o (value_of s t) v) h
    (fold_expr-Binary (is_made_at w) o (value_of s t) v ∙ and_from _ _ (value_made its s w t.name t.means t.subs t.names h.iterators h.means h.good h.subs) made_v)

increased_made : (its : List ℕ) (s : Scope) (w : Around) (p : ℕ) (atomic : Bool) (name : Spelling) (m : Option Meaning) (subs : List Expr) (names : List Occurrence) (v : Expr)
    → Aims its s w (record { name = name; means = m; subs = subs; names = names }) → is_made w v ≡ true
    → Simple w (increased s p atomic (record { name = name; means = m; subs = subs; names = names }) v)
increased_made its s w p atomic name (Some (Meaning.Array a n)) subs names v h made_v =
    alone w _ _ (fold_stmt-AddTo made_at made_loop p a subs v atomic) refl
    (and_from _ _ (and_from _ _ (array_taken its w name a n (length subs) h.means h.good) h.subs) made_v) (locals-AddTo p a subs v atomic)
increased_made its s w p atomic name (Some (Meaning.Variable x)) subs names v h made_v =
    combined_made its s w p binary.Add (record { name = name; means = Some (Meaning.Variable x); subs = subs; names = names }) v h made_v
increased_made its s w p atomic name (Some (Meaning.Iterator level)) subs names v h made_v = none w
increased_made its s w p atomic name (Some Meaning.Function) subs names v h made_v = none w
increased_made its s w p atomic name None subs names v h made_v = none w

-- what a change may make of its target and its value
abbrev pub Changes : (Scope → ResolvedTarget → Expr → List Stmt) → Type 0
Changes becomes = (its : List ℕ) (s : Scope) (w : Around) (t : ResolvedTarget) (v : Expr) → Aims its s w t → is_made w v ≡ true → Simple w (becomes s t v)

pub increases : (p : ℕ) (atomic : Bool) → Changes (λ s. increased s p atomic)
increases p atomic its s w t v h made_v = increased_made its s w p atomic t.name t.means t.subs t.names v h made_v

combines : (p : ℕ) (o : Binary) → Changes (λ s. combined s p o)
combines p o its s w t v h made_v = combined_made its s w p o t v h made_v

operates : (p : ℕ) (o : RawOp) → Changes (λ s. operated s p o)
operates p op.Plain its s w t v h made_v = assigned_made its s w p t.name t.means t.subs t.names v h made_v
operates p op.Add its s w t v h made_v = increases p false its s w t v h made_v
operates p op.Sub its s w t v h made_v = combines p binary.Sub its s w t v h made_v
operates p op.Mul its s w t v h made_v = combines p binary.Mul its s w t v h made_v
operates p op.Div its s w t v h made_v = combines p binary.Div its s w t v h made_v
operates p op.Rem its s w t v h made_v = combines p binary.Rem its s w t v h made_v
operates p op.BitAnd its s w t v h made_v = combines p binary.BitAnd its s w t v h made_v
operates p op.BitXor its s w t v h made_v = combines p binary.BitXor its s w t v h made_v
operates p op.BitOr its s w t v h made_v = combines p binary.BitOr its s w t v h made_v
operates p op.Shl its s w t v h made_v = combines p binary.Shl its s w t v h made_v
operates p op.Shr its s w t v h made_v = combines p binary.Shr its s w t v h made_v

-- the target of a change
aimed : (e : RawTarget) (its : List ℕ) (s : Scope) (w : Around) → Fits its s w → are_good its (assigned_names s (target_in e s)) ≡ true → Aims its s w (target_in e s)
aimed e its s w h good =
    let t = target_in e s in
    let parts : TargetParts its s w t = target_made e its s w h in
    let g = and_parts (is_good its (occurrence (Assigned (length t.subs)) s t.name)) _ good in
    record {
      iterators = h.iterators;
      means = ap (fits_if its w) parts.means ∙ known its w s.names t.name.text h.names;
      good = ap (λ m. is_good its (record { name = t.name; role = Taken (length t.subs); means = m })) parts.means
          ∙ sym (set_or_taken its t.name (length t.subs) (meaning_of s t.name)) ∙ g.0;
      subs = parts.subs g.1;
    }

-- a fragment of statements that declare nothing, and leave the scope as it was
simple_made : (its : List ℕ) (s : Scope) (w : Around) (ss : List Stmt) (names : List Occurrence) → Fits its s w → Simple w ss → MadeOf its s w (fragment ss (names_only names) s)
simple_made its s w ss names h k = record {
  statements = k.holds;
  body = k.holds;
  next = subst (Fits its s) (sym k.around) h;
  numbers = k.locals;
  body_numbers = k.locals;
  count = omega arith;
  few = omega arith;
}

pub by_makes : (site : LoopSite → Bool) (becomes : Scope → ResolvedTarget → Expr → List Stmt) → Changes becomes → (e : RawTarget) (v : RawExpr) → Makes site (change_by becomes (target_in e) (reading v))
by_makes site becomes k e v its s w h good sites =
    let t = target_in e s in
    let g = both_good its (assigned_names s t) (reading v s).names good in
    simple_made its s w _ _ h (k its s w t (reading v s).expr (aimed e its s w h g.0) (expr_made v its s w h g.1))

one_makes : (site : LoopSite → Bool) (becomes : Scope → ResolvedTarget → Expr → List Stmt) → Changes becomes → (e : RawTarget) → Makes site (change_by_one becomes (target_in e))
one_makes site becomes k e its s w h good sites =
    simple_made its s w _ _ h (k its s w (target_in e s) one (aimed e its s w h good) (fold_expr-Literal (is_made_at w) (Int (pos 1))))

pub change_makes : (site : LoopSite → Bool) (p : ℕ) (c : RawChange) → Makes site (change_fragment p c)
change_makes site p (change.Set e o v) = by_makes site (λ s. operated s p o) (operates p o) e v
change_makes site p (change.Up e) = one_makes site (λ s. increased s p false) (increases p false) e
change_makes site p (change.UpBefore e) = one_makes site (λ s. increased s p false) (increases p false) e
change_makes site p (change.Down e) = one_makes site (λ s. combined s p binary.Sub) (combines p binary.Sub) e
change_makes site p (change.DownBefore e) = one_makes site (λ s. combined s p binary.Sub) (combines p binary.Sub) e

-- ---- declarations

abbrev init_names : Option RawExpr → Scope → List Occurrence
init_names init s = unwrap_or (option_map (λ (r : ExprReading). r.names) (option_map (λ (read : Scope → ExprReading). read s) (option_map reading init))) []

abbrev init_expr : Option RawExpr → Scope → Option Expr
init_expr init s = option_map (λ (r : ExprReading). r.expr) (option_map (λ (read : Scope → ExprReading). read s) (option_map reading init))

init_made : (init : Option RawExpr) (its : List ℕ) (s : Scope) (w : Around) → Fits its s w → are_good its (init_names init s) ≡ true → init_holds w (init_expr init s) ≡ true
init_made (Some e) its s w h good = expr_made e its s w h good
init_made None its s w h good = refl

one_count : (t : Bool) (n : ℕ) → t ≡ false → (if t then n else suc n) ≡ n + 1
one_count t n h = ap (λ b. if b then n else suc n) h ∙ more n
  where
    more : (n : ℕ) → suc n ≡ n + 1
    more n = omega arith

same_count : (t : Bool) (n : ℕ) → t ≡ true → (if t then n else suc n) ≡ n + 0
same_count t n h = ap (λ b. if b then n else suc n) h ∙ more n
  where
    more : (n : ℕ) → n ≡ n + 0
    more n = omega arith

pub declarator_makes : (site : LoopSite → Bool) (k : Kind) (l : RawLocal) → Makes site (declarator k l)
declarator_makes site k l its s w h good sites = go (is_among s.iterators s.serials) refl good
  where
    x : Local
    x = record { serial = s.serials; kind = k; initialised = is_some (option_map reading l.init) }

    inner : Scope
    inner = scope_with_local l.name x s

    names : List Occurrence
    names = occurrence Declared s l.name ∷ init_names l.init inner

    taken : Fragment
    taken = fragment [] (names_only names) inner

    kept : Fragment
    kept = fragment (stmt.Declare l.name.place (local_number s s.serials) (init_expr l.init inner) ∷ [])
        (record { locals = record { name = l.name.text; kind = k } ∷ []; names = names; loops = [] }) inner

    at : is_among s.iterators s.serials ≡ is_among its s.serials
    at = ap (λ l. is_among l s.serials) h.iterators

    number : local_number s s.serials ≡ count_before its s.serials
    number = ap (λ l. count_before l s.serials) h.iterators

    when_taken : is_among s.iterators s.serials ≡ true → MadeOf its s w taken
    when_taken e = record {
      statements = refl;
      body = refl;
      next = fits_taken its l.name x s w (sym at ∙ e) h;
      numbers = refl;
      body_numbers = refl;
      count = same_count (is_among its s.serials) (count_before its s.serials) (sym at ∙ e);
      few = omega arith;
    }

    when_kept : is_among s.iterators s.serials ≡ false → are_good its names ≡ true → MadeOf its s w kept
    when_kept e g =
        let n = count_before its s.serials in
        let v = record w { locals = n ∷ w.locals } in
        let m = fold_stmt-Declare made_at made_loop l.name.place (local_number s s.serials) (init_expr l.init inner) in
        let holds : list_holds (map made kept.statements) w ≡ true =
        and_from _ _ (ap (λ k. k.holds w) m ∙ ap (λ z. init_holds (record w { locals = z ∷ w.locals }) (init_expr l.init inner)) number
        ∙ init_made l.init its inner v (fits_kept its l.name x s w h) (and_parts (is_good its (occurrence Declared s l.name)) _ g).1) refl in
        let numbers : locals_in kept.statements ≡ n ∷ [] =
        ap (λ ls. ls ++ []) (locals-Declare l.name.place (local_number s s.serials) (init_expr l.init inner)) ∙ ap (λ z. z ∷ []) number in
        record {
          statements = holds;
          body = holds;
          next = subst (Fits its inner) (sym ((λ i. record w { locals = (ap (λ k. k.declares) m) i ++ w.locals }) ∙ ap (λ z. record w { locals = z ∷ w.locals }) number)) (fits_kept its l.name x s w h);
          numbers = numbers;
          body_numbers = numbers;
          count = one_count (is_among its s.serials) n (sym at ∙ e);
          few = omega arith;
        }

    go : (t : Bool) → is_among s.iterators s.serials ≡ t → are_good its (if t then taken else kept).notes.names ≡ true → MadeOf its s w (if t then taken else kept)
    go true e g = when_taken e
    go false e g = when_kept e g
