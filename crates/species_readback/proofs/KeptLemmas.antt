-- What a lawful statement becomes can be written, and its names mean what they should.
use Rattle.std.proofs.Common.{◌≡◌, ◌∙◌, ap, sym, refl, subst, ℕ, ◌+◌, Bool, true, false, List, [], ◌∷◌, ◌++◌, map, length, Option, Some, None, arith, append-nil, length-append}
use Rattle.std.proofs.lemmas.Bool.{and_parts, and_from, not-true}
use Rattle.std.proofs.lemmas.Grind.{flat_map-append}
use Rattle.std.specs.Prelude.{◌&&◌}
use Rattle.std.specs.List.{list_all}
use Rattle.species_ast.specs.Names.{is_name}
use Rattle.species_ast.specs.Spelling.{Spelling}
use Rattle.species_ast.specs.Marks.{all_true}
use Rattle.species_ast.specs.declared.tree.Unit.{Unit}
use Rattle.species_ast.specs.declared.tree.LocalInfo.{LocalInfo}
use Rattle.species_ast.specs.declared.tree.Binary.{Binary}
use Rattle.species_ast.specs.declared.tree.Binary.TheVariants as binary
use Rattle.species_ast.specs.declared.tree.Expr.{Expr}
use Rattle.species_ast.specs.declared.tree.Stmt.{Stmt}
use Rattle.species_ast.specs.declared.tree.Stmt.TheOpen.{Stmt-F}
use Rattle.species_ast.specs.declared.tree.Stmt.TheVariants as stmt
use Rattle.species_ast.specs.declared.raw.RawOp.{RawOp}
use Rattle.species_ast.specs.declared.raw.RawOp.TheVariants as op
use Rattle.species_ast.specs.Scope.Meanings.{Meaning, Scope, meaning_in, local_number, count_before, behind, is_among, Occurrence}
use Rattle.species_ast.specs.Scope.Statements as walk
use Rattle.species_ast.proofs.Folds.{fold_stmt-Assign, fold_stmt-AddTo, fold_stmt-SetLocal, fold_stmt-If, fold_stmt-Block}
use Rattle.species_readback.proofs.LawfulLemmas.{MatchesAt, Matches, Sound, AllSound, sound-Binary, taken_sound, is_kept, is_assignable}
use Rattle.species_readback.specs.Meant.{is_meant, means_array, means_local, Meant, list_next, list_locals, list_holds, stmt_meant, loop_meant, meant}
use Rattle.species_readback.specs.Spelt.{is_spelt, stmt_spelt, loop_spelt, spelt}
use Rattle.species_readback.proofs.ListLemmas.{all_append, map_append}

-- ---- places

-- Where a program stands, and where its canonical text.
pub record Place : Type 0 where
  pub u : Unit
  pub it : List (List ℕ)
  pub s : Scope
  pub t : Scope
  pub matches : Matches u it s t
  pub no_iterators : t.iterators ≡ []
  pub serials : t.serials ≡ local_number s s.serials
  pub level : s.level ≡ length it
  pub same_level : t.level ≡ s.level

-- What statements come to at a place: they can be written and are meant, and a place again, behind them.
pub record Kept (c : Place) (xs : List Stmt) (nx : Scope) (ls : List LocalInfo) : Type 0 where
  pub holds : list_holds (map (meant c.u) xs) c.it c.t ≡ true
  pub written : list_all (λ s. s c.it) (map (spelt c.u) xs) ≡ true
  pub is_locals : list_locals (map (meant c.u) xs) ≡ ls
  pub matches : Matches c.u c.it nx (list_next (map (meant c.u) xs) c.t)
  pub no_iterators : (list_next (map (meant c.u) xs) c.t).iterators ≡ []
  pub same_iterators : nx.iterators ≡ c.s.iterators
  pub serials : (list_next (map (meant c.u) xs) c.t).serials ≡ local_number c.s nx.serials
  pub count : (list_next (map (meant c.u) xs) c.t).serials ≡ c.t.serials + length ls
  pub level : nx.level ≡ length c.it
  pub same_level : (list_next (map (meant c.u) xs) c.t).level ≡ nx.level

abbrev pub next_place : (c : Place) (xs : List Stmt) (nx : Scope) (ls : List LocalInfo) → Kept c xs nx ls → Place
next_place c xs nx ls k = record {
  u = c.u;
  it = c.it;
  s = nx;
  t = list_next (map (meant c.u) xs) c.t;
  matches = k.matches;
  no_iterators = k.no_iterators;
  serials = k.serials ∙ ap (λ z. count_before z nx.serials) (sym k.same_iterators);
  level = k.level;
  same_level = k.same_level;
}

pub kept_nothing : (c : Place) → Kept c [] c.s []
kept_nothing c = record { holds = refl; written = refl; is_locals = refl; matches = c.matches; no_iterators = c.no_iterators; same_iterators = refl; serials = c.serials; count = omega arith; level = c.level; same_level = c.same_level }

-- ---- one statement that leaves the scope as it is

kept_simple : (c : Place) (x : Stmt) (holds : List (List ℕ) → Scope → Bool) (write : List (List ℕ) → Bool) → meant c.u x ≡ record { next = λ s. s; locals = []; holds = holds } → spelt c.u x ≡ write
    → holds c.it c.t ≡ true → write c.it ≡ true → Kept c (x ∷ []) c.s []
kept_simple c x holds write m w h k =
    let next : (meant c.u x).next c.t ≡ c.t = ap (λ z. z.next c.t) m in
    record {
      holds = and_from _ true (ap (λ z. z.holds c.it c.t) m ∙ h) refl;
      written = and_from _ true (ap (λ z. z c.it) w ∙ k) refl;
      is_locals = append-nil (meant c.u x).locals ∙ ap (λ z. z.locals) m;
      matches = subst (Matches c.u c.it c.s) (sym next) c.matches;
      no_iterators = ap (λ z. z.iterators) next ∙ c.no_iterators;
      same_iterators = refl;
      serials = ap (λ z. z.serials) next ∙ c.serials;
      count = omega (arith, ap (λ z. z.serials) next);
      level = c.level;
      same_level = ap (λ z. z.level) next ∙ c.same_level;
    }

pub all_same : {X : Type 0} (f : X → Bool) (xs : List X) → all_true (map f xs) ≡ list_all f xs
all_same f [] = refl
all_same f (x ∷ xs) = ap (λ z. f x && z) (all_same f xs)

-- what is known of a target at a place
abbrev pub Target : Place → Spelling → Option Meaning → List Expr → Type 0
Target c n m es = MatchesAt c.u c.it c.s c.t m n.text × (is_name n.text ≡ true) × AllSound c.u c.it c.t es

assigned_kept : (c : Place) (p : ℕ) (n : Spelling) (m : Option Meaning) (es : List Expr) (names : List Occurrence) (v : Expr) → Target c n m es → is_assignable c.s.iterators m ≡ true → Sound c.u c.it c.t v
    → Kept c (walk.assigned c.s p (record { name = n; means = m; subs = es; names = names }) v) c.s []
assigned_kept c p n None es names v g k h = cc
assigned_kept c p n (Some (Meaning.Array b d)) es names v g k h =
    kept_simple c (stmt.Assign p b es v) _ _ (fold_stmt-Assign (stmt_meant c.u) (loop_meant c.u) p b es v) (fold_stmt-Assign (stmt_spelt c.u) (loop_spelt c.u) p b es v)
    (and_from _ _ (ap (λ z. means_array b (meaning_in c.t.names z)) g.0.0 ∙ g.0.1) (and_from _ _ (sym (all_same (is_meant c.u c.it c.t) es) ∙ g.2.0) h.0))
    (and_from _ _ (ap is_name g.0.0 ∙ g.1) (and_from _ _ (sym (all_same (is_spelt c.u c.it) es) ∙ g.2.1) h.1))
assigned_kept c p n (Some (Meaning.Variable x)) es names v g k h =
    let f = g.0 (not-true (is_among c.s.iterators x.serial) k) in
    kept_simple c (stmt.SetLocal p (local_number c.s x.serial) v) _ _ (fold_stmt-SetLocal (stmt_meant c.u) (loop_meant c.u) p (local_number c.s x.serial) v) (fold_stmt-SetLocal (stmt_spelt c.u) (loop_spelt c.u) p (local_number c.s x.serial) v)
    (and_from _ _ (ap (λ z. means_local c.t (local_number c.s x.serial) (meaning_in c.t.names z)) f.0 ∙ f.1) h.0)
    (and_from _ _ (ap is_name f.0 ∙ g.1) h.1)
assigned_kept c p n (Some (Meaning.Iterator l)) es names v g k h = cc
assigned_kept c p n (Some Meaning.Function) es names v g k h = cc

assignable_kept : (its : List ℕ) (m : Option Meaning) → is_assignable its m ≡ true → is_kept its m ≡ true
assignable_kept its None h = cc
assignable_kept its (Some (Meaning.Array b d)) h = refl
assignable_kept its (Some (Meaning.Variable x)) h = h
assignable_kept its (Some (Meaning.Iterator l)) h = cc
assignable_kept its (Some Meaning.Function) h = cc

pub combined_kept : (c : Place) (p : ℕ) (o : Binary) (n : Spelling) (m : Option Meaning) (es : List Expr) (names : List Occurrence) (v : Expr) → Target c n m es → is_assignable c.s.iterators m ≡ true → Sound c.u c.it c.t v
    → Kept c (walk.combined c.s p o (record { name = n; means = m; subs = es; names = names }) v) c.s []
combined_kept c p o n m es names v g k h =
    assigned_kept c p n m es names _ g k (sound-Binary c.u c.it c.t o _ v (taken_sound c.u c.it c.s c.t n.text m es g.0 (assignable_kept c.s.iterators m k) g.1 g.2) h)

pub increased_kept : (c : Place) (p : ℕ) (atomic : Bool) (n : Spelling) (m : Option Meaning) (es : List Expr) (names : List Occurrence) (v : Expr) → Target c n m es → is_assignable c.s.iterators m ≡ true → Sound c.u c.it c.t v
    → Kept c (walk.increased c.s p atomic (record { name = n; means = m; subs = es; names = names }) v) c.s []
increased_kept c p atomic n None es names v g k h = cc
increased_kept c p atomic n (Some (Meaning.Array b d)) es names v g k h =
    kept_simple c (stmt.AddTo p b es v atomic) _ _ (fold_stmt-AddTo (stmt_meant c.u) (loop_meant c.u) p b es v atomic) (fold_stmt-AddTo (stmt_spelt c.u) (loop_spelt c.u) p b es v atomic)
    (and_from _ _ (ap (λ z. means_array b (meaning_in c.t.names z)) g.0.0 ∙ g.0.1) (and_from _ _ (sym (all_same (is_meant c.u c.it c.t) es) ∙ g.2.0) h.0))
    (and_from _ _ (ap is_name g.0.0 ∙ g.1) (and_from _ _ (sym (all_same (is_spelt c.u c.it) es) ∙ g.2.1) h.1))
increased_kept c p atomic n (Some (Meaning.Variable x)) es names v g k h = combined_kept c p binary.Add n (Some (Meaning.Variable x)) es names v g k h
increased_kept c p atomic n (Some (Meaning.Iterator l)) es names v g k h = cc
increased_kept c p atomic n (Some Meaning.Function) es names v g k h = cc

pub operated_kept : (c : Place) (p : ℕ) (o : RawOp) (n : Spelling) (m : Option Meaning) (es : List Expr) (names : List Occurrence) (v : Expr) → Target c n m es → is_assignable c.s.iterators m ≡ true → Sound c.u c.it c.t v
    → Kept c (walk.operated c.s p o (record { name = n; means = m; subs = es; names = names }) v) c.s []
operated_kept c p op.Plain n m es names v g k h = assigned_kept c p n m es names v g k h
operated_kept c p op.Add n m es names v g k h = increased_kept c p false n m es names v g k h
operated_kept c p op.Sub n m es names v g k h = combined_kept c p binary.Sub n m es names v g k h
operated_kept c p op.Mul n m es names v g k h = combined_kept c p binary.Mul n m es names v g k h
operated_kept c p op.Div n m es names v g k h = combined_kept c p binary.Div n m es names v g k h
operated_kept c p op.Rem n m es names v g k h = combined_kept c p binary.Rem n m es names v g k h
operated_kept c p op.BitAnd n m es names v g k h = combined_kept c p binary.BitAnd n m es names v g k h
operated_kept c p op.BitXor n m es names v g k h = combined_kept c p binary.BitXor n m es names v g k h
operated_kept c p op.BitOr n m es names v g k h = combined_kept c p binary.BitOr n m es names v g k h
operated_kept c p op.Shl n m es names v g k h = combined_kept c p binary.Shl n m es names v g k h
operated_kept c p op.Shr n m es names v g k h = combined_kept c p binary.Shr n m es names v g k h

-- ---- lists

holds_append : (a b : List Meant) (it : List (List ℕ)) (t : Scope) → list_holds a it t ≡ true → list_holds b it (list_next a t) ≡ true → list_holds (a ++ b) it t ≡ true
holds_append [] b it t x y = y
holds_append (m ∷ a) b it t x y = let k = and_parts (m.holds it t) (list_holds a it (m.next t)) x in and_from _ _ k.0 (holds_append a b it (m.next t) k.1 y)

next_append : (a b : List Meant) (t : Scope) → list_next (a ++ b) t ≡ list_next b (list_next a t)
next_append [] b t = refl
next_append (m ∷ a) b t = next_append a b (m.next t)

pub kept_then : (c : Place) (xs ys : List Stmt) (nx ny : Scope) (ks ls : List LocalInfo) (a : Kept c xs nx ks) → Kept (next_place c xs nx ks a) ys ny ls → Kept c (xs ++ ys) ny (ks ++ ls)
kept_then c xs ys nx ny ks ls a b =
    let m = meant c.u in
    let next : list_next (map m (xs ++ ys)) c.t ≡ list_next (map m ys) (list_next (map m xs) c.t) = ap (λ z. list_next z c.t) (map_append m xs ys) ∙ next_append (map m xs) (map m ys) c.t in
    record {
      holds = ap (λ z. list_holds z c.it c.t) (map_append m xs ys) ∙ holds_append (map m xs) (map m ys) c.it c.t a.holds b.holds;
      written = ap (λ z. list_all (λ s. s c.it) z) (map_append (spelt c.u) xs ys) ∙ all_append (λ s. s c.it) (map (spelt c.u) xs) (map (spelt c.u) ys) a.written b.written;
      is_locals = ap list_locals (map_append m xs ys) ∙ flat_map-append (λ z. z.locals) (map m xs) (map m ys) ∙ ap (λ z. z ++ list_locals (map m ys)) a.is_locals ∙ ap (λ z. ks ++ z) b.is_locals;
      matches = subst (Matches c.u c.it ny) (sym next) b.matches;
      no_iterators = ap (λ z. z.iterators) next ∙ b.no_iterators;
      same_iterators = b.same_iterators ∙ a.same_iterators;
      serials = ap (λ z. z.serials) next ∙ b.serials ∙ ap (λ z. count_before z ny.serials) a.same_iterators;
      count = omega (arith, ap (λ z. z.serials) next, b.count, a.count, length-append ks ls);
      level = b.level;
      same_level = ap (λ z. z.level) next ∙ b.same_level;
    }

-- ---- bodies, which are scopes of their own

-- what the body of a loop or a branch comes to
pub record BodyKept (c : Place) (xs : List Stmt) (nx : Scope) (ls : List LocalInfo) : Type 0 where
  pub holds : list_holds (map (meant c.u) xs) c.it c.t ≡ true
  pub written : list_all (λ s. s c.it) (map (spelt c.u) xs) ≡ true
  pub is_locals : list_locals (map (meant c.u) xs) ≡ ls
  pub serials : (list_next (map (meant c.u) xs) c.t).serials ≡ local_number c.s nx.serials
  pub count : (list_next (map (meant c.u) xs) c.t).serials ≡ c.t.serials + length ls

pub body_of : (c : Place) (xs : List Stmt) (nx : Scope) (ls : List LocalInfo) → Kept c xs nx ls → BodyKept c xs nx ls
body_of c xs nx ls k = record { holds = k.holds; written = k.written; is_locals = k.is_locals; serials = k.serials; count = k.count }

-- the place behind a body
abbrev pub behind_place : (c : Place) (xs : List Stmt) (nx : Scope) (ls : List LocalInfo) → BodyKept c xs nx ls → Place
behind_place c xs nx ls k = record {
  u = c.u;
  it = c.it;
  s = behind c.s nx;
  t = behind c.t (list_next (map (meant c.u) xs) c.t);
  matches = c.matches;
  no_iterators = c.no_iterators;
  serials = k.serials;
  level = c.level;
  same_level = c.same_level;
}

-- one statement, whose scope behind it has the names of that before it
pub kept_inner : (c : Place) (x : Stmt) (nx after : Scope) (ls : List LocalInfo) (m : Meant) (write : List (List ℕ) → Bool) → meant c.u x ≡ m → spelt c.u x ≡ write
    → m.holds c.it c.t ≡ true → write c.it ≡ true → m.locals ≡ ls → m.next c.t ≡ behind c.t after → after.serials ≡ local_number c.s nx.serials → after.serials ≡ c.t.serials + length ls → Kept c (x ∷ []) (behind c.s nx) ls
kept_inner c x nx after ls m write i w h k l n s q =
    let next : (meant c.u x).next c.t ≡ behind c.t after = ap (λ z. z.next c.t) i ∙ n in
    record {
      holds = and_from _ true (ap (λ z. z.holds c.it c.t) i ∙ h) refl;
      written = and_from _ true (ap (λ z. z c.it) w ∙ k) refl;
      is_locals = append-nil (meant c.u x).locals ∙ ap (λ z. z.locals) i ∙ l;
      matches = subst (Matches c.u c.it (behind c.s nx)) (sym next) c.matches;
      no_iterators = ap (λ z. z.iterators) next ∙ c.no_iterators;
      same_iterators = refl;
      serials = ap (λ z. z.serials) next ∙ s;
      count = ap (λ z. z.serials) next ∙ q;
      level = c.level;
      same_level = ap (λ z. z.level) next ∙ c.same_level;
    }

pub block_kept : (c : Place) (xs : List Stmt) (nx : Scope) (ls : List LocalInfo) → BodyKept c xs nx ls → Kept c (stmt.Block xs ∷ []) (behind c.s nx) ls
block_kept c xs nx ls k =
    kept_inner c (stmt.Block xs) nx (list_next (map (meant c.u) xs) c.t) ls (stmt_meant c.u (Stmt-F.Block (map (meant c.u) xs))) (stmt_spelt c.u (Stmt-F.Block (map (spelt c.u) xs)))
    (fold_stmt-Block (stmt_meant c.u) (loop_meant c.u) xs) (fold_stmt-Block (stmt_spelt c.u) (loop_spelt c.u) xs) k.holds k.written k.is_locals refl k.serials k.count

pub if_kept : (c : Place) (p : ℕ) (e : Expr) (xs ys : List Stmt) (nx ny : Scope) (ks ls : List LocalInfo) → Sound c.u c.it c.t e → (k : BodyKept c xs nx ks) → BodyKept (behind_place c xs nx ks k) ys ny ls
    → Kept c (stmt.If p e xs ys ∷ []) (behind c.s ny) (ks ++ ls)
if_kept c p e xs ys nx ny ks ls h k l =
    let m = meant c.u in
    let t = behind c.t (list_next (map m xs) c.t) in
    kept_inner c (stmt.If p e xs ys) ny (list_next (map m ys) t) (ks ++ ls) (stmt_meant c.u (Stmt-F.If p e (map m xs) (map m ys))) (stmt_spelt c.u (Stmt-F.If p e (map (spelt c.u) xs) (map (spelt c.u) ys)))
    (fold_stmt-If (stmt_meant c.u) (loop_meant c.u) p e xs ys) (fold_stmt-If (stmt_spelt c.u) (loop_spelt c.u) p e xs ys)
    (and_from _ _ h.0 (and_from _ _ k.holds l.holds)) (and_from _ _ h.1 (and_from _ _ k.written l.written))
    (ap (λ z. z ++ list_locals (map m ys)) k.is_locals ∙ ap (λ z. ks ++ z) l.is_locals) refl l.serials (omega (arith, l.count, k.count, length-append ks ls))
