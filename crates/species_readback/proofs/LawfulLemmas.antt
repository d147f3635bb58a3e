-- What a lawful program becomes can be written, and its names mean in the scopes of its canonical text what they should: expressions.
use Rattle.std.proofs.Common.{◌≡◌, ◌∙◌, ap, sym, refl, subst, ℕ, ◌<◌, Bool, true, false, List, [], ◌∷◌, ◌++◌, map, length, Option, Some, None}
use Rattle.std.proofs.lemmas.Bool.{and_parts, and_from, not-true}
use Rattle.std.specs.Prelude.{◌&&◌, not}
use Rattle.std.specs.List.{list_all}
use Rattle.species_ast.specs.Names.{is_name}
use Rattle.species_ast.specs.Token.{Token}
use Rattle.species_ast.specs.Spelling.{Spelling}
use Rattle.species_ast.specs.Marks.{all_true}
use Rattle.species_ast.specs.declared.tree.Unit.{Unit}
use Rattle.species_ast.specs.declared.tree.Unary.{Unary}
use Rattle.species_ast.specs.declared.tree.Unary.TheVariants as unary
use Rattle.species_ast.specs.declared.tree.Kind.{Kind}
use Rattle.species_ast.specs.declared.tree.Binary.{Binary}
use Rattle.species_ast.specs.declared.tree.Value.{Value}
use Rattle.species_ast.specs.declared.tree.Expr.{Expr}
use Rattle.species_ast.specs.declared.tree.Expr.TheVariants as expr
use Rattle.species_ast.specs.declared.token.TokenKind.TheVariants as kind
use Rattle.species_ast.specs.declared.raw.RawUnary.{RawUnary}
use Rattle.species_ast.specs.declared.raw.RawUnary.TheVariants as raw_unary
use Rattle.species_ast.specs.declared.raw.RawExpr.{RawExpr}
use Rattle.species_ast.specs.declared.raw.RawTerm.TheVariants as term
use Rattle.species_ast.specs.Grammar.Expressions.{Expression, Subscripts, Operation, operation, expression, place_of, target}
use Rattle.species_ast.specs.Scope.Meanings.{Meaning, Scope, meaning_in, local_number, is_among, Role, Taken, Assigned, Occurrence}
use Rattle.species_ast.specs.Scope.Expressions.{ExprReading, reading, exprs_of, names_of, taken, two_parts, one_part, unary_expr}
use Rattle.species_ast.proofs.Folds.{fold_expr-Literal, fold_expr-Iter, fold_expr-Local, fold_expr-Elem, fold_expr-Unary, fold_expr-Binary, fold_expr-And, fold_expr-Or, fold_expr-Cond, fold_expr-Cast}
use Rattle.species_ast.proofs.ScopeLaws.{reading-Number, reading-Target, reading-Paren, reading-Unary, reading-Cast, reading-Binary, reading-And, reading-Or, reading-Cond, readings, target_with, target_in-target}
use Rattle.species_print.specs.Expressions.{array_name, local_name, iter_name}
use Rattle.species_ast.specs.declared.tree.Mark.TheVariants as mark
use Rattle.species_readback.proofs.ExpressionLemmas.{value_by}
use Rattle.species_readback.specs.Meant.{is_meant, expr_meant, means_array, means_local, means_iterator}
use Rattle.species_readback.specs.Spelt.{is_species_text, is_header, mark_spelt, is_literal, is_spelt, expr_spelt}
use Rattle.species_readback.proofs.ListLemmas.{all_split}

-- ---- what is known of tokens and of names

abbrev pub is_good : Token → Bool
is_good t = elim t.kind [
  | kind.Name ↦ is_name t.text
  | kind.Number v ↦ is_literal v
  | kind.Define v ↦ is_literal v
  | kind.Species ↦ is_species_text t.text
  | kind.Include ↦ is_header t.text
  | kind.Parallel d s ↦ mark_spelt (mark.Parallel d s)
  | _ ↦ true
]

-- a name that is used means something that the unit keeps
abbrev pub is_kept : List ℕ → Option Meaning → Bool
is_kept its (Some (Meaning.Array a n)) = true
is_kept its (Some (Meaning.Variable x)) = not (is_among its x.serial)
is_kept its (Some (Meaning.Iterator l)) = true
is_kept its (Some Meaning.Function) = false
is_kept its None = false

-- and what is assigned to is no iterator
abbrev pub is_assignable : List ℕ → Option Meaning → Bool
is_assignable its (Some (Meaning.Array a n)) = true
is_assignable its (Some (Meaning.Variable x)) = not (is_among its x.serial)
is_assignable its (Some (Meaning.Iterator l)) = false
is_assignable its (Some Meaning.Function) = false
is_assignable its None = false

abbrev pub is_kept_as : List ℕ → Role → Option Meaning → Bool
is_kept_as its (Taken n) m = is_kept its m
is_kept_as its (Assigned n) m = is_assignable its m
is_kept_as its role m = true

abbrev pub is_fine : List ℕ → Occurrence → Bool
is_fine its o = is_kept_as its o.role o.means

-- ---- the scope of the program, and that of its canonical text

-- what a name w means in the one, and what in the other
abbrev pub Agree : Unit → List (List ℕ) → Scope → Scope → Option Meaning → Option Meaning → List ℕ → Type 0
Agree u it s t (Some (Meaning.Array a n)) k w = (array_name u a ≡ w) × (means_array a k ≡ true)
Agree u it s t (Some (Meaning.Variable x)) k w = is_among s.iterators x.serial ≡ false → (local_name u (local_number s x.serial) ≡ w) × (means_local t (local_number s x.serial) k ≡ true)
Agree u it s t (Some (Meaning.Iterator l)) k w = (l < length it) × (iter_name it l ≡ w) × (means_iterator l k ≡ true)
Agree u it s t (Some Meaning.Function) k w = Prim.Unit {0}
Agree u it s t None k w = Prim.Unit {0}

abbrev pub MatchesAt : Unit → List (List ℕ) → Scope → Scope → Option Meaning → List ℕ → Type 0
MatchesAt u it s t m w = Agree u it s t m (meaning_in t.names w) w

abbrev pub Matches : Unit → List (List ℕ) → Scope → Scope → Type 0
Matches u it s t = (w : List ℕ) → MatchesAt u it s t (meaning_in s.names w) w

abbrev pub Sound : Unit → List (List ℕ) → Scope → Expr → Type 0
Sound u it t e = (is_meant u it t e ≡ true) × (is_spelt u it e ≡ true)

abbrev pub AllSound : Unit → List (List ℕ) → Scope → List Expr → Type 0
AllSound u it t es = (all_true (map (is_meant u it t) es) ≡ true) × (all_true (map (is_spelt u it) es) ≡ true)

-- ---- variants

sound-Unary : (u : Unit) (it : List (List ℕ)) (t : Scope) (op : Unary) (a : Expr) → Sound u it t a → Sound u it t (expr.Unary op a)
sound-Unary u it t op a h = (fold_expr-Unary (expr_meant u it t) op a ∙ h.0, fold_expr-Unary (expr_spelt u it) op a ∙ h.1)

sound-Cast : (u : Unit) (it : List (List ℕ)) (t : Scope) (k : Kind) (a : Expr) → Sound u it t a → Sound u it t (expr.Cast k a)
sound-Cast u it t k a h = (fold_expr-Cast (expr_meant u it t) k a ∙ h.0, fold_expr-Cast (expr_spelt u it) k a ∙ h.1)

pub both_true : (a b : Bool) → a ≡ true → b ≡ true → a && b ≡ true
both_true a b h k = and_from a b h k

pub sound-Binary : (u : Unit) (it : List (List ℕ)) (t : Scope) (op : Binary) (a b : Expr) → Sound u it t a → Sound u it t b → Sound u it t (expr.Binary op a b)
sound-Binary u it t op a b h k = (fold_expr-Binary (expr_meant u it t) op a b ∙ both_true _ _ h.0 k.0, fold_expr-Binary (expr_spelt u it) op a b ∙ both_true _ _ h.1 k.1)

sound-And : (u : Unit) (it : List (List ℕ)) (t : Scope) (a b : Expr) → Sound u it t a → Sound u it t b → Sound u it t (expr.And a b)
sound-And u it t a b h k = (fold_expr-And (expr_meant u it t) a b ∙ both_true _ _ h.0 k.0, fold_expr-And (expr_spelt u it) a b ∙ both_true _ _ h.1 k.1)

sound-Or : (u : Unit) (it : List (List ℕ)) (t : Scope) (a b : Expr) → Sound u it t a → Sound u it t b → Sound u it t (expr.Or a b)
sound-Or u it t a b h k = (fold_expr-Or (expr_meant u it t) a b ∙ both_true _ _ h.0 k.0, fold_expr-Or (expr_spelt u it) a b ∙ both_true _ _ h.1 k.1)

sound-Cond : (u : Unit) (it : List (List ℕ)) (t : Scope) (c a b : Expr) → Sound u it t c → Sound u it t a → Sound u it t b → Sound u it t (expr.Cond c a b)
sound-Cond u it t c a b j h k =
    (fold_expr-Cond (expr_meant u it t) c a b ∙ both_true _ _ j.0 (both_true _ _ h.0 k.0), fold_expr-Cond (expr_spelt u it) c a b ∙ both_true _ _ j.1 (both_true _ _ h.1 k.1))

pub sound-Elem : (u : Unit) (it : List (List ℕ)) (t : Scope) (a : ℕ) (es : List Expr) (w : List ℕ) → array_name u a ≡ w → means_array a (meaning_in t.names w) ≡ true → is_name w ≡ true → AllSound u it t es → Sound u it t (expr.Elem a es)
sound-Elem u it t a es w is m n h =
    (fold_expr-Elem (expr_meant u it t) a es ∙ both_true _ _ (ap (λ z. means_array a (meaning_in t.names z)) is ∙ m) h.0, fold_expr-Elem (expr_spelt u it) a es ∙ both_true _ _ (ap is_name is ∙ n) h.1)

pub taken_sound : (u : Unit) (it : List (List ℕ)) (s t : Scope) (w : List ℕ) (m : Option Meaning) (es : List Expr) → MatchesAt u it s t m w → is_kept s.iterators m ≡ true → is_name w ≡ true → AllSound u it t es
    → Sound u it t (value_by s m es)
taken_sound u it s t w None es h k n a = cc
taken_sound u it s t w (Some (Meaning.Array b d)) es h k n a = sound-Elem u it t b es w h.0 h.1 n a
taken_sound u it s t w (Some (Meaning.Variable x)) es h k n a =
    let g = h (not-true (is_among s.iterators x.serial) k) in
    (fold_expr-Local (expr_meant u it t) (local_number s x.serial) ∙ ap (λ z. means_local t (local_number s x.serial) (meaning_in t.names z)) g.0 ∙ g.1, fold_expr-Local (expr_spelt u it) (local_number s x.serial) ∙ ap is_name g.0 ∙ n)
taken_sound u it s t w (Some (Meaning.Iterator l)) es h k n a =
    (fold_expr-Iter (expr_meant u it t) l ∙ ap (λ z. means_iterator l (meaning_in t.names z)) h.1 ∙ h.2, fold_expr-Iter (expr_spelt u it) l ∙ ap is_name h.1 ∙ n)
taken_sound u it s t w (Some Meaning.Function) es h k n a = cc

-- ---- derivations

-- where the program stands, and where its canonical text
pub record Here : Type 0 where
  pub u : Unit
  pub it : List (List ℕ)
  pub s : Scope
  pub t : Scope
  pub matches : Matches u it s t

abbrev pub Holds : Here → RawExpr → Type 0
Holds h x = list_all (is_fine h.s.iterators) (reading x h.s).names ≡ true → Sound h.u h.it h.t (reading x h.s).expr

as_read : (h : Here) (x : RawExpr) (r : ExprReading) → reading x h.s ≡ r → (list_all (is_fine h.s.iterators) r.names ≡ true → Sound h.u h.it h.t r.expr) → Holds h x
as_read h x r is f w = subst (λ z. Sound h.u h.it h.t z.expr) (sym is) (f (sym (ap (λ z. list_all (is_fine h.s.iterators) z.names) is) ∙ w))

operated : (h : Here) (o : Operation) (p : ℕ) (x y : RawExpr) → Holds h x → Holds h y → Holds h (expression p (operation o x y))
operated h (Operation.strict o) p x y a b = as_read h _ (two_parts (expr.Binary o) (reading x h.s) (reading y h.s)) (reading-Binary p o x y h.s)
    (λ w. let k = all_split (is_fine h.s.iterators) (reading x h.s).names (reading y h.s).names w in sound-Binary h.u h.it h.t o _ _ (a k.0) (b k.1))
operated h Operation.logical_and p x y a b = as_read h _ (two_parts expr.And (reading x h.s) (reading y h.s)) (reading-And p x y h.s)
    (λ w. let k = all_split (is_fine h.s.iterators) (reading x h.s).names (reading y h.s).names w in sound-And h.u h.it h.t _ _ (a k.0) (b k.1))
operated h Operation.logical_or p x y a b = as_read h _ (two_parts expr.Or (reading x h.s) (reading y h.s)) (reading-Or p x y h.s)
    (λ w. let k = all_split (is_fine h.s.iterators) (reading x h.s).names (reading y h.s).names w in sound-Or h.u h.it h.t _ _ (a k.0) (b k.1))

signed : (h : Here) (o : RawUnary) (p : ℕ) (x : RawExpr) → Holds h x → Holds h (expression p (term.Unary o x))
signed h raw_unary.Neg p x a = as_read h _ (one_part (unary_expr raw_unary.Neg) (reading x h.s)) (reading-Unary p raw_unary.Neg x h.s) (λ w. sound-Unary h.u h.it h.t unary.Neg _ (a w))
signed h raw_unary.Plus p x a = as_read h _ (one_part (unary_expr raw_unary.Plus) (reading x h.s)) (reading-Unary p raw_unary.Plus x h.s) a
signed h raw_unary.Not p x a = as_read h _ (one_part (unary_expr raw_unary.Not) (reading x h.s)) (reading-Unary p raw_unary.Not x h.s) (λ w. sound-Unary h.u h.it h.t unary.Not _ (a w))
signed h raw_unary.LogNot p x a = as_read h _ (one_part (unary_expr raw_unary.LogNot) (reading x h.s)) (reading-Unary p raw_unary.LogNot x h.s) (λ w. sound-Unary h.u h.it h.t unary.LogNot _ (a w))

constant_sound : (h : Here) (p : ℕ) (v : Value) → is_literal v ≡ true → Holds h (expression p (term.Number v))
constant_sound h p v k = as_read h _ (record { expr = expr.Literal v; names = [] }) (reading-Number p v h.s) (λ w. (fold_expr-Literal (expr_meant h.u h.it h.t) v ∙ k, fold_expr-Literal (expr_spelt h.u h.it) v ∙ k))

element_sound : (h : Here) (n : Spelling) (subs : List RawExpr) → is_name n.text ≡ true → (list_all (is_fine h.s.iterators) (names_of (readings subs h.s)) ≡ true → AllSound h.u h.it h.t (exprs_of (readings subs h.s))) → Holds h (expression n.place (term.Target (target n subs)))
element_sound h n subs k f = as_read h _ (taken h.s (target_with n (readings subs h.s) h.s)) (reading-Target n.place (target n subs) h.s ∙ ap (taken h.s) (target_in-target n subs h.s))
    (λ w. let l = and_parts (is_kept h.s.iterators (meaning_in h.s.names n.text)) (list_all (is_fine h.s.iterators) (names_of (readings subs h.s))) w in
    taken_sound h.u h.it h.s h.t n.text (meaning_in h.s.names n.text) (exprs_of (readings subs h.s)) (h.matches n.text) l.0 k (f l.1))

mutual
  -- what a derived expression becomes can be written, and its names mean what they should
  pub expr_sound : (h : Here) (n : ℕ) (x : RawExpr) (ts : List Token) → Expression n x ts → list_all is_good ts ≡ true → Holds h x
  expr_sound h n x ts (Expression.conditional p q c y z cs ys zs dc dy dz) g =
      let a = all_split is_good cs (_ ∷ (ys ++ (_ ∷ zs))) g in
      let b = all_split is_good ys (_ ∷ zs) a.1 in
      let j = expr_sound h _ c cs dc a.0 in
      let k = expr_sound h _ y ys dy b.0 in
      let l = expr_sound h _ z zs dz b.1 in
      as_read h _ _ (reading-Cond (place_of c) c y z h.s)
      (λ w.
      let o = all_split (is_fine h.s.iterators) (reading c h.s).names ((reading y h.s).names ++ (reading z h.s).names) w in
      let i = all_split (is_fine h.s.iterators) (reading y h.s).names (reading z h.s).names o.1 in
      sound-Cond h.u h.it h.t _ _ _ (j o.0) (k i.0) (l i.1))
  expr_sound h n x ts (Expression.binary_operation p o y z ys zs dy dz) g =
      let a = all_split is_good ys (_ ∷ zs) g in
      operated h o (place_of y) y z (expr_sound h _ y ys dy a.0) (expr_sound h _ z zs dz a.1)
  expr_sound h n x ts (Expression.unary_operation p o y ys d) g = signed h o p y (expr_sound h _ y ys d g)
  expr_sound h n x ts (Expression.cast p q r k y ks ys t d) g =
      let a = all_split is_good (ks ++ _ ∷ []) ys g in
      let f = expr_sound h _ y ys d a.1 in
      as_read h _ (one_part (expr.Cast k) (reading y h.s)) (reading-Cast p k y h.s) (λ w. sound-Cast h.u h.it h.t k _ (f w))
  expr_sound h n x ts (Expression.constant m v) g = constant_sound h m.place v (and_parts (is_literal v) true g).0
  expr_sound h n x ts (Expression.element m subs us d) g =
      let a = and_parts (is_name m.text) (list_all is_good us) g in
      element_sound h m subs a.0 (subs_sound h subs us d a.1)
  expr_sound h n x ts (Expression.paren p q y ys d) g =
      let a = all_split is_good ys (_ ∷ []) g in
      as_read h _ (reading y h.s) (reading-Paren p y h.s) (expr_sound h _ y ys d a.0)
  expr_sound h n x ts (Expression.higher m y ys d) g = expr_sound h _ y ys d g

  pub subs_sound : (h : Here) (subs : List RawExpr) (ts : List Token) → Subscripts subs ts → list_all is_good ts ≡ true
      → list_all (is_fine h.s.iterators) (names_of (readings subs h.s)) ≡ true → AllSound h.u h.it h.t (exprs_of (readings subs h.s))
  subs_sound h subs ts Subscripts.none g w = (refl, refl)
  subs_sound h subs ts (Subscripts.more p q x more xs us d e) g w =
      let a = all_split is_good (xs ++ _ ∷ []) us g in
      let b = all_split is_good xs (_ ∷ []) a.0 in
      let c = all_split (is_fine h.s.iterators) (reading x h.s).names (names_of (readings more h.s)) w in
      let i = expr_sound h _ x xs d b.0 c.0 in
      let j = subs_sound h more us e a.1 c.1 in
      (and_from _ _ i.0 j.0, and_from _ _ i.1 j.1)
