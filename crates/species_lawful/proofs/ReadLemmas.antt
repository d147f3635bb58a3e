-- Expressions of which no name is refused: the unit may name what they name, and the iterators in them are those of loops around.
use Rattle.std.proofs.Common.{◌≡◌, ◌∙◌, refl, sym, ap, subst, ℕ, suc, Bool, true, false, ◌&&◌, ◌||◌, not, nat_eq, nat_lt, List, [], ◌∷◌, ◌++◌, map, length, Option, Some, None, arith, is_some}
use Rattle.std.specs.List.{list_all, flat_map}
use Rattle.std.proofs.lemmas.Bool.{and_parts, and_from}
use Rattle.std.proofs.lemmas.List.Folds.{list_all-append}
use Rattle.std.proofs.lemmas.List.{length-map}
use Rattle.species_ast.specs.Spelling.{Spelling}
use Rattle.species_ast.specs.Marks.{all_true}
use Rattle.species_ast.specs.declared.tree.Expr.{Expr}
use Rattle.species_ast.specs.declared.tree.Expr.TheVariants as expr
use Rattle.species_ast.specs.declared.tree.Expr.TheOpen.{Expr-F}
use Rattle.species_ast.specs.declared.raw.RawUnary.{RawUnary}
use Rattle.species_ast.specs.declared.raw.RawUnary.TheVariants as raw_unary
use Rattle.species_ast.specs.declared.tree.Unary.TheVariants as unary
use Rattle.species_ast.specs.declared.raw.RawExpr.{RawExpr, roll-RawExpr, map-RawExpr, ind-RawExpr, fold-roll-RawExpr}
use Rattle.species_ast.specs.declared.raw.RawTarget.{RawTarget, roll-RawTarget, map-RawTarget, ind-RawTarget, fold-roll-RawTarget}
use Rattle.species_ast.specs.declared.raw.RawTerm.{RawTerm, roll-RawTerm, map-RawTerm, fold-RawTerm, fold-roll-RawTerm}
use Rattle.species_ast.specs.declared.raw.RawTerm.TheOpen.{RawTerm-F, RawExpr-F, RawTarget-F}
use Rattle.species_ast.specs.Scope.Forms.{iterators_in, iterators_at}
use Rattle.species_ast.specs.Scope.Meanings.{Local, Meaning, Scope, meaning_of, is_among, count_before, local_number, Taken, Occurrence, occurrence}
use Rattle.species_ast.specs.Scope.Expressions.{ExprReading, ResolvedTarget, reading, target_in, taken, value_of, unary_expr, term_at, expr_at, target_at, exprs_of, names_of}
use Rattle.species_ast.specs.Scope.Conditions.{is_static}
use Rattle.species_ast.specs.Scope.WellMade.{Around, is_array, is_made, is_made_at, is_made_bound}
use Rattle.species_ast.proofs.Folds.{fold_expr-Literal, fold_expr-Iter, fold_expr-Local, fold_expr-Elem, fold_expr-Unary, fold_expr-Binary, fold_expr-And, fold_expr-Or, fold_expr-Cond, fold_expr-Cast}
use Rattle.species_ast.proofs.Induction.{Each, ExprCases, expr_ind}
use Rattle.species_lawful.proofs.FitLemmas.{is_good, are_good, fits, fits_if, Fits, known}

-- ---- the value of a name with subscripts

all_made : (w : Around) (es : List Expr) → list_all (is_made w) es ≡ true → all_true (map (is_made w) es) ≡ true
all_made w [] h = refl
all_made w (e ∷ es) h = let parts = and_parts (is_made w e) _ h in and_from _ _ parts.0 (all_made w es parts.1)

as_many : (a b : ℕ) → nat_eq a b ≡ true → a ≡ b
as_many a b h = grind arith

not_not : (b : Bool) → not (not b) ≡ true → b ≡ true
not_not true h = refl
not_not false h = absurd cc

is_not : (b : Bool) → not b ≡ true → b ≡ false
is_not true h = absurd cc
is_not false h = refl

-- an array takes as many subscripts as it has dimensions
pub array_taken : (its : List ℕ) (w : Around) (name : Spelling) (a d n : ℕ) → is_array w a d ≡ true
    → is_good its (record { name = name; role = Taken n; means = Some (Meaning.Array a d) }) ≡ true → is_array w a n ≡ true
array_taken its w name a d n fit good = ap (is_array w a) (as_many n d (not_not (nat_eq n d) (and_parts _ _ good).0)) ∙ fit

-- a local that is named is declared
pub local_taken : (its : List ℕ) (s : Scope) (w : Around) (name : Spelling) (x : Local) (n : ℕ) → s.iterators ≡ its → fits its w (Meaning.Variable x) ≡ true
    → is_good its (record { name = name; role = Taken n; means = Some (Meaning.Variable x) }) ≡ true → is_among w.locals (local_number s x.serial) ≡ true
local_taken its s w name x n same fit good =
    ap (λ l. is_among w.locals (count_before l x.serial)) same
    ∙ ap (λ b. b || is_among w.locals (count_before its x.serial)) (sym (is_not (is_among its x.serial) (and_parts _ _ good).1)) ∙ fit

pub value_made : (its : List ℕ) (s : Scope) (w : Around) (name : Spelling) (m : Option Meaning) (subs : List Expr) (names : List Occurrence)
    → s.iterators ≡ its → fits_if its w m ≡ true → is_good its (record { name = name; role = Taken (length subs); means = m }) ≡ true
    → list_all (is_made w) subs ≡ true → is_made w (value_of s (record { name = name; means = m; subs = subs; names = names })) ≡ true
value_made its s w name (Some (Meaning.Array a d)) subs names same fit good all =
    fold_expr-Elem (is_made_at w) a subs ∙ and_from _ _ (ap (is_array w a) (length-map subs (is_made w)) ∙ array_taken its w name a d (length subs) fit good) (all_made w subs all)
value_made its s w name (Some (Meaning.Variable x)) subs names same fit good all =
    fold_expr-Local (is_made_at w) (local_number s x.serial) ∙ local_taken its s w name x (length subs) same fit good
value_made its s w name (Some (Meaning.Iterator level)) subs names same fit good all = fold_expr-Iter (is_made_at w) level ∙ fit
value_made its s w name (Some Meaning.Function) subs names same fit good all = absurd cc
value_made its s w name None subs names same fit good all = absurd cc

-- ---- expressions

abbrev term_reading : Scope → RawTerm → ExprReading
term_reading s = fold-RawTerm ExprReading ExprReading ResolvedTarget (term_at s) expr_at (target_at s)

abbrev Made : (Scope → ExprReading) → Type 0
Made r = (its : List ℕ) (s : Scope) (w : Around) → Fits its s w → are_good its (r s).names ≡ true → is_made w (r s).expr ≡ true

abbrev TermMade : RawTerm → Type 0
TermMade t = Made (λ s. term_reading s t)

abbrev ExprMade : RawExpr → Type 0
ExprMade e = Made (reading e)

pub record TargetParts (its : List ℕ) (s : Scope) (w : Around) (t : ResolvedTarget) : Type 0 where
  pub means : t.means ≡ meaning_of s t.name
  pub subs : are_good its t.names ≡ true → list_all (is_made w) t.subs ≡ true

abbrev TargetMade : RawTarget → Type 0
TargetMade t = (its : List ℕ) (s : Scope) (w : Around) → Fits its s w → TargetParts its s w (target_in t s)

abbrev KnownTerm : Type 0
KnownTerm = (x : RawTerm) × TermMade x

abbrev KnownExpr : Type 0
KnownExpr = (x : RawExpr) × ExprMade x

abbrev KnownTarget : Type 0
KnownTarget = (x : RawTarget) × TargetMade x

-- of two parts
pub both_good : (its : List ℕ) (xs ys : List Occurrence) → are_good its (xs ++ ys) ≡ true → (are_good its xs ≡ true) × (are_good its ys ≡ true)
both_good its xs ys h = and_parts _ _ (sym (list_all-append (is_good its) xs ys) ∙ h)

taken_made : (its : List ℕ) (s : Scope) (w : Around) (t : ResolvedTarget) → Fits its s w → TargetParts its s w t → are_good its (taken s t).names ≡ true → is_made w (taken s t).expr ≡ true
taken_made its s w t h parts good =
    let g = and_parts (is_good its (occurrence (Taken (length t.subs)) s t.name)) _ good in
    subst (λ m. is_made w (value_of s (record { name = t.name; means = m; subs = t.subs; names = t.names })) ≡ true) (sym parts.means)
    (value_made its s w t.name (meaning_of s t.name) t.subs t.names h.iterators (known its w s.names t.name.text h.names) g.0 (parts.subs g.1))

unary_made : (w : Around) (op : RawUnary) (e : Expr) → is_made w e ≡ true → is_made w (unary_expr op e) ≡ true
unary_made w raw_unary.Neg e h = fold_expr-Unary (is_made_at w) unary.Neg e ∙ h
unary_made w raw_unary.Plus e h = h
unary_made w raw_unary.Not e h = fold_expr-Unary (is_made_at w) unary.Not e ∙ h
unary_made w raw_unary.LogNot e h = fold_expr-Unary (is_made_at w) unary.LogNot e ∙ h

layer : (y : RawTerm-F KnownTerm KnownExpr KnownTarget)
    → Made (λ s. term_at s (map-RawTerm KnownTerm KnownExpr KnownTarget ExprReading ExprReading ResolvedTarget (λ k. term_reading s k.0) (λ k. reading k.0 s) (λ k. target_in k.0 s) y))
layer (RawTerm-F.Number v) its s w h good = fold_expr-Literal (is_made_at w) v
layer (RawTerm-F.Target k) its s w h good = taken_made its s w (target_in k.0 s) h (k.1 its s w h) good
layer (RawTerm-F.Paren a) its s w h good = a.1 its s w h good
layer (RawTerm-F.Unary op a) its s w h good = unary_made w op (reading a.0 s).expr (a.1 its s w h good)
layer (RawTerm-F.Cast k a) its s w h good = fold_expr-Cast (is_made_at w) k (reading a.0 s).expr ∙ a.1 its s w h good
layer (RawTerm-F.Binary op a b) its s w h good =
    let g = both_good its (reading a.0 s).names (reading b.0 s).names good in
    fold_expr-Binary (is_made_at w) op (reading a.0 s).expr (reading b.0 s).expr ∙ and_from _ _ (a.1 its s w h g.0) (b.1 its s w h g.1)
layer (RawTerm-F.And a b) its s w h good =
    let g = both_good its (reading a.0 s).names (reading b.0 s).names good in
    fold_expr-And (is_made_at w) (reading a.0 s).expr (reading b.0 s).expr ∙ and_from _ _ (a.1 its s w h g.0) (b.1 its s w h g.1)
layer (RawTerm-F.Or a b) its s w h good =
    let g = both_good its (reading a.0 s).names (reading b.0 s).names good in
    fold_expr-Or (is_made_at w) (reading a.0 s).expr (reading b.0 s).expr ∙ and_from _ _ (a.1 its s w h g.0) (b.1 its s w h g.1)
layer (RawTerm-F.Cond c a b) its s w h good =
    let g = both_good its (reading c.0 s).names ((reading a.0 s).names ++ (reading b.0 s).names) good in
    let k = both_good its (reading a.0 s).names (reading b.0 s).names g.1 in
    fold_expr-Cond (is_made_at w) (reading c.0 s).expr (reading a.0 s).expr (reading b.0 s).expr
    ∙ and_from _ _ (c.1 its s w h g.0) (and_from _ _ (a.1 its s w h k.0) (b.1 its s w h k.1))

fused : (s : Scope) (y : RawTerm-F KnownTerm KnownExpr KnownTarget)
    → term_reading s (roll-RawTerm (map-RawTerm KnownTerm KnownExpr KnownTarget RawTerm RawExpr RawTarget (λ k. k.0) (λ k. k.0) (λ k. k.0) y))
    ≡ term_at s (map-RawTerm KnownTerm KnownExpr KnownTarget ExprReading ExprReading ResolvedTarget (λ k. term_reading s k.0) (λ k. reading k.0 s) (λ k. target_in k.0 s) y)
fused s y = fold-roll-RawTerm ExprReading ExprReading ResolvedTarget (term_at s) expr_at (target_at s) _ ∙ go y
  where
    go : (y : RawTerm-F KnownTerm KnownExpr KnownTarget)
        → term_at s (map-RawTerm RawTerm RawExpr RawTarget ExprReading ExprReading ResolvedTarget (term_reading s) (λ e. reading e s) (λ t. target_in t s)
        (map-RawTerm KnownTerm KnownExpr KnownTarget RawTerm RawExpr RawTarget (λ k. k.0) (λ k. k.0) (λ k. k.0) y))
        ≡ term_at s (map-RawTerm KnownTerm KnownExpr KnownTarget ExprReading ExprReading ResolvedTarget (λ k. term_reading s k.0) (λ k. reading k.0 s) (λ k. target_in k.0 s) y)
    go (RawTerm-F.Number v) = refl
    go (RawTerm-F.Target k) = refl
    go (RawTerm-F.Paren a) = refl
    go (RawTerm-F.Unary op a) = refl
    go (RawTerm-F.Cast k a) = refl
    go (RawTerm-F.Binary op a b) = refl
    go (RawTerm-F.And a b) = refl
    go (RawTerm-F.Or a b) = refl
    go (RawTerm-F.Cond c a b) = refl

moved : (r q : Scope → ExprReading) → ((s : Scope) → r s ≡ q s) → Made q → Made r
moved r q same h its s w fit good =
    ap (λ (x : ExprReading). is_made w x.expr) (same s) ∙ h its s w fit (ap (λ (x : ExprReading). are_good its x.names) (sym (same s)) ∙ good)

term_step : (x : RawTerm-F RawTerm RawExpr RawTarget) (y : RawTerm-F KnownTerm KnownExpr KnownTarget)
    → map-RawTerm KnownTerm KnownExpr KnownTarget RawTerm RawExpr RawTarget (λ k. k.0) (λ k. k.0) (λ k. k.0) y ≡ x → TermMade (roll-RawTerm x)
term_step x y h = subst (λ z. TermMade (roll-RawTerm z)) h (moved _ _ (λ s. fused s y) (layer y))

expr_step : (x : RawExpr-F RawTerm RawExpr RawTarget) (y : RawExpr-F KnownTerm KnownExpr KnownTarget)
    → map-RawExpr KnownTerm KnownExpr KnownTarget RawTerm RawExpr RawTarget (λ k. k.0) (λ k. k.0) (λ k. k.0) y ≡ x → ExprMade (roll-RawExpr x)
expr_step x y h = subst (λ z. ExprMade (roll-RawExpr z)) h
    (moved (reading (roll-RawExpr z)) (λ s. term_reading s y.what.0) (λ s. fold-roll-RawExpr ExprReading ExprReading ResolvedTarget (term_at s) expr_at (target_at s) z) y.what.1)
  where
    z : RawExpr-F RawTerm RawExpr RawTarget
    z = map-RawExpr KnownTerm KnownExpr KnownTarget RawTerm RawExpr RawTarget (λ k. k.0) (λ k. k.0) (λ k. k.0) y

all_read : (ks : List KnownExpr) (its : List ℕ) (s : Scope) (w : Around) → Fits its s w → are_good its (names_of (map (λ e. reading e s) (map (λ k. k.0) ks))) ≡ true
    → list_all (is_made w) (exprs_of (map (λ e. reading e s) (map (λ k. k.0) ks))) ≡ true
all_read [] its s w h good = refl
all_read (k ∷ ks) its s w h good =
    let g = both_good its (reading k.0 s).names (names_of (map (λ e. reading e s) (map (λ k. k.0) ks))) good in
    and_from _ _ (k.1 its s w h g.0) (all_read ks its s w h g.1)

target_step : (x : RawTarget-F RawTerm RawExpr RawTarget) (y : RawTarget-F KnownTerm KnownExpr KnownTarget)
    → map-RawTarget KnownTerm KnownExpr KnownTarget RawTerm RawExpr RawTarget (λ k. k.0) (λ k. k.0) (λ k. k.0) y ≡ x → TargetMade (roll-RawTarget x)
target_step x y h = subst (λ z. TargetMade (roll-RawTarget z)) h (λ its s w fit. subst (TargetParts its s w) (sym (at s)) (record { means = refl; subs = all_read y.subs its s w fit }))
  where
    z : RawTarget-F RawTerm RawExpr RawTarget
    z = map-RawTarget KnownTerm KnownExpr KnownTarget RawTerm RawExpr RawTarget (λ k. k.0) (λ k. k.0) (λ k. k.0) y

    shown : Scope → ResolvedTarget
    shown s = record { name = y.name; means = meaning_of s y.name; subs = exprs_of (map (λ e. reading e s) (map (λ k. k.0) y.subs)); names = names_of (map (λ e. reading e s) (map (λ k. k.0) y.subs)) }

    at : (s : Scope) → target_in (roll-RawTarget z) s ≡ shown s
    at s = fold-roll-RawTarget ExprReading ExprReading ResolvedTarget (term_at s) expr_at (target_at s) z

pub expr_made : (e : RawExpr) → ExprMade e
expr_made = ind-RawExpr TermMade ExprMade TargetMade term_step expr_step target_step

pub target_made : (e : RawTarget) → TargetMade e
target_made = ind-RawTarget TermMade ExprMade TargetMade term_step expr_step target_step

-- ---- bounds

abbrev all_below : ℕ → List ℕ → Bool
all_below level = list_all (λ i. nat_lt i level)

abbrev Below : Around → Expr → Type 0
Below w e = is_made w e ≡ true → all_below w.level (iterators_in e) ≡ true

two_below : (w : Around) (xs ys : List ℕ) → all_below w.level xs ≡ true → all_below w.level ys ≡ true → all_below w.level (xs ++ ys) ≡ true
two_below w xs ys h k = list_all-append (λ i. nat_lt i w.level) xs ys ∙ and_from _ _ h k

subs_below : (w : Around) (subs : List Expr) → Each (Below w) subs → all_true (map (is_made w) subs) ≡ true → all_below w.level (flat_map (λ is. is) (map iterators_in subs)) ≡ true
subs_below w [] h made = refl
subs_below w (e ∷ subs) h made =
    let parts = and_parts (is_made w e) _ made in
    two_below w (iterators_in e) (flat_map (λ is. is) (map iterators_in subs)) (h.0 parts.0) (subs_below w subs h.1 parts.1)

-- the iterators in an expression that the unit may name are those of loops around it
pub made_below : (w : Around) (e : Expr) → Below w e
made_below w = expr_ind (Below w) (record {
  literal = λ v made. ap (all_below w.level) (fold_expr-Literal iterators_at v);
  iter = λ level made. ap (all_below w.level) (fold_expr-Iter iterators_at level) ∙ and_from _ _ (sym (fold_expr-Iter (is_made_at w) level) ∙ made) refl;
  local = λ n made. ap (all_below w.level) (fold_expr-Local iterators_at n);
  elem = λ a subs h made. ap (all_below w.level) (fold_expr-Elem iterators_at a subs)
      ∙ subs_below w subs h (and_parts _ _ (sym (fold_expr-Elem (is_made_at w) a subs) ∙ made)).1;
  unary = λ op a h made. ap (all_below w.level) (fold_expr-Unary iterators_at op a) ∙ h (sym (fold_expr-Unary (is_made_at w) op a) ∙ made);
  binary = λ op a b h k made.
      let parts = and_parts (is_made w a) _ (sym (fold_expr-Binary (is_made_at w) op a b) ∙ made) in
      ap (all_below w.level) (fold_expr-Binary iterators_at op a b) ∙ two_below w (iterators_in a) (iterators_in b) (h parts.0) (k parts.1);
  both = λ a b h k made.
      let parts = and_parts (is_made w a) _ (sym (fold_expr-And (is_made_at w) a b) ∙ made) in
      ap (all_below w.level) (fold_expr-And iterators_at a b) ∙ two_below w (iterators_in a) (iterators_in b) (h parts.0) (k parts.1);
  either = λ a b h k made.
      let parts = and_parts (is_made w a) _ (sym (fold_expr-Or (is_made_at w) a b) ∙ made) in
      ap (all_below w.level) (fold_expr-Or iterators_at a b) ∙ two_below w (iterators_in a) (iterators_in b) (h parts.0) (k parts.1);
  cond = λ c a b g h k made.
      let first = and_parts (is_made w c) _ (sym (fold_expr-Cond (is_made_at w) c a b) ∙ made) in
      let rest = and_parts (is_made w a) _ first.1 in
      ap (all_below w.level) (fold_expr-Cond iterators_at c a b)
      ∙ two_below w (iterators_in c) (iterators_in a ++ iterators_in b) (g first.0) (two_below w (iterators_in a) (iterators_in b) (h rest.0) (k rest.1));
  cast = λ kind a h made. ap (all_below w.level) (fold_expr-Cast iterators_at kind a) ∙ h (sym (fold_expr-Cast (is_made_at w) kind a) ∙ made);
})

-- a start stands outside of its loop
pub start_made : (w : Around) (level : ℕ) (e : Expr) → level ≡ w.level → is_static level e ≡ true → is_made w e ≡ true → is_made_bound w.level e ≡ true
start_made w level e same static made = and_from _ _ (and_parts _ _ static).0 (made_below w e made)

not_last : (level i : ℕ) → nat_eq level i ≡ false → nat_lt i (suc level) ≡ true → nat_lt i level ≡ true
not_last level i h k = grind arith

none_last : (level : ℕ) (is : List ℕ) → is_among is level ≡ false → all_below (suc level) is ≡ true → all_below level is ≡ true
none_last level [] h k = refl
none_last level (i ∷ is) h k =
    let here = and_parts (nat_lt i (suc level)) _ k in
    let apart = or_neither (nat_eq level i) (is_among is level) h in
    and_from _ _ (not_last level i apart.0 here.0) (none_last level is apart.1 here.1)
  where
    or_neither : (a b : Bool) → (a || b) ≡ false → (a ≡ false) × (b ≡ false)
    or_neither true b h = absurd cc
    or_neither false b h = (refl, h)

-- a limit stands inside of it, and does not name its iterator
pub limit_made : (w : Around) (level : ℕ) (e : Expr) → level ≡ w.level → is_static level e ≡ true → is_made (record w { level = suc w.level }) e ≡ true → is_made_bound w.level e ≡ true
limit_made w level e same static made =
    let parts = and_parts (is_some _) _ static in
    and_from _ _ parts.0
    (none_last w.level (iterators_in e) (ap (is_among (iterators_in e)) (sym same) ∙ is_not (is_among (iterators_in e) level) parts.1)
    (made_below (record w { level = suc w.level }) e made))
