-- The references of the nest of a loop, wherever it stands in a well made unit: each names an array that is there, with a subscript for
-- each of its dimensions, whose forms name iterators of the loops around it alone; and the ranges of these loops are few and small.
use Rattle.std.proofs.Common.{◌≡◌, refl, ap, sym, ◌∙◌, subst, arith, ℕ, zero, suc, ◌+◌, ◌-◌, ◌*◌, ◌<◌, ◌≤◌, Bool, true, false, ◌&&◌, ◌||◌, not, nat_eq, nat_le, if◌then◌else◌, List, [], ◌∷◌, ◌++◌, map, length, drop, Option, Some, None, ◌⊎◌, inl, inr}
use Rattle.std.specs.Prelude.{slice_get, unwrap_or, option_map}
use Rattle.std.specs.List.{list_all}
use Rattle.std.proofs.lemmas.Bool.{and_parts}
use Rattle.std.proofs.lemmas.Bool.Decides.{nat_tests}
use Rattle.std.proofs.lemmas.List.{length-map}
use Rattle.std.proofs.lemmas.Nat.{mul-le}
use Rattle.species_ast.specs.declared.tree.Array.{Array}
use Rattle.species_ast.specs.declared.tree.Expr.{Expr}
use Rattle.species_ast.specs.declared.tree.Loop.{Loop, roll-Loop}
use Rattle.species_ast.specs.declared.tree.Stmt.{Stmt}
use Rattle.species_ast.specs.declared.tree.Stmt.TheOpen.{Loop-F}
use Rattle.species_ast.specs.declared.tree.Stmt.TheVariants as stmt
use Rattle.species_ast.specs.declared.tree.Unit.{Unit as Program}
use Rattle.species_ast.specs.Accesses.{Direction, Reads, Writes, Adds}
use Rattle.species_ast.specs.Evaluation.{product}
use Rattle.species_ast.specs.Marks.{all_true}
use Rattle.species_ast.specs.Scope.Forms.{Form, form_of}
use Rattle.species_ast.specs.Scope.Hulls.{Range, is_empty, has_empty, range_of, passes_hull}
use Rattle.species_ast.specs.Scope.Limits.{is_too_deep, has_lawful_sizes, has_too_many_dimensions}
use Rattle.species_ast.specs.Scope.Loops.{Nesting, entered}
use Rattle.species_ast.specs.Scope.References.{Where, Reference, perhaps, placed, in_turn, Elements, no_elements, then_elements, on_condition, all_elements, element_with, elements_at, elements_of, subscripts, target_reference, value_references, addition_references, init_references, Adding, Referring, list_references, references_at, references_inside, stmt_references, references_of, unless_empty}
use Rattle.species_ast.specs.Scope.WellMade.{Around, is_array, is_made_at, is_made, is_made_target, Made, list_holds, list_keeps, init_holds, head_holds, made_at, made_loop, made, is_made_array, IsWellMade}
use Rattle.species_ast.specs.Scope.Meanings.{is_among}
use Rattle.species_ast.proofs.Folds.{fold_expr-Elem, fold_expr-Unary, fold_expr-Binary, fold_expr-And, fold_expr-Or, fold_expr-Cond, fold_expr-Cast, fold_stmt-Assign, fold_stmt-AddTo, fold_stmt-Declare, fold_stmt-SetLocal, fold_stmt-If, fold_stmt-For, fold_stmt-Block, fold_loop}
use Rattle.species_ast.proofs.Induction.{Each, each_all, expr_ind, stmt_ind}
use Rattle.species_ast.proofs.Paras.{para_expr-Literal, para_expr-Iter, para_expr-Local, para_expr-Unary, para_expr-Binary, para_expr-And, para_expr-Or, para_expr-Cond, para_expr-Cast}
use Rattle.species_ast.proofs.ReferenceLaws.{elements_of-Elem}
use Rattle.species_occurrences.proofs.PositionLaws.{each_append, each_weaker}
use Rattle.species_ranges.proofs.BoundedLaws.{IsSize, HasSizes, IsBounded}
use Rattle.species_ranges.proofs.KeepLaws.{KeepsHead, keeps_head}
use Rattle.species_ranges.proofs.SmallLaws.{IsSmallRange, small_range}
use Rattle.species_classify.proofs.FormLemmas.{form_over}
use Rattle.species_classify.proofs.SoundLemmas.{IsSound, sound_head}
use Rattle.species_classify.proofs.StandLemmas.{stands_well}
use Rattle.species_classify.specs.Places.{StandsIn}

-- ---- what is known of a reference

-- the form, if there is one, names iterators of so many levels alone
abbrev pub IsOverLevels : ℕ → Option Form → Type 0
IsOverLevels n o = (f : Form) → o ≡ Some f → length f.coefficients ≤ n

-- what is known of a reference whose inner loops are those from this level on
pub record IsPlaced (u : Program) (inner : ℕ) (q : Reference) : Type 0 where
  pub bounded : IsBounded u inner q
  pub sound : Each IsSound q.path
  pub deep : length q.path ≤ 8
  pub forms : Each (IsOverLevels (length q.path)) q.subs

-- ---- arrays

sizes_within : (ns : List ℕ) (most : ℕ) → list_all (nat_le 1) ns ≡ true → product ns ≤ most → (1 ≤ product ns) × Each (λ n. (1 ≤ n) × (n ≤ most)) ns
sizes_within [] most h k = (omega arith, tt)
sizes_within (n ∷ ns) most h k =
    let parts = and_parts (nat_le 1 n) (list_all (nat_le 1) ns) h in
    let one : 1 ≤ n = grind (arith, nat_tests, parts.0) in
    let others : 1 * product ns ≤ n * product ns = mul-le 1 (product ns) n (product ns) one (omega arith) in
    let rest = sizes_within ns most parts.1 (omega (arith, others, k)) in
    let this : n * 1 ≤ n * product ns = mul-le n 1 n (product ns) (omega arith) rest.0 in
    (omega (arith, others, rest.0), ((one, omega (arith, this, k)), rest.1))

array_sizes : (x : Array) → is_made_array x ≡ true → Each IsSize x.dims
array_sizes x h =
    let lawful = (and_parts (not (has_too_many_dimensions x)) (has_lawful_sizes x) h).1 in
    let parts = and_parts (list_all (nat_le 1) x.dims) (nat_le (product x.dims) 16777216) lawful in
    (sizes_within x.dims 16777216 parts.0 (grind (arith, nat_tests, parts.1))).1

sizes_there : (arrays : List Array) (a : ℕ) (subs : List (Option Form)) → list_all is_made_array arrays ≡ true → unwrap_or (option_map (λ x. nat_eq (length x.dims) (length subs)) (slice_get arrays a)) false ≡ true
    → HasSizes (unwrap_or (option_map (λ x. x.dims) (slice_get arrays a)) (0 ∷ [])) subs
sizes_there [] a subs made h = absurd cc
sizes_there (x ∷ arrays) zero subs made h = record { count = grind (arith, nat_tests, h); each = array_sizes x (and_parts (is_made_array x) (list_all is_made_array arrays) made).0 }
sizes_there (x ∷ arrays) (suc a) subs made h = sizes_there arrays a subs (and_parts (is_made_array x) (list_all is_made_array arrays) made).1 h

-- ---- expressions

-- in the loops with these ranges, of an array that is there
abbrev IsHere : Around → List Range → Reference → Type 0
IsHere w path q = (q.path ≡ path) × (is_array w q.array (length q.subs) ≡ true) × Each (IsOverLevels w.level) q.subs

abbrev AreHere : Around → Elements → Type 0
AreHere w e = (g : Where) (n : ℕ) → Each (IsHere w g.path) (e.references g n)

here_then : (w : Around) (a b : Elements) → AreHere w a → AreHere w b → AreHere w (then_elements a b)
here_then w a b h k g n = each_append (IsHere w g.path) (a.references g n) (b.references g (n + a.count)) (h g n) (k g (n + a.count))

here_condition : (w : Around) (a : Elements) → AreHere w a → AreHere w (on_condition a)
here_condition w a h g n = h (perhaps g) n

abbrev MadeHere : Expr → Type 0
MadeHere x = (w : Around) → is_made w x ≡ true → AreHere w (elements_of x)

here_all : (w : Around) (es : List Expr) → Each MadeHere es → list_all (is_made w) es ≡ true → AreHere w (all_elements (map elements_of es))
here_all w [] h t = λ g n. tt
here_all w (x ∷ es) h t =
    let parts = and_parts (is_made w x) (list_all (is_made w) es) t in
    here_then w (elements_of x) (all_elements (map elements_of es)) (h.0 w parts.0) (here_all w es h.1 parts.1)

all_mapped : (w : Around) (es : List Expr) → all_true (map (is_made w) es) ≡ list_all (is_made w) es
all_mapped w [] = refl
all_mapped w (x ∷ es) = ap (λ (b : Bool). is_made w x && b) (all_mapped w es)

-- so many subscripts have as many forms
as_many : (w : Around) (a : ℕ) (subs : List Expr) (n : ℕ) → n ≡ length subs → is_array w a n ≡ true → is_array w a (length (map form_of subs)) ≡ true
as_many w a subs n same h = ap (is_array w a) (length-map subs form_of ∙ sym same) ∙ h

forms_fit : (w : Around) (subs : List Expr) → list_all (is_made w) subs ≡ true → Each (IsOverLevels w.level) (map form_of subs)
forms_fit w [] h = tt
forms_fit w (x ∷ subs) h =
    let parts = and_parts (is_made w x) (list_all (is_made w) subs) h in
    ((λ f is. form_over w x f parts.0 is), forms_fit w subs parts.1)

becomes : (w : Around) (x : Expr) (e : Elements) → elements_of x ≡ e → AreHere w e → AreHere w (elements_of x)
becomes w x e p h = subst (AreHere w) (sym p) h

two_here : (w : Around) (a b : Expr) → MadeHere a → MadeHere b → (is_made w a && is_made w b) ≡ true → AreHere w (elements_of a) × AreHere w (elements_of b)
two_here w a b h k t = let parts = and_parts (is_made w a) (is_made w b) t in (h w parts.0, k w parts.1)

element_here : (w : Around) (a : ℕ) (subs : List Expr) → Each MadeHere subs → (is_array w a (length (map (is_made w) subs)) && all_true (map (is_made w) subs)) ≡ true
    → AreHere w (element_with a (map form_of subs) (all_elements (map elements_of subs)))
element_here w a subs h t g n =
    let parts = and_parts (is_array w a (length (map (is_made w) subs))) (all_true (map (is_made w) subs)) t in
    each_append (IsHere w g.path) ((all_elements (map elements_of subs)).references g n) _ (here_all w subs h (sym (all_mapped w subs) ∙ parts.1) g n)
    ((refl, as_many w a subs (length (map (is_made w) subs)) (length-map subs (is_made w)) parts.0, forms_fit w subs (sym (all_mapped w subs) ∙ parts.1)), tt)

made_here : (x : Expr) → MadeHere x
made_here = expr_ind MadeHere (record {
  literal = λ v w t. becomes w _ no_elements (para_expr-Literal elements_at v) (λ g n. tt);
  iter = λ level w t. becomes w _ no_elements (para_expr-Iter elements_at level) (λ g n. tt);
  local = λ x w t. becomes w _ no_elements (para_expr-Local elements_at x) (λ g n. tt);
  elem = λ a subs h w t. becomes w _ _ (elements_of-Elem a subs) (element_here w a subs h (sym (fold_expr-Elem (is_made_at w) a subs) ∙ t));
  unary = λ op a h w t. becomes w _ _ (para_expr-Unary elements_at op a) (h w (sym (fold_expr-Unary (is_made_at w) op a) ∙ t));
  binary = λ op a b h k w t.
      let two = two_here w a b h k (sym (fold_expr-Binary (is_made_at w) op a b) ∙ t) in
      becomes w _ _ (para_expr-Binary elements_at op a b) (here_then w (elements_of a) (elements_of b) two.0 two.1);
  both = λ a b h k w t.
      let two = two_here w a b h k (sym (fold_expr-And (is_made_at w) a b) ∙ t) in
      becomes w _ _ (para_expr-And elements_at a b) (here_then w (elements_of a) (on_condition (elements_of b)) two.0 (here_condition w (elements_of b) two.1));
  either = λ a b h k w t.
      let two = two_here w a b h k (sym (fold_expr-Or (is_made_at w) a b) ∙ t) in
      becomes w _ _ (para_expr-Or elements_at a b) (here_then w (elements_of a) (on_condition (elements_of b)) two.0 (here_condition w (elements_of b) two.1));
  cond = λ c a b l h k w t.
      let parts = and_parts (is_made w c) (is_made w a && is_made w b) (sym (fold_expr-Cond (is_made_at w) c a b) ∙ t) in
      let two = two_here w a b h k parts.1 in
      becomes w _ _ (para_expr-Cond elements_at c a b)
      (here_then w (elements_of c) (then_elements (on_condition (elements_of a)) (on_condition (elements_of b))) (l w parts.0)
      (here_then w (on_condition (elements_of a)) (on_condition (elements_of b)) (here_condition w (elements_of a) two.0) (here_condition w (elements_of b) two.1)));
  cast = λ k a h w t. becomes w _ _ (para_expr-Cast elements_at k a) (h w (sym (fold_expr-Cast (is_made_at w) k a) ∙ t));
})

-- ---- targets

each_made : (xs : List Expr) → Each MadeHere xs
each_made xs = each_all MadeHere made_here xs

-- the subscripts of a target, and the target
record IsTargetHere (w : Around) (a : ℕ) (subs : List Expr) : Type 0 where
  indices : (g : Where) → Each (IsHere w g.path) ((subscripts subs).references g 0)
  target : (d : Direction) (g : Where) → IsHere w g.path (target_reference subs d a g)

target_here : (w : Around) (a : ℕ) (subs : List Expr) → is_made_target w a subs ≡ true → IsTargetHere w a subs
target_here w a subs t =
    let parts = and_parts (is_array w a (length subs)) (list_all (is_made w) subs) t in
    record {
      indices = λ g. here_all w subs (each_made subs) parts.1 g 0;
      target = λ d g. (refl, as_many w a subs (length subs) refl parts.0, forms_fit w subs parts.1);
    }

value_here : (w : Around) (subs : List Expr) (x : Expr) → is_made w x ≡ true → (g : Where) → Each (IsHere w g.path) (value_references subs x g)
value_here w subs x t g = made_here x w t g _

addition_here : (t : Bool) (w : Around) (a : ℕ) (subs : List Expr) (x : Expr) → IsTargetHere w a subs → is_made w x ≡ true → (g : Where) → Each (IsHere w g.path) (addition_references t a subs x g)
addition_here true w a subs x h made g = each_append (IsHere w g.path) (value_references subs x g) _ (value_here w subs x made g) (h.target Adds g, tt)
addition_here false w a subs x h made g = (h.target Reads g, each_append (IsHere w g.path) (value_references subs x g) _ (value_here w subs x made g) (h.target Writes g, tt))

init_here : (init : Option Expr) (w : Around) → init_holds w init ≡ true → (g : Where) → Each (IsHere w g.path) (init_references init g)
init_here (Some x) w t g = made_here x w t g 0
init_here None w t g = tt

-- ---- loops

-- where so many loops of the band are left
record IsPlace (inner band : ℕ) (n : Nesting) (path : List Range) : Type 0 where
  ranges : n.path ≡ path
  level : n.level ≡ length path
  short : length path ≤ 8
  small : Each IsSmallRange (drop inner path)
  sound : Each IsSound path
  counts : (band ≡ 0) ⊎ (length path + band ≡ inner)

front_full : (path : List Range) (r : Range) → has_empty (path ++ r ∷ []) ≡ false → has_empty path ≡ false
front_full [] r h = refl
front_full (p ∷ path) r h = go (is_empty p) h (front_full path r)
  where
    go : (t : Bool) → (t || has_empty (path ++ r ∷ [])) ≡ false → (has_empty (path ++ r ∷ []) ≡ false → has_empty path ≡ false) → (t || has_empty path) ≡ false
    go true k more = absurd cc
    go false k more = more k

none_left : {X : Type 0} (P : X → Type 0) (n : ℕ) → Each P (drop n [])
none_left P zero = tt
none_left P (suc n) = tt

drop_one : {X : Type 0} (P : X → Type 0) (n : ℕ) (xs : List X) (y : X) → Each P (drop n xs) → P y → Each P (drop n (xs ++ y ∷ []))
drop_one P zero xs y h k = each_append P xs (y ∷ []) h (k, tt)
drop_one P (suc n) [] y h k = none_left P n
drop_one P (suc n) (x ∷ xs) y h k = drop_one P n xs y h k

drop_past : {X : Type 0} (P : X → Type 0) (n : ℕ) (xs : List X) → length xs ≤ n → Each P (drop n xs)
drop_past P zero [] h = tt
drop_past P zero (x ∷ xs) h = absurd (omega (arith, h))
drop_past P (suc n) [] h = tt
drop_past P (suc n) (x ∷ xs) h = drop_past P n xs (omega (arith, h))

drop_short : {X : Type 0} (n : ℕ) (xs : List X) → length (drop n xs) ≤ length xs
drop_short zero xs = omega arith
drop_short (suc n) [] = omega arith
drop_short (suc n) (x ∷ xs) = omega (arith, drop_short n xs)

length_one : {X : Type 0} (xs : List X) (y : X) → length (xs ++ y ∷ []) ≡ suc (length xs)
length_one [] y = refl
length_one (x ∷ xs) y = ap suc (length_one xs y)

few_levels : (level : ℕ) → is_too_deep level ≡ false → level < 8
few_levels level h = grind (arith, nat_tests, h)

-- inside a loop, the range of which is small if it is below the band
inside : (inner band : ℕ) (n : Nesting) (path : List Range) (l : Loop-F Stmt Loop) → IsPlace inner band n path → KeepsHead l n → IsSound (range_of path l) → (band ≡ 0 → IsSmallRange (range_of path l)) → IsPlace inner (band - 1) (entered l n) (path ++ range_of path l ∷ [])
inside inner band n path l at kept own small = record {
  sound = each_append IsSound path (range_of path l ∷ []) at.sound (own, tt);
  ranges = λ i. at.ranges i ++ range_of (at.ranges i) l ∷ [];
  level = ap suc at.level ∙ sym (length_one path (range_of path l));
  short = omega (arith, length_one path (range_of path l), at.level, few_levels n.level kept.shallow);
  small = ranges band at.counts small;
  counts = counts band at.counts;
}
  where
    ranges : (b : ℕ) → (b ≡ 0) ⊎ (length path + b ≡ inner) → (b ≡ 0 → IsSmallRange (range_of path l)) → Each IsSmallRange (drop inner (path ++ range_of path l ∷ []))
    ranges zero h k = drop_one IsSmallRange inner path (range_of path l) at.small (k refl)
    ranges (suc b) (inl h) k = absurd (omega (arith, h))
    ranges (suc b) (inr h) k = drop_past IsSmallRange inner (path ++ range_of path l ∷ []) (omega (arith, h, length_one path (range_of path l)))

    counts : (b : ℕ) → (b ≡ 0) ⊎ (length path + b ≡ inner) → (b - 1 ≡ 0) ⊎ (length (path ++ range_of path l ∷ []) + (b - 1) ≡ inner)
    counts zero h = inl (omega arith)
    counts (suc b) (inl h) = absurd (omega (arith, h))
    counts (suc b) (inr h) = inr (omega (arith, h, length_one path (range_of path l)))

-- ---- statements

-- among the arrays of the unit, in so many loops
abbrev IsAmong : Program → Nesting → Around → Type 0
IsAmong u n w = (w.arrays ≡ u.arrays) × (w.level ≡ n.level)

-- of a unit whose arrays are these, well made
bounded_here : (u : Program) (inner band : ℕ) (w : Around) (n : Nesting) (path : List Range) → list_all is_made_array u.arrays ≡ true → IsAmong u n w → IsPlace inner band n path
    → (q : Reference) → IsHere w path q → IsPlaced u inner q
bounded_here u inner band w n path made arrays at q h =
    let levels : w.level ≡ length q.path = arrays.1 ∙ at.level ∙ sym (ap length h.0) in
    record {
      bounded = record {
        sizes = sizes_there u.arrays q.array q.subs made (ap (λ (l : List Array). unwrap_or (option_map (λ x. nat_eq (length x.dims) (length q.subs)) (slice_get l q.array)) false) (sym arrays.0) ∙ h.1);
        small = subst (λ p. Each IsSmallRange (drop inner p)) (sym h.0) at.small;
        short = subst (λ p. length (drop inner p) ≤ 8) (sym h.0) (omega (arith, drop_short inner path, at.short));
      };
      sound = subst (Each IsSound) (sym h.0) at.sound;
      deep = subst (λ p. length p ≤ 8) (sym h.0) at.short;
      forms = subst (λ k. Each (IsOverLevels k) q.subs) levels h.2;
    }

each_bounded : (u : Program) (inner band : ℕ) (w : Around) (n : Nesting) (path : List Range) (qs : List Reference) → list_all is_made_array u.arrays ≡ true → IsAmong u n w → IsPlace inner band n path
    → Each (IsHere w path) qs → Each (IsPlaced u inner) qs
each_bounded u inner band w n path qs made arrays at h = each_weaker (IsHere w path) (IsPlaced u inner) (bounded_here u inner band w n path made arrays at) qs h

abbrev StmtBounded : Adding → Program → ℕ → Stmt → Type 0
StmtBounded adds u inner x = (w : Around) (n : Nesting) (g : Where) (band : ℕ) → list_all is_made_array u.arrays ≡ true → IsAmong u n w → IsPlace inner band n g.path
    → (made x).holds w ≡ true → (made x).keeps n ≡ true → Each (IsPlaced u inner) (stmt_references adds x g band)

list_bounded : (adds : Adding) (u : Program) (inner : ℕ) (xs : List Stmt) → Each (StmtBounded adds u inner) xs → (w : Around) (n : Nesting) (g : Where) (k band : ℕ) → list_all is_made_array u.arrays ≡ true
    → IsAmong u n w → IsPlace inner band n g.path → list_holds (map made xs) w ≡ true → list_keeps (map made xs) n ≡ true
    → Each (IsPlaced u inner) (list_references (map (stmt_references adds) xs) g k band)
list_bounded adds u inner [] h w n g k band arrays same at holds keeps = tt
list_bounded adds u inner (x ∷ xs) h w n g k band arrays same at holds keeps =
    let next = record w { locals = (made x).declares ++ w.locals } in
    let p = and_parts ((made x).holds w) (list_holds (map made xs) next) holds in
    let q = and_parts ((made x).keeps n) (list_keeps (map made xs) n) keeps in
    each_append (IsPlaced u inner) (stmt_references adds x (placed g k) band) (list_references (map (stmt_references adds) xs) g (suc k) band)
    (h.0 w n (placed g k) band arrays same at p.0 q.0) (list_bounded adds u inner xs h.1 next n g (suc k) band arrays same at p.1 q.1)

from_references : (adds : Adding) (u : Program) (inner : ℕ) (x : Stmt) (k : Referring) → stmt_references adds x ≡ k
    → ((w : Around) (n : Nesting) (g : Where) (band : ℕ) → list_all is_made_array u.arrays ≡ true → IsAmong u n w → IsPlace inner band n g.path → (made x).holds w ≡ true → (made x).keeps n ≡ true → Each (IsPlaced u inner) (k g band))
    → StmtBounded adds u inner x
from_references adds u inner x k p h w n g band arrays same at holds keeps = subst (λ (z : Referring). Each (IsPlaced u inner) (z g band)) (sym p) (h w n g band arrays same at holds keeps)

held : (x : Stmt) (m : Made) (w : Around) → made x ≡ m → (made x).holds w ≡ true → m.holds w ≡ true
held x m w e h = sym (ap (λ (k : Made). k.holds w) e) ∙ h

kept_by : (x : Stmt) (m : Made) (n : Nesting) → made x ≡ m → (made x).keeps n ≡ true → m.keeps n ≡ true
kept_by x m n e h = sym (ap (λ (k : Made). k.keeps n) e) ∙ h

-- what stands in a loop below the band is left out where the hull is empty
loop_bounded : (u : Program) (inner band : ℕ) (n : Nesting) (path : List Range) (l : Loop-F Stmt Loop) (qs : List Reference) → IsPlace inner band n path → KeepsHead l n → IsSound (range_of path l)
    → (IsPlace inner (band - 1) (entered l n) (path ++ range_of path l ∷ []) → Each (IsPlaced u inner) qs) → Each (IsPlaced u inner) (unless_empty band (path ++ range_of path l ∷ []) qs)
loop_bounded u inner (suc band) n path l qs at kept own h = h (inside inner (suc band) n path l at kept own (λ e. absurd (omega (arith, e))))
loop_bounded u inner zero n path l qs at kept own h = go (has_empty (path ++ range_of path l ∷ [])) refl
  where
    go : (t : Bool) → has_empty (path ++ range_of path l ∷ []) ≡ t → Each (IsPlaced u inner) (if t then [] else qs)
    go true is = tt
    go false is = h (inside inner 0 n path l at kept own (λ e. small_range path l (front_full path (range_of path l) is) (subst (λ p. passes_hull p l ≡ false) at.ranges kept.hull) kept.near))

stmt_bounded : (adds : Adding) (u : Program) (inner : ℕ) (x : Stmt) → StmtBounded adds u inner x
stmt_bounded adds u inner = stmt_ind (StmtBounded adds u inner) (record {
  assign = λ place a subs value. from_references adds u inner _ _ (fold_stmt-Assign (references_at adds) (references_inside adds) place a subs value) (λ w n g band arrays same at holds keeps.
      let t = and_parts (is_made_target w a subs) (is_made w value) (held (stmt.Assign place a subs value) _ w (fold_stmt-Assign made_at made_loop place a subs value) holds) in
      let target = target_here w a subs t.0 in
      each_bounded u inner band w n g.path _ arrays same at
      (each_append (IsHere w g.path) ((subscripts subs).references g 0) _ (target.indices g)
      (each_append (IsHere w g.path) (value_references subs value g) _ (value_here w subs value t.1 g) (target.target Writes g, tt))));
  add_to = λ place a subs value atomic. from_references adds u inner _ _ (fold_stmt-AddTo (references_at adds) (references_inside adds) place a subs value atomic) (λ w n g band arrays same at holds keeps.
      let t = and_parts (is_made_target w a subs) (is_made w value) (held (stmt.AddTo place a subs value atomic) _ w (fold_stmt-AddTo made_at made_loop place a subs value atomic) holds) in
      let target = target_here w a subs t.0 in
      each_bounded u inner band w n g.path _ arrays same at
      (each_append (IsHere w g.path) ((subscripts subs).references g 0) _ (target.indices g) (addition_here (adds a atomic) w a subs value target t.1 g)));
  declare = λ place x init. from_references adds u inner _ _ (fold_stmt-Declare (references_at adds) (references_inside adds) place x init) (λ w n g band arrays same at holds keeps.
      let next = record w { locals = x ∷ w.locals } in
      each_bounded u inner band next n g.path _ arrays same at (init_here init next (held (stmt.Declare place x init) _ w (fold_stmt-Declare made_at made_loop place x init) holds) g));
  set_local = λ place x value. from_references adds u inner _ _ (fold_stmt-SetLocal (references_at adds) (references_inside adds) place x value) (λ w n g band arrays same at holds keeps.
      let t = and_parts (is_among w.locals x) (is_made w value) (held (stmt.SetLocal place x value) _ w (fold_stmt-SetLocal made_at made_loop place x value) holds) in
      each_bounded u inner band w n g.path _ arrays same at (made_here value w t.1 g 0));
  choice = λ place test body otherwise p q. from_references adds u inner _ _ (fold_stmt-If (references_at adds) (references_inside adds) place test body otherwise) (λ w n g band arrays same at holds keeps.
      let t = and_parts (is_made w test) (list_holds (map made body) w && list_holds (map made otherwise) w) (held (stmt.If place test body otherwise) _ w (fold_stmt-If made_at made_loop place test body otherwise) holds) in
      let lists = and_parts (list_holds (map made body) w) (list_holds (map made otherwise) w) t.1 in
      let limits = and_parts (list_keeps (map made body) n) (list_keeps (map made otherwise) n) (kept_by (stmt.If place test body otherwise) _ n (fold_stmt-If made_at made_loop place test body otherwise) keeps) in
      each_append (IsPlaced u inner) ((elements_of test).references g 0) _ (each_bounded u inner band w n g.path _ arrays same at (made_here test w t.0 g 0))
      (each_append (IsPlaced u inner) (list_references (map (stmt_references adds) body) (perhaps g) 0 band) _ (list_bounded adds u inner body p w n (perhaps g) 0 band arrays same at lists.0 limits.0)
      (list_bounded adds u inner otherwise q w n (perhaps g) (length (map (stmt_references adds) body)) band arrays same at lists.1 limits.1)));
  loop = λ l p. from_references adds u inner _ _ (fold_stmt-For (references_at adds) (references_inside adds) (roll-Loop l) ∙ fold_loop (references_at adds) (references_inside adds) l) (λ w n g band arrays same at holds keeps.
      let opened : made (stmt.For (roll-Loop l)) ≡ _ = fold_stmt-For made_at made_loop (roll-Loop l) ∙ fold_loop made_at made_loop l in
      let next = record w { level = suc w.level } in
      let t = and_parts (head_holds l w) (list_holds (map made l.body) next) (held (stmt.For (roll-Loop l)) _ w opened holds) in
      let kept = keeps_head l n keeps in
      loop_bounded u inner band n g.path l _ at kept (subst (λ (q : List Range). IsSound (range_of q l)) at.ranges (sound_head l w n t.0 kept)) (λ in_it. list_bounded adds u inner l.body p next (entered l n) (in_turn g l) 0 (band - 1) arrays (same.0, ap suc same.1) in_it t.1 kept.inner));
  block = λ body p. from_references adds u inner _ _ (fold_stmt-Block (references_at adds) (references_inside adds) body) (λ w n g band arrays same at holds keeps.
      list_bounded adds u inner body p w n g 0 band arrays same at (held (stmt.Block body) _ w (fold_stmt-Block made_at made_loop body) holds) (kept_by (stmt.Block body) _ n (fold_stmt-Block made_at made_loop body) keeps));
})

-- ---- the law

pub standing_placed : (adds : Adding) (u : Program) (head : Loop) (path : List Range) (at : List ℕ) (depth : ℕ) → IsWellMade u → StandsIn u head path → Each (IsPlaced u (length path + depth)) (references_of adds head at path depth)
standing_placed adds u head path at depth well stands =
    let here = stands_well u head path well stands in
    let g : Where = record { statement = at; path = path; conditional = false } in
    let inner = length path + depth in
    let place : IsPlace inner depth here.nesting path = record {
      ranges = here.ranges;
      level = here.levels;
      short = here.short;
      small = drop_past IsSmallRange inner path (omega arith);
      sound = here.sound;
      counts = inr refl;
    } in
    subst (λ (k : Referring). Each (IsPlaced u inner) (k g depth)) (fold_stmt-For (references_at adds) (references_inside adds) head)
    (stmt_bounded adds u inner (stmt.For head) here.around here.nesting g depth well.arrays (here.arrays, here.level ∙ sym here.levels) place here.holds here.keeps)
