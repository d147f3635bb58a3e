-- The loops around references of a nest take all numbers of their ranges in whole steps, if they go from a constant to a constant.
use Rattle.std.proofs.Common.{◌≡◌, refl, ap, sym, ◌∙◌, subst, arith, ℕ, zero, suc, ◌+◌, ◌-◌, ◌*◌, ◌/◌, Bool, true, false, ◌&&◌, if◌then◌else◌, List, [], ◌∷◌, ◌++◌, map, length, drop, append_assoc, append-nil, Option, Some, None, is_some, IsTrue, ℤ, pos, negsuc, ◌+ℤ◌, ◌-ℤ◌, ◌*ℤ◌, ◌≤ℤ◌}
use Rattle.std.specs.Int.{◌∣◌}
use Rattle.std.specs.Int.RustNames.{unsigned_abs, int_le}
use Rattle.std.proofs.lemmas.Int.{ints}
use Rattle.std.proofs.Math.Nat.{dvd-mul_left, div-add-mod', mod-eq-zero_of_dvd}
use Rattle.species_ast.specs.declared.tree.Expr.{Expr}
use Rattle.species_ast.specs.declared.tree.Loop.{Loop, out-Loop, roll-Loop}
use Rattle.species_ast.specs.declared.tree.Stmt.{Stmt}
use Rattle.species_ast.specs.declared.tree.Stmt.TheVariants as stmt
use Rattle.species_ast.specs.declared.tree.Stmt.TheOpen.{Loop-F}
use Rattle.species_ast.specs.Accesses.{Direction, Reads, Writes, Adds}
use Rattle.species_ast.specs.Scope.Forms.{Form, form_of, is_constant}
use Rattle.species_ast.specs.Scope.Hulls.{Range, has_empty, range_of, range_between, fixed_range, no_range, wide_range, start_constant, last_value, bound_form, last_form}
use Rattle.species_ast.specs.Scope.References.{Where, Reference, reference, perhaps, placed, in_turn, Elements, no_elements, then_elements, on_condition, all_elements, element_with, elements_at, elements_of, subscripts, target_reference, value_references, addition_references, init_references, Adding, Referring, list_references, references_at, references_inside, stmt_references, references_of, unless_empty}
use Rattle.species_ast.proofs.Folds.{fold_stmt-Assign, fold_stmt-AddTo, fold_stmt-Declare, fold_stmt-SetLocal, fold_stmt-If, fold_stmt-For, fold_stmt-Block, fold_loop}
use Rattle.species_ast.proofs.Induction.{Each, each_all, expr_ind, stmt_ind}
use Rattle.species_ast.proofs.Paras.{para_expr-Literal, para_expr-Iter, para_expr-Local, para_expr-Unary, para_expr-Binary, para_expr-And, para_expr-Or, para_expr-Cond, para_expr-Cast}
use Rattle.species_ast.proofs.ReferenceLaws.{elements_of-Elem}
use Rattle.species_occurrences.specs.Iterators.{ranges_of}
use Rattle.species_references.specs.Boxes.{has_constant_bounds}
use Rattle.species_references.proofs.TurnLaws.{each_to_all}
use Rattle.species_merge.proofs.Divides.{dvd_at, dvd_turned, dvd_ways}
use Rattle.species_merge.specs.Law.{IsFullyTaken, AreSettled, ReferencesAreSettled}

-- ---- the range of a loop

abbrev Settles : Range → Type 0
Settles r = IsTrue (has_constant_bounds r) → r.low ≤ℤ r.high → IsFullyTaken r

quotient : (d n : ℕ) → d ∣ n → (k : ℕ) × (n ≡ k * d)
quotient d n h = (n / d, omega (arith, div-add-mod' n d, mod-eq-zero_of_dvd d h))

steps_up : (k n : ℕ) → pos k *ℤ pos n ≡ pos (k * n)
steps_up k n = refl

steps_down : (k m : ℕ) → pos k *ℤ negsuc m ≡ pos 0 -ℤ pos (k * suc m)
steps_down k m = omega (arith, ints)

above : (x y : ℤ) (k : ℕ) → y ≤ℤ x → unsigned_abs (x -ℤ y) ≡ k → x ≡ y +ℤ pos k
above x y k p e = grind (arith, ints)

up_settled : (n : ℕ) (first high : ℤ) (k : ℕ) → high ≡ first +ℤ pos (k * n) → first ≤ℤ high
    → IsFullyTaken (record { low = first; high = high; step = pos n; start = Some first; fixed = true })
up_settled n first high k e some = record {
  whole = dvd_at n (pos (k * n)) (high -ℤ first) (omega (arith, ints, e)) (dvd-mul_left n k);
  taken = λ i from to unit.
      let q = quotient n (unsigned_abs (i -ℤ first)) unit in
      (from, to, (q.0, above i first (q.0 * n) from q.1 ∙ ap (λ z. first +ℤ z) (sym (steps_up q.0 n))));
}

down_settled : (m : ℕ) (first low : ℤ) (k : ℕ) → low ≡ first -ℤ pos (k * suc m) → low ≤ℤ first
    → IsFullyTaken (record { low = low; high = first; step = negsuc m; start = Some first; fixed = true })
down_settled m first low k e some = record {
  whole = way;
  taken = λ i from to unit.
      let back : suc m ∣ unsigned_abs (first -ℤ i) = dvd_ways (suc m) first low i way (dvd_turned (suc m) i low unit) in
      let q = quotient (suc m) (unsigned_abs (first -ℤ i)) back in
      (from, to, (q.0, omega (arith, ints, above first i (q.0 * suc m) to q.1, steps_down q.0 m)));
}
  where
    way : suc m ∣ unsigned_abs (first -ℤ low)
    way = dvd_at (suc m) (pos (k * suc m)) (first -ℤ low) (omega (arith, ints, e)) (dvd-mul_left (suc m) k)

fixed_settles : (step first last : ℤ) → Settles (fixed_range step first last)
fixed_settles (pos n) first last constant some = go (int_le first last) refl some
  where
    k : ℕ
    k = unsigned_abs (last -ℤ first) / n

    go : (t : Bool) → int_le first last ≡ t → first ≤ℤ (if t then last_value (pos n) first last else last)
        → IsFullyTaken (record { low = first; high = if t then last_value (pos n) first last else last; step = pos n; start = Some first; fixed = true })
    go true is h = up_settled n first (last_value (pos n) first last) k (ap (λ z. first +ℤ z) (steps_up k n)) h
    go false is h = absurd (clash h (grind (arith, ints, is)))
      where
        clash : first ≤ℤ last → (first ≤ℤ last → ⊥) → ⊥
        clash p q = q p
fixed_settles (negsuc m) first last constant some = go (int_le last first) refl some
  where
    k : ℕ
    k = unsigned_abs (last -ℤ first) / suc m

    go : (t : Bool) → int_le last first ≡ t → (if t then last_value (negsuc m) first last else last) ≤ℤ first
        → IsFullyTaken (record { low = if t then last_value (negsuc m) first last else last; high = first; step = negsuc m; start = Some first; fixed = true })
    go true is h = down_settled m first (last_value (negsuc m) first last) k (omega (arith, ints, steps_down k m)) h
    go false is h = absurd (clash h (grind (arith, ints, is)))
      where
        clash : last ≤ℤ first → (last ≤ℤ first → ⊥) → ⊥
        clash p q = q p

moving : (first last : Form) (t u : Bool) → is_constant first ≡ t → is_constant last ≡ u → (t && u) ≡ false → (is_some (start_constant first) && is_constant last) ≡ false
moving first last true true p q h = absurd cc
moving first last true false p q h = rw (p, q) refl
moving first last false u p q h = rw p refl

wide_moves : (path : List Range) (step : ℤ) (first last : Form) → has_constant_bounds (wide_range path step first last) ≡ (is_some (start_constant first) && is_constant last)
wide_moves path (pos n) first last = refl
wide_moves path (negsuc n) first last = refl

between_settles : (path : List Range) (step : ℤ) (first last : Form) → Settles (range_between path step first last)
between_settles path step first last = go (is_constant first) (is_constant last) (has_empty path) refl refl
  where
    rest : (t u v : Bool) → is_constant first ≡ t → is_constant last ≡ u → (t && u) ≡ false → Settles (if v then no_range step first last else wide_range path step first last)
    rest t u true p q h = λ constant some. absurd (cc (constant, moving first last t u p q h))
    rest t u false p q h = λ constant some. absurd (cc (constant, wide_moves path step first last ∙ moving first last t u p q h))

    go : (t u v : Bool) → is_constant first ≡ t → is_constant last ≡ u
        → Settles (if t && u then fixed_range step first.constant last.constant else (if v then no_range step first last else wide_range path step first last))
    go true true v p q = fixed_settles step first.constant last.constant
    go true false v p q = rest true false v p q refl
    go false u v p q = rest false u v p q refl

range_settles : {X Y : Type 0} (path : List Range) (l : Loop-F X Y) → Settles (range_of path l)
range_settles path l = between_settles path l.step (bound_form l.start) (last_form l.test (bound_form l.limit))

-- ---- references: in the loops around their statement, and more

both : {X : Type 0} (P : X → Type 0) (xs ys : List X) → Each P xs → Each P ys → Each P (xs ++ ys)
both P [] ys h k = k
both P (x ∷ xs) ys h k = (h.0, both P xs ys h.1 k)

abbrev pub Inside : List Range → Reference → Type 0
Inside path q = (inner : List Loop) × (q.path ≡ ranges_of path inner)

abbrev AreInside : (Where → List Reference) → Type 0
AreInside k = (g : Where) → Each (Inside g.path) (k g)

own : (g : Where) (n : ℕ) (d : Direction) (a : ℕ) (subs : List (Option Form)) → Inside g.path (reference g n d a subs)
own g n d a subs = ([], refl)

-- expressions
abbrev Keeps : Elements → Type 0
Keeps e = (g : Where) (n : ℕ) → Each (Inside g.path) (e.references g n)

keeps_then : (a b : Elements) → Keeps a → Keeps b → Keeps (then_elements a b)
keeps_then a b h k g n = both (Inside g.path) (a.references g n) (b.references g (n + a.count)) (h g n) (k g (n + a.count))

keeps_condition : (a : Elements) → Keeps a → Keeps (on_condition a)
keeps_condition a h g n = h (perhaps g) n

keeps_all : (es : List Expr) → Each (λ x. Keeps (elements_of x)) es → Keeps (all_elements (map elements_of es))
keeps_all [] h = λ g n. tt
keeps_all (x ∷ es) h = keeps_then (elements_of x) (all_elements (map elements_of es)) h.0 (keeps_all es h.1)

keeps_element : (a : ℕ) (forms : List (Option Form)) (subs : Elements) → Keeps subs → Keeps (element_with a forms subs)
keeps_element a forms subs h g n = both (Inside g.path) (subs.references g n) (reference g (n + subs.count) Reads a forms ∷ []) (h g n) (own g (n + subs.count) Reads a forms, tt)

becomes : (x : Expr) (e : Elements) → elements_of x ≡ e → Keeps e → Keeps (elements_of x)
becomes x e p h = subst Keeps (sym p) h

expr_keeps : (x : Expr) → Keeps (elements_of x)
expr_keeps = expr_ind (λ x. Keeps (elements_of x)) (record {
  literal = λ v. becomes _ no_elements (para_expr-Literal elements_at v) (λ g n. tt);
  iter = λ level. becomes _ no_elements (para_expr-Iter elements_at level) (λ g n. tt);
  local = λ x. becomes _ no_elements (para_expr-Local elements_at x) (λ g n. tt);
  elem = λ a subs h. becomes _ _ (elements_of-Elem a subs) (keeps_element a (map form_of subs) (all_elements (map elements_of subs)) (keeps_all subs h));
  unary = λ op a h. becomes _ _ (para_expr-Unary elements_at op a) h;
  binary = λ op a b h k. becomes _ _ (para_expr-Binary elements_at op a b) (keeps_then (elements_of a) (elements_of b) h k);
  both = λ a b h k. becomes _ _ (para_expr-And elements_at a b) (keeps_then (elements_of a) (on_condition (elements_of b)) h (keeps_condition (elements_of b) k));
  either = λ a b h k. becomes _ _ (para_expr-Or elements_at a b) (keeps_then (elements_of a) (on_condition (elements_of b)) h (keeps_condition (elements_of b) k));
  cond = λ c a b l h k. becomes _ _ (para_expr-Cond elements_at c a b)
      (keeps_then (elements_of c) (then_elements (on_condition (elements_of a)) (on_condition (elements_of b))) l
      (keeps_then (on_condition (elements_of a)) (on_condition (elements_of b)) (keeps_condition (elements_of a) h) (keeps_condition (elements_of b) k)));
  cast = λ k a h. becomes _ _ (para_expr-Cast elements_at k a) h;
})

-- statements
subscripts_inside : (subs : List Expr) → AreInside (λ g. (subscripts subs).references g 0)
subscripts_inside subs g = keeps_all subs (each_all (λ x. Keeps (elements_of x)) expr_keeps subs) g 0

last_inside : (subs : List Expr) (x : Expr) (d : Direction) (a : ℕ) → AreInside (λ g. value_references subs x g ++ target_reference subs d a g ∷ [])
last_inside subs x d a g =
    both (Inside g.path) (value_references subs x g) (target_reference subs d a g ∷ []) (expr_keeps x g (suc (subscripts subs).count)) (own g (subscripts subs).count d a (map form_of subs), tt)

addition_inside : (t : Bool) (a : ℕ) (subs : List Expr) (x : Expr) → AreInside (addition_references t a subs x)
addition_inside true a subs x g = last_inside subs x Adds a g
addition_inside false a subs x g = (own g (subscripts subs).count Reads a (map form_of subs), last_inside subs x Writes a g)

init_inside : (init : Option Expr) → AreInside (init_references init)
init_inside (Some x) g = expr_keeps x g 0
init_inside None g = tt

abbrev IsStmtInside : Adding → Stmt → Type 0
IsStmtInside adds x = (g : Where) (band : ℕ) → Each (Inside g.path) (stmt_references adds x g band)

list_inside : (adds : Adding) (xs : List Stmt) → Each (IsStmtInside adds) xs → (g : Where) (k band : ℕ) → Each (Inside g.path) (list_references (map (stmt_references adds) xs) g k band)
list_inside adds [] h g k band = tt
list_inside adds (x ∷ xs) h g k band =
    both (Inside g.path) (stmt_references adds x (placed g k) band) (list_references (map (stmt_references adds) xs) g (suc k) band) (h.0 (placed g k) band) (list_inside adds xs h.1 g (suc k) band)

-- in a loop more
each_within : (path : List Range) (l : Loop) (qs : List Reference) → Each (Inside (path ++ range_of path (out-Loop l) ∷ [])) qs → Each (Inside path) qs
each_within path l [] h = tt
each_within path l (q ∷ qs) h = ((l ∷ h.0.0, h.0.1), each_within path l qs h.1)

loop_inside : (path : List Range) (l : Loop) (band : ℕ) (qs : List Reference) → Each (Inside (path ++ range_of path (out-Loop l) ∷ [])) qs
    → Each (Inside path) (unless_empty band (path ++ range_of path (out-Loop l) ∷ []) qs)
loop_inside path l zero qs h = go (has_empty (path ++ range_of path (out-Loop l) ∷ []))
  where
    go : (t : Bool) → Each (Inside path) (if t then [] else qs)
    go true = tt
    go false = each_within path l qs h
loop_inside path l (suc band) qs h = each_within path l qs h

inside_from : (adds : Adding) (x : Stmt) (k : Referring) → stmt_references adds x ≡ k → ((g : Where) (band : ℕ) → Each (Inside g.path) (k g band)) → IsStmtInside adds x
inside_from adds x k p h = subst (λ (z : Referring). (g : Where) (band : ℕ) → Each (Inside g.path) (z g band)) (sym p) h

stmt_inside : (adds : Adding) (x : Stmt) → IsStmtInside adds x
stmt_inside adds = stmt_ind (IsStmtInside adds) (record {
  assign = λ place a subs value. inside_from adds _ _ (fold_stmt-Assign (references_at adds) (references_inside adds) place a subs value) (λ g band.
      both (Inside g.path) ((subscripts subs).references g 0) _ (subscripts_inside subs g) (last_inside subs value Writes a g));
  add_to = λ place a subs value atomic. inside_from adds _ _ (fold_stmt-AddTo (references_at adds) (references_inside adds) place a subs value atomic) (λ g band.
      both (Inside g.path) ((subscripts subs).references g 0) _ (subscripts_inside subs g) (addition_inside (adds a atomic) a subs value g));
  declare = λ place n init. inside_from adds _ _ (fold_stmt-Declare (references_at adds) (references_inside adds) place n init) (λ g band. init_inside init g);
  set_local = λ place n value. inside_from adds _ _ (fold_stmt-SetLocal (references_at adds) (references_inside adds) place n value) (λ g band. expr_keeps value g 0);
  choice = λ place test body otherwise p q. inside_from adds _ _ (fold_stmt-If (references_at adds) (references_inside adds) place test body otherwise) (λ g band.
      both (Inside g.path) ((elements_of test).references g 0) _ (expr_keeps test g 0)
      (both (Inside g.path) (list_references (map (stmt_references adds) body) (perhaps g) 0 band) _ (list_inside adds body p (perhaps g) 0 band)
      (list_inside adds otherwise q (perhaps g) (length (map (stmt_references adds) body)) band)));
  loop = λ l p. inside_from adds _ _ (fold_stmt-For (references_at adds) (references_inside adds) (roll-Loop l) ∙ fold_loop (references_at adds) (references_inside adds) l) (λ g band.
      loop_inside g.path (roll-Loop l) band (list_references (map (stmt_references adds) l.body) (in_turn g l) 0 (band - 1)) (list_inside adds l.body p (in_turn g l) 0 (band - 1)));
  block = λ body p. inside_from adds _ _ (fold_stmt-Block (references_at adds) (references_inside adds) body) (λ g band. list_inside adds body p g 0 band);
})

-- ---- the law

drop_more : {X : Type 0} (xs ys : List X) (n : ℕ) → drop (length xs + n) (xs ++ ys) ≡ drop n ys
drop_more {X} [] ys n = let same : length {A = X} [] + n ≡ n = omega arith in ap (λ m. drop m ys) same
drop_more (x ∷ xs) ys n = let one : suc (length xs) + n ≡ suc (length xs + n) = omega arith in ap (λ m. drop m (x ∷ (xs ++ ys))) one ∙ drop_more xs ys n

each_drop : {X : Type 0} (P : X → Type 0) (n : ℕ) (xs : List X) → Each P xs → Each P (drop n xs)
each_drop P zero xs h = h
each_drop P (suc n) [] h = tt
each_drop P (suc n) (x ∷ xs) h = each_drop P n xs h.1

-- the ranges of inner loops, behind those around them
settled_loops : (path : List Range) (inner : List Loop) → (more : List Range) × (ranges_of path inner ≡ path ++ more) × Each Settles more
settled_loops path [] = ([], sym (append-nil path), tt)
settled_loops path (l ∷ inner) =
    let r = range_of path (out-Loop l) in
    let rest = settled_loops (path ++ r ∷ []) inner in
    (r ∷ rest.0, rest.1 ∙ append_assoc path (r ∷ []) rest.0, (range_settles path (out-Loop l), rest.2))

each_settled : (path : List Range) (depth : ℕ) (qs : List Reference) → Each (Inside path) qs → Each (AreSettled (length path + depth)) qs
each_settled path depth [] h = tt
each_settled path depth (q ∷ qs) h =
    let loops = settled_loops path h.0.0 in
    let left : drop depth loops.0 ≡ drop (length path + depth) q.path = sym (ap (drop (length path + depth)) (h.0.1 ∙ loops.1) ∙ drop_more path loops.0 depth) in
    (each_to_all Settles (drop (length path + depth) q.path) (subst (Each Settles) left (each_drop Settles depth loops.0 loops.2)), each_settled path depth qs h.1)

-- each reference of a nest stands in loops inside those around it
pub references_inside_loops : (adds : Adding) (head : Loop) (at : List ℕ) (path : List Range) (depth : ℕ) → Each (Inside path) (references_of adds head at path depth)
references_inside_loops adds head at path depth =
    let g : Where = record { statement = at; path = path; conditional = false } in
    subst (λ (k : Referring). Each (Inside path) (k g depth)) (fold_stmt-For (references_at adds) (references_inside adds) head) (stmt_inside adds (stmt.For head) g depth)

-- so do those of a list of statements
pub body_inside_loops : (adds : Adding) (xs : List Stmt) (g : Where) (k band : ℕ) → Each (Inside g.path) (list_references (map (stmt_references adds) xs) g k band)
body_inside_loops adds xs g k band = list_inside adds xs (each_all (IsStmtInside adds) (stmt_inside adds) xs) g k band

pub references_are_settled : ReferencesAreSettled
references_are_settled adds head at path depth =
    each_to_all (AreSettled (length path + depth)) (references_of adds head at path depth)
    (each_settled path depth (references_of adds head at path depth) (references_inside_loops adds head at path depth))
