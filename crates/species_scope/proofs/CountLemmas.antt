-- How many references statements and loops have.
use Rattle.std.proofs.Common.{◌≡◌, ◌∙◌, refl, sym, ap, subst, arith, ℕ, zero, suc, ◌+◌, ◌<◌, List, [], ◌∷◌, ◌++◌, map, take, length, get_or, Bool, true, false, ◌&&◌, not, if◌then◌else◌, Some, None, length-append}
use Rattle.std.proofs.lemmas.Bool.{and_parts}
use Rattle.std.proofs.lemmas.Bool.Decides.{nat_tests}
use Rattle.std.proofs.lemmas.List.{length-map, map-append, take_more}
use Rattle.species_ast.specs.declared.tree.Binary.{Binary}
use Rattle.species_ast.specs.declared.tree.Expr.{Expr}
use Rattle.species_ast.specs.declared.tree.Expr.TheVariants as expr
use Rattle.species_ast.specs.declared.tree.Kind.{Kind}
use Rattle.species_ast.specs.declared.tree.Loop.{Loop, out-Loop}
use Rattle.species_ast.specs.declared.tree.Stmt.{Stmt}
use Rattle.species_ast.specs.declared.tree.Stmt.TheOpen.{Loop-F}
use Rattle.species_ast.specs.declared.tree.Stmt.TheVariants as stmt
use Rattle.species_ast.specs.declared.tree.Unary.{Unary}
use Rattle.species_ast.specs.declared.tree.Value.{Value}
use Rattle.species_ast.specs.Scope.Hulls.{Range, has_empty, range_of, passes_hull}
use Rattle.species_ast.specs.Scope.Limits.{is_too_deep, is_too_far}
use Rattle.species_ast.specs.Scope.Loops.{Nesting, no_loops, entered}
use Rattle.species_ast.specs.Scope.Nests.{front_with}
use Rattle.species_ast.specs.Scope.References.{Where, Reference, perhaps, placed, in_turn, Elements, elements_at, elements_of, subscripts, no_adds, value_references, target_reference, Referring, list_references, references_at, references_inside, stmt_references, loop_references, unless_empty, reference_count}
use Rattle.species_ast.specs.Accesses.{Writes, Reads}
use Rattle.species_ast.specs.Scope.WellMade.{Made, made, made_at, made_loop, list_keeps, head_keeps, fronts_of}
use Rattle.species_ast.proofs.Folds.{fold_stmt-Assign, fold_stmt-AddTo, fold_stmt-Declare, fold_stmt-SetLocal, fold_stmt-If, fold_stmt-For, fold_stmt-Block, fold_loop-out}
use Rattle.species_ast.proofs.Paras.{para_expr-Literal, para_expr-Iter, para_expr-Local, para_expr-Unary, para_expr-Binary, para_expr-And, para_expr-Or, para_expr-Cond, para_expr-Cast}
use Rattle.species_ast.proofs.ReferenceLaws.{numbers, elements_of-Elem, elements_of-in_order}
use Rattle.species_scope.specs.Referenced.{head_made, Reached, elements_in}

-- ---- expressions

pub count-Elem : (a : ℕ) (subs : List Expr) → (elements_of (expr.Elem a subs)).count ≡ elements_in subs + 1
count-Elem a subs = let one : suc (elements_in subs) ≡ elements_in subs + 1 = omega arith in ap (λ (e : Elements). e.count) (elements_of-Elem a subs) ∙ one

pub count-Literal : (v : Value) → (elements_of (expr.Literal v)).count ≡ 0
count-Literal v = ap (λ (e : Elements). e.count) (para_expr-Literal elements_at v)

pub count-Iter : (level : ℕ) → (elements_of (expr.Iter level)).count ≡ 0
count-Iter level = ap (λ (e : Elements). e.count) (para_expr-Iter elements_at level)

pub count-Local : (n : ℕ) → (elements_of (expr.Local n)).count ≡ 0
count-Local n = ap (λ (e : Elements). e.count) (para_expr-Local elements_at n)

pub count-Unary : (op : Unary) (a : Expr) → (elements_of (expr.Unary op a)).count ≡ (elements_of a).count
count-Unary op a = ap (λ (e : Elements). e.count) (para_expr-Unary elements_at op a)

pub count-Cast : (k : Kind) (a : Expr) → (elements_of (expr.Cast k a)).count ≡ (elements_of a).count
count-Cast k a = ap (λ (e : Elements). e.count) (para_expr-Cast elements_at k a)

pub count-Binary : (op : Binary) (a b : Expr) → (elements_of (expr.Binary op a b)).count ≡ (elements_of a).count + (elements_of b).count
count-Binary op a b = ap (λ (e : Elements). e.count) (para_expr-Binary elements_at op a b)

pub count-And : (a b : Expr) → (elements_of (expr.And a b)).count ≡ (elements_of a).count + (elements_of b).count
count-And a b = ap (λ (e : Elements). e.count) (para_expr-And elements_at a b)

pub count-Or : (a b : Expr) → (elements_of (expr.Or a b)).count ≡ (elements_of a).count + (elements_of b).count
count-Or a b = ap (λ (e : Elements). e.count) (para_expr-Or elements_at a b)

pub count-Cond : (c a b : Expr) → (elements_of (expr.Cond c a b)).count ≡ (elements_of c).count + ((elements_of a).count + (elements_of b).count)
count-Cond c a b = ap (λ (e : Elements). e.count) (para_expr-Cond elements_at c a b)

-- of an expression that is known
pub none_counted : (e e' : Expr) (old : ℕ) → e ≡ e' → (elements_of e').count ≡ 0 → old ≡ old + (elements_of e).count
none_counted e e' old is zero_is = let here : (elements_of e).count ≡ (elements_of e').count = ap (λ (x : Expr). (elements_of x).count) is in omega (arith, here, zero_is)

pub one_counted : (e e' a b : Expr) (old new : ℕ) → e ≡ e' → (elements_of e').count ≡ (elements_of a).count → b ≡ a
    → new ≡ old + (elements_of b).count → new ≡ old + (elements_of e).count
one_counted e e' a b old new is same get h =
    let here : (elements_of e).count ≡ (elements_of e').count = ap (λ (x : Expr). (elements_of x).count) is in
    let part : (elements_of b).count ≡ (elements_of a).count = ap (λ (x : Expr). (elements_of x).count) get in
    omega (arith, here, same, part, h)

pub elem_counted : (e : Expr) (a : ℕ) (subs es : List Expr) (old mid new : ℕ) → e ≡ expr.Elem a subs → es ≡ subs
    → mid ≡ old + elements_in es → new ≡ mid + 1 → new ≡ old + (elements_of e).count
elem_counted e a subs es old mid new is get h k =
    let whole : (elements_of e).count ≡ elements_in subs + 1 = ap (λ (x : Expr). (elements_of x).count) is ∙ count-Elem a subs in
    let part : elements_in es ≡ elements_in subs = ap elements_in get in
    omega (arith, whole, part, h, k)

pub two_counted : (e e' a b a' b' : Expr) (old mid new : ℕ) → e ≡ e' → (elements_of e').count ≡ (elements_of a).count + (elements_of b).count
    → a' ≡ a → b' ≡ b → mid ≡ old + (elements_of a').count → new ≡ mid + (elements_of b').count → new ≡ old + (elements_of e).count
two_counted e e' a b a' b' old mid new is sums ga gb ha hb =
    let here : (elements_of e).count ≡ (elements_of e').count = ap (λ (x : Expr). (elements_of x).count) is in
    let first : (elements_of a').count ≡ (elements_of a).count = ap (λ (x : Expr). (elements_of x).count) ga in
    let second : (elements_of b').count ≡ (elements_of b).count = ap (λ (x : Expr). (elements_of x).count) gb in
    omega (arith, here, sums, first, second, ha, hb)

pub three_counted : (e e' c a b c' a' b' : Expr) (old one two new : ℕ) → e ≡ e' → (elements_of e').count ≡ (elements_of c).count + ((elements_of a).count + (elements_of b).count)
    → c' ≡ c → a' ≡ a → b' ≡ b → one ≡ old + (elements_of c').count → two ≡ one + (elements_of a').count → new ≡ two + (elements_of b').count → new ≡ old + (elements_of e).count
three_counted e e' c a b c' a' b' old one two new is sums gc ga gb hc ha hb =
    let here : (elements_of e).count ≡ (elements_of e').count = ap (λ (x : Expr). (elements_of x).count) is in
    let zeroth : (elements_of c').count ≡ (elements_of c).count = ap (λ (x : Expr). (elements_of x).count) gc in
    let first : (elements_of a').count ≡ (elements_of a).count = ap (λ (x : Expr). (elements_of x).count) ga in
    let second : (elements_of b').count ≡ (elements_of b).count = ap (λ (x : Expr). (elements_of x).count) gb in
    omega (arith, here, sums, zeroth, first, second, hc, ha, hb)

pub none_plus : (n : ℕ) → n ≡ 0 + n
none_plus n = omega arith

plus_none : (n : ℕ) → n + 0 ≡ n
plus_none n = omega arith

plus_assoc : (a b c : ℕ) → a + (b + c) ≡ (a + b) + c
plus_assoc a b c = omega arith

elements_in-append : (xs ys : List Expr) → elements_in (xs ++ ys) ≡ elements_in xs + elements_in ys
elements_in-append [] ys = none_plus (elements_in ys)
elements_in-append (x ∷ xs) ys =
    ap (λ n. (elements_of x).count + n) (elements_in-append xs ys) ∙ plus_assoc (elements_of x).count (elements_in xs) (elements_in ys)

pub counted_next : (es : List Expr) (i : ℕ) (e : Expr) (old now new : ℕ) → e ≡ get_or es i e → i < length es
    → now ≡ old + elements_in (take i es) → new ≡ now + (elements_of e).count → new ≡ old + elements_in (take (i + 1) es)
counted_next es i e old now new at within h k =
    let more : take (i + 1) es ≡ take i es ++ e ∷ [] = take_more es i e within ∙ ap (λ y. take i es ++ y ∷ []) (sym at) in
    let one : elements_in (e ∷ []) ≡ (elements_of e).count = plus_none (elements_of e).count in
    let sums : elements_in (take (i + 1) es) ≡ elements_in (take i es) + elements_in (e ∷ []) = ap elements_in more ∙ elements_in-append (take i es) (e ∷ []) in
    omega (arith, sums, one, h, k)

-- ---- the references in expressions

length-numbers : (n count : ℕ) → length (numbers n count) ≡ count
length-numbers n zero = refl
length-numbers n (suc count) = ap suc (length-numbers (suc n) count)

expr_length : (e : Expr) (g : Where) (n : ℕ) → length ((elements_of e).references g n) ≡ (elements_of e).count
expr_length e g n =
    sym (length-map ((elements_of e).references g n) (λ (r : Reference). r.number)) ∙ ap length (elements_of-in_order e g n) ∙ length-numbers n (elements_of e).count

subs_length : (es : List Expr) (g : Where) (n : ℕ) → length ((subscripts es).references g n) ≡ elements_in es
subs_length [] g n = refl
subs_length (e ∷ es) g n =
    length-append ((elements_of e).references g n) ((subscripts es).references g (n + (elements_of e).count))
    ∙ (λ i. expr_length e g n i + subs_length es g (n + (elements_of e).count) i)

-- ---- statements

abbrev pub refers : Stmt → Referring
refers = stmt_references no_adds

length_one : {X : Type 0} (xs : List X) (x : X) → length (xs ++ x ∷ []) ≡ length xs + 1
length_one xs x = length-append xs (x ∷ [])

pub assign_length : (place a : ℕ) (subs : List Expr) (value : Expr) (g : Where)
    → length (refers (stmt.Assign place a subs value) g 0) ≡ elements_in subs + ((elements_of value).count + 1)
assign_length place a subs value g =
    let values = value_references subs value g in
    ap (λ (r : Referring). length (r g 0)) (fold_stmt-Assign (references_at no_adds) (references_inside no_adds) place a subs value)
    ∙ length-append ((subscripts subs).references g 0) (values ++ target_reference subs Writes a g ∷ [])
    ∙ (λ i. subs_length subs g 0 i + length_one values (target_reference subs Writes a g) i)
    ∙ ap (λ n. elements_in subs + (n + 1)) (expr_length value g (suc (subscripts subs).count))

pub add_length : (place a : ℕ) (subs : List Expr) (value : Expr) (atomic : Bool) (g : Where)
    → length (refers (stmt.AddTo place a subs value atomic) g 0) ≡ elements_in subs + ((elements_of value).count + 2)
add_length place a subs value atomic g =
    let values = value_references subs value g in
    let two : suc ((elements_of value).count + 1) ≡ (elements_of value).count + 2 = omega arith in
    ap (λ (r : Referring). length (r g 0)) (fold_stmt-AddTo (references_at no_adds) (references_inside no_adds) place a subs value atomic)
    ∙ length-append ((subscripts subs).references g 0) (target_reference subs Reads a g ∷ (values ++ target_reference subs Writes a g ∷ []))
    ∙ (λ i. subs_length subs g 0 i + suc (length_one values (target_reference subs Writes a g) i))
    ∙ ap (λ n. elements_in subs + suc (n + 1)) (expr_length value g (suc (subscripts subs).count))
    ∙ ap (λ n. elements_in subs + n) two

pub assign_counted : (s : Stmt) (place a : ℕ) (subs es : List Expr) (value : Expr) (old one two new : ℕ) (g : Where)
    → s ≡ stmt.Assign place a subs value → es ≡ subs → one ≡ old + elements_in es → two ≡ one + (elements_of value).count → new ≡ two + 1
    → new ≡ old + length (refers s g 0)
assign_counted s place a subs es value old one two new g is get h k l =
    let whole : length (refers s g 0) ≡ elements_in subs + ((elements_of value).count + 1) = ap (λ (x : Stmt). length (refers x g 0)) is ∙ assign_length place a subs value g in
    let part : elements_in es ≡ elements_in subs = ap elements_in get in
    omega (arith, whole, part, h, k, l)

pub add_counted : (s : Stmt) (place a : ℕ) (subs es : List Expr) (value : Expr) (atomic : Bool) (old one two new : ℕ) (g : Where)
    → s ≡ stmt.AddTo place a subs value atomic → es ≡ subs → one ≡ old + elements_in es → two ≡ one + (elements_of value).count → new ≡ two + 2
    → new ≡ old + length (refers s g 0)
add_counted s place a subs es value atomic old one two new g is get h k l =
    let whole : length (refers s g 0) ≡ elements_in subs + ((elements_of value).count + 2) = ap (λ (x : Stmt). length (refers x g 0)) is ∙ add_length place a subs value atomic g in
    let part : elements_in es ≡ elements_in subs = ap elements_in get in
    omega (arith, whole, part, h, k, l)

pub init_counted : (s : Stmt) (place x : ℕ) (value : Expr) (old new : ℕ) (g : Where)
    → s ≡ stmt.Declare place x (Some value) → new ≡ old + (elements_of value).count → new ≡ old + length (refers s g 0)
init_counted s place x value old new g is h =
    let whole : length (refers s g 0) ≡ (elements_of value).count =
    ap (λ (z : Stmt). length (refers z g 0)) is ∙ ap (λ (r : Referring). length (r g 0)) (fold_stmt-Declare (references_at no_adds) (references_inside no_adds) place x (Some value))
    ∙ expr_length value g 0 in
    omega (arith, whole, h)

pub no_init_counted : (s : Stmt) (place x : ℕ) (old : ℕ) (g : Where) → s ≡ stmt.Declare place x None → old ≡ old + length (refers s g 0)
no_init_counted s place x old g is =
    let whole : length (refers s g 0) ≡ 0 =
    ap (λ (z : Stmt). length (refers z g 0)) is ∙ ap (λ (r : Referring). length (r g 0)) (fold_stmt-Declare (references_at no_adds) (references_inside no_adds) place x None) in
    omega (arith, whole)

pub set_counted : (s : Stmt) (place x : ℕ) (value : Expr) (old new : ℕ) (g : Where)
    → s ≡ stmt.SetLocal place x value → new ≡ old + (elements_of value).count → new ≡ old + length (refers s g 0)
set_counted s place x value old new g is h =
    let whole : length (refers s g 0) ≡ (elements_of value).count =
    ap (λ (z : Stmt). length (refers z g 0)) is ∙ ap (λ (r : Referring). length (r g 0)) (fold_stmt-SetLocal (references_at no_adds) (references_inside no_adds) place x value)
    ∙ expr_length value g 0 in
    omega (arith, whole, h)

-- ---- lists and scopes

pub kept_if : (place : ℕ) (test : Expr) (body otherwise : List Stmt) (n : Nesting) → (made (stmt.If place test body otherwise)).keeps n ≡ true
    → (list_keeps (map made body) n ≡ true) × (list_keeps (map made otherwise) n ≡ true)
kept_if place test body otherwise n h = and_parts _ _ (sym (ap (λ (m : Made). m.keeps n) (fold_stmt-If made_at made_loop place test body otherwise)) ∙ h)

pub kept_block : (body : List Stmt) (n : Nesting) → (made (stmt.Block body)).keeps n ≡ true → list_keeps (map made body) n ≡ true
kept_block body n h = sym (ap (λ (m : Made). m.keeps n) (fold_stmt-Block made_at made_loop body)) ∙ h

pub kept_for : (l : Loop) (n : Nesting) → (made (stmt.For l)).keeps n ≡ true → (head_made l).keeps n ≡ true
kept_for l n h = sym (ap (λ (m : Made). m.keeps n) (fold_stmt-For made_at made_loop l)) ∙ h

all_made : (xs ys : List Made) (n : Nesting) → list_keeps (xs ++ ys) n ≡ true → (list_keeps xs n ≡ true) × (list_keeps ys n ≡ true)
all_made [] ys n h = (refl, h)
all_made (x ∷ xs) ys n h =
    let parts = and_parts (x.keeps n) _ h in
    let rest = all_made xs ys n parts.1 in
    ((λ i. parts.0 i && rest.0 i), rest.1)

-- of the first statements, and of one more
pub kept_next : (all : List Stmt) (i : ℕ) (x : Stmt) (n : Nesting) → x ≡ get_or all i x → i < length all → list_keeps (map made (take (i + 1) all)) n ≡ true
    → (list_keeps (map made (take i all)) n ≡ true) × ((made x).keeps n ≡ true)
kept_next all i x n at within h =
    let more : take (i + 1) all ≡ take i all ++ x ∷ [] = take_more all i x within ∙ ap (λ y. take i all ++ y ∷ []) (sym at) in
    let parts = all_made (map made (take i all)) (made x ∷ []) n (sym (ap (λ xs. list_keeps xs n) (ap (map made) more ∙ map-append made (take i all) (x ∷ []))) ∙ h) in
    (parts.0, (and_parts ((made x).keeps n) true parts.1).0)

list_references-snoc : (rs : List Referring) (r : Referring) (g : Where) (k : ℕ) → list_references (rs ++ r ∷ []) g k 0 ≡ list_references rs g k 0 ++ (r (placed g (k + length rs)) 0 ++ [])
list_references-snoc [] r g k = let same : k ≡ k + 0 = omega arith in ap (λ n. r (placed g n) 0 ++ []) same
list_references-snoc (q ∷ rs) r g k =
    let same : suc k + length rs ≡ k + suc (length rs) = omega arith in
    ap (λ l. q (placed g k) 0 ++ l) (list_references-snoc rs r g (suc k) ∙ ap (λ n. list_references rs g (suc k) 0 ++ (r (placed g n) 0 ++ [])) same)
    ∙ sym (assoc (q (placed g k) 0) (list_references rs g (suc k) 0) (r (placed g (k + suc (length rs))) 0 ++ []))
  where
    assoc : {X : Type 0} (xs ys zs : List X) → (xs ++ ys) ++ zs ≡ xs ++ (ys ++ zs)
    assoc [] ys zs = refl
    assoc (x ∷ xs) ys zs = ap (λ l. x ∷ l) (assoc xs ys zs)

-- how many statements before the last of so many
abbrev pub before : (all : List Stmt) (i : ℕ) → ℕ
before all i = length (map refers (take i all))

pub listed_next : (all : List Stmt) (i : ℕ) (x : Stmt) (old now new : ℕ) (g : Where) (k : ℕ) → x ≡ get_or all i x → i < length all
    → now ≡ old + length (list_references (map refers (take i all)) g k 0)
    → new ≡ now + length (refers x (placed g (k + before all i)) 0)
    → new ≡ old + length (list_references (map refers (take (i + 1) all)) g k 0)
listed_next all i x old now new g k at within h e =
    let more : take (i + 1) all ≡ take i all ++ x ∷ [] = take_more all i x within ∙ ap (λ y. take i all ++ y ∷ []) (sym at) in
    let first = list_references (map refers (take i all)) g k 0 in
    let last = refers x (placed g (k + before all i)) 0 in
    let whole : length (list_references (map refers (take (i + 1) all)) g k 0) ≡ length first + length last =
    ap (λ rs. length (list_references rs g k 0)) (ap (map refers) more ∙ map-append refers (take i all) (x ∷ []))
    ∙ ap length (list_references-snoc (map refers (take i all)) (refers x) g k)
    ∙ length-append first (last ++ []) ∙ ap (λ n. length first + n) (length-append last [] ∙ plus_none (length last)) in
    omega (arith, whole, h, e)

pub placed_reached : (path : List Range) (n : Nesting) (g : Where) (k : ℕ) → Reached path n g → Reached path n (placed g k)
placed_reached path n g k h = record { around = h.around; ranges = h.ranges; level = h.level }

pub perhaps_reached : (path : List Range) (n : Nesting) (g : Where) → Reached path n g → Reached path n (perhaps g)
perhaps_reached path n g h = record { around = h.around; ranges = h.ranges; level = h.level }

pub if_counted : (s : Stmt) (place : ℕ) (test : Expr) (body otherwise : List Stmt) (old one two new : ℕ) (g : Where)
    → s ≡ stmt.If place test body otherwise → one ≡ old + (elements_of test).count
    → two ≡ one + length (list_references (map refers body) (perhaps g) 0 0)
    → new ≡ two + length (list_references (map refers otherwise) (perhaps g) (length (map refers body)) 0)
    → new ≡ old + length (refers s g 0)
if_counted s place test body otherwise old one two new g is h k l =
    let tested = (elements_of test).references g 0 in
    let first = list_references (map refers body) (perhaps g) 0 0 in
    let second = list_references (map refers otherwise) (perhaps g) (length (map refers body)) 0 in
    let whole : length (refers s g 0) ≡ (elements_of test).count + (length first + length second) =
    ap (λ (z : Stmt). length (refers z g 0)) is ∙ ap (λ (r : Referring). length (r g 0)) (fold_stmt-If (references_at no_adds) (references_inside no_adds) place test body otherwise)
    ∙ length-append tested (first ++ second) ∙ (λ i. expr_length test g 0 i + length-append first second i) in
    omega (arith, whole, h, k, l)

pub block_counted : (s : Stmt) (body : List Stmt) (old new : ℕ) (g : Where) → s ≡ stmt.Block body
    → new ≡ old + length (list_references (map refers body) g 0 0) → new ≡ old + length (refers s g 0)
block_counted s body old new g is h =
    h ∙ ap (λ n. old + n) (sym (ap (λ (z : Stmt). length (refers z g 0)) is ∙ ap (λ (r : Referring). length (r g 0)) (fold_stmt-Block (references_at no_adds) (references_inside no_adds) body)))

pub for_counted : (s : Stmt) (l : Loop) (old new : ℕ) (g : Where) → s ≡ stmt.For l
    → new ≡ old + length (loop_references no_adds l g 0) → new ≡ old + length (refers s g 0)
for_counted s l old new g is h =
    h ∙ ap (λ n. old + n) (sym (ap (λ (z : Stmt). length (refers z g 0)) is ∙ ap (λ (r : Referring). length (r g 0)) (fold_stmt-For (references_at no_adds) (references_inside no_adds) l)))

-- ---- loops

-- what a loop that keeps the limits says of itself and of what is in it
pub record Kept (l : Loop-F Stmt Loop) (n : Nesting) : Type 0 where
  pub shallow : is_too_deep n.level ≡ false
  pub hull : passes_hull n.path l ≡ false
  pub inside : list_keeps (map made l.body) (entered l n) ≡ true

not_true : (b : Bool) → not b ≡ true → b ≡ false
not_true false h = refl
not_true true h = absurd cc

pub kept_loop : (head : Loop) (n : Nesting) → (head_made head).keeps n ≡ true → Kept (out-Loop head) n
kept_loop head n h =
    let l = out-Loop head in
    let front = front_with l.start l.limit (fronts_of (map made l.body)) in
    let whole : (head_keeps front l n && list_keeps (map made l.body) (entered l n)) ≡ true =
    sym (ap (λ (m : Made). m.keeps n) (fold_loop-out made_at made_loop head)) ∙ h in
    let parts = and_parts (head_keeps front l n) _ whole in
    let deep = and_parts (not (is_too_deep n.level)) _ parts.0 in
    let far = and_parts (not (is_too_far l.step)) _ deep.1 in
    let hull = and_parts (not (passes_hull n.path l)) _ far.1 in
    record { shallow = not_true _ deep.0; hull = not_true _ hull.0; inside = parts.1 }

few : (level : ℕ) → is_too_deep level ≡ false → level < 16
few level h = let small : level < 8 = grind (arith, nat_tests, h) in omega (arith, small)

-- the ranges inside of it
pub reached_inside : (head : Loop) (path next : List Range) (n : Nesting) (g : Where) → Reached path n g → Kept (out-Loop head) n
    → (passes_hull path (out-Loop head) ≡ false → length path < 16 → next ≡ path ++ range_of path (out-Loop head) ∷ [])
    → Reached next (entered (out-Loop head) n) (in_turn g (out-Loop head))
reached_inside head path next n g h k opened =
    let l = out-Loop head in
    let short : length path < 16 = subst (λ m. m < 16) h.level (few n.level k.shallow) in
    let next_is : next ≡ path ++ range_of path l ∷ [] = opened (ap (λ p. passes_hull p l) (sym h.around) ∙ k.hull) short in
    let longer : length (path ++ range_of path l ∷ []) ≡ length path + 1 = length_one path (range_of path l) in
    let longer_next : length next ≡ length path + 1 = ap length next_is ∙ longer in
    let level : n.level ≡ length path = h.level in
    let one_more : suc n.level ≡ length next = omega (arith, level, longer_next) in
    record {
      around = ap (λ p. p ++ range_of p l ∷ []) h.around ∙ sym next_is;
      ranges = ap (λ p. p ++ range_of p l ∷ []) h.ranges ∙ sym next_is;
      level = one_more;
    }

-- what stands in an inner loop
pub inner_references : (head : Loop) (g : Where) → loop_references no_adds head g 0
    ≡ unless_empty 0 (in_turn g (out-Loop head)).path (list_references (map refers (out-Loop head).body) (in_turn g (out-Loop head)) 0 0)
inner_references head g = ap (λ (r : Referring). r g 0) (fold_loop-out (references_at no_adds) (references_inside no_adds) head)

pub loop_counted : (head : Loop) (path : List Range) (old new : ℕ) (g : Where) (n : Nesting) → Reached path n (in_turn g (out-Loop head))
    → new ≡ old + length (unless_empty 0 path (list_references (map refers (out-Loop head).body) (in_turn g (out-Loop head)) 0 0))
    → new ≡ old + length (loop_references no_adds head g 0)
loop_counted head path old new g n h k =
    k ∙ ap (λ p. old + length (unless_empty 0 p (list_references (map refers (out-Loop head).body) (in_turn g (out-Loop head)) 0 0))) (sym h.ranges)
    ∙ ap (λ rs. old + length rs) (sym (inner_references head g))

-- where the hull of a loop is empty, and where it is not
pub unless_counted : (empty : Bool) (path : List Range) (rs : List Reference) (old new : ℕ) → empty ≡ has_empty path
    → (empty ≡ true → new ≡ old) → (empty ≡ false → new ≡ old + length rs) → new ≡ old + length (unless_empty 0 path rs)
unless_counted true path rs old new h e f =
    let none : length (unless_empty 0 path rs) ≡ 0 = ap (λ b. length (if b then [] else rs)) (sym h) in
    let here = e refl in
    omega (arith, none, here)
unless_counted false path rs old new h e f = f refl ∙ ap (λ b. old + length (if b then [] else rs)) h

-- what an outermost loop has
abbrev pub nowhere : Where
nowhere = record { statement = []; path = []; conditional = false }

pub outermost_count : (head : Loop) → reference_count head ≡ length (list_references (map refers (out-Loop head).body) (in_turn nowhere (out-Loop head)) 0 0)
outermost_count head = ap (λ (r : Referring). length (r nowhere 1)) (fold_loop-out (references_at no_adds) (references_inside no_adds) head)

pub outermost_reached : Reached [] no_loops nowhere
outermost_reached = record { around = refl; ranges = refl; level = refl }
