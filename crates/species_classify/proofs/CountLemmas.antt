-- How many references expressions, statements and nests have at most.
use Rattle.std.proofs.Common.{◌≡◌, ◌∙◌, refl, sym, ap, arith, ℕ, zero, suc, ◌+◌, ◌-◌, ◌<◌, ◌≤◌, ◌^◌, List, [], ◌∷◌, ◌++◌, map, take, length, get_or, Bool, true, false, if◌then◌else◌, Option, Some, None, length-append}
use Rattle.std.proofs.lemmas.List.{length-map, take_more}
use Rattle.species_ast.specs.declared.tree.Binary.{Binary}
use Rattle.species_ast.specs.declared.tree.Expr.{Expr}
use Rattle.species_ast.specs.declared.tree.Expr.TheVariants as expr
use Rattle.species_ast.specs.declared.tree.Kind.{Kind}
use Rattle.species_ast.specs.declared.tree.Loop.{Loop, out-Loop, roll-Loop}
use Rattle.species_ast.specs.declared.tree.Stmt.{Stmt}
use Rattle.species_ast.specs.declared.tree.Stmt.TheVariants as stmt
use Rattle.species_ast.specs.declared.tree.Unary.{Unary}
use Rattle.species_ast.specs.declared.tree.Value.{Value}
use Rattle.species_ast.specs.Accesses.{Writes, Adds}
use Rattle.species_ast.specs.Scope.Hulls.{Range, has_empty}
use Rattle.species_ast.specs.Scope.References.{Where, Reference, perhaps, placed, in_turn, Elements, elements_at, elements_of, subscripts, value_references, target_reference, addition_references, init_references, Adding, Referring, list_references, references_at, references_inside, stmt_references, references_of, unless_empty}
use Rattle.species_ast.proofs.Folds.{fold_stmt-Assign, fold_stmt-AddTo, fold_stmt-Declare, fold_stmt-SetLocal, fold_stmt-If, fold_stmt-For, fold_stmt-Block, fold_loop, fold_loop-out}
use Rattle.species_ast.proofs.Induction.{Each, stmt_ind}
use Rattle.species_ast.proofs.Paras.{para_expr-Literal, para_expr-Iter, para_expr-Local, para_expr-Unary, para_expr-Binary, para_expr-And, para_expr-Or, para_expr-Cond, para_expr-Cast}
use Rattle.species_ast.proofs.ReferenceLaws.{numbers, elements_of-Elem, elements_of-in_order}
use Rattle.species_classify.specs.Counts.{elements_in, elements_in_init, most_at, most_inside, most_in, most_in_list, most_in_loop}

-- ---- expressions

pub count-Elem : (a : ℕ) (subs : List Expr) → (elements_of (expr.Elem a subs)).count ≡ elements_in subs + 1
count-Elem a subs = let one : suc (elements_in subs) ≡ elements_in subs + 1 = omega arith in ap (λ (e : Elements). e.count) (elements_of-Elem a subs) ∙ one

pub count-Literal : (v : Value) → (elements_of (expr.Literal v)).count ≡ 0
count-Literal v = ap (λ (e : Elements). e.count) (para_expr-Literal elements_at v)

pub count-Iter : (level : ℕ) → (elements_of (expr.Iter level)).count ≡ 0
count-Iter level = ap (λ (e : Elements). e.count) (para_expr-Iter elements_at level)

pub count-Local : (n : ℕ) → (elements_of (expr.Local n)).count ≡ 0
count-Local n = ap (λ (e : Elements). e.count) (para_expr-Local elements_at n)

pub count-Unary : (op : Unary) (a : Expr) → (elements_of (expr.Unary op a)).count ≡ (elements_of a).count
count-Unary op a = ap (λ (e : Elements). e.count) (para_expr-Unary elements_at op a)

pub count-Cast : (k : Kind) (a : Expr) → (elements_of (expr.Cast k a)).count ≡ (elements_of a).count
count-Cast k a = ap (λ (e : Elements). e.count) (para_expr-Cast elements_at k a)

pub count-Binary : (op : Binary) (a b : Expr) → (elements_of (expr.Binary op a b)).count ≡ (elements_of a).count + (elements_of b).count
count-Binary op a b = ap (λ (e : Elements). e.count) (para_expr-Binary elements_at op a b)

pub count-And : (a b : Expr) → (elements_of (expr.And a b)).count ≡ (elements_of a).count + (elements_of b).count
count-And a b = ap (λ (e : Elements). e.count) (para_expr-And elements_at a b)

pub count-Or : (a b : Expr) → (elements_of (expr.Or a b)).count ≡ (elements_of a).count + (elements_of b).count
count-Or a b = ap (λ (e : Elements). e.count) (para_expr-Or elements_at a b)

pub count-Cond : (c a b : Expr) → (elements_of (expr.Cond c a b)).count ≡ (elements_of c).count + ((elements_of a).count + (elements_of b).count)
count-Cond c a b = ap (λ (e : Elements). e.count) (para_expr-Cond elements_at c a b)

-- of an expression that is known
pub none_counted : (e e' : Expr) (old : ℕ) → e ≡ e' → (elements_of e').count ≡ 0 → old ≡ old + (elements_of e).count
none_counted e e' old is zero_is = let here : (elements_of e).count ≡ (elements_of e').count = ap (λ (x : Expr). (elements_of x).count) is in omega (arith, here, zero_is)

pub one_counted : (e e' a b : Expr) (old new : ℕ) → e ≡ e' → (elements_of e').count ≡ (elements_of a).count → b ≡ a
    → new ≡ old + (elements_of b).count → new ≡ old + (elements_of e).count
one_counted e e' a b old new is same get h =
    let here : (elements_of e).count ≡ (elements_of e').count = ap (λ (x : Expr). (elements_of x).count) is in
    let part : (elements_of b).count ≡ (elements_of a).count = ap (λ (x : Expr). (elements_of x).count) get in
    omega (arith, here, same, part, h)

pub elem_counted : (e : Expr) (a : ℕ) (subs es : List Expr) (old mid new : ℕ) → e ≡ expr.Elem a subs → es ≡ subs
    → mid ≡ old + elements_in es → new ≡ mid + 1 → new ≡ old + (elements_of e).count
elem_counted e a subs es old mid new is get h k =
    let whole : (elements_of e).count ≡ elements_in subs + 1 = ap (λ (x : Expr). (elements_of x).count) is ∙ count-Elem a subs in
    let part : elements_in es ≡ elements_in subs = ap elements_in get in
    omega (arith, whole, part, h, k)

pub two_counted : (e e' a b a' b' : Expr) (old mid new : ℕ) → e ≡ e' → (elements_of e').count ≡ (elements_of a).count + (elements_of b).count
    → a' ≡ a → b' ≡ b → mid ≡ old + (elements_of a').count → new ≡ mid + (elements_of b').count → new ≡ old + (elements_of e).count
two_counted e e' a b a' b' old mid new is sums ga gb ha hb =
    let here : (elements_of e).count ≡ (elements_of e').count = ap (λ (x : Expr). (elements_of x).count) is in
    let first : (elements_of a').count ≡ (elements_of a).count = ap (λ (x : Expr). (elements_of x).count) ga in
    let second : (elements_of b').count ≡ (elements_of b).count = ap (λ (x : Expr). (elements_of x).count) gb in
    omega (arith, here, sums, first, second, ha, hb)

pub three_counted : (e e' c a b c' a' b' : Expr) (old one two new : ℕ) → e ≡ e' → (elements_of e').count ≡ (elements_of c).count + ((elements_of a).count + (elements_of b).count)
    → c' ≡ c → a' ≡ a → b' ≡ b → one ≡ old + (elements_of c').count → two ≡ one + (elements_of a').count → new ≡ two + (elements_of b').count → new ≡ old + (elements_of e).count
three_counted e e' c a b c' a' b' old one two new is sums gc ga gb hc ha hb =
    let here : (elements_of e).count ≡ (elements_of e').count = ap (λ (x : Expr). (elements_of x).count) is in
    let zeroth : (elements_of c').count ≡ (elements_of c).count = ap (λ (x : Expr). (elements_of x).count) gc in
    let first : (elements_of a').count ≡ (elements_of a).count = ap (λ (x : Expr). (elements_of x).count) ga in
    let second : (elements_of b').count ≡ (elements_of b).count = ap (λ (x : Expr). (elements_of x).count) gb in
    omega (arith, here, sums, zeroth, first, second, hc, ha, hb)

none_plus : (n : ℕ) → n ≡ 0 + n
none_plus n = omega arith

plus_none : (n : ℕ) → n + 0 ≡ n
plus_none n = omega arith

plus_assoc : (a b c : ℕ) → a + (b + c) ≡ (a + b) + c
plus_assoc a b c = omega arith

elements_in-append : (xs ys : List Expr) → elements_in (xs ++ ys) ≡ elements_in xs + elements_in ys
elements_in-append [] ys = none_plus (elements_in ys)
elements_in-append (x ∷ xs) ys =
    ap (λ n. (elements_of x).count + n) (elements_in-append xs ys) ∙ plus_assoc (elements_of x).count (elements_in xs) (elements_in ys)

pub counted_next : (es : List Expr) (i : ℕ) (e : Expr) (old now new : ℕ) → e ≡ get_or es i e → i < length es
    → now ≡ old + elements_in (take i es) → new ≡ now + (elements_of e).count → new ≡ old + elements_in (take (i + 1) es)
counted_next es i e old now new at within h k =
    let more : take (i + 1) es ≡ take i es ++ e ∷ [] = take_more es i e within ∙ ap (λ y. take i es ++ y ∷ []) (sym at) in
    let one : elements_in (e ∷ []) ≡ (elements_of e).count = plus_none (elements_of e).count in
    let sums : elements_in (take (i + 1) es) ≡ elements_in (take i es) + elements_in (e ∷ []) = ap elements_in more ∙ elements_in-append (take i es) (e ∷ []) in
    omega (arith, sums, one, h, k)

-- ---- the references in expressions

length-numbers : (n count : ℕ) → length (numbers n count) ≡ count
length-numbers n zero = refl
length-numbers n (suc count) = ap suc (length-numbers (suc n) count)

expr_length : (e : Expr) (g : Where) (n : ℕ) → length ((elements_of e).references g n) ≡ (elements_of e).count
expr_length e g n =
    sym (length-map ((elements_of e).references g n) (λ (r : Reference). r.number)) ∙ ap length (elements_of-in_order e g n) ∙ length-numbers n (elements_of e).count

subs_length : (es : List Expr) (g : Where) (n : ℕ) → length ((subscripts es).references g n) ≡ elements_in es
subs_length [] g n = refl
subs_length (e ∷ es) g n =
    length-append ((elements_of e).references g n) ((subscripts es).references g (n + (elements_of e).count))
    ∙ (λ i. expr_length e g n i + subs_length es g (n + (elements_of e).count) i)

-- ---- statements that are counted

pub assign_counted : (s : Stmt) (place a : ℕ) (subs es : List Expr) (value : Expr) (old one two new : ℕ) → s ≡ stmt.Assign place a subs value → es ≡ subs
    → one ≡ old + elements_in es → two ≡ one + (elements_of value).count → new ≡ two + 1 → new ≡ old + most_in s
assign_counted s place a subs es value old one two new is get h k l =
    let whole : most_in s ≡ elements_in subs + ((elements_of value).count + 1) = ap most_in is ∙ fold_stmt-Assign most_at most_inside place a subs value in
    let part : elements_in es ≡ elements_in subs = ap elements_in get in
    omega (arith, whole, part, h, k, l)

pub add_counted : (s : Stmt) (place a : ℕ) (subs es : List Expr) (value : Expr) (atomic : Bool) (old one two new : ℕ) → s ≡ stmt.AddTo place a subs value atomic → es ≡ subs
    → one ≡ old + elements_in es → two ≡ one + (elements_of value).count → new ≡ two + 2 → new ≡ old + most_in s
add_counted s place a subs es value atomic old one two new is get h k l =
    let whole : most_in s ≡ elements_in subs + ((elements_of value).count + 2) = ap most_in is ∙ fold_stmt-AddTo most_at most_inside place a subs value atomic in
    let part : elements_in es ≡ elements_in subs = ap elements_in get in
    omega (arith, whole, part, h, k, l)

pub init_counted : (s : Stmt) (place x : ℕ) (value : Expr) (old new : ℕ) → s ≡ stmt.Declare place x (Some value) → new ≡ old + (elements_of value).count → new ≡ old + most_in s
init_counted s place x value old new is h =
    let whole : most_in s ≡ (elements_of value).count = ap most_in is ∙ fold_stmt-Declare most_at most_inside place x (Some value) in
    omega (arith, whole, h)

pub no_init_counted : (s : Stmt) (place x : ℕ) (old : ℕ) → s ≡ stmt.Declare place x None → old ≡ old + most_in s
no_init_counted s place x old is =
    let whole : most_in s ≡ 0 = ap most_in is ∙ fold_stmt-Declare most_at most_inside place x None in
    omega (arith, whole)

pub set_counted : (s : Stmt) (place x : ℕ) (value : Expr) (old new : ℕ) → s ≡ stmt.SetLocal place x value → new ≡ old + (elements_of value).count → new ≡ old + most_in s
set_counted s place x value old new is h =
    let whole : most_in s ≡ (elements_of value).count = ap most_in is ∙ fold_stmt-SetLocal most_at most_inside place x value in
    omega (arith, whole, h)

pub if_counted : (s : Stmt) (place : ℕ) (test : Expr) (body otherwise bs os : List Stmt) (old one two new : ℕ) → s ≡ stmt.If place test body otherwise → bs ≡ body → os ≡ otherwise
    → one ≡ old + (elements_of test).count → two ≡ one + most_in_list bs → new ≡ two + most_in_list os → new ≡ old + most_in s
if_counted s place test body otherwise bs os old one two new is get get_other h k l =
    let whole : most_in s ≡ (elements_of test).count + (most_in_list body + most_in_list otherwise) = ap most_in is ∙ fold_stmt-If most_at most_inside place test body otherwise in
    let first : most_in_list bs ≡ most_in_list body = ap most_in_list get in
    let second : most_in_list os ≡ most_in_list otherwise = ap most_in_list get_other in
    omega (arith, whole, first, second, h, k, l)

pub loop_counted : (head : Loop) (bs : List Stmt) (old new : ℕ) → bs ≡ (out-Loop head).body → new ≡ old + most_in_list bs → new ≡ old + most_in_loop head
loop_counted head bs old new get h =
    let whole : most_in_loop head ≡ most_in_list (out-Loop head).body = fold_loop-out most_at most_inside head in
    let part : most_in_list bs ≡ most_in_list (out-Loop head).body = ap most_in_list get in
    omega (arith, whole, part, h)

pub for_counted : (s : Stmt) (head : Loop) (bs : List Stmt) (old new : ℕ) → s ≡ stmt.For head → bs ≡ (out-Loop head).body → new ≡ old + most_in_list bs → new ≡ old + most_in s
for_counted s head bs old new is get h =
    let whole : most_in s ≡ most_in_loop head = ap most_in is ∙ fold_stmt-For most_at most_inside head in
    omega (arith, whole, loop_counted head bs old new get h)

pub block_counted : (s : Stmt) (body bs : List Stmt) (old new : ℕ) → s ≡ stmt.Block body → bs ≡ body → new ≡ old + most_in_list bs → new ≡ old + most_in s
block_counted s body bs old new is get h =
    let whole : most_in s ≡ most_in_list body = ap most_in is ∙ fold_stmt-Block most_at most_inside body in
    let part : most_in_list bs ≡ most_in_list body = ap most_in_list get in
    omega (arith, whole, part, h)

most_in-append : (xs ys : List Stmt) → most_in_list (xs ++ ys) ≡ most_in_list xs + most_in_list ys
most_in-append [] ys = none_plus (most_in_list ys)
most_in-append (x ∷ xs) ys = ap (λ n. most_in x + n) (most_in-append xs ys) ∙ plus_assoc (most_in x) (most_in_list xs) (most_in_list ys)

pub most_next : (all : List Stmt) (i : ℕ) (s : Stmt) (old now new : ℕ) → s ≡ get_or all i s → i < length all → now ≡ old + most_in_list (take i all) → new ≡ now + most_in s
    → new ≡ old + most_in_list (take (i + 1) all)
most_next all i s old now new at within h k =
    let more : take (i + 1) all ≡ take i all ++ s ∷ [] = take_more all i s within ∙ ap (λ y. take i all ++ y ∷ []) (sym at) in
    let one : most_in_list (s ∷ []) ≡ most_in s = plus_none (most_in s) in
    let sums : most_in_list (take (i + 1) all) ≡ most_in_list (take i all) + most_in_list (s ∷ []) = ap most_in_list more ∙ most_in-append (take i all) (s ∷ []) in
    omega (arith, sums, one, h, k)

-- ---- as many references at most

abbrev HasAtMost : Adding → Stmt → Type 0
HasAtMost adds x = (g : Where) (band : ℕ) → length (stmt_references adds x g band) ≤ most_in x

from_both : (adds : Adding) (x : Stmt) (k : Referring) (m : ℕ) → stmt_references adds x ≡ k → most_in x ≡ m → ((g : Where) (band : ℕ) → length (k g band) ≤ m) → HasAtMost adds x
from_both adds x k m p q h g band =
    let same : length (stmt_references adds x g band) ≡ length (k g band) = ap (λ (z : Referring). length (z g band)) p in
    omega (arith, same, q, h g band)

list_at_most : (adds : Adding) (xs : List Stmt) → Each (HasAtMost adds) xs → (g : Where) (k band : ℕ) → length (list_references (map (stmt_references adds) xs) g k band) ≤ most_in_list xs
list_at_most adds [] h g k band = omega arith
list_at_most adds (x ∷ xs) h g k band =
    let rest = list_references (map (stmt_references adds) xs) g (suc k) band in
    omega (arith, length-append (stmt_references adds x (placed g k) band) rest, h.0 (placed g k) band, list_at_most adds xs h.1 g (suc k) band)

length_one : {X : Type 0} (xs : List X) (x : X) → length (xs ++ x ∷ []) ≡ length xs + 1
length_one xs x = length-append xs (x ∷ [])

addition_at_most : (t : Bool) (a : ℕ) (subs : List Expr) (value : Expr) (g : Where) → length (addition_references t a subs value g) ≤ (elements_of value).count + 2
addition_at_most true a subs value g =
    let values = value_references subs value g in
    omega (arith, length_one values (target_reference subs Adds a g), expr_length value g (suc (subscripts subs).count))
addition_at_most false a subs value g =
    let values = value_references subs value g in
    omega (arith, length_one values (target_reference subs Writes a g), expr_length value g (suc (subscripts subs).count))

init_at_most : (init : Option Expr) (g : Where) → length (init_references init g) ≤ elements_in_init init
init_at_most None g = omega arith
init_at_most (Some e) g = omega (arith, expr_length e g 0)

unless_at_most : (band : ℕ) (path : List Range) (rs : List Reference) → length (unless_empty band path rs) ≤ length rs
unless_at_most zero path rs = go (has_empty path)
  where
    go : (t : Bool) → length (if t then [] else rs) ≤ length rs
    go true = omega arith
    go false = omega arith
unless_at_most (suc band) path rs = omega arith

has_at_most : (adds : Adding) (x : Stmt) → HasAtMost adds x
has_at_most adds = stmt_ind (HasAtMost adds) (record {
  assign = λ place a subs value. from_both adds _ _ _ (fold_stmt-Assign (references_at adds) (references_inside adds) place a subs value) (fold_stmt-Assign most_at most_inside place a subs value) (λ g band.
      let values = value_references subs value g in
      omega (arith, length-append ((subscripts subs).references g 0) (values ++ target_reference subs Writes a g ∷ []), length_one values (target_reference subs Writes a g), subs_length subs g 0, expr_length value g (suc (subscripts subs).count)));
  add_to = λ place a subs value atomic. from_both adds _ _ _ (fold_stmt-AddTo (references_at adds) (references_inside adds) place a subs value atomic) (fold_stmt-AddTo most_at most_inside place a subs value atomic) (λ g band.
      let added = addition_references (adds a atomic) a subs value g in
      omega (arith, length-append ((subscripts subs).references g 0) added, subs_length subs g 0, addition_at_most (adds a atomic) a subs value g));
  declare = λ place x init. from_both adds _ _ _ (fold_stmt-Declare (references_at adds) (references_inside adds) place x init) (fold_stmt-Declare most_at most_inside place x init) (λ g band. init_at_most init g);
  set_local = λ place x value. from_both adds _ _ _ (fold_stmt-SetLocal (references_at adds) (references_inside adds) place x value) (fold_stmt-SetLocal most_at most_inside place x value) (λ g band.
      omega (arith, expr_length value g 0));
  choice = λ place test body otherwise p q. from_both adds _ _ _ (fold_stmt-If (references_at adds) (references_inside adds) place test body otherwise) (fold_stmt-If most_at most_inside place test body otherwise) (λ g band.
      let first = list_references (map (stmt_references adds) body) (perhaps g) 0 band in
      let second = list_references (map (stmt_references adds) otherwise) (perhaps g) (length (map (stmt_references adds) body)) band in
      omega (
        arith,
        length-append ((elements_of test).references g 0) (first ++ second),
        length-append first second,
        expr_length test g 0,
        list_at_most adds body p (perhaps g) 0 band,
        list_at_most adds otherwise q (perhaps g) (length (map (stmt_references adds) body)) band,
      ));
  loop = λ l p. from_both adds _ _ _ (fold_stmt-For (references_at adds) (references_inside adds) (roll-Loop l) ∙ fold_loop (references_at adds) (references_inside adds) l)
      (fold_stmt-For most_at most_inside (roll-Loop l) ∙ fold_loop most_at most_inside l) (λ g band.
      let inside = list_references (map (stmt_references adds) l.body) (in_turn g l) 0 (band - 1) in
      omega (arith, unless_at_most band (in_turn g l).path inside, list_at_most adds l.body p (in_turn g l) 0 (band - 1)));
  block = λ body p. from_both adds _ _ _ (fold_stmt-Block (references_at adds) (references_inside adds) body) (fold_stmt-Block most_at most_inside body) (λ g band. list_at_most adds body p g 0 band);
})

-- a nest has as many references at most, wherever it stands and whatever its band is
pub nest_at_most : (adds : Adding) (head : Loop) (at : List ℕ) (path : List Range) (depth : ℕ) → length (references_of adds head at path depth) ≤ most_in_loop head
nest_at_most adds head at path depth =
    let g : Where = record { statement = at; path = path; conditional = false } in
    let found : length (stmt_references adds (stmt.For head) g depth) ≡ length (references_of adds head at path depth) = ap (λ (z : Referring). length (z g depth)) (fold_stmt-For (references_at adds) (references_inside adds) head) in
    let most : most_in (stmt.For head) ≡ most_in_loop head = fold_stmt-For most_at most_inside head in
    omega (arith, found, most, has_at_most adds (stmt.For head) g depth)

pub nest_few : (adds : Adding) (head : Loop) (at : List ℕ) (path : List Range) (depth : ℕ) → most_in_loop head < 2 ^ 32 → length (references_of adds head at path depth) < 2 ^ 32
nest_few adds head at path depth few = omega (arith, few, nest_at_most adds head at path depth)
