-- Each reference of a nest to an array that the nest only adds to is an add, where `+=` on it counts as one.
use Rattle.std.proofs.Common.{◌≡◌, ◌≢◌, refl, ap, sym, ◌∙◌, subst, arith, ℕ, zero, suc, ◌+◌, ◌-◌, Bool, true, false, ◌&&◌, not, nat_eq, if◌then◌else◌, List, [], ◌∷◌, ◌++◌, map, flat_map, Option, Some, None}
use Rattle.std.specs.List.{Contains, list_any}
use Rattle.std.proofs.lemmas.Bool.{and_parts, or_parts}
use Rattle.std.proofs.lemmas.Bool.Decides.{nat_tests}
use Rattle.std.proofs.lemmas.List.Folds.{list_any-append}
use Rattle.species_ast.specs.Accesses.{Access, Element, Reads, Writes, Adds}
use Rattle.species_ast.specs.Operators.{is_signed}
use Rattle.species_ast.specs.declared.tree.Array.{Array}
use Rattle.species_ast.specs.declared.tree.Expr.{Expr}
use Rattle.species_ast.specs.declared.tree.Loop.{Loop, out-Loop, roll-Loop}
use Rattle.species_ast.specs.declared.tree.Stmt.{Stmt}
use Rattle.species_ast.specs.declared.tree.Stmt.TheVariants as stmt
use Rattle.species_ast.specs.declared.tree.Stmt.TheOpen.{Loop-F}
use Rattle.species_ast.specs.Scope.Forms.{form_of}
use Rattle.species_ast.specs.Scope.Hulls.{Range, has_empty}
use Rattle.species_ast.specs.Scope.References.{Where, Reference, reference, perhaps, placed, in_turn, Elements, then_elements, on_condition, all_elements, elements_at, elements_of, subscripts, target_reference, value_references, addition_references, init_references, Referring, list_references, unless_empty, references_at, references_inside, stmt_references, references_of}
use Rattle.species_ast.proofs.Folds.{fold_expr-Elem, fold_expr-Unary, fold_expr-Binary, fold_expr-And, fold_expr-Or, fold_expr-Cond, fold_expr-Cast, fold_stmt-Assign, fold_stmt-AddTo, fold_stmt-Declare, fold_stmt-SetLocal, fold_stmt-If, fold_stmt-For, fold_stmt-Block, fold_loop, fold_loop-out}
use Rattle.species_ast.proofs.Induction.{Each, each_all, expr_ind, stmt_ind}
use Rattle.species_ast.proofs.Paras.{para_expr-Literal, para_expr-Iter, para_expr-Local, para_expr-Unary, para_expr-Binary, para_expr-And, para_expr-Or, para_expr-Cond, para_expr-Cast}
use Rattle.species_ast.proofs.ReferenceLaws.{elements_of-Elem}
use Rattle.species_gather.specs.Summed.{read_at, read_by, read_in, read_first, summed_in, used_at, used_by, used_in, is_summed, summed_from}
use Rattle.species_occurrences.specs.Made.{IsMadeAmong}
use Rattle.species_occurrences.proofs.NestLaws.{unconditional}
use Rattle.species_occurrences.proofs.PositionLaws.{each_append}
use Rattle.species_references.specs.References.{adds_of}
use Rattle.species_plan_truth.proofs.AddLemmas.{maker}

-- the list does not have this number
abbrev pub IsAbsent : ℕ → List ℕ → Type 0
IsAbsent c xs = list_any (nat_eq c) xs ≡ false

absent_parts : (c : ℕ) (xs ys : List ℕ) → IsAbsent c (xs ++ ys) → IsAbsent c xs × IsAbsent c ys
absent_parts c xs ys h = or_parts (list_any (nat_eq c) xs) (list_any (nat_eq c) ys) (sym (list_any-append (nat_eq c) xs ys) ∙ h)

-- so it is no part of the list
absent_first : (c b : ℕ) (xs : List ℕ) → IsAbsent c (b ∷ xs) → (b ≢ c) × IsAbsent c xs
absent_first c b xs h =
    let parts = or_parts (nat_eq c b) (list_any (nat_eq c) xs) h in
    ((λ same. apart (sym parts.0 ∙ ap (nat_eq c) same ∙ own)), parts.1)
  where
    own : nat_eq c c ≡ true
    own = grind (arith, nat_tests)

    apart : false ≡ true → ⊥
    apart e = cc

-- ---- expressions that do not read an array

-- it is a reference to another array
abbrev IsOther : ℕ → Reference → Type 0
IsOther c r = r.array ≢ c

abbrev AreOther : ℕ → Elements → Type 0
AreOther c e = (g : Where) (n : ℕ) → Each (IsOther c) (e.references g n)

other_then : (c : ℕ) (a b : Elements) → AreOther c a → AreOther c b → AreOther c (then_elements a b)
other_then c a b h k g n = each_append (IsOther c) (a.references g n) (b.references g (n + a.count)) (h g n) (k g (n + a.count))

other_condition : (c : ℕ) (a : Elements) → AreOther c a → AreOther c (on_condition a)
other_condition c a h g n = h (perhaps g) n

abbrev ReadsOther : ℕ → Expr → Type 0
ReadsOther c x = IsAbsent c (read_by x) → AreOther c (elements_of x)

from_read : (c : ℕ) (x : Expr) (e : Elements) (xs : List ℕ) → elements_of x ≡ e → read_by x ≡ xs → (IsAbsent c xs → AreOther c e) → ReadsOther c x
from_read c x e xs p q h t = subst (AreOther c) (sym p) (h (subst (IsAbsent c) q t))

other_all : (c : ℕ) (es : List Expr) → Each (ReadsOther c) es → IsAbsent c (read_in es) → AreOther c (all_elements (map elements_of es))
other_all c [] h t = λ g n. tt
other_all c (x ∷ es) h t =
    let parts = absent_parts c (read_by x) (read_in es) t in
    other_then c (elements_of x) (all_elements (map elements_of es)) (h.0 parts.0) (other_all c es h.1 parts.1)

reads_other : (c : ℕ) (x : Expr) → ReadsOther c x
reads_other c = expr_ind (ReadsOther c) (record {
  literal = λ v t. subst (AreOther c) (sym (para_expr-Literal elements_at v)) (λ g n. tt);
  iter = λ level t. subst (AreOther c) (sym (para_expr-Iter elements_at level)) (λ g n. tt);
  local = λ x t. subst (AreOther c) (sym (para_expr-Local elements_at x)) (λ g n. tt);
  elem = λ b subs h. from_read c _ _ _ (elements_of-Elem b subs) (fold_expr-Elem read_at b subs) (λ t g n.
      let parts = absent_first c b (read_in subs) t in
      let inner = all_elements (map elements_of subs) in
      each_append (IsOther c) (inner.references g n) (reference g (n + inner.count) Reads b (map form_of subs) ∷ []) (other_all c subs h parts.1 g n) (parts.0, tt));
  unary = λ op a h. from_read c _ _ _ (para_expr-Unary elements_at op a) (fold_expr-Unary read_at op a) h;
  binary = λ op a b h k. from_read c _ _ _ (para_expr-Binary elements_at op a b) (fold_expr-Binary read_at op a b) (λ t.
      let parts = absent_parts c (read_by a) (read_by b) t in
      other_then c (elements_of a) (elements_of b) (h parts.0) (k parts.1));
  both = λ a b h k. from_read c _ _ _ (para_expr-And elements_at a b) (fold_expr-And read_at a b) (λ t.
      let parts = absent_parts c (read_by a) (read_by b) t in
      other_then c (elements_of a) (on_condition (elements_of b)) (h parts.0) (other_condition c (elements_of b) (k parts.1)));
  either = λ a b h k. from_read c _ _ _ (para_expr-Or elements_at a b) (fold_expr-Or read_at a b) (λ t.
      let parts = absent_parts c (read_by a) (read_by b) t in
      other_then c (elements_of a) (on_condition (elements_of b)) (h parts.0) (other_condition c (elements_of b) (k parts.1)));
  cond = λ test a b l h k. from_read c _ _ _ (para_expr-Cond elements_at test a b) (fold_expr-Cond read_at test a b) (λ t.
      let parts = absent_parts c (read_by test) (read_by a ++ read_by b) t in
      let more = absent_parts c (read_by a) (read_by b) parts.1 in
      other_then c (elements_of test) (then_elements (on_condition (elements_of a)) (on_condition (elements_of b))) (l parts.0)
      (other_then c (on_condition (elements_of a)) (on_condition (elements_of b)) (other_condition c (elements_of a) (h more.0)) (other_condition c (elements_of b) (k more.1))));
  cast = λ kind a h. from_read c _ _ _ (para_expr-Cast elements_at kind a) (fold_expr-Cast read_at kind a) h;
})

-- ---- statements

-- a reference to the array is an add
abbrev pub IsAddTo : ℕ → Reference → Type 0
IsAddTo c r = r.array ≡ c → r.direction ≡ Adds

others : (c : ℕ) (rs : List Reference) → Each (IsOther c) rs → Each (IsAddTo c) rs
others c [] h = tt
others c (r ∷ rs) h = ((λ same. absurd (h.0 same)), others c rs h.1)

in_expr : (c : ℕ) (x : Expr) (g : Where) (n : ℕ) → IsAbsent c (read_by x) → Each (IsAddTo c) ((elements_of x).references g n)
in_expr c x g n t = others c ((elements_of x).references g n) (reads_other c x t g n)

in_subs : (c : ℕ) (subs : List Expr) (g : Where) → IsAbsent c (read_in subs) → Each (IsAddTo c) ((subscripts subs).references g 0)
in_subs c subs g t = others c ((subscripts subs).references g 0) (other_all c subs (each_all (ReadsOther c) (reads_other c) subs) t g 0)

in_init : (c : ℕ) (init : Option Expr) (g : Where) → IsAbsent c (read_first init) → Each (IsAddTo c) (init_references init g)
in_init c None g t = tt
in_init c (Some x) g t = in_expr c x g 0 t

not_absent : (c : ℕ) (xs : List ℕ) → list_any (nat_eq c) xs ≡ true → IsAbsent c xs → ⊥
not_absent c xs h k = apart (sym k ∙ h)
  where
    apart : false ≡ true → ⊥
    apart e = cc

-- `+=` on an array: an add if it is one of these
in_addition : (c : ℕ) (gathered : List ℕ) (adds : Bool) (array : ℕ) (subs : List Expr) (x : Expr) (g : Where) → list_any (nat_eq c) gathered ≡ true → list_any (nat_eq array) gathered ≡ adds
    → IsAbsent c (read_by x) → Each (IsAddTo c) (addition_references adds array subs x g)
in_addition c gathered true array subs x g one is t = each_append (IsAddTo c) (value_references subs x g) (target_reference subs Adds array g ∷ []) (in_expr c x g _ t) ((λ same. refl), tt)
in_addition c gathered false array subs x g one is t = (
  (λ same. absurd (other same)),
  each_append (IsAddTo c) (value_references subs x g) (target_reference subs Writes array g ∷ []) (in_expr c x g _ t) ((λ same. absurd (other same)), tt),
)
  where
    other : array ≢ c
    other same = not_absent c gathered one (subst (λ (n : ℕ). IsAbsent n gathered) same is)

abbrev OnlyAdds : ℕ → List ℕ → Stmt → Type 0
OnlyAdds c gathered x = IsAbsent c (used_by x) → (g : Where) (band : ℕ) → Each (IsAddTo c) (stmt_references (adds_of gathered) x g band)

from_used : (c : ℕ) (gathered : List ℕ) (x : Stmt) (k : Referring) (xs : List ℕ) → stmt_references (adds_of gathered) x ≡ k → used_by x ≡ xs
    → (IsAbsent c xs → (g : Where) (band : ℕ) → Each (IsAddTo c) (k g band)) → OnlyAdds c gathered x
from_used c gathered x k xs p q h t = subst (λ (z : Referring). (g : Where) (band : ℕ) → Each (IsAddTo c) (z g band)) (sym p) (h (subst (IsAbsent c) q t))

only_list : (c : ℕ) (gathered : List ℕ) (xs : List Stmt) → Each (OnlyAdds c gathered) xs → IsAbsent c (used_in xs) → (g : Where) (k band : ℕ)
    → Each (IsAddTo c) (list_references (map (stmt_references (adds_of gathered)) xs) g k band)
only_list c gathered [] h t g k band = tt
only_list c gathered (x ∷ xs) h t g k band =
    let parts = absent_parts c (used_by x) (used_in xs) t in
    each_append (IsAddTo c) (stmt_references (adds_of gathered) x (placed g k) band) (list_references (map (stmt_references (adds_of gathered)) xs) g (suc k) band) (h.0 parts.0 (placed g k) band)
    (only_list c gathered xs h.1 parts.1 g (suc k) band)

kept : (c band : ℕ) (path : List Range) (rs : List Reference) → Each (IsAddTo c) rs → Each (IsAddTo c) (unless_empty band path rs)
kept c zero path rs h = go (has_empty path)
  where
    go : (t : Bool) → Each (IsAddTo c) (if t then [] else rs)
    go true = tt
    go false = h
kept c (suc band) path rs h = h

-- the arrays that the body of a loop uses
abbrev used_inside : Loop-F (List ℕ) (List ℕ) → List ℕ
used_inside l = flat_map (λ xs. xs) l.body

only_adds : (c : ℕ) (gathered : List ℕ) → list_any (nat_eq c) gathered ≡ true → (x : Stmt) → OnlyAdds c gathered x
only_adds c gathered one =
    let step = references_at (adds_of gathered) in
    let inside = references_inside (adds_of gathered) in
    stmt_ind (OnlyAdds c gathered) (record {
      assign = λ place b subs value. from_used c gathered _ _ _ (fold_stmt-Assign step inside place b subs value) (fold_stmt-Assign used_at used_inside place b subs value) (λ t g band.
          let first = absent_first c b (read_in subs ++ read_by value) t in
          let parts = absent_parts c (read_in subs) (read_by value) first.1 in
          each_append (IsAddTo c) ((subscripts subs).references g 0) (value_references subs value g ++ target_reference subs Writes b g ∷ []) (in_subs c subs g parts.0)
          (each_append (IsAddTo c) (value_references subs value g) (target_reference subs Writes b g ∷ []) (in_expr c value g _ parts.1) ((λ same. absurd (first.0 same)), tt)));
      add_to = λ place b subs value atomic. from_used c gathered _ _ _ (fold_stmt-AddTo step inside place b subs value atomic) (fold_stmt-AddTo used_at used_inside place b subs value atomic) (λ t g band.
          let parts = absent_parts c (read_in subs) (read_by value) t in
          each_append (IsAddTo c) ((subscripts subs).references g 0) (addition_references (adds_of gathered b atomic) b subs value g) (in_subs c subs g parts.0)
          (in_addition c gathered (adds_of gathered b atomic) b subs value g one refl parts.1));
      declare = λ place n init. from_used c gathered _ _ _ (fold_stmt-Declare step inside place n init) (fold_stmt-Declare used_at used_inside place n init) (λ t g band. in_init c init g t);
      set_local = λ place n value. from_used c gathered _ _ _ (fold_stmt-SetLocal step inside place n value) (fold_stmt-SetLocal used_at used_inside place n value) (λ t g band. in_expr c value g 0 t);
      choice = λ place test body otherwise p q. from_used c gathered _ _ _ (fold_stmt-If step inside place test body otherwise) (fold_stmt-If used_at used_inside place test body otherwise) (λ t g band.
          let parts = absent_parts c (read_by test) (used_in body ++ used_in otherwise) t in
          let more = absent_parts c (used_in body) (used_in otherwise) parts.1 in
          each_append (IsAddTo c) ((elements_of test).references g 0) _ (in_expr c test g 0 parts.0)
          (each_append (IsAddTo c) (list_references (map (stmt_references (adds_of gathered)) body) (perhaps g) 0 band) _ (only_list c gathered body p more.0 (perhaps g) 0 band)
          (only_list c gathered otherwise q more.1 (perhaps g) _ band)));
      loop = λ l p. from_used c gathered _ _ _ (fold_stmt-For step inside (roll-Loop l) ∙ fold_loop step inside l) (fold_stmt-For used_at used_inside (roll-Loop l) ∙ fold_loop used_at used_inside l) (λ t g band.
          kept c band (in_turn g l).path _ (only_list c gathered l.body p t (in_turn g l) 0 (band - 1)));
      block = λ body p. from_used c gathered _ _ _ (fold_stmt-Block step inside body) (fold_stmt-Block used_at used_inside body) (λ t g band. only_list c gathered body p t g 0 band);
    })

-- ---- nests

only_adds_nest : (c : ℕ) (gathered : List ℕ) (l : Loop) (at : List ℕ) (path : List Range) (band : ℕ) → list_any (nat_eq c) gathered ≡ true → IsAbsent c (used_in (out-Loop l).body)
    → Each (IsAddTo c) (references_of (adds_of gathered) l at path band)
only_adds_nest c gathered l at path band one t =
    subst (λ (k : Referring). Each (IsAddTo c) (k (unconditional at path) band)) (fold_stmt-For (references_at (adds_of gathered)) (references_inside (adds_of gathered)) l)
    (only_adds c gathered one (stmt.For l) (subst (IsAbsent c) (sym (fold_stmt-For used_at used_inside l ∙ fold_loop-out used_at used_inside l)) t) (unconditional at path) band)

-- an access of the nest to the array is an add
pub access_adds : (sizes : ℕ → List ℕ) (gathered : List ℕ) (l : Loop) (at : List ℕ) (path : List Range) (band : ℕ) (a : Access) → list_any (nat_eq a.element.array) gathered ≡ true
    → IsAbsent a.element.array (used_in (out-Loop l).body) → IsMadeAmong sizes (references_of (adds_of gathered) l at path band) a → a.direction ≡ Adds
access_adds sizes gathered l at path band a one t made =
    let by = maker sizes (IsAddTo a.element.array) (references_of (adds_of gathered) l at path band) a (only_adds_nest a.element.array gathered l at path band one t) made in
    by.2.direction ∙ by.1 (sym (ap (λ (e : Element). e.array) by.2.element))

-- ---- gathered arrays

not_true : (b : Bool) → not b ≡ true → b ≡ false
not_true true e = absurd cc
not_true false e = refl

-- none of them is used otherwise
pub summed_spared : (body : List Stmt) (k : ℕ) (xs : List Array) (c : ℕ) → Contains (summed_from body k xs) c → IsAbsent c (used_in body)
summed_spared body k [] c h = absurd (omega (arith, h.1))
summed_spared body k (x ∷ xs) c h = go (summed_spared body (suc k) xs c) (is_summed body k x.kind) refl h
  where
    rest : List ℕ
    rest = summed_from body (suc k) xs

    spared : is_summed body k x.kind ≡ true → IsAbsent k (used_in body)
    spared is =
        let parts = and_parts (not (is_signed x.kind)) (list_any (nat_eq k) (summed_in body) && not (list_any (nat_eq k) (used_in body))) is in
        not_true (list_any (nat_eq k) (used_in body)) (and_parts (list_any (nat_eq k) (summed_in body)) (not (list_any (nat_eq k) (used_in body))) parts.1).1

    go : (Contains rest c → IsAbsent c (used_in body)) → (t : Bool) → is_summed body k x.kind ≡ t → Contains (if t then k ∷ rest else rest) c → IsAbsent c (used_in body)
    go more true is (zero, below, same) = subst (λ (n : ℕ). IsAbsent n (used_in body)) same (spared is)
    go more true is (suc j, below, same) = more (j, omega (arith, below), same)
    go more false is found = more found
