-- Each access of a nest is one of its plain references, in which a `+=` is a read and a write, or an add in the place of the write. Any band
-- of the nest will do for those, since no access stands in a loop without turns.
use Rattle.std.proofs.Common.{◌≡◌, refl, ap, sym, ◌∙◌, subst, ℕ, zero, suc, ◌-◌, Bool, true, false, ◌||◌, if◌then◌else◌, List, [], ◌∷◌, ◌++◌, map, length, ◌⊎◌, inl, inr}
use Rattle.species_ast.specs.Accesses.{Access, Direction, Reads, Writes, Adds}
use Rattle.species_ast.specs.declared.tree.Expr.{Expr}
use Rattle.species_ast.specs.declared.tree.Loop.{Loop, out-Loop, roll-Loop}
use Rattle.species_ast.specs.declared.tree.Stmt.{Stmt}
use Rattle.species_ast.specs.declared.tree.Stmt.TheVariants as stmt
use Rattle.species_ast.specs.Scope.Hulls.{Range, is_empty, has_empty, range_of}
use Rattle.species_ast.specs.Scope.References.{Where, Reference, perhaps, placed, in_turn, elements_of, subscripts, target_reference, value_references, addition_references, init_references, Adding, Referring, list_references, unless_empty, references_at, references_inside, stmt_references, references_of}
use Rattle.species_ast.proofs.Folds.{fold_stmt-Assign, fold_stmt-AddTo, fold_stmt-Declare, fold_stmt-SetLocal, fold_stmt-If, fold_stmt-For, fold_stmt-Block, fold_loop}
use Rattle.species_ast.proofs.Induction.{Each, stmt_ind}
use Rattle.species_merge.proofs.SettledLaws.{Inside, body_inside_loops}
use Rattle.species_occurrences.specs.Iterators.{AreTaken, ranges_of}
use Rattle.species_occurrences.specs.Made.{IsMadeBy, IsMadeAmong}
use Rattle.species_occurrences.proofs.MadeLaws.{among_left, among_right}
use Rattle.species_occurrences.proofs.NestLaws.{unconditional}
use Rattle.species_occurrences.proofs.TakenLaws.{not_empty}
use Rattle.species_references.specs.References.{adds_of}

-- ---- lists of references

pub among_parts : (sizes : ℕ → List ℕ) (rs ps : List Reference) (a : Access) → IsMadeAmong sizes (rs ++ ps) a → IsMadeAmong sizes rs a ⊎ IsMadeAmong sizes ps a
among_parts sizes [] ps a h = inr h
among_parts sizes (r ∷ rs) ps a (inl h) = inl (inl h)
among_parts sizes (r ∷ rs) ps a (inr h) = elim (among_parts sizes rs ps a h) [
  | inl k ↦ inl (inr k)
  | inr k ↦ inr k
]

-- the reference that makes the access, with what is known of each
pub maker : (sizes : ℕ → List ℕ) (P : Reference → Type 0) (rs : List Reference) (a : Access) → Each P rs → IsMadeAmong sizes rs a → (r : Reference) × P r × IsMadeBy sizes r a
maker sizes P [] a h made = absurd made
maker sizes P (r ∷ rs) a h (inl made) = (r, h.0, made)
maker sizes P (r ∷ rs) a h (inr made) = maker sizes P rs a h.1 made

-- The access is made by one of the references; or it is an add, and one makes it as a write.
pub record IsPlainly (sizes : ℕ → List ℕ) (rs : List Reference) (a : Access) : Type 0 where
  pub direction : Direction
  pub made : IsMadeAmong sizes rs (record a { direction = direction })
  pub same : (direction ≡ a.direction) ⊎ ((a.direction ≡ Adds) × (direction ≡ Writes))

plainly : (sizes : ℕ → List ℕ) (rs : List Reference) (a : Access) → IsMadeAmong sizes rs a → IsPlainly sizes rs a
plainly sizes rs a h = record { direction = a.direction; made = h; same = inl refl }

plainly_left : (sizes : ℕ → List ℕ) (rs ps : List Reference) (a : Access) → IsPlainly sizes rs a → IsPlainly sizes (rs ++ ps) a
plainly_left sizes rs ps a h = record { direction = h.direction; made = among_left sizes rs ps (record a { direction = h.direction }) h.made; same = h.same }

plainly_right : (sizes : ℕ → List ℕ) (rs ps : List Reference) (a : Access) → IsPlainly sizes ps a → IsPlainly sizes (rs ++ ps) a
plainly_right sizes rs ps a h = record { direction = h.direction; made = among_right sizes rs ps (record a { direction = h.direction }) h.made; same = h.same }

-- part by part
plainly_both : (sizes : ℕ → List ℕ) (rs ps us vs : List Reference) (a : Access) → (IsMadeAmong sizes rs a → IsPlainly sizes us a) → (IsMadeAmong sizes ps a → IsPlainly sizes vs a)
    → IsMadeAmong sizes (rs ++ ps) a → IsPlainly sizes (us ++ vs) a
plainly_both sizes rs ps us vs a h k made = elim (among_parts sizes rs ps a made) [
  | inl first ↦ plainly_left sizes us vs a (h first)
  | inr rest ↦ plainly_right sizes us vs a (k rest)
]

plainly_addition : (sizes : ℕ → List ℕ) (adds : Bool) (array : ℕ) (subs : List Expr) (x : Expr) (g : Where) (a : Access) → IsMadeAmong sizes (addition_references adds array subs x g) a
    → IsPlainly sizes (addition_references false array subs x g) a
plainly_addition sizes false array subs x g a made = plainly sizes (addition_references false array subs x g) a made
plainly_addition sizes true array subs x g a made = elim (among_parts sizes values (target_reference subs Adds array g ∷ []) a made) [
  | inl first ↦ plainly sizes (addition_references false array subs x g) a (inr (among_left sizes values (target_reference subs Writes array g ∷ []) a first))
  | inr last ↦ as_write last
]
  where
    values : List Reference
    values = value_references subs x g

    written : IsMadeBy sizes (target_reference subs Adds array g) a → IsMadeBy sizes (target_reference subs Writes array g) (record a { direction = Writes })
    written by = record { statement = by.statement; number = by.number; direction = refl; element = by.element; indices = by.indices; forms = by.forms; iterators = by.iterators }

    as_write : IsMadeAmong sizes (target_reference subs Adds array g ∷ []) a → IsPlainly sizes (addition_references false array subs x g) a
    as_write (inl by) = record {
      direction = Writes;
      made = inr (among_right sizes values (target_reference subs Writes array g ∷ []) (record a { direction = Writes }) (inl (written by)));
      same = inr (by.direction, refl);
    }
    as_write (inr none) = absurd none

-- ---- loops without turns

front_turns : (path : List Range) (r : Range) → has_empty (path ++ r ∷ []) ≡ false → has_empty path ≡ false
front_turns [] r h = refl
front_turns (p ∷ path) r h = go (is_empty p) h (front_turns path r)
  where
    go : (t : Bool) → (t || has_empty (path ++ r ∷ [])) ≡ false → (has_empty (path ++ r ∷ []) ≡ false → has_empty path ≡ false) → (t || has_empty path) ≡ false
    go true k more = absurd cc
    go false k more = more k

outer_turns : (path : List Range) (inner : List Loop) → has_empty (ranges_of path inner) ≡ false → has_empty path ≡ false
outer_turns path [] h = h
outer_turns path (l ∷ inner) h = front_turns path (range_of path (out-Loop l)) (outer_turns (path ++ range_of path (out-Loop l) ∷ []) inner h)

-- an access of a body is made in loops that have turns
has_turns : (sizes : ℕ → List ℕ) (adds : Adding) (xs : List Stmt) (g : Where) (k band : ℕ) (a : Access) → IsMadeAmong sizes (list_references (map (stmt_references adds) xs) g k band) a → has_empty g.path ≡ false
has_turns sizes adds xs g k band a made =
    let rs = list_references (map (stmt_references adds) xs) g k band in
    let by = maker sizes (Inside g.path) rs a (body_inside_loops adds xs g k band) made in
    let around : AreTaken (ranges_of g.path by.1.0) a.site.iters = subst (λ (p : List Range). AreTaken p a.site.iters) by.1.1 by.2.iterators in
    outer_turns g.path by.1.0 (not_empty (ranges_of g.path by.1.0) a.site.iters around)

kept : (sizes : ℕ → List ℕ) (band : ℕ) (path : List Range) (rs : List Reference) (a : Access) → IsMadeAmong sizes (unless_empty band path rs) a → IsMadeAmong sizes rs a
kept sizes (suc band) path rs a h = h
kept sizes zero path rs a h = go (has_empty path) h
  where
    go : (t : Bool) → IsMadeAmong sizes (if t then [] else rs) a → IsMadeAmong sizes rs a
    go true k = absurd k
    go false k = k

plainly_kept : (sizes : ℕ → List ℕ) (band : ℕ) (path : List Range) (rs : List Reference) (a : Access) → has_empty path ≡ false → IsPlainly sizes rs a → IsPlainly sizes (unless_empty band path rs) a
plainly_kept sizes (suc band) path rs a turns h = h
plainly_kept sizes zero path rs a turns h = subst (λ (t : Bool). IsPlainly sizes (if t then [] else rs) a) (sym turns) h

-- ---- statements

abbrev GoPlainly : (ℕ → List ℕ) → Adding → Stmt → Type 0
GoPlainly sizes adds x = (g : Where) (band other : ℕ) (a : Access) → IsMadeAmong sizes (stmt_references adds x g band) a → IsPlainly sizes (stmt_references (adds_of []) x g other) a

from_both : (sizes : ℕ → List ℕ) (adds : Adding) (x : Stmt) (k l : Referring) → stmt_references adds x ≡ k → stmt_references (adds_of []) x ≡ l
    → ((g : Where) (band other : ℕ) (a : Access) → IsMadeAmong sizes (k g band) a → IsPlainly sizes (l g other) a) → GoPlainly sizes adds x
from_both sizes adds x k l p q h =
    subst (λ (z : Referring). (g : Where) (band other : ℕ) (a : Access) → IsMadeAmong sizes (z g band) a → IsPlainly sizes (stmt_references (adds_of []) x g other) a) (sym p)
    (subst (λ (z : Referring). (g : Where) (band other : ℕ) (a : Access) → IsMadeAmong sizes (k g band) a → IsPlainly sizes (z g other) a) (sym q) h)

plainly_list : (sizes : ℕ → List ℕ) (adds : Adding) (xs : List Stmt) → Each (GoPlainly sizes adds) xs → (g : Where) (k band other : ℕ) (a : Access)
    → IsMadeAmong sizes (list_references (map (stmt_references adds) xs) g k band) a → IsPlainly sizes (list_references (map (stmt_references (adds_of [])) xs) g k other) a
plainly_list sizes adds [] h g k band other a made = absurd made
plainly_list sizes adds (x ∷ xs) h g k band other a made =
    plainly_both sizes (stmt_references adds x (placed g k) band) (list_references (map (stmt_references adds) xs) g (suc k) band) (stmt_references (adds_of []) x (placed g k) other) (list_references (map (stmt_references (adds_of [])) xs) g (suc k) other) a
    (h.0 (placed g k) band other a) (plainly_list sizes adds xs h.1 g (suc k) band other a) made

same_length : (f h : Stmt → Referring) (xs : List Stmt) → length (map f xs) ≡ length (map h xs)
same_length f h [] = refl
same_length f h (x ∷ xs) = ap suc (same_length f h xs)

-- where the second list is numbered behind the first
plainly_behind : (sizes : ℕ → List ℕ) (adds : Adding) (xs : List Stmt) → Each (GoPlainly sizes adds) xs → (g : Where) (k j band other : ℕ) (a : Access) → k ≡ j
    → IsMadeAmong sizes (list_references (map (stmt_references adds) xs) g k band) a → IsPlainly sizes (list_references (map (stmt_references (adds_of [])) xs) g j other) a
plainly_behind sizes adds xs h g k j band other a same made =
    subst (λ (i : ℕ). IsPlainly sizes (list_references (map (stmt_references (adds_of [])) xs) g i other) a) same (plainly_list sizes adds xs h g k band other a made)

go_plainly : (sizes : ℕ → List ℕ) (adds : Adding) (x : Stmt) → GoPlainly sizes adds x
go_plainly sizes adds =
    let step = references_at adds in
    let inside = references_inside adds in
    let plain_step = references_at (adds_of []) in
    let plain_inside = references_inside (adds_of []) in
    stmt_ind (GoPlainly sizes adds) (record {
      assign = λ place array subs value. from_both sizes adds _ _ _ (fold_stmt-Assign step inside place array subs value) (fold_stmt-Assign plain_step plain_inside place array subs value)
          (λ g band other a made. plainly sizes ((subscripts subs).references g 0 ++ (value_references subs value g ++ target_reference subs Writes array g ∷ [])) a made);
      add_to = λ place array subs value atomic. from_both sizes adds _ _ _ (fold_stmt-AddTo step inside place array subs value atomic) (fold_stmt-AddTo plain_step plain_inside place array subs value atomic)
          (λ g band other a made.
          plainly_both sizes ((subscripts subs).references g 0) (addition_references (adds array atomic) array subs value g) ((subscripts subs).references g 0) (addition_references false array subs value g) a
          (plainly sizes ((subscripts subs).references g 0) a) (plainly_addition sizes (adds array atomic) array subs value g a) made);
      declare = λ place n init. from_both sizes adds _ _ _ (fold_stmt-Declare step inside place n init) (fold_stmt-Declare plain_step plain_inside place n init)
          (λ g band other a made. plainly sizes (init_references init g) a made);
      set_local = λ place n value. from_both sizes adds _ _ _ (fold_stmt-SetLocal step inside place n value) (fold_stmt-SetLocal plain_step plain_inside place n value)
          (λ g band other a made. plainly sizes ((elements_of value).references g 0) a made);
      choice = λ place test body otherwise p q. from_both sizes adds _ _ _ (fold_stmt-If step inside place test body otherwise) (fold_stmt-If plain_step plain_inside place test body otherwise)
          (λ g band other a made.
          plainly_both sizes ((elements_of test).references g 0) _ ((elements_of test).references g 0)
          (list_references (map (stmt_references (adds_of [])) body) (perhaps g) 0 other ++ list_references (map (stmt_references (adds_of [])) otherwise) (perhaps g) (length (map (stmt_references (adds_of [])) body)) other) a
          (plainly sizes ((elements_of test).references g 0) a)
          (plainly_both sizes (list_references (map (stmt_references adds) body) (perhaps g) 0 band) (list_references (map (stmt_references adds) otherwise) (perhaps g) (length (map (stmt_references adds) body)) band)
          (list_references (map (stmt_references (adds_of [])) body) (perhaps g) 0 other) (list_references (map (stmt_references (adds_of [])) otherwise) (perhaps g) (length (map (stmt_references (adds_of [])) body)) other) a
          (plainly_list sizes adds body p (perhaps g) 0 band other a)
          (plainly_behind sizes adds otherwise q (perhaps g) _ _ band other a (same_length (stmt_references adds) (stmt_references (adds_of [])) body))) made);
      loop = λ l p. from_both sizes adds _ _ _ (fold_stmt-For step inside (roll-Loop l) ∙ fold_loop step inside l) (fold_stmt-For plain_step plain_inside (roll-Loop l) ∙ fold_loop plain_step plain_inside l)
          (λ g band other a made.
          let own = kept sizes band (in_turn g l).path (list_references (map (stmt_references adds) l.body) (in_turn g l) 0 (band - 1)) a made in
          plainly_kept sizes other (in_turn g l).path (list_references (map (stmt_references (adds_of [])) l.body) (in_turn g l) 0 (other - 1)) a
          (has_turns sizes adds l.body (in_turn g l) 0 (band - 1) a own)
          (plainly_list sizes adds l.body p (in_turn g l) 0 (band - 1) (other - 1) a own));
      block = λ body p. from_both sizes adds _ _ _ (fold_stmt-Block step inside body) (fold_stmt-Block plain_step plain_inside body)
          (λ g band other a made. plainly_list sizes adds body p g 0 band other a made);
    })

-- the accesses of a nest, whatever counts as an add
pub nest_plainly : (sizes : ℕ → List ℕ) (adds : Adding) (l : Loop) (at : List ℕ) (path : List Range) (band other : ℕ) (a : Access) → IsMadeAmong sizes (references_of adds l at path band) a
    → IsPlainly sizes (references_of (adds_of []) l at path other) a
nest_plainly sizes adds l at path band other a made =
    subst (λ (k : Referring). IsPlainly sizes (k (unconditional at path) other) a) (fold_stmt-For (references_at (adds_of [])) (references_inside (adds_of [])) l)
    (go_plainly sizes adds (stmt.For l) (unconditional at path) band other a
    (subst (λ (k : Referring). IsMadeAmong sizes (k (unconditional at path) band) a) (sym (fold_stmt-For (references_at adds) (references_inside adds) l)) made))

-- what is plainly a read is one
pub read_stays : (sizes : ℕ → List ℕ) (rs : List Reference) (a : Access) (h : IsPlainly sizes rs a) → h.direction ≡ Reads → a.direction ≡ Reads
read_stays sizes rs a h read = go h.same
  where
    apart : Writes ≡ Reads → ⊥
    apart e = cc

    go : (h.direction ≡ a.direction) ⊎ ((a.direction ≡ Adds) × (h.direction ≡ Writes)) → a.direction ≡ Reads
    go (inl same) = sym same ∙ read
    go (inr add) = absurd (apart (sym add.1 ∙ read))
