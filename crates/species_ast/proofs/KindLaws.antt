-- Each value that an expression gives has the expression's kind, each element is given values of its array's kind, each
-- local holds values of its own, and a program does nothing that is forbidden to an iteration alone.
use Rattle.std.proofs.Common.{◌≡◌, arith, refl, ap, sym, ◌∙◌, subst, ℕ, zero, suc, ◌+◌, List, [], ◌∷◌, ◌++◌, map, length, Option, Some, None, Bool, true, false, ℤ, pos, negsuc, Ok, Err, if◌then◌else◌, ◌⊎◌, inl, inr, ⊎_elim}
use Rattle.std.specs.Prelude.{slice_get, slice_set, unwrap_or, option_map, option_and_then, nat_lt, ◌<◌, ◌≤◌, ◌*◌}
use Rattle.std.proofs.Math.Nat.{mul-le-mul_right}
use Rattle.std.proofs.lemmas.Bool.Decides.{nat_tests}
use Rattle.species_ast.specs.declared.tree.Kind.{Kind}
use Rattle.species_ast.specs.declared.tree.Kind.TheVariants as kind
use Rattle.species_ast.specs.declared.tree.Value.{Value}
use Rattle.species_ast.specs.declared.tree.Value.TheVariants.{Int, Long}
use Rattle.species_ast.specs.declared.tree.Unary.{Unary}
use Rattle.species_ast.specs.declared.tree.Unary.TheVariants.{Neg, Not, LogNot}
use Rattle.species_ast.specs.declared.tree.Binary.{Binary}
use Rattle.species_ast.specs.declared.tree.Binary.TheVariants.{Mul, Div, Rem, Add, Sub, Shl, Shr, Lt, Le, Gt, Ge, Eq, Ne, BitAnd, BitXor, BitOr}
use Rattle.species_ast.specs.declared.tree.Expr.{Expr}
use Rattle.species_ast.specs.declared.tree.Expr.TheOpen.{Expr-F}
use Rattle.species_ast.specs.declared.trap.Undefined.TheVariants.{Overflow, DivZero, BadShift}
use Rattle.species_ast.specs.Operators.{Answer, kind_of, number_of, in_kind, joint, reduced, converted, bits_of, fits, exact_in, quotient, and_then, truth, is_true, is_count, left_by, right_by, binary_of, binary_kind, unary_of, unary_kind}
use Rattle.std.specs.Ordering.{int_eq}
use Rattle.std.specs.Prelude.{int_div, int_lt, unsigned_abs, ◌-ℤ◌, ◌*ℤ◌}
use Rattle.species_ast.specs.Accesses.{Element, Cause, Trapped, Forbidden, Site, Tree, Ret, Stop, Read, Write, then_do}
use Rattle.species_ast.specs.Accesses as access
use Rattle.species_ast.specs.Evaluation.{Frame, Context, Spot, Sense, sense, sense_at, array_kind, local_kind, local_of, with_local, known, answered, tested, indices_in, sizes_of, site_at, values_of, target_of, elements_in, index_in, row_order, product}
use Rattle.species_ast.specs.declared.tree.Stmt.{Stmt}
use Rattle.species_ast.specs.declared.tree.LocalInfo.{LocalInfo}
use Rattle.species_ast.specs.declared.tree.Test.{Test}
use Rattle.species_ast.specs.declared.tree.Loop.{roll-Loop}
use Rattle.species_ast.specs.declared.tree.Unit.{Unit as Program}
use Rattle.species_ast.specs.Run.{Step, step, scope_of, does_list, cleared, declared_in, turns, inside, outside, looping, assignment, addition, adding, initial, declaring, setting, branching, spot, source_context, first_frame, program_of}
use Rattle.species_ast.proofs.Induction.{Each, each_all, expr_ind, stmt_ind}
use Rattle.species_ast.proofs.RunLaws.{sense-Literal, sense-Iter, sense-Local, sense-Elem, sense-Unary, sense-Binary, sense-And, sense-Or, sense-Cond, sense-Cast, step-Assign, step-AddTo, step-Declare, step-SetLocal, step-If, step-For, step-Block, loop-roll}

-- ---- operators

abbrev pub HasKind : Kind → Value → Type 0
HasKind k v = kind_of v ≡ k

abbrev pub AnswerOf : Kind → Answer → Type 0
AnswerOf k (Ok v) = HasKind k v
AnswerOf k (Err why) = Unit {0}

pub kind-in_kind : (k : Kind) (n : ℤ) → kind_of (in_kind k n) ≡ k
kind-in_kind kind.Int n = refl
kind-in_kind kind.Unsigned n = refl
kind-in_kind kind.Long n = refl
kind-in_kind kind.UnsignedLong n = refl

kind-truth : (b : Bool) → kind_of (truth b) ≡ kind.Int
kind-truth true = refl
kind-truth false = refl

one_of : (k : Kind) (t : Bool) (a b : Answer) → AnswerOf k a → AnswerOf k b → AnswerOf k (if t then a else b)
one_of k true a b p q = p
one_of k false a b p q = q

kind-exact : (k : Kind) (n : ℤ) → AnswerOf k (exact_in k n)
kind-exact kind.Int n = one_of kind.Int (fits 32 n) (Ok (Int n)) (Err Overflow) refl tt
kind-exact kind.Unsigned n = refl
kind-exact kind.Long n = one_of kind.Long (fits 64 n) (Ok (Long n)) (Err Overflow) refl tt
kind-exact kind.UnsignedLong n = refl

kind-quotient : (k : Kind) (a b : ℤ) → AnswerOf k (quotient k a b)
kind-quotient k a b = one_of k (int_eq b (pos 0)) (Err DivZero) (exact_in k (int_div a b)) tt (kind-exact k (int_div a b))

kind-remainder : (k : Kind) (a b : ℤ) (q : Answer) → AnswerOf k (and_then q (λ v. Ok (in_kind k (a -ℤ number_of v *ℤ b))))
kind-remainder k a b (Ok v) = kind-in_kind k (a -ℤ number_of v *ℤ b)
kind-remainder k a b (Err why) = tt

kind-left : (k : Kind) (t : Bool) (a : ℤ) (n : ℕ) → AnswerOf k (left_by t k a n)
kind-left k true a n = one_of k (int_lt a (pos 0)) (Err BadShift) _ tt (kind-exact k _)
kind-left k false a n = tt

kind-right : (k : Kind) (t : Bool) (a : ℤ) (n : ℕ) → AnswerOf k (right_by t k a n)
kind-right k true a n = kind-in_kind k _
kind-right k false a n = tt

pub kind-binary : (op : Binary) (x y : Value) → AnswerOf (binary_kind op (kind_of x) (kind_of y)) (binary_of op x y)
kind-binary Mul x y = kind-exact (joint (kind_of x) (kind_of y)) _
kind-binary Div x y =
    let k = joint (kind_of x) (kind_of y) in
    kind-quotient k (reduced k (number_of x)) (reduced k (number_of y))
kind-binary Rem x y =
    let k = joint (kind_of x) (kind_of y) in
    kind-remainder k (reduced k (number_of x)) (reduced k (number_of y)) (quotient k (reduced k (number_of x)) (reduced k (number_of y)))
kind-binary Add x y = kind-exact (joint (kind_of x) (kind_of y)) _
kind-binary Sub x y = kind-exact (joint (kind_of x) (kind_of y)) _
kind-binary Shl x y = kind-left (kind_of x) (is_count (bits_of (kind_of x)) (number_of y)) (number_of x) (unsigned_abs (number_of y))
kind-binary Shr x y = kind-right (kind_of x) (is_count (bits_of (kind_of x)) (number_of y)) (number_of x) (unsigned_abs (number_of y))
kind-binary Lt x y = kind-truth _
kind-binary Le x y = kind-truth _
kind-binary Gt x y = kind-truth _
kind-binary Ge x y = kind-truth _
kind-binary Eq x y = kind-truth _
kind-binary Ne x y = kind-truth _
kind-binary BitAnd x y = kind-in_kind (joint (kind_of x) (kind_of y)) _
kind-binary BitXor x y = kind-in_kind (joint (kind_of x) (kind_of y)) _
kind-binary BitOr x y = kind-in_kind (joint (kind_of x) (kind_of y)) _

pub kind-unary : (op : Unary) (x : Value) → AnswerOf (unary_kind op (kind_of x)) (unary_of op x)
kind-unary Neg x = kind-exact (kind_of x) _
kind-unary Not x = kind-in_kind (kind_of x) _
kind-unary LogNot x = kind-truth _

-- ---- trees

-- what a piece of program may stop for where nothing is forbidden
abbrev pub IsAllowed : Cause → Type 0
IsAllowed (Trapped t) = Unit {0}
IsAllowed Forbidden = ⊥

-- an element of the arrays that are declared
abbrev pub InArray : Context → Element → Type 0
InArray w el = el.at < product (sizes_of w el.array)

-- where each read gives a value of its array's kind: each access is to an element that there is, each value written or
-- added has its array's kind, nothing forbidden is done, and P holds of what is computed
abbrev pub Keeps : {X : Type 0} → Context → (X → Type 0) → Tree X → Type 0
Keeps w P (Ret x) = P x
Keeps w P (Stop s why) = IsAllowed why
Keeps w P (Read s el more) = InArray w el × ((v : Value) → HasKind (array_kind w el.array) v → Keeps w P (more v))
Keeps w P (Write s el v more) = InArray w el × HasKind (array_kind w el.array) v × Keeps w P more
Keeps w P (access.Add s el v more) = InArray w el × HasKind (array_kind w el.array) v × Keeps w P more

pub keeps-then_do : {X Y : Type 0} (w : Context) (P : X → Type 0) (Q : Y → Type 0) (t : Tree X) (next : X → Tree Y)
    → Keeps w P t → ((x : X) → P x → Keeps w Q (next x)) → Keeps w Q (then_do t next)
keeps-then_do w P Q (Ret x) next h after = after x h
keeps-then_do w P Q (Stop s why) next h after = h
keeps-then_do w P Q (Read s el more) next h after = (h.0, λ v of. keeps-then_do w P Q (more v) next (h.1 v of) after)
keeps-then_do w P Q (Write s el v more) next h after = (h.0, h.1, keeps-then_do w P Q more next h.2 after)
keeps-then_do w P Q (access.Add s el v more) next h after = (h.0, h.1, keeps-then_do w P Q more next h.2 after)

keeps_one : {X : Type 0} (w : Context) (P : X → Type 0) (t : Bool) (a b : Tree X) → Keeps w P a → Keeps w P b → Keeps w P (if t then a else b)
keeps_one w P true a b p q = p
keeps_one w P false a b p q = q

keeps_weaker : {X : Type 0} (w : Context) (P Q : X → Type 0) (t : Tree X) → ((x : X) → P x → Q x) → Keeps w P t → Keeps w Q t
keeps_weaker w P Q (Ret x) weaker h = weaker x h
keeps_weaker w P Q (Stop s why) weaker h = h
keeps_weaker w P Q (Read s el more) weaker h = (h.0, λ v of. keeps_weaker w P Q (more v) weaker (h.1 v of))
keeps_weaker w P Q (Write s el v more) weaker h = (h.0, h.1, keeps_weaker w P Q more weaker h.2)
keeps_weaker w P Q (access.Add s el v more) weaker h = (h.0, h.1, keeps_weaker w P Q more weaker h.2)

keeps_answered : (w : Context) (k : Kind) (s : Site) (a : Answer) → AnswerOf k a → Keeps w (HasKind k) (answered s a)
keeps_answered w k s (Ok v) h = h
keeps_answered w k s (Err why) h = tt

-- ---- expressions

-- each local that has a value has one of its kind
abbrev pub FrameOf : Context → Frame → Type 0
FrameOf w f = (x : ℕ) (v : Value) → local_of f x ≡ Some v → HasKind (local_kind w x) v

-- each value that is given has the kind
abbrev pub HasItsKind : Context → Sense → Type 0
HasItsKind w x = (s : Spot) (n : ℕ) (f : Frame) → FrameOf w f → Keeps w (HasKind x.kind) (x.does s n f)

abbrev Any : {X : Type 0} → X → Type 0
Any x = Unit {0}

keeps_known : (w : Context) (x : ℕ) (s : Site) (f : Frame) (o : Option Value) → local_of f x ≡ o → FrameOf w f → Keeps w (HasKind (local_kind w x)) (known s o)
keeps_known w x s f (Some v) same h = h x v same
keeps_known w x s f None same h = tt

-- indices that are those of an element
abbrev pub Within : Context → ℕ → List ℕ → Type 0
Within w a is = row_order (sizes_of w a) is < product (sizes_of w a)

index_below : (size : ℕ) (n : ℤ) (i : ℕ) → index_in size n ≡ Some i → i < size
index_below size (pos m) i h = go (nat_lt m size) refl h
  where
    go : (t : Bool) → nat_lt m size ≡ t → (if t then Some m else None) ≡ Some i → i < size
    go true less same = let is : m ≡ i = ap (λ o. unwrap_or o 0) same in let below : m < size = grind (arith, nat_tests) in omega (arith, is, below)
    go false less same = absurd cc
index_below size (negsuc m) i h = absurd cc

indices_within : (sizes : List ℕ) (vs : List Value) (is : List ℕ) → indices_in sizes vs ≡ Some is → row_order sizes is < product sizes
indices_within [] vs is h = omega arith
indices_within (size ∷ sizes) [] is h = absurd cc
indices_within (size ∷ sizes) (v ∷ vs) is h =
    go (λ rest e. indices_within sizes vs rest e) (index_in size (number_of v)) (indices_in sizes vs) refl refl h
  where
    go : ((rest : List ℕ) → indices_in sizes vs ≡ Some rest → row_order sizes rest < product sizes)
        → (o : Option ℕ) (r : Option (List ℕ)) → index_in size (number_of v) ≡ o → indices_in sizes vs ≡ r
        → option_and_then (λ i. option_map (λ rest. i ∷ rest) r) o ≡ Some is → row_order (size ∷ sizes) is < product (size ∷ sizes)
    go inner (Some i) (Some rest) e f same =
        let all : i ∷ rest ≡ is = ap (λ o. unwrap_or o []) same in
        let first : suc i ≤ size = index_below size (number_of v) i e in
        let more : suc i * product sizes ≤ size * product sizes = mul-le-mul_right (product sizes) first in
        subst (λ l. row_order (size ∷ sizes) l < product (size ∷ sizes)) all (omega (arith, more, inner rest f))
    go inner (Some i) None e f same = absurd cc
    go inner None r e f same = absurd cc

keeps_tested : (w : Context) (a : ℕ) (s : Site) (vs : List Value) (o : Option (List ℕ)) → indices_in (sizes_of w a) vs ≡ o → Keeps w (Within w a) (tested s o)
keeps_tested w a s vs (Some is) same = indices_within (sizes_of w a) vs is same
keeps_tested w a s vs None same = tt

keeps_values : (w : Context) (es : List Expr) → Each (λ x. HasItsKind w (sense w x)) es → (s : Spot) (n : ℕ) (f : Frame) → FrameOf w f
    → Keeps w Any (values_of (map (sense w) es) s n f)
keeps_values w [] h s n f ok = tt
keeps_values w (x ∷ es) h s n f ok =
    keeps-then_do w (HasKind (sense w x).kind) Any ((sense w x).does s n f) _ (h.0 s n f ok) (λ v of.
    keeps-then_do w Any Any (values_of (map (sense w) es) s (n + (sense w x).elements) f) _ (keeps_values w es h.1 s (n + (sense w x).elements) f ok) (λ vs _. tt))

pub keeps_target : (w : Context) (a : ℕ) (es : List Expr) → Each (λ x. HasItsKind w (sense w x)) es → (s : Spot) (n : ℕ) (f : Frame) → FrameOf w f
    → Keeps w (Within w a) (target_of w a (map (sense w) es) s n f)
keeps_target w a es h s n f ok =
    keeps-then_do w Any (Within w a) (values_of (map (sense w) es) s n f) _ (keeps_values w es h s n f ok) (λ vs _. keeps_tested w a _ vs (indices_in (sizes_of w a) vs) refl)

keeps_test : (w : Context) (x : Sense) (Q : Value → Type 0) (next : Value → Tree Value) (s : Spot) (n : ℕ) (f : Frame) → FrameOf w f
    → HasItsKind w x → ((v : Value) → HasKind x.kind v → Keeps w Q (next v)) → Keeps w Q (then_do (x.does s n f) next)
keeps_test w x Q next s n f ok h after = keeps-then_do w (HasKind x.kind) Q (x.does s n f) next (h s n f ok) after

unary_case : (w : Context) (op : Unary) (a : Sense) → HasItsKind w a → HasItsKind w (sense_at w (Expr-F.Unary op a))
unary_case w op a h s n f ok = keeps_test w a (HasKind (unary_kind op a.kind)) _ s n f ok h (λ x of.
    keeps_answered w (unary_kind op a.kind) _ (unary_of op x) (subst (λ k. AnswerOf (unary_kind op k) (unary_of op x)) of (kind-unary op x)))

binary_case : (w : Context) (op : Binary) (a b : Sense) → HasItsKind w a → HasItsKind w b → HasItsKind w (sense_at w (Expr-F.Binary op a b))
binary_case w op a b p q s n f ok = keeps_test w a (HasKind (binary_kind op a.kind b.kind)) _ s n f ok p (λ x of_x.
    keeps_test w b (HasKind (binary_kind op a.kind b.kind)) _ s (n + a.elements) f ok q (λ y of_y.
    keeps_answered w (binary_kind op a.kind b.kind) _ (binary_of op x y)
    (subst (λ k. AnswerOf (binary_kind op k b.kind) (binary_of op x y)) of_x (subst (λ k. AnswerOf (binary_kind op (kind_of x) k) (binary_of op x y)) of_y (kind-binary op x y)))))

and_case : (w : Context) (a b : Sense) → HasItsKind w a → HasItsKind w b → HasItsKind w (sense_at w (Expr-F.And a b))
and_case w a b p q s n f ok = keeps_test w a (HasKind kind.Int) _ s n f ok p (λ x of.
    keeps_one w (HasKind kind.Int) (is_true x) _ _ (keeps_test w b (HasKind kind.Int) _ s (n + a.elements) f ok q (λ y of_y. kind-truth (is_true y))) (kind-truth false))

or_case : (w : Context) (a b : Sense) → HasItsKind w a → HasItsKind w b → HasItsKind w (sense_at w (Expr-F.Or a b))
or_case w a b p q s n f ok = keeps_test w a (HasKind kind.Int) _ s n f ok p (λ x of.
    keeps_one w (HasKind kind.Int) (is_true x) _ _ (kind-truth true) (keeps_test w b (HasKind kind.Int) _ s (n + a.elements) f ok q (λ y of_y. kind-truth (is_true y))))

cond_case : (w : Context) (c a b : Sense) → HasItsKind w c → HasItsKind w a → HasItsKind w b → HasItsKind w (sense_at w (Expr-F.Cond c a b))
cond_case w c a b r p q s n f ok =
    let first = a.does s (n + c.elements) f in
    let second = b.does s (n + c.elements + a.elements) f in
    keeps_test w c (HasKind (joint a.kind b.kind)) _ s n f ok r (λ x of.
    keeps-then_do w Any (HasKind (joint a.kind b.kind)) (if is_true x then first else second) _
    (keeps_one w Any (is_true x) first second
    (keeps_weaker w (HasKind a.kind) Any first (λ v _. tt) (p s (n + c.elements) f ok))
    (keeps_weaker w (HasKind b.kind) Any second (λ v _. tt) (q s (n + c.elements + a.elements) f ok)))
    (λ v _. kind-in_kind (joint a.kind b.kind) _))

cast_case : (w : Context) (k : Kind) (a : Sense) → HasItsKind w a → HasItsKind w (sense_at w (Expr-F.Cast k a))
cast_case w k a p s n f ok = keeps_test w a (HasKind k) _ s n f ok p (λ v of. kind-in_kind k _)

-- the kind of every value is known from the text
pub has_its_kind : (w : Context) (x : Expr) → HasItsKind w (sense w x)
has_its_kind w = expr_ind (λ x. HasItsKind w (sense w x)) (record {
  literal = λ v. subst (HasItsKind w) (sym (sense-Literal w v)) (λ s n f ok. refl);
  iter = λ level. subst (HasItsKind w) (sym (sense-Iter w level)) (λ s n f ok. refl);
  local = λ x. subst (HasItsKind w) (sym (sense-Local w x)) (λ s n f ok. keeps_known w x (site_at s n f []) f (local_of f x) refl ok);
  elem = λ a subs h. subst (HasItsKind w) (sym (sense-Elem w a subs)) (λ s n f ok.
      keeps-then_do w (Within w a) (HasKind (array_kind w a)) (target_of w a (map (sense w) subs) s n f) _ (keeps_target w a subs h s n f ok) (λ is within. (within, λ v of. of)));
  unary = λ op a p. subst (HasItsKind w) (sym (sense-Unary w op a)) (unary_case w op (sense w a) p);
  binary = λ op a b p q. subst (HasItsKind w) (sym (sense-Binary w op a b)) (binary_case w op (sense w a) (sense w b) p q);
  both = λ a b p q. subst (HasItsKind w) (sym (sense-And w a b)) (and_case w (sense w a) (sense w b) p q);
  either = λ a b p q. subst (HasItsKind w) (sym (sense-Or w a b)) (or_case w (sense w a) (sense w b) p q);
  cond = λ c a b r p q. subst (HasItsKind w) (sym (sense-Cond w c a b)) (cond_case w (sense w c) (sense w a) (sense w b) r p q);
  cast = λ k a p. subst (HasItsKind w) (sym (sense-Cast w k a)) (cast_case w k (sense w a) p);
})

-- ---- statements

-- a local after it is set, or another one is
local_after : (ls : List (Option Value)) (x y : ℕ) (o : Option Value)
    → (unwrap_or (slice_get (slice_set ls x o) y) None ≡ unwrap_or (slice_get ls y) None) ⊎ ((x ≡ y) × (unwrap_or (slice_get (slice_set ls x o) y) None ≡ o))
local_after [] x y o = inl refl
local_after (l ∷ ls) zero zero o = inr (refl, refl)
local_after (l ∷ ls) zero (suc y) o = inl refl
local_after (l ∷ ls) (suc x) zero o = inl refl
local_after (l ∷ ls) (suc x) (suc y) o = ⊎_elim (λ h. inl h) (λ h. inr (ap suc h.0, h.1)) (local_after ls x y o)

frame_set : (w : Context) (f : Frame) (x : ℕ) (o : Option Value) → FrameOf w f → ((v : Value) → o ≡ Some v → HasKind (local_kind w x) v)
    → FrameOf w (with_local f x o)
frame_set w f x o ok of y v same =
    ⊎_elim (λ h. ok y v (sym h ∙ same)) (λ h. subst (λ z. HasKind (local_kind w z) v) h.0 (of v (sym h.1 ∙ same))) (local_after f.locals x y o)

frame_cleared : (w : Context) (xs : List ℕ) (f : Frame) → FrameOf w f → FrameOf w (cleared xs f)
frame_cleared w [] f p = p
frame_cleared w (x ∷ xs) f p = frame_cleared w xs (with_local f x None) (frame_set w f x None p (λ v same. absurd cc))

-- nothing is forbidden
abbrev pub AllowsAll : Context → Type 0
AllowsAll w = ((x : ℕ) → w.may_set x ≡ true) × ((a : ℕ) (k : Kind) → w.may_add a k ≡ true)

-- from a frame of right kinds to one
abbrev pub DoesKeep : Context → (Frame → Tree Frame) → Type 0
DoesKeep w does = (f : Frame) → FrameOf w f → Keeps w (FrameOf w) (does f)

abbrev pub StepKeeps : Context → Step → Type 0
StepKeeps w x = (at : List ℕ) → DoesKeep w (x.does at)

allowed_one : {X : Type 0} (w : Context) (P : X → Type 0) (t : Bool) (a b : Tree X) → t ≡ true → Keeps w P a → Keeps w P (if t then a else b)
allowed_one w P true a b h p = p
allowed_one w P false a b h p = absurd cc

keeps_list : (w : Context) (ss : List Stmt) → Each (λ x. StepKeeps w (step w x)) ss → (at : List ℕ) (k : ℕ) → DoesKeep w (does_list w ss at k)
keeps_list w [] h at k f ok = ok
keeps_list w (x ∷ ss) h at k f ok =
    keeps-then_do w (FrameOf w) (FrameOf w) ((step w x).does (at ++ k ∷ []) f) _ (h.0 (at ++ k ∷ []) f ok) (λ g ok_g. keeps_list w ss h.1 at (suc k) g ok_g)

keeps_scope : (w : Context) (ss : List Stmt) → Each (λ x. StepKeeps w (step w x)) ss → (at : List ℕ) (k : ℕ) → DoesKeep w (scope_of (map (step w) ss) at k)
keeps_scope w ss h at k f ok =
    keeps-then_do w (FrameOf w) (FrameOf w) (does_list w ss at k f) _ (keeps_list w ss h at k f ok)
    (λ g ok_g. frame_cleared w (declared_in (map (step w) ss)) g ok_g)

keeps_turns : (w : Context) (is : List ℤ) (body : Frame → Tree Frame) → DoesKeep w body → DoesKeep w (turns is body)
keeps_turns w [] body h f ok = ok
keeps_turns w (i ∷ is) body h f ok =
    keeps-then_do w (FrameOf w) (FrameOf w) (body (inside f i)) _ (h (inside f i) ok) (λ g ok_g. keeps_turns w is body h (outside f g) ok_g)

keeps_looping : (w : Context) (test : Test) (by : ℤ) (start limit : Expr) (body : Frame → Tree Frame) (sp : Spot) → DoesKeep w body
    → DoesKeep w (looping test by (sense w start) (sense w limit) body sp)
keeps_looping w test by start limit body sp h f ok =
    keeps-then_do w (HasKind (sense w start).kind) (FrameOf w) ((sense w start).does sp 0 f) _ (has_its_kind w start sp 0 f ok) (λ a _.
    keeps-then_do w (HasKind (sense w limit).kind) (FrameOf w) ((sense w limit).does sp (sense w start).elements f) _ (has_its_kind w limit sp (sense w start).elements f ok) (λ b _.
    keeps_turns w _ body h f ok))

keeps_assignment : (w : Context) (a : ℕ) (subs : List Expr) (value : Expr) (sp : Spot) → DoesKeep w (assignment w a (map (sense w) subs) (sense w value) sp)
keeps_assignment w a subs value sp f ok =
    let n = suc (elements_in (map (sense w) subs)) in
    keeps-then_do w (Within w a) (FrameOf w) (target_of w a (map (sense w) subs) sp 0 f) _ (keeps_target w a subs (each_all (λ x. HasItsKind w (sense w x)) (has_its_kind w) subs) sp 0 f ok) (λ is within.
    keeps-then_do w (HasKind (sense w value).kind) (FrameOf w) ((sense w value).does sp n f) _ (has_its_kind w value sp n f ok) (λ v _. (within, kind-in_kind (array_kind w a) _, ok)))

keeps_addition : (w : Context) → AllowsAll w → (a : ℕ) (atomic : Bool) (n : ℕ) (value : Expr) (sp : Spot) (is : List ℕ) → Within w a is → DoesKeep w (addition w a atomic n (sense w value) sp is)
keeps_addition w all a false n value sp is within f ok = (
  within,
  λ old of_old.
      keeps-then_do w (HasKind (sense w value).kind) (FrameOf w) ((sense w value).does sp (suc n) f) _ (has_its_kind w value sp (suc n) f ok) (λ v of_v.
      keeps-then_do w (HasKind (binary_kind Add (kind_of old) (kind_of v))) (FrameOf w) (answered (site_at sp n f is) (binary_of Add old v)) _
      (keeps_answered w (binary_kind Add (kind_of old) (kind_of v)) (site_at sp n f is) (binary_of Add old v) (kind-binary Add old v))
      (λ sum _. (within, kind-in_kind (array_kind w a) _, ok))),
)
keeps_addition w all a true n value sp is within f ok =
    keeps-then_do w (HasKind (sense w value).kind) (FrameOf w) ((sense w value).does sp (suc n) f) _ (has_its_kind w value sp (suc n) f ok) (λ v of_v.
    allowed_one w (FrameOf w) (w.may_add a (array_kind w a)) _ _ (all.1 a (array_kind w a)) (within, kind-in_kind (array_kind w a) _, ok))

keeps_adding : (w : Context) → AllowsAll w → (a : ℕ) (atomic : Bool) (subs : List Expr) (value : Expr) (sp : Spot) → DoesKeep w (adding w a atomic (map (sense w) subs) (sense w value) sp)
keeps_adding w all a atomic subs value sp f ok =
    keeps-then_do w (Within w a) (FrameOf w) (target_of w a (map (sense w) subs) sp 0 f) _ (keeps_target w a subs (each_all (λ x. HasItsKind w (sense w x)) (has_its_kind w) subs) sp 0 f ok)
    (λ is within. keeps_addition w all a atomic (elements_in (map (sense w) subs)) value sp is within f ok)

-- what a local may be set to
abbrev Fitting : Kind → Option Value → Type 0
Fitting k o = (v : Value) → o ≡ Some v → HasKind k v

converted_fits : (k : Kind) (v : Value) → Fitting k (Some (converted k v))
converted_fits k v u same = ap (λ o. kind_of (unwrap_or o (Int (pos 0)))) (sym same) ∙ kind-in_kind k _

keeps_initial : (w : Context) (k : Kind) (sp : Spot) (init : Option Expr) (f : Frame) → FrameOf w f → Keeps w (Fitting k) (initial w k sp init f)
keeps_initial w k sp None f ok = λ v same. absurd cc
keeps_initial w k sp (Some x) f ok =
    keeps-then_do w (HasKind (sense w x).kind) (Fitting k) ((sense w x).does sp 0 f) _ (has_its_kind w x sp 0 f ok) (λ v _. converted_fits k v)

keeps_declaring : (w : Context) (x : ℕ) (init : Option Expr) (sp : Spot) → DoesKeep w (declaring w x init sp)
keeps_declaring w x init sp f ok =
    keeps-then_do w (Fitting (local_kind w x)) (FrameOf w) (initial w (local_kind w x) sp init (with_local f x None)) _
    (keeps_initial w (local_kind w x) sp init (with_local f x None) (frame_set w f x None ok (λ v same. absurd cc)))
    (λ o fitting. frame_set w f x o ok fitting)

keeps_setting : (w : Context) → AllowsAll w → (x : ℕ) (value : Expr) (sp : Spot) → DoesKeep w (setting w x (sense w value) sp)
keeps_setting w all x value sp f ok =
    keeps-then_do w (HasKind (sense w value).kind) (FrameOf w) ((sense w value).does sp 0 f) _ (has_its_kind w value sp 0 f ok) (λ v _.
    allowed_one w (FrameOf w) (w.may_set x) _ _ (all.0 x) (frame_set w f x (Some (converted (local_kind w x) v)) ok (converted_fits (local_kind w x) v)))

keeps_branching : (w : Context) (test : Expr) (body otherwise : Frame → Tree Frame) (sp : Spot) → DoesKeep w body → DoesKeep w otherwise
    → DoesKeep w (branching (sense w test) body otherwise sp)
keeps_branching w test body otherwise sp p q f ok =
    keeps-then_do w (HasKind (sense w test).kind) (FrameOf w) ((sense w test).does sp 0 f) _ (has_its_kind w test sp 0 f ok)
    (λ v _. keeps_one w (FrameOf w) (is_true v) (body f) (otherwise f) (p f ok) (q f ok))

-- a statement gives elements and locals values of their kinds, and does nothing forbidden
pub step_keeps : (w : Context) → AllowsAll w → (x : Stmt) → StepKeeps w (step w x)
step_keeps w all = stmt_ind (λ x. StepKeeps w (step w x)) (record {
  assign = λ place a subs value. subst (StepKeeps w) (sym (step-Assign w place a subs value)) (λ at. keeps_assignment w a subs value (spot place at));
  add_to = λ place a subs value atomic. subst (StepKeeps w) (sym (step-AddTo w place a subs value atomic)) (λ at. keeps_adding w all a atomic subs value (spot place at));
  declare = λ place x init. subst (StepKeeps w) (sym (step-Declare w place x init)) (λ at. keeps_declaring w x init (spot place at));
  set_local = λ place x value. subst (StepKeeps w) (sym (step-SetLocal w place x value)) (λ at. keeps_setting w all x value (spot place at));
  choice = λ place test body otherwise p q. subst (StepKeeps w) (sym (step-If w place test body otherwise)) (λ at.
      keeps_branching w test _ _ (spot place at) (keeps_scope w body p at 0) (keeps_scope w otherwise q at (length (map (step w) body))));
  loop = λ l p. subst (StepKeeps w) (sym (step-For w (roll-Loop l))) (λ at f ok.
      subst (Keeps w (FrameOf w)) (sym (loop-roll w l at f)) (keeps_looping w l.test l.step l.start l.limit _ (spot l.place at) (keeps_scope w l.body p at 0) f ok));
  block = λ body p. subst (StepKeeps w) (sym (step-Block w body)) (λ at. keeps_scope w body p at 0);
})

no_values : (ls : List LocalInfo) (x : ℕ) → unwrap_or (slice_get (map (λ (l : LocalInfo). let o : Option Value = None in o) ls) x) None ≡ None
no_values [] x = refl
no_values (l ∷ ls) zero = refl
no_values (l ∷ ls) (suc x) = no_values ls x

first_frame_of : (u : Program) → FrameOf (source_context u) (first_frame u)
first_frame_of u x v same = absurd (none_is_some v (sym (no_values u.locals x) ∙ same))
  where
    none_is_some : (v : Value) → None ≡ Some v → ⊥
    none_is_some v h = cc

-- a program gives elements and locals values of their kinds, and does nothing forbidden
pub program_keeps : (u : Program) → Keeps (source_context u) (FrameOf (source_context u)) (program_of u)
program_keeps u =
    keeps_list (source_context u) u.body (each_all (λ x. StepKeeps (source_context u) (step (source_context u) x)) (step_keeps (source_context u) (λ x. refl, λ a k. refl)) u.body) [] 0
    (first_frame u) (first_frame_of u)
