-- All accesses of an expression are made by its references, and what it gives is the value of its form.
use Rattle.std.proofs.Common.{◌≡◌, refl, ap, sym, subst, arith, ℕ, suc, ◌+◌, if◌then◌else◌, List, [], ◌∷◌, ◌++◌, map, ℤ, Option, Some, None, Ok, Err, inl}
use Rattle.std.proofs.lemmas.List.{append-nil}
use Rattle.species_ast.specs.declared.tree.Kind.{Kind}
use Rattle.species_ast.specs.declared.tree.Value.{Value}
use Rattle.species_ast.specs.declared.tree.Unary.{Unary}
use Rattle.species_ast.specs.declared.tree.Binary.{Binary}
use Rattle.species_ast.specs.declared.tree.Expr.{Expr}
use Rattle.species_ast.specs.declared.tree.Expr.TheOpen.{Expr-F}
use Rattle.species_ast.specs.Operators.{Answer, is_true, binary_of, unary_of}
use Rattle.species_ast.specs.Accesses.{Access, access, Site, Direction, Reads}
use Rattle.species_ast.specs.Evaluation.{Frame, Context, Spot, Sense, sense, sense_at, local_of, known, answered, tested, indices_in, sizes_of, site_at, element_at, values_of, target_of, elements_in}
use Rattle.species_ast.specs.Scope.Forms.{Form, form_of, form_step}
use Rattle.species_ast.specs.Scope.References.{Where, reference, perhaps, Elements, no_elements, then_elements, on_condition, all_elements, element_with, elements_at, elements_of}
use Rattle.species_ast.proofs.Folds.{fold_expr-Literal, fold_expr-Iter, fold_expr-Local, fold_expr-Elem, fold_expr-Unary, fold_expr-Binary, fold_expr-And, fold_expr-Or, fold_expr-Cond, fold_expr-Cast}
use Rattle.species_ast.proofs.Induction.{Each, expr_ind}
use Rattle.species_ast.proofs.Paras.{para_expr-Literal, para_expr-Iter, para_expr-Local, para_expr-Unary, para_expr-Binary, para_expr-And, para_expr-Or, para_expr-Cond, para_expr-Cast}
use Rattle.species_ast.proofs.ReferenceLaws.{elements_of-Elem}
use Rattle.species_ast.proofs.RunLaws.{sense-Literal, sense-Iter, sense-Local, sense-Elem, sense-Unary, sense-Binary, sense-And, sense-Or, sense-Cond, sense-Cast}
use Rattle.species_runs.specs.Every.{Every, Anything}
use Rattle.species_runs.specs.Indices.{AreIndices}
use Rattle.species_runs.proofs.EveryLaws.{every-then_do, every_weaker, every_one}
use Rattle.species_runs.proofs.IndexLaws.{indices_are}
use Rattle.species_occurrences.specs.Iterators.{AreInts, AreTaken}
use Rattle.species_occurrences.specs.Affine.{IsValueOf, AreValuesOf, AreIndicesOf}
use Rattle.species_occurrences.specs.Made.{IsMade}
use Rattle.species_occurrences.proofs.AffineLaws.{IsAnswerOf, value_literal, value_iter, binary_answer, unary_answer, indices_of}
use Rattle.species_occurrences.proofs.MadeLaws.{every_left, every_right, every_then}

-- ---- where something is evaluated

-- the frame and the text agree on where they are
abbrev pub Stands : List ℕ → Frame → Where → Type 0
Stands at f g = (at ≡ g.statement) × AreTaken g.path f.iters × AreInts f.iters

-- an expression with this form and these elements does this
abbrev pub Claim : Context → Option Form → Elements → Sense → Type 0
Claim w o r x = (x.elements ≡ r.count)
    × ((s : Spot) (n : ℕ) (f : Frame) (g : Where) → Stands s.statement f g → Every (IsMade (sizes_of w) f.iters (r.references g n)) (IsValueOf o f.iters) (x.does s n f))

abbrev pub ExprMade : Context → Expr → Type 0
ExprMade w x = Claim w (form_of x) (elements_of x) (sense w x)

from_parts : (w : Context) (x : Expr) (o : Option Form) (r : Elements) (y : Sense) → form_of x ≡ o → elements_of x ≡ r → sense w x ≡ y → Claim w o r y → ExprMade w x
from_parts w x o r y p q s h =
    subst (λ z. Claim w z (elements_of x) (sense w x)) (sym p) (subst (λ z. Claim w o z (sense w x)) (sym q) (subst (λ z. Claim w o r z) (sym s) h))

-- indices that are those of an element with these forms
abbrev pub AreIndicesFor : (ℕ → List ℕ) → ℕ → List (Option Form) → List ℤ → List ℕ → Type 0
AreIndicesFor sizes a forms iters is = AreIndices (sizes a) is × AreIndicesOf forms iters is

-- an access is made by its reference
pub made_here : (w : Context) (s : Spot) (f : Frame) (g : Where) (n k : ℕ) (d : Direction) (a : ℕ) (forms : List (Option Form)) (is : List ℕ) (v : Value)
    → Stands s.statement f g → n ≡ k → AreIndicesFor (sizes_of w) a forms f.iters is
    → IsMade (sizes_of w) f.iters (reference g k d a forms ∷ []) (access (site_at s n f is) d (element_at w a is) v)
made_here w s f g n k d a forms is v st same h =
    (inl (record { statement = st.0; number = same; direction = refl; element = refl; indices = h.0; forms = h.1; iterators = st.1 }), ([], sym (append-nil f.iters)))

pub every_answered : (P : Access → Type 0) (o : Option Form) (iters : List ℤ) (s : Site) (a : Answer) → IsAnswerOf o iters a → Every P (IsValueOf o iters) (answered s a)
every_answered P o iters s (Ok v) h = h
every_answered P o iters s (Err why) h = tt

every_known : (P : Access → Type 0) (s : Site) (o : Option Value) → Every P Anything (known s o)
every_known P s (Some v) = tt
every_known P s None = tt

-- ---- subscripts

pub count_same : (w : Context) (es : List Expr) → Each (ExprMade w) es → elements_in (map (sense w) es) ≡ (all_elements (map elements_of es)).count
count_same w [] h = refl
count_same w (x ∷ es) h = (λ i. h.0.0 i + count_same w es h.1 i)

every_values : (w : Context) (es : List Expr) → Each (ExprMade w) es → (s : Spot) (n : ℕ) (f : Frame) (g : Where) → Stands s.statement f g
    → Every (IsMade (sizes_of w) f.iters ((all_elements (map elements_of es)).references g n)) (AreValuesOf (map form_of es) f.iters) (values_of (map (sense w) es) s n f)
every_values w [] h s n f g st = tt
every_values w (x ∷ es) h s n f g st =
    let z = sizes_of w in
    let k = n + (elements_of x).count in
    let others = (all_elements (map elements_of es)).references g k in
    let rest : Every (IsMade z f.iters others) (AreValuesOf (map form_of es) f.iters) (values_of (map (sense w) es) s (n + (sense w x).elements) f) =
    subst (λ c. Every (IsMade z f.iters ((all_elements (map elements_of es)).references g (n + c))) (AreValuesOf (map form_of es) f.iters) (values_of (map (sense w) es) s (n + (sense w x).elements) f)) h.0.0
    (every_values w es h.1 s (n + (sense w x).elements) f g st)
    in
    every_then z f.iters ((elements_of x).references g n) others (IsValueOf (form_of x) f.iters) (AreValuesOf (map form_of (x ∷ es)) f.iters) ((sense w x).does s n f) _ (h.0.1 s n f g st)
    (λ v of. every-then_do (IsMade z f.iters others) (AreValuesOf (map form_of es) f.iters) (AreValuesOf (map form_of (x ∷ es)) f.iters)
    (values_of (map (sense w) es) s (n + (sense w x).elements) f) _ rest (λ vs ofs. (of, ofs)))

every_tested : (P : Access → Type 0) (w : Context) (a : ℕ) (forms : List (Option Form)) (iters : List ℤ) (s : Site) (vs : List Value) (o : Option (List ℕ))
    → indices_in (sizes_of w a) vs ≡ o → AreValuesOf forms iters vs → Every P (AreIndicesFor (sizes_of w) a forms iters) (tested s o)
every_tested P w a forms iters s vs (Some is) same h = (indices_are (sizes_of w a) vs is same, indices_of (sizes_of w a) forms iters vs is same h)
every_tested P w a forms iters s vs None same h = tt

pub every_target : (w : Context) (a : ℕ) (es : List Expr) → Each (ExprMade w) es → (s : Spot) (n : ℕ) (f : Frame) (g : Where) → Stands s.statement f g
    → Every (IsMade (sizes_of w) f.iters ((all_elements (map elements_of es)).references g n)) (AreIndicesFor (sizes_of w) a (map form_of es) f.iters) (target_of w a (map (sense w) es) s n f)
every_target w a es h s n f g st =
    let P = IsMade (sizes_of w) f.iters ((all_elements (map elements_of es)).references g n) in
    every-then_do P (AreValuesOf (map form_of es) f.iters) (AreIndicesFor (sizes_of w) a (map form_of es) f.iters) (values_of (map (sense w) es) s n f) _ (every_values w es h s n f g st)
    (λ vs of. every_tested P w a (map form_of es) f.iters _ vs (indices_in (sizes_of w a) vs) refl of)

-- ---- each variant

elem_case : (w : Context) (a : ℕ) (subs : List Expr) → Each (ExprMade w) subs
    → Claim w None (element_with a (map form_of subs) (all_elements (map elements_of subs))) (sense_at w (Expr-F.Elem a (map (sense w) subs)))
elem_case w a subs h = (
  ap suc (count_same w subs h),
  λ s n f g st.
      every_then (sizes_of w) f.iters ((all_elements (map elements_of subs)).references g n) _ (AreIndicesFor (sizes_of w) a (map form_of subs) f.iters) (IsValueOf None f.iters) (target_of w a (map (sense w) subs) s n f) _
      (every_target w a subs h s n f g st)
      (λ is of v. (made_here w s f g _ _ Reads a (map form_of subs) is v st (ap (λ k. n + k) (count_same w subs h)) of, tt)),
)

unary_case : (w : Context) (op : Unary) (o : Option Form) (r : Elements) (x : Sense) → Claim w o r x
    → Claim w (form_step (Expr-F.Unary op o)) r (sense_at w (Expr-F.Unary op x))
unary_case w op o r x h = (
  h.0,
  λ s n f g st.
      let P = IsMade (sizes_of w) f.iters (r.references g n) in
      every-then_do P (IsValueOf o f.iters) (IsValueOf (form_step (Expr-F.Unary op o)) f.iters) (x.does s n f) _ (h.1 s n f g st)
      (λ v of. every_answered P (form_step (Expr-F.Unary op o)) f.iters _ (unary_of op v) (unary_answer op o f.iters v of)),
)

-- the second of two, behind the elements of the first
second : (w : Context) (o p : Option Form) (a b : Elements) (x y : Sense) → Claim w o a x → Claim w p b y → (s : Spot) (n : ℕ) (f : Frame) (g : Where)
    → Stands s.statement f g → Every (IsMade (sizes_of w) f.iters (b.references g (n + a.count))) (IsValueOf p f.iters) (y.does s (n + x.elements) f)
second w o p a b x y h k s n f g st =
    subst (λ m. Every (IsMade (sizes_of w) f.iters (b.references g (n + m))) (IsValueOf p f.iters) (y.does s (n + x.elements) f)) h.0 (k.1 s (n + x.elements) f g st)

binary_case : (w : Context) (op : Binary) (o p : Option Form) (a b : Elements) (x y : Sense) → Claim w o a x → Claim w p b y
    → Claim w (form_step (Expr-F.Binary op o p)) (then_elements a b) (sense_at w (Expr-F.Binary op x y))
binary_case w op o p a b x y h k = (
  (λ i. h.0 i + k.0 i),
  λ s n f g st.
      let z = sizes_of w in
      let P = IsMade z f.iters (b.references g (n + a.count)) in
      let R = IsValueOf (form_step (Expr-F.Binary op o p)) f.iters in
      every_then z f.iters (a.references g n) (b.references g (n + a.count)) (IsValueOf o f.iters) R (x.does s n f) _ (h.1 s n f g st)
      (λ v of. every-then_do P (IsValueOf p f.iters) R (y.does s (n + x.elements) f) _ (second w o p a b x y h k s n f g st)
      (λ u of_u. every_answered P (form_step (Expr-F.Binary op o p)) f.iters _ (binary_of op v u) (binary_answer op o p f.iters v u of of_u))),
)

and_case : (w : Context) (o p : Option Form) (a b : Elements) (x y : Sense) → Claim w o a x → Claim w p b y → Claim w None (then_elements a (on_condition b)) (sense_at w (Expr-F.And x y))
and_case w o p a b x y h k = (
  (λ i. h.0 i + k.0 i),
  λ s n f g st.
      let z = sizes_of w in
      let P = IsMade z f.iters (b.references (perhaps g) (n + a.count)) in
      every_then z f.iters (a.references g n) (b.references (perhaps g) (n + a.count)) (IsValueOf o f.iters) (IsValueOf None f.iters) (x.does s n f) _ (h.1 s n f g st)
      (λ v of. every_one P (IsValueOf None f.iters) (is_true v) _ _
      (λ _. every-then_do P (IsValueOf p f.iters) (IsValueOf None f.iters) (y.does s (n + x.elements) f) _ (second w o p a b x y h k s n f (perhaps g) st) (λ u of_u. tt)) (λ _. tt)),
)

or_case : (w : Context) (o p : Option Form) (a b : Elements) (x y : Sense) → Claim w o a x → Claim w p b y → Claim w None (then_elements a (on_condition b)) (sense_at w (Expr-F.Or x y))
or_case w o p a b x y h k = (
  (λ i. h.0 i + k.0 i),
  λ s n f g st.
      let z = sizes_of w in
      let P = IsMade z f.iters (b.references (perhaps g) (n + a.count)) in
      every_then z f.iters (a.references g n) (b.references (perhaps g) (n + a.count)) (IsValueOf o f.iters) (IsValueOf None f.iters) (x.does s n f) _ (h.1 s n f g st)
      (λ v of. every_one P (IsValueOf None f.iters) (is_true v) _ _ (λ _. tt)
      (λ _. every-then_do P (IsValueOf p f.iters) (IsValueOf None f.iters) (y.does s (n + x.elements) f) _ (second w o p a b x y h k s n f (perhaps g) st) (λ u of_u. tt))),
)

three : (a b c d e f : ℕ) → a ≡ d → b ≡ e → c ≡ f → a + b + c ≡ d + (e + f)
three a b c d e f p q r = omega (arith, p, q, r)

cond_case : (w : Context) (o p q : Option Form) (c a b : Elements) (z x y : Sense) → Claim w o c z → Claim w p a x → Claim w q b y
    → Claim w None (then_elements c (then_elements (on_condition a) (on_condition b))) (sense_at w (Expr-F.Cond z x y))
cond_case w o p q c a b z x y l h k = (
  three z.elements x.elements y.elements c.count a.count b.count l.0 h.0 k.0,
  λ s n f g st.
      let sizes = sizes_of w in
      let first = a.references (perhaps g) (n + c.count) in
      let other = b.references (perhaps g) (n + c.count + a.count) in
      let P = IsMade sizes f.iters (first ++ other) in
      let one : Every P Anything (x.does s (n + z.elements) f) =
      every_weaker P P (IsValueOf p f.iters) Anything (x.does s (n + z.elements) f) (λ e m. m) (λ v _. tt)
      (every_left sizes f.iters first other (IsValueOf p f.iters) (x.does s (n + z.elements) f) (second w o p c a z x l h s n f (perhaps g) st))
      in
      let by : Every (IsMade sizes f.iters other) (IsValueOf q f.iters) (y.does s (n + z.elements + x.elements) f) =
      subst (λ m. Every (IsMade sizes f.iters (b.references (perhaps g) m)) (IsValueOf q f.iters) (y.does s (n + z.elements + x.elements) f)) (λ i. n + l.0 i + h.0 i)
      (k.1 s (n + z.elements + x.elements) f (perhaps g) st)
      in
      let two : Every P Anything (y.does s (n + z.elements + x.elements) f) =
      every_weaker P P (IsValueOf q f.iters) Anything (y.does s (n + z.elements + x.elements) f) (λ e m. m) (λ v _. tt)
      (every_right sizes f.iters first other (IsValueOf q f.iters) (y.does s (n + z.elements + x.elements) f) by)
      in
      every_then sizes f.iters (c.references g n) (first ++ other) (IsValueOf o f.iters) (IsValueOf None f.iters) (z.does s n f) _ (l.1 s n f g st)
      (λ v of. every-then_do P Anything (IsValueOf None f.iters) (if is_true v then x.does s (n + z.elements) f else y.does s (n + z.elements + x.elements) f) _
      (every_one P Anything (is_true v) _ _ (λ _. one) (λ _. two)) (λ u _. tt)),
)

cast_case : (w : Context) (k : Kind) (o : Option Form) (r : Elements) (x : Sense) → Claim w o r x → Claim w None r (sense_at w (Expr-F.Cast k x))
cast_case w k o r x h =
    (h.0, λ s n f g st. every-then_do (IsMade (sizes_of w) f.iters (r.references g n)) (IsValueOf o f.iters) (IsValueOf None f.iters) (x.does s n f) _ (h.1 s n f g st) (λ v of. tt))

-- the law of expressions
pub expr_made : (w : Context) (x : Expr) → ExprMade w x
expr_made w = expr_ind (ExprMade w) (record {
  literal = λ v. from_parts w _ _ no_elements _ (fold_expr-Literal form_step v) (para_expr-Literal elements_at v) (sense-Literal w v) (refl, λ s n f g st. value_literal v f.iters);
  iter = λ level. from_parts w _ _ no_elements _ (fold_expr-Iter form_step level) (para_expr-Iter elements_at level) (sense-Iter w level) (refl, λ s n f g st. value_iter level f.iters st.2);
  local = λ x. from_parts w _ _ no_elements _ (fold_expr-Local form_step x) (para_expr-Local elements_at x) (sense-Local w x)
      (refl, λ s n f g st. every_known (IsMade (sizes_of w) f.iters []) (site_at s n f []) (local_of f x));
  elem = λ a subs h. from_parts w _ _ _ _ (fold_expr-Elem form_step a subs) (elements_of-Elem a subs) (sense-Elem w a subs) (elem_case w a subs h);
  unary = λ op a h. from_parts w _ _ _ _ (fold_expr-Unary form_step op a) (para_expr-Unary elements_at op a) (sense-Unary w op a) (unary_case w op (form_of a) (elements_of a) (sense w a) h);
  binary = λ op a b h k. from_parts w _ _ _ _ (fold_expr-Binary form_step op a b) (para_expr-Binary elements_at op a b) (sense-Binary w op a b)
      (binary_case w op (form_of a) (form_of b) (elements_of a) (elements_of b) (sense w a) (sense w b) h k);
  both = λ a b h k. from_parts w _ _ _ _ (fold_expr-And form_step a b) (para_expr-And elements_at a b) (sense-And w a b)
      (and_case w (form_of a) (form_of b) (elements_of a) (elements_of b) (sense w a) (sense w b) h k);
  either = λ a b h k. from_parts w _ _ _ _ (fold_expr-Or form_step a b) (para_expr-Or elements_at a b) (sense-Or w a b)
      (or_case w (form_of a) (form_of b) (elements_of a) (elements_of b) (sense w a) (sense w b) h k);
  cond = λ c a b l h k. from_parts w _ _ _ _ (fold_expr-Cond form_step c a b) (para_expr-Cond elements_at c a b) (sense-Cond w c a b)
      (cond_case w (form_of c) (form_of a) (form_of b) (elements_of c) (elements_of a) (elements_of b) (sense w c) (sense w a) (sense w b) l h k);
  cast = λ k a h. from_parts w _ _ _ _ (fold_expr-Cast form_step k a) (para_expr-Cast elements_at k a) (sense-Cast w k a) (cast_case w k (form_of a) (elements_of a) (sense w a) h);
})
