-- The walk over the statements of a unit: the loops that are left, and what statements become.
use Rattle.std.proofs.Common.{◌≡◌, ◌∙◌, refl, sym, ap, subst, arith, ℕ, zero, suc, ◌+◌, ◌-◌, ◌<◌, ◌≤◌, Bool, Option, Some, None, List, [], ◌∷◌, ◌++◌, map, drop, take, take_all, length, get_or, append_assoc}
use Rattle.std.specs.Prelude.{MatchOption}
use Rattle.std.proofs.lemmas.List.{map-append, take_more}
use Rattle.species_ast.specs.declared.tree.Expr.{Expr}
use Rattle.species_ast.specs.declared.tree.Stmt.{Stmt}
use Rattle.species_ast.specs.declared.tree.Stmt.TheVariants as stmt
use Rattle.species_ast.specs.declared.tree.Loop.{Loop, out-Loop}
use Rattle.species_ast.specs.declared.tree.Unit.{Unit as Program}
use Rattle.species_ast.specs.Scope.Loops.{Standing, numbered, standing_in, list_loops, loops_in}
use Rattle.species_ast.specs.Line.{Line}
use Rattle.species_ast.specs.Scope.Hulls.{Range, range_of}
use Rattle.species_arcs.specs.declared.plans.Nest.{Nest}
use Rattle.species_classify.specs.Plans.{IsPlan}
use Rattle.species_notation.specs.declared.given.Names.{Names}
use Rattle.species_annotate.specs.Annotated.{Around, within, plan_line, lined, names_in, BecomesStmt, BecomesBody, BecomeAll, assign, add_to, declare, set_local, choice, block, loop, parallel, sequential, none, more}
use Rattle.species_annotate.specs.Loops.{Head, head_at, heads_in, heads_in_list, heads_inside, LoopsLeft, IsPlanOfFirst}
use Rattle.species_annotate.proofs.HeadLemmas.{heads-If, heads-Block, heads-For, heads-Assign, heads-AddTo, heads-Declare, heads-SetLocal}
use Rattle.species_annotate.proofs.NameLemmas.{Adds, names_more}

-- ---- the loops that are left

pub left_If : (x : Stmt) (place : ℕ) (test : Expr) (body otherwise : List Stmt) (s : Standing) (left rest : List Head) → x ≡ stmt.If place test body otherwise → left ≡ heads_in x s ++ rest
    → left ≡ heads_in_list body s 0 ++ (heads_in_list otherwise s (length body) ++ rest)
left_If x place test body otherwise s left rest is h =
    h ∙ ap (λ l. l ++ rest) (heads-If x place test body otherwise s is) ∙ append_assoc (heads_in_list body s 0) (heads_in_list otherwise s (length body)) rest

pub left_Block : (x : Stmt) (body : List Stmt) (s : Standing) (left rest : List Head) → x ≡ stmt.Block body → left ≡ heads_in x s ++ rest → left ≡ heads_in_list body s 0 ++ rest
left_Block x body s left rest is h = h ∙ ap (λ l. l ++ rest) (heads-Block x body s is)

pub left_For : (x : Stmt) (head : Loop) (s : Standing) (left rest : List Head) → x ≡ stmt.For head → left ≡ heads_in x s ++ rest
    → left ≡ record { loop = head; path = s.around.path } ∷ (heads_inside head s ++ rest)
left_For x head s left rest is h = h ∙ ap (λ l. l ++ rest) (heads-For x head s is)

pub left_none : (x : Stmt) (s : Standing) (left rest : List Head) → heads_in x s ≡ [] → left ≡ heads_in x s ++ rest → left ≡ rest
left_none x s left rest empty h = h ∙ ap (λ l. l ++ rest) empty

-- of the statements from one on, the first
pub left_next : (all : List Stmt) (i : ℕ) (x : Stmt) (s : Standing) (k : ℕ) (left rest : List Head) → x ≡ get_or all i x → i < length all → left ≡ heads_in_list (drop i all) s (k + i) ++ rest
    → left ≡ heads_in x (numbered s (k + i)) ++ (heads_in_list (drop (i + 1) all) s (k + (i + 1)) ++ rest)
left_next all i x s k left rest at within h =
    let next : suc (k + i) ≡ k + (i + 1) = omega arith in
    let one : suc i ≡ i + 1 = omega arith in
    h ∙ ap (λ l. heads_in_list l s (k + i) ++ rest) (dropped all i x at within ∙ ap (λ n. x ∷ drop n all) one)
    ∙ ap (λ l. l ++ rest) (map-append head_at (loops_in x (numbered s (k + i))) (list_loops (map loops_in (drop (i + 1) all)) s (suc (k + i))))
    ∙ append_assoc (heads_in x (numbered s (k + i))) (heads_in_list (drop (i + 1) all) s (suc (k + i))) rest
    ∙ ap (λ n. heads_in x (numbered s (k + i)) ++ (heads_in_list (drop (i + 1) all) s n ++ rest)) next
  where
    dropped : (xs : List Stmt) (n : ℕ) (y : Stmt) → y ≡ get_or xs n y → n < length xs → drop n xs ≡ y ∷ drop (suc n) xs
    dropped [] n y is b = absurd (omega (arith, b))
    dropped (z ∷ xs) zero y is b = ap (λ v. v ∷ xs) (sym is)
    dropped (z ∷ xs) (suc n) y is b = dropped xs n y is (omega (arith, b))

pub left_end : (all : List Stmt) (i : ℕ) (s : Standing) (k : ℕ) (left rest : List Head) → length all ≤ i → left ≡ heads_in_list (drop i all) s (k + i) ++ rest → left ≡ rest
left_end all i s k left rest past h = h ∙ ap (λ l. heads_in_list l s (k + i) ++ rest) (none_left all i past)
  where
    none_left : (xs : List Stmt) (n : ℕ) → length xs ≤ n → drop n xs ≡ []
    none_left [] zero b = refl
    none_left [] (suc n) b = refl
    none_left (x ∷ xs) zero b = absurd (omega (arith, b))
    none_left (x ∷ xs) (suc n) b = none_left xs n (omega (arith, b))

-- ---- what statements become

become_one_more : (u : Program) (w : Around) (xs ys : List Stmt) (x y : Stmt) → BecomeAll u w xs ys → BecomesStmt u w x y → BecomeAll u w (xs ++ x ∷ []) (ys ++ y ∷ [])
become_one_more u w xs ys x y (none _) k = more w x y [] [] k (none w)
become_one_more u w xs ys x y (more _ a b rest others h hs) k = more w a b (rest ++ x ∷ []) (others ++ y ∷ []) h (become_one_more u w rest others x y hs k)

pub become_next : (u : Program) (w : Around) (all : List Stmt) (i : ℕ) (x y : Stmt) (old new : List Stmt) → x ≡ get_or all i x → i < length all → new ≡ old ++ y ∷ []
    → BecomeAll u w (take i all) old → BecomesStmt u w x y → BecomeAll u w (take (i + 1) all) new
become_next u w all i x y old new at within added h k =
    let items : take (i + 1) all ≡ take i all ++ x ∷ [] = take_more all i x within ∙ ap (λ z. take i all ++ z ∷ []) (sym at) in
    subst (λ l. BecomeAll u w l new) (sym items) (subst (BecomeAll u w (take i all ++ x ∷ [])) (sym added) (become_one_more u w (take i all) old x y h k))

pub become_end : (u : Program) (w : Around) (all : List Stmt) (i : ℕ) (new : List Stmt) → length all ≤ i → BecomeAll u w (take i all) new → BecomeAll u w all new
become_end u w all i new past h = subst (λ l. BecomeAll u w l new) (take_all i all past) h

-- ---- what is walked past

-- past the loops in statements of a list
abbrev pub Passes : List Stmt → List Head → List Head → Type 0
Passes xs old new = (s : Standing) (k : ℕ) (rest : List Head) → old ≡ heads_in_list xs s k ++ rest → new ≡ rest

-- .. and in a statement
abbrev pub PassesOne : Stmt → List Head → List Head → Type 0
PassesOne x old new = (s : Standing) (rest : List Head) → old ≡ heads_in x s ++ rest → new ≡ rest

pub left_begin : (all : List Stmt) (s : Standing) (k : ℕ) (left rest : List Head) → left ≡ heads_in_list all s k ++ rest → left ≡ heads_in_list (drop 0 all) s (k + 0) ++ rest
left_begin all s k left rest h = let same : k ≡ k + 0 = omega arith in h ∙ ap (λ n. heads_in_list all s n ++ rest) same

pub pass_If : (x : Stmt) (place : ℕ) (test : Expr) (body otherwise p q : List Stmt) (old mid new : List Head) → x ≡ stmt.If place test body otherwise → p ≡ body → q ≡ otherwise
    → Passes p old mid → Passes q mid new → PassesOne x old new
pass_If x place test body otherwise p q old mid new is b o f g s rest h =
    let more : List Head = heads_in_list otherwise s (length body) ++ rest in
    g s (length body) rest (f s 0 more (left_If x place test body otherwise s old rest is h ∙ ap (λ l. heads_in_list l s 0 ++ more) (sym b)) ∙ ap (λ l. heads_in_list l s (length body) ++ rest) (sym o))

pub pass_Block : (x : Stmt) (body p : List Stmt) (old new : List Head) → x ≡ stmt.Block body → p ≡ body → Passes p old new → PassesOne x old new
pass_Block x body p old new is b f s rest h = f s 0 rest (left_Block x body s old rest is h ∙ ap (λ l. heads_in_list l s 0 ++ rest) (sym b))

-- behind the loop itself are those in it
pub behind_head : (x : Stmt) (head : Loop) (old mid : List Head) (s : Standing) (rest : List Head) → x ≡ stmt.For head → mid ≡ drop 1 old → old ≡ heads_in x s ++ rest → mid ≡ heads_inside head s ++ rest
behind_head x head old mid s rest is past h = past ∙ ap (λ l. drop 1 l) (left_For x head s old rest is h)

pub pass_For : (x : Stmt) (head : Loop) (p : List Stmt) (old mid new : List Head) → x ≡ stmt.For head → p ≡ (out-Loop head).body → mid ≡ drop 1 old → Passes p mid new → PassesOne x old new
pass_For x head p old mid new is b past f s rest h =
    let inner : Standing = standing_in (out-Loop head) s in
    f inner 0 rest (behind_head x head old mid s rest is past h ∙ ap (λ l. heads_in_list l inner 0 ++ rest) (sym b))

pub pass_none : (x : Stmt) (old : List Head) → ((s : Standing) → heads_in x s ≡ []) → PassesOne x old old
pass_none x old empty s rest h = left_none x s old rest (empty s) h

pub none_assign : (x : Stmt) (place a : ℕ) (subs : List Expr) (value : Expr) → x ≡ stmt.Assign place a subs value → (s : Standing) → heads_in x s ≡ []
none_assign x place a subs value is s = heads-Assign x place a subs value s is

pub none_add : (x : Stmt) (place a : ℕ) (subs : List Expr) (value : Expr) (atomic : Bool) → x ≡ stmt.AddTo place a subs value atomic → (s : Standing) → heads_in x s ≡ []
none_add x place a subs value atomic is s = heads-AddTo x place a subs value atomic s is

pub none_declare : (x : Stmt) (place n : ℕ) (init : Option Expr) → x ≡ stmt.Declare place n init → (s : Standing) → heads_in x s ≡ []
none_declare x place n init is s = heads-Declare x place n init s is

pub none_set : (x : Stmt) (place n : ℕ) (value : Expr) → x ≡ stmt.SetLocal place n value → (s : Standing) → heads_in x s ≡ []
none_set x place n value is s = heads-SetLocal x place n value s is

-- ---- what is walked becomes

abbrev pub OneBecomes : Program → Names → List Head → Stmt → Stmt → Type 0
OneBecomes u names left x y = (w : Around) (s : Standing) (rest : List Head) → s.around.path ≡ w.path → names ≡ names_in u w.iters → left ≡ heads_in x s ++ rest → BecomesStmt u w x y

abbrev pub AllBecome : Program → Names → List Head → List Stmt → List Stmt → Type 0
AllBecome u names left xs ys =
    (w : Around) (s : Standing) (k : ℕ) (rest : List Head) → s.around.path ≡ w.path → names ≡ names_in u w.iters → left ≡ heads_in_list xs s k ++ rest → BecomeAll u w xs ys

pub one_same : (u v : Program) (m n : Names) (left : List Head) (x y : Stmt) → v ≡ u → n ≡ m → OneBecomes v n left x y → OneBecomes u m left x y
one_same u v m n left x y e f h = subst (λ z. OneBecomes z m left x y) e (subst (λ z. OneBecomes v z left x y) f h)

pub all_same : (u v : Program) (m n : Names) (left : List Head) (xs ys : List Stmt) → v ≡ u → n ≡ m → AllBecome v n left xs ys → AllBecome u m left xs ys
all_same u v m n left xs ys e f h = subst (λ z. AllBecome z m left xs ys) e (subst (λ z. AllBecome v z left xs ys) f h)

simple_becomes : (u : Program) (names : Names) (left : List Head) (x y z : Stmt) → x ≡ z → y ≡ x → ((w : Around) → BecomesStmt u w z z) → OneBecomes u names left x y
simple_becomes u names left x y z is same h w s rest path named there = subst (λ t. BecomesStmt u w t y) (sym is) (subst (BecomesStmt u w z) (sym (same ∙ is)) (h w))

pub assign_becomes : (u : Program) (names : Names) (left : List Head) (x y : Stmt) (place a : ℕ) (subs : List Expr) (value : Expr) → x ≡ stmt.Assign place a subs value → y ≡ x → OneBecomes u names left x y
assign_becomes u names left x y place a subs value is same = simple_becomes u names left x y (stmt.Assign place a subs value) is same (λ w. assign w place a subs value)

pub add_becomes : (u : Program) (names : Names) (left : List Head) (x y : Stmt) (place a : ℕ) (subs : List Expr) (value : Expr) (atomic : Bool) → x ≡ stmt.AddTo place a subs value atomic → y ≡ x
    → OneBecomes u names left x y
add_becomes u names left x y place a subs value atomic is same = simple_becomes u names left x y (stmt.AddTo place a subs value atomic) is same (λ w. add_to w place a subs value atomic)

pub declare_becomes : (u : Program) (names : Names) (left : List Head) (x y : Stmt) (place n : ℕ) (init : Option Expr) → x ≡ stmt.Declare place n init → y ≡ x → OneBecomes u names left x y
declare_becomes u names left x y place n init is same = simple_becomes u names left x y (stmt.Declare place n init) is same (λ w. declare w place n init)

pub set_becomes : (u : Program) (names : Names) (left : List Head) (x y : Stmt) (place n : ℕ) (value : Expr) → x ≡ stmt.SetLocal place n value → y ≡ x → OneBecomes u names left x y
set_becomes u names left x y place n value is same = simple_becomes u names left x y (stmt.SetLocal place n value) is same (λ w. set_local w place n value)

pub if_becomes : (u : Program) (names : Names) (old mid : List Head) (x : Stmt) (place : ℕ) (test : Expr) (body otherwise p q : List Stmt) (copy : Expr) (new other : List Stmt)
    → x ≡ stmt.If place test body otherwise → p ≡ body → q ≡ otherwise → copy ≡ test → Passes p old mid → AllBecome u names old p new → AllBecome u names mid q other
    → OneBecomes u names old x (stmt.If place copy new other)
if_becomes u names old mid x place test body otherwise p q copy new other is b o same passed f g w s rest path named there =
    let more : List Head = heads_in_list otherwise s (length body) ++ rest in
    let at : old ≡ heads_in_list p s 0 ++ more = left_If x place test body otherwise s old rest is there ∙ ap (λ l. heads_in_list l s 0 ++ more) (sym b) in
    let next : mid ≡ heads_in_list q s (length body) ++ rest = passed s 0 more at ∙ ap (λ l. heads_in_list l s (length body) ++ rest) (sym o) in
    let first : BecomeAll u w body new = subst (λ l. BecomeAll u w l new) b (f w s 0 more path named at) in
    let second : BecomeAll u w otherwise other = subst (λ l. BecomeAll u w l other) o (g w s (length body) rest path named next) in
    subst (λ t. BecomesStmt u w t (stmt.If place copy new other)) (sym is)
    (subst (λ e. BecomesStmt u w (stmt.If place test body otherwise) (stmt.If place e new other)) (sym same) (choice w place test body otherwise new other first second))

pub block_becomes : (u : Program) (names : Names) (old : List Head) (x : Stmt) (body p new : List Stmt) → x ≡ stmt.Block body → p ≡ body → AllBecome u names old p new → OneBecomes u names old x (stmt.Block new)
block_becomes u names old x body p new is b f w s rest path named there =
    let all : BecomeAll u w body new = subst (λ l. BecomeAll u w l new) b (f w s 0 rest path named (left_Block x body s old rest is there ∙ ap (λ l. heads_in_list l s 0 ++ rest) (sym b))) in
    subst (λ t. BecomesStmt u w t (stmt.Block new)) (sym is) (block w body new all)

pub for_becomes : (u : Program) (names : Names) (old : List Head) (x : Stmt) (head new : Loop) → x ≡ stmt.For head → OneBecomes u names old (stmt.For head) (stmt.For new) → OneBecomes u names old x (stmt.For new)
for_becomes u names old x head new is h = subst (λ t. OneBecomes u names old t (stmt.For new)) (sym is) h

-- ---- a loop

-- a plan of the first loop that is left
pub first_plan : (l : LoopsLeft) (found : Option Nest) (nest : Nest) → found ≡ Some nest → MatchOption found (l.left ≡ []) (IsPlanOfFirst l) → IsPlanOfFirst l nest
first_plan l found nest is h = subst (λ o. MatchOption o (l.left ≡ []) (IsPlanOfFirst l)) is h

pub no_plan : (l : LoopsLeft) (found : Option Nest) (head : Loop) (s : Standing) (rest : List Head) → found ≡ None → MatchOption found (l.left ≡ []) (IsPlanOfFirst l) → l.left ≡ heads_in (stmt.For head) s ++ rest → ⊥
no_plan l found head s rest is h there =
    let empty : l.left ≡ [] = subst (λ o. MatchOption o (l.left ≡ []) (IsPlanOfFirst l)) is h in
    let some : l.left ≡ record { loop = head; path = s.around.path } ∷ (heads_inside head s ++ rest) = left_For (stmt.For head) head s l.left rest refl there in
    let both : [] ≡ record { loop = head; path = s.around.path } ∷ (heads_inside head s ++ rest) = sym empty ∙ some in
    absurd cc

lined_becomes : (u : Program) (w : Around) (head new : Loop) (nest : Nest) (line : Line) (body : List Stmt) → IsPlan u head w.path nest → line ≡ plan_line u w head nest → new ≡ lined head line body → BecomesBody u w head nest.depth body
    → BecomesStmt u w (stmt.For head) (stmt.For new)
lined_becomes u w head new nest line body plan is made h =
    subst (λ z. BecomesStmt u w (stmt.For head) (stmt.For z)) (sym (made ∙ ap (λ z. lined head z body) is)) (loop w head nest body plan h)

abbrev pub IsLineOf : Names → Loop → Nest → Line → Type 0
IsLineOf names head nest line = (u : Program) (w : Around) → names ≡ names_in u w.iters → line ≡ plan_line u w head nest

plan_there : (l : LoopsLeft) (head : Loop) (nest : Nest) (w : Around) (s : Standing) (rest : List Head) → IsPlanOfFirst l nest → s.around.path ≡ w.path → l.left ≡ heads_in (stmt.For head) s ++ rest → IsPlan l.unit head w.path nest
plan_there l head nest w s rest first path there =
    subst (λ p. IsPlan l.unit head p nest) path (first (record { loop = head; path = s.around.path }) (heads_inside head s ++ rest) (left_For (stmt.For head) head s l.left rest refl there))

pub parallel_becomes : (l : LoopsLeft) (names : Names) (head new : Loop) (nest : Nest) (line : Line) (p body : List Stmt) → IsPlanOfFirst l nest → IsLineOf names head nest line → new ≡ lined head line body → ¬ (nest.depth ≡ 0)
    → p ≡ (out-Loop head).body → body ≡ p → OneBecomes l.unit names l.left (stmt.For head) (stmt.For new)
parallel_becomes l names head new nest line p body first written made some b copied w s rest path named there =
    let size : suc (nest.depth - 1) ≡ nest.depth = omega (arith, some) in
    let stays : BecomesBody l.unit w head nest.depth (out-Loop head).body = subst (λ n. BecomesBody l.unit w head n (out-Loop head).body) size (parallel w head (nest.depth - 1)) in
    lined_becomes l.unit w head new nest line body (plan_there l head nest w s rest first path there) (written l.unit w named) made (subst (BecomesBody l.unit w head nest.depth) (sym (copied ∙ b)) stays)

pub sequential_becomes : (l : LoopsLeft) (names inner : Names) (head new : Loop) (nest : Nest) (line : Line) (p body : List Stmt) (mid : List Head) → IsPlanOfFirst l nest → IsLineOf names head nest line → new ≡ lined head line body
    → nest.depth ≡ 0 → p ≡ (out-Loop head).body → mid ≡ drop 1 l.left → Adds names inner ((out-Loop head).iter ∷ []) → AllBecome l.unit inner mid p body → OneBecomes l.unit names l.left (stmt.For head) (stmt.For new)
sequential_becomes l names inner head new nest line p body mid first written made zeroth b past entered f w s rest path named there =
    let u = l.unit in
    let here : Standing = standing_in (out-Loop head) s in
    let inside : here.around.path ≡ (within head w).path = ap (λ (q : List Range). q ++ range_of q (out-Loop head) ∷ []) path in
    let left : mid ≡ heads_in_list p here 0 ++ rest = behind_head (stmt.For head) head l.left mid s rest refl past there ∙ ap (λ x. heads_in_list x here 0 ++ rest) (sym b) in
    let all : BecomeAll u (within head w) (out-Loop head).body body =
    subst (λ x. BecomeAll u (within head w) x body) b (f (within head w) here 0 rest inside (names_more u w.iters ((out-Loop head).iter ∷ []) names inner named entered) left) in
    lined_becomes u w head new nest line body (plan_there l head nest w s rest first path there) (written u w named) made (subst (λ n. BecomesBody u w head n body) (sym zeroth) (sequential w head body all))

pub become_begin : (u : Program) (w : Around) (all new : List Stmt) → new ≡ [] → BecomeAll u w (take 0 all) new
become_begin u w all new empty = subst (BecomeAll u w []) (sym empty) (none w)
