-- What a body does as an iteration of a nest is what it does in the source, where it sets only locals that it may set and
-- adds atomically only to arrays to which it may.
use Rattle.std.proofs.Common.{◌≡◌, refl, ap, sym, ◌∙◌, ℕ, suc, List, [], ◌∷◌, map, length, Bool, true, false, ◌&&◌, Some, if◌then◌else◌}
use Rattle.species_ast.specs.declared.tree.Expr.{Expr}
use Rattle.species_ast.specs.declared.tree.Stmt.{Stmt, fold-Stmt}
use Rattle.species_ast.specs.declared.tree.Stmt.TheOpen.{Stmt-F, Loop-F}
use Rattle.species_ast.specs.declared.tree.Loop.{roll-Loop}
use Rattle.species_ast.specs.Marks.{all_true}
use Rattle.species_ast.specs.Operators.{converted}
use Rattle.species_ast.specs.Accesses.{Forbidden, Ret, Stop, Add, then_do}
use Rattle.species_ast.specs.Evaluation.{Context, Sense, sense, array_kind, local_kind, with_local, site_at, element_at, elements_in, target_of}
use Rattle.species_ast.specs.Run.{step, does_scope, scope_of, plain, spot, setting, adding, addition, looping, branching, Takes, iteration_in}
use Rattle.species_ast.proofs.Folds.{fold_stmt-AddTo, fold_stmt-SetLocal, fold_stmt-If, fold_stmt-For, fold_stmt-Block, fold_loop}
use Rattle.species_ast.proofs.Induction.{Each, each_all, stmt_ind}
use Rattle.species_ast.proofs.RunLaws.{step-Assign, step-AddTo, step-Declare, step-SetLocal, step-If, step-For, step-Block, loop-roll}

-- the same declarations, where other locals may be set and other arrays added to
abbrev pub with_leave : Context → (ℕ → Bool) → Takes → Context
with_leave w may_set may_add = record w { may_set = may_set; may_add = may_add }

-- whether a statement sets only locals that it may set, and adds atomically only to arrays to which it may, at any depth
abbrev pub stays_at : Context → Stmt-F Bool Bool → Bool
stays_at w (Stmt-F.AddTo place a subs value true) = w.may_add a (array_kind w a)
stays_at w (Stmt-F.SetLocal place x value) = w.may_set x
stays_at w (Stmt-F.If place test body otherwise) = all_true body && all_true otherwise
stays_at w (Stmt-F.For l) = l
stays_at w (Stmt-F.Block body) = all_true body
stays_at w x = true

abbrev pub stays_in_loop : Loop-F Bool Bool → Bool
stays_in_loop l = all_true l.body

abbrev pub stays : Context → Stmt → Bool
stays w = fold-Stmt Bool Bool (stays_at w) stays_in_loop

both_true : (a b : Bool) → (a && b) ≡ true → (a ≡ true) × (b ≡ true)
both_true true b h = (refl, h)
both_true false b h = absurd cc

-- the same, where all is allowed
abbrev pub Allowing : Context → Context
Allowing w = with_leave w (λ x. true) (λ a k. true)

abbrev pub IsSame : Context → Stmt → Type 0
IsSame w x = stays w x ≡ true → step w x ≡ step (Allowing w) x

same_steps : (w : Context) (xs : List Stmt) → Each (IsSame w) xs → all_true (map (stays w) xs) ≡ true → map (step w) xs ≡ map (step (Allowing w)) xs
same_steps w [] h t = refl
same_steps w (x ∷ xs) h t =
    let both = both_true (stays w x) (all_true (map (stays w) xs)) t in
    (λ i. h.0 both.0 i ∷ same_steps w xs h.1 both.1 i)

same_scope : (w : Context) (xs : List Stmt) → Each (IsSame w) xs → all_true (map (stays w) xs) ≡ true → does_scope w xs ≡ does_scope (Allowing w) xs
same_scope w xs h t = ap scope_of (same_steps w xs h t)

set_same : (w : Context) (x : ℕ) (value : Sense) → w.may_set x ≡ true → setting w x value ≡ setting (Allowing w) x value
set_same w x value may = λ i sp f.
    then_do (value.does sp 0 f) (λ v.
    if may i then Ret (with_local f x (Some (converted (local_kind w x) v))) else Stop (site_at sp value.elements f []) Forbidden)

addition_same : (w : Context) (a : ℕ) (atomic : Bool) (n : ℕ) (value : Sense) → (atomic ≡ true → w.may_add a (array_kind w a) ≡ true)
    → addition w a atomic n value ≡ addition (Allowing w) a atomic n value
addition_same w a true n value may = λ i sp is f.
    then_do (value.does sp (suc n) f) (λ v.
    if may refl i then Add (site_at sp n f is) (element_at w a is) (converted (array_kind w a) v) (Ret f) else Stop (site_at sp n f is) Forbidden)
addition_same w a false n value may = refl

adding_same : (w : Context) (a : ℕ) (atomic : Bool) (subs : List Sense) (value : Sense) → (atomic ≡ true → w.may_add a (array_kind w a) ≡ true)
    → adding w a atomic subs value ≡ adding (Allowing w) a atomic subs value
adding_same w a atomic subs value may = λ i sp f.
    then_do (target_of w a subs sp 0 f) (λ is. addition_same w a atomic (elements_in subs) value may i sp is f)

add_leave : (w : Context) (place a : ℕ) (subs : List Expr) (value : Expr) (atomic : Bool) → stays_at w (Stmt-F.AddTo place a subs value atomic) ≡ true
    → atomic ≡ true → w.may_add a (array_kind w a) ≡ true
add_leave w place a subs value true t is = t
add_leave w place a subs value false t is = absurd cc

-- the law: where nothing is done that is not allowed, a statement does what it does where all is allowed
pub step_same : (w : Context) (x : Stmt) → IsSame w x
step_same w = stmt_ind (IsSame w) (record {
  assign = λ place a subs value t. step-Assign w place a subs value ∙ sym (step-Assign (Allowing w) place a subs value);
  add_to = λ place a subs value atomic t.
      let may = add_leave w place a subs value atomic (sym (fold_stmt-AddTo (stays_at w) stays_in_loop place a subs value atomic) ∙ t) in
      step-AddTo w place a subs value atomic
      ∙ (λ i. plain (λ at. adding_same w a atomic (map (sense w) subs) (sense w value) may i (spot place at)))
      ∙ sym (step-AddTo (Allowing w) place a subs value atomic);
  declare = λ place x init t. step-Declare w place x init ∙ sym (step-Declare (Allowing w) place x init);
  set_local = λ place x value t.
      let may : w.may_set x ≡ true = sym (fold_stmt-SetLocal (stays_at w) stays_in_loop place x value) ∙ t in
      step-SetLocal w place x value ∙ (λ i. plain (λ at. set_same w x (sense w value) may i (spot place at))) ∙ sym (step-SetLocal (Allowing w) place x value);
  choice = λ place test body otherwise p q t.
      let both = both_true (all_true (map (stays w) body)) (all_true (map (stays w) otherwise)) (sym (fold_stmt-If (stays_at w) stays_in_loop place test body otherwise) ∙ t) in
      let first = same_steps w body p both.0 in
      let second = same_steps w otherwise q both.1 in
      step-If w place test body otherwise
      ∙ (λ i. plain (λ at. branching (sense w test) (scope_of (first i) at 0) (scope_of (second i) at (length (first i))) (spot place at)))
      ∙ sym (step-If (Allowing w) place test body otherwise);
  loop = λ l p t.
      let all : all_true (map (stays w) l.body) ≡ true = sym (fold_stmt-For (stays_at w) stays_in_loop (roll-Loop l) ∙ fold_loop (stays_at w) stays_in_loop l) ∙ t in
      let body = same_steps w l.body p all in
      step-For w (roll-Loop l)
      ∙ (λ i. plain (λ at f. loop-roll w l at f i))
      ∙ (λ i. plain (λ at. looping l.test l.step (sense w l.start) (sense w l.limit) (scope_of (body i) at 0) (spot l.place at)))
      ∙ (λ i. plain (λ at f. sym (loop-roll (Allowing w) l at f) i))
      ∙ sym (step-For (Allowing w) (roll-Loop l));
  block = λ body p t.
      let all : all_true (map (stays w) body) ≡ true = sym (fold_stmt-Block (stays_at w) stays_in_loop body) ∙ t in
      let same = same_steps w body p all in
      step-Block w body ∙ (λ i. plain (λ at. scope_of (same i) at 0)) ∙ sym (step-Block (Allowing w) body);
})

-- so an iteration that stays within its leave does what its body does in the source
pub iteration_same : (takes : Takes) (w : Context) (body : List Stmt) → all_true (map (stays (iteration_in takes w body)) body) ≡ true
    → does_scope (iteration_in takes w body) body ≡ does_scope (Allowing w) body
iteration_same takes w body t =
    same_scope (iteration_in takes w body) body (each_all (IsSame (iteration_in takes w body)) (step_same (iteration_in takes w body)) body) t
