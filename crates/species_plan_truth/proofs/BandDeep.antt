-- The loops of a nest in a well made unit are few, with those around it.
use Rattle.std.proofs.Common.{◌≡◌, refl, ap, sym, ◌∙◌, subst, arith, ℕ, zero, suc, ◌+◌, ◌<◌, ◌≤◌, true, not, List, [], ◌∷◌, ◌++◌, map, length, Option, Some, None}
use Rattle.std.specs.List.{Contains}
use Rattle.std.proofs.lemmas.Bool.{and_parts}
use Rattle.std.proofs.lemmas.Bool.Decides.{nat_tests}
use Rattle.species_ast.specs.Scope.Limits.{is_too_deep}
use Rattle.species_ast.specs.Scope.Loops.{Nesting, entered}
use Rattle.species_ast.specs.Scope.Nests.{front_with}
use Rattle.species_ast.specs.Scope.WellMade.{made, made_at, made_loop, list_keeps, fronts_of, head_keeps}
use Rattle.species_ast.specs.declared.tree.Expr.{Expr}
use Rattle.species_ast.specs.declared.tree.Loop.{Loop, out-Loop, roll-Loop}
use Rattle.species_ast.specs.declared.tree.Stmt.{Stmt}
use Rattle.species_ast.specs.declared.tree.Stmt.TheVariants as stmt
use Rattle.species_ast.proofs.Folds.{fold_stmt-If, fold_stmt-For, fold_stmt-Block, fold_loop-out}
use Rattle.species_ast.proofs.Induction.{Each, each_all, stmt_ind}
use Rattle.species_ast.proofs.Paras.{para_stmt-Assign, para_stmt-AddTo, para_stmt-Declare, para_stmt-SetLocal, para_stmt-If}
use Rattle.species_nests.specs.Nests.{Placed, sole_at, sole, only, nest_in, nest_of}
use Rattle.species_nests.proofs.NestLaws.{no_loops, not_some, sole-For, sole-Block, under}
use Rattle.species_plan_truth.specs.Truth.{StandsUnder, here, in_loop, in_branch, in_otherwise, in_block}

-- in so many loops the statement keeps the limits, and so do those of a list
abbrev pub KeepsIn : ℕ → Stmt → Type 0
KeepsIn n x = (w : Nesting) × (w.level ≡ n) × ((made x).keeps w ≡ true)

abbrev pub KeepIn : ℕ → List Stmt → Type 0
KeepIn n xs = (w : Nesting) × (w.level ≡ n) × (list_keeps (map made xs) w ≡ true)

record IsKept (n : ℕ) (l : Loop) : Type 0 where
  shallow : n < 8
  body : KeepIn (suc n) (out-Loop l).body

loop_kept : (n : ℕ) (l : Loop) → KeepsIn n (stmt.For l) → IsKept n l
loop_kept n l (w, level, h) =
    let x = out-Loop l in
    let front = front_with x.start x.limit (fronts_of (map made x.body)) in
    let parts = and_parts (head_keeps front x w) (list_keeps (map made x.body) (entered x w)) (ap (λ m. m.keeps w) (sym (fold_stmt-For made_at made_loop l ∙ fold_loop-out made_at made_loop l)) ∙ h) in
    let deep : not (is_too_deep w.level) ≡ true = (and_parts (not (is_too_deep w.level)) _ parts.0).0 in
    record { shallow = shallow w.level level deep; body = (entered x w, ap suc level, parts.1) }
  where
    shallow : (m : ℕ) → m ≡ n → not (is_too_deep m) ≡ true → n < 8
    shallow m e h = let below : m < 8 = grind (arith, nat_tests, h) in omega (arith, below, e)

block_kept : (n : ℕ) (body : List Stmt) → KeepsIn n (stmt.Block body) → KeepIn n body
block_kept n body (w, level, h) = (w, level, ap (λ m. m.keeps w) (sym (fold_stmt-Block made_at made_loop body)) ∙ h)

branches_kept : (n : ℕ) (place : ℕ) (test : Expr) (body otherwise : List Stmt) → KeepsIn n (stmt.If place test body otherwise) → KeepIn n body × KeepIn n otherwise
branches_kept n place test body otherwise (w, level, h) =
    let both = and_parts (list_keeps (map made body) w) (list_keeps (map made otherwise) w) (ap (λ m. m.keeps w) (sym (fold_stmt-If made_at made_loop place test body otherwise)) ∙ h) in
    ((w, level, both.0), (w, level, both.1))

one_kept : (n : ℕ) (xs : List Stmt) (x : Stmt) → Contains xs x → KeepIn n xs → KeepsIn n x
one_kept n [] x c h = let below = c.1 in absurd (omega (arith, below))
one_kept n (y ∷ xs) x (zero, below, is) (w, level, h) = subst (KeepsIn n) is (w, level, (and_parts ((made y).keeps w) (list_keeps (map made xs) w) h).0)
one_kept n (y ∷ xs) x (suc k, below, is) (w, level, h) = one_kept n xs x (k, omega (arith, below), is) (w, level, (and_parts ((made y).keeps w) (list_keeps (map made xs) w) h).1)

-- a loop where it stands, in so many loops more
pub stands_kept : (head : Loop) (around : List Loop) (xs : List Stmt) → StandsUnder head around xs → (n : ℕ) → KeepIn n xs → KeepsIn (n + length around) (stmt.For head)
stands_kept head around xs (here _ c) n h = subst (λ j. KeepsIn j (stmt.For head)) (omega arith) (one_kept n xs (stmt.For head) c h)
stands_kept head around xs (in_loop l rest _ c inner) n h =
    let one = loop_kept n l (one_kept n xs (stmt.For l) c h) in
    subst (λ j. KeepsIn j (stmt.For head)) (omega arith) (stands_kept head rest (out-Loop l).body inner (suc n) one.body)
stands_kept head around xs (in_branch place test first second _ _ c inner) n h =
    stands_kept head around first inner n (branches_kept n place test first second (one_kept n xs (stmt.If place test first second) c h)).0
stands_kept head around xs (in_otherwise place test first second _ _ c inner) n h =
    stands_kept head around second inner n (branches_kept n place test first second (one_kept n xs (stmt.If place test first second) c h)).1
stands_kept head around xs (in_block body _ _ c inner) n h = stands_kept head around body inner n (block_kept n body (one_kept n xs (stmt.Block body) c h))

-- ---- the loops of a nest

abbrev IsSoleKept : Stmt → Type 0
IsSoleKept x = (at : List ℕ) (p : Placed) → sole x at ≡ Some p → (n : ℕ) → KeepsIn n x → KeepsIn n (stmt.For p.loop)

only_kept : (xs : List Stmt) → Each IsSoleKept xs → (at : List ℕ) (p : Placed) → only xs at ≡ Some p → (n : ℕ) → KeepIn n xs → KeepsIn n (stmt.For p.loop)
only_kept [] h at p is n kept = absurd cc
only_kept (x ∷ []) h at p is n (w, level, kept) = h.0 (at ++ 0 ∷ []) p is n (w, level, (and_parts ((made x).keeps w) true kept).0)
only_kept (x ∷ y ∷ xs) h at p is n kept = absurd cc

sole_kept : (x : Stmt) → IsSoleKept x
sole_kept = stmt_ind IsSoleKept (record {
  assign = λ place a subs value at p is. absurd (not_some _ at p (para_stmt-Assign sole_at no_loops place a subs value) is);
  add_to = λ place a subs value atomic at p is. absurd (not_some _ at p (para_stmt-AddTo sole_at no_loops place a subs value atomic) is);
  declare = λ place x init at p is. absurd (not_some _ at p (para_stmt-Declare sole_at no_loops place x init) is);
  set_local = λ place x value at p is. absurd (not_some _ at p (para_stmt-SetLocal sole_at no_loops place x value) is);
  choice = λ place test body otherwise h k at p is. absurd (not_some _ at p (para_stmt-If sole_at no_loops place test body otherwise) is);
  loop = λ l h at p is n kept.
      let same : Some (record { loop = roll-Loop l; at = at }) ≡ Some p = ap (λ s. s at) (sym (sole-For (roll-Loop l))) ∙ is in
      let it : record { loop = roll-Loop l; at = at } ≡ p = cc in
      subst (λ (q : Placed). KeepsIn n (stmt.For q.loop)) it kept;
  block = λ body h at p is n kept. only_kept body h at p (ap (λ s. s at) (sym (sole-Block body)) ∙ is) n (block_kept n body kept);
})

nest_in_shallow : (d : ℕ) (xs : List Stmt) (at : List ℕ) (n : ℕ) → n ≤ 8 → KeepIn n xs → n + length (nest_in d xs at).loops ≤ 8
nest_in_shallow zero xs at n few h = omega (arith, few)
nest_in_shallow (suc d) xs at n few h = go (λ ys there k less kept. nest_in_shallow d ys there k less kept) (only xs at) refl
  where
    go : ((ys : List Stmt) (there : List ℕ) (k : ℕ) → k ≤ 8 → KeepIn k ys → k + length (nest_in d ys there).loops ≤ 8) → (o : Option Placed) → only xs at ≡ o → n + length (under d xs at o).loops ≤ 8
    go ih None is = omega (arith, few)
    go ih (Some p) is =
        let one = loop_kept n p.loop (only_kept xs (each_all IsSoleKept sole_kept xs) at p is n h) in
        let rest = ih (out-Loop p.loop).body p.at (suc n) (omega (arith, one.shallow)) one.body in
        omega (arith, rest)

-- the law
pub nest_shallow : (d : ℕ) (l : Loop) (at : List ℕ) (n : ℕ) → KeepsIn n (stmt.For l) → n + length (nest_of d l at).loops ≤ 8
nest_shallow d l at n h =
    let one = loop_kept n l h in
    let rest = nest_in_shallow d (out-Loop l).body at (suc n) (omega (arith, one.shallow)) one.body in
    omega (arith, rest)
