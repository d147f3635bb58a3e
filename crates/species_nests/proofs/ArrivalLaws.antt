-- Laws of moments: where the whole run is defined, so is the run of the statement that begins, and its accesses are a part of those of the whole.
use Rattle.std.proofs.Common.{◌≡◌, ap, sym, ◌∙◌, subst, ℕ, suc, List, [], ◌∷◌, ◌++◌, map, length, if◌then◌else◌, ℤ}
use Rattle.std.proofs.lemmas.List.{length-map}
use Rattle.species_ast.specs.declared.tree.Test.{Test}
use Rattle.species_ast.specs.declared.tree.Kind.TheVariants as kind
use Rattle.species_ast.specs.declared.tree.Value.{Value}
use Rattle.species_ast.specs.declared.tree.Expr.{Expr}
use Rattle.species_ast.specs.declared.tree.Loop.{Loop, out-Loop}
use Rattle.species_ast.specs.declared.tree.Stmt.{Stmt}
use Rattle.species_ast.specs.declared.tree.Stmt.TheVariants as stmt
use Rattle.species_ast.specs.Operators.{number_of, reduced, is_true}
use Rattle.species_ast.specs.Accesses.{Joins, Cells, Tree, Ret, then_do}
use Rattle.species_ast.specs.Evaluation.{Frame, Context, Spot, Sense, sense}
use Rattle.species_ast.specs.Run.{inside, outside, turns, iterator_values, looping, does_list, does_scope, cleared, declared_in, spot, step, loop_of}
use Rattle.species_ast.proofs.AccessLaws.{then_do-assoc}
use Rattle.species_ast.proofs.RunLaws.{step-For, step-If, step-Block, loop_is, turns-append}
use Rattle.species_nests.specs.Arrivals.{heading, header, turn_of, Moment, Reaches, here, in_turn, in_body, in_otherwise, in_block, ReachesIn, first, later, begun_at, Running, moment, ComesIn}
use Rattle.species_runs.proofs.EveryLaws.{IsPart, part_itself, part_first, part_later}

-- a loop is its header, and then its turns
pub looping_is : (test : Test) (by : ℤ) (start limit : Sense) (body : Frame → Tree Frame) (s : Spot) (f : Frame)
    → looping test by start limit body s f ≡ then_do (heading test by start limit s f) (λ is. turns is body f)
looping_is test by start limit body s f =
    let values : _ → _ → List ℤ = λ a b. iterator_values test (reduced kind.Int (number_of a)) (reduced kind.Int (number_of b)) by in
    sym (then_do-assoc (start.does s 0 f) (λ a. then_do (limit.does s start.elements f) (λ b. Ret (values a b))) (λ is. turns is body f)
    ∙ ap (then_do (start.does s 0 f)) (λ i a. then_do-assoc (limit.does s start.elements f) (λ b. Ret (values a b)) (λ is. turns is body f) i))

pub loop_is_header : (w : Context) (l : Loop) (at : List ℕ) (f : Frame) → loop_of w l at f ≡ then_do (header w l at f) (λ is. turns is (turn_of w l at) f)
loop_is_header w l at f =
    ap (λ d. d at f) (loop_is w l)
    ∙ looping_is (out-Loop l).test (out-Loop l).step (sense w (out-Loop l).start) (sense w (out-Loop l).limit) (turn_of w l at) (spot (out-Loop l).place at) f

-- what is done at a statement
pub does_For : (w : Context) (l : Loop) (at : List ℕ) (f : Frame) → (step w (stmt.For l)).does at f ≡ loop_of w l at f
does_For w l at f = ap (λ s. s.does at f) (step-For w l)

pub does_Block : (w : Context) (body : List Stmt) (at : List ℕ) (f : Frame) → (step w (stmt.Block body)).does at f ≡ does_scope w body at 0 f
does_Block w body at f = ap (λ s. s.does at f) (step-Block w body)

-- the branch that is taken
abbrev pub branch : Context → List Stmt → List Stmt → List ℕ → Frame → Value → Tree Frame
branch w body otherwise at f v = if is_true v then does_scope w body at 0 f else does_scope w otherwise at (length body) f

pub does_If : (w : Context) (place : ℕ) (test : Expr) (body otherwise : List Stmt) (at : List ℕ) (f : Frame)
    → (step w (stmt.If place test body otherwise)).does at f ≡ then_do ((sense w test).does (spot place at) 0 f) (branch w body otherwise at f)
does_If w place test body otherwise at f =
    ap (λ s. s.does at f) (step-If w place test body otherwise)
    ∙ ap (λ k. then_do ((sense w test).does (spot place at) 0 f) (λ v. if is_true v then does_scope w body at 0 f else does_scope w otherwise at k f)) (length-map body (step w))

-- the running of a loop, as a tree
abbrev pub running : Context → Running → Tree Frame
running w r = loop_of w r.loop r.at r.frame

-- ---- the run of the statement is part of the run of the whole

abbrev pub IsIn : (join : Joins) → Context → Moment → Tree Frame → Cells → Type 0
IsIn join w q t m = IsPart join (begun_at w q) q.arrays t m

mutual
  pub reaches_part : (join : Joins) (w : Context) (q : Moment) (x : Stmt) (around : List Loop) (at : List ℕ) (f : Frame) (m : Cells)
      → Reaches join w q x around at f m → IsIn join w q ((step w x).does at f) m
  reaches_part join w q x around at f m here =
      part_itself join (begun_at w q) q.arrays
  reaches_part join w q x around at f m (in_turn l _ _ _ g _ begun n before i behind is ended inner) =
      subst (λ t. IsIn join w q t m) (sym (does_For w l at f ∙ loop_is_header w l at f))
      (part_later join (begun_at w q) q.arrays (header w l at f) (λ is. turns is (turn_of w l at) f) m (before ++ i ∷ behind) begun is
      (subst (λ t. IsIn join w q t begun) (sym (turns-append before (i ∷ behind) (turn_of w l at) f))
      (part_later join (begun_at w q) q.arrays (turns before (turn_of w l at) f) (turns (i ∷ behind) (turn_of w l at)) begun g n ended
      (part_first join (begun_at w q) q.arrays (turn_of w l at (inside g i)) (λ h. turns behind (turn_of w l at) (outside g h)) n
      (part_first join (begun_at w q) q.arrays (does_list w (out-Loop l).body at 0 (inside g i)) (λ h. Ret (cleared (declared_in (map (step w) (out-Loop l).body)) h)) n
      (reaches_in_part join w q (out-Loop l).body (around ++ l ∷ []) at 0 (inside g i) n inner))))))
  reaches_part join w q x around at f m (in_body place test body otherwise _ _ _ _ n v is taken inner) =
      subst (λ t. IsIn join w q t m) (sym (does_If w place test body otherwise at f))
      (part_later join (begun_at w q) q.arrays ((sense w test).does (spot place at) 0 f) (branch w body otherwise at f) m v n is
      (subst (λ b. IsIn join w q (if b then does_scope w body at 0 f else does_scope w otherwise at (length body) f) n) (sym taken)
      (part_first join (begun_at w q) q.arrays (does_list w body at 0 f) (λ h. Ret (cleared (declared_in (map (step w) body)) h)) n
      (reaches_in_part join w q body around at 0 f n inner))))
  reaches_part join w q x around at f m (in_otherwise place test body otherwise _ _ _ _ n v is taken inner) =
      subst (λ t. IsIn join w q t m) (sym (does_If w place test body otherwise at f))
      (part_later join (begun_at w q) q.arrays ((sense w test).does (spot place at) 0 f) (branch w body otherwise at f) m v n is
      (subst (λ b. IsIn join w q (if b then does_scope w body at 0 f else does_scope w otherwise at (length body) f) n) (sym taken)
      (part_first join (begun_at w q) q.arrays (does_list w otherwise at (length body) f) (λ h. Ret (cleared (declared_in (map (step w) otherwise)) h)) n
      (reaches_in_part join w q otherwise around at (length body) f n inner))))
  reaches_part join w q x around at f m (in_block body _ _ _ _ inner) =
      subst (λ t. IsIn join w q t m) (sym (does_Block w body at f))
      (part_first join (begun_at w q) q.arrays (does_list w body at 0 f) (λ h. Ret (cleared (declared_in (map (step w) body)) h)) m
      (reaches_in_part join w q body around at 0 f m inner))

  pub reaches_in_part : (join : Joins) (w : Context) (q : Moment) (xs : List Stmt) (around : List Loop) (at : List ℕ) (k : ℕ) (f : Frame) (m : Cells)
      → ReachesIn join w q xs around at k f m → IsIn join w q (does_list w xs at k f) m
  reaches_in_part join w q xs around at k f m (first x rest _ _ _ _ _ inner) =
      part_first join (begun_at w q) q.arrays ((step w x).does (at ++ k ∷ []) f) (does_list w rest at (suc k)) m (reaches_part join w q x around (at ++ k ∷ []) f m inner)
  reaches_in_part join w q xs around at k f m (later x rest _ _ _ _ g _ n ended inner) =
      part_later join (begun_at w q) q.arrays ((step w x).does (at ++ k ∷ []) f) (does_list w rest at (suc k)) m g n ended (reaches_in_part join w q rest around at (suc k) g n inner)

-- so is the run of a loop
pub comes_in_part : (join : Joins) (w : Context) (r : Running) (xs : List Stmt) (around : List Loop) (at : List ℕ) (k : ℕ) (f : Frame) (m : Cells)
    → ComesIn join w r xs around at k f m → IsPart join (running w r) r.arrays (does_list w xs at k f) m
comes_in_part join w r xs around at k f m c =
    subst (λ t. IsPart join t r.arrays (does_list w xs at k f) m) (does_For w r.loop r.at r.frame) (reaches_in_part join w (moment r) xs around at k f m c)
