-- A nest that is another but for marks has the loops of the other but for marks, with the same ranges.
use Rattle.std.proofs.Common.{◌≡◌, refl, ap, sym, ◌∙◌, ℕ, zero, suc, false, List, [], ◌∷◌, ◌++◌, map, Option, Some, None}
use Rattle.std.specs.Prelude.{option_map}
use Rattle.species_ast.specs.declared.tree.Loop.{Loop, roll-Loop, out-Loop}
use Rattle.species_ast.specs.declared.tree.Stmt.{Stmt}
use Rattle.species_ast.specs.declared.tree.Stmt.TheOpen.{Loop-F}
use Rattle.species_ast.specs.declared.tree.Stmt.TheVariants as stmt
use Rattle.species_ast.specs.Scope.Hulls.{Range, range_of}
use Rattle.species_ast.specs.Strip.{strip_step, strip_layer, strip_stmt, strip_loop}
use Rattle.species_ast.proofs.Folds.{fold_stmt-Assign, fold_stmt-AddTo, fold_stmt-Declare, fold_stmt-SetLocal, fold_stmt-If, fold_stmt-For, fold_stmt-Block, fold_loop-out}
use Rattle.species_ast.proofs.Induction.{Each, each_all, stmt_ind}
use Rattle.species_ast.proofs.Paras.{para_stmt-Assign, para_stmt-AddTo, para_stmt-Declare, para_stmt-SetLocal, para_stmt-If}
use Rattle.species_nests.specs.Nests.{Placed, sole_at, sole, only, nest_in, nest_of}
use Rattle.species_nests.proofs.NestLaws.{no_loops, sole-For, sole-Block, under}
use Rattle.species_nests.proofs.RunningLaws.{loops_of_nest}
use Rattle.species_occurrences.specs.Iterators.{ranges_of}

abbrev pub plain_loop : Loop → Loop
plain_loop = strip_loop false

abbrev plain_stmt : Stmt → Stmt
plain_stmt = strip_stmt false

abbrev layer : Loop-F Stmt Loop → Loop
layer = strip_layer false

-- ---- ranges

range_plain : (path : List Range) (l : Loop) → range_of path (out-Loop (plain_loop l)) ≡ range_of path (out-Loop l)
range_plain path l = ap (λ k. range_of path (out-Loop k)) (fold_loop-out strip_step layer l)

ranges_plain : (path : List Range) (ls : List Loop) → ranges_of path (map plain_loop ls) ≡ ranges_of path ls
ranges_plain path [] = refl
ranges_plain path (l ∷ ls) =
    ap (λ r. ranges_of (path ++ r ∷ []) (map plain_loop ls)) (range_plain path l) ∙ ranges_plain (path ++ range_of path (out-Loop l) ∷ []) ls

pub same_ranges : (ls ks : List Loop) → map plain_loop ls ≡ map plain_loop ks → ranges_of [] ls ≡ ranges_of [] ks
same_ranges ls ks e = sym (ranges_plain [] ls) ∙ ap (ranges_of []) e ∙ ranges_plain [] ks

-- ---- the loops of a nest

abbrev plain_placed : Placed → Placed
plain_placed p = record { loop = plain_loop p.loop; at = p.at }

abbrev IsSolePlain : Stmt → Type 0
IsSolePlain x = (at : List ℕ) → sole (plain_stmt x) at ≡ option_map plain_placed (sole x at)

-- neither is a loop
no_sole : (x y : Stmt) (o k : List ℕ → Option Placed) → plain_stmt x ≡ y → sole y ≡ o → sole x ≡ k → o ≡ (λ at. None) → k ≡ (λ at. None) → IsSolePlain x
no_sole x y o k becomes is was none nothing at =
    ap (λ z. sole z at) becomes ∙ ap (λ f. f at) (is ∙ none) ∙ sym (ap (λ f. option_map plain_placed (f at)) (was ∙ nothing))

only_plain : (xs : List Stmt) → Each IsSolePlain xs → (at : List ℕ) → only (map plain_stmt xs) at ≡ option_map plain_placed (only xs at)
only_plain [] h at = refl
only_plain (x ∷ []) h at = h.0 (at ++ 0 ∷ [])
only_plain (x ∷ y ∷ xs) h at = refl

sole_plain : (x : Stmt) → IsSolePlain x
sole_plain = stmt_ind IsSolePlain (record {
  assign = λ place a subs value. no_sole _ (stmt.Assign place a subs value) _ _ (fold_stmt-Assign strip_step layer place a subs value ∙ stmt.rolls-Assign place a subs value)
      (para_stmt-Assign sole_at no_loops place a subs value) (para_stmt-Assign sole_at no_loops place a subs value) refl refl;
  add_to = λ place a subs value atomic. no_sole _ (stmt.AddTo place a subs value false) _ _ (fold_stmt-AddTo strip_step layer place a subs value atomic ∙ stmt.rolls-AddTo place a subs value false)
      (para_stmt-AddTo sole_at no_loops place a subs value false) (para_stmt-AddTo sole_at no_loops place a subs value atomic) refl refl;
  declare = λ place n init. no_sole _ (stmt.Declare place n init) _ _ (fold_stmt-Declare strip_step layer place n init ∙ stmt.rolls-Declare place n init)
      (para_stmt-Declare sole_at no_loops place n init) (para_stmt-Declare sole_at no_loops place n init) refl refl;
  set_local = λ place n value. no_sole _ (stmt.SetLocal place n value) _ _ (fold_stmt-SetLocal strip_step layer place n value ∙ stmt.rolls-SetLocal place n value)
      (para_stmt-SetLocal sole_at no_loops place n value) (para_stmt-SetLocal sole_at no_loops place n value) refl refl;
  choice = λ place test body otherwise h k. no_sole _ (stmt.If place test (map plain_stmt body) (map plain_stmt otherwise)) _ _
      (fold_stmt-If strip_step layer place test body otherwise ∙ stmt.rolls-If place test (map plain_stmt body) (map plain_stmt otherwise))
      (para_stmt-If sole_at no_loops place test (map plain_stmt body) (map plain_stmt otherwise)) (para_stmt-If sole_at no_loops place test body otherwise) refl refl;
  loop = λ l h at.
      ap (λ z. sole z at) (fold_stmt-For strip_step layer (roll-Loop l) ∙ stmt.rolls-For (plain_loop (roll-Loop l))) ∙ ap (λ f. f at) (sole-For (plain_loop (roll-Loop l)))
      ∙ sym (ap (λ f. option_map plain_placed (f at)) (sole-For (roll-Loop l)));
  block = λ body h at.
      ap (λ z. sole z at) (fold_stmt-Block strip_step layer body ∙ stmt.rolls-Block (map plain_stmt body)) ∙ ap (λ f. f at) (sole-Block (map plain_stmt body))
      ∙ only_plain body h at ∙ sym (ap (λ f. option_map plain_placed (f at)) (sole-Block body));
})

body_plain : (l : Loop) → (out-Loop (plain_loop l)).body ≡ map plain_stmt (out-Loop l).body
body_plain l = ap (λ k. (out-Loop k).body) (fold_loop-out strip_step layer l)

nest_in_plain : (d : ℕ) (body : List Stmt) (at : List ℕ) → (nest_in d (map plain_stmt body) at).loops ≡ map plain_placed (nest_in d body at).loops
nest_in_plain zero body at = refl
nest_in_plain (suc d) body at =
    ap (λ o. (under d (map plain_stmt body) at o).loops) (only_plain body (each_all IsSolePlain sole_plain body) at) ∙ go (λ b here. nest_in_plain d b here) (only body at)
  where
    go : ((b : List Stmt) (here : List ℕ) → (nest_in d (map plain_stmt b) here).loops ≡ map plain_placed (nest_in d b here).loops)
        → (o : Option Placed) → (under d (map plain_stmt body) at (option_map plain_placed o)).loops ≡ map plain_placed (under d body at o).loops
    go ih None = refl
    go ih (Some p) =
        ap (λ b. plain_placed p ∷ (nest_in d b p.at).loops) (body_plain p.loop) ∙ ap (λ ls. plain_placed p ∷ ls) (ih (out-Loop p.loop).body p.at)

plain_loops : (ps : List Placed) → loops_of_nest (map plain_placed ps) ≡ map plain_loop (loops_of_nest ps)
plain_loops [] = refl
plain_loops (p ∷ ps) = ap (λ ls. plain_loop p.loop ∷ ls) (plain_loops ps)

nest_plain : (d : ℕ) (l : Loop) (at : List ℕ) → loops_of_nest (nest_of d (plain_loop l) at).loops ≡ map plain_loop (loops_of_nest (nest_of d l at).loops)
nest_plain d l at =
    ap (λ b. plain_loop l ∷ loops_of_nest (nest_in d b at).loops) (body_plain l)
    ∙ ap (λ ps. plain_loop l ∷ loops_of_nest ps) (nest_in_plain d (out-Loop l).body at)
    ∙ ap (λ ls. plain_loop l ∷ ls) (plain_loops (nest_in d (out-Loop l).body at).loops)

-- ---- at another position

abbrev loop_in : Option Placed → Option Loop
loop_in o = option_map (λ p. p.loop) o

abbrev IsSoleAnywhere : Stmt → Type 0
IsSoleAnywhere x = (at other : List ℕ) → loop_in (sole x at) ≡ loop_in (sole x other)

from_sole : (x : Stmt) (o : List ℕ → Option Placed) → sole x ≡ o → ((at other : List ℕ) → loop_in (o at) ≡ loop_in (o other)) → IsSoleAnywhere x
from_sole x o is h at other = ap (λ f. loop_in (f at)) is ∙ h at other ∙ sym (ap (λ f. loop_in (f other)) is)

only_anywhere : (xs : List Stmt) → Each IsSoleAnywhere xs → (at other : List ℕ) → loop_in (only xs at) ≡ loop_in (only xs other)
only_anywhere [] h at other = refl
only_anywhere (x ∷ []) h at other = h.0 (at ++ 0 ∷ []) (other ++ 0 ∷ [])
only_anywhere (x ∷ y ∷ xs) h at other = refl

sole_anywhere : (x : Stmt) → IsSoleAnywhere x
sole_anywhere = stmt_ind IsSoleAnywhere (record {
  assign = λ place a subs value. from_sole _ _ (para_stmt-Assign sole_at no_loops place a subs value) (λ at other. refl);
  add_to = λ place a subs value atomic. from_sole _ _ (para_stmt-AddTo sole_at no_loops place a subs value atomic) (λ at other. refl);
  declare = λ place n init. from_sole _ _ (para_stmt-Declare sole_at no_loops place n init) (λ at other. refl);
  set_local = λ place n value. from_sole _ _ (para_stmt-SetLocal sole_at no_loops place n value) (λ at other. refl);
  choice = λ place test body otherwise h k. from_sole _ _ (para_stmt-If sole_at no_loops place test body otherwise) (λ at other. refl);
  loop = λ l h. from_sole _ _ (sole-For (roll-Loop l)) (λ at other. refl);
  block = λ body h. from_sole _ _ (sole-Block body) (only_anywhere body h);
})

nest_in_anywhere : (d : ℕ) (body : List Stmt) (at other : List ℕ) → loops_of_nest (nest_in d body at).loops ≡ loops_of_nest (nest_in d body other).loops
nest_in_anywhere zero body at other = refl
nest_in_anywhere (suc d) body at other =
    go (λ b here there. nest_in_anywhere d b here there) (only body at) (only body other) (only_anywhere body (each_all IsSoleAnywhere sole_anywhere body) at other)
  where
    go : ((b : List Stmt) (here there : List ℕ) → loops_of_nest (nest_in d b here).loops ≡ loops_of_nest (nest_in d b there).loops)
        → (o k : Option Placed) → loop_in o ≡ loop_in k → loops_of_nest (under d body at o).loops ≡ loops_of_nest (under d body other k).loops
    go ih None None e = refl
    go ih None (Some q) e = absurd cc
    go ih (Some p) None e = absurd cc
    go ih (Some p) (Some q) e =
        let same : p.loop ≡ q.loop = cc in
        ap (λ l. l ∷ loops_of_nest (nest_in d (out-Loop l).body p.at).loops) same ∙ ap (λ ls. q.loop ∷ ls) (ih (out-Loop q.loop).body p.at q.at)

pub nest_anywhere : (d : ℕ) (l : Loop) (at other : List ℕ) → loops_of_nest (nest_of d l at).loops ≡ loops_of_nest (nest_of d l other).loops
nest_anywhere d l at other = ap (λ ls. l ∷ ls) (nest_in_anywhere d (out-Loop l).body at other)

-- the loops of a nest and of one that is the same but for marks, each at a position of its own
pub same_nest : (d : ℕ) (l k : Loop) (at other : List ℕ) → plain_loop l ≡ plain_loop k
    → map plain_loop (loops_of_nest (nest_of d l at).loops) ≡ map plain_loop (loops_of_nest (nest_of d k other).loops)
same_nest d l k at other e =
    sym (nest_plain d l at) ∙ ap (λ z. loops_of_nest (nest_of d z at).loops) e ∙ nest_plain d k at ∙ ap (map plain_loop) (nest_anywhere d k at other)
