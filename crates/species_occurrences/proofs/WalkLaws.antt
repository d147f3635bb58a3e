-- The walk that says where loops stand comes to the loops of the text, each once, in its order, and a run to no others.
use Rattle.std.proofs.Common.{◌≡◌, refl, ap, sym, ◌∙◌, subst, arith, ℕ, suc, List, [], ◌∷◌, ◌++◌, map, length}
use Rattle.std.specs.List.{Contains}
use Rattle.std.proofs.lemmas.List.{map-append}
use Rattle.species_ast.specs.declared.tree.Loop.{Loop, roll-Loop, out-Loop, roll-out-Loop}
use Rattle.species_ast.specs.declared.tree.Stmt.{Stmt}
use Rattle.species_ast.specs.declared.tree.Stmt.TheVariants as stmt
use Rattle.species_ast.specs.declared.tree.Unit.{Unit as Program}
use Rattle.species_ast.specs.Accesses.{Joins, Cells}
use Rattle.species_ast.specs.Run.{source_context, first_frame}
use Rattle.species_ast.specs.Scope.Loops.{PlacedLoop, Standing, Placing, standing_in, numbered, list_loops, outside_loops}
use Rattle.species_ast.specs.Scope.Loops as placed
use Rattle.species_ast.proofs.Induction.{Each, each_all, stmt_ind}
use Rattle.species_ast.proofs.Paras.{para_stmt-Assign, para_stmt-AddTo, para_stmt-Declare, para_stmt-SetLocal, para_stmt-For}
use Rattle.species_nests.specs.Arrivals.{Running, moment, ComesTo}
use Rattle.species_nests.specs.Nests.{loops_at, loops_of, loops_in}
use Rattle.species_nests.proofs.InwardLaws.{GoesInward, reaches_in_has}
use Rattle.species_nests.proofs.NestLaws.{body_loops, each-append, loops-Block, loops-If, loops-For}
use Rattle.species_occurrences.specs.Nesting.{PlacedLoopsAreLoops, RunningsAreLoops}
use Rattle.species_occurrences.proofs.PositionLaws.{each_weaker, loops_in-Assign, loops_in-AddTo, loops_in-Declare, loops_in-SetLocal, loops_in-If, loops_in-For, loops_in-Block}

-- the loops, without where they stand
abbrev pub heads : List PlacedLoop → List Loop
heads ls = map (λ l. l.head) ls

-- wherever the statement stands
abbrev HasSameLoops : Stmt → Type 0
HasSameLoops x = (s : Standing) → heads (placed.loops_in x s) ≡ loops_of x

list_same : (xs : List Stmt) → Each HasSameLoops xs → (s : Standing) (k : ℕ) → heads (list_loops (map placed.loops_in xs) s k) ≡ loops_in xs
list_same [] h s k = refl
list_same (x ∷ xs) h s k =
    map-append (λ (l : PlacedLoop). l.head) (placed.loops_in x (numbered s k)) (list_loops (map placed.loops_in xs) s (suc k))
    ∙ (λ i. h.0 (numbered s k) i ++ list_same xs h.1 s (suc k) i)

same_at : (x : Stmt) (walk : Placing) (s : Standing) → placed.loops_in x ≡ walk → heads (placed.loops_in x s) ≡ heads (walk s)
same_at x walk s h = ap (λ p. heads (p s)) h

pub same_loops : (x : Stmt) → HasSameLoops x
same_loops = stmt_ind HasSameLoops (record {
  assign = λ place a subs value s. same_at _ _ s (loops_in-Assign place a subs value) ∙ sym (para_stmt-Assign loops_at body_loops place a subs value);
  add_to = λ place a subs value atomic s. same_at _ _ s (loops_in-AddTo place a subs value atomic) ∙ sym (para_stmt-AddTo loops_at body_loops place a subs value atomic);
  declare = λ place x init s. same_at _ _ s (loops_in-Declare place x init) ∙ sym (para_stmt-Declare loops_at body_loops place x init);
  set_local = λ place x value s. same_at _ _ s (loops_in-SetLocal place x value) ∙ sym (para_stmt-SetLocal loops_at body_loops place x value);
  choice = λ place test body otherwise h k s.
      same_at _ _ s (loops_in-If place test body otherwise)
      ∙ map-append (λ (l : PlacedLoop). l.head) (list_loops (map placed.loops_in body) s 0) (list_loops (map placed.loops_in otherwise) s (length body))
      ∙ (λ i. list_same body h s 0 i ++ list_same otherwise k s (length body) i)
      ∙ sym (loops-If place test body otherwise);
  loop = λ l h s. same_at _ _ s (loops_in-For l) ∙ ap (λ ls. roll-Loop l ∷ ls) (list_same l.body h (standing_in l s) 0) ∙ sym (loops-For l);
  block = λ body h s. same_at _ _ s (loops_in-Block body) ∙ list_same body h s 0 ∙ sym (loops-Block body);
})

-- The two walks come to the same loops of a unit.
pub placed_loops_are_loops : PlacedLoopsAreLoops
placed_loops_are_loops u = list_same u.body (each_all HasSameLoops same_loops u.body) outside_loops 0

-- ---- the loops to which a run comes

-- all loops in a statement are of this kind
abbrev AreAll : (Loop → Type 0) → Stmt → Type 0
AreAll P x = Each P (loops_of x)

each_split : (P : Loop → Type 0) (xs : List Stmt) → Each P (loops_in xs) → Each (AreAll P) xs
each_split P [] h = tt
each_split P (x ∷ xs) h = let both = each-append P (loops_of x) (loops_in xs) h in (both.0, each_split P xs both.1)

all_inward : (P : Loop → Type 0) → GoesInward (AreAll P)
all_inward P = record {
  loop = λ l h.
      let layer = out-Loop l in
      let rolled : Each P (loops_of (stmt.For (roll-Loop layer))) = subst (λ k. Each P (loops_of (stmt.For k))) (sym (roll-out-Loop l)) h in
      let all : Each P (roll-Loop layer ∷ loops_in layer.body) = subst (Each P) (loops-For layer) rolled in
      each_split P layer.body all.1;
  choice = λ place test body otherwise h.
      let both = each-append P (loops_in body) (loops_in otherwise) (subst (Each P) (loops-If place test body otherwise) h) in
      (each_split P body both.0, each_split P otherwise both.1);
  block = λ body h. each_split P body (subst (Each P) (loops-Block body) h);
}

-- What holds of each loop of a unit holds of each to which its run comes.
pub runnings_have : (join : Joins) (P : Loop → Type 0) (u : Program) (m : Cells) (r : Running) → ComesTo join u m r → Each P (loops_in u.body) → P r.loop
runnings_have join P u m r comes all =
    let there : Each P (loops_of (stmt.For r.loop)) = reaches_in_has join (AreAll P) (all_inward P) (source_context u) (moment r) u.body [] [] 0 (first_frame u) m comes (each_split P u.body all) in
    (subst (Each P) (para_stmt-For loops_at body_loops r.loop) there).0

-- each element is one of the list
each_in : {X : Type 0} (xs : List X) → Each (Contains xs) xs
each_in [] = tt
each_in (x ∷ xs) = ((0, omega arith, refl), each_weaker (Contains xs) (Contains (x ∷ xs)) (λ y c. (suc c.0, omega (arith, c.1), c.2)) xs (each_in xs))

-- A run comes to loops of the text alone.
pub runnings_are_loops : RunningsAreLoops
runnings_are_loops join u m r comes = runnings_have join (Contains (loops_in u.body)) u m r comes (each_in (loops_in u.body))
