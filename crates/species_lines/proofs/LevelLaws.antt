-- Where a run of a well made unit comes to a loop, the bounds of each loop around name iterators of the loops outside it alone.
use Rattle.std.proofs.Common.{◌≡◌, refl, ap, sym, ◌∙◌, subst, arith, ℕ, suc, ◌+◌, true, ◌&&◌, List, [], ◌∷◌, ◌++◌, map, length}
use Rattle.std.proofs.lemmas.Bool.{and_parts}
use Rattle.std.proofs.lemmas.List.{length-append}
use Rattle.species_ast.specs.declared.tree.Loop.{Loop, out-Loop}
use Rattle.species_ast.specs.declared.tree.Stmt.{Stmt}
use Rattle.species_ast.specs.declared.tree.Stmt.TheVariants as stmt
use Rattle.species_ast.specs.declared.tree.Unit.{Unit as Program}
use Rattle.species_ast.specs.Accesses.{Joins, Cells}
use Rattle.species_ast.specs.Evaluation.{Frame, Context}
use Rattle.species_ast.specs.Run.{source_context, first_frame}
use Rattle.species_ast.specs.Scope.WellMade.{Around, list_holds, made, made_at, made_loop, head_holds, is_made, is_made_bound, outermost, IsWellMade}
use Rattle.species_ast.proofs.Folds.{fold_stmt-If, fold_stmt-For, fold_stmt-Block, fold_loop-out}
use Rattle.species_nests.specs.Arrivals.{Moment, Reaches, here, in_turn, in_body, in_otherwise, in_block, ReachesIn, first, later, Running, moment, ComesTo}

-- ---- loops, one in the other

-- the bounds of the loop name iterators of levels below n
pub record IsNamed (n : ℕ) (l : Loop) : Type 0 where
  pub start : is_made_bound n (out-Loop l).start ≡ true
  pub limit : is_made_bound n (out-Loop l).limit ≡ true

-- each loop, where the first has level n, names those outside it
abbrev pub AreNamed : ℕ → List Loop → Type 0
AreNamed n [] = Unit {0}
AreNamed n (l ∷ ls) = IsNamed n l × AreNamed (suc n) ls

named_behind : (n : ℕ) (ls : List Loop) (l : Loop) → AreNamed n ls → IsNamed (n + length ls) l → AreNamed n (ls ++ l ∷ [])
named_behind n [] l h k = (subst (λ j. IsNamed j l) (omega arith) k, tt)
named_behind n (x ∷ ls) l h k = (h.0, named_behind (suc n) ls l h.1 (subst (λ j. IsNamed j l) (omega arith) k))

pub named_after : (n : ℕ) (ls ks : List Loop) → AreNamed n (ls ++ ks) → AreNamed (n + length ls) ks
named_after n [] ks h = subst (λ j. AreNamed j ks) (omega arith) h
named_after n (x ∷ ls) ks h = subst (λ j. AreNamed j ks) (omega arith) (named_after (suc n) ls ks h.1)

-- ---- where a run comes to

-- in so many loops the statement is well made, and so are those of a list
abbrev HoldsIn : ℕ → Stmt → Type 0
HoldsIn n x = (w : Around) × (w.level ≡ n) × ((made x).holds w ≡ true)

abbrev HoldIn : ℕ → List Stmt → Type 0
HoldIn n xs = (w : Around) × (w.level ≡ n) × (list_holds (map made xs) w ≡ true)

abbrev IsNamedMoment : Moment → Type 0
IsNamedMoment q = AreNamed 0 q.around × HoldsIn (length q.around) q.statement

record IsLoopIn (n : ℕ) (l : Loop) : Type 0 where
  named : IsNamed n l
  body : HoldIn (suc n) (out-Loop l).body

loop_in : (n : ℕ) (l : Loop) → HoldsIn n (stmt.For l) → IsLoopIn n l
loop_in n l (w, level, h) =
    let parts = and_parts (head_holds (out-Loop l) w) (list_holds (map made (out-Loop l).body) (record w { level = suc w.level }))
    (ap (λ m. m.holds w) (sym (fold_stmt-For made_at made_loop l ∙ fold_loop-out made_at made_loop l)) ∙ h) in
    let start = and_parts (is_made_bound w.level (out-Loop l).start) _ parts.0 in
    let limit = and_parts (is_made_bound w.level (out-Loop l).limit) _ start.1 in
    record {
      named = subst (λ j. IsNamed j l) level (record { start = start.0; limit = limit.0 });
      body = (record w { level = suc w.level }, ap suc level, parts.1);
    }

one_longer : (ls : List Loop) (l : Loop) → suc (length ls) ≡ length (ls ++ l ∷ [])
one_longer ls l = omega (arith, length-append ls (l ∷ []))

mutual
  reaches_named : (join : Joins) (c : Context) (q : Moment) (x : Stmt) (around : List Loop) (at : List ℕ) (f : Frame) (m : Cells)
      → Reaches join c q x around at f m → HoldsIn (length around) x → AreNamed 0 around → IsNamedMoment q
  reaches_named join c q x around at f m here h k = (k, h)
  reaches_named join c q x around at f m (in_turn l _ _ _ g _ begun n before i behind is ended inner) h k =
      let one = loop_in (length around) l h in
      reaches_in_named join c q (out-Loop l).body (around ++ l ∷ []) at 0 _ n inner
      (subst (λ j. HoldIn j (out-Loop l).body) (one_longer around l) one.body) (named_behind 0 around l k (subst (λ j. IsNamed j l) (omega arith) one.named))
  reaches_named join c q x around at f m (in_body place test body otherwise _ _ _ _ n v is taken inner) (w, level, h) k =
      let all = and_parts (is_made w test) (list_holds (map made body) w && list_holds (map made otherwise) w) (ap (λ m. m.holds w) (sym (fold_stmt-If made_at made_loop place test body otherwise)) ∙ h) in
      let both = and_parts (list_holds (map made body) w) (list_holds (map made otherwise) w) all.1 in
      reaches_in_named join c q body around at 0 f n inner (w, level, both.0) k
  reaches_named join c q x around at f m (in_otherwise place test body otherwise _ _ _ _ n v is taken inner) (w, level, h) k =
      let all = and_parts (is_made w test) (list_holds (map made body) w && list_holds (map made otherwise) w) (ap (λ m. m.holds w) (sym (fold_stmt-If made_at made_loop place test body otherwise)) ∙ h) in
      let both = and_parts (list_holds (map made body) w) (list_holds (map made otherwise) w) all.1 in
      reaches_in_named join c q otherwise around at (length body) f n inner (w, level, both.1) k
  reaches_named join c q x around at f m (in_block body _ _ _ _ inner) (w, level, h) k =
      reaches_in_named join c q body around at 0 f m inner (w, level, ap (λ m. m.holds w) (sym (fold_stmt-Block made_at made_loop body)) ∙ h) k

  reaches_in_named : (join : Joins) (c : Context) (q : Moment) (xs : List Stmt) (around : List Loop) (at : List ℕ) (j : ℕ) (f : Frame) (m : Cells)
      → ReachesIn join c q xs around at j f m → HoldIn (length around) xs → AreNamed 0 around → IsNamedMoment q
  reaches_in_named join c q xs around at j f m (first x rest _ _ _ _ _ inner) (w, level, h) k =
      reaches_named join c q x around (at ++ j ∷ []) f m inner (w, level, (and_parts ((made x).holds w) (list_holds (map made rest) (record w { locals = (made x).declares ++ w.locals })) h).0) k
  reaches_in_named join c q xs around at j f m (later x rest _ _ _ _ g _ n ended inner) (w, level, h) k =
      reaches_in_named join c q rest around at (suc j) g n inner
      (record w { locals = (made x).declares ++ w.locals }, level, (and_parts ((made x).holds w) (list_holds (map made rest) (record w { locals = (made x).declares ++ w.locals })) h).1) k

-- the law
pub running_named : (join : Joins) (u : Program) (m : Cells) (r : Running) → IsWellMade u → ComesTo join u m r → AreNamed 0 (r.around ++ r.loop ∷ [])
running_named join u m r well comes =
    let all = reaches_in_named join (source_context u) (moment r) u.body [] [] 0 (first_frame u) m comes (outermost u, refl, well.body) tt in
    named_behind 0 r.around r.loop all.0 (subst (λ j. IsNamed j r.loop) (omega arith) (loop_in (length r.around) r.loop all.1).named)
