-- The nest of a loop in a well made unit: its body fits where the loop is run, its headers touch no array, and its run is that of its
-- iterations.
use Rattle.std.proofs.Common.{◌≡◌, refl, ap, sym, ◌∙◌, subst, ℕ, zero, suc, List, [], ◌∷◌, ◌++◌, map, true, Option, Some, None}
use Rattle.species_ast.specs.declared.tree.Loop.{Loop, out-Loop, roll-Loop}
use Rattle.species_ast.specs.declared.tree.Stmt.{Stmt}
use Rattle.species_ast.specs.declared.tree.Stmt.TheVariants as stmt
use Rattle.species_ast.specs.declared.tree.Unit.{Unit as Program}
use Rattle.species_ast.specs.Accesses.{Joins, Cells, Ended, run, accesses}
use Rattle.species_ast.specs.Evaluation.{Frame, Context}
use Rattle.species_ast.specs.Run.{does_scope, locals_of, source_context}
use Rattle.species_ast.specs.Scope.WellMade.{Around, list_holds, made, made_at, made_loop, IsWellMade}
use Rattle.species_ast.proofs.Folds.{fold_stmt-For, fold_stmt-Block, fold_loop-out}
use Rattle.species_ast.proofs.Induction.{Each, each_all, stmt_ind}
use Rattle.species_ast.proofs.Paras.{para_stmt-Assign, para_stmt-AddTo, para_stmt-Declare, para_stmt-SetLocal, para_stmt-If, para_stmt-For}
use Rattle.species_ast.proofs.RunLaws.{locals-Block}
use Rattle.species_runs.specs.Scopes.{HasOnly, AreApart, FitIn, outer_locals_set}
use Rattle.species_runs.proofs.ScopeLaws.{and_true}
use Rattle.species_nests.specs.Arrivals.{Running, ComesTo}
use Rattle.species_nests.specs.Effects.{HasQuietHeader}
use Rattle.species_nests.specs.Meetings.{running_traces}
use Rattle.species_nests.specs.Nests.{Placed, sole_at, sole, only, nest_in, nest_of, frames, run_all, loops_at, loops_of}
use Rattle.species_nests.proofs.ArrivalLaws.{running}
use Rattle.species_nests.proofs.FitLaws.{RunningFits, running_fits, fit_body, among_front, locals_of_loop, deeper}
use Rattle.species_nests.proofs.NestLaws.{under, no_loops, not_some, sole-For, sole-Block, joined, nest_in_has, body_loops}
use Rattle.species_nests.proofs.QuietLaws.{QuietIn, made_quiet, list_quiet}
use Rattle.species_nests.proofs.RunningLaws.{running_ran}

-- ---- the body of a nest fits

loop_fits : (w : Around) (l : Loop) (f : Frame) → (made (stmt.For l)).holds w ≡ true → AreApart (locals_of (stmt.For l)) w.locals → HasOnly w.locals f → FitIn (out-Loop l).body f
loop_fits w l f holds apart only =
    let all = ap (λ m. m.holds w) (sym (fold_stmt-For made_at made_loop l ∙ fold_loop-out made_at made_loop l)) ∙ holds in
    record {
      around = deeper w;
      holds = (and_true _ (list_holds (map made (out-Loop l).body) (deeper w)) all).1;
      apart = subst (λ xs. AreApart xs w.locals) (locals_of_loop l) apart;
      only = only;
    }

abbrev SoleFits : Stmt → Type 0
SoleFits x = (at : List ℕ) (p : Placed) → sole x at ≡ Some p → (w : Around) → (made x).holds w ≡ true → AreApart (locals_of x) w.locals → (f : Frame) → HasOnly w.locals f
    → FitIn (out-Loop p.loop).body f

only_fits : (ss : List Stmt) → Each SoleFits ss → (at : List ℕ) (p : Placed) → only ss at ≡ Some p → (f : Frame) → FitIn ss f → FitIn (out-Loop p.loop).body f
only_fits [] h at p is f fit = absurd cc
only_fits (x ∷ []) h at p is f fit =
    h.0 (at ++ 0 ∷ []) p is fit.around (and_true ((made x).holds fit.around) true fit.holds).0 (λ y there. fit.apart y (among_front (locals_of x) [] y there)) f fit.only
only_fits (x ∷ y ∷ ss) h at p is f fit = absurd cc

sole_fits : (x : Stmt) → SoleFits x
sole_fits = stmt_ind SoleFits (record {
  assign = λ place a subs value at p is. absurd (not_some _ at p (para_stmt-Assign sole_at no_loops place a subs value) is);
  add_to = λ place a subs value atomic at p is. absurd (not_some _ at p (para_stmt-AddTo sole_at no_loops place a subs value atomic) is);
  declare = λ place x init at p is. absurd (not_some _ at p (para_stmt-Declare sole_at no_loops place x init) is);
  set_local = λ place x value at p is. absurd (not_some _ at p (para_stmt-SetLocal sole_at no_loops place x value) is);
  choice = λ place test body otherwise h k at p is. absurd (not_some _ at p (para_stmt-If sole_at no_loops place test body otherwise) is);
  loop = λ l h at p is w holds apart f only.
      let same : Some (record { loop = roll-Loop l; at = at }) ≡ Some p = ap (λ s. s at) (sym (sole-For (roll-Loop l))) ∙ is in
      let it : record { loop = roll-Loop l; at = at } ≡ p = cc in
      subst (λ q. FitIn (out-Loop q.loop).body f) it (loop_fits w (roll-Loop l) f holds apart only);
  block = λ body h at p is w holds apart f only.
      only_fits body h at p (ap (λ s. s at) (sym (sole-Block body)) ∙ is) f (record {
        around = w;
        holds = ap (λ m. m.holds w) (sym (fold_stmt-Block made_at made_loop body)) ∙ holds;
        apart = subst (λ xs. AreApart xs w.locals) (locals-Block body) apart;
        only = only;
      });
})

-- the law
pub nest_in_fits : (d : ℕ) (body : List Stmt) (at : List ℕ) (f : Frame) → FitIn body f → FitIn (nest_in d body at).body f
nest_in_fits zero body at f fit = fit
nest_in_fits (suc d) body at f fit = go (λ body at fit. nest_in_fits d body at f fit) (only body at) refl
  where
    go : ((body : List Stmt) (at : List ℕ) → FitIn body f → FitIn (nest_in d body at).body f) → (o : Option Placed) → only body at ≡ o → FitIn (under d body at o).body f
    go ih None is = fit
    go ih (Some p) is = ih (out-Loop p.loop).body p.at (only_fits body (each_all SoleFits sole_fits body) at p is f fit)

pub nest_fits : (d : ℕ) (r : Running) → RunningFits r → FitIn (nest_of d r.loop r.at).body r.frame
nest_fits d r fits = nest_in_fits d (out-Loop r.loop).body r.at r.frame (fit_body r fits)

-- ---- its headers touch no array

header_quiet : (c : Context) (w : Around) (l : Loop) → (made (stmt.For l)).holds w ≡ true → HasQuietHeader c l
header_quiet c w l holds =
    let all : Each (HasQuietHeader c) (loops_of (stmt.For l)) = made_quiet c (stmt.For l) w holds in
    (subst (Each (HasQuietHeader c)) (para_stmt-For loops_at body_loops l) all).0

pub nest_quiet : (c : Context) (d : ℕ) (r : Running) → RunningFits r → Each (λ p. HasQuietHeader c p.loop) (nest_of d r.loop r.at).loops
nest_quiet c d r fits =
    let body = fit_body r fits in
    (loop_quiet, nest_in_has (HasQuietHeader c) d (out-Loop r.loop).body r.at (list_quiet c (out-Loop r.loop).body (each_all (QuietIn c) (made_quiet c) (out-Loop r.loop).body) body.around body.holds))
  where
    loop_quiet : HasQuietHeader c r.loop
    loop_quiet = header_quiet c fits.0 r.loop fits.1.holds

-- ---- the law of a nest's run

-- In a well made unit, where a run comes to a loop whose nest sets no local of the outside, and the loop's run ends, it ends in the
-- frame in which it began; its iterations, one after another, give its arrays, and its accesses are theirs.
pub nest_ran : (join : Joins) (u : Program) (m : Cells) (d : ℕ) (r : Running) (g : Frame) (last : Cells) → IsWellMade u → ComesTo join u m r
    → outer_locals_set (nest_of d r.loop r.at).body ≡ [] → run join (running (source_context u) r) r.arrays ≡ Ended g last
    → (g ≡ r.frame)
    × (run_all join (map (does_scope (source_context u) (nest_of d r.loop r.at).body (nest_of d r.loop r.at).at 0) (frames (source_context u) (nest_of d r.loop r.at).loops r.frame)) r.arrays ≡ Some last)
    × (accesses join (running (source_context u) r) r.arrays ≡ joined (running_traces join (source_context u) d r))
nest_ran join u m d r g last well_made comes none ended =
    let fits = running_fits join u m r well_made comes in
    running_ran join (source_context u) d r g last (nest_quiet (source_context u) d r fits) (nest_fits d r fits) none ended
