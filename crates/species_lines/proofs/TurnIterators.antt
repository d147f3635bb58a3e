-- The iterators of a turn are those of the running and a value of its own loop.
use Rattle.std.proofs.Common.{◌≡◌, refl, ap, sym, subst, arith, ℕ, zero, suc, List, [], ◌∷◌, ◌++◌, ℤ}
use Rattle.std.specs.List.{Contains}
use Rattle.species_ast.specs.declared.tree.Loop.{Loop}
use Rattle.species_ast.specs.declared.tree.Unit.{Unit as Program}
use Rattle.species_ast.specs.Accesses.{Joins, Cells, Tree, Outcome, Ended, Stopped, run}
use Rattle.species_ast.specs.Evaluation.{Frame, Context}
use Rattle.species_ast.specs.Run.{inside, outside, source_context, first_frame}
use Rattle.species_ast.specs.Scope.WellMade.{IsWellMade}
use Rattle.species_nests.specs.Arrivals.{header, turn_of, Running, moment, ComesTo}
use Rattle.species_nests.proofs.IteratorArrivals.{reaches_in_iters}
use Rattle.species_nests.proofs.RunningLaws.{contains_later}
use Rattle.species_occurrences.specs.Iterators.{AreTheirs}
use Rattle.species_occurrences.specs.Regular.{as_marked}
use Rattle.species_occurrences.specs.Turns.{Turn, turns_behind, turns_from, loop_turns}
use Rattle.species_occurrences.proofs.NestReferences.{each_both}
use Rattle.species_occurrences.proofs.RunningTaken.{loop_regular, running_bounded}
use Rattle.species_runs.proofs.TurnLaws.{empty_contains}
use Rattle.species_lines.proofs.BetweenLaws.{AreBetween, AreIteratorsBetween, goes_between}

-- the value that the iterator has in a turn
from_turns : (join : Joins) (body : Frame → Tree Frame) (is : List ℤ) (f : Frame) (m : Cells) (t : Turn) → Contains (turns_from join body is f m) t
    → (i : ℤ) × Contains is i × (t.frame.iters ≡ f.iters ++ i ∷ [])
from_turns join body [] f m t c = absurd (empty_contains t c)
from_turns join body (i ∷ is) f m t (zero, below, same) = (i, (0, omega arith, refl), ap (λ (x : Turn). x.frame.iters) (sym same))
from_turns join body (i ∷ is) f m t (suc k, below, same) =
    let rest = behind (λ g n c. from_turns join body is (outside f g) n t c) (run join (body (inside f i)) m) (k, omega (arith, below), same) in
    (rest.0, contains_later i rest.0 is rest.1, rest.2)
  where
    behind : ((g : Frame) (n : Cells) → Contains (turns_from join body is (outside f g) n) t → (j : ℤ) × Contains is j × (t.frame.iters ≡ f.iters ++ j ∷ [])) → (o : Outcome Frame)
        → Contains (turns_behind o (λ g n. turns_from join body is (outside f g) n)) t → (j : ℤ) × Contains is j × (t.frame.iters ≡ f.iters ++ j ∷ [])
    behind ih (Ended g n) c = ih g n c
    behind ih (Stopped why place) c = absurd (empty_contains t c)

record IsTurnOf (join : Joins) (w : Context) (l : Loop) (at : List ℕ) (f : Frame) (m : Cells) (t : Turn) : Type 0 where
  values : List ℤ
  begun : Cells
  ran : run join (header w l at f) m ≡ Ended values begun
  value : ℤ
  one : Contains values value
  iters : t.frame.iters ≡ f.iters ++ value ∷ []

turn_of_loop : (join : Joins) (w : Context) (l : Loop) (at : List ℕ) (f : Frame) (m : Cells) (t : Turn) → Contains (loop_turns join w l at f m) t → IsTurnOf join w l at f m t
turn_of_loop join w l at f m t c = go (run join (header w l at f) m) refl c
  where
    go : (o : Outcome (List ℤ)) → run join (header w l at f) m ≡ o → Contains (turns_behind o (λ is n. turns_from join (turn_of w l at) is f n)) t → IsTurnOf join w l at f m t
    go (Ended is n) e h = let one = from_turns join (turn_of w l at) is f n t h in record { values = is; begun = n; ran = e; value = one.0; one = one.1; iters = one.2 }
    go (Stopped why place) e h = absurd (empty_contains t h)

-- the law
pub turn_iterators : (join : Joins) (u : Program) (m : Cells) (r : Running) (t : Turn) → IsWellMade u → ComesTo join u m r → Contains (loop_turns join (source_context u) r.loop r.at r.frame r.arrays) t
    → AreTheirs (r.around ++ r.loop ∷ []) t.frame.iters × AreBetween [] (r.around ++ r.loop ∷ []) t.frame.iters
turn_iterators join u m r t well comes c =
    let w = source_context u in
    let one = turn_of_loop join w r.loop r.at r.frame r.arrays t c in
    let bounded = running_bounded join u m r well comes in
    let around = reaches_in_iters join w AreIteratorsBetween (goes_between join w) (moment r) u.body [] [] 0 (first_frame u) m comes (λ some. ((tt, tt), tt)) in
    let inner = goes_between join w r.loop r.around r.at r.frame r.arrays one.begun one.values one.value around one.ran one.one in
    subst (λ xs. AreTheirs (r.around ++ r.loop ∷ []) xs × AreBetween [] (r.around ++ r.loop ∷ []) xs) (sym one.iters)
    (inner (each_both r.around (r.loop ∷ []) bounded.0 ((loop_regular as_marked r.loop bounded.1).0, tt)))
