-- What a unit with parallel marks does: sequential parts access by access, and nests whose iterations run together (OpenMP 4.5, 2.7.1).
use Rattle.std.specs.Prelude.{ℕ, suc, ◌-◌, List, [], ◌∷◌, ◌++◌, map, flat_map, length, if◌then◌else◌, ℤ}
use Rattle.species_ast.specs.declared.tree.Value.{Value}
use Rattle.species_ast.specs.declared.tree.Mark.{Mark}
use Rattle.species_ast.specs.declared.tree.Mark.TheVariants.{Plain, Parallel}
use Rattle.species_ast.specs.declared.tree.Loop.{Loop, out-Loop}
use Rattle.species_ast.specs.declared.tree.Stmt.{Stmt, para-Stmt}
use Rattle.species_ast.specs.declared.tree.Stmt.TheOpen.{Stmt-F, Loop-F}
use Rattle.species_ast.specs.declared.tree.Unit.{Unit as Program}
use Rattle.species_ast.specs.Operators.{is_true}
use Rattle.species_ast.specs.Accesses.{Joins, Element, Site, Cause, Tree, Ret, Stop, Read, Write, Add}
use Rattle.species_ast.specs.Evaluation.{Frame, Context, sense}
use Rattle.species_ast.specs.Run.{Step, step_at, inside, outside, cleared, spot, source_context, first_frame}
use Rattle.species_nests.specs.Arrivals.{heading}
use Rattle.species_nests.specs.Nests.{nest_of, headers, iterations}
use Rattle.bones_meaning.specs.Gatherings.{Gatherings}

-- A tree of accesses in which nests stand. A nest is its iterations by rank, with what an atomic addition does there; behind it
-- comes the barrier, and then the rest.
pub data Course (X : Type 0) : Type 0 where
  Over : X → Course X
  Halt : Site → Cause → Course X
  Reading : Site → Element → (Value → Course X) → Course X
  Writing : Site → Element → Value → Course X → Course X
  Adding : Site → Element → Value → Course X → Course X
  Together : Joins → List (Tree Frame) → Course X → Course X

-- first the one, then what follows from what it gave
abbrev pub and_then : {X Y : Type 0} → Course X → (X → Course Y) → Course Y
and_then (Over x) next = next x
and_then (Halt s why) next = Halt s why
and_then (Reading s e more) next = Reading s e (λ v. and_then (more v) next)
and_then (Writing s e v more) next = Writing s e v (and_then more next)
and_then (Adding s e v more) next = Adding s e v (and_then more next)
and_then (Together join ts more) next = Together join ts (and_then more next)

-- what runs sequentially, and what follows from what it gave
abbrev pub after : {X Y : Type 0} → Tree X → (X → Course Y) → Course Y
after (Ret x) next = next x
after (Stop s why) next = Halt s why
after (Read s e more) next = Reading s e (λ v. after (more v) next)
after (Write s e v more) next = Writing s e v (after more next)
after (Add s e v more) next = Adding s e v (after more next)

-- ---- statements

abbrev pub Coursing : Type 0
Coursing = List ℕ → Frame → Course Frame

-- A statement: the locals that it declares in the list where it stands, and what it does.
pub record Part : Type 0 where
  pub declares : List ℕ
  pub does : Coursing

abbrev pub course_list : List Part → List ℕ → ℕ → Frame → Course Frame
course_list [] at k f = Over f
course_list (x ∷ xs) at k f = and_then (x.does (at ++ k ∷ []) f) (course_list xs at (suc k))

abbrev pub course_scope : List Part → List ℕ → ℕ → Frame → Course Frame
course_scope xs at k f = and_then (course_list xs at k f) (λ g. Over (cleared (flat_map (λ x. x.declares) xs) g))

abbrev pub course_turns : List ℤ → (Frame → Course Frame) → Frame → Course Frame
course_turns [] body f = Over f
course_turns (i ∷ is) body f = and_then (body (inside f i)) (λ g. course_turns is body (outside f g))

-- a statement in which no nest stands
abbrev pub sequential : Step → Part
sequential s = record { declares = s.declares; does = λ at f. after (s.does at f) (λ g. Over g) }

abbrev pub parts : List (Stmt × Part) → List Part
parts xs = map (λ x. x.1) xs

-- a loop by its mark: what it does otherwise, or the iterations of its nest together
abbrev pub by_mark : Gatherings → Context → Mark → Loop → Coursing → Coursing
by_mark gathers w Plain l does at f = does at f
by_mark gathers w (Parallel depth schedule) l does at f =
    let n = nest_of (depth - 1) l at in
    after (headers w n.loops f) (λ fs. Together (gathers at).join (iterations (gathers at).takes w n fs) (Over f))

abbrev pub part_at : Gatherings → Context → Stmt-F (Stmt × Part) (Loop × Coursing) → Part
part_at gathers w (Stmt-F.Assign place a subs value) = sequential (step_at w (Stmt-F.Assign place a subs value))
part_at gathers w (Stmt-F.AddTo place a subs value atomic) = sequential (step_at w (Stmt-F.AddTo place a subs value atomic))
part_at gathers w (Stmt-F.Declare place x init) = sequential (step_at w (Stmt-F.Declare place x init))
part_at gathers w (Stmt-F.SetLocal place x value) = sequential (step_at w (Stmt-F.SetLocal place x value))
part_at gathers w (Stmt-F.If place test body otherwise) = record {
  declares = [];
  does = λ at f. after ((sense w test).does (spot place at) 0 f) (λ v.
      if is_true v then course_scope (parts body) at 0 f else course_scope (parts otherwise) at (length body) f);
}
part_at gathers w (Stmt-F.For l) = record { declares = []; does = by_mark gathers w (out-Loop l.0).mark l.0 l.1 }
part_at gathers w (Stmt-F.Block body) = record { declares = []; does = λ at. course_scope (parts body) at 0 }

abbrev pub coursing_at : Context → Loop-F (Stmt × Part) (Loop × Coursing) → Coursing
coursing_at w l at f =
    after (heading l.test l.step (sense w l.start) (sense w l.limit) (spot l.place at) f) (λ is. course_turns is (course_scope (parts l.body) at 0) f)

abbrev pub part : Gatherings → Context → Stmt → Part
part gathers w = para-Stmt Part Coursing (part_at gathers w) (coursing_at w)

-- what a unit does
abbrev pub course_of : Gatherings → Program → Course Frame
course_of gathers u = course_list (map (part gathers (source_context u)) u.body) [] 0 (first_frame u)
