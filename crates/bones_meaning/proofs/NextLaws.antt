-- The action to which a walk through an iteration leads is the entry of its actions.
use Rattle.std.proofs.Common.{◌≡◌, refl, ap, sym, ◌∙◌, subst, arith, ℕ, zero, suc, ◌+◌, ◌<◌, ◌^◌, List, [], ◌∷◌, length, Bool, true, false, ◌&&◌, Option, Some, None, Ok, Err, pos, lit<}
use Rattle.std.specs.Prelude.{slice_get, unwrap_or, option_map, not, nat_le}
use Rattle.std.specs.List.{list_all}
use Rattle.species_ast.specs.declared.action.Action.{Action}
use Rattle.species_ast.specs.declared.action.Action.TheVariants as action
use Rattle.species_ast.specs.declared.tree.Array.{Array}
use Rattle.species_ast.specs.declared.tree.Stmt.{Stmt}
use Rattle.species_ast.specs.declared.tree.Unit.{Unit as Program}
use Rattle.species_ast.specs.declared.tree.Value.{Value}
use Rattle.species_ast.specs.declared.tree.Value.TheVariants.{Int}
use Rattle.species_ast.specs.Accesses.{Tree, Ret, Stop, Read, Write, Add, Access, acts, read_of, write_of, add_of}
use Rattle.species_ast.specs.Evaluation.{Frame, Context, product, sizes_of, element_at}
use Rattle.species_ast.specs.Run.{iteration, actions, source_context, sums_take}
use Rattle.species_ast.specs.Scope.Limits.{most_elements, has_too_many_dimensions, has_lawful_sizes}
use Rattle.species_ast.specs.Scope.WellMade.{IsWellMade, is_made_array}
use Rattle.species_runs.specs.Every.{Anything, Every}
use Rattle.species_runs.specs.Sites.{IsMadeAt}
use Rattle.species_runs.specs.Walks.{Walk, Met, Past, Came, walk, entry}
use Rattle.species_runs.proofs.EveryLaws.{every_weaker}
use Rattle.species_runs.proofs.IndexLaws.{row_below}
use Rattle.species_runs.proofs.SiteLaws.{sits_scope, each_sits, HasIters}
use Rattle.species_runs.proofs.WalkLaws.{walk-acts}
use Rattle.bones_meaning.specs.Places.{capped, capped_action}
use Rattle.bones_meaning.specs.Tapes.{Tape, tape, Passed, passed, Walked}
use Rattle.bones_meaning.specs.Walked.{context, scope_effect}
use Rattle.bones_meaning.proofs.Law.{seen, scope_walked}

-- ---- places are small

and_parts : (a b : Bool) → (a && b) ≡ true → (a ≡ true) × (b ≡ true)
and_parts true b h = (refl, h)
and_parts false b h = absurd cc

at_most : (a b : ℕ) → nat_le a b ≡ true → a < b + 1
at_most a b h = grind arith

small_array : (x : Array) → is_made_array x ≡ true → product x.dims < 2 ^ 32
small_array x h =
    let sizes = (and_parts (not (has_too_many_dimensions x)) (has_lawful_sizes x) h).1 in
    let most = (and_parts (list_all (nat_le 1) x.dims) (nat_le (product x.dims) most_elements) sizes).1 in
    omega (arith, at_most (product x.dims) most_elements most)

small_sizes : (arrays : List Array) → list_all is_made_array arrays ≡ true → (a : ℕ) → product (unwrap_or (option_map (λ x. x.dims) (slice_get arrays a)) (0 ∷ [])) < 2 ^ 32
small_sizes [] h a = lit< tt
small_sizes (x ∷ arrays) h zero = small_array x (and_parts (is_made_array x) (list_all is_made_array arrays) h).0
small_sizes (x ∷ arrays) h (suc a) = small_sizes arrays (and_parts (is_made_array x) (list_all is_made_array arrays) h).1 a

abbrev IsSmall : Access → Type 0
IsSmall a = a.element.at < 2 ^ 32

small_place : (u : Program) (w : Context) → w.arrays ≡ u.arrays → IsWellMade u → (at : List ℕ) (f : Frame) (a : Access) → IsMadeAt w at f.iters a → IsSmall a
small_place u w same made at f a is =
    let below = row_below (sizes_of w a.element.array) a.site.indices is.indices in
    let place : a.element.at ≡ (element_at w a.element.array a.site.indices).at = ap (λ e. e.at) is.element in
    let sizes : product (sizes_of w a.element.array) < 2 ^ 32 =
    subst (λ l. product (unwrap_or (option_map (λ x. x.dims) (slice_get l a.element.array)) (0 ∷ [])) < 2 ^ 32) (sym same) (small_sizes u.arrays made.arrays a.element.array) in
    omega (arith, below, place, sizes)

capped_same : (n : ℕ) → n < 2 ^ 32 → capped n ≡ n
capped_same n h = omega (arith, h)

-- an action to which a walk leads, of accesses with small places, is as it was
same_action : (a b : Action) → capped_action a ≡ a → a ≡ b → capped_action b ≡ b
same_action a b h e = subst (λ z. capped_action z ≡ z) e h

small_met : {X : Type 0} (Q : X → Type 0) (t : Tree X) (vs : List Value) (d : ℕ) (b : Action) → Every IsSmall Q t → walk t vs d ≡ Met b → capped_action b ≡ b
small_met Q (Ret x) vs d b h p = absurd cc
small_met Q (Stop s why) vs zero b h p = let e : action.Fault ≡ b = cc in same_action action.Fault b refl e
small_met Q (Stop s why) vs (suc d) b h p = absurd cc
small_met Q (Read s el more) vs zero b h p =
    let e : read_of el ≡ b = cc in same_action (read_of el) b (ap (λ n. action.Read el.array n) (capped_same el.at (h (Int (pos 0))).0)) e
small_met Q (Read s el more) [] (suc d) b h p = absurd cc
small_met Q (Read s el more) (v ∷ vs) (suc d) b h p = small_met Q (more v) vs d b (h v).1 p
small_met Q (Write s el v more) vs zero b h p =
    let e : write_of el v ≡ b = cc in same_action (write_of el v) b (ap (λ n. action.Write el.array n v) (capped_same el.at h.0)) e
small_met Q (Write s el v more) vs (suc d) b h p = small_met Q more vs d b h.1 p
small_met Q (Add s el v more) vs zero b h p =
    let e : add_of el v ≡ b = cc in same_action (add_of el v) b (ap (λ n. action.Add el.array n v) (capped_same el.at h.0)) e
small_met Q (Add s el v more) vs (suc d) b h p = small_met Q more vs d b h.1 p

-- ---- entries

some_at : (xs : List Action) (d : ℕ) → d < length xs → slice_get xs d ≡ None → ⊥
some_at [] d h e = omega (arith, h)
some_at (x ∷ xs) zero h e = absurd cc
some_at (x ∷ xs) (suc d) h e = some_at xs d (omega (arith, h)) e

-- what calls tell of a walk that came to its end, met an action, or went past the last
entry_done : {X : Type 0} (w : Walk X) (p : Passed X) → seen w ≡ Ok p → (entry w ≡ None → ⊥) → entry w ≡ Some action.Done
entry_done (Met a) p h more = absurd cc
entry_done Past p h more = absurd cc
entry_done (Came x vs zero) p h more = refl
entry_done (Came x vs (suc d)) p h more = absurd (more refl)

entry_met : {X : Type 0} (w : Walk X) (a : Action) → seen w ≡ Err (Some a) → ((b : Action) → w ≡ Met b → capped_action b ≡ b) → entry w ≡ Some a
entry_met (Met b) a h small = let e : capped_action b ≡ a = cc in ap (λ z. Some z) (sym (small b refl) ∙ e)
entry_met Past a h small = absurd cc
entry_met (Came x vs d) a h small = absurd cc

entry_past : {X : Type 0} (w : Walk X) → seen w ≡ Err None → entry w ≡ None
entry_past (Met a) h = absurd cc
entry_past Past h = refl
entry_past (Came x vs d) h = absurd cc

-- ---- the next action

abbrev pub halted : Option Action → Walked Frame
halted why = Err why

-- a walk from a frame and a tape that are copies
pub begun : (u : Program) (body : List Stmt) (f g : Frame) (answers : List Value) (done : ℕ) (t : Tape) → g ≡ f → t ≡ tape answers done
    → scope_effect (context u body) body f (tape answers done) ≡ scope_effect (context u body) body g t
begun u body f g answers done t same is = λ i. scope_effect (context u body) body (sym same i) (sym is i)

abbrev entries : Program → List Stmt → Frame → List Value → List Action
entries u body f answers = actions sums_take (source_context u) body f answers

abbrev tree : Program → List Stmt → Frame → Tree Frame
tree u body f = iteration sums_take (source_context u) body [] f

present : (u : Program) (body : List Stmt) (f : Frame) (answers : List Value) (done : ℕ) → done < length (entries u body f answers) → entry (walk (tree u body f) answers done) ≡ None → ⊥
present u body f answers done h e = some_at (entries u body f answers) done h (walk-acts (tree u body f) answers done ∙ e)

pub next_done : (u : Program) (body : List Stmt) (f : Frame) (answers : List Value) (done : ℕ) (p : Passed Frame) → done < length (actions sums_take (source_context u) body f answers)
    → scope_effect (context u body) body f (tape answers done) ≡ Ok p → slice_get (actions sums_take (source_context u) body f answers) done ≡ Some action.Done
next_done u body f answers done p within h =
    walk-acts (tree u body f) answers done
    ∙ entry_done (walk (tree u body f) answers done) p (scope_walked (context u body) body [] 0 f (tape answers done) ∙ h) (present u body f answers done within)

pub next_met : (u : Program) (body : List Stmt) (f : Frame) (answers : List Value) (done : ℕ) (a : Action) → IsWellMade u
    → scope_effect (context u body) body f (tape answers done) ≡ Err (Some a) → slice_get (actions sums_take (source_context u) body f answers) done ≡ Some a
next_met u body f answers done a made h =
    let w = context u body in
    let every = every_weaker (IsMadeAt w [] f.iters) IsSmall (HasIters f) Anything (tree u body f) (λ x is. small_place u w refl made [] f x is) (λ x is. tt) (sits_scope w body (each_sits w body) [] 0 f) in
    walk-acts (tree u body f) answers done
    ∙ entry_met (walk (tree u body f) answers done) a (scope_walked w body [] 0 f (tape answers done) ∙ h) (λ b is. small_met Anything (tree u body f) answers done b every is)

pub next_past : (u : Program) (body : List Stmt) (f : Frame) (answers : List Value) (done : ℕ) → done < length (actions sums_take (source_context u) body f answers)
    → scope_effect (context u body) body f (tape answers done) ≡ Err None → ⊥
next_past u body f answers done within h =
    present u body f answers done within (entry_past (walk (tree u body f) answers done) (scope_walked (context u body) body [] 0 f (tape answers done) ∙ h))
