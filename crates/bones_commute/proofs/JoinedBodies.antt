-- The body of a joined nest: what it does, sets and adds.
use Rattle.std.proofs.Common.{◌≡◌, refl, ap, sym, ◌∙◌, subst, ℕ, ◌+◌, List, [], ◌∷◌, ◌++◌, map, flat_map, length, Bool, true, false, ◌&&◌, ◌||◌, Option, inl, inr, ⊎_elim}
use Rattle.std.specs.Prelude.{nat_eq}
use Rattle.std.proofs.lemmas.Bool.{cases_Bool}
use Rattle.std.proofs.lemmas.List.{append-nil, append_assoc}
use Rattle.species_ast.specs.declared.tree.Stmt.{Stmt}
use Rattle.species_ast.specs.declared.tree.Stmt.TheVariants as stmt
use Rattle.species_ast.specs.declared.tree.Stmt.TheOpen.{Loop-F}
use Rattle.species_ast.specs.declared.tree.Value.{Value}
use Rattle.species_ast.specs.Marks.{all_true}
use Rattle.species_ast.specs.Accesses.{Tree, Ret, Stop, Read, Write, Add, then_do}
use Rattle.species_ast.specs.Evaluation.{Frame, Context}
use Rattle.species_ast.specs.Run.{Takes, step, does_list, does_scope, cleared, declared_in, locals_of, locals_in}
use Rattle.species_ast.specs.Scope.Meanings.{is_among}
use Rattle.species_ast.proofs.AccessLaws.{then_do-Ret}
use Rattle.species_ast.proofs.Folds.{fold_stmt-Block}
use Rattle.species_ast.proofs.RunLaws.{step-Block, does_list-append, locals-Block}
use Rattle.species_runs.specs.Every.{Gives}
use Rattle.species_runs.specs.Places.{placed, DoSame}
use Rattle.species_runs.specs.Scopes.{sets_at, sets_of, sets_in, without, outer_locals_set}
use Rattle.species_runs.proofs.PlaceLaws.{same_body}
use Rattle.species_nests.specs.Effects.{adds_at, adds_taken}
use Rattle.species_nests.proofs.NestLaws.{KeepsFrames}
use Rattle.bones_commute.specs.Joined.{both}
use Rattle.bones_commute.specs.JoinedNests.{AreBlocks, StandsFor}
use Rattle.bones_commute.proofs.JoinedPlaces.{AllSame}

-- ---- what the joined body does

gives_next : {X Y : Type 0} (P : X → Type 0) (t : Tree X) (next after : X → Tree Y) → Gives P t → ((x : X) → P x → next x ≡ after x) → then_do t next ≡ then_do t after
gives_next P (Ret x) next after h e = e x h
gives_next P (Stop s why) next after h e = refl
gives_next P (Read s el more) next after h e = ap (Read s el) (λ i v. gives_next P (more v) next after (h v).1 e i)
gives_next P (Write s el v more) next after h e = ap (Write s el v) (gives_next P more next after h.1 e)
gives_next P (Add s el v more) next after h e = ap (Add s el v) (gives_next P more next after h.1 e)

gives_placed : {X : Type 0} (Q : X → Type 0) (t : Tree X) → Gives Q t → Gives Q (placed t)
gives_placed Q (Ret x) h = h
gives_placed Q (Stop s why) h = tt
gives_placed Q (Read s e more) h = λ v. (tt, gives_placed Q (more v) (h v).1)
gives_placed Q (Write s e v more) h = (tt, gives_placed Q more h.1)
gives_placed Q (Add s e v more) h = (tt, gives_placed Q more h.1)

placed_gives : {X : Type 0} (Q : X → Type 0) (t : Tree X) → Gives Q (placed t) → Gives Q t
placed_gives Q (Ret x) h = h
placed_gives Q (Stop s why) h = tt
placed_gives Q (Read s e more) h = λ v. (tt, placed_gives Q (more v) (h v).1)
placed_gives Q (Write s e v more) h = (tt, placed_gives Q more h.1)
placed_gives Q (Add s e v more) h = (tt, placed_gives Q more h.1)

same_gives : {X : Type 0} (Q : X → Type 0) (t u : Tree X) → DoSame t u → Gives Q t → Gives Q u
same_gives Q t u same h = placed_gives Q u (subst (Gives Q) same (gives_placed Q t h))

abbrev pub blocks : List (List Stmt) → List Stmt
blocks bodies = map stmt.Block bodies

-- blocks, and one more
abbrev longer : List (List Stmt) → List Stmt → List Stmt
longer bodies ys = blocks bodies ++ stmt.Block ys ∷ []

longer_is : (bodies : List (List Stmt)) (ys : List Stmt) → longer bodies ys ≡ blocks (bodies ++ ys ∷ [])
longer_is [] ys = refl
longer_is (xs ∷ bodies) ys = ap (λ l. stmt.Block xs ∷ l) (longer_is bodies ys)

none_declared : (w : Context) (bodies : List (List Stmt)) → declared_in (map (step w) (blocks bodies)) ≡ []
none_declared w [] = refl
none_declared w (xs ∷ bodies) = λ i. (step-Block w xs i).declares ++ none_declared w bodies i

scope_is_list : (w : Context) (bodies : List (List Stmt)) (at : List ℕ) (f : Frame) → does_scope w (blocks bodies) at 0 f ≡ does_list w (blocks bodies) at 0 f
scope_is_list w bodies at f =
    (λ i. then_do (does_list w (blocks bodies) at 0 f) (λ g. Ret (cleared (none_declared w bodies i) g))) ∙ then_do-Ret (does_list w (blocks bodies) at 0 f)

one_block : (w : Context) (ys : List Stmt) (at : List ℕ) (k : ℕ) (f : Frame) → does_list w (stmt.Block ys ∷ []) at k f ≡ does_scope w ys (at ++ k ∷ []) 0 f
one_block w ys at k f =
    (λ i. then_do ((step-Block w ys i).does (at ++ k ∷ []) f) (λ h. Ret h)) ∙ then_do-Ret (does_scope w ys (at ++ k ∷ []) 0 f)

joined_body : (w : Context) (bodies : List (List Stmt)) (ys : List Stmt) (at : List ℕ) (f : Frame) → Gives (λ g. g ≡ f) (does_scope w (blocks bodies) at 0 f)
    → does_scope w (longer bodies ys) at 0 f ≡ then_do (does_scope w (blocks bodies) at 0 f) (λ g. does_scope w ys (at ++ (0 + length (blocks bodies)) ∷ []) 0 f)
joined_body w bodies ys at f keeps =
    let two = does_scope w ys (at ++ (0 + length (blocks bodies)) ∷ []) 0 in
    ap (λ l. does_scope w l at 0 f) (longer_is bodies ys)
    ∙ scope_is_list w (bodies ++ ys ∷ []) at f
    ∙ ap (λ l. does_list w l at 0 f) (sym (longer_is bodies ys))
    ∙ does_list-append w (blocks bodies) (stmt.Block ys ∷ []) at 0 f
    ∙ (λ i. then_do (sym (scope_is_list w bodies at f) i) (λ g. one_block w ys at (0 + length (blocks bodies)) g i))
    ∙ gives_next (λ g. g ≡ f) (does_scope w (blocks bodies) at 0 f) two (λ g. two f) keeps (λ g same. ap two same)

-- ---- what it sets outside

abbrev loop_sets : Loop-F (List ℕ) (List ℕ) → List ℕ
loop_sets l = flat_map (λ xs. xs) l.body

sets-Block : (xs : List Stmt) → sets_of (stmt.Block xs) ≡ sets_in xs
sets-Block xs = fold_stmt-Block sets_at loop_sets xs

-- what is left of a list where what is in another is left out
without_front : (xs ys ms : List ℕ) → without (xs ++ ys) ms ≡ without xs ms ++ without ys ms
without_front [] ys ms = refl
without_front (x ∷ xs) ys ms = ⊎_elim
    (λ h. rw h (without_front xs ys ms))
    (λ h. rw h (ap (λ l. x ∷ l) (without_front xs ys ms)))
    (cases_Bool (is_among ms x))

not_none : {P : Type 0} (x : ℕ) (xs : List ℕ) → x ∷ xs ≡ [] → P
not_none x xs h = absurd cc

covered : (xs ls ms : List ℕ) → ((y : ℕ) → is_among ls y ≡ true → is_among ms y ≡ true) → without xs ls ≡ [] → without xs ms ≡ []
covered [] ls ms more h = refl
covered (x ∷ xs) ls ms more h = ⊎_elim
    (λ t. let there = more x t in rw there (covered xs ls ms more (rw t at h)))
    (λ t. not_none x (without xs ls) (rw t at h))
    (cases_Bool (is_among ls x))

among_first : (xs ys : List ℕ) (y : ℕ) → is_among xs y ≡ true → is_among (xs ++ ys) y ≡ true
among_first [] ys y h = absurd cc
among_first (x ∷ xs) ys y h = or_first (nat_eq y x) (is_among xs y) (is_among (xs ++ ys) y) h (among_first xs ys y)
  where
    or_first : (a b c : Bool) → a || b ≡ true → (b ≡ true → c ≡ true) → a || c ≡ true
    or_first true b c h k = refl
    or_first false b c h k = k h

among_last : (xs ys : List ℕ) (y : ℕ) → is_among ys y ≡ true → is_among (xs ++ ys) y ≡ true
among_last [] ys y h = h
among_last (x ∷ xs) ys y h = or_last (nat_eq y x) (is_among (xs ++ ys) y) (among_last xs ys y h)
  where
    or_last : (a b : Bool) → b ≡ true → a || b ≡ true
    or_last true b h = refl
    or_last false b h = h

flat_append : (f : Stmt → List ℕ) (xs ys : List Stmt) → flat_map (λ l. l) (map f (xs ++ ys)) ≡ flat_map (λ l. l) (map f xs) ++ flat_map (λ l. l) (map f ys)
flat_append f [] ys = refl
flat_append f (x ∷ xs) ys = ap (λ l. f x ++ l) (flat_append f xs ys) ∙ sym (append_assoc (f x) (flat_map (λ l. l) (map f xs)) (flat_map (λ l. l) (map f ys)))

outer_block : (ys : List Stmt) → outer_locals_set (stmt.Block ys ∷ []) ≡ outer_locals_set ys
outer_block ys =
    (λ i. without (sets-Block ys i ++ []) (locals-Block ys i ++ []))
    ∙ (λ i. without (append-nil (sets_in ys) i) (append-nil (locals_in ys) i))

pub joined_locals : (bs ys : List Stmt) → outer_locals_set bs ≡ [] → outer_locals_set ys ≡ [] → outer_locals_set (bs ++ stmt.Block ys ∷ []) ≡ []
joined_locals bs ys p q =
    let last : List Stmt = stmt.Block ys ∷ [] in
    let sets = flat_append sets_of bs last in
    let locals = flat_append locals_of bs last in
    (λ i. without (sets i) (locals i))
    ∙ without_front (sets_in bs) (sets_in last) (locals_in bs ++ locals_in last)
    ∙ (λ i. covered (sets_in bs) (locals_in bs) (locals_in bs ++ locals_in last) (among_first (locals_in bs) (locals_in last)) p i
    ++ covered (sets_in last) (locals_in last) (locals_in bs ++ locals_in last) (among_last (locals_in bs) (locals_in last)) (outer_block ys ∙ q) i)

-- ---- what it adds to

abbrev loop_adds : Loop-F Bool Bool → Bool
loop_adds l = all_true l.body

and_parts : (a b : Bool) → (a && b) ≡ true → (a ≡ true) × (b ≡ true)
and_parts true b h = (refl, h)
and_parts false b h = absurd cc

pub joined_adds : (takes : Takes) (w : Context) (bs ys : List Stmt) → all_true (map (adds_taken takes w) bs) ≡ true → all_true (map (adds_taken takes w) ys) ≡ true
    → all_true (map (adds_taken takes w) (bs ++ stmt.Block ys ∷ [])) ≡ true
joined_adds takes w [] ys p q = (λ i. fold_stmt-Block (adds_at takes w) loop_adds ys i && true) ∙ (λ i. q i && true)
joined_adds takes w (x ∷ bs) ys p q =
    let both = and_parts (adds_taken takes w x) (all_true (map (adds_taken takes w) bs)) p in
    λ i. both.0 i && joined_adds takes w bs ys both.1 q i

-- ---- what stands for the first body

pub record Front (takes : Takes) (w : Context) (bs : List Stmt) (xs : List Stmt) : Type 0 where
  pub are : AreBlocks bs
  pub locals : outer_locals_set bs ≡ []
  pub adds : all_true (map (adds_taken takes w) bs) ≡ true
  pub same : (at bt : List ℕ) (f : Frame) → DoSame (does_scope w xs at 0 f) (does_scope w bs bt 0 f)

pub front_of : (takes : Takes) (w : Context) (bs xs : List Stmt) → StandsFor bs xs → outer_locals_set xs ≡ [] → all_true (map (adds_taken takes w) xs) ≡ true → Front takes w bs xs
front_of takes w bs xs (inl one) none adds = subst (λ l. Front takes w l xs) (sym one) (record {
  are = (xs ∷ [], refl);
  locals = outer_block xs ∙ none;
  adds = (λ i. fold_stmt-Block (adds_at takes w) loop_adds xs i && true) ∙ (λ i. adds i && true);
  same = λ at bt f. same_body w xs at (bt ++ 0 ∷ []) 0 0 f ∙ ap placed (sym (scope_is_list w (xs ∷ []) bt f ∙ one_block w xs bt 0 f));
})
front_of takes w bs xs (inr same) none adds = subst (λ l. Front takes w l xs) (sym same.0) (record { are = same.1; locals = none; adds = adds; same = λ at bt f. same_body w xs at bt 0 0 f })

-- of each frame in a list
abbrev pub Frames : List (Option Value) → List Frame → Type 0
Frames vs [] = Unit {0}
Frames vs (f ∷ fs) = (f.locals ≡ vs) × Frames vs fs

-- the iterations of the joined nest are those of the two bodies, one after another
pub joined_iterations : (takes : Takes) (w : Context) (bs xs ys : List Stmt) (at bt : List ℕ) (vs : List (Option Value)) → Front takes w bs xs → KeepsFrames vs (does_scope w xs bt 0) → (fs : List Frame) → Frames vs fs
    → map (does_scope w (bs ++ stmt.Block ys ∷ []) at 0) fs ≡ both (map (does_scope w bs at 0) fs) (map (does_scope w ys (at ++ (0 + length bs) ∷ []) 0) fs)
joined_iterations takes w bs xs ys at bt vs front keeps [] all = refl
joined_iterations takes w bs xs ys at bt vs front keeps (f ∷ fs) all =
    let kept : Gives (λ g. g ≡ f) (does_scope w bs at 0 f) = same_gives (λ g. g ≡ f) (does_scope w xs bt 0 f) (does_scope w bs at 0 f) (front.same bt at f) (keeps f all.0) in
    let at_blocks : does_scope w (bs ++ stmt.Block ys ∷ []) at 0 f ≡ then_do (does_scope w bs at 0 f) (λ g. does_scope w ys (at ++ (0 + length bs) ∷ []) 0 f) =
    subst (λ l. Gives (λ g. g ≡ f) (does_scope w l at 0 f) → does_scope w (l ++ stmt.Block ys ∷ []) at 0 f ≡ then_do (does_scope w l at 0 f) (λ g. does_scope w ys (at ++ (0 + length l) ∷ []) 0 f)) (sym front.are.1)
    (λ k. joined_body w front.are.0 ys at f k) kept in
    λ i. at_blocks i ∷ joined_iterations takes w bs xs ys at bt vs front keeps fs all.1 i

pub all_fronts : (takes : Takes) (w : Context) (bs xs : List Stmt) → Front takes w bs xs → (at bt : List ℕ) (fs : List Frame) → AllSame (map (does_scope w xs at 0) fs) (map (does_scope w bs bt 0) fs)
all_fronts takes w bs xs front at bt [] = tt
all_fronts takes w bs xs front at bt (f ∷ fs) = (front.same at bt f, all_fronts takes w bs xs front at bt fs)

pub all_placed : (w : Context) (xs : List Stmt) (at bt : List ℕ) (fs : List Frame) → AllSame (map (does_scope w xs at 0) fs) (map (does_scope w xs bt 0) fs)
all_placed w xs at bt [] = tt
all_placed w xs at bt (f ∷ fs) = (same_body w xs at bt 0 0 f, all_placed w xs at bt fs)
