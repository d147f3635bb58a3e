-- The names of the iterators of the loops around a nest and of its band, in the source of a unit whose loops have names that are apart.
use Rattle.std.proofs.Common.{◌≡◌, ◌≢◌, ◌∙◌, refl, sym, ap, subst, arith, ℕ, zero, suc, ◌+◌, ◌<◌, ◌≤◌, List, [], ◌∷◌, ◌++◌, map, length, Option, Some, None, Bool, true, false, ◌&&◌, ◌||◌, not, append_assoc, append-nil, All}
use Rattle.std.specs.Prelude.{bytes_eq}
use Rattle.std.specs.List.{list_all, list_any, Contains}
use Rattle.std.proofs.lemmas.Bool.{and_parts}
use Rattle.std.proofs.lemmas.List.{length-append}
use Rattle.std.proofs.lemmas.Slice.Eq.{bytes_eq-Decides}
use Rattle.species_annotate.specs.Annotated.{iterators_of}
use Rattle.species_ast.specs.Marks.{all_true}
use Rattle.species_ast.specs.Names.{is_name}
use Rattle.species_ast.specs.Strip.{strip_step, strip_layer, strip_stmt, strip_loop}
use Rattle.species_ast.specs.declared.tree.Expr.{Expr}
use Rattle.species_ast.specs.declared.tree.Loop.{Loop, roll-Loop, fold-Loop, out-Loop}
use Rattle.species_ast.specs.declared.tree.Mark.TheVariants.{Plain}
use Rattle.species_ast.specs.declared.tree.Stmt.{Stmt, fold-Stmt}
use Rattle.species_ast.specs.declared.tree.Stmt.TheOpen.{Stmt-F, Loop-F}
use Rattle.species_ast.specs.declared.tree.Stmt.TheVariants as stmt
use Rattle.species_ast.proofs.Folds.{fold_stmt-Assign, fold_stmt-AddTo, fold_stmt-Declare, fold_stmt-SetLocal, fold_stmt-If, fold_stmt-For, fold_stmt-Block, fold_loop, fold_loop-out}
use Rattle.species_ast.proofs.Induction.{Each, each_all, stmt_ind}
use Rattle.species_ast.proofs.Paras.{para_stmt-Assign, para_stmt-AddTo, para_stmt-Declare, para_stmt-SetLocal, para_stmt-If}
use Rattle.species_nests.specs.Nests.{Placed, sole_at, sole, only, nest_in, nest_of}
use Rattle.species_nests.proofs.NestLaws.{no_loops, not_some, sole-For, sole-Block, under}
use Rattle.species_notation.specs.Law.{AreNames, AreDifferent}
use Rattle.species_notation.specs.Written.{name_at}
use Rattle.species_plan_truth.specs.Truth.{StandsUnder, here, in_loop, in_branch, in_otherwise, in_block}
use Rattle.species_plan_truth.proofs.TruthApart.{apart_at, apart_within, apart, all_apart}

-- ---- loops with names of the language

abbrev pub named_at : Stmt-F Bool Bool → Bool
named_at (Stmt-F.If place test body otherwise) = all_true body && all_true otherwise
named_at (Stmt-F.For l) = l
named_at (Stmt-F.Block body) = all_true body
named_at s = true

abbrev pub named_within : Loop-F Bool Bool → Bool
named_within l = is_name l.iter && all_true l.body

-- the iterator of each loop has a name of the language
abbrev pub named : Stmt → Bool
named = fold-Stmt Bool Bool named_at named_within

-- ---- without marks

abbrev plain : Stmt → Stmt
plain = strip_stmt false

abbrev plain_loop : Loop → Loop
plain_loop = strip_loop false

abbrev layer : Loop-F Stmt Loop → Loop
layer = strip_layer false

abbrev with_body : {X Y Z W : Type 0} → Loop-F X Y → List Z → Loop-F Z W
with_body l body = record { place = l.place; iter = l.iter; start = l.start; test = l.test; limit = l.limit; step = l.step; body = body; line = l.line; mark = l.mark }

abbrev plain_layer : {X Y : Type 0} → Loop-F X Y → Loop-F X Y
plain_layer l = record l { line = None; mark = Plain }

map_plain : {X : Type 0} (f : Stmt → X) (xs : List Stmt) → Each (λ x. f (plain x) ≡ f x) xs → map f (map plain xs) ≡ map f xs
map_plain f [] h = refl
map_plain f (x ∷ xs) h = λ i. h.0 i ∷ map_plain f xs h.1 i

apart_plain : (x : Stmt) → apart (plain x) ≡ apart x
apart_plain = stmt_ind (λ x. apart (plain x) ≡ apart x) (record {
  assign = λ place a subs value. ap apart (fold_stmt-Assign strip_step layer place a subs value ∙ stmt.rolls-Assign place a subs value);
  add_to = λ place a subs value atomic.
      ap apart (fold_stmt-AddTo strip_step layer place a subs value atomic ∙ stmt.rolls-AddTo place a subs value false)
      ∙ fold_stmt-AddTo apart_at apart_within place a subs value false ∙ sym (fold_stmt-AddTo apart_at apart_within place a subs value atomic);
  declare = λ place n init. ap apart (fold_stmt-Declare strip_step layer place n init ∙ stmt.rolls-Declare place n init);
  set_local = λ place n value. ap apart (fold_stmt-SetLocal strip_step layer place n value ∙ stmt.rolls-SetLocal place n value);
  choice = λ place test body otherwise h k.
      ap apart (fold_stmt-If strip_step layer place test body otherwise ∙ stmt.rolls-If place test (map plain body) (map plain otherwise))
      ∙ fold_stmt-If apart_at apart_within place test (map plain body) (map plain otherwise)
      ∙ (λ i. apart_at (Stmt-F.If place test (map_plain apart body h i) (map_plain apart otherwise k i)))
      ∙ sym (fold_stmt-If apart_at apart_within place test body otherwise);
  loop = λ l h.
      ap apart (fold_stmt-For strip_step layer (roll-Loop l) ∙ stmt.rolls-For (plain_loop (roll-Loop l)))
      ∙ fold_stmt-For apart_at apart_within (plain_loop (roll-Loop l))
      ∙ ap (λ z. apart_at (Stmt-F.For z)) (
      ap (fold-Loop (List (List ℕ) → Bool) (List (List ℕ) → Bool) apart_at apart_within) (fold_loop strip_step layer l)
      ∙ fold_loop apart_at apart_within (plain_layer (with_body l (map plain l.body)))
      ∙ ap (λ b. apart_within (with_body l b)) (map_plain apart l.body h)
      ∙ sym (fold_loop apart_at apart_within l))
      ∙ sym (fold_stmt-For apart_at apart_within (roll-Loop l));
  block = λ body h.
      ap apart (fold_stmt-Block strip_step layer body ∙ stmt.rolls-Block (map plain body))
      ∙ fold_stmt-Block apart_at apart_within (map plain body) ∙ ap (λ b. apart_at (Stmt-F.Block b)) (map_plain apart body h)
      ∙ sym (fold_stmt-Block apart_at apart_within body);
})

named_plain : (x : Stmt) → named (plain x) ≡ named x
named_plain = stmt_ind (λ x. named (plain x) ≡ named x) (record {
  assign = λ place a subs value. ap named (fold_stmt-Assign strip_step layer place a subs value ∙ stmt.rolls-Assign place a subs value);
  add_to = λ place a subs value atomic.
      ap named (fold_stmt-AddTo strip_step layer place a subs value atomic ∙ stmt.rolls-AddTo place a subs value false)
      ∙ fold_stmt-AddTo named_at named_within place a subs value false ∙ sym (fold_stmt-AddTo named_at named_within place a subs value atomic);
  declare = λ place n init. ap named (fold_stmt-Declare strip_step layer place n init ∙ stmt.rolls-Declare place n init);
  set_local = λ place n value. ap named (fold_stmt-SetLocal strip_step layer place n value ∙ stmt.rolls-SetLocal place n value);
  choice = λ place test body otherwise h k.
      ap named (fold_stmt-If strip_step layer place test body otherwise ∙ stmt.rolls-If place test (map plain body) (map plain otherwise))
      ∙ fold_stmt-If named_at named_within place test (map plain body) (map plain otherwise)
      ∙ (λ i. named_at (Stmt-F.If place test (map_plain named body h i) (map_plain named otherwise k i)))
      ∙ sym (fold_stmt-If named_at named_within place test body otherwise);
  loop = λ l h.
      ap named (fold_stmt-For strip_step layer (roll-Loop l) ∙ stmt.rolls-For (plain_loop (roll-Loop l)))
      ∙ fold_stmt-For named_at named_within (plain_loop (roll-Loop l))
      ∙ ap (λ z. named_at (Stmt-F.For z)) (
      ap (fold-Loop Bool Bool named_at named_within) (fold_loop strip_step layer l)
      ∙ fold_loop named_at named_within (plain_layer (with_body l (map plain l.body)))
      ∙ ap (λ b. named_within (with_body l b)) (map_plain named l.body h)
      ∙ sym (fold_loop named_at named_within l))
      ∙ sym (fold_stmt-For named_at named_within (roll-Loop l));
  block = λ body h.
      ap named (fold_stmt-Block strip_step layer body ∙ stmt.rolls-Block (map plain body))
      ∙ fold_stmt-Block named_at named_within (map plain body) ∙ ap (λ b. named_at (Stmt-F.Block b)) (map_plain named body h)
      ∙ sym (fold_stmt-Block named_at named_within body);
})

-- ---- statements with such loops

-- inside loops with these names the loops of the statement have names of the language, which are apart
abbrev IsSound : List (List ℕ) → Stmt → Type 0
IsSound iters x = (named x ≡ true) × (apart x iters ≡ true)

abbrev AreSound : List (List ℕ) → List Stmt → Type 0
AreSound iters xs = Each (IsSound iters) xs

sounds : (iters : List (List ℕ)) (xs : List Stmt) → all_true (map named xs) ≡ true → all_apart xs iters ≡ true → AreSound iters xs
sounds iters [] h k = tt
sounds iters (x ∷ xs) h k =
    let a = and_parts (named x) (all_true (map named xs)) h in
    let b = and_parts (apart x iters) (all_apart xs iters) k in
    ((a.0, b.0), sounds iters xs a.1 b.1)

-- a list of names, one after another, as they are taken by loops
record IsLoop (iters : List (List ℕ)) (l : Loop) : Type 0 where
  name : is_name (out-Loop l).iter ≡ true
  new : list_any (bytes_eq (out-Loop l).iter) iters ≡ false
  body : AreSound (iters ++ (out-Loop l).iter ∷ []) (out-Loop l).body

not_true : (b : Bool) → not b ≡ true → b ≡ false
not_true true h = absurd cc
not_true false h = refl

loop_sound : (iters : List (List ℕ)) (l : Loop) → IsSound iters (stmt.For l) → IsLoop iters l
loop_sound iters l h =
    let x = out-Loop l in
    let inner = iters ++ x.iter ∷ [] in
    let a = and_parts (is_name x.iter) (all_true (map named x.body)) (sym (fold_stmt-For named_at named_within l ∙ fold_loop-out named_at named_within l) ∙ h.0) in
    let opened : apart (stmt.For l) iters ≡ (not (list_any (bytes_eq x.iter) iters) && all_apart x.body inner) =
    ap (λ f. f iters) (fold_stmt-For apart_at apart_within l ∙ ap (λ z. apart_at (Stmt-F.For z)) (fold_loop-out apart_at apart_within l)) in
    let b = and_parts (not (list_any (bytes_eq x.iter) iters)) (all_apart x.body inner) (sym opened ∙ h.1) in
    record { name = a.0; new = not_true (list_any (bytes_eq x.iter) iters) b.0; body = sounds inner x.body a.1 b.1 }

block_sound : (iters : List (List ℕ)) (body : List Stmt) → IsSound iters (stmt.Block body) → AreSound iters body
block_sound iters body h =
    sounds iters body (sym (fold_stmt-Block named_at named_within body) ∙ h.0) (sym (ap (λ f. f iters) (fold_stmt-Block apart_at apart_within body)) ∙ h.1)

branches_sound : (iters : List (List ℕ)) (place : ℕ) (test : Expr) (body otherwise : List Stmt) → IsSound iters (stmt.If place test body otherwise) → AreSound iters body × AreSound iters otherwise
branches_sound iters place test body otherwise h =
    let a = and_parts (all_true (map named body)) (all_true (map named otherwise)) (sym (fold_stmt-If named_at named_within place test body otherwise) ∙ h.0) in
    let b = and_parts (all_apart body iters) (all_apart otherwise iters) (sym (ap (λ f. f iters) (fold_stmt-If apart_at apart_within place test body otherwise)) ∙ h.1) in
    (sounds iters body a.0 b.0, sounds iters otherwise a.1 b.1)

one_sound : (iters : List (List ℕ)) (xs : List Stmt) (x : Stmt) → Contains xs x → AreSound iters xs → IsSound iters x
one_sound iters [] x c h = let below = c.1 in absurd (omega (arith, below))
one_sound iters (y ∷ xs) x (zero, below, is) h = subst (IsSound iters) is h.0
one_sound iters (y ∷ xs) x (suc k, below, is) h = one_sound iters xs x (k, omega (arith, below), is) h.1

-- ---- names

index_before : (ws vs : List (List ℕ)) (i : ℕ) → i < length ws → name_at (ws ++ vs) i ≡ name_at ws i
index_before [] vs i l = absurd (omega (arith, l))
index_before (w ∷ ws) vs zero l = refl
index_before (w ∷ ws) vs (suc i) l = index_before ws vs i (omega (arith, l))

index_last : (ws : List (List ℕ)) (w : List ℕ) → name_at (ws ++ w ∷ []) (length ws) ≡ w
index_last [] w = refl
index_last (v ∷ ws) w = index_last ws w

unlike : (ws : List (List ℕ)) (w : List ℕ) (i : ℕ) → list_any (bytes_eq w) ws ≡ false → i < length ws → name_at ws i ≢ w
unlike [] w i h l e = omega (arith, l)
unlike (v ∷ ws) w zero h l e =
    let same : bytes_eq w v ≡ true = (bytes_eq-Decides w v).1 (sym e) in
    let whole : (bytes_eq w v || list_any (bytes_eq w) ws) ≡ true = ap (λ (b : Bool). b || list_any (bytes_eq w) ws) same in
    absurd cc
unlike (v ∷ ws) w (suc i) h l e = unlike ws w i (later (bytes_eq w v) h) (omega (arith, l)) e
  where
    later : (b : Bool) → (b || list_any (bytes_eq w) ws) ≡ false → list_any (bytes_eq w) ws ≡ false
    later true k = absurd cc
    later false k = k

record AreFine (iters : List (List ℕ)) : Type 0 where
  names : Each (λ w. is_name w ≡ true) iters
  different : AreDifferent iters

none_fine : AreFine []
none_fine = record { names = tt; different = λ i j l k. absurd (omega (arith, k)) }

each_then : (P : List ℕ → Type 0) (ws : List (List ℕ)) (w : List ℕ) → Each P ws → P w → Each P (ws ++ w ∷ [])
each_then P [] w h p = (p, tt)
each_then P (v ∷ ws) w h p = (h.0, each_then P ws w h.1 p)

one_more : (iters : List (List ℕ)) (l : Loop) → AreFine iters → IsLoop iters l → AreFine (iters ++ (out-Loop l).iter ∷ [])
one_more iters l fine is = record {
  names = each_then (λ w. is_name w ≡ true) iters (out-Loop l).iter fine.names is.name;
  different = λ i j less below. go i j less (omega (arith, below, length-append iters ((out-Loop l).iter ∷ []))) (split j (length iters));
}
  where
    w : List ℕ
    w = (out-Loop l).iter

    split : (j n : ℕ) → Bool
    split j zero = false
    split zero (suc n) = true
    split (suc j) (suc n) = split j n

    at_end : (j n : ℕ) → split j n ≡ false → n ≤ j
    at_end j zero h = omega arith
    at_end zero (suc n) h = absurd cc
    at_end (suc j) (suc n) h = let k = at_end j n h in omega (arith, k)

    before_end : (j n : ℕ) → split j n ≡ true → j < n
    before_end j zero h = absurd cc
    before_end zero (suc n) h = omega arith
    before_end (suc j) (suc n) h = let k = before_end j n h in omega (arith, k)

    by : (i j : ℕ) → i < j → j < length iters + 1 → (b : Bool) → split j (length iters) ≡ b → name_at (iters ++ w ∷ []) i ≢ name_at (iters ++ w ∷ []) j
    by i j less below true is_before =
        let inside = before_end j (length iters) is_before in
        λ e. fine.different i j less inside (sym (index_before iters (w ∷ []) i (omega (arith, less, inside))) ∙ e ∙ index_before iters (w ∷ []) j inside)
    by i j less below false is_end =
        let past = at_end j (length iters) is_end in
        let last : j ≡ length iters = omega (arith, past, below) in
        let first : i < length iters = omega (arith, less, last) in
        λ e. unlike iters w i is.new first (sym (index_before iters (w ∷ []) i first) ∙ e ∙ ap (name_at (iters ++ w ∷ [])) last ∙ index_last iters w)

    go : (i j : ℕ) → i < j → j < length iters + 1 → Bool → name_at (iters ++ w ∷ []) i ≢ name_at (iters ++ w ∷ []) j
    go i j less below b = by i j less below (split j (length iters)) refl

-- ---- loops around a nest

abbrev iters_of : List Loop → List (List ℕ)
iters_of ls = map (λ l. (out-Loop l).iter) ls

record StandsSound (iters : List (List ℕ)) (head : Loop) : Type 0 where
  fine : AreFine iters
  loop : IsSound iters (stmt.For head)

stands_sound : (head : Loop) (around : List Loop) (xs : List Stmt) → StandsUnder head around xs → (iters : List (List ℕ)) → AreFine iters → AreSound iters xs → StandsSound (iters ++ iters_of around) head
stands_sound head around xs (here _ c) iters fine h = subst (λ ws. StandsSound ws head) (sym (append-nil iters)) (record { fine = fine; loop = one_sound iters xs (stmt.For head) c h })
stands_sound head around xs (in_loop l rest _ c inner) iters fine h =
    let one = loop_sound iters l (one_sound iters xs (stmt.For l) c h) in
    subst (λ ws. StandsSound ws head) (append_assoc iters ((out-Loop l).iter ∷ []) (iters_of rest))
    (stands_sound head rest (out-Loop l).body inner (iters ++ (out-Loop l).iter ∷ []) (one_more iters l fine one) one.body)
stands_sound head around xs (in_branch place test first second _ _ c inner) iters fine h =
    stands_sound head around first inner iters fine (branches_sound iters place test first second (one_sound iters xs (stmt.If place test first second) c h)).0
stands_sound head around xs (in_otherwise place test first second _ _ c inner) iters fine h =
    stands_sound head around second inner iters fine (branches_sound iters place test first second (one_sound iters xs (stmt.If place test first second) c h)).1
stands_sound head around xs (in_block body _ _ c inner) iters fine h = stands_sound head around body inner iters fine (block_sound iters body (one_sound iters xs (stmt.Block body) c h))

-- ---- loops of a nest

abbrev IsSoleSound : Stmt → Type 0
IsSoleSound x = (at : List ℕ) (p : Placed) → sole x at ≡ Some p → (iters : List (List ℕ)) → IsSound iters x → IsSound iters (stmt.For p.loop)

only_sound : (xs : List Stmt) → Each IsSoleSound xs → (at : List ℕ) (p : Placed) → only xs at ≡ Some p → (iters : List (List ℕ)) → AreSound iters xs → IsSound iters (stmt.For p.loop)
only_sound [] h at p is iters s = absurd cc
only_sound (x ∷ []) h at p is iters s = h.0 (at ++ 0 ∷ []) p is iters s.0
only_sound (x ∷ y ∷ xs) h at p is iters s = absurd cc

sole_sound : (x : Stmt) → IsSoleSound x
sole_sound = stmt_ind IsSoleSound (record {
  assign = λ place a subs value at p is. absurd (not_some _ at p (para_stmt-Assign sole_at no_loops place a subs value) is);
  add_to = λ place a subs value atomic at p is. absurd (not_some _ at p (para_stmt-AddTo sole_at no_loops place a subs value atomic) is);
  declare = λ place x init at p is. absurd (not_some _ at p (para_stmt-Declare sole_at no_loops place x init) is);
  set_local = λ place x value at p is. absurd (not_some _ at p (para_stmt-SetLocal sole_at no_loops place x value) is);
  choice = λ place test body otherwise h k at p is. absurd (not_some _ at p (para_stmt-If sole_at no_loops place test body otherwise) is);
  loop = λ l h at p is iters s.
      let same : Some (record { loop = roll-Loop l; at = at }) ≡ Some p = ap (λ f. f at) (sym (sole-For (roll-Loop l))) ∙ is in
      let it : record { loop = roll-Loop l; at = at } ≡ p = cc in
      subst (λ (q : Placed). IsSound iters (stmt.For q.loop)) it s;
  block = λ body h at p is iters s. only_sound body h at p (ap (λ f. f at) (sym (sole-Block body)) ∙ is) iters (block_sound iters body s);
})

nest_in_fine : (d : ℕ) (xs : List Stmt) (at : List ℕ) (iters : List (List ℕ)) → AreFine iters → AreSound iters xs → AreFine (iters ++ iterators_of (nest_in d xs at).loops)
nest_in_fine zero xs at iters fine h = subst AreFine (sym (append-nil iters)) fine
nest_in_fine (suc d) xs at iters fine h = go (λ ys there ws f s. nest_in_fine d ys there ws f s) (only xs at) refl
  where
    go : ((ys : List Stmt) (there : List ℕ) (ws : List (List ℕ)) → AreFine ws → AreSound ws ys → AreFine (ws ++ iterators_of (nest_in d ys there).loops)) → (o : Option Placed) → only xs at ≡ o
        → AreFine (iters ++ iterators_of (under d xs at o).loops)
    go ih None is = subst AreFine (sym (append-nil iters)) fine
    go ih (Some p) is =
        let one = loop_sound iters p.loop (only_sound xs (each_all IsSoleSound sole_sound xs) at p is iters h) in
        subst AreFine (append_assoc iters ((out-Loop p.loop).iter ∷ []) (iterators_of (nest_in d (out-Loop p.loop).body p.at).loops))
        (ih (out-Loop p.loop).body p.at (iters ++ (out-Loop p.loop).iter ∷ []) (one_more iters p.loop fine one) one.body)

nest_fine : (d : ℕ) (l : Loop) (at : List ℕ) (iters : List (List ℕ)) → AreFine iters → IsSound iters (stmt.For l) → AreFine (iters ++ iterators_of (nest_of d l at).loops)
nest_fine d l at iters fine h =
    let one = loop_sound iters l h in
    subst AreFine (append_assoc iters ((out-Loop l).iter ∷ []) (iterators_of (nest_in d (out-Loop l).body at).loops))
    (nest_in_fine d (out-Loop l).body at (iters ++ (out-Loop l).iter ∷ []) (one_more iters l fine one) one.body)

-- ---- the law

all_of_each : (P : List ℕ → Type 0) (ws : List (List ℕ)) → Each P ws → All P ws
all_of_each P [] h k d l = absurd (omega (arith, l))
all_of_each P (w ∷ ws) h zero d l = h.0
all_of_each P (w ∷ ws) h (suc k) d l = all_of_each P ws h.1 k d (omega (arith, l))

plain_sounds : (xs : List Stmt) → all_true (map named xs) ≡ true → all_apart xs [] ≡ true → AreSound [] (map plain xs)
plain_sounds xs h k =
    sounds [] (map plain xs) (ap all_true (map_plain named xs (each_all (λ x. named (plain x) ≡ named x) named_plain xs)) ∙ h)
    (ap (list_all (λ s. s [])) (map_plain apart xs (each_all (λ x. apart (plain x) ≡ apart x) apart_plain xs)) ∙ k)

-- Of a body, without its marks.
pub iters_fine : (xs : List Stmt) (head : Loop) (around : List Loop) (below : ℕ) → all_true (map named xs) ≡ true → all_apart xs [] ≡ true → StandsUnder head around (map plain xs)
    → AreNames (iters_of around ++ iterators_of (nest_of below head []).loops) × AreDifferent (iters_of around ++ iterators_of (nest_of below head []).loops)
iters_fine xs head around below h k stands =
    let there = stands_sound head around (map plain xs) stands [] none_fine (plain_sounds xs h k) in
    let fine = nest_fine below head [] (iters_of around) there.fine there.loop in
    (all_of_each (λ w. is_name w ≡ true) (iters_of around ++ iterators_of (nest_of below head []).loops) fine.names, fine.different)
