-- The names of the iterators of a band, loop by loop.
use Rattle.std.proofs.Common.{◌≡◌, refl, ap, sym, ◌∙◌, arith, ℕ, zero, suc, ◌+◌, ◌-◌, ◌<◌, ◌≤◌, Bool, List, [], ◌∷◌, ◌++◌, map, take, take_all, length, get_or, append_assoc, append-nil, Option, Some, None}
use Rattle.std.specs.Prelude.{MatchOption}
use Rattle.std.proofs.lemmas.List.{map-append, take_more}
use Rattle.species_arcs.specs.declared.plans.Nest.{Nest}
use Rattle.species_ast.specs.declared.tree.Expr.{Expr}
use Rattle.species_ast.specs.declared.tree.Loop.{Loop, out-Loop}
use Rattle.species_ast.specs.declared.tree.Stmt.{Stmt}
use Rattle.species_ast.specs.declared.tree.Stmt.TheVariants as stmt
use Rattle.species_ast.specs.declared.tree.Unit.{Unit as Program}
use Rattle.species_ast.specs.Line.{Line}
use Rattle.species_ast.proofs.Paras.{para_stmt-Assign, para_stmt-AddTo, para_stmt-Declare, para_stmt-SetLocal, para_stmt-If}
use Rattle.species_nests.specs.Nests.{Placed, sole_at, sole, only, nest_in}
use Rattle.species_nests.proofs.NestLaws.{under, no_loops, sole-For, sole-Block}
use Rattle.species_notation.specs.declared.given.Names.{Names}
use Rattle.species_notation.specs.Written.{line_text}
use Rattle.species_annotate.specs.Annotated.{Around, iterators_of, band_names, names_in, plan_line}

-- ---- lists

-- of the elements up to one, its name is the next
pub mapped_next : {X : Type 0} (f : X → List ℕ) (all : List X) (i : ℕ) (x : X) (old new : List (List ℕ)) → x ≡ get_or all i x → i < length all
    → old ≡ map f (take i all) → new ≡ old ++ f x ∷ [] → new ≡ map f (take (i + 1) all)
mapped_next f all i x old new at within is added =
    let items : take (i + 1) all ≡ take i all ++ x ∷ [] = take_more all i x within ∙ ap (λ z. take i all ++ z ∷ []) (sym at) in
    added ∙ ap (λ l. l ++ f x ∷ []) is ∙ sym (map-append f (take i all) (x ∷ [])) ∙ ap (map f) (sym items)

pub mapped_end : {X : Type 0} (f : X → List ℕ) (all : List X) (i : ℕ) (old : List (List ℕ)) → length all ≤ i → old ≡ map f (take i all) → old ≡ map f all
mapped_end f all i old past is = is ∙ ap (map f) (take_all i all past)

take_front : (n : ℕ) (xs : List (List ℕ)) (y : List ℕ) → n ≤ length xs → take n (xs ++ y ∷ []) ≡ take n xs
take_front zero xs y h = refl
take_front (suc n) [] y h = absurd (omega (arith, h))
take_front (suc n) (x ∷ xs) y h = ap (λ l. x ∷ l) (take_front n xs y (omega (arith, h)))

longer : (xs : List (List ℕ)) (y : List ℕ) → length (xs ++ y ∷ []) ≡ suc (length xs)
longer [] y = refl
longer (x ∷ xs) y = ap suc (longer xs y)

-- the last is gone, which stands behind so many
taken_less : (n : ℕ) (first old new : List (List ℕ)) (last : List ℕ) → take n old ≡ take n first → n < length old → old ≡ new ++ last ∷ [] → take n new ≡ take n first
taken_less n first old new last h more is =
    sym (take_front n new last (omega (arith, more, ap length is, longer new last))) ∙ ap (take n) (sym is) ∙ h

-- what is left where one is taken from the end
pub popped : (n : ℕ) (first old new : List (List ℕ)) (o : Option (List ℕ)) → MatchOption o ((old ≡ []) × (new ≡ [])) (λ last. old ≡ new ++ last ∷ []) → n < length old → take n old ≡ take n first
    → (take n new ≡ take n first) × (length new < length old)
popped n first old new None h more is = absurd (omega (arith, more, ap length h.0))
popped n first old new (Some last) h more is = (taken_less n first old new last is more h, omega (arith, ap length h, longer new last))

pub taken_end : (n : ℕ) (first old : List (List ℕ)) → take n old ≡ take n first → length old ≤ n → old ≡ take n first
taken_end n first old h few = sym (take_all n old few) ∙ h

pub level_left : (old mid : List (List ℕ)) (more : List (List ℕ)) → mid ≡ old ++ more → take (length old) mid ≡ old
level_left old mid more is = ap (take (length old)) is ∙ front old more
  where
    front : (xs ys : List (List ℕ)) → take (length xs) (xs ++ ys) ≡ xs
    front [] ys = refl
    front (x ∷ xs) ys = ap (λ l. x ∷ l) (front xs ys)

-- ---- what a band names

-- what this names is added
abbrev pub Adds : Names → Names → List (List ℕ) → Type 0
Adds old new more = new ≡ record old { iters = old.iters ++ more }

pub adds_none : (old : Names) (more : List (List ℕ)) → more ≡ [] → Adds old old more
adds_none old more none = ap (λ l. record old { iters = l }) (sym (append-nil old.iters) ∙ ap (λ l. old.iters ++ l) (sym none))

pub adds_same : (old new : Names) (more other : List (List ℕ)) → more ≡ other → Adds old new more → Adds old new other
adds_same old new more other is h = h ∙ ap (λ l. record old { iters = old.iters ++ l }) is

pub adds_from : (old mid new : Names) (more : List (List ℕ)) → mid ≡ old → Adds mid new more → Adds old new more
adds_from old mid new more same h = h ∙ ap (λ (n : Names). record n { iters = n.iters ++ more }) same

pub band_none : (depth : ℕ) (head : Loop) (at : List ℕ) → depth ≡ 0 → band_names depth head at ≡ []
band_none depth head at none = ap (λ n. band_names n head at) none

pub band_more : (depth : ℕ) (head : Loop) (p : List Stmt) (at : List ℕ) (old mid new : Names) → ¬ (depth ≡ 0) → p ≡ (out-Loop head).body → Adds old mid ((out-Loop head).iter ∷ [])
    → Adds mid new (iterators_of (nest_in (depth - 1) p at).loops) → Adds old new (band_names depth head at)
band_more depth head p at old mid new some b entered more =
    let below : ℕ = depth - 1 in
    let size : suc below ≡ depth = omega (arith, some) in
    let inner : List (List ℕ) = iterators_of (nest_in below (out-Loop head).body at).loops in
    more ∙ (λ i. record (entered i) { iters = (entered i).iters ++ iterators_of (nest_in below (b i) at).loops })
    ∙ ap (λ l. record old { iters = l }) (append_assoc old.iters ((out-Loop head).iter ∷ []) inner)
    ∙ ap (λ n. record old { iters = old.iters ++ band_names n head at }) size

pub for_names : (d : ℕ) (x : Stmt) (head : Loop) (at : List ℕ) → x ≡ stmt.For head → band_names d head (at ++ 0 ∷ []) ≡ iterators_of (nest_in d (x ∷ []) at).loops
for_names zero x head at is = refl
for_names (suc e) x head at is = ap (λ (s : List ℕ → Option Placed). iterators_of (under e (x ∷ []) at (s (at ++ 0 ∷ []))).loops) (sym (ap sole is ∙ sole-For head))

pub block_names : (d : ℕ) (x : Stmt) (body p : List Stmt) (at : List ℕ) → x ≡ stmt.Block body → p ≡ body → iterators_of (nest_in d p (at ++ 0 ∷ [])).loops ≡ iterators_of (nest_in d (x ∷ []) at).loops
block_names zero x body p at is b = refl
block_names (suc e) x body p at is b =
    ap (λ l. iterators_of (nest_in (suc e) l (at ++ 0 ∷ [])).loops) b ∙ sym (found ∙ looked (only body (at ++ 0 ∷ [])))
  where
    found : iterators_of (nest_in (suc e) (x ∷ []) at).loops ≡ iterators_of (under e (x ∷ []) at (only body (at ++ 0 ∷ []))).loops
    found = ap (λ (s : List ℕ → Option Placed). iterators_of (under e (x ∷ []) at (s (at ++ 0 ∷ []))).loops) (ap sole is ∙ sole-Block body)

    looked : (o : Option Placed) → iterators_of (under e (x ∷ []) at o).loops ≡ iterators_of (under e body (at ++ 0 ∷ []) o).loops
    looked None = refl
    looked (Some q) = refl

other_names : (d : ℕ) (x : Stmt) (at : List ℕ) → sole x ≡ (λ here. None) → iterators_of (nest_in d (x ∷ []) at).loops ≡ []
other_names zero x at none = refl
other_names (suc e) x at none = ap (λ (s : List ℕ → Option Placed). iterators_of (under e (x ∷ []) at (s (at ++ 0 ∷ []))).loops) none

pub empty_names : (d : ℕ) (xs : List Stmt) (at : List ℕ) → xs ≡ [] → iterators_of (nest_in d xs at).loops ≡ []
empty_names zero xs at is = refl
empty_names (suc e) xs at is = ap (λ l. iterators_of (nest_in (suc e) l at).loops) is

pub several_names : (d : ℕ) (xs : List Stmt) (x y : Stmt) (more : List Stmt) (at : List ℕ) → xs ≡ x ∷ y ∷ more → iterators_of (nest_in d xs at).loops ≡ []
several_names zero xs x y more at is = refl
several_names (suc e) xs x y more at is = ap (λ l. iterators_of (nest_in (suc e) l at).loops) is

pub only_names : (d : ℕ) (xs : List Stmt) (x : Stmt) (at : List ℕ) → xs ≡ x ∷ [] → iterators_of (nest_in d (x ∷ []) at).loops ≡ iterators_of (nest_in d xs at).loops
only_names d xs x at is = ap (λ l. iterators_of (nest_in d l at).loops) (sym is)

pub assign_names : (d : ℕ) (x : Stmt) (place a : ℕ) (subs : List Expr) (value : Expr) (at : List ℕ) → x ≡ stmt.Assign place a subs value → iterators_of (nest_in d (x ∷ []) at).loops ≡ []
assign_names d x place a subs value at is = other_names d x at (ap sole is ∙ para_stmt-Assign sole_at no_loops place a subs value)

pub add_names : (d : ℕ) (x : Stmt) (place a : ℕ) (subs : List Expr) (value : Expr) (atomic : Bool) (at : List ℕ) → x ≡ stmt.AddTo place a subs value atomic → iterators_of (nest_in d (x ∷ []) at).loops ≡ []
add_names d x place a subs value atomic at is = other_names d x at (ap sole is ∙ para_stmt-AddTo sole_at no_loops place a subs value atomic)

pub declare_names : (d : ℕ) (x : Stmt) (place n : ℕ) (init : Option Expr) (at : List ℕ) → x ≡ stmt.Declare place n init → iterators_of (nest_in d (x ∷ []) at).loops ≡ []
declare_names d x place n init at is = other_names d x at (ap sole is ∙ para_stmt-Declare sole_at no_loops place n init)

pub set_names : (d : ℕ) (x : Stmt) (place n : ℕ) (value : Expr) (at : List ℕ) → x ≡ stmt.SetLocal place n value → iterators_of (nest_in d (x ∷ []) at).loops ≡ []
set_names d x place n value at is = other_names d x at (ap sole is ∙ para_stmt-SetLocal sole_at no_loops place n value)

pub if_names : (d : ℕ) (x : Stmt) (place : ℕ) (test : Expr) (body otherwise : List Stmt) (at : List ℕ) → x ≡ stmt.If place test body otherwise → iterators_of (nest_in d (x ∷ []) at).loops ≡ []
if_names d x place test body otherwise at is = other_names d x at (ap sole is ∙ para_stmt-If sole_at no_loops place test body otherwise)

-- ---- lines

-- going out again
pub names_back : (old mid now new : Names) (more : List (List ℕ)) (level : ℕ) → level ≡ length old.iters → Adds old mid more → now ≡ mid → new ≡ record now { iters = take level now.iters } → new ≡ old
names_back old mid now new more level size added same left =
    left ∙ (λ i. record ((same ∙ added) i) { iters = take (size i) ((same ∙ added) i).iters })
    ∙ ap (λ l. record old { iters = l }) (level_left old.iters (old.iters ++ more) more refl)

-- with the names of the band, those of the loops around it stand before them
pub names_more : (u : Program) (iters more : List (List ℕ)) (old new : Names) → old ≡ names_in u iters → Adds old new more → new ≡ names_in u (iters ++ more)
names_more u iters more old new is added = added ∙ ap (λ (n : Names). record n { iters = n.iters ++ more }) is

pub line_is : (u : Program) (w : Around) (head : Loop) (nest : Nest) (old mid : Names) (text : List ℕ) (line : Line) → Adds old mid (band_names nest.depth head []) → text ≡ line_text mid nest
    → line ≡ record { text = text; place = (out-Loop head).place } → old ≡ names_in u w.iters → line ≡ plan_line u w head nest
line_is u w head nest old mid text line added written made is =
    made ∙ ap (λ (t : List ℕ). record { text = t; place = (out-Loop head).place }) (written ∙ ap (λ (n : Names). line_text n nest) (names_more u w.iters (band_names nest.depth head []) old mid is added))
