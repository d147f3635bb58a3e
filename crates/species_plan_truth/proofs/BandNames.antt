-- The bounds of a band name iterators of the loops around the nest alone.
use Rattle.std.proofs.Common.{◌≡◌, refl, ap, sym, ◌∙◌, subst, arith, ℕ, zero, suc, ◌+◌, ◌<◌, ◌≤◌, Bool, true, false, ◌&&◌, ◌||◌, not, nat_lt, nat_eq, if◌then◌else◌, List, [], ◌∷◌, ◌++◌, map, take, length, slice_index_or, ℤ, pos, negsuc, Option, Some, None, All}
use Rattle.std.specs.Prelude.{nat_le, is_some}
use Rattle.std.specs.List.{Contains, list_all, list_any}
use Rattle.std.proofs.lemmas.Bool.{and_parts, and_from, eq-eqb}
use Rattle.std.proofs.lemmas.Bool.Decides.{nat_tests}
use Rattle.std.proofs.lemmas.List.{length-map, length-take-le}
use Rattle.species_affine.specs.Subscript.{IsSameForm}
use Rattle.species_arcs.specs.Pairwise.{Pairwise}
use Rattle.species_ast.specs.Scope.Forms as text
use Rattle.species_ast.specs.Scope.Forms.{form_of, is_constant, iterators_in}
use Rattle.species_ast.specs.Scope.Hulls.{bound_form, last_form, fixed_range}
use Rattle.species_ast.specs.Scope.Nests.{Bounds, front_of, named_in}
use Rattle.species_ast.specs.Scope.WellMade.{Around, list_holds, made, made_at, made_loop, head_holds, is_made, is_made_bound}
use Rattle.species_ast.specs.declared.tree.Expr.{Expr}
use Rattle.species_ast.specs.declared.tree.Loop.{Loop, out-Loop, roll-Loop}
use Rattle.species_ast.specs.declared.tree.Stmt.{Stmt}
use Rattle.species_ast.specs.declared.tree.Stmt.TheVariants as stmt
use Rattle.species_ast.specs.declared.tree.Test.{Test}
use Rattle.species_ast.specs.declared.tree.Test.TheVariants.{Lt, Le, Gt, Ge}
use Rattle.species_ast.proofs.Folds.{fold_stmt-If, fold_stmt-For, fold_stmt-Block, fold_loop-out}
use Rattle.species_ast.proofs.Induction.{Each, each_all, stmt_ind}
use Rattle.species_ast.proofs.Paras.{para_stmt-Assign, para_stmt-AddTo, para_stmt-Declare, para_stmt-SetLocal, para_stmt-If}
use Rattle.species_linear.specs.Rising.{IsRisingFrom}
use Rattle.species_linear.specs.Value.{NamesOnly, coefficient_at}
use Rattle.species_linear.specs.declared.forms.Form.{Form}
use Rattle.species_linear.specs.declared.forms.Term.{Term}
use Rattle.species_lines.specs.Lines.{NamesOutside}
use Rattle.species_lines.proofs.LevelLaws.{IsNamed, AreNamed}
use Rattle.species_lines.proofs.ShortForms.{IsShort, short_bound}
use Rattle.species_loops.specs.Bands.{is_of_band, names_band, IsLongestBand}
use Rattle.species_merge.specs.Bounds.{range_ends, ends_by, ends_of, IsBoundOf}
use Rattle.species_merge.specs.declared.bands.BandBound.{BandBound}
use Rattle.species_merge.proofs.Folding.{all_of}
use Rattle.species_nests.specs.Nests.{Placed, sole_at, sole, only, nest_in, nest_of}
use Rattle.species_nests.proofs.NestLaws.{no_loops, not_some, sole-For, sole-Block, under}
use Rattle.species_nests.proofs.RunningLaws.{loops_of_nest}
use Rattle.species_occurrences.specs.Nesting.{bounds_in_nest}
use Rattle.species_occurrences.proofs.FrontLaws.{nests_are_fronts}
use Rattle.species_plan_truth.specs.Truth.{StandsUnder, here, in_loop, in_branch, in_otherwise, in_block}

-- ---- statements in so many loops

-- in so many loops the statement is well made, and so are those of a list
abbrev pub HoldsIn : ℕ → Stmt → Type 0
HoldsIn n x = (w : Around) × (w.level ≡ n) × ((made x).holds w ≡ true)

abbrev pub HoldIn : ℕ → List Stmt → Type 0
HoldIn n xs = (w : Around) × (w.level ≡ n) × (list_holds (map made xs) w ≡ true)

record IsLoopIn (n : ℕ) (l : Loop) : Type 0 where
  named : IsNamed n l
  body : HoldIn (suc n) (out-Loop l).body

loop_in : (n : ℕ) (l : Loop) → HoldsIn n (stmt.For l) → IsLoopIn n l
loop_in n l (w, level, h) =
    let parts = and_parts (head_holds (out-Loop l) w) (list_holds (map made (out-Loop l).body) (record w { level = suc w.level }))
    (ap (λ m. m.holds w) (sym (fold_stmt-For made_at made_loop l ∙ fold_loop-out made_at made_loop l)) ∙ h) in
    let start = and_parts (is_made_bound w.level (out-Loop l).start) _ parts.0 in
    let limit = and_parts (is_made_bound w.level (out-Loop l).limit) _ start.1 in
    record {
      named = subst (λ j. IsNamed j l) level (record { start = start.0; limit = limit.0 });
      body = (record w { level = suc w.level }, ap suc level, parts.1);
    }

block_in : (n : ℕ) (body : List Stmt) → HoldsIn n (stmt.Block body) → HoldIn n body
block_in n body (w, level, h) = (w, level, ap (λ m. m.holds w) (sym (fold_stmt-Block made_at made_loop body)) ∙ h)

branches_in : (n : ℕ) (place : ℕ) (test : Expr) (body otherwise : List Stmt) → HoldsIn n (stmt.If place test body otherwise) → HoldIn n body × HoldIn n otherwise
branches_in n place test body otherwise (w, level, h) =
    let all = and_parts (is_made w test) (list_holds (map made body) w && list_holds (map made otherwise) w) (ap (λ m. m.holds w) (sym (fold_stmt-If made_at made_loop place test body otherwise)) ∙ h) in
    let both = and_parts (list_holds (map made body) w) (list_holds (map made otherwise) w) all.1 in
    ((w, level, both.0), (w, level, both.1))

one_in : (n : ℕ) (xs : List Stmt) (x : Stmt) → Contains xs x → HoldIn n xs → HoldsIn n x
one_in n [] x c h = let below = c.1 in absurd (omega (arith, below))
one_in n (y ∷ xs) x (zero, below, is) (w, level, h) = subst (HoldsIn n) is (w, level, (and_parts ((made y).holds w) (list_holds (map made xs) (record w { locals = (made y).declares ++ w.locals })) h).0)
one_in n (y ∷ xs) x (suc k, below, is) (w, level, h) =
    one_in n xs x (k, omega (arith, below), is)
    (record w { locals = (made y).declares ++ w.locals }, level, (and_parts ((made y).holds w) (list_holds (map made xs) (record w { locals = (made y).declares ++ w.locals })) h).1)

-- a loop where it stands, in so many loops more
pub stands_in : (head : Loop) (around : List Loop) (xs : List Stmt) → StandsUnder head around xs → (n : ℕ) → HoldIn n xs → HoldsIn (n + length around) (stmt.For head)
stands_in head around xs (here _ c) n h = subst (λ j. HoldsIn j (stmt.For head)) (omega arith) (one_in n xs (stmt.For head) c h)
stands_in head around xs (in_loop l rest _ c inner) n h =
    let one = loop_in n l (one_in n xs (stmt.For l) c h) in
    subst (λ j. HoldsIn j (stmt.For head)) (omega arith) (stands_in head rest (out-Loop l).body inner (suc n) one.body)
stands_in head around xs (in_branch place test first second _ _ c inner) n h =
    stands_in head around first inner n (branches_in n place test first second (one_in n xs (stmt.If place test first second) c h)).0
stands_in head around xs (in_otherwise place test first second _ _ c inner) n h =
    stands_in head around second inner n (branches_in n place test first second (one_in n xs (stmt.If place test first second) c h)).1
stands_in head around xs (in_block body _ _ c inner) n h = stands_in head around body inner n (block_in n body (one_in n xs (stmt.Block body) c h))

-- ---- the loops of a nest

abbrev IsSoleHeld : Stmt → Type 0
IsSoleHeld x = (at : List ℕ) (p : Placed) → sole x at ≡ Some p → (n : ℕ) → HoldsIn n x → HoldsIn n (stmt.For p.loop)

only_held : (xs : List Stmt) → Each IsSoleHeld xs → (at : List ℕ) (p : Placed) → only xs at ≡ Some p → (n : ℕ) → HoldIn n xs → HoldsIn n (stmt.For p.loop)
only_held [] h at p is n held = absurd cc
only_held (x ∷ []) h at p is n (w, level, held) = h.0 (at ++ 0 ∷ []) p is n (w, level, (and_parts ((made x).holds w) true held).0)
only_held (x ∷ y ∷ xs) h at p is n held = absurd cc

sole_held : (x : Stmt) → IsSoleHeld x
sole_held = stmt_ind IsSoleHeld (record {
  assign = λ place a subs value at p is. absurd (not_some _ at p (para_stmt-Assign sole_at no_loops place a subs value) is);
  add_to = λ place a subs value atomic at p is. absurd (not_some _ at p (para_stmt-AddTo sole_at no_loops place a subs value atomic) is);
  declare = λ place x init at p is. absurd (not_some _ at p (para_stmt-Declare sole_at no_loops place x init) is);
  set_local = λ place x value at p is. absurd (not_some _ at p (para_stmt-SetLocal sole_at no_loops place x value) is);
  choice = λ place test body otherwise h k at p is. absurd (not_some _ at p (para_stmt-If sole_at no_loops place test body otherwise) is);
  loop = λ l h at p is n held.
      let same : Some (record { loop = roll-Loop l; at = at }) ≡ Some p = ap (λ s. s at) (sym (sole-For (roll-Loop l))) ∙ is in
      let it : record { loop = roll-Loop l; at = at } ≡ p = cc in
      subst (λ (q : Placed). HoldsIn n (stmt.For q.loop)) it held;
  block = λ body h at p is n held. only_held body h at p (ap (λ s. s at) (sym (sole-Block body)) ∙ is) n (block_in n body held);
})

nest_in_named : (d : ℕ) (xs : List Stmt) (at : List ℕ) (n : ℕ) → HoldIn n xs → AreNamed n (loops_of_nest (nest_in d xs at).loops)
nest_in_named zero xs at n h = tt
nest_in_named (suc d) xs at n h = go (λ ys there k held. nest_in_named d ys there k held) (only xs at) refl
  where
    go : ((ys : List Stmt) (there : List ℕ) (k : ℕ) → HoldIn k ys → AreNamed k (loops_of_nest (nest_in d ys there).loops)) → (o : Option Placed) → only xs at ≡ o → AreNamed n (loops_of_nest (under d xs at o).loops)
    go ih None is = tt
    go ih (Some p) is =
        let one = loop_in n p.loop (only_held xs (each_all IsSoleHeld sole_held xs) at p is n h) in
        (one.named, ih (out-Loop p.loop).body p.at (suc n) one.body)

-- each loop of a nest names those outside it
pub nest_named : (d : ℕ) (l : Loop) (at : List ℕ) (n : ℕ) → HoldsIn n (stmt.For l) → AreNamed n (loops_of_nest (nest_of d l at).loops)
nest_named d l at n h = let one = loop_in n l h in (one.named, nest_in_named d (out-Loop l).body at (suc n) one.body)

-- ---- names outside the band

or_false : (a b : Bool) → (a || b) ≡ false → (a ≡ false) × (b ≡ false)
or_false true b h = absurd cc
or_false false b h = (refl, h)

any_parts : (p : ℕ → Bool) (xs ys : List ℕ) → list_any p (xs ++ ys) ≡ false → (list_any p xs ≡ false) × (list_any p ys ≡ false)
any_parts p [] ys h = (refl, h)
any_parts p (x ∷ xs) ys h =
    let one = or_false (p x) (list_any p (xs ++ ys)) h in
    let more = any_parts p xs ys one.1 in
    (ap (λ b. b || list_any p xs) one.0 ∙ more.0, more.1)

not_true : (b : Bool) → not b ≡ true → b ≡ false
not_true true h = absurd cc
not_true false h = refl

one_below : (outer n level i : ℕ) → level ≤ outer + n → nat_lt i level ≡ true → is_of_band outer n i ≡ false → nat_lt i outer ≡ true
one_below outer n level i le under_level apart = go (nat_le outer i) refl
  where
    go : (b : Bool) → nat_le outer i ≡ b → nat_lt i outer ≡ true
    go true is =
        let later : nat_lt i (outer + n) ≡ false = sym (ap (λ (b : Bool). b && nat_lt i (outer + n)) is) ∙ apart in
        let first : nat_lt i (outer + n) ≡ true = grind (arith, nat_tests, le, under_level) in
        absurd cc
    go false is = grind (arith, nat_tests, is)

all_below : (outer n level : ℕ) (is : List ℕ) → level ≤ outer + n → list_all (λ i. nat_lt i level) is ≡ true → names_band outer n is ≡ false → list_all (λ i. nat_lt i outer) is ≡ true
all_below outer n level [] le below apart = refl
all_below outer n level (i ∷ is) le below apart =
    let first = and_parts (nat_lt i level) (list_all (λ j. nat_lt j level) is) below in
    let second = or_false (is_of_band outer n i) (list_any (is_of_band outer n) is) apart in
    and_from (nat_lt i outer) (list_all (λ j. nat_lt j outer) is) (one_below outer n level i le first.0 second.0) (all_below outer n level is le first.1 second.1)

bound_below : (outer n level : ℕ) (e : Expr) → level ≤ outer + n → is_made_bound level e ≡ true → names_band outer n (iterators_in e) ≡ false → is_made_bound outer e ≡ true
bound_below outer n level e le h apart =
    let parts = and_parts (is_some (form_of e)) (list_all (λ i. nat_lt i level) (iterators_in e)) h in
    and_from (is_some (form_of e)) (list_all (λ i. nat_lt i outer) (iterators_in e)) parts.0 (all_below outer n level (iterators_in e) le parts.1 apart)

-- the bounds name no iterator of the band
abbrev KeepOut : ℕ → ℕ → Bounds → Type 0
KeepOut outer n b = (names_band outer n (iterators_in b.start) ≡ false) × (names_band outer n (iterators_in b.limit) ≡ false)

front_out : (outer n k d : ℕ) (front : List Bounds) → d ≤ k → names_band outer n (named_in (take k front)) ≡ false → Each (KeepOut outer n) (take d front)
front_out outer n k zero front le h = tt
front_out outer n zero (suc d) front le h = absurd (omega (arith, le))
front_out outer n (suc k) (suc d) [] le h = tt
front_out outer n (suc k) (suc d) (b ∷ front) le h =
    let one = any_parts (is_of_band outer n) (iterators_in b.start ++ iterators_in b.limit) (named_in (take k front)) h in
    (any_parts (is_of_band outer n) (iterators_in b.start) (iterators_in b.limit) one.0, front_out outer n k d front (omega (arith, le)) one.1)

-- the bounds of the loop name iterators of this many levels alone
abbrev IsOutside : ℕ → Placed → Type 0
IsOutside outer p = (is_made_bound outer (out-Loop p.loop).start ≡ true) × (is_made_bound outer (out-Loop p.loop).limit ≡ true)

loops_outside : (outer n j : ℕ) (ps : List Placed) → j + length ps ≤ n → AreNamed (outer + j) (loops_of_nest ps) → Each (KeepOut outer n) (map bounds_in_nest ps) → Each (IsOutside outer) ps
loops_outside outer n j [] le named out = tt
loops_outside outer n j (p ∷ ps) le named out = (
  (bound_below outer n (outer + j) (out-Loop p.loop).start (omega (arith, le)) named.0.start out.0.0, bound_below outer n (outer + j) (out-Loop p.loop).limit (omega (arith, le)) named.0.limit out.0.1),
  loops_outside outer n (suc j) ps (omega (arith, le)) (subst (λ k. AreNamed k (loops_of_nest ps)) (omega arith) named.1) out.1,
)

-- ---- forms

short_last : (outer : ℕ) (test : Test) (f : text.Form) → IsShort outer f → IsShort outer (last_form test f)
short_last outer Lt f h = h
short_last outer Le f h = h
short_last outer Gt f h = h
short_last outer Ge f h = h

past_end : (cs : List ℤ) (k : ℕ) → length cs ≤ k → slice_index_or cs k (pos 0) ≡ pos 0
past_end [] k h = refl
past_end (c ∷ cs) zero h = absurd (omega (arith, h))
past_end (c ∷ cs) (suc k) h = past_end cs k (omega (arith, h))

own_coefficient : (t : Term) (ts : List Term) → coefficient_at (t ∷ ts) t.level ≡ t.coefficient
own_coefficient t ts = let same : nat_eq t.level t.level ≡ true = eq-eqb t.level t.level refl in rw same refl

-- of terms that rise from a level, each has its coefficient at its level
terms_below : (outer k : ℕ) (ts : List Term) → IsRisingFrom k ts → ((level : ℕ) → k ≤ level → outer ≤ level → coefficient_at ts level ≡ pos 0) → Each (λ t. t.level < outer) ts
terms_below outer k [] rising h = tt
terms_below outer k (t ∷ ts) rising h = (first (nat_lt t.level outer) refl, terms_below outer (t.level + 1) ts rising.2 more)
  where
    first : (b : Bool) → nat_lt t.level outer ≡ b → t.level < outer
    first true is = grind (arith, nat_tests, is)
    first false is = let past : outer ≤ t.level = grind (arith, nat_tests, is) in absurd (rising.1 (sym (own_coefficient t ts) ∙ h t.level rising.0 past))

    more : (level : ℕ) → t.level + 1 ≤ level → outer ≤ level → coefficient_at ts level ≡ pos 0
    more level le out =
        let other : nat_eq t.level level ≡ false = grind (arith, nat_tests, le) in
        sym (ap (λ (b : Bool). if b then t.coefficient else coefficient_at ts level) other) ∙ h level (omega (arith, le, rising.0)) out

names_short : (outer : ℕ) (f : Form) (g : text.Form) → IsSameForm f g → IsShort outer g → NamesOnly f outer
names_short outer f g same short =
    all_of (λ (t : Term). t.level < outer) f.terms (terms_below outer 0 f.terms same.rising (λ level any out. same.coefficients level ∙ past_end g.coefficients level (omega (arith, short, out))))

bound_outside : (outer : ℕ) (p : Placed) (b : BandBound) → IsOutside outer p → IsBoundOf (out-Loop p.loop) b → NamesOutside outer b
bound_outside outer p b h is =
    let l = out-Loop p.loop in
    let first = bound_form l.start in
    let last = last_form l.test (bound_form l.limit) in
    let start : IsShort outer first = short_bound outer l.start h.0 in
    let limit : IsShort outer last = short_last outer l.test (bound_form l.limit) (short_bound outer l.limit h.1) in
    let ends = both (is_constant first && is_constant last) l.step first last start limit in
    (names_short outer b.least (ends_of l).least is.least ends.0, names_short outer b.greatest (ends_of l).greatest is.greatest ends.1)
  where
    by_sign : (step : ℤ) (first last : text.Form) → IsShort outer first → IsShort outer last → IsShort outer (ends_by step first last).least × IsShort outer (ends_by step first last).greatest
    by_sign (pos n) first last h k = (h, k)
    by_sign (negsuc n) first last h k = (k, h)

    both : (t : Bool) (step : ℤ) (first last : text.Form) → IsShort outer first → IsShort outer last
        → let e = if t then range_ends (fixed_range step first.constant last.constant) else ends_by step first last in IsShort outer e.least × IsShort outer e.greatest
    both true step first last h k = (omega arith, omega arith)
    both false step first last h k = by_sign step first last h k

bounds_outside : (outer : ℕ) (ps : List Placed) (bs : List BandBound) → Each (IsOutside outer) ps → Pairwise (λ p b. IsBoundOf (out-Loop p.loop) b) ps bs → Each (NamesOutside outer) bs
bounds_outside outer [] [] h is = tt
bounds_outside outer [] (b ∷ bs) h is = absurd is
bounds_outside outer (p ∷ ps) [] h is = absurd is
bounds_outside outer (p ∷ ps) (b ∷ bs) h is = (bound_outside outer p b h.0 is.0, bounds_outside outer ps bs h.1 is.1)

-- ---- the law

-- The loops of a nest that are the first of the longest band.
pub band_names : (outer below : ℕ) (head : Loop) (front : ℕ) (bands : List BandBound) → HoldsIn outer (stmt.For head) → IsLongestBand outer (front_of head) front → suc below ≤ front
    → Pairwise (λ p b. IsBoundOf (out-Loop p.loop) b) (nest_of below head []).loops bands → All (NamesOutside outer) bands
band_names outer below head front bands holds longest within bounds =
    let ps = (nest_of below head []).loops in
    let parts = and_parts (nat_le front (length (front_of head))) (not (names_band outer front (named_in (take front (front_of head))))) longest.is_one in
    let enough : front ≤ length (front_of head) = grind (arith, nat_tests, parts.0) in
    let out = front_out outer front front (suc below) (front_of head) within (not_true (names_band outer front (named_in (take front (front_of head)))) parts.1) in
    let fronts : map bounds_in_nest ps ≡ take (suc below) (front_of head) = nests_are_fronts below head [] in
    let count : length ps ≡ suc below = sym (length-map ps bounds_in_nest) ∙ ap length fronts ∙ length-take-le (suc below) (front_of head) (omega (arith, within, enough)) in
    let level : outer ≡ outer + 0 = omega arith in
    let named = subst (λ k. AreNamed k (loops_of_nest ps)) level (nest_named below head [] outer holds) in
    all_of (NamesOutside outer) bands (bounds_outside outer ps bands (loops_outside outer front 0 ps (omega (arith, count, within)) named (subst (Each (KeepOut outer front)) (sym fronts) out)) bounds)
