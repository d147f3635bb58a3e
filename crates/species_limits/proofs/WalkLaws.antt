-- Loops one after another, and what is kept of what is found of them.
use Rattle.std.proofs.Common.{◌≡◌, ◌∙◌, refl, sym, ap, arith, ℕ, zero, suc, ◌+◌, ◌<◌, List, [], ◌∷◌, ◌++◌, map, take, length, get_or, Bool, true, false, ◌&&◌, ◌||◌, not, nat_le, nat_lt, Option, append-nil, append_assoc}
use Rattle.std.specs.List.{flat_map}
use Rattle.std.proofs.lemmas.List.{map-append, take_more}
use Rattle.std.proofs.lemmas.Grind.{flat_map-append}
use Rattle.std.proofs.lemmas.Bool.Decides.{nat_tests}
use Rattle.species_ast.specs.declared.tree.Stmt.{Stmt}
use Rattle.species_ast.specs.declared.tree.Stmt.TheOpen.{Loop-F}
use Rattle.species_ast.specs.declared.tree.Stmt.TheVariants as stmt
use Rattle.species_ast.specs.declared.tree.Expr.{Expr}
use Rattle.species_ast.specs.declared.tree.Loop.{Loop, out-Loop, roll-out-Loop}
use Rattle.species_ast.specs.Scope.Hulls.{Range, range_of, passes_hull}
use Rattle.species_ast.specs.Scope.Magnitudes.{passes_bound}
use Rattle.species_ast.specs.Scope.Limits.{is_too_deep, is_too_far}
use Rattle.species_ast.specs.Scope.Nests.{Bounds, named_in, front_of, is_parallel, is_unfit, is_bad_mark}
use Rattle.species_ast.specs.declared.tree.Mark.TheVariants.{Plain, Parallel}
use Rattle.species_ast.specs.declared.tree.Schedule.{Schedule}
use Rattle.species_ast.specs.declared.tree.Unit.{Unit as Program}
use Rattle.species_ast.specs.Scope.Conditions.{refused_loops}
use Rattle.species_loops.specs.Bands.{is_band, names_band}
use Rattle.species_ast.specs.Scope.Refusals.{Limit, Refusal, Finding}
use Rattle.species_ast.specs.Scope.Loops.{Standing, PlacedLoop, Placing, list_loops, numbered, standing_in, loops_at, loops_inside, loops_in, outside_loops}
use Rattle.species_ast.proofs.Paras.{beside, seconds, para_stmt-If, para_stmt-For, para_stmt-Block, para_loop}
use Rattle.species_names.specs.Kept.{kept, refused_if}
use Rattle.species_names.proofs.KeptLaws.{kept-append}
use Rattle.species_limits.specs.declared.walk.At.{At}
use Rattle.species_limits.proofs.LoopFindings.{loops_apart}
use Rattle.species_limits.specs.Found.{found_at, found_of}
use Rattle.species_limits.specs.Placed.{loops_of, loops_from, passes}
use Rattle.species_limits.specs.Standings.{StandsAt}

found_of-append : (first : Option Finding) (xs ys : List PlacedLoop) → found_of first (xs ++ ys) ≡ found_of (found_of first xs) ys
found_of-append first xs ys = ap (kept first) (flat_map-append found_at xs ys) ∙ kept-append first (flat_map found_at xs) (flat_map found_at ys)

-- ---- lists

list_loops-snoc : (fs : List Placing) (f : Placing) (s : Standing) (k : ℕ) → list_loops (fs ++ f ∷ []) s k ≡ list_loops fs s k ++ f (numbered s (k + length fs))
list_loops-snoc [] f s k =
    let same : k ≡ k + 0 = omega arith in
    append-nil (f (numbered s k)) ∙ ap (λ n. f (numbered s n)) same
list_loops-snoc (g ∷ fs) f s k =
    let same : suc k + length fs ≡ k + suc (length fs) = omega arith in
    ap (λ l. g (numbered s k) ++ l) (list_loops-snoc fs f s (suc k) ∙ ap (λ n. list_loops fs s (suc k) ++ f (numbered s n)) same)
    ∙ sym (append_assoc (g (numbered s k)) (list_loops fs s (suc k)) (f (numbered s (k + suc (length fs)))))

length_first : (all : List Stmt) (i : ℕ) → i < length all → length (map loops_in (take i all)) ≡ i
length_first [] i h = absurd (omega (arith, h))
length_first (x ∷ all) zero h = refl
length_first (x ∷ all) (suc i) h = ap suc (length_first all i (omega (arith, h)))

pub numbered_stands : (at : At) (path : List Range) (s : Standing) (k : ℕ) → StandsAt at path s → StandsAt at path (numbered s k)
numbered_stands at path s k h = record { level = h.level; in_nest = h.in_nest; passed = h.passed; path = h.path; depth = h.depth }

pub walked_next : (all : List Stmt) (i : ℕ) (x : Stmt) (old now new : Option Finding) (s : Standing) (k : ℕ) → x ≡ get_or all i x → i < length all →
    now ≡ found_of old (list_loops (map loops_in (take i all)) s k) → new ≡ found_of now (loops_in x (numbered s (k + i))) →
    new ≡ found_of old (list_loops (map loops_in (take (i + 1) all)) s k)
walked_next all i x old now new s k at within h e =
    e ∙ ap (λ m. found_of m (loops_in x (numbered s (k + i)))) h
    ∙ sym (found_of-append old (list_loops (map loops_in (take i all)) s k) (loops_in x (numbered s (k + i))))
    ∙ ap (λ n. found_of old (list_loops (map loops_in (take i all)) s k ++ loops_in x (numbered s (k + n)))) (sym (length_first all i within))
    ∙ ap (found_of old) (sym (list_loops-snoc (map loops_in (take i all)) (loops_in x) s k)
    ∙ ap (λ fs. list_loops fs s k) (sym (map-append loops_in (take i all) (x ∷ [])) ∙ ap (map loops_in) (ap (λ y. take i all ++ y ∷ []) at ∙ sym (take_more all i x within))))

-- ---- statements

pub at_for : (l : Loop) (s : Standing) → loops_in (stmt.For l) s ≡ loops_from l s
at_for l s = ap (λ f. f s) (para_stmt-For loops_at loops_inside l)

pub at_block : (body : List Stmt) (s : Standing) → loops_in (stmt.Block body) s ≡ list_loops (map loops_in body) s 0
at_block body s = ap (λ f. f s) (para_stmt-Block loops_at loops_inside body) ∙ ap (λ fs. list_loops fs s 0) (seconds loops_in body)

length-beside : (xs : List Stmt) → length (map (beside loops_in) xs) ≡ length xs
length-beside [] = refl
length-beside (x ∷ xs) = ap suc (length-beside xs)

at_if : (place : ℕ) (test : Expr) (body otherwise : List Stmt) (s : Standing) →
    loops_in (stmt.If place test body otherwise) s ≡ list_loops (map loops_in body) s 0 ++ list_loops (map loops_in otherwise) s (length body)
at_if place test body otherwise s =
    ap (λ f. f s) (para_stmt-If loops_at loops_inside place test body otherwise)
    ∙ (λ i. list_loops (seconds loops_in body i) s 0 ++ list_loops (seconds loops_in otherwise i) s (length-beside body i))

pub both_branches : (place : ℕ) (test : Expr) (body otherwise : List Stmt) (s : Standing) (old mid new : Option Finding) →
    mid ≡ found_of old (list_loops (map loops_in body) s 0) → new ≡ found_of mid (list_loops (map loops_in otherwise) s (length body)) →
    new ≡ found_of old (loops_in (stmt.If place test body otherwise) s)
both_branches place test body otherwise s old mid new h k =
    k ∙ ap (λ m. found_of m (list_loops (map loops_in otherwise) s (length body))) h
    ∙ sym (found_of-append old (list_loops (map loops_in body) s 0) (list_loops (map loops_in otherwise) s (length body)))
    ∙ ap (found_of old) (sym (at_if place test body otherwise s))

-- ---- loops

inside_is : (head : Loop) (s : Standing) → loops_of head s ≡ list_loops (map loops_in (out-Loop head).body) (standing_in (out-Loop head) s) 0
inside_is head s =
    ap (λ h. loops_of h s) (sym (roll-out-Loop head)) ∙ ap (λ f. f s) (para_loop loops_at loops_inside (out-Loop head))
    ∙ ap (λ fs. list_loops fs (standing_in (out-Loop head) s) 0) (seconds loops_in (out-Loop head).body)

pub whole_loop : (head : Loop) (s : Standing) (old mid new : Option Finding) →
    mid ≡ kept old (found_at (record { head = head; stands = s })) →
    new ≡ found_of mid (list_loops (map loops_in (out-Loop head).body) (standing_in (out-Loop head) s) 0) →
    new ≡ found_of old (loops_from head s)
whole_loop head s old mid new h k =
    k ∙ (λ i. found_of (h i) (sym (inside_is head s) i))
    ∙ sym (kept-append old (found_at (record { head = head; stands = s })) (flat_map found_at (loops_of head s)))

or_false : (a b : Bool) → (a || b) ≡ false → (a ≡ false) × (b ≡ false)
or_false true b h = absurd cc
or_false false b h = (refl, h)

same_passed : (at : At) (path : List Range) (s : Standing) (l : Loop-F Stmt Loop) → StandsAt at path s → (s.passed || (is_too_deep s.around.level || (passes_hull s.around.path l || passes_bound s.around.path l))) ≡ (at.passed || passes at path l)
same_passed at path s l h = go at.passed refl
  where
    go : (b : Bool) → at.passed ≡ b → (s.passed || (is_too_deep s.around.level || (passes_hull s.around.path l || passes_bound s.around.path l))) ≡ (at.passed || passes at path l)
    go true e = ap (λ b. b || (is_too_deep s.around.level || (passes_hull s.around.path l || passes_bound s.around.path l))) (h.passed ∙ e) ∙ sym (ap (λ b. b || passes at path l) e)
    go false e = λ i. h.passed i || (is_too_deep (h.level i) || (passes_hull (h.path e i) l || passes_bound (h.path e i) l))

pub inner_stands : (at a : At) (path next : List Range) (s : Standing) (l : Loop-F Stmt Loop) → StandsAt at path s →
    a.level ≡ at.level + 1 → a.in_nest ≡ (at.in_nest || is_parallel l.mark) → a.passed ≡ (at.passed || passes at path l) →
    (a.passed ≡ false → length path < 16 → next ≡ path ++ range_of path l ∷ []) → StandsAt a next (standing_in l s)
inner_stands at a path next s l h level nest passed entered = record {
  level = omega (arith, level, h.level);
  in_nest = ap (λ b. b || is_parallel l.mark) h.in_nest ∙ sym nest;
  passed = same_passed at path s l h ∙ sym passed;
  path = λ e.
      let parts = or_false at.passed (passes at path l) (sym passed ∙ e) in
      (λ i. h.path parts.0 i ++ range_of (h.path parts.0 i) l ∷ []) ∙ sym (entered e (few e));
  depth = λ e.
      let parts = or_false at.passed (passes at path l) (sym passed ∙ e) in
      ap length (entered e (few e)) ∙ length_more path (range_of path l) ∙ omega (arith, h.depth parts.0, level);
}
  where
    few : a.passed ≡ false → length path < 16
    few e =
        let parts = or_false at.passed (passes at path l) (sym passed ∙ e) in
        let shallow = or_false (is_too_deep at.level) (passes_hull path l || passes_bound path l) parts.1 in
        let level : at.level < 8 = grind (arith, nat_tests, shallow.0) in
        omega (arith, level, h.depth parts.0)

    length_more : (xs : List Range) (x : Range) → length (xs ++ x ∷ []) ≡ length xs + 1
    length_more [] x = refl
    length_more (y ∷ xs) x = omega (arith, length_more xs x)

pub hull_kept : (at : At) (path : List Range) (l : Loop-F Stmt Loop) (passed : Bool) → passed ≡ (at.passed || passes at path l) → passed ≡ false → passes_hull path l ≡ false
hull_kept at path l passed h e =
    let parts = or_false at.passed (passes at path l) (sym h ∙ e) in
    let inner = or_false (is_too_deep at.level) (passes_hull path l || passes_bound path l) parts.1 in
    (or_false (passes_hull path l) (passes_bound path l) inner.1).0

-- ---- marks

pub bad_parallel : (inside : Bool) (level depth : ℕ) (s : Schedule) (front : List Bounds) →
    (inside || not (is_band level front depth)) ≡ is_bad_mark inside level (Parallel depth s) front
bad_parallel inside level depth s front =
    let past : nat_lt (length front) depth ≡ not (nat_le depth (length front)) = grind (arith, nat_tests) in
    ap (λ b. inside || b) (unfit (nat_le depth (length front)) (names_band level depth (named_in (take depth front))) ∙ ap (λ b. b || names_band level depth (named_in (take depth front))) (sym past))
    ∙ ap (λ b. b || is_unfit level (Parallel depth s) front) (sym (and_true inside))
  where
    unfit : (l x : Bool) → not (l && not x) ≡ (not l || x)
    unfit true true = refl
    unfit true false = refl
    unfit false x = refl

    and_true : (b : Bool) → (b && true) ≡ b
    and_true true = refl
    and_true false = refl

pub no_bad_plain : (inside : Bool) (level : ℕ) (front : List Bounds) → is_bad_mark inside level Plain front ≡ false
no_bad_plain true level front = refl
no_bad_plain false level front = refl

-- ---- the whole unit

pub whole_unit : (u : Program) (old new : Option Finding) (at : At) (path : List Range) → at.level ≡ 0 → at.in_nest ≡ false → at.passed ≡ false → path ≡ [] →
    ((s : Standing) (k : ℕ) → StandsAt at path s → new ≡ found_of old (list_loops (map loops_in u.body) s k)) → new ≡ kept old (refused_loops u)
whole_unit u old new at path hl hn hp he found =
    found outside_loops 0 (record {
      level = sym hl;
      in_nest = sym hn;
      passed = sym hp;
      path = λ e. sym he;
      depth = λ e. ap length he ∙ sym hl;
    })
    ∙ loops_apart old u

-- ---- what is found of a loop itself

refused : (old new : Option Finding) (b c : Bool) (r : Refusal) (p : ℕ) → new ≡ kept old (refused_if b r p) → b ≡ c → new ≡ kept old (refused_if c r p)
refused old new b c r p h e = h ∙ ap (λ t. kept old (refused_if t r p)) e

then_more : (old mid new : Option Finding) (xs ys : List Finding) → mid ≡ kept old xs → new ≡ kept mid ys → new ≡ kept old (xs ++ ys)
then_more old mid new xs ys h k = k ∙ ap (λ m. kept m ys) h ∙ sym (kept-append old xs ys)

unless_passed : (at : At) (path : List Range) (s : Standing) (f : List Range → Bool) → StandsAt at path s → (not at.passed && f path) ≡ (not s.passed && f s.around.path)
unless_passed at path s f h = go at.passed refl
  where
    go : (b : Bool) → at.passed ≡ b → (not at.passed && f path) ≡ (not s.passed && f s.around.path)
    go true e = ap (λ b. not b && f path) e ∙ sym (ap (λ b. not b && f s.around.path) (h.passed ∙ e))
    go false e = λ i. not (sym h.passed i) && f (sym (h.path e) i)

pub noted_loop : (head : Loop) (at : At) (path : List Range) (s : Standing) (old a b c d new : Option Finding) (deep hull far bound bad : Bool) → StandsAt at path s →
    deep ≡ is_too_deep at.level → hull ≡ (not at.passed && passes_hull path (out-Loop head)) → far ≡ is_too_far (out-Loop head).step →
    bound ≡ (not at.passed && passes_bound path (out-Loop head)) → bad ≡ is_bad_mark at.in_nest at.level (out-Loop head).mark (front_of head) →
    a ≡ kept old (refused_if deep (Refusal.LimitPassed Limit.Loops) (out-Loop head).place) →
    b ≡ kept a (refused_if hull (Refusal.LimitPassed Limit.Hull) (out-Loop head).place) →
    c ≡ kept b (refused_if far (Refusal.LimitPassed Limit.Step) (out-Loop head).place) →
    d ≡ kept c (refused_if bound (Refusal.LimitPassed Limit.Bound) (out-Loop head).place) →
    new ≡ kept d (refused_if bad Refusal.BadMark (out-Loop head).place) →
    new ≡ kept old (found_at (record { head = head; stands = s }))
noted_loop head at path s old a b c d new deep hull far bound bad h hd hh hf hb hm ea eb ec ed en =
    let l = out-Loop head in
    let la = refused_if (is_too_deep s.around.level) (Refusal.LimitPassed Limit.Loops) l.place in
    let lb = refused_if (not s.passed && passes_hull s.around.path l) (Refusal.LimitPassed Limit.Hull) l.place in
    let lc = refused_if (is_too_far l.step) (Refusal.LimitPassed Limit.Step) l.place in
    let ld = refused_if (not s.passed && passes_bound s.around.path l) (Refusal.LimitPassed Limit.Bound) l.place in
    let le = refused_if (is_bad_mark s.around.in_nest s.around.level l.mark (front_of head)) Refusal.BadMark l.place in
    let fa : a ≡ kept old la = refused old a deep (is_too_deep s.around.level) (Refusal.LimitPassed Limit.Loops) l.place ea (hd ∙ ap is_too_deep (sym h.level)) in
    let fb : b ≡ kept a lb = refused a b hull (not s.passed && passes_hull s.around.path l) (Refusal.LimitPassed Limit.Hull) l.place eb (hh ∙ unless_passed at path s (λ p. passes_hull p l) h) in
    let fc : c ≡ kept b lc = refused b c far (is_too_far l.step) (Refusal.LimitPassed Limit.Step) l.place ec hf in
    let fd : d ≡ kept c ld = refused c d bound (not s.passed && passes_bound s.around.path l) (Refusal.LimitPassed Limit.Bound) l.place ed (hb ∙ unless_passed at path s (λ p. passes_bound p l) h) in
    let fe : new ≡ kept d le = refused d new bad (is_bad_mark s.around.in_nest s.around.level l.mark (front_of head)) Refusal.BadMark l.place en
    (hm ∙ (λ i. is_bad_mark (sym h.in_nest i) (sym h.level i) l.mark (front_of head))) in
    then_more old a new la (lb ++ (lc ++ (ld ++ le))) fa (then_more a b new lb (lc ++ (ld ++ le)) fb (then_more b c new lc (ld ++ le) fc (then_more c d new ld le fd fe)))

pub asked_once : (p d h b : Bool) → (p || (d || ((not p && h) || (not p && b)))) ≡ (p || (d || (h || b)))
asked_once true d h b = refl
asked_once false d h b = refl
