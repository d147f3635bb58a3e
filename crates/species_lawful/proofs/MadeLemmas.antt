-- Lists of statements that the unit may have where they stand, and the locals that they declare.
use Rattle.std.proofs.Common.{◌≡◌, ◌∙◌, refl, sym, ap, subst, ℕ, zero, suc, ◌+◌, ◌≤◌, Bool, true, false, ◌&&◌, ◌||◌, List, [], ◌∷◌, ◌++◌, map, length, Option, Some, None, arith, append_assoc, length-append}
use Rattle.std.specs.List.{list_all, flat_map}
use Rattle.std.proofs.lemmas.Bool.{and_parts, and_from}
use Rattle.std.proofs.lemmas.List.Folds.{list_all-append}
use Rattle.std.proofs.lemmas.List.{map-append}
use Rattle.std.proofs.lemmas.Grind.{flat_map-append}
use Rattle.species_ast.specs.declared.tree.Stmt.{Stmt}
use Rattle.species_ast.specs.Run.{locals_in, locals_of}
use Rattle.species_ast.specs.Scope.Meanings.{Scope, count_before, Occurrence}
use Rattle.species_ast.specs.Scope.Statements.{LoopSite, Notes, Fragment, Walk, no_notes, both, fragment, in_order}
use Rattle.species_ast.specs.Scope.WellMade.{Around, Made, made, list_holds}
use Rattle.species_lawful.proofs.FitLemmas.{is_good, are_good, Fits}
use Rattle.species_lawful.proofs.ReadLemmas.{both_good}

-- what is around the statements behind these
abbrev pub after : List Made → Around → Around
after [] w = w
after (m ∷ ms) w = after ms (record w { locals = m.declares ++ w.locals })

abbrev pub behind_all : List Stmt → Around → Around
behind_all xs = after (map made xs)

holds_append : (ms ns : List Made) (w : Around) → list_holds (ms ++ ns) w ≡ (list_holds ms w && list_holds ns (after ms w))
holds_append [] ns w = refl
holds_append (m ∷ ms) ns w = ap (λ b. m.holds w && b) (holds_append ms ns (record w { locals = m.declares ++ w.locals })) ∙ assoc (m.holds w) _ _
  where
    assoc : (a b c : Bool) → (a && (b && c)) ≡ ((a && b) && c)
    assoc true b c = refl
    assoc false b c = refl

after_append : (ms ns : List Made) (w : Around) → after (ms ++ ns) w ≡ after ns (after ms w)
after_append [] ns w = refl
after_append (m ∷ ms) ns w = after_append ms ns (record w { locals = m.declares ++ w.locals })

-- so many numbers from a number on
abbrev pub from : ℕ → ℕ → List ℕ
from a zero = []
from a (suc n) = a ∷ from (suc a) n

pub from_more : (a n m : ℕ) → from a (n + m) ≡ from a n ++ from (a + n) m
from_more a zero m = ap (from a) (left m) ∙ ap (λ z. from z m) (right a)
  where
    left : (m : ℕ) → 0 + m ≡ m
    left m = omega arith

    right : (a : ℕ) → a ≡ a + 0
    right a = omega arith
from_more a (suc n) m = ap (from a) (first n m) ∙ ap (λ l. a ∷ l) (from_more (suc a) n m ∙ ap (λ z. from (suc a) n ++ from z m) (moved a n))
  where
    first : (n m : ℕ) → suc n + m ≡ suc (n + m)
    first n m = omega arith

    moved : (a n : ℕ) → suc a + n ≡ a + suc n
    moved a n = omega arith

locals_append : (xs ys : List Stmt) → locals_in (xs ++ ys) ≡ locals_in xs ++ locals_in ys
locals_append xs ys = ap (flat_map (λ l. l)) (map-append locals_of xs ys) ∙ flat_map-append (λ l. l) (map locals_of xs) (map locals_of ys)

-- What a fragment of program becomes holds where it stands, the names behind it fit, and the locals that it declares have the
-- numbers behind those before it, one after another.
pub record MadeOf (its : List ℕ) (s : Scope) (w : Around) (p : Fragment) : Type 0 where
  pub statements : list_holds (map made p.statements) w ≡ true
  pub body : list_holds (map made p.body) w ≡ true
  pub next : Fits its p.next (behind_all p.statements w)
  pub numbers : locals_in p.statements ≡ from (count_before its s.serials) (length p.notes.locals)
  pub body_numbers : locals_in p.body ≡ from (count_before its s.serials) (length p.notes.locals)
  pub count : count_before its p.next.serials ≡ count_before its s.serials + length p.notes.locals
  pub few : length p.notes.locals ≤ length p.notes.names

-- nothing but the depth of its mark keeps a loop from being made
abbrev pub Makes : (LoopSite → Bool) → Walk → Type 0
Makes site p = (its : List ℕ) (s : Scope) (w : Around) → Fits its s w → are_good its (p s).notes.names ≡ true → list_all site (p s).notes.loops ≡ true → MadeOf its s w (p s)

abbrev pub AllMake : (LoopSite → Bool) → List Walk → Type 0
AllMake site [] = Unit {0}
AllMake site (p ∷ ps) = Makes site p × AllMake site ps

nothing_more : (n : ℕ) → n ≡ n + 0
nothing_more n = omega arith

few_both : (a b c d x y : ℕ) → a ≤ c → b ≤ d → x ≡ a + b → y ≡ c + d → x ≤ y
few_both a b c d x y h k p q = omega (arith, h, k, p, q)

count_both : (a b c n m z : ℕ) → b ≡ a + n → c ≡ b + m → z ≡ n + m → c ≡ a + z
count_both a b c n m z h k p = omega (arith, h, k, p)

-- statements one after another
pub in_order_makes : (site : LoopSite → Bool) (ps : List Walk) → AllMake site ps → Makes site (in_order ps)
in_order_makes site [] all its s w h good sites = record {
  statements = refl;
  body = refl;
  next = h;
  numbers = refl;
  body_numbers = refl;
  count = nothing_more (count_before its s.serials);
  few = omega arith;
}
in_order_makes site (p ∷ ps) all its s w h good sites =
    let first = p s in
    let rest = in_order ps first.next in
    let g = both_good its first.notes.names rest.notes.names good in
    let l = and_parts _ _ (sym (list_all-append site first.notes.loops rest.notes.loops) ∙ sites) in
    let a = all.0 its s w h g.0 l.0 in
    let b = in_order_makes site ps all.1 its first.next (behind_all first.statements w) a.next g.1 l.1 in
    let holds : list_holds (map made (first.statements ++ rest.statements)) w ≡ true =
    ap (λ ms. list_holds ms w) (map-append made first.statements rest.statements)
    ∙ holds_append (map made first.statements) (map made rest.statements) w ∙ and_from _ _ a.statements b.statements in
    let long = length-append first.notes.locals rest.notes.locals in
    let numbers : locals_in (first.statements ++ rest.statements) ≡ from (count_before its s.serials) (length (first.notes.locals ++ rest.notes.locals)) =
    locals_append first.statements rest.statements
    ∙ (λ i. a.numbers i ++ (b.numbers ∙ ap (λ z. from z (length rest.notes.locals)) a.count) i)
    ∙ sym (from_more (count_before its s.serials) (length first.notes.locals) (length rest.notes.locals))
    ∙ ap (from (count_before its s.serials)) (sym long) in
    record {
      statements = holds;
      body = holds;
      next = subst (Fits its rest.next) (sym (ap (λ ms. after ms w) (map-append made first.statements rest.statements) ∙ after_append (map made first.statements) (map made rest.statements) w)) b.next;
      numbers = numbers;
      body_numbers = numbers;
      count = count_both (count_before its s.serials) (count_before its first.next.serials) (count_before its rest.next.serials) (length first.notes.locals) (length rest.notes.locals) _ a.count b.count long;
      few = few_both (length first.notes.locals) (length rest.notes.locals) (length first.notes.names) (length rest.notes.names) _ _ a.few b.few long (length-append first.notes.names rest.notes.names);
    }
