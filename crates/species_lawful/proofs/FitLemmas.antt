-- Where something stands in a program, and the unit around what it becomes: what the names mean there, the unit may name there.
use Rattle.std.proofs.Common.{◌≡◌, ◌∙◌, refl, sym, ap, subst, ℕ, suc, ◌+◌, Bool, true, false, ◌&&◌, ◌||◌, not, if◌then◌else◌, nat_eq, nat_lt, List, [], ◌∷◌, ◌++◌, map, length, Option, Some, None, arith, is_none}
use Rattle.std.specs.List.{list_all}
use Rattle.std.proofs.lemmas.Bool.{and_parts, and_from}
use Rattle.species_ast.specs.Spelling.{Spelling}
use Rattle.species_ast.specs.Scope.Meanings.{Local, Meaning, Scope, meaning_in, is_among, count_before, scope_with, scope_with_local, in_loop, Role, Taken, Assigned, Occurrence}
use Rattle.species_ast.specs.Scope.Conditions.{is_unknown, is_miscounted, is_outside}
use Rattle.species_ast.specs.Scope.WellMade.{Around, is_array}

-- a name is no refused use of what it means
abbrev pub is_good : List ℕ → Occurrence → Bool
is_good its o = not (is_unknown o) && (not (is_miscounted o) && not (is_outside its o))

abbrev pub are_good : List ℕ → List Occurrence → Bool
are_good its names = list_all (is_good its) names

-- a unit may name what a name means: a local is declared there or is the iterator of a loop
abbrev pub fits : List ℕ → Around → Meaning → Bool
fits its w (Meaning.Array a n) = is_array w a n
fits its w (Meaning.Variable x) = is_among its x.serial || is_among w.locals (count_before its x.serial)
fits its w (Meaning.Iterator level) = nat_lt level w.level
fits its w Meaning.Function = true

abbrev pub fits_if : List ℕ → Around → Option Meaning → Bool
fits_if its w (Some m) = fits its w m
fits_if its w None = true

pub record Fits (its : List ℕ) (s : Scope) (w : Around) : Type 0 where
  pub names : list_all (λ n. fits its w n.1) s.names ≡ true
  pub level : s.level ≡ w.level
  pub iterators : s.iterators ≡ its

-- what a name means fits
pub known : (its : List ℕ) (w : Around) (names : List (List ℕ × Meaning)) (name : List ℕ) → list_all (λ n. fits its w n.1) names ≡ true → fits_if its w (meaning_in names name) ≡ true
known its w [] name h = refl
known its w (n ∷ names) name h = let parts = and_parts (fits its w n.1) _ h in go _ parts.0 (known its w names name parts.1)
  where
    go : (b : Bool) → fits its w n.1 ≡ true → fits_if its w (meaning_in names name) ≡ true → fits_if its w (if b then Some n.1 else meaning_in names name) ≡ true
    go true h k = h
    go false h k = k

-- ---- more locals and more loops

or_later : (a b c : Bool) → (a || b) ≡ true → (a || (c || b)) ≡ true
or_later true b c h = refl
or_later false b true h = refl
or_later false b false h = h

fits_local : (its : List ℕ) (w : Around) (x : ℕ) (m : Meaning) → fits its w m ≡ true → fits its (record w { locals = x ∷ w.locals }) m ≡ true
fits_local its w x (Meaning.Array a n) h = h
fits_local its w x (Meaning.Variable y) h = or_later (is_among its y.serial) (is_among w.locals (count_before its y.serial)) (nat_eq (count_before its y.serial) x) h
fits_local its w x (Meaning.Iterator level) h = h
fits_local its w x Meaning.Function h = h

next_level : (a b : ℕ) → nat_lt a b ≡ true → nat_lt a (suc b) ≡ true
next_level a b h = grind arith

fits_inside : (its : List ℕ) (w : Around) (m : Meaning) → fits its w m ≡ true → fits its (record w { level = suc w.level }) m ≡ true
fits_inside its w (Meaning.Array a n) h = h
fits_inside its w (Meaning.Variable y) h = h
fits_inside its w (Meaning.Iterator level) h = next_level level w.level h
fits_inside its w Meaning.Function h = h

all_fit : (its : List ℕ) (w v : Around) → ((m : Meaning) → fits its w m ≡ true → fits its v m ≡ true) → (names : List (List ℕ × Meaning)) → list_all (λ n. fits its w n.1) names ≡ true → list_all (λ n. fits its v n.1) names ≡ true
all_fit its w v more [] h = refl
all_fit its w v more (n ∷ names) h = let parts = and_parts (fits its w n.1) _ h in and_from _ _ (more n.1 parts.0) (all_fit its w v more names parts.1)

same_number : (n : ℕ) → nat_eq n n ≡ true
same_number n = grind arith

own_level : (a b : ℕ) → a ≡ b → nat_lt a (suc b) ≡ true
own_level a b h = grind (arith, h)

-- in a loop
pub fits_loop : (its : List ℕ) (iter : Spelling) (s : Scope) (w : Around) → Fits its s w → Fits its (in_loop iter s) (record w { level = suc w.level })
fits_loop its iter s w h = record {
  names = and_from _ _ (own_level s.level w.level h.level) (all_fit its w (record w { level = suc w.level }) (fits_inside its w) s.names h.names);
  level = ap suc h.level;
  iterators = h.iterators;
}

-- behind a local that is the iterator of a loop
pub fits_taken : (its : List ℕ) (name : Spelling) (x : Local) (s : Scope) (w : Around) → is_among its x.serial ≡ true → Fits its s w → Fits its (scope_with_local name x s) w
fits_taken its name x s w taken h = record {
  names = and_from _ _ (ap (λ b. b || is_among w.locals (count_before its x.serial)) taken) h.names;
  level = h.level;
  iterators = h.iterators;
}

own_local : (a : Bool) (n : ℕ) (ns : List ℕ) → (a || is_among (n ∷ ns) n) ≡ true
own_local true n ns = refl
own_local false n ns = ap (λ b. b || is_among ns n) (same_number n)

-- behind a local that is kept
pub fits_kept : (its : List ℕ) (name : Spelling) (x : Local) (s : Scope) (w : Around) → Fits its s w
    → Fits its (scope_with_local name x s) (record w { locals = count_before its x.serial ∷ w.locals })
fits_kept its name x s w h = record {
  names = and_from _ _ (own_local (is_among its x.serial) (count_before its x.serial) w.locals)
      (all_fit its w (record w { locals = count_before its x.serial ∷ w.locals }) (fits_local its w (count_before its x.serial)) s.names h.names);
  level = h.level;
  iterators = h.iterators;
}

-- behind another declaration
pub fits_with : (its : List ℕ) (name : Spelling) (m : Meaning) (s : Scope) (w : Around) → fits its w m ≡ true → Fits its s w → Fits its (scope_with name m s) w
fits_with its name m s w fit h = record { names = and_from _ _ fit h.names; level = h.level; iterators = h.iterators }

-- a use is good whether the value is taken or set
pub set_or_taken : (its : List ℕ) (name : Spelling) (n : ℕ) (m : Option Meaning)
    → is_good its (record { name = name; role = Assigned n; means = m }) ≡ is_good its (record { name = name; role = Taken n; means = m })
set_or_taken its name n (Some (Meaning.Array a d)) = refl
set_or_taken its name n (Some (Meaning.Variable x)) = refl
set_or_taken its name n (Some (Meaning.Iterator level)) = refl
set_or_taken its name n (Some Meaning.Function) = refl
set_or_taken its name n None = refl
