-- The scope of a program and that of its canonical text match at each declaration.
use Rattle.std.proofs.Common.{◌≡◌, ◌∙◌, ap, sym, refl, subst, ℕ, zero, suc, ◌<◌, Bool, true, false, List, [], ◌∷◌, ◌++◌, length, Option, Some, None, arith, length-append}
use Rattle.std.proofs.lemmas.Bool.{eq-eqb}
use Rattle.std.proofs.lemmas.Slice.Eq.{bytes_eq-Decides}
use Rattle.std.specs.Prelude.{bytes_eq, if◌then◌else◌, slice_get, unwrap_or}
use Rattle.species_ast.specs.Spelling.{Spelling}
use Rattle.species_ast.specs.declared.tree.Unit.{Unit}
use Rattle.species_ast.specs.Scope.Meanings.{Local, Meaning, Scope, meaning_in, scope_with, scope_with_local, in_loop, is_among, count_before, local_number}
use Rattle.species_print.specs.Expressions.{local_name, iter_name}
use Rattle.species_print.specs.Statements.{local_kind}
use Rattle.species_readback.proofs.LawfulLemmas.{Agree, MatchesAt, Matches}
use Rattle.species_readback.specs.Meant.{spell, declared}

-- no local is left out where no loop takes one
pub count_all : (n : ℕ) → count_before [] n ≡ n
count_all zero = refl
count_all (suc n) = ap suc (count_all n)

-- both scopes get the same name
agree_with : (u : Unit) (it : List (List ℕ)) (s t : Scope) (w v : List ℕ) (m k : Meaning) (a b : Option Meaning) (c : Bool) → bytes_eq w v ≡ c
    → Agree u it s t (Some m) (Some k) w → Agree u it s t a b v → Agree u it s t (if c then Some m else a) (if c then Some k else b) v
agree_with u it s t w v m k a b true e new old = subst (Agree u it s t (Some m) (Some k)) ((bytes_eq-Decides w v).0 e) new
agree_with u it s t w v m k a b false e new old = old

-- an array, the function, and whatever is declared in both alike
pub matches_with : (u : Unit) (it : List (List ℕ)) (s t : Scope) (n : Spelling) (m k : Meaning) → Matches u it s t → Agree u it s t (Some m) (Some k) n.text
    → Matches u it (scope_with n m s) (scope_with (spell n.text) k t)
matches_with u it s t n m k h new v = agree_with u it s t n.text v m k (meaning_in s.names v) (meaning_in t.names v) (bytes_eq n.text v) refl new (h v)

-- a local that keeps its declaration
pub matches_local : (u : Unit) (it : List (List ℕ)) (s t : Scope) (n : Spelling) (x : Local) (number : ℕ) (initialised : Bool) → Matches u it s t
    → x.serial ≡ s.serials → t.iterators ≡ [] → t.serials ≡ local_number s s.serials → number ≡ local_number s s.serials → local_name u number ≡ n.text
    → Matches u it (scope_with_local n x s) (declared u number initialised t)
matches_local u it s t n x number initialised h serial its same num is v =
    subst (λ z. MatchesAt u it (scope_with_local n x s) (scope_with_local (spell z) y t) (meaning_in ((n.text, Meaning.Variable x) ∷ s.names) v) v) (sym is)
    (agree_with u it s t n.text v (Meaning.Variable x) (Meaning.Variable y) (meaning_in s.names v) (meaning_in t.names v) (bytes_eq n.text v) refl
    (λ kept. (ap (local_name u) (ap (local_number s) serial ∙ sym num) ∙ is, eq-eqb (local_number t t.serials) (local_number s x.serial) numbers))
    (h v))
  where
    y : Local
    y = record { serial = t.serials; kind = local_kind u number; initialised = initialised }

    numbers : local_number t t.serials ≡ local_number s x.serial
    numbers = ap (λ z. count_before z t.serials) its ∙ count_all t.serials ∙ same ∙ ap (local_number s) (sym serial)

-- a local that leaves nothing behind
agree_dropped : (u : Unit) (it : List (List ℕ)) (s t : Scope) (x : Local) (a k : Option Meaning) (w : List ℕ) (c : Bool) → is_among s.iterators x.serial ≡ true → Agree u it s t a k w → Agree u it s t (if c then Some (Meaning.Variable x) else a) k w
agree_dropped u it s t x a k w true d old = λ kept. let e : true ≡ false = sym d ∙ kept in cc
agree_dropped u it s t x a k w false d old = old

pub matches_dropped : (u : Unit) (it : List (List ℕ)) (s t : Scope) (n : Spelling) (x : Local) → Matches u it s t → is_among s.iterators x.serial ≡ true → Matches u it (scope_with_local n x s) t
matches_dropped u it s t n x h d v = agree_dropped u it s t x (meaning_in s.names v) (meaning_in t.names v) v (bytes_eq n.text v) d (h v)

-- ---- loops

front_get : {X : Type 0} (xs : List X) (x : X) (l : ℕ) → l < length xs → slice_get (xs ++ x ∷ []) l ≡ slice_get xs l
front_get [] x l h = let y : ⊥ = omega (arith, h) in absurd y
front_get (y ∷ xs) x zero h = refl
front_get (y ∷ xs) x (suc l) h = front_get xs x l (omega (arith, h))

last_get : {X : Type 0} (xs : List X) (x : X) → slice_get (xs ++ x ∷ []) (length xs) ≡ Some x
last_get [] x = refl
last_get (y ∷ xs) x = last_get xs x

agree_inside : (u : Unit) (it : List (List ℕ)) (w : List ℕ) (s t : Scope) (a k : Option Meaning) (v : List ℕ) → Agree u it s t a k v → Agree u (it ++ w ∷ []) s t a k v
agree_inside u it w s t None k v h = h
agree_inside u it w s t (Some (Meaning.Array a n)) k v h = h
agree_inside u it w s t (Some (Meaning.Variable x)) k v h = h
agree_inside u it w s t (Some (Meaning.Iterator l)) k v h = (omega (arith, h.0, length-append it (w ∷ [])), ap (λ o. unwrap_or o []) (front_get it w l h.0) ∙ h.1, h.2)
agree_inside u it w s t (Some Meaning.Function) k v h = h

pub matches_loop : (u : Unit) (it : List (List ℕ)) (s t : Scope) (n : Spelling) → Matches u it s t → s.level ≡ length it → t.level ≡ s.level
    → Matches u (it ++ n.text ∷ []) (in_loop n s) (in_loop (spell n.text) t)
matches_loop u it s t n h level same v =
    agree_with u (it ++ n.text ∷ []) s t n.text v (Meaning.Iterator s.level) (Meaning.Iterator t.level) (meaning_in s.names v) (meaning_in t.names v) (bytes_eq n.text v) refl
    (omega (arith, level, length-append it (n.text ∷ [])), ap (λ i. iter_name (it ++ n.text ∷ []) i) level ∙ ap (λ o. unwrap_or o []) (last_get it n.text), eq-eqb t.level s.level same)
    (agree_inside u it n.text s t (meaning_in s.names v) (meaning_in t.names v) v (h v))
