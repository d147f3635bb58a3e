-- Which of several findings is reported does not depend on their order.
use Rattle.std.proofs.Common.{◌≡◌, ◌∙◌, refl, sym, ap, ℕ, List, [], ◌∷◌, ◌++◌, map, Option, Some, None, Bool, true, false, arith, nat_lt, nat_eq, ◌&&◌, ◌||◌, if◌then◌else◌, cond}
use Rattle.std.specs.List.{flat_map, filter}
use Rattle.species_ast.specs.Scope.Refusals.{Limit, Refusal, Finding, number, rank, limit_rank, is_before, is_earlier, earlier_of, first_in, refused_at, places_where}
use Rattle.species_ast.specs.Scope.Meanings.{Occurrence}
use Rattle.species_ast.specs.Scope.Conditions.{is_unknown, is_duplicate, is_miscounted, is_assigned_iterator, is_outside, named, refused_names}
use Rattle.species_ast.specs.Scope.Programs.{Program, iterators_of}
use Rattle.species_names.specs.Noted.{noted}
use Rattle.species_names.specs.Kept.{sooner, kept, refused_if}
use Rattle.species_names.proofs.KeptLaws.{kept-append}

-- ---- the order of findings

lexicographic : (p q u : ℕ) (x y z : Bool)
    → (nat_lt p q || (nat_eq p q && x)) ≡ false
    → (nat_lt q u || (nat_eq q u && y)) ≡ false
    → (x ≡ false → y ≡ false → z ≡ false)
    → (nat_lt p u || (nat_eq p u && z)) ≡ false
lexicographic p q u x y false h k both = grind arith
lexicographic p q u true y true h k both = grind arith
lexicographic p q u false true true h k both = grind arith
lexicographic p q u false false true h k both = let e : true ≡ false = both refl refl in grind (arith, e)

not_lt : (r t w : ℕ) → nat_lt r t ≡ false → nat_lt t w ≡ false → nat_lt r w ≡ false
not_lt r t w h k = grind arith

pub not_earlier : (a b c : Finding) → is_earlier a b ≡ false → is_earlier b c ≡ false → is_earlier a c ≡ false
not_earlier a b c h k =
    lexicographic a.place b.place c.place (is_before a.refusal b.refusal) (is_before b.refusal c.refusal) (is_before a.refusal c.refusal) h k
    (λ i j. lexicographic (number a.refusal) (number b.refusal) (number c.refusal) (nat_lt (rank a.refusal) (rank b.refusal))
    (nat_lt (rank b.refusal) (rank c.refusal)) (nat_lt (rank a.refusal) (rank c.refusal)) i j (not_lt (rank a.refusal) (rank b.refusal) (rank c.refusal)))

not_both : (p n r q m t : ℕ)
    → (nat_lt p q || (nat_eq p q && (nat_lt n m || (nat_eq n m && nat_lt r t)))) ≡ true
    → (nat_lt q p || (nat_eq q p && (nat_lt m n || (nat_eq m n && nat_lt t r)))) ≡ false
not_both p n r q m t h = grind arith

pub asymmetric : (a b : Finding) → is_earlier a b ≡ true → is_earlier b a ≡ false
asymmetric a b = not_both a.place (number a.refusal) (rank a.refusal) b.place (number b.refusal) (rank b.refusal)

-- a refusal from its number and its rank
abbrev limit_of : ℕ → Limit
limit_of n =
    if nat_eq n 0 then Limit.Loops else if nat_eq n 1 then Limit.Dims else if nat_eq n 2 then Limit.Elements else if nat_eq n 3 then Limit.References
    else if nat_eq n 4 then Limit.Hull else if nat_eq n 5 then Limit.Step else Limit.Bound

abbrev refusal_of : ℕ → ℕ → Refusal
refusal_of n r =
    if nat_eq n 5 then Refusal.Unknown else if nat_eq n 6 then Refusal.Duplicate else if nat_eq n 7 then Refusal.DimensionCount
    else if nat_eq n 8 then Refusal.IteratorAssigned else if nat_eq n 9 then Refusal.IteratorOutside else if nat_eq n 10 then Refusal.NotStatic
    else if nat_eq n 11 then Refusal.BadStep else if nat_eq n 12 then Refusal.LimitPassed (limit_of r) else Refusal.BadMark

limit_again : (l : Limit) → limit_of (limit_rank l) ≡ l
limit_again Limit.Loops = refl
limit_again Limit.Dims = refl
limit_again Limit.Elements = refl
limit_again Limit.References = refl
limit_again Limit.Hull = refl
limit_again Limit.Step = refl
limit_again Limit.Bound = refl

again : (r : Refusal) → refusal_of (number r) (rank r) ≡ r
again Refusal.Unknown = refl
again Refusal.Duplicate = refl
again Refusal.DimensionCount = refl
again Refusal.IteratorAssigned = refl
again Refusal.IteratorOutside = refl
again Refusal.NotStatic = refl
again Refusal.BadStep = refl
again (Refusal.LimitPassed l) = ap (λ x. Refusal.LimitPassed x) (limit_again l)
again Refusal.BadMark = refl

same_numbers : (p n r q m t : ℕ)
    → (nat_lt p q || (nat_eq p q && (nat_lt n m || (nat_eq n m && nat_lt r t)))) ≡ false
    → (nat_lt q p || (nat_eq q p && (nat_lt m n || (nat_eq m n && nat_lt t r)))) ≡ false
    → (p ≡ q) × (n ≡ m) × (r ≡ t)
same_numbers p n r q m t h k = (grind arith, grind arith, grind arith)

-- two of which neither is earlier are one
pub same : (a b : Finding) → is_earlier a b ≡ false → is_earlier b a ≡ false → a ≡ b
same a b h k =
    let e = same_numbers a.place (number a.refusal) (rank a.refusal) b.place (number b.refusal) (rank b.refusal) h k in
    let r : a.refusal ≡ b.refusal = sym (again a.refusal) ∙ ap (λ n. refusal_of n (rank a.refusal)) e.1 ∙ ap (refusal_of (number b.refusal)) e.2 ∙ again b.refusal in
    ap (λ p. record { refusal = a.refusal; place = p }) e.0 ∙ ap (λ x. record { refusal = x; place = b.place }) r

-- ---- the lesser of two

abbrev least : Finding → Finding → Finding
least a f = if is_earlier f a then f else a

sooner_is : (a f : Finding) → sooner (Some a) f ≡ Some (least a f)
sooner_is a f = go (is_earlier f a)
  where
    go : (t : Bool) → (if t then Some f else Some a) ≡ Some (if t then f else a)
    go true = refl
    go false = refl

at : (a f : Finding) (t : Bool) → is_earlier f a ≡ t → least a f ≡ (if t then f else a)
at a f t e = ap (λ u. if u then f else a) e

either_way : (a b : Finding) → least a b ≡ least b a
either_way a b = go (is_earlier b a) (is_earlier a b) refl refl
  where
    go : (t u : Bool) → is_earlier b a ≡ t → is_earlier a b ≡ u → least a b ≡ least b a
    go true true e k = let wrong : true ≡ false = sym k ∙ asymmetric b a e in cc
    go true false e k = at a b true e ∙ sym (at b a false k)
    go false true e k = at a b false e ∙ sym (at b a true k)
    go false false e k = at a b false e ∙ same a b k e ∙ sym (at b a false k)

swapped : (c a b : Finding) → least (least c a) b ≡ least (least c b) a
swapped c a b = go (is_earlier a c) (is_earlier b c) refl refl
  where
    left : (t : Bool) → is_earlier a c ≡ t → least (least c a) b ≡ least (if t then a else c) b
    left t e = ap (λ m. least m b) (at c a t e)

    right : (u : Bool) → is_earlier b c ≡ u → least (least c b) a ≡ least (if u then b else c) a
    right u e = ap (λ m. least m a) (at c b u e)

    go : (t u : Bool) → is_earlier a c ≡ t → is_earlier b c ≡ u → least (least c a) b ≡ least (least c b) a
    go true true e k = left true e ∙ either_way a b ∙ sym (right true k)
    go true false e k = left true e ∙ at a b false (not_earlier b c a k (asymmetric a c e)) ∙ sym (at c a true e) ∙ sym (right false k)
    go false true e k = left false e ∙ at c b true k ∙ sym (at b a false (not_earlier a c b e (asymmetric b c k))) ∙ sym (right true k)
    go false false e k = left false e ∙ at c b false k ∙ sym (at c a false e) ∙ sym (right false k)

-- ---- what is kept

sooner_swapped : (o : Option Finding) (a b : Finding) → sooner (sooner o a) b ≡ sooner (sooner o b) a
sooner_swapped None a b = sooner_is a b ∙ ap (λ x. Some x) (either_way a b) ∙ sym (sooner_is b a)
sooner_swapped (Some c) a b =
    ap (λ o. sooner o b) (sooner_is c a) ∙ sooner_is (least c a) b ∙ ap (λ x. Some x) (swapped c a b)
    ∙ sym (sooner_is (least c b) a) ∙ ap (λ o. sooner o a) (sym (sooner_is c b))

one_later : (o : Option Finding) (a : Finding) (ys : List Finding) → kept (sooner o a) ys ≡ sooner (kept o ys) a
one_later o a [] = refl
one_later o a (y ∷ ys) = ap (λ m. kept m ys) (sooner_swapped o a y) ∙ one_later (sooner o y) a ys

-- the order of two lists does not matter
pub kept-swap : (o : Option Finding) (xs ys : List Finding) → kept (kept o xs) ys ≡ kept (kept o ys) xs
kept-swap o [] ys = refl
kept-swap o (x ∷ xs) ys = kept-swap (sooner o x) xs ys ∙ ap (λ m. kept m xs) (one_later o x ys)

-- what is kept of a list is what is reported of it
kept_earlier : (a : Finding) (fs : List Finding) → kept (Some a) fs ≡ earlier_of a (first_in fs)
kept_earlier a [] = refl
kept_earlier a (f ∷ fs) = ap (λ o. kept o fs) (sooner_is a f) ∙ kept_earlier (least a f) fs ∙ go (first_in fs)
  where
    go : (o : Option Finding) → earlier_of (least a f) o ≡ earlier_of a (earlier_of f o)
    go None = sym (sooner_is a f)
    go (Some x) =
        sooner_is (least a f) x ∙ ap (λ z. Some z) (ap (λ m. least m x) (either_way a f) ∙ swapped f a x ∙ either_way (least f x) a)
        ∙ sym (sooner_is a (least f x)) ∙ ap (earlier_of a) (sym (sooner_is f x))

pub kept_first : (fs : List Finding) → kept None fs ≡ first_in fs
kept_first [] = refl
kept_first (f ∷ fs) = kept_earlier f fs

-- ---- site by site, or refusal by refusal

module _ {X : Type 0} where
  pub site_by_site : (o : Option Finding) (f g : X → List Finding) (xs : List X)
      → kept o (flat_map (λ x. f x ++ g x) xs) ≡ kept o (flat_map f xs ++ flat_map g xs)
  site_by_site o f g [] = refl
  site_by_site o f g (x ∷ xs) =
      kept-append o (f x ++ g x) (flat_map (λ y. f y ++ g y) xs)
      ∙ ap (λ m. kept m (flat_map (λ y. f y ++ g y) xs)) (kept-append o (f x) (g x))
      ∙ site_by_site (kept (kept o (f x)) (g x)) f g xs
      ∙ kept-append (kept (kept o (f x)) (g x)) (flat_map f xs) (flat_map g xs)
      ∙ ap (λ m. kept m (flat_map g xs)) (kept-swap (kept o (f x)) (g x) (flat_map f xs))
      ∙ sym (kept-append (kept (kept o (f x)) (flat_map f xs)) (g x) (flat_map g xs))
      ∙ ap (λ m. kept m (g x ++ flat_map g xs)) (sym (kept-append o (f x) (flat_map f xs)))
      ∙ sym (kept-append o (f x ++ flat_map f xs) (g x ++ flat_map g xs))

  pub refused_where : (r : Refusal) (holds : X → Bool) (place : X → ℕ) (xs : List X)
      → flat_map (λ x. refused_if (holds x) r (place x)) xs ≡ refused_at r (places_where holds place xs)
  refused_where r holds place [] = refl
  refused_where r holds place (x ∷ xs) = go (holds x) (refused_where r holds place xs)
    where
      go : (t : Bool) → flat_map (λ y. refused_if (holds y) r (place y)) xs ≡ refused_at r (places_where holds place xs)
          → refused_if t r (place x) ++ flat_map (λ y. refused_if (holds y) r (place y)) xs ≡ refused_at r (map place (cond t (x ∷ filter holds xs) (filter holds xs)))
      go true rest = ap (λ l. record { refusal = r; place = place x } ∷ l) rest
      go false rest = rest

-- ---- the names of a program

pub apart : {X : Type 0} (o : Option Finding) (r : Refusal) (holds : X → Bool) (place : X → ℕ) (g : X → List Finding) (rest : List Finding) (xs : List X)
    → ((m : Option Finding) → kept m (flat_map g xs) ≡ kept m rest)
    → kept o (flat_map (λ x. refused_if (holds x) r (place x) ++ g x) xs) ≡ kept o (refused_at r (places_where holds place xs) ++ rest)
apart o r holds place g rest xs h =
    site_by_site o (λ x. refused_if (holds x) r (place x)) g xs ∙ kept-append o (flat_map (λ x. refused_if (holds x) r (place x)) xs) (flat_map g xs)
    ∙ ap (λ l. kept (kept o l) (flat_map g xs)) (refused_where r holds place xs) ∙ h (kept o (refused_at r (places_where holds place xs)))
    ∙ sym (kept-append o (refused_at r (places_where holds place xs)) rest)

-- the first finding of all names is the first of those in the order of the names
pub names_found : (p : Program) → first_in (refused_names p) ≡ noted (iterators_of p.names) None p.names
names_found p =
    let its = iterators_of p.names in
    let place : Occurrence → ℕ = λ o. o.name.place in
    let outside = refused_at Refusal.IteratorOutside (named (is_outside its) p) in
    let assigned = refused_at Refusal.IteratorAssigned (named is_assigned_iterator p) ++ outside in
    let counts = refused_at Refusal.DimensionCount (named is_miscounted p) ++ assigned in
    let twice = refused_at Refusal.Duplicate (named is_duplicate p) ++ counts in
    let at_last : Occurrence → List Finding = λ o. refused_if (is_outside its o) Refusal.IteratorOutside (place o) in
    let at_assigned : Occurrence → List Finding = λ o. refused_if (is_assigned_iterator o) Refusal.IteratorAssigned (place o) ++ at_last o in
    let at_counts : Occurrence → List Finding = λ o. refused_if (is_miscounted o) Refusal.DimensionCount (place o) ++ at_assigned o in
    let at_twice : Occurrence → List Finding = λ o. refused_if (is_duplicate o) Refusal.Duplicate (place o) ++ at_counts o in
    let a : (m : Option Finding) → kept m (flat_map at_last p.names) ≡ kept m outside = λ m. ap (kept m) (refused_where Refusal.IteratorOutside (is_outside its) place p.names) in
    let b : (m : Option Finding) → kept m (flat_map at_assigned p.names) ≡ kept m assigned = λ m. apart m Refusal.IteratorAssigned is_assigned_iterator place at_last outside p.names a in
    let c : (m : Option Finding) → kept m (flat_map at_counts p.names) ≡ kept m counts = λ m. apart m Refusal.DimensionCount is_miscounted place at_assigned assigned p.names b in
    let d : (m : Option Finding) → kept m (flat_map at_twice p.names) ≡ kept m twice = λ m. apart m Refusal.Duplicate is_duplicate place at_counts counts p.names c in
    sym (apart None Refusal.Unknown is_unknown place at_twice twice p.names d ∙ kept_first (refused_names p))
