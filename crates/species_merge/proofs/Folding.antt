-- The hull of spans, found span by span.
use Rattle.std.proofs.Common.{◌≡◌, ◌≢◌, refl, sym, subst, arith, ℕ, zero, suc, ◌<◌, List, [], ◌∷◌, ◌++◌, length, slice_index_or, All, ℤ, ◌-ℤ◌, ◌≤ℤ◌, ◌⊎◌, inl, inr, Bool, true, false, if◌then◌else◌}
use Rattle.std.specs.List.{Any}
use Rattle.std.specs.Int.{◌∣◌}
use Rattle.std.specs.Int.RustNames.{unsigned_abs}
use Rattle.std.specs.Ordering.{int_eq}
use Rattle.std.proofs.lemmas.Int.{ints}
use Rattle.std.proofs.lemmas.Bool.Decides.{Decides-int_eq}
use Rattle.species_arcs.specs.declared.spans.Span.{Span}
use Rattle.species_merge.specs.Hulls.{IsGcdOf, own_stride, gaps_of, IsHullOf}
use Rattle.species_merge.specs.Reaches.{IsGcdOfThree}
use Rattle.species_merge.proofs.Divides.{dvd_at, dvd_nothing, dvd_ways, dvd_turned, dvd_through}

-- ---- each and some, by cases

abbrev pub Each : {X : Type 0} → (X → Type 0) → List X → Type 0
Each P [] = Unit {0}
Each P (x ∷ xs) = P x × Each P xs

abbrev pub Has : {X : Type 0} → (X → Type 0) → List X → Type 0
Has P [] = ⊥
Has P (x ∷ xs) = P x ⊎ Has P xs

pub all_of : {X : Type 0} (P : X → Type 0) (xs : List X) → Each P xs → All P xs
all_of P [] h k d l = absurd (omega (arith, l))
all_of P (x ∷ xs) h zero d l = h.0
all_of P (x ∷ xs) h (suc k) d l = all_of P xs h.1 k d (omega (arith, l))

pub each_of : {X : Type 0} (P : X → Type 0) (xs : List X) → All P xs → Each P xs
each_of P [] h = tt
each_of P (x ∷ xs) h = (h 0 x (omega arith), each_of P xs (λ k d l. h (suc k) d (omega (arith, l))))

pub any_of : {X : Type 0} (P : X → Type 0) (xs : List X) → Has P xs → Any P xs
any_of P [] h = absurd h
any_of P (x ∷ xs) (inl h) = (0, x, omega arith, refl, h)
any_of P (x ∷ xs) (inr h) = let rest = any_of P xs h in (suc rest.0, rest.1, omega (arith, rest.2), rest.3, rest.4)

has_at : {X : Type 0} (P : X → Type 0) (xs : List X) (k : ℕ) (y : X) → k < length xs → slice_index_or xs k y ≡ y → P y → Has P xs
has_at P [] k y l e p = absurd (omega (arith, l))
has_at P (x ∷ xs) zero y l e p = inl (subst P (sym e) p)
has_at P (x ∷ xs) (suc k) y l e p = inr (has_at P xs k y (omega (arith, l)) e p)

pub has_of : {X : Type 0} (P : X → Type 0) (xs : List X) → Any P xs → Has P xs
has_of P xs h = has_at P xs h.0 h.1 h.2 h.3 h.4

pub each_join : {X : Type 0} (P : X → Type 0) (xs ys : List X) → Each P xs → Each P ys → Each P (xs ++ ys)
each_join P [] ys h k = k
each_join P (x ∷ xs) ys h k = (h.0, each_join P xs ys h.1 k)

pub each_parts : {X : Type 0} (P : X → Type 0) (xs ys : List X) → Each P (xs ++ ys) → Each P xs × Each P ys
each_parts P [] ys h = (tt, h)
each_parts P (x ∷ xs) ys h = let rest = each_parts P xs ys h.1 in ((h.0, rest.0), rest.1)

-- ---- gaps

abbrev pub DividesAll : ℕ → List ℕ → Type 0
DividesAll d ns = Each (λ n. d ∣ n) ns

abbrev IsGcdBy : List ℕ → ℕ → Type 0
IsGcdBy ns g = DividesAll g ns × ((d : ℕ) → DividesAll d ns → d ∣ g)

abbrev Below : ℤ → List Span → Type 0
Below a xs = Each (λ x. a ≤ℤ x.low) xs

abbrev Above : ℤ → List Span → Type 0
Above b xs = Each (λ x. x.high ≤ℤ b) xs

-- The ends so far, and the greatest common divisor so far, which is 0 for one number.
pub record IsHullSoFar (xs : List Span) (a b : ℤ) (g : ℕ) : Type 0 where
  pub below : Below a xs
  pub least : Has (λ x. x.low ≡ a) xs
  pub above : Above b xs
  pub greatest : Has (λ x. x.high ≡ b) xs
  pub gcd : IsGcdBy (gaps_of a xs) g

-- ---- span by span

below_less : (a b : ℤ) (xs : List Span) → b ≤ℤ a → Below a xs → Below b xs
below_less a b [] h k = tt
below_less a b (x ∷ xs) h k = (omega (arith, ints, h, k.0), below_less a b xs h k.1)

above_more : (a b : ℤ) (xs : List Span) → a ≤ℤ b → Above a xs → Above b xs
above_more a b [] h k = tt
above_more a b (x ∷ xs) h k = (omega (arith, ints, h, k.0), above_more a b xs h k.1)

below_end : (a : ℤ) (xs : List Span) (x : Span) → Below a xs → a ≤ℤ x.low → Below a (xs ++ x ∷ [])
below_end a [] x h k = (k, tt)
below_end a (y ∷ xs) x h k = (h.0, below_end a xs x h.1 k)

above_end : (a : ℤ) (xs : List Span) (x : Span) → Above a xs → x.high ≤ℤ a → Above a (xs ++ x ∷ [])
above_end a [] x h k = (k, tt)
above_end a (y ∷ xs) x h k = (h.0, above_end a xs x h.1 k)

pub has_front : {X : Type 0} (P : X → Type 0) (xs : List X) (x : X) → Has P xs → Has P (xs ++ x ∷ [])
has_front P [] x h = absurd h
has_front P (y ∷ xs) x (inl h) = inl h
has_front P (y ∷ xs) x (inr h) = inr (has_front P xs x h)

pub has_end : {X : Type 0} (P : X → Type 0) (xs : List X) (x : X) → P x → Has P (xs ++ x ∷ [])
has_end P [] x h = inl h
has_end P (y ∷ xs) x h = inr (has_end P xs x h)

-- from one low end to another
gaps_moved : (d : ℕ) (a b : ℤ) (xs : List Span) → d ∣ unsigned_abs (a -ℤ b) → DividesAll d (gaps_of a xs) → DividesAll d (gaps_of b xs)
gaps_moved d a b [] h k = tt
gaps_moved d a b (x ∷ xs) h k = (dvd_ways d x.low a b k.0 h, (k.1.0, gaps_moved d a b xs h k.1.1))

gap_to : (d : ℕ) (a b : ℤ) (xs : List Span) → Has (λ x. x.low ≡ a) xs → DividesAll d (gaps_of b xs) → d ∣ unsigned_abs (a -ℤ b)
gap_to d a b [] h k = absurd h
gap_to d a b (x ∷ xs) (inl h) k = dvd_at d (x.low -ℤ b) (a -ℤ b) (omega (arith, ints, h)) k.0
gap_to d a b (x ∷ xs) (inr h) k = gap_to d a b xs h k.1.1

gaps_end : (d : ℕ) (a : ℤ) (xs : List Span) (x : Span) → DividesAll d (gaps_of a xs) → d ∣ unsigned_abs (x.low -ℤ a) → d ∣ own_stride x → DividesAll d (gaps_of a (xs ++ x ∷ []))
gaps_end d a [] x h p q = (p, (q, tt))
gaps_end d a (y ∷ xs) x h p q = (h.0, (h.1.0, gaps_end d a xs x h.1.1 p q))

gaps_front : (d : ℕ) (a : ℤ) (xs : List Span) (x : Span) → DividesAll d (gaps_of a (xs ++ x ∷ [])) → DividesAll d (gaps_of a xs) × (d ∣ unsigned_abs (x.low -ℤ a)) × (d ∣ own_stride x)
gaps_front d a [] x h = (tt, h.0, h.1.0)
gaps_front d a (y ∷ xs) x h = let rest = gaps_front d a xs x h.1.1 in ((h.0, (h.1.0, rest.0)), rest.1, rest.2)

all_through : (d e : ℕ) (ns : List ℕ) → d ∣ e → DividesAll e ns → DividesAll d ns
all_through d e [] h k = tt
all_through d e (n ∷ ns) h k = (dvd_through d e n h k.0, all_through d e ns h k.1)

pub hull_first : (x : Span) (g : ℕ) → g ∣ own_stride x → ((d : ℕ) → d ∣ own_stride x → d ∣ g) → IsHullSoFar (x ∷ []) x.low x.high g
hull_first x g h k = record {
  below = (omega (arith, ints), tt);
  least = inl refl;
  above = (omega (arith, ints), tt);
  greatest = inl refl;
  gcd = ((dvd_nothing g x.low x.low refl, (h, tt)), (λ d all. k d all.1.0));
}

pub hull_next : (xs : List Span) (x : Span) (a b a' b' : ℤ) (g h : ℕ) → IsHullSoFar xs a b g →
    a' ≤ℤ a → a' ≤ℤ x.low → (a' ≡ a) ⊎ (a' ≡ x.low) → b ≤ℤ b' → x.high ≤ℤ b' → (b' ≡ b) ⊎ (b' ≡ x.high) →
    IsGcdOfThree g (unsigned_abs (x.low -ℤ a)) (own_stride x) h → IsHullSoFar (xs ++ x ∷ []) a' b' h
hull_next xs x a b a' b' g h so p q pq r s rs is = record {
  below = below_end a' xs x (below_less a a' xs p so.below) q;
  least = elim pq [
    | inl e ↦ subst (λ z. Has (λ y. y.low ≡ z) (xs ++ x ∷ [])) (sym e) (has_front (λ y. y.low ≡ a) xs x so.least)
    | inr e ↦ has_end (λ y. y.low ≡ a') xs x (sym e)
  ];
  above = above_end b' xs x (above_more b b' xs r so.above) s;
  greatest = elim rs [
    | inl e ↦ subst (λ z. Has (λ y. y.high ≡ z) (xs ++ x ∷ [])) (sym e) (has_front (λ y. y.high ≡ b) xs x so.greatest)
    | inr e ↦ has_end (λ y. y.high ≡ b') xs x (sym e)
  ];
  gcd = (divides, greatest_one);
}
  where
    -- the new low end is the old one or that of the box
    ahead : (d : ℕ) → d ∣ unsigned_abs (x.low -ℤ a) → d ∣ unsigned_abs (a -ℤ a')
    ahead d k = elim pq [
      | inl e ↦ dvd_nothing d a a' (sym e)
      | inr e ↦ dvd_at d (a -ℤ x.low) (a -ℤ a') (omega (arith, ints, e)) (dvd_turned d x.low a k)
    ]

    divides : DividesAll h (gaps_of a' (xs ++ x ∷ []))
    divides =
        let far = ahead h is.second in
        gaps_end h a' xs x (gaps_moved h a a' xs far (all_through h g (gaps_of a xs) is.first so.gcd.0)) (dvd_ways h x.low a a' is.second far) is.third

    greatest_one : (d : ℕ) → DividesAll d (gaps_of a' (xs ++ x ∷ [])) → d ∣ h
    greatest_one d k =
        let parts = gaps_front d a' xs x k in
        let far = dvd_turned d a a' (gap_to d a a' xs so.least parts.0) in
        is.greatest d (so.gcd.1 d (gaps_moved d a' a xs far parts.0)) (dvd_ways d x.low a' a parts.1 far) parts.2

gcd_of : (ns : List ℕ) (g : ℕ) → IsGcdBy ns g → IsGcdOf ns g
gcd_of ns g h = (all_of (λ n. g ∣ n) ns h.0, (λ d all. h.1 d (each_of (λ n. d ∣ n) ns all)))

pub hull_end : (xs : List Span) (a b : ℤ) (g : ℕ) → IsHullSoFar xs a b g → IsHullOf xs (record { low = a; high = b; stride = if int_eq a b then 1 else g })
hull_end xs a b g so = record {
  below = all_of (λ x. a ≤ℤ x.low) xs so.below;
  least = any_of (λ x. x.low ≡ a) xs so.least;
  above = all_of (λ x. x.high ≤ℤ b) xs so.above;
  greatest = any_of (λ x. x.high ≡ b) xs so.greatest;
  single = one (int_eq a b) refl;
  several = many (int_eq a b) refl;
}
  where
    one : (t : Bool) → int_eq a b ≡ t → a ≡ b → (if t then 1 else g) ≡ 1
    one true is e = refl
    one false is e = absurd (cc ((Decides-int_eq a b).1 e, is))

    many : (t : Bool) → int_eq a b ≡ t → a ≢ b → IsGcdOf (gaps_of a xs) (if t then 1 else g)
    many true is n = absurd (n ((Decides-int_eq a b).0 is))
    many false is n = gcd_of (gaps_of a xs) g so.gcd
