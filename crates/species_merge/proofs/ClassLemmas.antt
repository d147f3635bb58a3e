-- Which references are alike, and that each is in some class.
use Rattle.std.proofs.Common.{◌≡◌, ◌≢◌, ◌⊎◌, inl, inr, ◌∙◌, refl, ap, sym, subst, arith, ℕ, Bool, true, false, ◌&&◌, ◌||◌, nat_eq, if◌then◌else◌, List, [], ◌∷◌, ◌++◌, length, map, filter, ℤ}
use Rattle.std.specs.List.{list_any}
use Rattle.std.specs.Bool.{Decides}
use Rattle.std.specs.Ordering.{int_eq}
use Rattle.std.proofs.lemmas.Bool.Decides.{Decides-int_eq, Decides-eqb, Decides-and, Decides-like}
use Rattle.species_affine.specs.declared.subscript.Subscript.{Subscript}
use Rattle.species_arcs.specs.declared.places.Dir.{Dir}
use Rattle.species_arcs.specs.declared.places.Dir.TheVariants as dir
use Rattle.species_arcs.specs.declared.spans.Span.{Span}
use Rattle.species_linear.specs.declared.forms.Term.{Term}
use Rattle.species_references.specs.declared.nest.Reference.{Reference}
use Rattle.species_merge.specs.Classes.{terms_of, terms_below, same_terms, same_front, same_fronts, same_direction, are_alike, Class, members, class_of, classes_behind, classes_of}
use Rattle.species_merge.proofs.Folding.{Each, Has}

-- ---- alike is an equality of three things

direction_decides : (c d : Dir) → Decides (same_direction c d) (c ≡ d)
direction_decides dir.Read dir.Read = ((λ t. refl), (λ e. refl))
direction_decides dir.Read dir.Write = ((λ t. absurd (cc t)), (λ e. absurd (cc e)))
direction_decides dir.Read dir.Add = ((λ t. absurd (cc t)), (λ e. absurd (cc e)))
direction_decides dir.Write dir.Read = ((λ t. absurd (cc t)), (λ e. absurd (cc e)))
direction_decides dir.Write dir.Write = ((λ t. refl), (λ e. refl))
direction_decides dir.Write dir.Add = ((λ t. absurd (cc t)), (λ e. absurd (cc e)))
direction_decides dir.Add dir.Read = ((λ t. absurd (cc t)), (λ e. absurd (cc e)))
direction_decides dir.Add dir.Write = ((λ t. absurd (cc t)), (λ e. absurd (cc e)))
direction_decides dir.Add dir.Add = ((λ t. refl), (λ e. refl))

cons_same : {X : Type 0} (x y : X) (xs ys : List X) → (x ≡ y) × (xs ≡ ys) → x ∷ xs ≡ y ∷ ys
cons_same x y xs ys h = ap (λ z. z ∷ xs) h.0 ∙ ap (λ zs. y ∷ zs) h.1

cons_parts : {X : Type 0} (x y : X) (xs ys : List X) → x ∷ xs ≡ y ∷ ys → (x ≡ y) × (xs ≡ ys)
cons_parts x y xs ys e = (cc, cc)

abbrev term : ℕ → ℤ → Term
term level coefficient = record { level = level; coefficient = coefficient }

terms_whole : (t u : Term) (ts us : List Term) → (t.level ≡ u.level) × ((t.coefficient ≡ u.coefficient) × (ts ≡ us)) → t ∷ ts ≡ u ∷ us
terms_whole t u ts us h =
    let first : t ≡ u = ap (λ x. term x t.coefficient) h.0 ∙ ap (term u.level) h.1.0 in
    cons_same t u ts us (first, h.1.1)

terms_parts : (t u : Term) (ts us : List Term) → t ∷ ts ≡ u ∷ us → (t.level ≡ u.level) × ((t.coefficient ≡ u.coefficient) × (ts ≡ us))
terms_parts t u ts us e =
    let parts = cons_parts t u ts us e in
    (ap (λ x. x.level) parts.0, (ap (λ x. x.coefficient) parts.0, parts.1))

pub terms_decide : (ts us : List Term) → Decides (same_terms ts us) (ts ≡ us)
terms_decide [] [] = ((λ t. refl), (λ e. refl))
terms_decide [] (u ∷ us) = ((λ t. absurd (cc t)), (λ e. absurd (cc e)))
terms_decide (t ∷ ts) [] = ((λ t. absurd (cc t)), (λ e. absurd (cc e)))
terms_decide (t ∷ ts) (u ∷ us) =
    Decides-like (nat_eq t.level u.level && (int_eq t.coefficient u.coefficient && same_terms ts us)) (terms_whole t u ts us) (terms_parts t u ts us)
    (Decides-and (nat_eq t.level u.level) (int_eq t.coefficient u.coefficient && same_terms ts us) (Decides-eqb t.level u.level)
    (Decides-and (int_eq t.coefficient u.coefficient) (same_terms ts us) (Decides-int_eq t.coefficient u.coefficient) (terms_decide ts us)))

-- the terms of the iterators below `top`, dimension by dimension
abbrev pub fronts : ℕ → List Subscript → List (List Term)
fronts top [] = []
fronts top (s ∷ ss) = terms_below top (terms_of s) ∷ fronts top ss

fronts_decide : (top : ℕ) (ss qs : List Subscript) → Decides (same_fronts top ss qs) (fronts top ss ≡ fronts top qs)
fronts_decide top [] [] = ((λ t. refl), (λ e. refl))
fronts_decide top [] (q ∷ qs) = ((λ t. absurd (cc t)), (λ e. absurd (cc e)))
fronts_decide top (s ∷ ss) [] = ((λ t. absurd (cc t)), (λ e. absurd (cc e)))
fronts_decide top (s ∷ ss) (q ∷ qs) =
    let x = terms_below top (terms_of s) in
    let y = terms_below top (terms_of q) in
    Decides-like (same_front top s q && same_fronts top ss qs) (cons_same x y (fronts top ss) (fronts top qs)) (cons_parts x y (fronts top ss) (fronts top qs))
    (Decides-and (same_front top s q) (same_fronts top ss qs) (terms_decide x y) (fronts_decide top ss qs))

abbrev pub AreAlike : ℕ → Reference → Reference → Type 0
AreAlike top r q = (r.array ≡ q.array) × ((r.dir ≡ q.dir) × (fronts top r.subs ≡ fronts top q.subs))

pub alike_decides : (top : ℕ) (r q : Reference) → Decides (are_alike top r q) (AreAlike top r q)
alike_decides top r q =
    Decides-and (nat_eq r.array q.array) (same_direction r.dir q.dir && same_fronts top r.subs q.subs) (Decides-eqb r.array q.array)
    (Decides-and (same_direction r.dir q.dir) (same_fronts top r.subs q.subs) (direction_decides r.dir q.dir) (fronts_decide top r.subs q.subs))

pub alike_turned : (top : ℕ) (r q : Reference) → are_alike top r q ≡ true → are_alike top q r ≡ true
alike_turned top r q h =
    let e = (alike_decides top r q).0 h in (alike_decides top q r).1 (sym e.0, (sym e.1.0, sym e.1.1))

pub alike_through : (top : ℕ) (r q s : Reference) → are_alike top r q ≡ true → are_alike top q s ≡ true → are_alike top r s ≡ true
alike_through top r q s h k =
    let e = (alike_decides top r q).0 h in
    let f = (alike_decides top q s).0 k in
    (alike_decides top r s).1 (e.0 ∙ f.0, (e.1.0 ∙ f.1.0, e.1.1 ∙ f.1.1))

-- ---- some and each

pub has_more : {X : Type 0} (P Q : X → Type 0) (xs : List X) → ((x : X) → P x → Q x) → Has P xs → Has Q xs
has_more P Q [] f h = absurd h
has_more P Q (x ∷ xs) f (inl h) = inl (f x h)
has_more P Q (x ∷ xs) f (inr h) = inr (has_more P Q xs f h)

pub has_with : {X : Type 0} (P Q R : X → Type 0) (xs : List X) → ((x : X) → P x → Q x → R x) → Has P xs → Each Q xs → Has R xs
has_with P Q R [] f h e = absurd h
has_with P Q R (x ∷ xs) f (inl h) e = inl (f x h e.0)
has_with P Q R (x ∷ xs) f (inr h) e = inr (has_with P Q R xs f h e.1)

pub has_map : {X Y : Type 0} (P : Y → Type 0) (g : X → Y) (xs : List X) → Has (λ x. P (g x)) xs → Has P (map g xs)
has_map P g [] h = absurd h
has_map P g (x ∷ xs) (inl h) = inl h
has_map P g (x ∷ xs) (inr h) = inr (has_map P g xs h)

pub has_unmap : {X Y : Type 0} (P : Y → Type 0) (g : X → Y) (xs : List X) → Has P (map g xs) → Has (λ x. P (g x)) xs
has_unmap P g [] h = absurd h
has_unmap P g (x ∷ xs) (inl h) = inl h
has_unmap P g (x ∷ xs) (inr h) = inr (has_unmap P g xs h)

pub each_more : {X : Type 0} (P Q : X → Type 0) (xs : List X) → ((x : X) → P x → Q x) → Each P xs → Each Q xs
each_more P Q [] f h = tt
each_more P Q (x ∷ xs) f h = (f x h.0, each_more P Q xs f h.1)

pub each_both : {X : Type 0} (P Q : X → Type 0) (xs : List X) → Each P xs → Each Q xs → Each (λ x. P x × Q x) xs
each_both P Q [] g h = tt
each_both P Q (x ∷ xs) g h = ((g.0, h.0), each_both P Q xs g.1 h.1)

has_filter : {X : Type 0} (P : X → Type 0) (test : X → Bool) (xs : List X) → Has (λ x. P x × (test x ≡ true)) xs → Has P (filter test xs)
has_filter P test [] h = absurd h
has_filter P test (x ∷ xs) (inl h) = rw h.1 (inl h.0)
has_filter P test (x ∷ xs) (inr h) = go (test x) (has_filter P test xs h)
  where
    go : (t : Bool) → Has P (filter test xs) → Has P (if t then x ∷ filter test xs else filter test xs)
    go true rest = inr rest
    go false rest = rest

pub each_filter : {X : Type 0} (P : X → Type 0) (test : X → Bool) (xs : List X) → Each P xs → Each P (filter test xs)
each_filter P test [] h = tt
each_filter P test (x ∷ xs) h = go (test x) (each_filter P test xs h.1)
  where
    go : (t : Bool) → Each P (filter test xs) → Each P (if t then x ∷ filter test xs else filter test xs)
    go true rest = (h.0, rest)
    go false rest = rest

each_passes : {X : Type 0} (test : X → Bool) (xs : List X) → Each (λ x. test x ≡ true) (filter test xs)
each_passes test [] = tt
each_passes test (x ∷ xs) = go (test x) refl (each_passes test xs)
  where
    go : (t : Bool) → test x ≡ t → Each (λ x. test x ≡ true) (filter test xs) → Each (λ x. test x ≡ true) (if t then x ∷ filter test xs else filter test xs)
    go true is rest = (is, rest)
    go false is rest = rest

-- ---- members

-- a fact of all references is one of all members
each_member_behind : (P : Reference → Type 0) (top : ℕ) (before rs : List Reference) → Each P rs → Each (λ c. Each P (members c)) (classes_behind top before rs)
each_member_behind P top before [] h = tt
each_member_behind P top before (r ∷ rs) h = go (list_any (are_alike top r) before) (each_member_behind P top (before ++ r ∷ []) rs h.1)
  where
    go : (t : Bool) → Each (λ c. Each P (members c)) (classes_behind top (before ++ r ∷ []) rs)
        → Each (λ c. Each P (members c)) (if t then classes_behind top (before ++ r ∷ []) rs else class_of top r rs ∷ classes_behind top (before ++ r ∷ []) rs)
    go true rest = rest
    go false rest = ((h.0, each_filter P (are_alike top r) rs h.1), rest)

pub each_member : (P : Reference → Type 0) (top : ℕ) (rs : List Reference) → Each P rs → Each (λ c. Each P (members c)) (classes_of top rs)
each_member P top rs h = each_member_behind P top [] rs h

-- each member is alike to the first
each_alike_behind : (top : ℕ) (before rs : List Reference) → Each (λ c. Each (AreAlike top c.first) (members c)) (classes_behind top before rs)
each_alike_behind top before [] = tt
each_alike_behind top before (r ∷ rs) = go (list_any (are_alike top r) before) (each_alike_behind top (before ++ r ∷ []) rs)
  where
    go : (t : Bool) → Each (λ c. Each (AreAlike top c.first) (members c)) (classes_behind top (before ++ r ∷ []) rs)
        → Each (λ c. Each (AreAlike top c.first) (members c)) (if t then classes_behind top (before ++ r ∷ []) rs else class_of top r rs ∷ classes_behind top (before ++ r ∷ []) rs)
    go true rest = rest
    go false rest =
        (((refl, (refl, refl)), each_more (λ q. are_alike top r q ≡ true) (AreAlike top r) (filter (are_alike top r) rs) (λ q t. (alike_decides top r q).0 t) (each_passes (are_alike top r) rs)), rest)

pub each_alike : (top : ℕ) (rs : List Reference) → Each (λ c. Each (AreAlike top c.first) (members c)) (classes_of top rs)
each_alike top rs = each_alike_behind top [] rs

-- ---- each reference is in a class

any_of_front : (f : Reference → Bool) (before : List Reference) (r : Reference) → list_any f (before ++ r ∷ []) ≡ true → (list_any f before ≡ true) ⊎ (f r ≡ true)
any_of_front f [] r h = inr (last (f r) h)
  where
    last : (t : Bool) → (t || false) ≡ true → t ≡ true
    last true e = refl
    last false e = absurd (cc e)
any_of_front f (q ∷ before) r h = go (f q) h (any_of_front f before r)
  where
    go : (t : Bool) → (t || list_any f (before ++ r ∷ [])) ≡ true → (list_any f (before ++ r ∷ []) ≡ true → (list_any f before ≡ true) ⊎ (f r ≡ true))
        → ((t || list_any f before) ≡ true) ⊎ (f r ≡ true)
    go true e rest = inl refl
    go false e rest = rest e

-- two alike references are alike to the same ones
any_alike : (top : ℕ) (r q : Reference) (before : List Reference) → are_alike top q r ≡ true → list_any (are_alike top r) before ≡ true → list_any (are_alike top q) before ≡ true
any_alike top r q [] h k = absurd (cc k)
any_alike top r q (s ∷ before) h k = go (are_alike top r s) refl k (any_alike top r q before h)
  where
    hold : (t : Bool) → list_any (are_alike top q) before ≡ true → (t || list_any (are_alike top q) before) ≡ true
    hold true e = refl
    hold false e = e

    go : (t : Bool) → are_alike top r s ≡ t → (t || list_any (are_alike top r) before) ≡ true
        → (list_any (are_alike top r) before ≡ true → list_any (are_alike top q) before ≡ true) → (are_alike top q s || list_any (are_alike top q) before) ≡ true
    go true e k rest = rw (alike_through top q r s h e) refl
    go false e k rest = hold (are_alike top q s) (rest k)

abbrev pub InClass : Reference → Class → Type 0
InClass r c = Has (λ q. q ≡ r) (members c)

-- a reference behind others is in a class, if it is alike to none of them
in_class_behind : (top : ℕ) (before rs : List Reference) (r : Reference) → Has (λ q. q ≡ r) rs
    → (list_any (are_alike top r) before ≡ true) ⊎ Has (InClass r) (classes_behind top before rs)
in_class_behind top before [] r h = absurd h
in_class_behind top before (q ∷ rs) r (inl e) = subst (λ x. (list_any (are_alike top x) before ≡ true) ⊎ Has (InClass x) (classes_behind top before (q ∷ rs))) e (go (list_any (are_alike top q) before) refl)
  where
    go : (t : Bool) → list_any (are_alike top q) before ≡ t
        → (t ≡ true) ⊎ Has (InClass q) (if t then classes_behind top (before ++ q ∷ []) rs else class_of top q rs ∷ classes_behind top (before ++ q ∷ []) rs)
    go true is = inl refl
    go false is = inr (inl (inl refl))
in_class_behind top before (q ∷ rs) r (inr h) = go (list_any (are_alike top q) before) refl (in_class_behind top (before ++ q ∷ []) rs r h)
  where
    own : are_alike top r q ≡ true → InClass r (class_of top q rs)
    own k = inr (has_filter (λ x. x ≡ r) (are_alike top q) rs (has_more (λ x. x ≡ r) (λ x. (x ≡ r) × (are_alike top q x ≡ true)) rs
        (λ x e. (e, subst (λ y. are_alike top q y ≡ true) (sym e) (alike_turned top r q k))) h))

    go : (t : Bool) → list_any (are_alike top q) before ≡ t → (list_any (are_alike top r) (before ++ q ∷ []) ≡ true) ⊎ Has (InClass r) (classes_behind top (before ++ q ∷ []) rs)
        → (list_any (are_alike top r) before ≡ true) ⊎ Has (InClass r) (if t then classes_behind top (before ++ q ∷ []) rs else class_of top q rs ∷ classes_behind top (before ++ q ∷ []) rs)
    go true is (inr g) = inr g
    go false is (inr g) = inr (inr g)
    go true is (inl g) = elim (any_of_front (are_alike top r) before q g) [
      | inl k ↦ inl k
      | inr k ↦ inl (any_alike top q r before k is)
    ]
    go false is (inl g) = elim (any_of_front (are_alike top r) before q g) [
      | inl k ↦ inl k
      | inr k ↦ inr (inl (own k))
    ]

pub in_class : (top : ℕ) (rs : List Reference) (r : Reference) → Has (λ q. q ≡ r) rs → Has (InClass r) (classes_of top rs)
in_class top rs r h = elim (in_class_behind top [] rs r h) [ inl k ↦ absurd (cc k) | inr k ↦ k ]

-- ---- equality of terms as code tells it

pub same_term : (t u : Term) → Decides (nat_eq t.level u.level && int_eq t.coefficient u.coefficient) (t ≡ u)
same_term t u =
    Decides-like (nat_eq t.level u.level && int_eq t.coefficient u.coefficient) (λ h. ap (λ x. term x t.coefficient) h.0 ∙ ap (term u.level) h.1)
    (λ e. (ap (λ x. x.level) e, ap (λ x. x.coefficient) e))
    (Decides-and (nat_eq t.level u.level) (int_eq t.coefficient u.coefficient) (Decides-eqb t.level u.level) (Decides-int_eq t.coefficient u.coefficient))

-- two tests that decide the same are equal
pub same_tests : {P : Type 0} (a b : Bool) → Decides a P → Decides b P → a ≡ b
same_tests true true h k = refl
same_tests false false h k = refl
same_tests true false h k = absurd (cc (k.1 (h.0 refl)))
same_tests false true h k = absurd (cc (h.1 (k.0 refl)))

-- lists of different lengths have no equal fronts
pub fronts_apart : (top : ℕ) (ss qs : List Subscript) → length ss ≢ length qs → false ≡ same_fronts top ss qs
fronts_apart top [] [] n = absurd (n refl)
fronts_apart top [] (q ∷ qs) n = refl
fronts_apart top (s ∷ ss) [] n = refl
fronts_apart top (s ∷ ss) (q ∷ qs) n = go (same_front top s q) (fronts_apart top ss qs (λ e. n (omega (arith, e))))
  where
    go : (b : Bool) → false ≡ same_fronts top ss qs → false ≡ (b && same_fronts top ss qs)
    go true e = e
    go false e = refl

abbrev span : ℤ → ℤ → ℕ → Span
span low high stride = record { low = low; high = high; stride = stride }

pub same_span : (x y : Span) → Decides (int_eq x.low y.low && (int_eq x.high y.high && nat_eq x.stride y.stride)) (x ≡ y)
same_span x y =
    Decides-like (int_eq x.low y.low && (int_eq x.high y.high && nat_eq x.stride y.stride))
    (λ h. ap (λ z. span z x.high x.stride) h.0 ∙ (ap (λ z. span y.low z x.stride) h.1.0 ∙ ap (span y.low y.high) h.1.1))
    (λ e. (ap (λ z. z.low) e, (ap (λ z. z.high) e, ap (λ z. z.stride) e)))
    (Decides-and (int_eq x.low y.low) (int_eq x.high y.high && nat_eq x.stride y.stride) (Decides-int_eq x.low y.low)
    (Decides-and (int_eq x.high y.high) (nat_eq x.stride y.stride) (Decides-int_eq x.high y.high) (Decides-eqb x.stride y.stride)))
