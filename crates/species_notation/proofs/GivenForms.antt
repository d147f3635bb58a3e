-- What each turn of the loops over forms, offsets, dimensions and arcs adds.
use Rattle.std.proofs.Common.{◌≡◌, ◌∙◌, ap, sym, subst, refl, ℕ, zero, suc, ◌+◌, ◌<◌, ◌≤◌, List, [], ◌∷◌, ◌++◌, map, length, take, drop, get_or, Option, Some, None, Bool, true, false, All, arith, drop-cons, append_assoc, ℤ, pos}
use Rattle.std.specs.Prelude.{if◌then◌else◌, bytes_eq, nat_eq, ◌||◌, not, option_map, option_and_then, nat_lt, position}
use Rattle.std.specs.List.{list_any}
use Rattle.std.specs.Int.RustNames.{unsigned_abs}
use Rattle.std.proofs.lemmas.Slice.Eq.{bytes_eq-Decides}
use Rattle.std.proofs.lemmas.List.Elements.{All-append}
use Rattle.std.proofs.lemmas.List.Sums.{position_or_len_is}
use Rattle.species_linear.specs.declared.forms.Term.{Term}
use Rattle.species_arcs.specs.declared.spans.Span.{Span}
use Rattle.species_notation.specs.Meaning.{Entry, Sums, coefficient_in, without, put_term, terms_from, each_some, dim_of, dims_of}
use Rattle.species_notation.specs.Written.{name_at}
use Rattle.species_notation.specs.Tables.{left_after}
use Rattle.species_notation.proofs.ArcsBack.{position_at}
use Rattle.species_notation.proofs.Adding.{bytes_sym, item_turn}

-- ---- of equal names the first is meant

same_name : (v w : List ℕ) → bytes_eq v w ≡ true → v ≡ w
same_name v w h = (bytes_eq-Decides v w).0 h

false_true : false ≡ true → ⊥
false_true h = cc

none_there : (b : Bool) → pos 0 ≡ (if b then pos 0 else pos 0)
none_there true = refl
none_there false = refl

coefficient_if : (w : List ℕ) (e : Entry) (es : List Entry) (a : Bool)
    → coefficient_in w (if not a then e ∷ es else es) ≡ (if not a then (if bytes_eq e.0 w then e.1 else coefficient_in w es) else coefficient_in w es)
coefficient_if w e es true = refl
coefficient_if w e es false = refl

-- whether the first of three names is the second, the first the third, and the second the third
chosen_one : (a b c : Bool) (x y z : ℤ) → (a ≡ true → b ≡ true → c ≡ true) → (b ≡ true → c ≡ true → a ≡ true) → y ≡ (if c then pos 0 else z)
    → (if not a then (if b then x else y) else y) ≡ (if c then pos 0 else (if b then x else z))
chosen_one true true true x y z k j n = n
chosen_one true false true x y z k j n = n
chosen_one true true false x y z k j n = absurd (false_true (k refl refl))
chosen_one true false false x y z k j n = n
chosen_one false true true x y z k j n = absurd (false_true (j refl refl))
chosen_one false true false x y z k j n = refl
chosen_one false false true x y z k j n = n
chosen_one false false false x y z k j n = n

without_one : (w v : List ℕ) (es : List Entry) → coefficient_in w (without v es) ≡ (if bytes_eq v w then pos 0 else coefficient_in w es)
without_one w v [] = none_there (bytes_eq v w)
without_one w v (e ∷ es) =
    coefficient_if w e (without v es) (bytes_eq e.0 v)
    ∙ chosen_one (bytes_eq e.0 v) (bytes_eq e.0 w) (bytes_eq v w) e.1 (coefficient_in w (without v es)) (coefficient_in w es)
    (λ x y. (bytes_eq-Decides v w).1 (sym (same_name e.0 v x) ∙ same_name e.0 w y))
    (λ y z. (bytes_eq-Decides e.0 v).1 (same_name e.0 w y ∙ sym (same_name v w z)))
    (without_one w v es)

-- the coefficient of a name behind others
pub first_only : (w : List ℕ) (seen : List (List ℕ)) (es : List Entry)
    → coefficient_in w (left_after seen es) ≡ (if list_any (bytes_eq w) seen then pos 0 else coefficient_in w es)
first_only w [] es = refl
first_only w (v ∷ vs) es = first_only w vs (without v es) ∙ ap (λ c. if list_any (bytes_eq w) vs then pos 0 else c) (without_one w v es) ∙ go (list_any (bytes_eq w) vs) (bytes_eq v w) (bytes_eq w v) (bytes_sym v w)
  where
    go : (a b c : Bool) → b ≡ c → (if a then pos 0 else (if b then pos 0 else coefficient_in w es)) ≡ (if c || a then pos 0 else coefficient_in w es)
    go true true true h = refl
    go true true false h = cc
    go true false true h = cc
    go true false false h = refl
    go false true true h = refl
    go false true false h = cc
    go false false true h = cc
    go false false false h = refl

pub seen_before : (w : List ℕ) (seen : List (List ℕ)) (es : List Entry) → list_any (bytes_eq w) seen ≡ true → pos 0 ≡ coefficient_in w (left_after seen es)
seen_before w seen es h = sym (first_only w seen es ∙ ap (λ b. if b then pos 0 else coefficient_in w es) h)

pub seen_first : (w : List ℕ) (seen : List (List ℕ)) (es : List Entry) (z : ℤ) → list_any (bytes_eq w) seen ≡ false → z ≡ coefficient_in w es
    → z ≡ coefficient_in w (left_after seen es)
seen_first w seen es z h is = is ∙ sym (first_only w seen es ∙ ap (λ b. if b then pos 0 else coefficient_in w es) h)

pub left_one : (seen : List (List ℕ)) (w : List ℕ) (es : List Entry) → left_after (seen ++ w ∷ []) es ≡ without w (left_after seen es)
left_one [] w es = refl
left_one (v ∷ vs) w es = left_one vs w (without v es)

-- ---- the terms of a form

pub put_front : (k : ℕ) (c : ℤ) (ts : List Term) → put_term k c ts ≡ put_term k c [] ++ ts
put_front k c ts = go (nat_eq (unsigned_abs c) 0)
  where
    go : (b : Bool) → (if b then ts else record { level = k; coefficient = c } ∷ ts) ≡ (if b then [] else record { level = k; coefficient = c } ∷ []) ++ ts
    go true = refl
    go false = refl

-- what stands at a place is the name there
pub named : (names : List (List ℕ)) (i : ℕ) (x : List ℕ) → i < length names → x ≡ get_or names i x → x ≡ name_at names i
named [] i x lt h = let x : ⊥ = omega (arith, lt) in absurd x
named (w ∷ ws) zero x lt h = h
named (w ∷ ws) (suc i) x lt h = named ws i x (omega (arith, lt)) h

name_here : (iters : List (List ℕ)) (i : ℕ) → i < length iters → drop i iters ≡ name_at iters i ∷ drop (suc i) iters
name_here iters i lt = drop-cons iters i [] lt

taken_next : (iters : List (List ℕ)) (i : ℕ) → i < length iters → take (suc i) iters ≡ take i iters ++ name_at iters i ∷ []
taken_next [] i lt = let x : ⊥ = omega (arith, lt) in absurd x
taken_next (w ∷ ws) zero lt = refl
taken_next (w ∷ ws) (suc i) lt = ap (λ l. w ∷ l) (taken_next ws i (omega (arith, lt)))

-- a level more
pub terms_turn : (iters : List (List ℕ)) (i : ℕ) (es : List Entry) (all terms new : List Term) → i < length iters
    → all ≡ terms ++ terms_from i (drop i iters) (left_after (take i iters) es)
    → new ≡ terms ++ put_term i (coefficient_in (name_at iters i) (left_after (take i iters) es)) []
    → all ≡ new ++ terms_from (suc i) (drop (suc i) iters) (left_after (take (suc i) iters) es)
terms_turn iters i es all terms new lt e is =
    let w = name_at iters i in
    let left = left_after (take i iters) es in
    let rest = terms_from (suc i) (drop (suc i) iters) (without w left) in
    e ∙ ap (λ l. terms ++ terms_from i l left) (name_here iters i lt)
    ∙ ap (λ l. terms ++ l) (put_front i (coefficient_in w left) rest)
    ∙ sym (append_assoc terms (put_term i (coefficient_in w left) []) rest)
    ∙ ap (λ l. l ++ rest) (sym is)
    ∙ ap (λ l. new ++ terms_from (suc i) (drop (suc i) iters) l) (sym (ap (λ l. left_after l es) (taken_next iters i lt) ∙ left_one (take i iters) w es))

-- the same, with the next level by its sum
pub terms_next : (iters : List (List ℕ)) (i : ℕ) (es : List Entry) (all terms new : List Term) → i < length iters
    → all ≡ terms ++ terms_from i (drop i iters) (left_after (take i iters) es)
    → new ≡ terms ++ put_term i (coefficient_in (name_at iters i) (left_after (take i iters) es)) []
    → all ≡ new ++ terms_from (i + 1) (drop (i + 1) iters) (left_after (take (i + 1) iters) es)
terms_next iters i es all terms new lt e is =
    let next : suc i ≡ i + 1 = omega arith in
    subst (λ j. all ≡ new ++ terms_from j (drop j iters) (left_after (take j iters) es)) next (terms_turn iters i es all terms new lt e is)

term_below : (i : ℕ) (c : ℤ) → All (λ (t : Term). t.level < i + 1) (put_term i c [])
term_below i c = go (nat_eq (unsigned_abs c) 0)
  where
    go : (b : Bool) → All (λ (t : Term). t.level < i + 1) (if b then [] else record { level = i; coefficient = c } ∷ [])
    go true k d lt = let x : ⊥ = omega (arith, lt) in absurd x
    go false zero d lt = omega arith
    go false (suc k) d lt = let x : ⊥ = omega (arith, lt) in absurd x

-- the levels of the terms so far are below the next one
pub below_next : (terms new : List Term) (i : ℕ) (c : ℤ) → All (λ (t : Term). t.level < i) terms → new ≡ terms ++ put_term i c [] → All (λ (t : Term). t.level < i + 1) new
below_next terms new i c h e =
    subst (All (λ (t : Term). t.level < i + 1)) (sym e)
    (All-append (λ (t : Term). t.level < i + 1) terms (put_term i c []) (λ k d lt. omega (arith, h k d lt)) (term_below i c))

-- ---- an answer for each

abbrev pub behind_all : {B : Type 0} → List B → Option (List B) → Option (List B)
behind_all ys o = option_map (λ zs. ys ++ zs) o

one_more : {B : Type 0} (ys : List B) (y : B) (o : Option (List B)) → behind_all ys (option_map (λ zs. y ∷ zs) o) ≡ behind_all (ys ++ y ∷ []) o
one_more ys y None = refl
one_more ys y (Some zs) = ap Some (sym (append_assoc ys (y ∷ []) zs))

pub each_turn : {A B : Type 0} (f : A → Option B) (xs : List A) (i : ℕ) (x : A) (y : B) (all : Option (List B)) (ys new : List B)
    → i < length xs → x ≡ get_or xs i x → all ≡ behind_all ys (each_some f (drop i xs)) → f x ≡ Some y → new ≡ ys ++ y ∷ []
    → all ≡ behind_all new (each_some f (drop (suc i) xs))
each_turn f xs i x y all ys new lt is e h n =
    e ∙ ap (λ l. behind_all ys (each_some f l)) (item_turn xs i x lt is)
    ∙ ap (λ o. behind_all ys (option_and_then (λ y. option_map (λ zs. y ∷ zs) (each_some f (drop (suc i) xs))) o)) h
    ∙ one_more ys y (each_some f (drop (suc i) xs))
    ∙ ap (λ l. behind_all l (each_some f (drop (suc i) xs))) (sym n)

-- ---- dimensions

pub dims_apart : (iters : List (List ℕ)) (ss : List Sums) (os : List Span) → (length ss ≡ length os → ⊥) → dims_of iters ss os ≡ None
dims_apart iters [] [] h = absurd (h refl)
dims_apart iters [] (o ∷ os) h = refl
dims_apart iters (s ∷ ss) [] h = refl
dims_apart iters (s ∷ ss) (o ∷ os) h = ap (option_map (λ ds. dim_of iters s o ∷ ds)) (dims_apart iters ss os (λ e. h (ap suc e)))

-- ---- one place in each dimension

abbrev pub no_offsets : (A B : Type 0) → List A → List (Option B)
no_offsets A B xs = map (λ x. None) xs

no_offset_here : (A B : Type 0) (xs : List A) (i : ℕ) → i < length xs → no_offsets A B (drop i xs) ≡ None ∷ no_offsets A B (drop (suc i) xs)
no_offset_here A B [] i lt = let x : ⊥ = omega (arith, lt) in absurd x
no_offset_here A B (x ∷ xs) zero lt = refl
no_offset_here A B (x ∷ xs) (suc i) lt = no_offset_here A B xs i (omega (arith, lt))

pub singles_turn : (A B : Type 0) {C : Type 0} (f : Option B → Option C) (xs : List A) (i : ℕ) (y : C) (all : Option (List C)) (ys new : List C)
    → i < length xs → all ≡ behind_all ys (each_some f (no_offsets A B (drop i xs))) → f None ≡ Some y → new ≡ ys ++ y ∷ []
    → all ≡ behind_all new (each_some f (no_offsets A B (drop (i + 1) xs)))
singles_turn A B f xs i y all ys new lt e h n =
    let next : suc i ≡ i + 1 = omega arith in
    e ∙ ap (λ l. behind_all ys (each_some f l)) (no_offset_here A B xs i lt)
    ∙ ap (λ o. behind_all ys (option_and_then (λ y. option_map (λ zs. y ∷ zs) (each_some f (no_offsets A B (drop (suc i) xs)))) o)) h
    ∙ one_more ys y (each_some f (no_offsets A B (drop (suc i) xs)))
    ∙ ap (λ l. behind_all l (each_some f (no_offsets A B (drop (suc i) xs)))) (sym n)
    ∙ ap (λ j. behind_all new (each_some f (no_offsets A B (drop j xs)))) next

-- ---- the first place of a name

pub place_found : (w : List ℕ) (ws : List (List ℕ)) (k : ℕ) → k < length ws → ((i : ℕ) → i < k → bytes_eq w (name_at ws i) ≡ false)
    → bytes_eq w (name_at ws k) ≡ true → position (bytes_eq w) ws ≡ Some k
place_found w ws k lt n h = position_at w ws k lt (sym (same_name w (name_at ws k) h)) n

pub place_missing : (w : List ℕ) (ws : List (List ℕ)) (k : ℕ) → length ws ≤ k → ((i : ℕ) → i < k → bytes_eq w (name_at ws i) ≡ false)
    → position (bytes_eq w) ws ≡ None
place_missing w ws k le n =
    let place = position_or_len_is (bytes_eq w) ws (length ws) [] (omega arith) (λ i l. n i (omega (arith, l, le))) (λ l. absurd (omega (arith, l))) in
    ap (λ i. if nat_lt i (length ws) then Some i else None) place ∙ ap (λ b. if b then Some (length ws) else None) (never_below (length ws))
  where
    never_below : (m : ℕ) → nat_lt m m ≡ false
    never_below m = grind arith
