-- Sums in a table: a name looked up, a number added, and the names that are known.
use Rattle.std.proofs.Common.{◌≡◌, ◌∙◌, ap, sym, subst, refl, to_z, of_z, ℕ, zero, suc, ◌+◌, ◌<◌, ◌≤◌, List, [], ◌∷◌, map, length, drop, get_or, Option, Some, None, Bool, true, false, cond, arith, drop-cons, ℤ, pos, ◌+ℤ◌}
use Rattle.std.specs.Prelude.{if◌then◌else◌, bytes_eq, ◌&&◌, slice_get, unwrap_or}
use Rattle.std.specs.List.{list_all, list_any}
use Rattle.std.specs.Int.{w128}
use Rattle.std.specs.Int.RustNames.{unsigned_abs}
use Rattle.std.proofs.lemmas.Bool.{leb-true}
use Rattle.std.proofs.lemmas.Int.{to_z-of_z, fits_signed_from_abs}
use Rattle.std.proofs.lemmas.Slice.Eq.{bytes_eq-Decides}
use Rattle.indexmap.specs.IndexMap.{insert_entry}
use Rattle.std.specs.Map.{lookup}
use Rattle.species_notation.specs.Parts.{most}
use Rattle.species_notation.specs.Meaning.{fits, Entry, Sums, raised, with_product, limited, coefficient_in, is_known}
use Rattle.species_notation.specs.Tables.{Table, entry_seen, sums_seen, IsLimited, fitting}
use Rattle.species_notation.proofs.FormSums.{and_both, zero_plus, AllFit, limited_fits}
use denote.Ref.{Bor}

-- ---- small things

none_some : {A : Type 0} (x : A) → None ≡ Some x → ⊥
none_some x h = cc

some_same : {A : Type 0} (x y : A) → Some x ≡ Some y → x ≡ y
some_same x y h = ap (λ o. unwrap_or o x) h

other_bytes : (v w : List ℕ) → bytes_eq v w ≡ true → bytes_eq w v ≡ false → ⊥
other_bytes v w h k =
    let same : bytes_eq w v ≡ true = (bytes_eq-Decides w v).1 (sym ((bytes_eq-Decides v w).0 h)) in
    both_ways (bytes_eq w v) same k
  where
    both_ways : (b : Bool) → b ≡ true → b ≡ false → ⊥
    both_ways true h k = cc
    both_ways false h k = cc

pub bytes_sym : (v w : List ℕ) → bytes_eq v w ≡ bytes_eq w v
bytes_sym v w = go (bytes_eq v w) (bytes_eq w v) refl refl
  where
    go : (a b : Bool) → bytes_eq v w ≡ a → bytes_eq w v ≡ b → a ≡ b
    go true true h k = refl
    go false false h k = refl
    go true false h k = absurd (other_bytes v w h k)
    go false true h k = absurd (other_bytes w v k h)

-- ---- a name looked up

abbrev Entries : Type 0
Entries = List (Bor (List ℕ) × ℤ)

abbrev sum_in : List ℕ → Entries → ℤ
sum_in w es = coefficient_in w (map entry_seen es)

abbrev found_in : List ℕ → Entries → Option ℤ
found_in w es = lookup (λ k. bytes_eq w k.now) es

looked_up : (w : List ℕ) (es : Entries) → unwrap_or (found_in w es) (pos 0) ≡ sum_in w es
looked_up w [] = refl
looked_up w (e ∷ es) = go (bytes_eq w e.0.now) refl (looked_up w es)
  where
    go : (b : Bool) → bytes_eq w e.0.now ≡ b → unwrap_or (found_in w es) (pos 0) ≡ sum_in w es
        → unwrap_or (cond (bytes_eq w e.0.now) (Some e.1) (found_in w es)) (pos 0) ≡ (if bytes_eq e.0.now w then e.1 else sum_in w es)
    go true h next = ap (λ t. unwrap_or (cond t (Some e.1) (found_in w es)) (pos 0)) h ∙ ap (λ t. if t then e.1 else sum_in w es) (sym (bytes_sym e.0.now w ∙ h))
    go false h next = ap (λ t. unwrap_or (cond t (Some e.1) (found_in w es)) (pos 0)) h ∙ next ∙ ap (λ t. if t then e.1 else sum_in w es) (sym (bytes_sym e.0.now w ∙ h))

pub sum_found : (w : List ℕ) (es : Entries) (z : ℤ) → Some z ≡ found_in w es → z ≡ sum_in w es
sum_found w es z h = ap (λ o. unwrap_or o (pos 0)) h ∙ looked_up w es

pub sum_missing : (w : List ℕ) (es : Entries) → None ≡ found_in w es → pos 0 ≡ sum_in w es
sum_missing w es h = ap (λ o. unwrap_or o (pos 0)) h ∙ looked_up w es

-- ---- no sum is too large

record Fit (s : Sums) : Type 0 where
  constant : fits s.constant ≡ true
  names : AllFit s.names

fit : (s : Sums) → IsLimited s → Fit s
fit s h = go (fits s.constant && list_all (λ e. fits e.1) s.names) refl h
  where
    go : (b : Bool) → (fits s.constant && list_all (λ e. fits e.1) s.names) ≡ b → (if b then Some s else None) ≡ Some s → Fit s
    go true e h = let a = and_both (fits s.constant) (list_all (λ e. fits e.1) s.names) e in record { constant = a.0; names = a.1 }
    go false e h = absurd (none_some s h)

pub fits_small : (z : ℤ) → fits z ≡ true → unsigned_abs z ≤ most
fits_small z h = leb-true (unsigned_abs z) most h

coefficient_fits : (w : List ℕ) (es : List Entry) → AllFit es → fits (coefficient_in w es) ≡ true
coefficient_fits w [] h = refl
coefficient_fits w (e ∷ es) h =
    let a = and_both (fits e.1) (list_all (λ e. fits e.1) es) h in
    go (bytes_eq e.0 w) a.0 (coefficient_fits w es a.1)
  where
    go : (b : Bool) → fits e.1 ≡ true → fits (coefficient_in w es) ≡ true → fits (if b then e.1 else coefficient_in w es) ≡ true
    go true x y = x
    go false x y = y

pub coefficient_small : (w : List ℕ) (s : Sums) → IsLimited s → unsigned_abs (coefficient_in w s.names) ≤ most
coefficient_small w s h = fits_small (coefficient_in w s.names) (coefficient_fits w s.names (fit s h).names)

-- ---- a number added

and_true : (b : Bool) → (b && true) ≡ b
and_true true = refl
and_true false = refl

raised_fits : (w : List ℕ) (c : ℤ) (es : List Entry) → AllFit es → list_all (λ e. fits e.1) (raised w c es) ≡ fits (coefficient_in w es +ℤ c)
raised_fits w c [] h = and_true (fits c) ∙ ap fits (sym (zero_plus c))
raised_fits w c (e ∷ es) h =
    let a = and_both (fits e.1) (list_all (λ e. fits e.1) es) h in
    go (bytes_eq e.0 w) a.0 a.1 (raised_fits w c es a.1)
  where
    go : (b : Bool) → fits e.1 ≡ true → AllFit es → list_all (λ e. fits e.1) (raised w c es) ≡ fits (coefficient_in w es +ℤ c)
        → list_all (λ e. fits e.1) (if b then (e.0, e.1 +ℤ c) ∷ es else e ∷ raised w c es) ≡ fits ((if b then e.1 else coefficient_in w es) +ℤ c)
    go true x y next = ap (λ t. fits (e.1 +ℤ c) && t) y ∙ and_true (fits (e.1 +ℤ c))
    go false x y next = ap (λ t. t && list_all (λ e. fits e.1) (raised w c es)) x ∙ next

fitting_some : (z y : ℤ) → Some y ≡ fitting z → (fits z ≡ true) × (y ≡ z)
fitting_some z y h = go (fits z) refl h
  where
    go : (b : Bool) → fits z ≡ b → Some y ≡ (if b then Some z else None) → (fits z ≡ true) × (y ≡ z)
    go true e h = (e, some_same y z h)
    go false e h = absurd (none_some y (sym h))

-- a sum that fits is the code's number of it
whole_sum : (z y : ℤ) → Some z ≡ fitting y → to_z w128 (of_z w128 z) ≡ z
whole_sum z y h =
    let f = fitting_some y z h in
    let small : unsigned_abs z ≤ most = fits_small z (ap fits f.1 ∙ f.0) in
    to_z-of_z w128 z (fits_signed_from_abs w128 z (omega (arith, small)))

fitting_none : (z : ℤ) → None ≡ fitting z → fits z ≡ false
fitting_none z h = go (fits z) refl h
  where
    go : (b : Bool) → fits z ≡ b → None ≡ (if b then Some z else None) → fits z ≡ false
    go true e h = absurd (none_some z h)
    go false e h = e

-- a sum of a name
pub name_added : (s : Sums) (w : List ℕ) (n z : ℤ) → IsLimited s → Some z ≡ fitting (coefficient_in w s.names +ℤ n)
    → limited (with_product n (Some w) s) ≡ Some (record { constant = s.constant; names = raised w n s.names })
name_added s w n z h e =
    let a = fit s h in
    let f = fitting_some (coefficient_in w s.names +ℤ n) z e in
    limited_fits s.constant (raised w n s.names) a.constant (raised_fits w n s.names a.names ∙ f.0)

pub name_large : (s : Sums) (w : List ℕ) (n : ℤ) → IsLimited s → None ≡ fitting (coefficient_in w s.names +ℤ n)
    → limited (with_product n (Some w) s) ≡ None
name_large s w n h e =
    let a = fit s h in
    let more = raised_fits w n s.names a.names ∙ fitting_none (coefficient_in w s.names +ℤ n) e in
    let new : Sums = record { constant = s.constant; names = raised w n s.names } in
    ap (λ b. if b && list_all (λ e. fits e.1) (raised w n s.names) then Some new else None) a.constant
    ∙ ap (λ b. if b then Some new else None) more

abbrev same_key : Bor (List ℕ) → Bor (List ℕ) → Bool
same_key x y = bytes_eq x.now y.now

pub raised_seen : (k : Bor (List ℕ)) (c z : ℤ) (es : Entries) → z ≡ sum_in k.now es +ℤ c
    → map entry_seen (insert_entry same_key es k z) ≡ raised k.now c (map entry_seen es)
raised_seen k c z [] h = ap (λ y. (k.now, y) ∷ []) (h ∙ zero_plus c)
raised_seen k c z (e ∷ es) h = go (bytes_eq k.now e.0.now) refl (raised_seen k c z es)
  where
    go : (b : Bool) → bytes_eq k.now e.0.now ≡ b → (z ≡ sum_in k.now es +ℤ c → map entry_seen (insert_entry same_key es k z) ≡ raised k.now c (map entry_seen es))
        → map entry_seen (if bytes_eq k.now e.0.now then (e.0, z) ∷ es else e ∷ insert_entry same_key es k z)
        ≡ (if bytes_eq e.0.now k.now then (e.0.now, e.1 +ℤ c) ∷ map entry_seen es else (e.0.now, e.1) ∷ raised k.now c (map entry_seen es))
    go true t next =
        let other = bytes_sym e.0.now k.now ∙ t in
        let value : z ≡ e.1 +ℤ c = h ∙ ap (λ b. (if b then e.1 else sum_in k.now es) +ℤ c) other in
        ap (λ b. map entry_seen (if b then (e.0, z) ∷ es else e ∷ insert_entry same_key es k z)) t
        ∙ ap (λ y. (e.0.now, y) ∷ map entry_seen es) value
        ∙ ap (λ b. if b then (e.0.now, e.1 +ℤ c) ∷ map entry_seen es else (e.0.now, e.1) ∷ raised k.now c (map entry_seen es)) (sym other)
    go false t next =
        let other = bytes_sym e.0.now k.now ∙ t in
        let value : z ≡ sum_in k.now es +ℤ c = h ∙ ap (λ b. (if b then e.1 else sum_in k.now es) +ℤ c) other in
        ap (λ b. map entry_seen (if b then (e.0, z) ∷ es else e ∷ insert_entry same_key es k z)) t
        ∙ ap (λ l. (e.0.now, e.1) ∷ l) (next value)
        ∙ ap (λ b. if b then (e.0.now, e.1 +ℤ c) ∷ map entry_seen es else (e.0.now, e.1) ∷ raised k.now c (map entry_seen es)) (sym other)

-- the sums after a name's sum is set in the table
pub name_set : (c : ℤ) (old new : Table) (k : Bor (List ℕ)) (n z : ℤ) → IsLimited (sums_seen c old) → Some z ≡ fitting (sum_in k.now old.entries +ℤ n)
    → new.entries ≡ insert_entry same_key old.entries k z
    → limited (with_product n (Some k.now) (sums_seen c old)) ≡ Some (sums_seen c new)
name_set c old new k n z h e is =
    name_added (sums_seen c old) k.now n z h e
    ∙ ap (λ l. Some (record { constant = c; names = l })) (sym (ap (map entry_seen) is ∙ raised_seen k n z old.entries (fitting_some (sum_in k.now old.entries +ℤ n) z e).1))

-- the same of the sums that the table shows, where the name's sum was looked up
pub name_stored : (s : Sums) (c : ℤ) (old new : Table) (k : Bor (List ℕ)) (n r z : ℤ) → IsLimited (sums_seen c old) → sums_seen c old ≡ s
    → r ≡ coefficient_in k.now s.names → Some z ≡ fitting (r +ℤ n) → new.entries ≡ insert_entry same_key old.entries k (to_z w128 (of_z w128 z))
    → limited (with_product n (Some k.now) s) ≡ Some (sums_seen c new)
name_stored s c old new k n r z h seen is e stored =
    let own : r ≡ sum_in k.now old.entries = is ∙ ap (λ t. coefficient_in k.now t.names) (sym seen) in
    ap (λ t. limited (with_product n (Some k.now) t)) (sym seen)
    ∙ name_set c old new k n z h (e ∙ ap (λ y. fitting (y +ℤ n)) own) (stored ∙ ap (insert_entry same_key old.entries k) (whole_sum z (r +ℤ n) e))

pub name_refused : (s : Sums) (c : ℤ) (old : Table) (w : List ℕ) (n r : ℤ) → IsLimited (sums_seen c old) → sums_seen c old ≡ s
    → r ≡ coefficient_in w s.names → None ≡ fitting (r +ℤ n) → limited (with_product n (Some w) s) ≡ None
name_refused s c old w n r h seen is e =
    name_large s w n (subst IsLimited seen h) (e ∙ ap (λ y. fitting (y +ℤ n)) is)

-- what is limited stays so
pub still_limited : (s t : Sums) → limited s ≡ Some t → IsLimited t
still_limited s t h = go (fits s.constant && list_all (λ e. fits e.1) s.names) refl h
  where
    go : (b : Bool) → (fits s.constant && list_all (λ e. fits e.1) s.names) ≡ b → (if b then Some s else None) ≡ Some t → IsLimited t
    go true e h =
        let same : s ≡ t = some_same s t h in
        let own : IsLimited s = ap (λ b. if b then Some s else None) e in
        ap limited (sym same) ∙ own ∙ ap Some same
    go false e h = absurd (none_some t h)

-- ---- all the names

abbrev pub known_in : List (List ℕ) → Entry → Bool
known_in iters e = list_any (bytes_eq e.0) iters

pub known_turn : (q : Entry → Bool) (es : Entries) (at : ℕ) (p : Bor (List ℕ) × ℤ) → Some p ≡ slice_get es at
    → list_all q (drop at (map entry_seen es)) ≡ (q (entry_seen p) && list_all q (drop (suc at) (map entry_seen es)))
known_turn q [] at p h = absurd (none_some p (sym h))
known_turn q (e ∷ es) zero p h = ap (λ x. q (entry_seen x) && list_all q (map entry_seen es)) (sym (some_same p e h))
known_turn q (e ∷ es) (suc at) p h = known_turn q es at p h

pub known_next : (q : Entry → Bool) (es : Entries) (at : ℕ) (p : Bor (List ℕ) × ℤ) → Some p ≡ slice_get es at → q (entry_seen p) ≡ true
    → list_all q (drop at (map entry_seen es)) ≡ list_all q (drop (at + 1) (map entry_seen es))
known_next q es at p h k =
    let next : suc at ≡ at + 1 = omega arith in
    known_turn q es at p h ∙ ap (λ b. b && list_all q (drop (suc at) (map entry_seen es))) k ∙ ap (λ j. list_all q (drop j (map entry_seen es))) next

pub known_not : (q : Entry → Bool) (es : Entries) (at : ℕ) (p : Bor (List ℕ) × ℤ) → Some p ≡ slice_get es at → q (entry_seen p) ≡ false
    → list_all q (drop at (map entry_seen es)) ≡ false
known_not q es at p h k = known_turn q es at p h ∙ ap (λ b. b && list_all q (drop (suc at) (map entry_seen es))) k

-- the same of the sums that the table shows
pub known_more : (iters : List (List ℕ)) (s : Sums) (c : ℤ) (t : Table) (at : ℕ) (p : Bor (List ℕ) × ℤ) → sums_seen c t ≡ s
    → is_known iters s ≡ list_all (known_in iters) (drop at s.names) → Some p ≡ slice_get t.entries at → list_any (bytes_eq p.0.now) iters ≡ true
    → is_known iters s ≡ list_all (known_in iters) (drop (at + 1) s.names)
known_more iters s c t at p seen e h k =
    e ∙ ap (λ r. list_all (known_in iters) (drop at r.names)) (sym seen)
    ∙ known_next (known_in iters) t.entries at p h k
    ∙ ap (λ r. list_all (known_in iters) (drop (at + 1) r.names)) seen

pub known_false : (iters : List (List ℕ)) (s : Sums) (c : ℤ) (t : Table) (at : ℕ) (p : Bor (List ℕ) × ℤ) → sums_seen c t ≡ s
    → is_known iters s ≡ list_all (known_in iters) (drop at s.names) → Some p ≡ slice_get t.entries at → list_any (bytes_eq p.0.now) iters ≡ false
    → false ≡ is_known iters s
known_false iters s c t at p seen e h k =
    sym (e ∙ ap (λ r. list_all (known_in iters) (drop at r.names)) (sym seen) ∙ known_not (known_in iters) t.entries at p h k)

-- ---- the summands one by one

pub item_turn : {A : Type 0} (xs : List A) (i : ℕ) (x : A) → i < length xs → x ≡ get_or xs i x → drop i xs ≡ x ∷ drop (suc i) xs
item_turn xs i x lt h = drop-cons xs i x lt ∙ ap (λ y. y ∷ drop (suc i) xs) (sym h)

-- ---- the code's table

-- a sum that was found is the coefficient, and fits the code's numbers
pub sum_told : (w : List ℕ) (c z : ℤ) (t : Table) (s : Sums) → IsLimited (sums_seen c t) → sums_seen c t ≡ s → Some z ≡ found_in w t.entries
    → (to_z w128 (of_z w128 z) ≡ coefficient_in w s.names) × (unsigned_abs (to_z w128 (of_z w128 z)) ≤ most)
sum_told w c z t s limited same found =
    let is : z ≡ coefficient_in w s.names = sum_found w t.entries z found ∙ ap (λ r. coefficient_in w r.names) same in
    let small : unsigned_abs z ≤ most = subst (λ y. unsigned_abs y ≤ most) (sym is) (coefficient_small w s (subst IsLimited same limited)) in
    let whole : to_z w128 (of_z w128 z) ≡ z = to_z-of_z w128 z (fits_signed_from_abs w128 z (omega (arith, small))) in
    (whole ∙ is, subst (λ y. unsigned_abs y ≤ most) (sym whole) small)

pub sum_untold : (w : List ℕ) (c : ℤ) (t : Table) (s : Sums) → sums_seen c t ≡ s → None ≡ found_in w t.entries → pos 0 ≡ coefficient_in w s.names
sum_untold w c t s same missing = sum_missing w t.entries missing ∙ ap (λ r. coefficient_in w r.names) same
