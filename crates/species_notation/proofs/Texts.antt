-- The text of parts, and of lists of them item by item.
use Rattle.std.proofs.Common.{◌≡◌, ◌∙◌, ap, sym, refl, ℕ, zero, suc, ◌+◌, ◌<◌, ◌≤◌, List, [], ◌∷◌, ◌++◌, map, take, length, slice_index_or, append_assoc, append-nil, true, false, nat_eq, arith, ℤ}
use Rattle.std.specs.List.{flat_map}
use Rattle.species_notation.specs.declared.parts.Part.{Part}
use Rattle.species_notation.specs.declared.raw.Summand.{Summand}
use Rattle.species_notation.specs.Parts.{part_text, parts_text}
use Rattle.species_notation.specs.Spelled.{behind, separator, listed_parts, next_parts, summand_parts, summands_parts, form_parts}
use Rattle.species_notation.specs.Written.{written_constant, constant_behind, closed_with, closing_parts}

pub parts_append : (ps qs : List Part) → parts_text (ps ++ qs) ≡ parts_text ps ++ parts_text qs
parts_append [] qs = refl
parts_append (p ∷ ps) qs = ap (λ l. part_text p ++ l) (parts_append ps qs) ∙ sym (append_assoc (part_text p) (parts_text ps) (parts_text qs))

-- ---- one item more

map_next : {A B : Type 0} (f : A → B) (xs : List A) (i : ℕ) (d : A) → i < length xs → map f (take (suc i) xs) ≡ map f (take i xs) ++ f (slice_index_or xs i d) ∷ []
map_next f [] i d lt = absurd (omega (arith, lt))
map_next f (x ∷ xs) zero d lt = refl
map_next f (x ∷ xs) (suc i) d lt = ap (λ l. f x ∷ l) (map_next f xs i d (omega (arith, lt)))

map_length : {A B : Type 0} (f : A → B) (xs : List A) (i : ℕ) → i < length xs → length (map f (take i xs)) ≡ i
map_length f [] i lt = absurd (omega (arith, lt))
map_length f (x ∷ xs) zero lt = refl
map_length f (x ∷ xs) (suc i) lt = ap suc (map_length f xs i (omega (arith, lt)))

flat_next : {A : Type 0} (f : A → List Part) (xs : List A) (x : A) → flat_map f (xs ++ x ∷ []) ≡ flat_map f xs ++ f x
flat_next f [] x = append-nil (f x)
flat_next f (y ∷ xs) x = ap (λ l. f y ++ l) (flat_next f xs x) ∙ sym (append_assoc (f y) (flat_map f xs) (f x))

listed_end : {A : Type 0} (b : ℕ) (parts : A → List Part) (xs : List A) (x : A) → listed_parts b parts (xs ++ x ∷ []) ≡ listed_parts b parts xs ++ (separator b (length xs) ++ parts x)
listed_end b parts [] x = append-nil (parts x)
listed_end b parts (y ∷ xs) x = ap (λ l. parts y ++ l) (flat_next (behind b parts) xs x) ∙ sym (append_assoc (parts y) (flat_map (behind b parts) xs) (behind b parts x))

pub not_zero : (n : ℕ) → nat_eq (suc n) 0 ≡ false
not_zero n = grind arith

summands_end : (ss : List Summand) (s : Summand) → summands_parts (ss ++ s ∷ []) ≡ summands_parts ss ++ summand_parts (nat_eq (length ss) 0) s
summands_end [] s = append-nil (summand_parts true s)
summands_end (r ∷ ss) s =
    ap (λ l. summand_parts true r ++ l) (flat_next next_parts ss s)
    ∙ sym (append_assoc (summand_parts true r) (flat_map next_parts ss) (next_parts s))
    ∙ ap (λ b. summands_parts (r ∷ ss) ++ summand_parts b s) (sym (not_zero (length ss)))

pub listed_next : {A B : Type 0} (b : ℕ) (parts : B → List Part) (f : A → B) (xs : List A) (i : ℕ) (d : A) → i < length xs →
    parts_text (listed_parts b parts (map f (take (i + 1) xs))) ≡ parts_text (listed_parts b parts (map f (take i xs))) ++ (parts_text (separator b i) ++ parts_text (parts (f (slice_index_or xs i d))))
listed_next b parts f xs i d lt =
    let step : i + 1 ≡ suc i = omega arith in
    ap (λ n. parts_text (listed_parts b parts (map f (take n xs)))) step
    ∙ ap (λ l. parts_text (listed_parts b parts l)) (map_next f xs i d lt)
    ∙ ap parts_text (listed_end b parts (map f (take i xs)) (f (slice_index_or xs i d)))
    ∙ parts_append (listed_parts b parts (map f (take i xs))) (separator b (length (map f (take i xs))) ++ parts (f (slice_index_or xs i d)))
    ∙ ap (λ n. parts_text (listed_parts b parts (map f (take i xs))) ++ parts_text (separator b n ++ parts (f (slice_index_or xs i d)))) (map_length f xs i lt)
    ∙ ap (λ l. parts_text (listed_parts b parts (map f (take i xs))) ++ l) (parts_append (separator b i) (parts (f (slice_index_or xs i d))))

pub summands_next : {A : Type 0} (f : A → Summand) (xs : List A) (i : ℕ) (d : A) → i < length xs →
    parts_text (summands_parts (map f (take (i + 1) xs))) ≡ parts_text (summands_parts (map f (take i xs))) ++ parts_text (summand_parts (nat_eq i 0) (f (slice_index_or xs i d)))
summands_next f xs i d lt =
    let step : i + 1 ≡ suc i = omega arith in
    ap (λ n. parts_text (summands_parts (map f (take n xs)))) step
    ∙ ap (λ l. parts_text (summands_parts l)) (map_next f xs i d lt)
    ∙ ap parts_text (summands_end (map f (take i xs)) (f (slice_index_or xs i d)))
    ∙ parts_append (summands_parts (map f (take i xs))) (summand_parts (nat_eq (length (map f (take i xs))) 0) (f (slice_index_or xs i d)))
    ∙ ap (λ n. parts_text (summands_parts (map f (take i xs))) ++ parts_text (summand_parts (nat_eq n 0) (f (slice_index_or xs i d)))) (map_length f xs i lt)

pub whole : {A : Type 0} (xs : List A) (i : ℕ) → length xs ≤ i → take i xs ≡ xs
whole [] zero le = refl
whole [] (suc i) le = refl
whole (x ∷ xs) zero le = absurd (omega (arith, le))
whole (x ∷ xs) (suc i) le = ap (λ l. x ∷ l) (whole xs i (omega (arith, le)))

-- ---- forms

pub form_text : {A : Type 0} (f : A → Summand) (c : ℤ) (xs : List A) →
    parts_text (form_parts (closed_with c (map f xs))) ≡ parts_text (summands_parts (map f xs)) ++ parts_text (closing_parts (nat_eq (length xs) 0) c)
form_text f c [] = ap parts_text (append-nil (summand_parts true (written_constant c)))
form_text f c (x ∷ xs) =
    ap (λ l. parts_text (summand_parts true (f x) ++ l)) (flat_append (map f xs) (constant_behind c))
    ∙ ap parts_text (sym (append_assoc (summand_parts true (f x)) (flat_map next_parts (map f xs)) (flat_map next_parts (constant_behind c))))
    ∙ parts_append (summand_parts true (f x) ++ flat_map next_parts (map f xs)) (flat_map next_parts (constant_behind c))
    ∙ ap (λ b. parts_text (summands_parts (map f (x ∷ xs))) ++ parts_text (closing_parts b c)) (sym (not_zero (length xs)))
  where
    flat_append : (ss ts : List Summand) → flat_map next_parts (ss ++ ts) ≡ flat_map next_parts ss ++ flat_map next_parts ts
    flat_append [] ts = refl
    flat_append (s ∷ ss) ts = ap (λ l. next_parts s ++ l) (flat_append ss ts) ∙ sym (append_assoc (next_parts s) (flat_map next_parts ss) (flat_map next_parts ts))
