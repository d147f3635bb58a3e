-- The parts of a form are read as the form.
use Rattle.std.proofs.Common.{◌≡◌, ◌∙◌, ap, sym, refl, subst, ℕ, List, [], ◌∷◌, ◌++◌, Option, Some, None, Bool, true, false, arith, append_assoc}
use Rattle.std.specs.Prelude.{if◌then◌else◌, nat_eq}
use Rattle.std.specs.List.{flat_map}
use Rattle.species_grammar.specs.Reader.{Answer, is_of, starts, word, nothing, both, mapped, maybe}
use Rattle.species_grammar.proofs.Free.{choose_else}
use Rattle.species_notation.specs.declared.parts.Part.{Part}
use Rattle.species_notation.specs.declared.parts.Part.TheVariants as part
use Rattle.species_notation.specs.declared.raw.Summand.{Summand}
use Rattle.species_notation.specs.declared.raw.RawForm.{RawForm}
use Rattle.species_notation.specs.Spelled.{minus, product_parts, first_parts, next_parts, form_parts}
use Rattle.species_notation.specs.Readers.{sign, number, name, plus_or_minus, leading, product, summand_of, first_summand, next_summand, more_summands, form_of, form}
use Rattle.species_notation.proofs.Combining.{both_at, mapped_at, maybe_not, repeated_at}

-- no `*` follows
abbrev pub NoTimes : List Part → Type 0
NoTimes us = starts (is_of (sign 42)) us ≡ false

-- nor `+` or `-`
abbrev pub FormEnd : List Part → Type 0
FormEnd us = NoTimes us × (starts (is_of plus_or_minus) us ≡ false)

one_is : (n : ℕ) → nat_eq n 1 ≡ true → n ≡ 1
one_is n e = grind (arith, e)

abbrev name_product : Bool → ℕ → List ℕ → List Part
name_product b n w = if b then part.Name w ∷ [] else part.Number n ∷ part.Sign 42 ∷ part.Name w ∷ []

product_at : (n : ℕ) (o : Option (List ℕ)) (us : List Part) → NoTimes us → product (product_parts n o ++ us) ≡ Answer.read (n, o) us
unfolding product
product_at n None us e = both_at (word number) (maybe (sign 42) (word name)) (part.Number n ∷ us) n us None us refl (maybe_not (sign 42) (word name) us e)
product_at n (Some w) us e = go (nat_eq n 1) refl
  where
    go : (b : Bool) → nat_eq n 1 ≡ b → product (name_product (nat_eq n 1) n w ++ us) ≡ Answer.read (n, Some w) us
    go true h = ap (λ b. product (name_product b n w ++ us)) h ∙ ap (λ k. Answer.read (k, Some w) us) (sym (one_is n h))
    go false h = ap (λ b. product (name_product b n w ++ us)) h

-- it does not begin with `-`
no_minus : (n : ℕ) (o : Option (List ℕ)) (us : List Part) → starts (is_of (sign 45)) (product_parts n o ++ us) ≡ false
no_minus n None us = refl
no_minus n (Some w) us = go (nat_eq n 1) refl
  where
    go : (b : Bool) → nat_eq n 1 ≡ b → starts (is_of (sign 45)) (name_product (nat_eq n 1) n w ++ us) ≡ false
    go true h = rw h refl
    go false h = rw h refl

pub leading_at : (b : Bool) (us : List Part) → starts (is_of (sign 45)) us ≡ false → leading (minus b ++ us) ≡ Answer.read b us
unfolding leading
leading_at true us e = refl
leading_at false us e = choose_else (is_of (sign 45)) (mapped (λ x. true) (word (sign 45))) (nothing false) us e

pub first_at : (s : Summand) (us : List Part) → NoTimes us → first_summand (first_parts s ++ us) ≡ Answer.read s us
unfolding first_summand
first_at s us e =
    let rest : List Part = product_parts s.number s.name ++ us in
    ap first_summand (append_assoc (minus s.negative) (product_parts s.number s.name) us)
    ∙ mapped_at summand_of (both leading product) (minus s.negative ++ rest) (s.negative, (s.number, s.name)) us
    (both_at leading product (minus s.negative ++ rest) s.negative rest (s.number, s.name) us (leading_at s.negative rest (no_minus s.number s.name us)) (product_at s.number s.name us e))

next_with : (b : Bool) (n : ℕ) (o : Option (List ℕ)) (us : List Part) → NoTimes us
    → next_summand (next_parts (record { negative = b; number = n; name = o }) ++ us) ≡ Answer.read (record { negative = b; number = n; name = o }) us
unfolding next_summand
next_with true n o us e =
    let rest : List Part = product_parts n o ++ us in
    mapped_at summand_of (both (word plus_or_minus) product) (part.Sign 45 ∷ rest) (true, (n, o)) us
    (both_at (word plus_or_minus) product (part.Sign 45 ∷ rest) true rest (n, o) us refl (product_at n o us e))
next_with false n o us e =
    let rest : List Part = product_parts n o ++ us in
    mapped_at summand_of (both (word plus_or_minus) product) (part.Sign 43 ∷ rest) (false, (n, o)) us
    (both_at (word plus_or_minus) product (part.Sign 43 ∷ rest) false rest (n, o) us refl (product_at n o us e))

next_at : (s : Summand) (us : List Part) → NoTimes us → next_summand (next_parts s ++ us) ≡ Answer.read s us
next_at s us e = next_with s.negative s.number s.name us e

next_starts_with : (b : Bool) (n : ℕ) (o : Option (List ℕ)) (us : List Part) → starts (is_of plus_or_minus) (next_parts (record { negative = b; number = n; name = o }) ++ us) ≡ true
next_starts_with true n o us = refl
next_starts_with false n o us = refl

next_starts : (s : Summand) (us : List Part) → starts (is_of plus_or_minus) (next_parts s ++ us) ≡ true
next_starts s us = next_starts_with s.negative s.number s.name us

next_ends_with : (b : Bool) (n : ℕ) (o : Option (List ℕ)) (us : List Part) → NoTimes (next_parts (record { negative = b; number = n; name = o }) ++ us)
next_ends_with true n o us = refl
next_ends_with false n o us = refl

next_ends : (s : Summand) (us : List Part) → NoTimes (next_parts s ++ us)
next_ends s us = next_ends_with s.negative s.number s.name us

summands_end : (ss : List Summand) (us : List Part) → FormEnd us → NoTimes (flat_map next_parts ss ++ us)
summands_end [] us e = e.0
summands_end (s ∷ ss) us e = subst NoTimes (sym (append_assoc (next_parts s) (flat_map next_parts ss) us)) (next_ends s (flat_map next_parts ss ++ us))

pub form_at : (f : RawForm) (us : List Part) → FormEnd us → form (form_parts f ++ us) ≡ Answer.read f us
unfolding form
form_at f us e =
    let more : List Part = flat_map next_parts f.more ++ us in
    ap form (append_assoc (first_parts f.first) (flat_map next_parts f.more) us)
    ∙ mapped_at form_of (both first_summand more_summands) (first_parts f.first ++ more) (f.first, f.more) us
    (both_at first_summand more_summands (first_parts f.first ++ more) f.first more f.more us
    (first_at f.first more (summands_end f.more us e))
    (repeated_at (is_of plus_or_minus) next_summand next_parts NoTimes next_starts next_ends next_at (λ s. omega arith) us e.1 e.0 f.more))
