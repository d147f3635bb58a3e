-- Lemmas on bytes that were moved.
use Rattle.std.proofs.Common.{◌≡◌, ◌≤◌, ◌+◌, ◌-◌, ◌++◌, ℕ, List, length, take, drop, Option, Some, None, refl, ap, sym, subst, ◌∙◌, arith, append_assoc, take-append-drop, take_all, length-append, length-drop, length-take-le, drop-drop}
use Rattle.std.proofs.Math.Seq.{take-append_seam}
use Rattle.species_io.specs.Told.{before, then_bytes}
use Rattle.species_io.specs.Piecewise.{AppendedPart, HandedOn}

-- a source that gave a and then b gave a ++ b
pub before-before : (a b : List ℕ) (told : Option (List ℕ)) → before a (before b told) ≡ before (a ++ b) told
before-before a b None = refl
before-before a b (Some rest) = ap (λ l. Some l) (sym (append_assoc a b rest))

-- a source that gave `front` gave one piece more
pub gave_more : (old mid new : Option (List ℕ)) (front piece : List ℕ) → old ≡ before front mid → mid ≡ before piece new → old ≡ before (front ++ piece) new
gave_more old mid new front piece a b = a ∙ ap (λ told. before front told) b ∙ before-before front piece new

-- the bytes of an earlier piece and the first of a later one, as what means them sees them
pub means_more : (Means : List ℕ → Type 0) (bytes front piece : List ℕ) → Means ((bytes ++ front) ++ piece) → Means (bytes ++ (front ++ piece))
means_more Means bytes front piece h = subst Means (append_assoc bytes front piece) h

-- what was handed on, where only the first bytes of the last piece were appended
pub handed_part : (Means : List ℕ → Type 0) (limit room mid left : ℕ) (bytes front piece : List ℕ) (had src new : Option (List ℕ))
    → had ≡ before front src → src ≡ before piece new → length front + length piece ≤ limit → mid + length front ≡ room
    → AppendedPart Means mid left (bytes ++ front) piece → (rest : Option (List ℕ)) × HandedOn Means limit room left bytes had rest
handed_part Means limit room mid left bytes front piece had src new a b fits took part =
    let split = sym (ap (λ p. before p new) part.2) in (
      before part.1 new,
      (
        front ++ part.0,
        a ∙ ap (λ told. before front told) (b ∙ sym split ∙ sym (before-before part.0 part.1 new)) ∙ before-before front part.0 (before part.1 new),
        omega (arith, fits, ap length part.2, length-append front part.0, length-append part.0 part.1),
        means_more Means bytes front part.0 part.3,
        omega (arith, took, part.4, length-append front part.0),
      ),
    )

-- a sink that took a and then b took a ++ b
pub then_bytes-then_bytes : (told : Option (List ℕ)) (a b : List ℕ) → then_bytes (then_bytes told a) b ≡ then_bytes told (a ++ b)
then_bytes-then_bytes None a b = refl
then_bytes-then_bytes (Some front) a b = ap (λ l. Some l) (append_assoc front a b)

-- bytes of which `front` was handed on and `rest` is left, once n more are handed on
pub cut : (bytes front rest : List ℕ) (n : ℕ) → bytes ≡ front ++ rest → bytes ≡ (front ++ take n rest) ++ take (length rest - n) (drop n rest)
cut bytes front rest n whole =
    let all_left : drop n rest ≡ take (length rest - n) (drop n rest) = sym (take_all (length rest - n) (drop n rest) (omega (arith, length-drop n rest))) in
    whole ∙ ap (λ l. front ++ l) (sym (take-append-drop n rest) ∙ ap (λ l. take n rest ++ l) all_left)
    ∙ sym (append_assoc front (take n rest) _)

-- n bytes from `at` on that were copied before b, then what follows them, are all bytes from `at` on
pub copied_on : (bytes copied b : List ℕ) (at n : ℕ) → copied ≡ take n (drop at bytes) → at + n ≤ length bytes → drop at bytes ≡ take n (copied ++ b) ++ drop (at + n) bytes
copied_on bytes copied b at n is fits =
    let len : length copied ≡ n = ap length is ∙ length-take-le n (drop at bytes) (omega (arith, fits, length-drop at bytes)) in
    let seam : take n (copied ++ b) ≡ copied = ap (λ k. take k (copied ++ b)) (sym len) ∙ take-append_seam copied b in
    sym (take-append-drop n (drop at bytes)) ∙ ap (λ x. x ++ drop n (drop at bytes)) (sym (seam ∙ is)) ∙ ap (λ x. take n (copied ++ b) ++ x) (drop-drop n at bytes)
