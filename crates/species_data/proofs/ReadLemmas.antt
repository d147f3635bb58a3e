-- A turn of the loop over the lines.
use Rattle.std.proofs.Common.{◌≡◌, ◌∙◌, ap, sym, ℕ, ◌+◌, ◌-◌, ◌<◌, ◌≤◌, List, ◌∷◌, length, take, drop, take_all, Result, Ok, Err, arith}
use Rattle.std.proofs.lemmas.List.{drop-drop, drop_all, length-drop}
use Rattle.std.specs.List.{prefix_len}
use Rattle.species_ast.specs.declared.tree.Array.{Array}
use Rattle.species_data.specs.declared.refusal.DataRefusal.{DataRefusal}
use Rattle.species_data.specs.Lines.{is_in_line, Line, lines_at}
use Rattle.species_data.specs.Data.{Reading, then_lines, line_read, lines_read, none_yet, arrays_of, data_at}
use Rattle.species_data.proofs.LineLaws.{line_bytes}

-- what the lines behind this place say
abbrev pub left : List Array → Reading → ℕ → ℕ → List ℕ → Result Reading ℕ
left arrays r base at text = lines_read arrays r (lines_at (base + at) (drop at text))

-- how the code writes what is left of the text
seen : (at : ℕ) (text : List ℕ) → take (length text - at) (drop at text) ≡ drop at text
seen at text = take_all (length text - at) (drop at text) (omega (arith, length-drop at text))

-- the line at this place, as the code writes it
abbrev pub line_here : ℕ → ℕ → ℕ → List ℕ → Line
line_here base at n text = record { place = base + at; text = take (at + n - at) (drop at text) }

turn : (arrays : List Array) (r : Reading) (base at n : ℕ) (text : List ℕ) → at < length text → n ≡ prefix_len is_in_line (take (length text - at) (drop at text))
    → left arrays r base at text ≡ then_lines (line_read arrays r (line_here base at n text)) (λ s. left arrays s base (at + (n + 1)) text)
turn arrays r base at n text less is =
    let some : 0 < length (drop at text) = omega (arith, less, length-drop at text) in
    let len : prefix_len is_in_line (drop at text) ≡ n = ap (prefix_len is_in_line) (sym (seen at text)) ∙ sym is in
    let same : at + n - at ≡ n = omega arith in
    let place : base + at + (n + 1) ≡ base + (at + (n + 1)) = omega arith in
    let split : lines_at (base + at) (drop at text) ≡ line_here base at n text ∷ lines_at (base + (at + (n + 1))) (drop (at + (n + 1)) text) =
    line_bytes (base + at) (drop at text) some
    ∙ ap (λ k. record { place = base + at; text = take k (drop at text) } ∷ lines_at (base + at + (k + 1)) (drop (k + 1) (drop at text))) len
    ∙ ap (λ k. record { place = base + at; text = take k (drop at text) } ∷ lines_at (base + at + (n + 1)) (drop (n + 1) (drop at text))) (sym same)
    ∙ ap (λ bytes. line_here base at n text ∷ lines_at (base + at + (n + 1)) bytes) (drop-drop (n + 1) at text)
    ∙ ap (λ q. line_here base at n text ∷ lines_at q (drop (at + (n + 1)) text)) place in
    ap (lines_read arrays r) split

pub line_turn : (arrays : List Array) (r s : Reading) (base at n : ℕ) (text : List ℕ) (all : Result Reading ℕ) → at < length text
    → n ≡ prefix_len is_in_line (take (length text - at) (drop at text)) → line_read arrays r (line_here base at n text) ≡ Ok s
    → all ≡ left arrays r base at text → all ≡ left arrays s base (at + (n + 1)) text
line_turn arrays r s base at n text all less is read h =
    h ∙ turn arrays r base at n text less is ∙ ap (λ o. then_lines o (λ t. left arrays t base (at + (n + 1)) text)) read

pub line_fails : (arrays : List Array) (r : Reading) (base at n place : ℕ) (text : List ℕ) → at < length text
    → n ≡ prefix_len is_in_line (take (length text - at) (drop at text)) → line_read arrays r (line_here base at n text) ≡ Err place
    → lines_read arrays (none_yet arrays) (lines_at base text) ≡ left arrays r base at text → data_at arrays base text ≡ Err place
line_fails arrays r base at n place text less is read h =
    ap arrays_of (h ∙ turn arrays r base at n text less is ∙ ap (λ o. then_lines o (λ t. left arrays t base (at + (n + 1)) text)) read)

pub lines_end : (arrays : List Array) (r : Reading) (base at : ℕ) (text : List ℕ) → length text ≤ at
    → lines_read arrays (none_yet arrays) (lines_at base text) ≡ left arrays r base at text → data_at arrays base text ≡ Ok r.arrays
lines_end arrays r base at text ended h =
    ap arrays_of (h ∙ ap (λ bytes. lines_read arrays r (lines_at (base + at) bytes)) (drop_all at text ended))

pub lines_start : (arrays : List Array) (r : Reading) (base : ℕ) (text : List ℕ) → r ≡ none_yet arrays
    → lines_read arrays (none_yet arrays) (lines_at base text) ≡ left arrays r base 0 text
lines_start arrays r base text is =
    let place : base ≡ base + 0 = omega arith in
    ap (λ q. lines_read arrays (none_yet arrays) (lines_at q text)) place ∙ ap (λ s. lines_read arrays s (lines_at (base + 0) text)) (sym is)

-- a refusal that is handed on
pub handed_on : {A : Type 0} (e f : DataRefusal) (r : Result A DataRefusal) → r ≡ Err e → r ≡ Err f → e ≡ f
handed_on e f r as_e as_f = let same : Err e ≡ Err f = sym as_e ∙ as_f in cc
