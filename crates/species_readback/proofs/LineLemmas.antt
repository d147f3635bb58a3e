-- A line with a species text: what its parts are, and the same text on a line of its own.
use Rattle.std.proofs.Common.{◌≡◌, ◌⊎◌, inl, inr, ◌∙◌, ap, sym, refl, subst, ℕ, zero, suc, ◌+◌, ◌≤◌, true, false, List, [], ◌∷◌, length, take, drop, Some, None, arith, length-drop}
use Rattle.std.specs.Prelude.{codes, unwrap_or}
use Rattle.std.proofs.lemmas.List.{drop-drop, drop-take}
use Rattle.species_ast.specs.Text.Characters.{begins}
use Rattle.species_ast.specs.Text.Comments.{comment_len, plain_len, content_len}
use Rattle.species_ast.specs.Text.Parts.{Part, parts_of, parts_end}
use Rattle.species_readback.proofs.ScanLemmas.{Scan, part_at, all_of, IsWhole, many_more, many_none, opens_plain, other_plain, slash_plain, none_plain, some_or_none, decide, two_least, comment_cut, part_within, plain_within, comment_within, scan_whole}
use Rattle.species_readback.proofs.CutLemmas.{take_nil, begins_cut, end_part}

-- ---- the content of a line is plain

item_one : (b x r : ℕ) → plain_len (b ∷ []) ≡ suc x → plain_len (b ∷ take (x + r) []) ≡ suc x
item_one b x r h = ap (λ t. plain_len (b ∷ t)) (take_nil (x + r)) ∙ h

item_comment : (b a : ℕ) (bytes : List ℕ) (x r : ℕ) → begins (codes "/*") (b ∷ a ∷ bytes) ≡ true → plain_len (b ∷ a ∷ bytes) ≡ suc x
    → ((n : ℕ) × (comment_len (b ∷ a ∷ bytes) ≡ Some n)) ⊎ (comment_len (b ∷ a ∷ bytes) ≡ None) → plain_len (b ∷ take (x + r) (a ∷ bytes)) ≡ suc x
item_comment b a bytes x r h e (inr none) = let x : ⊥ = omega (arith, e, none_plain b a bytes h none) in absurd x
item_comment b a bytes x r h e (inl (n, o)) = go x e
  where
    size : plain_len (b ∷ a ∷ bytes) ≡ n
    size = opens_plain b a bytes h ∙ ap (λ o. unwrap_or o 0) o

    go : (x : ℕ) → plain_len (b ∷ a ∷ bytes) ≡ suc x → plain_len (b ∷ take (x + r) (a ∷ bytes)) ≡ suc x
    go zero e = let y : ⊥ = omega (arith, e, size, two_least _ n o) in absurd y
    go (suc x) e =
        let same : suc x + r ≡ suc (x + r) = omega arith in
        let fits : n ≤ suc (suc (x + r)) = omega (arith, e, size) in
        ap (λ k. plain_len (b ∷ take k (a ∷ bytes))) same
        ∙ opens_plain b a (take (x + r) bytes) h
        ∙ ap (λ o. unwrap_or o 0) (comment_cut b a bytes n (x + r) o fits)
        ∙ sym size ∙ e

item_other : (b : ℕ) (bytes : List ℕ) (x r : ℕ) → begins (codes "/*") (b ∷ bytes) ≡ false → plain_len (b ∷ bytes) ≡ suc x
    → (begins (codes "//") (b ∷ bytes) ≡ true) ⊎ (begins (codes "//") (b ∷ bytes) ≡ false) → plain_len (b ∷ take (x + r) bytes) ≡ suc x
item_other b bytes x r h e (inl s) = let x : ⊥ = omega (arith, e, slash_plain b bytes s) in absurd x
item_other b bytes x r h e (inr s) =
    other_plain b (take (x + r) bytes) (begins_cut 47 47 b bytes (x + r) s) (begins_cut 47 42 b bytes (x + r) h)
    ∙ sym (other_plain b bytes s h) ∙ e

-- an item is the same where the bytes are cut behind it
item_cut : (b : ℕ) (bytes : List ℕ) (x r : ℕ) → plain_len (b ∷ bytes) ≡ suc x → plain_len (b ∷ take (x + r) bytes) ≡ suc x
item_cut b [] x r e = item_one b x r e
item_cut b (a ∷ bytes) x r e = go (decide (begins (codes "/*") (b ∷ a ∷ bytes)))
  where
    go : (begins (codes "/*") (b ∷ a ∷ bytes) ≡ true) ⊎ (begins (codes "/*") (b ∷ a ∷ bytes) ≡ false) → plain_len (b ∷ take (x + r) (a ∷ bytes)) ≡ suc x
    go (inl h) = item_comment b a bytes x r h e (some_or_none (comment_len (b ∷ a ∷ bytes)))
    go (inr h) = item_other b (a ∷ bytes) x r h e (decide (begins (codes "//") (b ∷ a ∷ bytes)))

abbrev Contained : ℕ → Type 0
Contained k = (bytes : List ℕ) → length bytes ≤ k → IsWhole (take (all_of plain_len bytes) bytes)

contained_item : (k x b : ℕ) (bytes : List ℕ) → Contained k → length bytes ≤ k → plain_len (b ∷ bytes) ≡ suc x → IsWhole (take (all_of plain_len (b ∷ bytes)) (b ∷ bytes))
contained_item k x b bytes more small e =
    let r = all_of plain_len (drop x bytes) in
    let size : all_of plain_len (b ∷ bytes) ≡ suc (x + r) = many_more plain_len refl x b bytes e ∙ (omega arith) in
    let rest : all_of plain_len (take r (drop x bytes)) ≡ length (take r (drop x bytes)) = more (drop x bytes) (omega (arith, small, length-drop x bytes)) in
    let behind : drop x (take (x + r) bytes) ≡ take r (drop x bytes) = drop-take x r bytes in
    let long : length (drop x (take (x + r) bytes)) ≡ length (take r (drop x bytes)) = ap length behind in
    let plain : all_of plain_len (drop x (take (x + r) bytes)) ≡ all_of plain_len (take r (drop x bytes)) = ap (λ t. all_of plain_len t) behind in
    let split = many_more plain_len refl x b (take (x + r) bytes) (item_cut b bytes x r e) in
    let within : x ≤ length (take (x + r) bytes) = plain_within b (take (x + r) bytes) x (item_cut b bytes x r e) in
    subst (λ n. IsWhole (take n (b ∷ bytes))) (sym size)
    (omega (arith, split, plain, rest, long, within, length-drop x (take (x + r) bytes)))

contained_turn : (k b : ℕ) (bytes : List ℕ) → Contained k → length bytes ≤ k → (x : ℕ) → plain_len (b ∷ bytes) ≡ x → IsWhole (take (all_of plain_len (b ∷ bytes)) (b ∷ bytes))
contained_turn k b bytes c small zero e = subst (λ n. IsWhole (take n (b ∷ bytes))) (sym (many_none plain_len b bytes e)) refl
contained_turn k b bytes c small (suc x) e = contained_item k x b bytes c small e

contained : (k : ℕ) → Contained k
contained k [] small = refl
contained zero (b ∷ bytes) small = let x : ⊥ = omega (arith, small) in absurd x
contained (suc k) (b ∷ bytes) small = contained_turn k b bytes (contained k) (omega (arith, small)) (plain_len (b ∷ bytes)) refl

-- the content of a line, and its parts
pub content_scan : (bytes : List ℕ) → Scan 1 (take (content_len bytes) bytes) (parts_of 1 (take (content_len bytes) bytes))
content_scan bytes = scan_whole 1 (take (content_len bytes) bytes) (contained (length bytes) bytes (omega arith))

-- ---- where parts stand

pub end_within : (at : ℕ) (bytes : List ℕ) (ps : List Part) → Scan at bytes ps → parts_end at ps ≤ at + length bytes
end_within at t v (Scan.ends _) = omega arith
end_within at t v (Scan.blank _ b bytes [] h s) = omega arith
end_within at t v (Scan.blank _ b bytes (p ∷ ps) h s) = omega (arith, end_within (at + 1) bytes (p ∷ ps) s)
end_within at t v (Scan.comment _ b a bytes n [] g h o s) = omega arith
end_within at t v (Scan.comment _ b a bytes n (p ∷ ps) g h o s) =
    omega (arith, end_within (at + suc (suc n)) (drop n bytes) (p ∷ ps) s, comment_within b a bytes n o, length-drop n bytes)
end_within at t v (Scan.part _ b bytes n ps g f h len s) =
    let fits : suc n ≤ suc (length bytes) = subst (λ l. l ≤ suc (length bytes)) len (part_within b bytes) in
    omega (arith, end_part at b bytes n ps len, end_within (at + suc n) (drop n bytes) ps s, fits, length-drop n bytes)

-- the first part, behind the blanks and comments before it
pub record From (at : ℕ) (bytes : List ℕ) (p : Part) (ps : List Part) : Type 0 where
  pub gap : ℕ
  pub stands : p.at ≡ at + gap
  pub scan : Scan (at + gap) (drop gap bytes) (p ∷ ps)

pub from_first : (at : ℕ) (bytes : List ℕ) (p : Part) (ps : List Part) → Scan at bytes (p ∷ ps) → From at bytes p ps
from_first at t w v (Scan.blank _ b bytes (p ∷ ps) h s) = go (from_first (at + 1) bytes p ps s)
  where
    go : From (at + 1) bytes p ps → From at (b ∷ bytes) p ps
    go f =
        let e : (at + 1) + f.gap ≡ at + suc f.gap = omega arith in
        record { gap = suc f.gap; stands = f.stands ∙ e; scan = subst (λ i. Scan i (drop f.gap bytes) (p ∷ ps)) e f.scan }
from_first at t w v (Scan.comment _ b a bytes n (p ∷ ps) g h o s) = go (from_first (at + suc (suc n)) (drop n bytes) p ps s)
  where
    go : From (at + suc (suc n)) (drop n bytes) p ps → From at (b ∷ a ∷ bytes) p ps
    go f =
        let e : (at + suc (suc n)) + f.gap ≡ at + (suc (suc n) + f.gap) = omega arith in
        let d : drop f.gap (drop n bytes) ≡ drop (suc (suc n) + f.gap) (b ∷ a ∷ bytes) = drop-drop f.gap (suc (suc n)) (b ∷ a ∷ bytes) in
        record {
          gap = suc (suc n) + f.gap;
          stands = f.stands ∙ e;
          scan = subst (λ t. Scan (at + (suc (suc n) + f.gap)) t (p ∷ ps)) d (subst (λ i. Scan i (drop f.gap (drop n bytes)) (p ∷ ps)) e f.scan);
        }
from_first at t w v (Scan.part _ b bytes n ps g f h len s) =
    let e : at ≡ at + 0 = omega arith in
    record { gap = 0; stands = e; scan = subst (λ i. Scan i (b ∷ bytes) (part_at at b bytes ∷ ps)) e (Scan.part at b bytes n ps g f h len s) }

-- the parts behind the first
pub record Behind (at : ℕ) (bytes : List ℕ) (ps : List Part) : Type 0 where
  pub size : ℕ
  pub scan : Scan (at + size) (drop size bytes) ps

pub behind_first : (at : ℕ) (bytes : List ℕ) (p : Part) (ps : List Part) → Scan at bytes (p ∷ ps) → Behind at bytes ps
behind_first at t w v (Scan.blank _ b bytes (p ∷ ps) h s) = go (behind_first (at + 1) bytes p ps s)
  where
    go : Behind (at + 1) bytes ps → Behind at (b ∷ bytes) ps
    go f =
        let e : (at + 1) + f.size ≡ at + suc f.size = omega arith in
        record { size = suc f.size; scan = subst (λ i. Scan i (drop f.size bytes) ps) e f.scan }
behind_first at t w v (Scan.comment _ b a bytes n (p ∷ ps) g h o s) = go (behind_first (at + suc (suc n)) (drop n bytes) p ps s)
  where
    go : Behind (at + suc (suc n)) (drop n bytes) ps → Behind at (b ∷ a ∷ bytes) ps
    go f =
        let e : (at + suc (suc n)) + f.size ≡ at + (suc (suc n) + f.size) = omega arith in
        let d : drop f.size (drop n bytes) ≡ drop (suc (suc n) + f.size) (b ∷ a ∷ bytes) = drop-drop f.size (suc (suc n)) (b ∷ a ∷ bytes) in
        record {
          size = suc (suc n) + f.size;
          scan = subst (λ t. Scan (at + (suc (suc n) + f.size)) t ps) d (subst (λ i. Scan i (drop f.size (drop n bytes)) ps) e f.scan);
        }
behind_first at t w v (Scan.part _ b bytes n ps g f h len s) = record { size = suc n; scan = s }
