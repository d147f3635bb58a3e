-- Text that is added in pieces.
use Rattle.std.proofs.Common.{◌≡◌, ◌∙◌, ◌++◌, append_assoc, append-nil, ap, sym, ℕ, suc, ◌+◌, ◌-◌, ◌<◌, ◌≤◌, List, [], arith}
use Rattle.std.specs.Prelude.{codes}
use Rattle.species_drill.specs.Program.{next, nest_text, nests_text, front, program_text}
use Rattle.species_drill.specs.Summary.{named, summary_line}
use Rattle.species_drill.specs.declared.counts.Counts.{Counts}

pub then_two : (o s t a b : List ℕ) → s ≡ o ++ a → t ≡ s ++ b → t ≡ o ++ (a ++ b)
then_two o s t a b h k = k ∙ ap (λ x. x ++ b) h ∙ append_assoc o a b

pub then_three : (o r s t a b c : List ℕ) → r ≡ o ++ a → s ≡ r ++ b → t ≡ s ++ c → t ≡ o ++ (a ++ (b ++ c))
then_three o r s t a b c g h k = then_two o r t a (b ++ c) g (then_two r s t b c h k)

pub then_four : (o q r s t a b c d : List ℕ) → q ≡ o ++ a → r ≡ q ++ b → s ≡ r ++ c → t ≡ s ++ d → t ≡ o ++ (a ++ (b ++ (c ++ d)))
then_four o q r s t a b c d f g h k = then_two o q t a (b ++ (c ++ d)) f (then_three q r s t b c d g h k)

-- ---- the summary, whose counts of 32 bits are widened first

widened : (o s name : List ℕ) (m n : ℕ) → s ≡ o ++ named name m → m ≡ n → s ≡ o ++ named name n
widened o s name m n put same = put ∙ ap (λ k. o ++ named name k) same

pub summary_whole : (k : Counts) (o p q r s t u line : List ℕ) (a b c d e : ℕ) → o ≡ []
    → a ≡ k.nests → b ≡ k.parallel → c ≡ k.sequential → d ≡ k.shared → e ≡ k.joined
    → p ≡ o ++ named (codes "nests ") a → q ≡ p ++ named (codes " parallel ") b → r ≡ q ++ named (codes " sequential ") c
    → s ≡ r ++ named (codes " shared ") d → t ≡ s ++ named (codes " joined ") e → u ≡ t ++ named (codes " bytes ") k.bytes
    → line ≡ u ++ codes "\n" → line ≡ summary_line k
summary_whole k o p q r s t u line a b c d e nothing a_is b_is c_is d_is e_is p_is q_is r_is s_is t_is u_is line_is =
    let sixth = named (codes " bytes ") k.bytes ++ codes "\n" in
    let fifth = named (codes " joined ") k.joined ++ sixth in
    let fourth = named (codes " shared ") k.shared ++ fifth in
    let third = named (codes " sequential ") k.sequential ++ fourth in
    let second = named (codes " parallel ") k.parallel ++ third in
    let six : line ≡ t ++ sixth = then_two t u line (named (codes " bytes ") k.bytes) (codes "\n") u_is line_is in
    let five : line ≡ s ++ fifth = then_two s t line (named (codes " joined ") k.joined) sixth (widened s t (codes " joined ") e k.joined t_is e_is) six in
    let four : line ≡ r ++ fourth = then_two r s line (named (codes " shared ") k.shared) fifth (widened r s (codes " shared ") d k.shared s_is d_is) five in
    let three : line ≡ q ++ third = then_two q r line (named (codes " sequential ") k.sequential) fourth (widened q r (codes " sequential ") c k.sequential r_is c_is) four in
    let two : line ≡ p ++ second = then_two p q line (named (codes " parallel ") k.parallel) third (widened p q (codes " parallel ") b k.parallel q_is b_is) three in
    then_two o p line (named (codes "nests ") k.nests) second (widened o p (codes "nests ") a k.nests p_is a_is) two
    ∙ ap (λ x. x ++ (named (codes "nests ") k.nests ++ second)) nothing

-- ---- the nests

pub nest_turn : (nests made x y : ℕ) (all text grown : List ℕ) → made < nests → y ≡ next x
    → all ≡ text ++ nests_text (nests - made) x → grown ≡ text ++ nest_text y
    → all ≡ grown ++ nests_text (nests - (made + 1)) y
nest_turn nests made x y all text grown lt y_is is put =
    let left : nests - made ≡ suc (nests - (made + 1)) = omega arith in
    let behind = nests_text (nests - (made + 1)) in
    is ∙ ap (λ n. text ++ nests_text n x) left
    ∙ ap (λ z. text ++ (nest_text z ++ behind z)) (sym y_is)
    ∙ sym (append_assoc text (nest_text y) (behind y))
    ∙ ap (λ t. t ++ behind y) (sym put)

pub program_whole : (nests from made x : ℕ) (text whole : List ℕ) → nests ≤ made
    → front ++ nests_text nests from ≡ text ++ nests_text (nests - made) x
    → whole ≡ text ++ codes "}\n" → whole ≡ program_text nests from
unfolding program_text
program_whole nests from made x text whole ended is put =
    let none : nests - made ≡ 0 = omega arith in
    let all : front ++ nests_text nests from ≡ text = is ∙ ap (λ n. text ++ nests_text n x) none ∙ append-nil text in
    put ∙ ap (λ t. t ++ codes "}\n") (sym all) ∙ append_assoc front (nests_text nests from) (codes "}\n")
