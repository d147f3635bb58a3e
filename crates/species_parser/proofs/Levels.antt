-- Going down the levels of binary operators.
use Rattle.std.proofs.Common.{◌≡◌, ◌∙◌, ap, sym, subst, ℕ, zero, suc, ◌-◌, ◌<◌, ◌≤◌, List, arith}
use Rattle.species_grammar.specs.Reader.{Answer, ◌>>=◌}
use Rattle.species_ast.specs.Token.{Token}
use Rattle.species_ast.specs.declared.raw.RawExpr.{RawExpr}
use Rattle.species_parser.specs.Parsing.{binary, binary_tail}
use Rattle.species_parser.proofs.Forms.{binary_down}

-- what a level reads is what the next one reads, and the operators of the level behind it
pub binary_turn : (level current : ℕ) → 1 ≤ level → level < current → current ≤ 11 → (ts us : List Token) (left : RawExpr) → binary current ts ≡ Answer.read left us
    → binary (current - 1) ts ≡ binary_tail (current - 1) left us
binary_turn level zero lo lt hi ts us left e = absurd (omega (arith, lt))
binary_turn level (suc n) lo lt hi ts us left e =
    let least : 1 ≤ n = omega (arith, lo, lt) in
    let most : n ≤ 10 = omega (arith, hi) in
    let same : suc n - 1 ≡ n = omega arith in
    subst (λ m. binary m ts ≡ binary_tail m left us) (sym same) (binary_down n least most ts ∙ ap (λ a. a >>= binary_tail n) e)
