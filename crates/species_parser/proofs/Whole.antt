-- The readers decide the grammar.
use Rattle.std.proofs.Common.{◌≡◌, ◌∙◌, sym, refl, ℕ, suc, ◌<◌, List, [], length, arith, inl, inr}
use Rattle.species_grammar.specs.Reader.{Answer}
use Rattle.species_grammar.specs.Lawful.{plain}
use Rattle.species_grammar.specs.Whole.{whole, StopsBefore, DecidesGrammar}
use Rattle.species_grammar.proofs.Whole.{decides, whole_enough, one_stop}
use Rattle.species_ast.specs.Token.{Token}
use Rattle.species_ast.specs.Grammar.Units.{TranslationUnit, Derives, SyntaxErrorBefore}
use Rattle.species_ast.specs.Grammar.Law.{DerivesOrErrs, DerivesOneWay}
use Rattle.species_ast.specs.declared.raw.RawUnit.{RawUnit}
use Rattle.species_parser.specs.Reading.{unit_at}
use Rattle.species_parser.proofs.UnitLaws.{UnitBefore, unit_lawful}
use Rattle.species_parser.proofs.Depth.{unit_under}
use Rattle.species_parser.proofs.Enough.{unit_enough}

pub unit_decides : DecidesGrammar unit_at TranslationUnit
unit_decides = decides unit_at (plain TranslationUnit) UnitBefore TranslationUnit unit_lawful unit_under (λ n x ts d lt. (d, lt))

pub one_unit : (ts : List Token) (u w : RawUnit) → Derives ts u → Derives ts w → u ≡ w
one_unit ts u w d e = unit_decides.unique ts u w d e

stop_of : (ts back : List Token) → SyntaxErrorBefore ts back → StopsBefore TranslationUnit ts back
stop_of ts back s = record { front = s.front; is = s.is; viable = s.viable; dead = s.dead }

pub one_place : (ts b c : List Token) → SyntaxErrorBefore ts b → SyntaxErrorBefore ts c → b ≡ c
one_place ts b c s t = one_stop TranslationUnit ts b c (stop_of ts b s) (stop_of ts c t)

-- what the reader says, at a depth above the number of tokens
pub read_derives : (n : ℕ) (ts : List Token) (u : RawUnit) → whole (unit_at n) ts ≡ Answer.read u [] → Derives ts u
read_derives n ts u h = unit_decides.sound n ts u [] h

pub stuck_errs : (n : ℕ) (ts back : List Token) → length ts < n → whole (unit_at n) ts ≡ Answer.stuck back → SyntaxErrorBefore ts back
stuck_errs n ts back lt h =
    let s = unit_decides.place n ts back h in
    record { underived = λ u d. differ u (sym h ∙ unit_decides.complete n ts u d lt); front = s.front; is = s.is; viable = s.viable; dead = s.dead }
  where
    differ : (u : RawUnit) → Path (Answer Token RawUnit) (Answer.stuck back) (Answer.read u []) → ⊥
    differ u e = cc

pub derives_or_errs : (ts : List Token) → DerivesOrErrs ts
derives_or_errs ts = go (whole (unit_at (suc (length ts))) ts) refl
  where
    fits : length ts < suc (length ts)
    fits = omega arith

    go : (o : Answer Token RawUnit) → whole (unit_at (suc (length ts))) ts ≡ o → DerivesOrErrs ts
    go (Answer.read u rest) h = inl (u, unit_decides.sound (suc (length ts)) ts u rest h)
    go (Answer.stuck back) h = inr (back, stuck_errs (suc (length ts)) ts back fits h)
    go Answer.shallow h = absurd (whole_enough (unit_at (suc (length ts))) (suc (length ts)) (unit_enough (suc (length ts))) ts fits h)

pub derives_one_way : DerivesOneWay
derives_one_way = record { at_least_one = derives_or_errs; at_most_one = one_unit; one_place = one_place }
