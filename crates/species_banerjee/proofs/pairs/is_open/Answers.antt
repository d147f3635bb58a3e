use Rattle.std.specs.Int.Signed.{le_z, lt_z}
use Rattle.std.proofs.Common.{true, ◌≤ℤ◌, ◌<ℤ◌, ◌≡◌, ℤ, FitsSigned, arith, rules}
use Rattle.std.proofs.lemmas.Int.{ints, to_z-of_z}
use Rattle.std.specs.Int.{w128}
use Rattle.species_banerjee.specs.declared.pairs.Entry.TheVariants.{Equal, Less, Greater}
use Rattle.species_banerjee.proofs.Corners.{shared_by, open_equal, open_less, open_greater, open_any}
use Rattle.species_banerjee.proofs.Regroup.{never_both}
use Rattle.species_banerjee.proofs.pairs.is_open.Goals as goal

le_from : (a b : ℤ) → le_z a b ≡ true → a ≤ℤ b
le_from a b h = grind (arith, ints)

le_to : (a b : ℤ) → a ≤ℤ b → le_z a b ≡ true
le_to a b h = grind (arith, ints)

lt_from : (a b : ℤ) → lt_z a b ≡ true → a <ℤ b
lt_from a b h = grind (arith, ints)

lt_to : (a b : ℤ) → a <ℤ b → lt_z a b ≡ true
lt_to a b h = grind (arith, ints)

pub returns-in-Equal : goal.returns-in-Equal
returns-in-Equal c =
    let law = open_equal c.args.loops c.span_of-s.result.first c.span_of-s.result.last c.in-Equal.is (shared_by c.args.loops Equal c.in-Equal.is c.requires.same) c.span_of-s.ensures in
    let first : FitsSigned w128 c.span_of-s.result.first = search rules in
    let last : FitsSigned w128 c.span_of-s.result.last = search rules in
    simp to_z-of_z ((λ t. law.1 (le_from c.span_of-s.result.first c.span_of-s.result.last t)), (λ o. le_to c.span_of-s.result.first c.span_of-s.result.last (law.0 o)))

pub returns-in-Less : goal.returns-in-Less
returns-in-Less c =
    let law = open_less c.args.loops c.span_of-s.result.first c.span_of-s.result.last c.in-Less.is (shared_by c.args.loops Less c.in-Less.is c.requires.same) c.span_of-s.ensures in
    let first : FitsSigned w128 c.span_of-s.result.first = search rules in
    let last : FitsSigned w128 c.span_of-s.result.last = search rules in
    simp to_z-of_z ((λ t. law.1 (lt_from c.span_of-s.result.first c.span_of-s.result.last t)), (λ o. lt_to c.span_of-s.result.first c.span_of-s.result.last (law.0 o)))

pub returns-in-Greater : goal.returns-in-Greater
returns-in-Greater c =
    let law = open_greater c.args.loops c.span_of-s.result.first c.span_of-s.result.last c.in-Greater.is (shared_by c.args.loops Greater c.in-Greater.is c.requires.same) c.span_of-s.ensures in
    let first : FitsSigned w128 c.span_of-s.result.first = search rules in
    let last : FitsSigned w128 c.span_of-s.result.last = search rules in
    simp to_z-of_z ((λ t. law.1 (lt_from c.span_of-s.result.first c.span_of-s.result.last t)), (λ o. lt_to c.span_of-s.result.first c.span_of-s.result.last (law.0 o)))

pub returns-then-s : goal.returns-then-s
returns-then-s c =
    let first : FitsSigned w128 c.span_of-s.result.first = search rules in
    let last : FitsSigned w128 c.span_of-s.result.last = search rules in
    let left : FitsSigned w128 c.span_of-t.result.first = search rules in
    let right : FitsSigned w128 c.span_of-t.result.last = search rules in
    let law = open_any c.args.loops c.span_of-s.result.first c.span_of-s.result.last c.span_of-t.result.first c.span_of-t.result.last c.in-Any.is c.span_of-s.ensures c.span_of-t.ensures in
    let full = le_from c.span_of-s.result.first c.span_of-s.result.last (simp to_z-of_z at c.if-s.true) in
    simp to_z-of_z (
      (λ t. law.1 (full, le_from c.span_of-t.result.first c.span_of-t.result.last t)),
      (λ o. le_to c.span_of-t.result.first c.span_of-t.result.last (law.0 o).1),
    )

pub returns-else-s : goal.returns-else-s
returns-else-s c =
    let first : FitsSigned w128 c.span_of-s.result.first = search rules in
    let last : FitsSigned w128 c.span_of-s.result.last = search rules in
    let law = open_any c.args.loops c.span_of-s.result.first c.span_of-s.result.last c.span_of-t.result.first c.span_of-t.result.last c.in-Any.is c.span_of-s.ensures c.span_of-t.ensures in
    let not_full = simp to_z-of_z at c.if-s.false in
    simp to_z-of_z (
      (λ t. absurd (never_both _ t not_full)),
      (λ o. le_to c.span_of-s.result.first c.span_of-s.result.last (law.0 o).0),
    )
