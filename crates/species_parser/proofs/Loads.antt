-- The load of a list of tokens, while it is counted.
use Rattle.std.proofs.Common.{◌≡◌, ◌∙◌, ap, sym, refl, ℕ, ◌+◌, ◌-◌, ◌≤◌, Bool, true, false, ◌&&◌, not, cond, List, [], ◌∷◌, codes, Some, arith, max}
use Rattle.std.proofs.lemmas.Bool.{le-ltb}
use Rattle.species_ast.specs.Token.{Token}
use Rattle.species_ast.specs.Limits.{most_load}
use Rattle.species_ast.specs.Text.Load.{Load, is_spelled, block_load, closed_blocks, counted, ends_statement, is_else_next, settled, first_above, load_refusal}

abbrev pub highest : List ℕ → ℕ
highest [] = 0
highest (n ∷ ns) = max n (highest ns)

-- The load says of the tokens that are left what no load says of all, and is within its limit.
pub record Counts (all left : List Token) (l : Load) : Type 0 where
  pub same : first_above most_load l left ≡ load_refusal all
  pub small : l.load ≤ most_load
  pub blocks : highest l.blocks ≤ most_load

closed_lower : (ns : List ℕ) → highest (closed_blocks ns) ≤ highest ns
closed_lower [] = omega arith
closed_lower (n ∷ ns) = omega arith

last_lower : (ns : List ℕ) → block_load ns ≤ highest ns
last_lower [] = omega arith
last_lower (n ∷ ns) = omega arith

-- what a token does to a load, by what it opens or closes
pub record CountedTo (l after : Load) : Type 0 where
  pub load : after.load ≡ l.load + 1
  pub blocks : highest after.blocks ≤ max (l.load + 1) (highest l.blocks)

abbrev by_tests : Bool → Bool → Bool → Bool → Load → Load
by_tests opens closes begins ends l =
    let load = l.load + 1 in
    cond opens (record l { load = load; blocks = load ∷ l.blocks })
    (cond closes (record l { load = load; blocks = closed_blocks l.blocks })
    (cond begins (record l { load = load; brackets = l.brackets + 1 }) (cond ends (record l { load = load; brackets = l.brackets - 1 }) (record l { load = load }))))

by_tests_counted : (opens closes begins ends : Bool) (l : Load) → CountedTo l (by_tests opens closes begins ends l)
by_tests_counted true closes begins ends l = record { load = refl; blocks = omega arith }
by_tests_counted false true begins ends l = record { load = refl; blocks = omega (arith, closed_lower l.blocks) }
by_tests_counted false false true ends l = record { load = refl; blocks = omega arith }
by_tests_counted false false false true l = record { load = refl; blocks = omega arith }
by_tests_counted false false false false l = record { load = refl; blocks = omega arith }

pub counted_to : (t : Token) (l : Load) → CountedTo l (counted t l)
counted_to t l = by_tests_counted (is_spelled t (codes "{")) (is_spelled t (codes "}")) (is_spelled t (codes "(")) (is_spelled t (codes ")")) l

within : (t : Token) (ts : List Token) (l : Load) → (counted t l).load ≤ most_load → first_above most_load l (t ∷ ts) ≡ first_above most_load (settled t ts (counted t l)) ts
within t ts l le = ap (λ b. cond b (Some t.place) (first_above most_load (settled t ts (counted t l)) ts)) (le-ltb most_load (counted t l).load le)

-- what the end of a statement does to a load
record SettledTo (l after : Load) : Type 0 where
  load : after.load ≤ max l.load (highest l.blocks)
  blocks : after.blocks ≡ l.blocks

settled_by : (b : Bool) (l : Load) → SettledTo l (cond b (record l { load = block_load l.blocks }) l)
settled_by true l = record { load = omega (arith, last_lower l.blocks); blocks = refl }
settled_by false l = record { load = omega arith; blocks = refl }

settled_to : (t : Token) (ts : List Token) (l : Load) → SettledTo l (settled t ts l)
settled_to t ts l = settled_by (ends_statement t l && not (is_else_next ts)) l

pub counts_next : (all ts : List Token) (t : Token) (l after next : Load) → Counts all (t ∷ ts) l → after ≡ counted t l → after.load ≤ most_load → next ≡ settled t ts after
    → Counts all ts next
counts_next all ts t l after next h e small f =
    let n : next ≡ settled t ts (counted t l) = f ∙ ap (settled t ts) e in
    let c = counted_to t l in
    let k : (counted t l).load ≤ most_load = omega (arith, ap (λ z. z.load) e) in
    let s = settled_to t ts (counted t l) in
    record {
      same = ap (λ z. first_above most_load z ts) n ∙ sym (within t ts l k) ∙ h.same;
      small = omega (arith, ap (λ z. z.load) n, s.load, c.load, c.blocks, h.small, h.blocks);
      blocks = omega (arith, ap (λ z. highest z.blocks) n, ap highest s.blocks, c.load, c.blocks, h.small, h.blocks);
    }
