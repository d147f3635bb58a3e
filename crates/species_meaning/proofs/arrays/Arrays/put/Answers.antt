use Rattle.std.proofs.Common.{rules, arith, ap, sym, ◌∙◌, ◌≡◌, ◌≤◌, length}
use Rattle.std.proofs.lemmas.List.{length-map}
use Rattle.species_ast.specs.Accesses.{change}
use Rattle.species_meaning.proofs.Elements.{set_change, change_none, changed_row}
use Rattle.species_meaning.proofs.arrays.Arrays.put.Goals as goal

pub returns-then-at-len : goal.returns-then-at-len
returns-then-at-len c n h =
    let below : c.args.at ≡ n = omega (arith, h) in
    let row = c.index_mut-row.result.now in
    changed_row (λ r. r.items) c.self.inside.rows.items c.args.self.now c.args.array n row _ (λ x. c.args.value)
    c.self.view_is c.index_mut-row.ensures.value (search rules)
    (set_change row.items c.args.at c.args.value ∙ ap (λ k. change row.items k (λ x. c.args.value)) below)

pub returns-else-at-len : goal.returns-else-at-len
returns-else-at-len c n h =
    let row = c.index_mut-row.result.now in
    let past : length row.items ≤ n = search (rules, arith, h) in
    changed_row (λ r. r.items) c.self.inside.rows.items c.args.self.now c.args.array n row _ (λ x. c.args.value)
    c.self.view_is c.index_mut-row.ensures.value (search rules)
    (sym (change_none row.items n (λ x. c.args.value) past))

pub returns-else-array-len : goal.returns-else-array-len
returns-else-array-len c n h =
    let same : length c.args.self.now ≡ length c.self.inside.rows.items = ap length (sym c.self.view_is) ∙ length-map _ _ in
    let past : length c.args.self.now ≤ c.args.array = search (rules, same) in
    sym (change_none c.args.self.now c.args.array (λ row. change row n (λ x. c.args.value)) past)
