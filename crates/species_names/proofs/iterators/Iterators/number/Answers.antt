use Rattle.std.proofs.Common.{rules, ◌≡◌, ◌∙◌, sym, ap, subst, ◌+◌, ◌-◌, ◌≤◌, length}
use Rattle.species_ast.specs.Scope.Meanings.{count_before}
use Rattle.species_names.proofs.CountLaws.{count_most, looked_up}
use Rattle.species_names.proofs.iterators.Iterators.number.Goals as goal

pub overflow_add-result : goal.overflow_add-result
overflow_add-result c =
    let its = c.self.inside.serials.items in
    let found = c.index-else-n-last.result.now in
    let size = c.len-last.result in
    let long : c.len-last.result ≡ length c.self.inside.before.items = search rules in
    let count : found + (c.args.serial - (size - 1)) ≡ count_before its c.args.serial =
    looked_up its c.self.inside.before.items c.args.serial size found c.self.invariant long c.if-n-last.false c.index-else-n-last.ensures in
    let most : found + (c.args.serial - (size - 1)) ≤ c.args.serial = subst (λ n. n ≤ c.args.serial) (sym count) (count_most its c.args.serial) in
    search rules

pub returns-else-n-last : goal.returns-else-n-last
returns-else-n-last c =
    let long : c.len-last.result ≡ length c.self.inside.before.items = search rules in
    looked_up c.self.inside.serials.items c.self.inside.before.items c.args.serial c.len-last.result c.index-else-n-last.result.now
    c.self.invariant long c.if-n-last.false c.index-else-n-last.ensures
    ∙ ap (λ its. count_before its c.args.serial) c.self.view_is
