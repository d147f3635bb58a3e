-- The goals of `coefficient_at` that need an answer.
use Rattle.std.proofs.Common.{rules, ◌≡◌, ◌∙◌, ap, sym, take, true, false, to_z, of_z}
use Rattle.std.specs.Prelude.{bytes_eq}
use Rattle.std.specs.List.{list_any}
use Rattle.std.specs.Int.{w128}
use Rattle.std.proofs.lemmas.Int.{to_z-of_z}
use Rattle.species_notation.specs.Meaning.{coefficient_in}
use Rattle.species_notation.specs.Written.{name_at}
use Rattle.species_notation.proofs.GivenForms.{named, seen_before, seen_first}
use Rattle.species_notation.proofs.meaning.coefficient_at.Goals as goal

pub returns-then-is_among : goal.returns-then-is_among
returns-then-is_among c =
    let iters = c.args.iters.now in
    let level = c.args.level in
    let is : c.as_slice-name.result.now ≡ name_at iters level = c.as_slice-name.ensures ∙ named iters level c.index-iters-level.result (search rules) c.index-iters-level.is in
    let among : list_any (bytes_eq c.as_slice-name.result.now) (take level iters) ≡ true = search rules in
    seen_before (name_at iters level) (take level iters) c.args.sums.now.names (ap (λ w. list_any (bytes_eq w) (take level iters)) (sym is) ∙ among)

pub returns-else-is_among : goal.returns-else-is_among
returns-else-is_among c =
    let iters = c.args.iters.now in
    let level = c.args.level in
    let z = c.coefficient.result in
    let is : c.as_slice-name.result.now ≡ name_at iters level = c.as_slice-name.ensures ∙ named iters level c.index-iters-level.result (search rules) c.index-iters-level.is in
    let among : list_any (bytes_eq c.as_slice-name.result.now) (take level iters) ≡ false = search rules in
    let whole : to_z w128 (of_z w128 z) ≡ z = to_z-of_z w128 z (search rules) in
    whole
    ∙ seen_first (name_at iters level) (take level iters) c.args.sums.now.names z (ap (λ w. list_any (bytes_eq w) (take level iters)) (sym is) ∙ among)
    (c.coefficient.ensures.value ∙ ap (λ w. coefficient_in w c.args.sums.now.names) is)
