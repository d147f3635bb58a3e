-- The goals of `place_of` that need an answer.
use Rattle.std.proofs.Common.{rules, ◌≡◌, ◌∙◌, ap, sym, true}
use Rattle.std.specs.Prelude.{bytes_eq}
use Rattle.species_notation.specs.Written.{name_at}
use Rattle.species_notation.proofs.GivenForms.{named, place_found, place_missing}
use Rattle.species_notation.proofs.meaning.place_of.Goals as goal

pub returns-then-eq : goal.returns-then-eq
returns-then-eq c =
    let name = c.args.name.now in
    let names = c.args.names.now in
    let i = c.loop-number.number in
    let is : c.as_slice.result.now ≡ name_at names i = c.as_slice.ensures ∙ named names i c.index-names-number.result (search rules) c.index-names-number.is in
    let same : bytes_eq name c.as_slice.result.now ≡ true = search rules in
    sym (place_found name names i (search rules) c.loop-number.invariant (sym (ap (bytes_eq name) is) ∙ same))

pub returns : goal.returns
returns c = sym (place_missing c.args.name.now c.args.names.now c.loop-number.number (search rules) c.loop-number.invariant)
