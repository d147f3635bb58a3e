-- One array, of its parts.
use Rattle.std.proofs.Common.{rules, ◌≡◌, ◌∙◌, refl, ◌++◌, ◌∷◌, [], length}
use Rattle.species_scope.specs.Declaring.{sizes_of}
use Rattle.species_scope.proofs.DeclaringLaws.{one_array}
use Rattle.species_scope.proofs.globals.declare_array.Goals as goal

pub returns : goal.returns
returns c =
    let h = c.args.heads.now in
    let a = c.args.raw.now in
    let dims : c.from_vec-dims.result ≡ sizes_of c.as_slice.result.now c.note_declared.new.b.place = c.from_vec-dims.ensures ∙ c.in_ok-sizes.ensures.value in
    let number : c.in_ok-number.number ≡ length h.arrays = search rules in
    let count : c.in_ok-count.count ≡ length c.as_slice.result.now = search rules in
    let arrays : c.push.new.self ≡ h.arrays ++ record { name = a.name.text; kind = c.args.kind; dims = c.from_vec-dims.result } ∷ [] = search rules in
    let places : c.push-2.new.self ≡ h.places ++ a.name.place ∷ [] = search rules in
    (λ i. record h { builder = record c.sizes.new.b { place = c.declare.new.self }; arrays = arrays i; places = places i })
    ∙ one_array h c.args.kind a a.name c.as_slice.result.now c.note_declared.new.b c.sizes.new.b c.declare.new.self c.from_vec-dims.result c.in_ok-number.number c.in_ok-count.count
    refl c.as_slice.ensures c.note_declared.ensures dims c.in_ok-sizes.ensures.state number count c.in_ok-declare.ensures
