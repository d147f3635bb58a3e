-- The goals of `given_form` that need an answer.
use Rattle.std.proofs.Common.{rules, ◌≡◌, ◌∙◌, ap, ◌++◌, [], to_z, of_z}
use Rattle.std.specs.Int.{w128}
use Rattle.std.proofs.lemmas.Int.{to_z-of_z}
use Rattle.species_notation.specs.Meaning.{put_term, terms_from}
use Rattle.species_notation.proofs.GivenForms.{terms_next, below_next}
use Rattle.species_notation.proofs.meaning.given_form.Goals as goal

pub loop-level-preserved : goal.loop-level-preserved
loop-level-preserved c =
    let i = c.loop-level.level in
    let z = c.coefficient_at.result in
    let terms = c.loop-level.terms in
    let new = c.put_term.new.terms in
    let whole : to_z w128 (of_z w128 z) ≡ z = to_z-of_z w128 z (search rules) in
    let put : new ≡ terms ++ put_term i z [] = c.in_ok-put_term.ensures.ok ∙ ap (λ y. terms ++ put_term i y []) whole in (
      terms_next c.args.iters.now i c.args.sums.now.names (terms_from 0 c.args.iters.now c.args.sums.now.names) terms new (search rules) c.loop-level.invariant.0
          (put ∙ ap (λ y. terms ++ put_term i y []) c.coefficient_at.ensures),
      below_next terms new i z c.loop-level.invariant.1 put,
    )
