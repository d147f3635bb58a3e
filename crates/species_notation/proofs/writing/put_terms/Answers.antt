use Rattle.std.proofs.Common.{◌∙◌, ap, append_assoc, map, take, sym, pos, ◌++◌, List, ℕ, slice_index_or, nat_eq}
use Rattle.species_linear.specs.declared.forms.Term.{Term}
use Rattle.species_notation.specs.Parts.{parts_text}
use Rattle.species_notation.specs.Spelled.{summand_parts, summands_parts}
use Rattle.species_notation.specs.Written.{written_term}
use Rattle.species_notation.proofs.Texts.{summands_next}
use Rattle.species_notation.proofs.writing.put_terms.Goals as goal

pub loop-index-preserved : goal.loop-index-preserved
loop-index-preserved c =
    let nothing : Term = record { level = 0; coefficient = pos 0 } in
    let next = summands_next (written_term c.args.iters.now) c.args.terms.now c.loop-index.index nothing c.loop-index-test.true in
    let front : List ℕ = parts_text (summands_parts (map (written_term c.args.iters.now) (take c.loop-index.index c.args.terms.now))) in
    let text : List ℕ = parts_text (summand_parts (nat_eq c.loop-index.index 0) (written_term c.args.iters.now (slice_index_or c.args.terms.now c.loop-index.index nothing))) in
    c.in_ok-put_term.ensures
    ∙ ap (λ (l : List ℕ). l ++ text) c.loop-index.invariant
    ∙ append_assoc c.args.out.now.items front text
    ∙ ap (λ (l : List ℕ). c.args.out.now.items ++ l) (sym next)
