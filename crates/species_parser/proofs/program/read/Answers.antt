-- The goals of `read` that need an answer.
use Rattle.std.proofs.Common.{◌≡◌, ap, ◌∙◌, subst, ℕ, List, length, Option, None, Result}
use Rattle.std.proofs.lemmas.Result.{err_from_is_err_and}
use Rattle.species_grammar.specs.Whole.{whole}
use Rattle.species_ast.specs.Token.{Token}
use Rattle.species_ast.specs.Text.Load.{load_refusal}
use Rattle.species_ast.specs.declared.raw.RawUnit.{RawUnit}
use Rattle.species_parser.specs.declared.refusal.TableRefusal.{TableRefusal}
use Rattle.species_parser.specs.Given.{seen_tokens}
use Rattle.species_parser.specs.Finished.{GivesWhole}
use Rattle.species_parser.specs.Parsing.{unit}
use Rattle.species_parser.specs.Parsed.{Answers}
use Rattle.species_parser.specs.Tabled.{as_parsed}
use Rattle.species_parser.proofs.Answering.{Listed, answers_err, answers_load, answers_whole}
use Rattle.species_parser.proofs.program.read.Goals as goal

-- the tokens are gone over twice
answers_unit : (text : List ℕ) (all ts us : List Token) (o : Option ℕ) → Listed text all → ts ≡ all → us ≡ all → o ≡ load_refusal ts → o ≡ None
    → (r : Result RawUnit TableRefusal) → GivesWhole (length text) r (whole unit us) → Answers text (as_parsed r)
answers_unit text all ts us o l e f load none r h =
    answers_whole text all o l (load ∙ ap load_refusal e) none r (subst (λ z. GivesWhole (length text) r (whole unit z)) f h)

pub returns-in_err-tokens : goal.returns-in_err-tokens
returns-in_err-tokens c =
    let p = err_from_is_err_and c.from_residual.result c.from_residual.ensures.1 in
    rw (p.1, p.2) (answers_err c.args.bytes.now c.in_err-tokens.field-0.0 c.in_err-tokens.ensures)

pub returns-in-Some : goal.returns-in-Some
returns-in-Some c =
    answers_load c.args.bytes.now c.listed.result c.in_ok-place.field-0 c.in-Some.place
    (record { refusal = c.in_ok-tokens.ensures.0; tokens = c.listed.ensures ∙ ap seen_tokens c.deref.ensures.value ∙ c.in_ok-tokens.ensures.1 }) c.in_ok-place.ensures c.in-Some.is

pub returns-in_err-whole_unit-in-None : goal.returns-in_err-whole_unit-in-None
returns-in_err-whole_unit-in-None c =
    let p = err_from_is_err_and c.from_residual-in_err-whole_unit-in-None.result c.from_residual-in_err-whole_unit-in-None.ensures.1 in
    rw (p.1, p.2)
    (subst (λ z. Answers c.args.bytes.now (as_parsed z)) c.in_err-whole_unit-in-None.was
    (answers_unit c.args.bytes.now (seen_tokens c.in_ok-tokens.tokens.items) c.listed.result c.listed-in-None.result c.in_ok-place.field-0
    (record { refusal = c.in_ok-tokens.ensures.0; tokens = c.in_ok-tokens.ensures.1 }) (c.listed.ensures ∙ ap seen_tokens c.deref.ensures.value)
    (c.listed-in-None.ensures ∙ ap seen_tokens c.deref-in-None.ensures.value) c.in_ok-place.ensures c.in-None.is c.whole_unit.result c.whole_unit.ensures))

pub returns : goal.returns
returns c =
    subst (λ z. Answers c.args.bytes.now (as_parsed z)) c.in_ok-whole_unit-in-None.was
    (answers_unit c.args.bytes.now (seen_tokens c.in_ok-tokens.tokens.items) c.listed.result c.listed-in-None.result c.in_ok-place.field-0
    (record { refusal = c.in_ok-tokens.ensures.0; tokens = c.in_ok-tokens.ensures.1 }) (c.listed.ensures ∙ ap seen_tokens c.deref.ensures.value)
    (c.listed-in-None.ensures ∙ ap seen_tokens c.deref-in-None.ensures.value) c.in_ok-place.ensures c.in-None.is c.whole_unit.result c.whole_unit.ensures)
