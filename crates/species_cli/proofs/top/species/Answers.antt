use Rattle.std.proofs.Common.{arith, ap, refl, inl, inr, ◌≢◌}
use Rattle.species_cli.specs.Commands.{IsLawful}
use Rattle.species_cli.proofs.TopLemmas.{err, gave_usage, cut_usage, came, gave_said, cut_said, is_read_fault, read_to_end, cut_at_end, came_as, gave_text, cut_text, unlawful_status, program_status, unread_status, wanting}
use Rattle.species_cli.proofs.top.species.Goals as goal

pub returns-in_default-clause-answered : goal.returns-in_default-clause-answered
returns-in_default-clause-answered g c = λ p q.
    let unlawful : IsLawful c.args.words.now → ⊥ = c.in_default.ensures.lawful in
    gave_usage c.args.words.now _ _ _ _ _ c.say.result unlawful c.say.ensures.status c.say.ensures.whole p

pub returns-in_default-clause-cut_short : goal.returns-in_default-clause-cut_short
returns-in_default-clause-cut_short g c = λ cut.
    let unlawful : IsLawful c.args.words.now → ⊥ = c.in_default.ensures.lawful in
    cut_usage c.args.words.now _ _ _ _ _ _ _ unlawful (c.say.ensures.part cut) (c.say.ensures.fault cut) refl

pub returns-in_default-clause-exact : goal.returns-in_default-clause-exact
returns-in_default-clause-exact g c = λ bytes status text line told is p q r.
    let unlawful : IsLawful c.args.words.now → ⊥ = c.in_default.ensures.lawful in
    unlawful_status c.args.words.now bytes status c.say.result text line _ unlawful is c.say.ensures.status c.say.ensures.fault r

pub returns-in-Err-clause-answered : goal.returns-in-Err-clause-answered
returns-in-Err-clause-answered g c = λ p q.
    let lawful : IsLawful c.args.words.now = c.in-Some.ensures.lawful in
    gave_said c.args.words.now _ c.in-Err.refusal _ _ _ _ _ c.refuse.result lawful (λ e. c.in-Err.ensures.fault (ap err e))
    (came c.in-Err.refusal _ _ c.in-Err.ensures.read c.in-Err.ensures.stopped c.in-Err.ensures.budget) (c.refuse.ensures.said p q)

pub returns-in-Err-clause-cut_short : goal.returns-in-Err-clause-cut_short
returns-in-Err-clause-cut_short g c = λ cut.
    let lawful : IsLawful c.args.words.now = c.in-Some.ensures.lawful in
    cut_said c.args.words.now _ c.in-Err.refusal _ _ _ _ _ _ _ lawful (λ e. c.in-Err.ensures.fault (ap err e))
    (came c.in-Err.refusal _ _ c.in-Err.ensures.read c.in-Err.ensures.stopped c.in-Err.ensures.budget) (c.refuse.ensures.part cut) (c.refuse.ensures.fault cut) refl

pub returns-in-Err-clause-cut_read_all : goal.returns-in-Err-clause-cut_read_all
returns-in-Err-clause-cut_read_all g c = λ cut lawful.
    cut_at_end c.in-Err.refusal c.refuse.result _ _ _ cut c.in-Err.ensures.stopped c.in-Err.ensures.read (λ e. c.in-Err.ensures.fault (ap err e)) c.refuse.ensures.memory

pub returns-clause-cut_read_all : goal.returns-clause-cut_read_all
returns-clause-cut_read_all g c = λ cut lawful. inl (c.in-Ok.ensures.read tt).whole

pub returns-in-Err-clause-refused_read_all : goal.returns-in-Err-clause-refused_read_all
returns-in-Err-clause-refused_read_all g c = λ is.
    let apart : c.refuse.result ≢ 5 = λ cut. absurd (omega (arith, is, cut)) in
    let other : c.refuse.result ≢ 6 = λ none. absurd (omega (arith, is, none)) in
    let line = c.refuse.ensures.said apart other in
    read_to_end c.in-Err.refusal c.refuse.result line.0 _ _ _ _ is c.in-Err.ensures.stopped c.in-Err.ensures.read line.1 line.2

pub returns-in-Err-clause-failed : goal.returns-in-Err-clause-failed
returns-in-Err-clause-failed g c = λ is.
    let apart : c.refuse.result ≢ 5 = λ cut. absurd (omega (arith, is, cut)) in
    let other : c.refuse.result ≢ 6 = λ none. absurd (omega (arith, is, none)) in
    let line = c.refuse.ensures.said apart other in
    c.in-Err.ensures.failed (ap err (is_read_fault c.in-Err.refusal c.refuse.result line.0 is line.1))

pub returns-in-Err-clause-exact : goal.returns-in-Err-clause-exact
returns-in-Err-clause-exact g c = λ bytes status text line told is p q r.
    let lawful : IsLawful c.args.words.now = c.in-Some.ensures.lawful in
    unread_status c.args.words.now bytes status c.refuse.result text line c.in-Err.refusal _ _ _ _ lawful is (λ answer short holds. c.in-Err.ensures.exact bytes answer told short holds)
    c.refuse.ensures.statuses c.refuse.ensures.said c.refuse.ensures.memory (λ e. c.in-Err.ensures.fault (ap err e)) c.refuse.ensures.fault p r

pub returns-in-Ok-write_all-clause-answered : goal.returns-in-Ok-write_all-clause-answered
returns-in-Ok-write_all-clause-answered g c = λ p q.
    let lawful : IsLawful c.args.words.now = c.in-Some.ensures.lawful in
    gave_text c.args.words.now _ c.in-Some.command c.in-Ok.unit _ _ _ _ _ _ _ c.in-Some.ensures.line c.in-Ok-text_of.ensures c.deref.ensures.value
    (came_as c.in-Ok.unit _ _ (c.in-Ok.ensures.read tt)) c.in-Ok-write_all.ensures.ok

pub returns-in-Ok-write_all-clause-exact : goal.returns-in-Ok-write_all-clause-exact
returns-in-Ok-write_all-clause-exact g c = λ bytes status text line told is p q r.
    let lawful : IsLawful c.args.words.now = c.in-Some.ensures.lawful in
    inl (program_status c.args.words.now bytes status text line c.in-Ok.unit lawful is (c.in-Ok.ensures.answers bytes told) (λ answer short holds. c.in-Ok.ensures.exact bytes answer told short holds))

pub returns-clause-cut_short : goal.returns-clause-cut_short
returns-clause-cut_short g c = λ cut.
    let lawful : IsLawful c.args.words.now = c.in-Some.ensures.lawful in
    cut_text c.args.words.now _ c.in-Some.command c.in-Ok.unit _ _ _ _ _ _ _ _ _ c.in-Some.ensures.line c.in-Ok-text_of.ensures c.deref.ensures.value
    (came_as c.in-Ok.unit _ _ (c.in-Ok.ensures.read tt)) c.in-Err-write_all.ensures.part c.in-Err-write_all.ensures.fault refl

pub returns-in-Err-clause-complete : goal.returns-in-Err-clause-complete
returns-in-Err-clause-complete g c = λ bytes program told lawful is p q r.
    inr (c.refuse.ensures.memory (wanting bytes c.in-Err.refusal program _ (λ answer short holds. c.in-Err.ensures.exact bytes answer told short holds) is
    (λ e. c.in-Err.ensures.fault (ap err e)) p))
