use Rattle.std.proofs.Common.{rules}
use Rattle.species_meaning.proofs.Kept.{run_stays}
use Rattle.species_meaning.proofs.Steps.{run_is, gives_end, gives_stop}
use Rattle.species_meaning.proofs.statements.run_source.Goals as goal

pub returns-in_err-run_all-clause-run : goal.returns-in_err-run_all-clause-run
returns-in_err-run_all-clause-run c =
    let frame = rw (c.len.ensures) at c.in_ok-frame.ensures in
    let same = run_is c.args.unit.now c.in_ok-frame.frame c.args.start frame in
    let runs = rw (c.as_slice.ensures) at c.in_err-run_all.ensures.runs in
    let stop = gives_stop c.in_err-run_all.field-0.0 c.run_all.new.frame c.run_all.new.arrays _ _ same runs in
    search (rules, stop)

pub returns-clause-run : goal.returns-clause-run
returns-clause-run c =
    let frame = rw (c.len.ensures) at c.in_ok-frame.ensures in
    let same = run_is c.args.unit.now c.in_ok-frame.frame c.args.start frame in
    let runs = rw (c.as_slice.ensures) at c.in_ok-run_all.ensures.runs in
    gives_end _ _ _ _ same runs

pub returns-clause-arrays : goal.returns-clause-arrays
returns-clause-arrays c h =
    let frame = rw (c.len.ensures) at c.in_ok-frame.ensures in
    let same = run_is c.args.unit.now c.in_ok-frame.frame c.args.start frame in
    let runs = rw (c.as_slice.ensures) at c.in_ok-run_all.ensures.runs in
    run_stays c.args.unit.now c.args.start _ _ _ h same runs
