use Rattle.std.proofs.Common.{rules, sym, ap, subst, ◌∙◌, ◌≡◌, Ok, Err}
use Rattle.species_ast.specs.Run.{AreArraysOf}
use Rattle.species_data.specs.declared.refusal.DataRefusal.TheVariants.{Syntax}
use Rattle.species_data.specs.Data.{line_read, lines_read, none_yet}
use Rattle.species_data.specs.Lines.{lines_at}
use Rattle.species_data.proofs.ReadLemmas.{line_here, line_turn, line_fails, handed_on}
use Rattle.species_data.proofs.read.read_data.Goals as goal

pub loop-at-preserved : goal.loop-at-preserved
loop-at-preserved c =
    let arrays = c.args.unit.now.arrays in
    let line = line_here c.args.base c.loop-at.at c.line_len-len.result c.args.text.now in
    let read : line_read arrays c.loop-at.rows line ≡ Ok c.read_line.new.self =
    ap (λ l. line_read l c.loop-at.rows line) (sym c.in_ok-names.ensures) ∙ c.in_ok-read_line.ensures.ok in
    record {
      read =
          line_turn arrays c.loop-at.rows c.read_line.new.self c.args.base c.loop-at.at c.line_len-len.result c.args.text.now
          (lines_read arrays (none_yet arrays) (lines_at c.args.base c.args.text.now)) c.loop-at-test.true c.line_len-len.ensures.value read c.loop-at.invariant.read;
      arrays = subst (λ l. AreArraysOf l c.read_line.new.self.arrays) c.in_ok-names.ensures c.in_ok-read_line.ensures.arrays;
    }

pub returns-in_err-read_line-clause-syntax : goal.returns-in_err-read_line-clause-syntax
returns-in_err-read_line-clause-syntax c = λ place is.
    let arrays = c.args.unit.now.arrays in
    let line = line_here c.args.base c.loop-at.at c.line_len-len.result c.args.text.now in
    let failed : line_read arrays c.loop-at.rows line ≡ Err place =
    ap (λ l. line_read l c.loop-at.rows line) (sym c.in_ok-names.ensures) ∙ c.in_err-read_line.ensures.syntax place (ap Err (handed_on c.in_err-read_line.field-0.0 (Syntax place) c.from_residual-in_err-read_line.result (search rules) is)) in
    line_fails arrays c.loop-at.rows c.args.base c.loop-at.at c.line_len-len.result place c.args.text.now c.loop-at-test.true c.line_len-len.ensures.value failed
    c.loop-at.invariant.read
