use Rattle.text.specs.Reading.{lines}
use Rattle.text.specs.Promise.{givens}
use Rattle.runtext.proofs.Judging.{kept_text, never_both}
use Rattle.runtext.proofs.checks.check_run.Goals as goal

pub returns-clause-kept : goal.returns-clause-kept
returns-clause-kept c =
    let a = c.in_ok-case.ensures in
    kept_text (givens (lines c.args.case_text.now)) c.args.run_text.now c.in_ok-case.case c.read_case.new.table c.show_text.result c.show_text.ensures a.given

pub returns-clause-apart : goal.returns-clause-apart
returns-clause-apart c =
    let a = c.in_ok-case.ensures in
    never_both (givens (lines c.args.case_text.now)) c.args.run_text.now c.show_text.result
    (kept_text (givens (lines c.args.case_text.now)) c.args.run_text.now c.in_ok-case.case c.read_case.new.table c.show_text.result c.show_text.ensures a.given)
