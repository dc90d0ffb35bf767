use Rattle.std.proofs.Common.{◌+◌, ◌*◌, ◌<◌, ◌≤◌, length, Result}
use Rattle.clause.specs.declared.refusal.Fault.{Fault}
use Rattle.text.specs.Reading.{lines}
use Rattle.runtext.specs.declared.stage.RunStage.TheVariants.{Start}
use Rattle.runtext.specs.declared.stage.TextRun.{TextRun}
use Rattle.runtext.specs.Reading.{RunReads}
use Rattle.runtext.proofs.runtexts.read_run_lines.Given as goal

-- what is left of the text, read from here, comes to what the whole text comes to
abbrev pub invariant-loop-line : goal.invariant-loop-line
invariant-loop-line l = record {
  counted : 0 < length l.rest.rest.now → 2 * l.rest.number + length l.rest.rest.now ≤ length l.text + 2;
  few : l.rest.number ≤ 32770;
  onward : (r : Result TextRun Fault) → RunReads l.rest.number (lines l.rest.rest.now) l.stage r → RunReads 1 (lines l.text) Start r;
}
