use Rattle.std.proofs.Common.{◌≡◌, ◌+◌, ◌<◌, [], ◌∷◌, length, Err, Result, sym, refl, ap, ◌∙◌, subst, arith, rules}
use Rattle.clause.specs.declared.refusal.Fault.{Fault}
use Rattle.text.specs.declared.text_lines.TextLines.{TextLines}
use Rattle.text.specs.Reading.{lines}
use Rattle.runtext.specs.declared.stage.RunStage.TheVariants.{Start}
use Rattle.runtext.specs.declared.stage.TextRun.{TextRun}
use Rattle.runtext.specs.Reading.{RunReads, ends, stops, goes}
use Rattle.runtext.proofs.Reading.{reads_along}
use Rattle.runtext.proofs.runtexts.read_run_lines.Goals as goal

pub loop-line-init : goal.loop-line-init
loop-line-init c =
    let o = c.of-rest in
    let same : length o.result.rest.now ≡ length c.args.text.now = ap length o.ensures.rest in record {
      counted = λ _. omega arith;
      few = omega arith;
      onward = λ r h. reads_along o.result.number 1 (lines o.result.rest.now) (lines c.args.text.now) Start r o.ensures.number (ap lines o.ensures.rest) h;
    }

pub loop-line-preserved : goal.loop-line-preserved
loop-line-preserved c =
    let l = c.loop-line in let line = c.in-Some.line in let w = c.in-Some.ensures in let later = c.next.new.self in
    let q = c.in_ok-stage.ensures in
    let some : 0 < length line.line.text.now = q.some in
    let counted = l.invariant.counted (omega (arith, w.steps.fewer)) in
    let few = l.invariant.few in
    let number : later.number ≡ line.number + 1 = w.steps.next_number (omega (arith, few)) ∙ ap (λ n. n + 1) (sym w.steps.number) in
    record {
      counted = λ h. let parted = w.steps.parted h in omega (arith, parted, some, counted, number, w.steps.number);
      few = omega (arith, counted, number, w.steps.number, w.steps.fewer, c.requires);
      onward = λ r h. l.invariant.onward r
          (reads_along line.number l.rest.number ((line.line.text.now, line.line.ended) ∷ lines later.rest.now) (lines l.rest.rest.now) l.stage r w.steps.number (sym w.steps.front)
          (goes {l = (line.line.text.now, line.line.ended)} q.exact (reads_along later.number (line.number + 1) (lines later.rest.now) (lines later.rest.now) c.in_ok-stage.stage r number refl h)));
    }

pub returns-in_err-stage : goal.returns-in_err-stage
returns-in_err-stage c =
    let l = c.loop-line in let line = c.in-Some.line in let w = c.in-Some.ensures in let q = c.in_err-stage.ensures in
    let f = c.in_err-stage.field-0.0 in
    let e : ◌≡◌ {A = Result TextRun Fault} c.from_residual.result (Err f) = search rules in
    subst (λ (z : Result TextRun Fault). RunReads 1 (lines c.args.text.now) Start z) (sym e)
    (l.invariant.onward (Err f) (reads_along line.number l.rest.number ((line.line.text.now, line.line.ended) ∷ lines c.next.new.self.rest.now) (lines l.rest.rest.now) l.stage (Err f) w.steps.number (sym w.steps.front)
    (stops {l = (line.line.text.now, line.line.ended)} q.exact)))

pub returns : goal.returns
returns c =
    let l = c.loop-line in let w = c.in_default.ensures in
    l.invariant.onward c.finish_run.result
    (reads_along c.next.new.self.number l.rest.number [] (lines l.rest.rest.now) l.stage c.finish_run.result (ap (λ (z : TextLines). z.number) w.steps.1) (sym w.steps.0) (ends c.finish_run.ensures))
