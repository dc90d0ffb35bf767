use Rattle.std.proofs.Common.{◌≡◌, ◌+◌, ◌<◌, [], ◌∷◌, length, None, Err, sym, refl, ap, ◌∙◌, arith}
use Rattle.protocol.specs.State.{fresh}
use Rattle.case.specs.View.{view_intake}
use Rattle.text.specs.declared.text_lines.TextLines.{TextLines}
use Rattle.text.specs.Calls.{view}
use Rattle.text.specs.Reading.{lines}
use Rattle.text.proofs.Endings.{stops_by, goes_by, comes_along}
use Rattle.text.proofs.cases.read_lines.Goals as goal

pub loop-line-init : goal.loop-line-init
loop-line-init c =
    let b = c.in-Ok.ensures in let o = c.of-rest in
    let same : length o.result.rest.now ≡ length c.args.text.now = ap length o.ensures.rest in record {
      counted = λ _. omega arith;
      few = omega arith;
      led = ([], b.begun.3);
      onward = λ r t row h. comes_along o.result.number 1 (lines o.result.rest.now) (lines c.args.text.now) None (view_intake c.in-Ok.i c.new.new.table) fresh c.args.row.now r t row o.ensures.number (ap lines o.ensures.rest) b.begun.1 h;
    }

pub leave-requires : goal.leave-requires
leave-requires c = let k = c.loop-line.invariant.led in let q = c.in-Err.ensures in q.onward k.0 k.1

pub returns-in-Err : goal.returns-in-Err
returns-in-Err c =
    let l = c.loop-line in let q = c.in-Err.ensures in let line = c.in-Some.line in let w = c.in-Some.ensures in let later = lines c.next.new.self.rest.now in
    let s = view l.reading.stage l.table in let row = c.take.new.row in
    l.invariant.onward (Err c.in-Err.refused.1) c.leave.new.table row
    (comes_along line.number l.rest.number ((line.line.text.now, line.line.ended) ∷ later) (lines l.rest.rest.now) l.reading.found s s l.row (Err c.in-Err.refused.1) c.leave.new.table row w.steps.number (sym w.steps.front) refl
    (stops_by line.number line.line.text.now line.line.ended later l.reading.found s (view c.in-Err.refused.0.stage c.take.new.table) l.row row c.in-Err.refused.1 c.leave.new.table q.exact c.leave.ensures))

pub loop-line-preserved : goal.loop-line-preserved
loop-line-preserved c =
    let l = c.loop-line in let a = c.in-Ok-take in let q = a.ensures in let line = c.in-Some.line in let w = c.in-Some.ensures in let later = c.next.new.self in
    let s = view l.reading.stage l.table in let s' = view a.next.stage c.take.new.table in
    let some : 0 < length line.line.text.now = q.some in
    let counted = l.invariant.counted (omega (arith, w.steps.fewer)) in
    let few = l.invariant.few in
    let number : later.number ≡ line.number + 1 = w.steps.next_number (omega (arith, few)) ∙ ap (λ n. n + 1) (sym w.steps.number) in
    record {
      counted = λ h. let parted = w.steps.parted h in omega (arith, parted, some, counted, number, w.steps.number);
      few = omega (arith, counted, number, w.steps.number, w.steps.fewer, c.requires);
      led = q.onward l.invariant.led.0 l.invariant.led.1;
      onward = λ r t row h. l.invariant.onward r t row
          (comes_along line.number l.rest.number ((line.line.text.now, line.line.ended) ∷ lines later.rest.now) (lines l.rest.rest.now) l.reading.found s s l.row r t row w.steps.number (sym w.steps.front) refl
          (goes_by line.number line.line.text.now line.line.ended (lines later.rest.now) l.reading.found a.next.found s s' l.row c.take.new.row row r t q.exact
          (comes_along later.number (line.number + 1) (lines later.rest.now) (lines later.rest.now) a.next.found s' s' c.take.new.row r t row number refl refl h)));
    }

pub finish-requires : goal.finish-requires
finish-requires c = c.loop-line.invariant.led

pub returns : goal.returns
returns c =
    let l = c.loop-line in let w = c.in_default-next.ensures in let s = view l.reading.stage l.table in
    l.invariant.onward c.finish.result c.finish.new.table l.row
    (comes_along c.next.new.self.number l.rest.number [] (lines l.rest.rest.now) l.reading.found s s l.row c.finish.result c.finish.new.table l.row (ap (λ (z : TextLines). z.number) w.steps.1) (sym w.steps.0) refl (c.finish.ensures l.row))
