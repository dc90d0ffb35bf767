use Rattle.std.proofs.Common.{Result, sym, ◌∙◌, subst}
use Rattle.clause.specs.declared.refusal.Fault.{Fault}
use Rattle.records.specs.declared.record.Record.{Record}
use Rattle.text.specs.Calls.{view}
use Rattle.text.specs.Reading.{reached, known, Judged}
use Rattle.text.proofs.Endings.{some_line, made_all}
use Rattle.text.proofs.reading.Reading.take.Goals as goal

pub returns-in-Ok : goal.returns-in-Ok
returns-in-Ok c =
    let q = c.call in let l = c.args.numbered in
    let e = sym c.in-Ok.is ∙ c.read_line.ensures in
    record {
      exact = subst (λ (z : Result Record Fault). Judged l.number z c.args.self.found (view c.args.self.stage c.args.table.now) c.args.row.now (known q.result) (view (reached q.result).stage q.new.table) q.new.row) e q.ensures.exact;
      onward = q.ensures.onward;
      some = made_all q.result _ (some_line l.line.text.now l.line.ended c.in-Ok.what e);
    }
