use Rattle.std.proofs.Common.{◌≡◌, ◌+◌, List, map, get_or, take, set, sym, ap, ◌∙◌, subst, arith}
use Rattle.clause.specs.Meaning.{none}
use Rattle.clause.specs.Sets.{Over}
use Rattle.lines.specs.declared.line.Line.{Line}
use Rattle.lines.specs.View.{Written}
use Rattle.lines.proofs.Citing.{none_at}
use Rattle.lines.proofs.Writing.{write_more, write_end, written_none}
use Rattle.lines.proofs.writes.write.Goals as goal
use Rattle.lines.proofs.writes.write.Goals.{then-n-table, else-n-table}

pub loop-i-init : goal.loop-i-init
loop-i-init g c f m o r = written_none c.args.last c.args.table.now

pub loop-i-preserved : goal.loop-i-preserved
loop-i-preserved g c f m o r =
    elim c.if-n-table.branch [
      | then-n-table w ↦
          let i = c.loop-i.i in
          let gs = c.args.guards.now in
          let p = m (get_or gs i none) w.line.result (none_at (Over 59) gs o i none c.loop-i-test.true) w.line.ensures in
          let e : c.from.result + i ≡ c.args.last + i = omega arith in
          subst (λ (u : List Line). Written c.args.last c.args.table.now (map f (take (i + 1) gs)) u) (sym (w.table-is ∙ ap (λ j. set c.loop-i.table j w.line.result) e))
          (write_more f c.args.last c.args.table.now c.loop-i.table gs i w.line.result c.loop-i-test.true r p.0 p.1 (c.loop-i.invariant f m o r))
      | else-n-table w ↦ absurd (let b = w.if-n-table.false in omega arith)
    ]

pub returns : goal.returns
returns g c f m o r = write_end f c.args.last c.args.table.now c.loop-i.table c.args.guards.now c.loop-i.i (omega arith) (c.loop-i.invariant f m o r)
