use Rattle.std.proofs.Common.{◌≡◌, ℕ, ◌+◌, ◌-◌, List, sym, subst, arith, rules, tests}
use Rattle.cores.specs.Marks.{marked_to}
use Rattle.cores.proofs.Rows.{Holding, holding_more, holding_same, row_filled}
use Rattle.cores.proofs.marks.write_marked.Goals as goal
use Rattle.cores.proofs.marks.write_marked.Goals.{then-marks-m, else-marks-m}

pub loop-m-preserved : goal.loop-m-preserved
loop-m-preserved c =
    let ms = c.args.marks.now in
    let m = c.loop-m.m in
    let k = c.loop-m.count in
    let row = c.loop-m.row in
    elim c.if-marks-m.branch [
      | then-marks-m w ↦ subst (λ j. Holding ms (m + 1 - 1) j c.if-marks-m.row) (sym w.count-is)
          (subst (λ (r : List ℕ). Holding ms (m + 1 - 1) (k + 1) r) (sym w.row-is) (holding_more ms m k row (omega arith) c.loop-m.invariant w.if-marks-m.true (omega arith)))
      | else-marks-m w ↦ subst (λ j. Holding ms (m + 1 - 1) j c.if-marks-m.row) (sym w.count-is)
          (subst (λ (r : List ℕ). Holding ms (m + 1 - 1) k r) (sym w.row-is) (holding_same ms m k row (omega arith) c.loop-m.invariant w.if-marks-m.false))
    ]

pub returns : goal.returns
returns c =
    let ms = c.args.marks.now in
    let e : c.loop-m.m - 1 ≡ c.args.given = omega arith in
    let q : Holding ms c.args.given c.loop-m.count c.loop-m.row = subst (λ n. Holding ms n c.loop-m.count c.loop-m.row) e c.loop-m.invariant in
    record {
      count = q.1;
      row = row_filled c.loop-m.row c.fill.new.self (marked_to ms c.args.given) c.loop-m.count (omega arith) (omega arith) q.1 (c.fill.ensures.after (λ y w. search (rules, tests))) q.2;
    }
