use Rattle.std.proofs.Common.{◌+◌, take, sym, subst, arith}
use Rattle.std.proofs.lemmas.List.{take_all}
use Rattle.cores.specs.Marks.{MarkedToo}
use Rattle.cores.proofs.Marking.{too_more, too_same}
use Rattle.cores.proofs.marks.mark_below.Goals as goal
use Rattle.cores.proofs.marks.mark_below.Goals.{then-c-k, else-c-k}

pub loop-c-preserved : goal.loop-c-preserved
loop-c-preserved c =
    let cs = c.args.cites.now in
    let i = c.loop-c.c-index in
    let k = c.args.k in
    let ms = c.args.marks.now in
    elim c.if-c-k.branch [
      | then-c-k w ↦ subst (MarkedToo (take (i + 1) cs) k ms) (sym w.marks-is) (too_more cs i k ms c.loop-c.marks c.loop-c-test.true c.loop-c.invariant w.if-c-k.true (omega arith))
      | else-c-k w ↦ subst (MarkedToo (take (i + 1) cs) k ms) (sym w.marks-is) (too_same cs i k ms c.loop-c.marks c.loop-c-test.true c.loop-c.invariant w.if-c-k.false)
    ]

pub returns : goal.returns
returns c = let i = c.loop-c.c-index in let e = take_all i c.args.cites.now (omega arith) in rw e at c.loop-c.invariant
