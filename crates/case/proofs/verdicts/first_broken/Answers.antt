use Rattle.std.proofs.Common.{arith}
use Rattle.case.proofs.Showing.{kept_more, lowest_here, letters_asked, all_lines}
use Rattle.case.proofs.verdicts.first_broken.Goals as goal

pub returns-in-Some : goal.returns-in-Some
returns-in-Some c x asked rd al =
    let t = c.args.lines.now in let i = c.loop-n.n in let y = c.index-lines-n.result in
    lowest_here x.run t i y c.loop-n-test.true c.index-lines-n.is (c.loop-n.invariant x asked rd al) _ c.in-Some.i (omega arith)
    (c.in-Some.ensures.first x asked rd y.narrow (letters_asked t i y asked c.loop-n-test.true c.index-lines-n.is al))

pub loop-n-preserved : goal.loop-n-preserved
loop-n-preserved c x asked rd al =
    let t = c.args.lines.now in let i = c.loop-n.n in let y = c.index-lines-n.result in
    kept_more x.run t i y c.loop-n-test.true c.index-lines-n.is (c.loop-n.invariant x asked rd al)
    (c.in_default.ensures.first x asked rd y.narrow (letters_asked t i y asked c.loop-n-test.true c.index-lines-n.is al))

pub returns : goal.returns
returns c x asked rd al m a b = c.loop-n.invariant x asked rd al m a (omega (arith, all_lines c.args.lines.now))
