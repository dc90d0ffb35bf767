use Rattle.std.proofs.Common.{ℕ, Some, take, refl, ap, rules}
use Rattle.protocol.specs.Calls.{infer}
use Rattle.case.specs.declared.stage.Body.{Body}
use Rattle.case.specs.View.{stage_of}
use Rattle.lines.specs.Named.{LoopFrom}
use Rattle.case.proofs.Growing.{stage_draft}
use Rattle.case.proofs.Turning.{loop_call, same_loop}
use Rattle.case.proofs.stage.OpenLoop.infer.Goals as goal

pub returns : goal.returns
returns g c =
    let o = c.args.self.now in
    loop_call (infer (g.B.RuleBook.meaning c.args.book.now c.args.evidence) c.args.cites.now) c.adding.result o c.args.table.now _ _ c.adding.auto.table tt tt refl
    (λ n. let p = c.adding.ensures.wrong n in (p.0, same_loop o c.adding.new.self p.1 _ _ _ _ _, p.2))
    (λ long. let p = c.adding.ensures.right long in let w = p.1 in let e = w.1 in let from : (m : ℕ) → LoopFrom (Some o.first) m (stage_of o) = λ m n h. refl in (p.0, search (rules, stage_draft (Some o.first) (stage_of o), w.2, from), p.2))
