use Rattle.std.proofs.Common.{ℕ, None, take, refl, rules}
use Rattle.protocol.specs.Calls.{infer}
use Rattle.protocol.specs.State.{sealed}
use Rattle.lines.specs.Named.{LoopFrom}
use Rattle.case.proofs.Growing.{sealed_call, stage_draft}
use Rattle.case.proofs.stage.Sealed.infer.Goals as goal

pub returns : goal.returns
returns g c = sealed_call (infer (g.B.RuleBook.meaning c.args.book.now c.args.evidence) c.args.cites.now) c.adding.result c.args.self.now c.args.table.now _ _ c.adding.auto.table tt tt c.adding.ensures.wrong
    (λ long. let p = c.adding.ensures.right long in let w = p.1 in let e = w.1 in let from : (m : ℕ) → LoopFrom None m sealed = λ m n h. refl in (p.0, search (rules, stage_draft None sealed, w.2, from), p.2))
