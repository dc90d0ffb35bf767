use Rattle.std.proofs.Common.{take, rules}
use Rattle.protocol.specs.Calls.{wait_line}
use Rattle.case.proofs.Growing.{sealed_call, sealed_draft}
use Rattle.case.proofs.stage.Sealed.wait_line.Goals as goal

pub returns : goal.returns
returns c = sealed_call (wait_line c.args.n) c.adding.result c.args.self.now c.args.table.now _ _ c.adding.auto.table tt tt c.adding.ensures.wrong
    (λ long. let p = c.adding.ensures.right long in let w = p.1 in let e = w.1 in (p.0, search (rules, sealed_draft, w.2), p.2))
