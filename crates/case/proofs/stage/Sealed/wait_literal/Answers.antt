use Rattle.std.proofs.Common.{◌≡◌, List, Result, take, refl, rules}
use Rattle.clause.specs.declared.refusal.Fault.{Fault}
use Rattle.protocol.specs.State as model
use Rattle.protocol.specs.Calls.{Call, wait_literal}
use Rattle.lines.specs.declared.line.Line.{Line}
use Rattle.drafts.specs.Drafts.{Drafted, SealedDraft}
use Rattle.case.specs.declared.stage.Body.{Body}
use Rattle.case.specs.View.{view_at}
use Rattle.case.proofs.Growing.{sealed_call, sealed_draft}
use Rattle.case.proofs.stage.Sealed.wait_literal.Goals as goal

-- what is drafted whatever the lines are
any_draft : (c : Call) (d r : Result Line Fault) (b : Body) (t : List Line) → d ≡ r → ((ls : List Line) → SealedDraft ls c r) → Drafted (view_at model.sealed b t) c d
any_draft c d r b t e q = sealed_draft c d r b t (take b.last t) e refl (q (take b.last t))

pub returns : goal.returns
returns c = sealed_call (wait_literal c.args.l) c.adding.result c.args.self.now c.args.table.now _ _ c.adding.auto.table tt tt c.adding.ensures.wrong
    (λ long. let p = c.adding.ensures.right long in let e = p.1.1 in (p.0, search (rules, any_draft), p.2))
