use Rattle.std.proofs.Common.{◌≡◌, List, length, Ok, inl, refl, ◌∙◌, sym, ap, subst, rules, arith}
use Rattle.std.proofs.lemmas.Result.{err_from_is_err_and}
use Rattle.lines.specs.declared.line.Line.{Line}
use Rattle.protocol.specs.Calls.{give}
use Rattle.protocol.proofs.Narrow.{narrow_given}
use Rattle.case.specs.View.{view_intake}
use Rattle.case.specs.Calling.{Put, Called}
use Rattle.case.proofs.Growing.{wrong_size, refused_call}
use Rattle.case.proofs.Giving.{full_intake, given_call}
use Rattle.case.proofs.stage.Intake.give.Goals as goal

pub returns-then-over_given : goal.returns-then-over_given
returns-then-over_given c =
    let t = c.args.table.now in
    let e : c.in-Some.table.now ≡ t = search rules in
    let long : length t ≡ 1000 = search rules in
    subst (Called view_intake (give c.args.clause) _ c.args.self.now t c.args.self.now) (sym e) (refused_call view_intake (give c.args.clause) _ c.args.self.now t long tt (inl (c.if-over_given.ensures, c.of-then-over_given.ensures)))

pub returns-in_err-self : goal.returns-in_err-self
returns-in_err-self c =
    let t = c.args.table.now in let r = c.from_residual.result in let p = c.in_err-self.ensures in
    let e : c.in-Some.table.now ≡ t = search rules in
    let long : length t ≡ 1000 = search rules in
    full_intake c.args.self.now t long c.args.clause r _ _ c.if-over_given.ensures (err_from_is_err_and r c.from_residual.ensures.1) p.0 p.1 (p.2 ∙ e)

pub returns : goal.returns
returns c =
    let t = c.args.table.now in let o = c.if-over_given.ensures in let n = c.in_ok-self.field-0 in
    let e : c.in-Some.table.now ≡ t = search rules in
    let long : length t ≡ 1000 = search rules in
    given_call c.args.self.now t long c.args.clause c.citing.result n _ _ o (c.citing.ensures.exact (narrow_given c.args.clause o) (omega arith)) c.citing.ensures.tidy
    (subst (λ (xs : List Line). Put 200 c.args.self.now.given xs c.citing.result (Ok n) c.put.new.table) e c.in_ok-self.ensures) refl
