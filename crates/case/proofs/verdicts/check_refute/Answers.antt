use Rattle.std.proofs.Common.{List, [], ◌∷◌, ◌++◌, Ok, Err, Result, sym, refl, subst}
use Rattle.std.proofs.lemmas.Result.{err_from_is_err_and}
use Rattle.clause.specs.declared.refusal.Fault.{Fault}
use Rattle.protocol.specs.State as model
use Rattle.protocol.specs.Causes.{Cause, First, NoneOf, named, refutable}
use Rattle.protocol.proofs.Causing.{none_both, first_after, first_left}
use Rattle.lines.specs.View.{lines_of}
use Rattle.lines.specs.Named.{Checked, at_stage}
use Rattle.case.proofs.verdicts.check_refute.Goals as goal

-- causes after others of which none is due
after : (Ps Qs : List Cause) (r : Result (Unit {0}) Fault) → NoneOf Ps → Checked Qs r → Checked (Ps ++ Qs) r
after Ps Qs (Ok _) n q = none_both Ps Qs n q
after Ps Qs (Err f) n q = first_after Ps Qs f n q

pub returns-in_err-check_named : goal.returns-in_err-check_named
returns-in_err-check_named c g h =
    let t = c.args.lines.now in let n = c.args.n in
    let s = at_stage model.sealed g (lines_of t) in
    let Ps = named s (n ∷ []) in let Qs = refutable (model.clause_at (lines_of t) n) in
    let p = err_from_is_err_and c.from_residual.result c.from_residual.ensures.1 in
    subst (λ (r : Result (Unit {0}) Fault). Checked (Ps ++ Qs) r) (sym p.1)
    (subst (λ (f : Fault). First (Ps ++ Qs) f) (sym p.2) (first_left Ps Qs _ (c.in_err-check_named.ensures model.sealed g (λ n h. refl))))

pub returns : goal.returns
returns c g h =
    let t = c.args.lines.now in let n = c.args.n in
    let s = at_stage model.sealed g (lines_of t) in
    after (named s (n ∷ [])) (refutable (model.clause_at (lines_of t) n)) c.check_refutable.result (c.in_ok-check_named.ensures model.sealed g (λ n h. refl))
    (subst (λ (l : model.Line). Checked (refutable l.clause) c.check_refutable.result) c.line_at.ensures c.check_refutable.ensures)
