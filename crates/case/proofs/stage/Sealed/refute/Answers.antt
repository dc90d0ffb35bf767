use Rattle.std.proofs.Common.{◌≡◌, ℕ, length, take, Err, Result, sym, refl, ap, ◌∙◌, subst, rules, arith}
use Rattle.std.proofs.lemmas.Result.{err_from_is_err_and}
use Rattle.clause.specs.declared.refusal.Fault.{Fault}
use Rattle.case.specs.Verdict.{Refuted}
use Rattle.case.proofs.Refuting.{refute_size, refute_err, refute_ok}
use Rattle.case.proofs.stage.Sealed.refute.Goals as goal

pub returns-then-row-ne200 : goal.returns-then-row-ne200
returns-then-row-ne200 c =
    let long : length c.args.table.now ≡ 1000 = search rules in
    refute_size c.args.n c.args.self.now c.args.table.now c.args.row.now _ long c.if-row-ne200.true c.of-then-row-ne200.ensures

pub returns-in_err-check_refute : goal.returns-in_err-check_refute
returns-in_err-check_refute c =
    let n = c.args.n in let s = c.args.self.now in let t = c.args.table.now in let row = c.args.row.now in
    let e : c.in-Some.table.now ≡ t = search rules in
    let long : length t ≡ 1000 = search rules in
    let p = err_from_is_err_and c.from_residual.result c.from_residual.ensures.1 in
    subst (λ (r : Result ℕ Fault). Refuted n r s t row row) (sym p.1) (subst (λ (f : Fault). Refuted n (Err f) s t row row) (sym p.2)
    (refute_err n s t row _ long (omega arith) _ _ (c.lines-lines.ensures ∙ ap (take s.body.last) e) c.in_err-check_refute.ensures refl))

pub returns : goal.returns
returns c =
    let s = c.args.self.now in let t = c.args.table.now in
    let e : c.in-Some.table.now ≡ t = search rules in
    let long : length t ≡ 1000 = search rules in
    refute_ok c.args.n s t c.args.row.now _ long (omega arith) _ _ (c.lines-lines.ensures ∙ ap (take s.body.last) e) c.in_ok-check_refute.ensures c.core_of.ensures.core
