use Rattle.std.proofs.Common.{[], ◌∷◌, sym, refl, ap, ◌∙◌, subst, arith}
use Rattle.std.proofs.lemmas.Result.{err_from_is_err_and}
use Rattle.clause.specs.declared.syntax.Clause.{Clause}
use Rattle.clause.specs.Sets.{Narrow}
use Rattle.protocol.specs.State.{sealed, clause_at}
use Rattle.protocol.specs.Calls.{draw}
use Rattle.protocol.specs.Causes.{drawn}
use Rattle.protocol.specs.Answers.{derived, drawn_clause}
use Rattle.protocol.proofs.Narrow.{narrow_drawn}
use Rattle.lines.specs.View.{lines_of}
use Rattle.lines.specs.Named.{at_stage}
use Rattle.drafts.proofs.Drafting.{exit_draft, unnamed, unsuited, suited, none_read, first_read, clause_read}
use Rattle.drafts.proofs.draws.drawn.Goals as goal

pub returns-in_err-check_named : goal.returns-in_err-check_named
returns-in_err-check_named c g =
    let t = c.args.lines.now in let n = c.args.n in let m = c.args.m in let ls = lines_of t in
    exit_draft (at_stage sealed g (lines_of t)) (draw n m) _ _ (err_from_is_err_and c.from_residual.result c.from_residual.ensures.1)
    (unnamed t g (draw n m) (n ∷ m ∷ []) (drawn (clause_at ls n) (clause_at ls m)) refl _ c.in_err-check_named.ensures)

pub returns-in_err-check_drawn : goal.returns-in_err-check_drawn
returns-in_err-check_drawn c g =
    let t = c.args.lines.now in let n = c.args.n in let m = c.args.m in let ls = lines_of t in
    exit_draft (at_stage sealed g (lines_of t)) (draw n m) _ _ (err_from_is_err_and c.from_residual-in_err-check_drawn.result c.from_residual-in_err-check_drawn.ensures.1)
    (unsuited t g (draw n m) (n ∷ m ∷ []) (drawn (clause_at ls n) (clause_at ls m)) refl _ c.in_ok-check_named.ensures
    (first_read (λ k. drawn k (clause_at ls m)) ls n c.line_at-never.result _ c.line_at-never.ensures
    (first_read (drawn c.line_at-never.result.clause) ls m c.line_at-eventuality.result _ c.line_at-eventuality.ensures c.in_err-check_drawn.ensures)))

pub returns : goal.returns
returns c g =
    let t = c.args.lines.now in let n = c.args.n in let m = c.args.m in let ls = lines_of t in
    let x = c.line_at-never.result in let y = c.line_at-eventuality.result in
    let e = c.drawn_clause.ensures y.narrow in (
      suited t g (draw n m) (n ∷ m ∷ []) (drawn (clause_at ls n) (clause_at ls m)) refl c.in_ok-check_named.ensures
          (none_read (λ k. drawn k (clause_at ls m)) ls n x c.line_at-never.ensures (none_read (drawn x.clause) ls m y c.line_at-eventuality.ensures c.in_ok-check_drawn.ensures)),
      c.citing.ensures.exact (subst (λ (k : Clause). Narrow k) (sym e) (narrow_drawn x.clause x.narrow y.clause y.narrow)) (omega arith)
          ∙ ap (λ (k : Clause). derived k (n ∷ m ∷ [])) (e ∙ ap (λ k. drawn_clause k y.clause) (clause_read ls n x c.line_at-never.ensures) ∙ ap (drawn_clause (clause_at ls n)) (clause_read ls m y c.line_at-eventuality.ensures)),
      c.citing.ensures.tidy,
    )
