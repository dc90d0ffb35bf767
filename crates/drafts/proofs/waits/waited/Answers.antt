use Rattle.std.proofs.Common.{[], ◌∷◌, sym, refl, ap, ◌∙◌, subst, arith}
use Rattle.std.proofs.lemmas.Result.{err_from_is_err_and}
use Rattle.clause.specs.declared.syntax.Clause.{Clause}
use Rattle.clause.specs.Sets.{Narrow}
use Rattle.protocol.specs.State.{sealed, clause_at}
use Rattle.protocol.specs.Calls.{wait_line}
use Rattle.protocol.specs.Causes.{eventual}
use Rattle.protocol.specs.Answers.{derived, waited_clause}
use Rattle.protocol.proofs.Narrow.{narrow_waited}
use Rattle.lines.specs.View.{lines_of}
use Rattle.lines.specs.Named.{at_stage}
use Rattle.drafts.proofs.Drafting.{exit_draft, unnamed, unsuited, suited, none_read, first_read, clause_read}
use Rattle.drafts.proofs.waits.waited.Goals as goal

pub returns-in_err-check_named : goal.returns-in_err-check_named
returns-in_err-check_named c g =
    let t = c.args.lines.now in let n = c.args.n in
    exit_draft (at_stage sealed g (lines_of t)) (wait_line n) _ _ (err_from_is_err_and c.from_residual.result c.from_residual.ensures.1)
    (unnamed t g (wait_line n) (n ∷ []) (eventual (clause_at (lines_of t) n)) refl _ c.in_err-check_named.ensures)

pub returns-in_err-check_eventuality : goal.returns-in_err-check_eventuality
returns-in_err-check_eventuality c g =
    let t = c.args.lines.now in let n = c.args.n in
    exit_draft (at_stage sealed g (lines_of t)) (wait_line n) _ _ (err_from_is_err_and c.from_residual-in_err-check_eventuality.result c.from_residual-in_err-check_eventuality.ensures.1)
    (unsuited t g (wait_line n) (n ∷ []) (eventual (clause_at (lines_of t) n)) refl _ c.in_ok-check_named.ensures
    (first_read eventual (lines_of t) n c.line_at-line.result _ c.line_at-line.ensures c.in_err-check_eventuality.ensures))

pub returns : goal.returns
returns c g =
    let t = c.args.lines.now in let n = c.args.n in
    let x = c.line_at-line.result in
    let e = c.waited_clause.ensures x.narrow in (
      suited t g (wait_line n) (n ∷ []) (eventual (clause_at (lines_of t) n)) refl c.in_ok-check_named.ensures
          (none_read eventual (lines_of t) n x c.line_at-line.ensures c.in_ok-check_eventuality.ensures),
      c.citing.ensures.exact (subst (λ (k : Clause). Narrow k) (sym e) (narrow_waited x.clause x.narrow)) (omega arith)
          ∙ ap (λ (k : Clause). derived k (n ∷ [])) (e ∙ ap waited_clause (clause_read (lines_of t) n x c.line_at-line.ensures)),
      c.citing.ensures.tidy,
    )
