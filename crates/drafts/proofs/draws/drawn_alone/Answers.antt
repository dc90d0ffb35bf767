use Rattle.std.proofs.Common.{[], ◌∷◌, sym, refl, ap, ◌∙◌, subst, arith}
use Rattle.std.proofs.lemmas.Result.{err_from_is_err_and}
use Rattle.clause.specs.declared.syntax.Clause.{Clause}
use Rattle.clause.specs.Sets.{Narrow}
use Rattle.protocol.specs.State.{sealed, clause_at}
use Rattle.protocol.specs.Calls.{draw_alone}
use Rattle.protocol.specs.Causes.{never}
use Rattle.protocol.specs.Answers.{derived, drawn_alone}
use Rattle.protocol.proofs.Narrow.{narrow_alone}
use Rattle.lines.specs.View.{lines_of}
use Rattle.lines.specs.Named.{at_stage}
use Rattle.drafts.proofs.Drafting.{exit_draft, unnamed, unsuited, suited, none_read, first_read, clause_read}
use Rattle.drafts.proofs.draws.drawn_alone.Goals as goal

pub returns-in_err-check_named : goal.returns-in_err-check_named
returns-in_err-check_named c g =
    let t = c.args.lines.now in let n = c.args.n in
    exit_draft (at_stage sealed g (lines_of t)) (draw_alone n) _ _ (err_from_is_err_and c.from_residual.result c.from_residual.ensures.1)
    (unnamed t g (draw_alone n) (n ∷ []) (never (clause_at (lines_of t) n)) refl _ c.in_err-check_named.ensures)

pub returns-in_err-check_never : goal.returns-in_err-check_never
returns-in_err-check_never c g =
    let t = c.args.lines.now in let n = c.args.n in
    exit_draft (at_stage sealed g (lines_of t)) (draw_alone n) _ _ (err_from_is_err_and c.from_residual-in_err-check_never.result c.from_residual-in_err-check_never.ensures.1)
    (unsuited t g (draw_alone n) (n ∷ []) (never (clause_at (lines_of t) n)) refl _ c.in_ok-check_named.ensures
    (first_read never (lines_of t) n c.line_at-never.result _ c.line_at-never.ensures c.in_err-check_never.ensures))

pub returns : goal.returns
returns c g =
    let t = c.args.lines.now in let n = c.args.n in
    let x = c.line_at-never.result in
    let e = c.drawn_alone_clause.ensures x.narrow in (
      suited t g (draw_alone n) (n ∷ []) (never (clause_at (lines_of t) n)) refl c.in_ok-check_named.ensures
          (none_read never (lines_of t) n x c.line_at-never.ensures c.in_ok-check_never.ensures),
      c.citing.ensures.exact (subst (λ (k : Clause). Narrow k) (sym e) (narrow_alone x.clause x.narrow)) (omega arith)
          ∙ ap (λ (k : Clause). derived k (n ∷ [])) (e ∙ ap drawn_alone (clause_read (lines_of t) n x c.line_at-never.ensures)),
      c.citing.ensures.tidy,
    )
