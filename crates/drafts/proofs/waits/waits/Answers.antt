use Rattle.std.proofs.Common.{◌≤◌, [], sym, ap, ◌∙◌, subst, arith}
use Rattle.clause.specs.declared.syntax.Clause.{Clause}
use Rattle.clause.specs.Sets.{Narrow}
use Rattle.protocol.specs.Answers.{derived}
use Rattle.protocol.proofs.Causing.{not_if}
use Rattle.protocol.proofs.Narrow.{narrow_waits}
use Rattle.drafts.proofs.waits.waits.Goals as goal

pub returns : goal.returns
returns c t g =
    let low : c.args.l.letter ≤ 19 = omega arith in
    let e = c.waits_clause.ensures low in (
      (not_if _ _ (λ q. omega arith), tt),
      c.citing.ensures.exact (subst (λ (k : Clause). Narrow k) (sym e) (narrow_waits c.args.l low)) (omega arith) ∙ ap (λ (k : Clause). derived k []) e,
      c.citing.ensures.tidy,
    )
