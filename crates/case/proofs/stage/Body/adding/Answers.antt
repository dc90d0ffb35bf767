use Rattle.std.proofs.Common.{◌≡◌, List, take, Ok, Err, refl, ◌∙◌, subst, rules}
use Rattle.std.proofs.lemmas.Result.{err_from_is_err_and}
use Rattle.lines.specs.declared.line.Line.{Line}
use Rattle.case.specs.Calling.{Put}
use Rattle.case.proofs.Growing.{checked_refusal, no_place, not_added, line_added}
use Rattle.case.proofs.stage.Body.adding.Goals as goal

pub returns-in_err-line-clause-right : goal.returns-in_err-line-clause-right
returns-in_err-line-clause-right g c long =
    let b = c.args.self.now in let t = c.args.table.now in
    let f = c.in_err-line.field-0.0 in
    let e : c.in-Some.table.now ≡ t = search rules in
    let l : c.lines.result.now ≡ take b.last t = search rules in (
      Err f,
      (c.lines.result, c.in_err-line.ensures, l),
      λ st k ad d. not_added b t long st k ad c.from_residual.result f _ (err_from_is_err_and c.from_residual.result c.from_residual.ensures.1) e (checked_refusal b t long st k ad f d),
    )

pub returns-in_err-self-clause-right : goal.returns-in_err-self-clause-right
returns-in_err-self-clause-right g c long =
    let b = c.args.self.now in let t = c.args.table.now in
    let x = c.in_ok-line.line in let r = c.from_residual-in_err-self.result in
    let e : c.in-Some.table.now ≡ t = search rules in
    let l : c.lines.result.now ≡ take b.last t = search rules in
    let p = c.in_err-self.ensures in (
      Ok x,
      (c.lines.result, c.in_ok-line.ensures, l),
      λ st k ad d. not_added b t long st k ad r _ _ (err_from_is_err_and r c.from_residual-in_err-self.ensures.1) (p.2 ∙ e) (no_place b t long st k ad _ d.0 p.0 p.1),
    )

pub returns-clause-right : goal.returns-clause-right
returns-clause-right g c long =
    let b = c.args.self.now in let t = c.args.table.now in
    let x = c.in_ok-line.line in let n = c.in_ok-self.field-0 in
    let e : c.in-Some.table.now ≡ t = search rules in
    let l : c.lines.result.now ≡ take b.last t = search rules in (
      Ok x,
      (c.lines.result, c.in_ok-line.ensures, l),
      λ st k ad d. line_added b t long st k ad x n _ _ d.0 d.1 d.2 (subst (λ (xs : List Line). Put 1000 b.last xs x (Ok n) c.put.new.table) e c.in_ok-self.ensures) refl refl,
    )
