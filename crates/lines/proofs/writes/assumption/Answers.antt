use Rattle.std.proofs.Common.{◌≡◌, true, [], sym, ap, ◌∙◌, subst, arith}
use Rattle.clause.specs.declared.syntax.LitSet.{LitSet}
use Rattle.clause.specs.declared.syntax.Clause.TheVariants.{Assumption}
use Rattle.clause.specs.Meaning.{just, ◌∪◌}
use Rattle.clause.specs.Sets.{Narrow}
use Rattle.protocol.proofs.Narrow.{narrow_assumed}
use Rattle.lines.proofs.writes.assumption.Goals as goal

pub returns-clause-exact : goal.returns-clause-exact
returns-clause-exact c h o =
    let l = c.args.l in let g = c.args.guard in
    let e : c.union.result ≡ g ∪ just l = c.union.ensures ∙ ap (λ (x : LitSet). g ∪ x) (c.of.ensures.low (omega arith)) in
    let narrow : Narrow (Assumption c.union.result) = subst (λ (x : LitSet). Narrow (Assumption x)) (sym e) (narrow_assumed l h g o) in
    c.citing.ensures.exact narrow (omega arith) ∙ (λ j. record { clause = Assumption (e j); cites = []; resting = true })
