use Rattle.std.proofs.Common.{◌≡◌, ◌-◌, List, length, refl, ap, ◌∙◌, subst, rules, arith}
use Rattle.lines.specs.declared.line.Line.{Line}
use Rattle.lines.specs.View.{Blanked}
use Rattle.case.proofs.Turning.{abandoned_ok}
use Rattle.case.proofs.stage.OpenLoop.abandon.Goals as goal

pub returns : goal.returns
returns c =
    let o = c.args.self in let t = c.args.table.now in
    let e : c.in-Some.table.now ≡ t = search rules in
    let long : length t ≡ 1000 = search rules in
    let wide : length c.in-Some.table.now ≡ 1000 = ap length e ∙ long in
    let b = subst (λ (u : List Line). Blanked (o.first - 1) o.body.last u c.blank_between.new.table) e (c.blank_between.ensures (omega (arith, o.placed)) (omega (arith, wide, o.body.fits))) in
    (abandoned_ok o t _ c.taken_back-sealed.result _ long (c.blank_between.auto.table ∙ ap length e) c.taken_back-sealed.ensures.last c.taken_back-sealed.ensures.given refl b, b)
