use Rattle.std.proofs.Common.{◌≡◌, List, length, map, Ok, Err, sym, refl, ap, ◌∙◌, subst, rules, arith}
use Rattle.protocol.specs.Calls.{open_loop}
use Rattle.protocol.specs.Answers.{assumed}
use Rattle.lines.specs.declared.line.Line.{Line}
use Rattle.lines.specs.View.{Written}
use Rattle.case.specs.View.{view_sealed, view_loop}
use Rattle.case.specs.Looping.{Opened}
use Rattle.case.proofs.Turning.{turned_refused, opened_ok}
use Rattle.case.proofs.stage.Sealed.open.Goals as goal

pub returns-in-Err : goal.returns-in-Err
returns-in-Err c =
    let s = c.args.self in let t = c.args.table.now in let k = open_loop c.args.l c.args.guards.now in
    let e : c.in-Some.table.now ≡ t = search rules in
    let long : length t ≡ 1000 = search rules in
    subst (Opened k (Err (s, c.in-Err.f)) s t) (sym e) (turned_refused view_sealed view_loop k s t c.in-Err.f long tt (c.in-Err.ensures t long), refl)

pub returns-in-Ok : goal.returns-in-Ok
returns-in-Ok c =
    let s = c.args.self in let t = c.args.table.now in let gs = c.args.guards.now in
    let e : c.in-Some.table.now ≡ t = search rules in
    let long : length t ≡ 1000 = search rules in
    let wide : length c.in-Some.table.now ≡ 1000 = ap length e ∙ long in
    let w = c.in-Ok.ensures in
    opened_ok s t _ c.args.l gs c.opened-open.result _ long (c.assume.auto.table ∙ ap length e) w.0 w.1 w.2 w.3 w.4 c.opened-open.ensures refl
    (subst (λ (u : List Line). Written s.body.last u (map (assumed c.args.l) gs) c.assume.new.table) e (c.assume.ensures w.0 w.1 (omega (arith, w.4, wide))))
