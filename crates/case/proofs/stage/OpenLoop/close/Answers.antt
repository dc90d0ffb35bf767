use Rattle.std.proofs.Common.{◌≡◌, List, length, map, take, Err, sym, refl, ap, ◌∙◌, subst, rules, arith}
use Rattle.std.proofs.lemmas.List.{length-take-le}
use Rattle.protocol.specs.Answers.{nevers}
use Rattle.protocol.specs.Calls.{close}
use Rattle.protocol.specs.Causes.{First, causes, SomeOver}
use Rattle.clause.specs.declared.syntax.LitSet.{LitSet}
use Rattle.lines.specs.declared.line.Line.{Line}
use Rattle.lines.specs.View.{lines_of, Written}
use Rattle.lines.specs.Named.{at_stage}
use Rattle.case.specs.declared.stage.OpenLoop.{OpenLoop}
use Rattle.case.specs.Looping.{Closed}
use Rattle.case.specs.View.{view_sealed, view_loop, stage_of}
use Rattle.case.proofs.Turning.{turned_refused, closed_ok}
use Rattle.case.proofs.stage.OpenLoop.close.Goals as goal

-- as many lines as the loop has
counted : (o : OpenLoop) (t ls : List Line) → length t ≡ 1000 → ls ≡ take o.body.last t → length ls ≡ o.body.last
counted o t ls long e = ap length e ∙ length-take-le o.body.last t (omega (arith, o.body.fits))

pub overflow_cast-covers : goal.overflow_cast-covers
overflow_cast-covers c =
    let long : length c.in-Some.table.now ≡ 1000 = search rules in
    let w = c.in-Ok.ensures (counted c.args.self c.in-Some.table.now c.lines.result.now long c.lines.ensures) in omega (arith, w.2)

pub closed-sealed-requires : goal.closed-sealed-requires
closed-sealed-requires c =
    let long : length c.in-Some.table.now ≡ 1000 = search rules in
    let w = c.in-Ok.ensures (counted c.args.self c.in-Some.table.now c.lines.result.now long c.lines.ensures) in omega (arith, w.2)

pub returns-in-Err : goal.returns-in-Err
returns-in-Err c =
    let o = c.args.self in let t = c.args.table.now in let ns = c.args.covers.now in
    let e : c.in-Some.table.now ≡ t = search rules in
    let long : length t ≡ 1000 = search rules in
    let el = c.lines.ensures ∙ ap (take o.body.last) e in
    let q = c.in-Err.ensures (counted o t c.lines.result.now long el) in
    subst (Closed (close ns) (Err (o, c.in-Err.f)) o t) (sym e)
    (turned_refused view_loop view_sealed (close ns) o t c.in-Err.f long tt (subst (λ (xs : List Line). First (causes (at_stage (stage_of o) o.body.given (lines_of xs)) (close ns)) c.in-Err.f) el q), refl)

pub returns-in-Ok : goal.returns-in-Ok
returns-in-Ok c =
    let o = c.args.self in let t = c.args.table.now in let ns = c.args.covers.now in
    let e : c.in-Some.table.now ≡ t = search rules in
    let long : length t ≡ 1000 = search rules in
    let wide : length c.in-Some.table.now ≡ 1000 = ap length e ∙ long in
    let el = c.lines.ensures ∙ ap (take o.body.last) e in
    let eg = c.guard_list.ensures.exact in
    let w = c.in-Ok.ensures (counted o t c.lines.result.now long el) in
    let narrow : ¬ SomeOver c.guard_list.result.now = subst (λ (xs : List LitSet). ¬ SomeOver xs) (sym eg) o.narrow in
    closed_ok o t _ c.lines.result.now ns c.guard_list.result.now c.closed-sealed.result _ long (c.conclude.auto.table ∙ ap length e) el eg c.in-Ok.ensures c.closed-sealed.ensures.last c.closed-sealed.ensures.given refl
    (subst (λ (u : List Line). Written o.body.last u (map (nevers o.literal ns) c.guard_list.result.now) c.conclude.new.table) e (c.conclude.ensures o.plain (let few = c.guard_list.ensures.few in omega (arith, w.1, ap length eg)) narrow (omega (arith, w.1, w.2, ap length eg, wide))))
