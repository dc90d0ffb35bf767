use Rattle.std.proofs.Common.{◌≡◌, ℕ, List, length, Result, sym, ap, subst, arith}
use Rattle.std.proofs.lemmas.Result.{err_from_is_err_and}
use Rattle.clause.specs.declared.refusal.Fault.{Fault}
use Rattle.clause.specs.declared.syntax.LitSet.{LitSet}
use Rattle.protocol.specs.State as model
use Rattle.protocol.specs.Calls.{close}
use Rattle.protocol.specs.Causes.{First, causes, Unfit}
use Rattle.lines.specs.View.{lines_of}
use Rattle.lines.specs.Named.{at_stage}
use Rattle.case.specs.View.{stage_of, guards_in}
use Rattle.case.specs.Looping.{CloseChecked}
use Rattle.case.proofs.Closing.{close_lines, close_kind, close_misfit, close_full, close_none}
use Rattle.case.proofs.stage.OpenLoop.check_close.Goals as goal

pub returns-in_err-check : goal.returns-in_err-check
returns-in_err-check c =
    let o = c.args.self.now in let ls = c.args.lines.now in let ns = c.args.covers.now in
    let p = err_from_is_err_and c.from_residual.result c.from_residual.ensures.1 in
    subst (λ (r : Result (Unit {0}) Fault). CloseChecked o ls ns r) (sym p.1) (λ _.
    subst (λ (f : Fault). First (causes (at_stage (stage_of o) o.body.given (lines_of ls)) (close ns)) f) (sym p.2)
    (close_lines o ls ns (omega (arith, ap length c.guard_list-guards.ensures.exact)) _ c.in_err-check.ensures))

pub returns-then-some_not_global : goal.returns-then-some_not_global
returns-then-some_not_global c _ =
    close_kind c.args.self.now c.args.lines.now c.args.covers.now (omega (arith, ap length c.guard_list-guards.ensures.exact)) c.in_ok-check.ensures _ c.if-some_not_global.ensures c.of-then-some_not_global.ensures

pub returns-in-Some : goal.returns-in-Some
returns-in-Some c _ =
    let o = c.args.self.now in let ls = c.args.lines.now in let ns = c.args.covers.now in let gs = c.guard_list-guards.result.now in
    let e = c.guard_list-guards.ensures.exact in
    let u = c.in-Some.ensures c.if-covers-guards.false (omega (arith, c.guard_list-guards.ensures.few)) in
    close_misfit o ls ns (omega (arith, ap length e)) c.in_ok-check.ensures c.if-some_not_global.ensures _ c.in-Some.place
    (subst (λ (xs : List LitSet). Unfit (lines_of ls) 1 ns xs c.in-Some.place) e u) c.at.ensures

-- no cover misfits the guards of the loop
fits : (ls : List model.Line) (ns : List ℕ) (gs hs : List LitSet) → gs ≡ hs → ((p : ℕ) → ¬ Unfit ls 1 ns gs p) → (p : ℕ) → ¬ Unfit ls 1 ns hs p
fits ls ns gs hs e f p u = f p (subst (λ (xs : List LitSet). Unfit ls 1 ns xs p) (sym e) u)

pub returns-then-lines-covers-gt1000 : goal.returns-then-lines-covers-gt1000
returns-then-lines-covers-gt1000 c _ =
    let o = c.args.self.now in let ls = c.args.lines.now in let ns = c.args.covers.now in
    close_full o ls ns (omega (arith, ap length c.guard_list-guards.ensures.exact)) c.in_ok-check.ensures c.if-some_not_global.ensures (fits (lines_of ls) ns c.guard_list-guards.result.now (guards_in o) c.guard_list-guards.ensures.exact (c.in_default.ensures c.if-covers-guards.false (omega (arith, c.guard_list-guards.ensures.few)))) _ (omega arith) c.of-then-lines-covers-gt1000.ensures

pub returns : goal.returns
returns c e =
    let o = c.args.self.now in let ls = c.args.lines.now in let ns = c.args.covers.now in
    let same : length ns ≡ length (guards_in o) = omega (arith, ap length c.guard_list-guards.ensures.exact) in
    (close_none o ls ns same c.in_ok-check.ensures c.if-some_not_global.ensures (fits (lines_of ls) ns c.guard_list-guards.result.now (guards_in o) c.guard_list-guards.ensures.exact (c.in_default.ensures c.if-covers-guards.false (omega (arith, c.guard_list-guards.ensures.few)))) (omega arith), same, omega arith)
