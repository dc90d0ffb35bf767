use Rattle.std.proofs.Common.{◌≡◌, ◌-◌, ◌≤◌, Bool, true, false, List, length, replicate, sym, refl, ap, ◌∙◌, subst, arith}
use Rattle.protocol.specs.State.{Line}
use Rattle.std.proofs.lemmas.List.{length-set, length-replicate}
use Rattle.lines.specs.View.{lines_of}
use Rattle.lines.proofs.Placing.{line_here}
use Rattle.cores.proofs.Sweeping.{Swept, sweep_start, sweep_skip, sweep_mark, sweep_end}
use Rattle.cores.proofs.sweep.reached.Goals as goal
use Rattle.cores.proofs.sweep.reached.Goals.{then-marks-k, else-marks-k}

pub loop-k-init : goal.loop-k-init
loop-k-init c =
    (length-set (replicate 1001 false) c.args.n true ∙ length-replicate 1001 false, sweep_start (lines_of c.args.lines.now) c.args.n 1001 (omega arith))

pub loop-k-preserved : goal.loop-k-preserved
loop-k-preserved c =
    let t = c.args.lines.now in
    let n = c.args.n in
    let k = c.loop-k.k in
    let q = c.loop-k.invariant in
    let h : 1 ≤ k = omega arith in
    let P : List Bool → Type 0 = λ ms. (length ms ≡ 1001) × Swept (lines_of t) n (k - 1) ms in
    elim c.if-marks-k.branch [
      | then-marks-k w ↦ subst P (sym w.marks-is) (
        omega (arith, w.mark_below.auto.marks, q.0),
        sweep_mark (lines_of t) n k w.cited_lines.result.now c.loop-k.marks _ h w.if-marks-k.true
            (w.cited_lines.ensures ∙ ap (λ (x : Line). x.cites) (line_here t k (k - 1) w.index-lines-k.result refl (omega arith) w.index-lines-k.is)) w.mark_below.ensures q.1,
      )
      | else-marks-k w ↦ subst P (sym w.marks-is) (q.0, sweep_skip (lines_of t) n k c.loop-k.marks h w.if-marks-k.false q.1)
    ]

pub returns : goal.returns
returns c = record { long = c.loop-k.invariant.0; exact = sweep_end _ _ c.loop-k.k c.loop-k.marks (omega arith) c.loop-k.invariant.1 }
