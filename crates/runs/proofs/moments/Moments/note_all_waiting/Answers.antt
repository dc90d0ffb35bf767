use Rattle.std.proofs.Common.{◌≡◌, ◌+◌, sym, subst, arith}
use Rattle.runs.specs.Moments.{NotedBelow}
use Rattle.runs.specs.declared.moments.Moments.{Moments}
use Rattle.runs.proofs.Seeing.{below_miss}
use Rattle.runs.proofs.moments.Moments.note_all_waiting.Goals as goal
use Rattle.runs.proofs.moments.Moments.note_all_waiting.Goals.{then-bit_at, else-bit_at}

pub loop-k-preserved : goal.loop-k-preserved
loop-k-preserved c x q =
    let asked = c.args.asked in
    let k = c.loop-k.k in
    let p = c.loop-k.invariant x q in
    let P : Moments → Type 0 = NotedBelow x asked (k + 1) in
    elim c.if-bit_at.branch [
      | then-bit_at w ↦ subst P (sym w.self-is) (w.note_waiting.ensures x asked w.if-bit_at.ensures.tells p)
      | else-bit_at w ↦ subst P (sym w.self-is) (below_miss x asked k c.loop-k.self (omega arith) p w.if-bit_at.ensures.tells)
    ]

pub returns : goal.returns
returns c x q =
    let e : c.loop-k.k ≡ 60 = omega arith in
    subst (λ n. NotedBelow x c.args.asked n c.loop-k.self) e (c.loop-k.invariant x q)
