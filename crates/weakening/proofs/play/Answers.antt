use Rattle.std.proofs.Common.{◌≡◌, [], ◌∷◌, length, arith}
use Rattle.weakening.specs.Weak.{weakening}
use Rattle.weakening.proofs.Playing.{play_ends}
use Rattle.weakening.proofs.play.Goals as goal

pub returns : goal.returns
returns c =
    let t = c.args.table.now in
    let l0 : length c.new.new.table ≡ length t = omega (arith, c.new.auto.table) in
    let l1 : length c.give.new.table ≡ length t = omega (arith, c.give.auto.table) in
    let l2 : length c.give-2.new.table ≡ length t = omega (arith, c.give-2.auto.table) in
    let l3 : length c.infer.new.table ≡ length t = omega (arith, c.infer.auto.table) in
    play_ends c.args.a c.args.b (weakening c.args.more) (c.args.cite ∷ []) c.args.n c.args.row.now c.refute.new.row c.refute.result
    c.in_ok-intake.intake c.give.new.self c.give-2.new.self c.seal.result.0 c.infer.new.self
    t c.new.new.table c.give.new.table c.give-2.new.table c.infer.new.table
    c.in_ok-give.field-0 c.in_ok-give-2.field-0 c.seal.result.1 c.in_ok-infer.field-0
    c.in_ok-intake.ensures.begun l0
    c.in_ok-give.ensures l1
    c.in_ok-give-2.ensures l2
    (c.seal.ensures c.give-2.new.table)
    c.in_ok-infer.ensures l3
    c.refute.ensures
