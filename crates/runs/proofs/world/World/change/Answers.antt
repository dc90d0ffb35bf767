use Rattle.std.proofs.Common.{◌≡◌, ◌*◌, ◌^◌, ◌%◌, Bool, cond, eqb, sym, ap, ◌∙◌, rules}
use lib.Bits.{bit_and, bit_or, bit_xor}
use Rattle.clause.specs.Bit.{bit}
use Rattle.runs.proofs.Changing.{with_letter, without_letter}
use Rattle.runs.proofs.world.World.change.Goals as goal
use Rattle.runs.proofs.world.World.change.Goals.{then-yes, else-yes}

pub returns : goal.returns
returns c m =
    let a = c.args.self.now.letters in
    let k = c.args.k in
    let e : 1 * 2 ^ k % 4294967296 ≡ 2 ^ k = search rules in
    elim c.if-yes.branch [
      | then-yes w ↦ ap (λ n. eqb (bit n m) 1) (w.self-is ∙ ap (bit_or a) e) ∙ with_letter a k m ∙ ap (λ (b : Bool). cond (eqb m k) b (eqb (bit a m) 1)) (sym w.if-yes.true)
      | else-yes w ↦ ap (λ n. eqb (bit n m) 1) (w.self-is ∙ ap (λ n. bit_xor a (bit_and a n)) e) ∙ without_letter a k m ∙ ap (λ (b : Bool). cond (eqb m k) b (eqb (bit a m) 1)) (sym w.if-yes.false)
    ]
