use Rattle.std.proofs.Common.{◌≡◌, ℕ, Bool, cond, ◌&&◌, eqb, ltb, refl, ap, ◌∙◌, subst, arith}
use Rattle.clause.specs.Bit.{bit}
use Rattle.runs.specs.Table.{letter_in}
use Rattle.runtext.proofs.Telling.{none_told, more_told}
use Rattle.runtext.proofs.steps.told.Goals as goal

pub loop-k-init : goal.loop-k-init
loop-k-init c = (refl, refl, none_told (letter_in c.args.w.worlds.at) c.args.n (λ m. eqb (bit c.args.letters m) 1))

pub loop-k-preserved : goal.loop-k-preserved
loop-k-preserved c =
    let i = c.loop-k.invariant in let q = c.in-Ok.ensures in (
      q.2 ∙ i.0,
      q.3 ∙ i.1,
      more_told (letter_in c.loop-k.table.worlds.at) (letter_in c.change.new.self.worlds.at) (letter_in c.args.w.worlds.at) c.args.n c.loop-k.k (λ m. eqb (bit c.args.letters m) 1) i.2
          (λ j m. q.4 j m ∙ ap (λ (b : Bool). cond (eqb j c.args.n && eqb m c.loop-k.k) b (letter_in c.loop-k.table.worlds.at j m)) (c.bit_at-yes.ensures.exact ∙ ap (λ x. eqb (bit x c.loop-k.k) 1) c.from.ensures)),
    )

pub returns : goal.returns
returns c =
    let i = c.loop-k.invariant in
    let e : c.loop-k.k ≡ 20 = omega (arith, c.loop-k-test.false, c.loop-k.auto.k-end) in
    (i.0, i.1, subst (λ (n : ℕ). (j m : ℕ) → letter_in c.loop-k.table.worlds.at j m ≡ cond (eqb j c.args.n && ltb m n) (eqb (bit c.args.letters m) 1) (letter_in c.args.w.worlds.at j m)) e i.2)
