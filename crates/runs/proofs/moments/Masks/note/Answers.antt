use Rattle.std.proofs.Common.{ℕ, ◌+◌, Bool, true, false, ◌≡◌, length, length-set, get_or, set, refl, sym, ap, ◌∙◌, subst, arith}
use lib.Bits.{bit_or}
use Rattle.runs.specs.declared.moments.Masks.{Masks}
use Rattle.runs.proofs.Noting.{NotedTo, noted_next, noted_still, noted_all}
use Rattle.runs.proofs.moments.Masks.note.Goals as goal
use Rattle.runs.proofs.moments.Masks.note.Goals.{then-test, else-test}

pub loop-i-preserved : goal.loop-i-preserved
loop-i-preserved g c =
    let Test : ℕ → ℕ → Bool → Type 0 = λ i w b. g.F.Fn.post c.args.test (i, (w, tt)) b in
    let k = c.args.k in
    let ws₀ = c.args.self.now.at in
    let ws = c.loop-i.self.at in
    let i = c.loop-i.i in
    let P : Masks → Type 0 = λ v. (length v.at ≡ length ws₀) × NotedTo Test k ws₀ v.at (i + 1) in
    let q = c.loop-i.invariant in
    elim c.if-test.branch [
      | then-test w ↦ subst P (sym w.self-is) (
        length-set ws _ _ ∙ q.0,
        subst (λ n. NotedTo Test k ws₀ (set ws n (bit_or (get_or ws n 0) c.mask-m.result)) (i + 1)) (sym w.from-then-test.ensures)
            (noted_next Test k ws₀ ws i q.1 true _ (omega arith) (subst (λ n. Test i (get_or ws n 0) true) c.from.ensures w.if-test.ensures) (ap (bit_or (get_or ws i 0)) (c.mask-m.ensures.low c.requires.letter))),
      )
      | else-test w ↦ subst P (sym w.self-is)
          (q.0, noted_still Test k ws₀ ws i q.1 false (subst (λ n. Test i (get_or ws n 0) false) c.from.ensures w.if-test.ensures) refl)
    ]

pub returns : goal.returns
returns g c =
    let Test : ℕ → ℕ → Bool → Type 0 = λ i w b. g.F.Fn.post c.args.test (i, (w, tt)) b in
    noted_all Test c.args.k c.args.end c.loop-i.i c.args.self.now.at c.loop-i.self.at (omega arith) c.loop-i.invariant.0 c.loop-i.invariant.1
