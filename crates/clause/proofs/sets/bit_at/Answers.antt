use Rattle.std.proofs.Common.{◌≤◌, sym, refl, ◌∙◌, arith}
use Rattle.std.proofs.lemmas.Bool.{le-ltb, ne_eqb}
use Rattle.clause.specs.Bit.{bit, In}
use Rattle.clause.proofs.Masks.{in_below}
use Rattle.clause.proofs.Telling.{tells_eqb, tells_since}
use Rattle.clause.proofs.sets.bit_at.Goals as goal

pub returns-then-k-lt64 : goal.returns-then-k-lt64
unfolding bit
returns-then-k-lt64 c = record { exact = refl; tells = tells_eqb _ 1 }

pub returns-else-k-lt64 : goal.returns-else-k-lt64
returns-else-k-lt64 c =
    let h : 64 ≤ c.args.k = omega arith in
    let n : ¬ In c.args.k c.args.mask = λ b. omega (arith, in_below 64 c.args.mask c.args.k (omega arith) b) in
    record { exact = le-ltb c.args.k 64 h ∙ sym (ne_eqb (bit c.args.mask c.args.k) 1 n); tells = tells_since _ _ (le-ltb c.args.k 64 h) n }
