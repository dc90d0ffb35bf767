use Rattle.std.proofs.Common.{◌≡◌, ℕ, cond, ◌&&◌, eqb, ltb}
use Rattle.clause.specs.Bit.{bit}
use Rattle.runs.specs.Table.{letter_in}
use Rattle.runtext.proofs.steps.told.Given as goal

abbrev pub invariant-loop-k : goal.invariant-loop-k
invariant-loop-k l =
    (l.table.lead ≡ l.initial.table.lead) × (l.table.turn ≡ l.initial.table.turn)
    × ((i m : ℕ) → letter_in l.table.worlds.at i m ≡ cond (eqb i l.n && ltb m l.k) (eqb (bit l.letters m) 1) (letter_in l.initial.table.worlds.at i m))
