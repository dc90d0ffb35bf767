-- Tests of the lines that a call names.
use Rattle.std.specs.Prelude.{◌≡◌, ℕ, ◌+◌, ◌<◌, ◌≤◌, Bool, true, false, List, length, Some, None, Ok, Err, Option, Result, nat_le}
use Rattle.clause.specs.declared.refusal.Fault.{Fault}
use Rattle.clause.specs.declared.syntax.LitSet.{LitSet}
use Rattle.protocol.specs.State as model
use Rattle.protocol.specs.Causes.{Cause, First, NoneOf, Unfit}

-- a test of some causes: it passes where none is due, and else gives the first
abbrev pub Checked : {A : Type 0} → List Cause → Result A Fault → Type 0
Checked Ps (Ok _) = NoneOf Ps
Checked Ps (Err f) = First Ps f

-- line n is one of the open loop's, where there is one and it begins at first
abbrev pub from_on : Option ℕ → ℕ → Bool
from_on None n = false
from_on (Some first) n = nat_le first n

-- a stage whose open loop begins at first, if there is one, as far as line last
abbrev pub LoopFrom : Option ℕ → ℕ → model.Stage → Type 0
LoopFrom first last st = (n : ℕ) → n ≤ last → model.in_loop st n ≡ from_on first n

abbrev pub at_stage : model.Stage → ℕ → List model.Line → model.State
at_stage st g ls = record { stage = st; given = g; lines = ls }

-- the place, from 0, of the lowest guard that its cover does not fit
abbrev pub Misfit : List model.Line → List ℕ → List LitSet → Option ℕ → Type 0
Misfit ls ns gs None = (p : ℕ) → ¬ Unfit ls 1 ns gs p
Misfit ls ns gs (Some i) = (i < length ns) × Unfit ls 1 ns gs (i + 1)

-- the same, from 1
abbrev pub UnfitPlace : List model.Line → List ℕ → List LitSet → Option ℕ → Type 0
UnfitPlace ls ns gs None = (p : ℕ) → ¬ Unfit ls 1 ns gs p
UnfitPlace ls ns gs (Some p) = Unfit ls 1 ns gs p

-- resting, and not of the open loop
abbrev pub Asleep : List model.Line → Option ℕ → ℕ → Type 0
Asleep ls first n = ((model.line_at ls n).resting ≡ true) × (from_on first n ≡ false)
