use Rattle.std.proofs.Common.{◌≡◌, ℕ, false}
use Rattle.rules.specs.Trying.{claimed}
use Rattle.rules.specs.Deciding.{Sub, counter_at}
use Rattle.rules.proofs.Choosing.{Done}
use Rattle.rules.proofs.trial.has_counterexample.Given as goal

-- no choice y so far belongs to a counterexample
abbrev pub invariant-loop-y : goal.invariant-loop-y
invariant-loop-y l = Done l.atoms.next (λ y. (x : ℕ) → Sub x l.atoms.now → counter_at x y (claimed l.claim) l.cited ≡ false) l.y-iterator
