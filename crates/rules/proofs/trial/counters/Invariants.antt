use Rattle.std.proofs.Common.{◌≡◌, false, ◌&&◌, not, take}
use Rattle.std.specs.List.{list_any}
use Rattle.rules.specs.Deciding.{untrue_at}
use Rattle.rules.proofs.Choosing.{Done}
use Rattle.rules.proofs.trial.counters.Given as goal

-- no set so far is untrue
abbrev pub invariant-loop-line : goal.invariant-loop-line
invariant-loop-line l = list_any (untrue_at l.x) (take l.line-index l.lines) ≡ false

-- no choice so far is a counterexample
abbrev pub invariant-choices : goal.invariant-choices
invariant-choices l = Done l.letters (λ x. (untrue_at x l.claim && not (list_any (untrue_at x) l.lines)) ≡ false) l.x-iterator
