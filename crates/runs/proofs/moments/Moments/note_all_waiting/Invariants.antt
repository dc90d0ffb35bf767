use Rattle.runs.specs.Source.{Source}
use Rattle.runs.specs.Moments.{NotedBelow}
use Rattle.runs.proofs.moments.Moments.note_all_waiting.Given as goal

abbrev pub invariant-loop-k : goal.invariant-loop-k
invariant-loop-k l = (x : Source) → NotedBelow x l.asked 20 l.initial.self → NotedBelow x l.asked l.k l.self
