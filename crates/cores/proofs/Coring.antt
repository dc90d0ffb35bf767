-- The marked given lines are the core.
use Rattle.std.proofs.Common.{ℕ, Bool, List}
use Rattle.protocol.specs.State as model
use Rattle.protocol.specs.Cores.{IsCore}
use Rattle.lines.specs.Named.{at_stage}
use Rattle.cores.specs.Marks.{Reached, marked_to}
use Rattle.cores.proofs.Rows.{to_low, to_whole, to_rising}

pub core_is : (ls : List model.Line) (n given : ℕ) (ms : List Bool) → Reached ls n ms → (st : model.Stage) → IsCore (at_stage st given ls) n (marked_to ms given)
core_is ls n given ms q st = record {
  rising = to_rising ms given;
  within = λ m p. let w = to_low ms given m p in (w.0, w.1, q.only m w.2);
  whole = λ m h k p. to_whole ms given m h k (q.whole m p);
}
