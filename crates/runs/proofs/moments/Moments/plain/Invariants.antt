use Rattle.std.proofs.Common.{◌≡◌, ℕ, ◌<◌, get_or}
use Rattle.runs.specs.Source.{end_of}
use Rattle.runs.specs.Moments.{Spans, seen}
use Rattle.runs.proofs.moments.Moments.plain.Given as goal

abbrev pub invariant-loop-k : goal.invariant-loop-k
invariant-loop-k g l =
    let x = g.R.RunSource.meaning l.source in
    record { spans : Spans x l.moments; seen : (i : ℕ) → i < end_of x → get_or l.moments.worlds.at i 0 ≡ seen x.run l.asked i l.k }
