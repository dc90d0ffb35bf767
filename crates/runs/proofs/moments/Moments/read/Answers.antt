use Rattle.runs.proofs.Seeing.{below_plain, world_is}
use Rattle.runs.proofs.moments.Moments.read.Goals as goal

pub returns : goal.returns
returns g c =
    let x = g.R.RunSource.meaning c.args.source.now in
    let below = c.note_all_waiting.ensures x (below_plain x c.args.asked c.plain-moments.result c.plain-moments.ensures.spans c.plain-moments.ensures.seen) in
    let s = below.spans in
    record { room = s.room; lead_is = s.lead_is; end_is = s.end_is; worlds_are = world_is x c.args.asked _ below }
