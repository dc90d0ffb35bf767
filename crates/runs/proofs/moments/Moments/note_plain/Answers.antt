use Rattle.std.proofs.Common.{◌≡◌, Bool, get_or, rules, ap, ◌∙◌, arith}
use Rattle.runs.specs.Moments.{noted}
use Rattle.runs.proofs.moments.Moments.note_plain.Goals as goal

pub returns-clause-spans : goal.returns-clause-spans
returns-clause-spans g c = let s = c.requires.spans in record { room = c.note.ensures.room ∙ s.room; lead_is = s.lead_is; end_is = s.end_is }

pub returns-clause-noted : goal.returns-clause-noted
returns-clause-noted g c i h =
    let s = c.requires.spans in
    let v = c.note.ensures.noted_at i (omega (arith, h, s.end_is, c.lead_in.ensures, c.loop_length.ensures)) in
    let e : v.0 ≡ (g.R.RunSource.meaning c.args.source.now).run i c.args.k = search rules in
    v.2 ∙ ap (λ (b : Bool). noted b c.args.k (get_or c.args.self.now.worlds.at i 0)) e
