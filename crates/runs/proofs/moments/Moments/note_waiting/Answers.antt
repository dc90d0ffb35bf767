use Rattle.std.proofs.Common.{◌≡◌, Bool, get_or, rules, ap, ◌∙◌}
use Rattle.runs.specs.Moments.{noted, waits_in}
use Rattle.runs.proofs.Turns.{one_more}
use Rattle.runs.proofs.moments.Moments.note_waiting.Goals as goal

pub returns : goal.returns
returns c x asked a q =
    let m = c.args.self.now in
    let o = c.horizon-h.result in
    let l = c.waited-l.result in
    let s = q.spans in
    one_more x asked c.args.k m _ o l c.requires.low c.waited-l.ensures.exact c.waited-l.ensures.plain a c.horizon-h.ensures
    (record { room = c.note.ensures.room ∙ s.room; lead_is = s.lead_is; end_is = s.end_is })
    (λ i h. let v = c.note.ensures.noted_at i h in
    let e : v.0 ≡ waits_in o l i (get_or m.worlds.at i 0) = search rules in
    v.2 ∙ ap (λ (b : Bool). noted b c.args.k (get_or m.worlds.at i 0)) e) q
