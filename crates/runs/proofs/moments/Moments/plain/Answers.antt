use Rattle.std.proofs.Common.{get_or, refl, sym, ap, ◌∙◌, subst, arith}
use Rattle.runs.specs.Moments.{Spans}
use Rattle.runs.specs.declared.moments.Moments.{Moments}
use Rattle.runs.proofs.Changing.{always}
use Rattle.runs.proofs.Seeing.{seen_none, seen_hit, seen_miss}
use Rattle.runs.proofs.moments.Moments.plain.Goals as goal
use Rattle.runs.proofs.moments.Moments.plain.Goals.{then-bit_at, else-bit_at}

pub loop-k-init : goal.loop-k-init
loop-k-init g c = record {
  spans = record { room = refl; lead_is = c.lead_in-lead.ensures; end_is = omega (arith, c.lead_in-lead.ensures, c.loop_length.ensures) };
  seen = λ i h. seen_none _ _ i _ (always 4096 i 0);
}

pub loop-k-preserved : goal.loop-k-preserved
loop-k-preserved g c =
    let x = g.R.RunSource.meaning c.args.source.now in
    let asked = c.args.asked in
    let k = c.loop-k.k in
    let q = c.loop-k.invariant in
    elim c.if-bit_at.branch [
      | then-bit_at w ↦ record {
        spans = subst (Spans x) (sym w.moments-is) w.note_plain.ensures.spans;
        seen = λ i h. seen_hit x.run asked i k _ _ (q.seen i h) w.if-bit_at.ensures.tells (ap (λ (m : Moments). get_or m.worlds.at i 0) w.moments-is ∙ w.note_plain.ensures.noted i (omega (arith, q.spans.end_is)));
      }
      | else-bit_at w ↦ record {
        spans = subst (Spans x) (sym w.moments-is) q.spans;
        seen = λ i h. ap (λ (m : Moments). get_or m.worlds.at i 0) w.moments-is ∙ seen_miss x.run asked i k _ 0 (q.seen i h) w.if-bit_at.ensures.tells;
      }
    ]
