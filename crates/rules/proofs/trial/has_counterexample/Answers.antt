use Rattle.std.proofs.Common.{◌≡◌, ℕ, false, sym, ◌∙◌}
use Rattle.rules.specs.Trying.{claimed}
use Rattle.rules.specs.Deciding.{Sub, counter_at, all_choices}
use Rattle.rules.proofs.Choosing.{done_start, done_more}
use Rattle.rules.proofs.Testing.{told_not, none_next, none_now}
use Rattle.rules.proofs.trial.has_counterexample.Goals as goal
use Rattle.rules.proofs.trial.has_counterexample.Goals.{else-is_untrue-via-then-is_untrue+else-counters, else-is_untrue-via-else-is_untrue}

pub loop-y-init : goal.loop-y-init
loop-y-init c = let e : c.into_iter-y-iterator.result ≡ all_choices c.args.atoms.next = cc in done_start c.args.atoms.next _ _ e

pub loop-y-preserved : goal.loop-y-preserved
loop-y-preserved c =
    let y = c.in-Some.y in
    let e = c.args.claim in
    let cs = c.args.cited.now in
    done_more c.args.atoms.next y (λ y. (x : ℕ) → Sub x c.args.atoms.now → counter_at x y (claimed e) cs ≡ false) c.loop-y.y-iterator c.next.new.self
    c.loop-y.invariant c.in-Some.ensures.steps
    (λ x s. elim c.else-is_untrue.branch [
      | else-is_untrue-via-then-is_untrue+else-counters w ↦ none_now e cs w.all_at_next.result x y (w.all_at_next.ensures x)
          (λ t. told_not w.counters.result _ w.counters.ensures w.if-counters.false (x, s, t))
      | else-is_untrue-via-else-is_untrue w ↦ none_next e cs x y (sym c.is_untrue.ensures ∙ w.if-is_untrue.false)
    ])
