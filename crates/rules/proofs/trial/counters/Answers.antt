use Rattle.std.proofs.Common.{◌≡◌, false, not, ◌&&◌, sym}
use Rattle.std.proofs.lemmas.Bool.{and_right, not_from_true}
use Rattle.std.proofs.lemmas.List.Folds.{list_any_at}
use Rattle.std.specs.List.{list_any}
use Rattle.rules.specs.Deciding.{untrue_at, all_choices}
use Rattle.rules.proofs.Choosing.{done_start, done_more}
use Rattle.rules.proofs.trial.counters.Goals as goal

pub choices-init : goal.choices-init
choices-init c = let e : c.into_iter-x-iterator.result ≡ all_choices c.args.letters = cc in done_start c.args.letters _ _ e

pub choices-preserved : goal.choices-preserved
choices-preserved c =
    let x = c.in-Some.x in
    let ls = c.args.lines.now in
    done_more c.args.letters x (λ x. (untrue_at x c.args.claim && not (list_any (untrue_at x) ls)) ≡ false) c.choices.x-iterator c.next.new.self
    c.choices.invariant c.in-Some.ensures.steps
    (and_right (untrue_at x c.args.claim) (not (list_any (untrue_at x) ls))
    (not_from_true _ (list_any_at (untrue_at x) ls c.loop-line.line-index _ c.loop-line-test.true (sym c.if-is_untrue.ensures))))
