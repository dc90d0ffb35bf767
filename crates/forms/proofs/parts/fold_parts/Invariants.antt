use Rattle.std.proofs.Common.{◌≡◌, Option, length}
use Rattle.forms.specs.Cuts.{split}
use Rattle.forms.specs.Forms.{through}
use Rattle.forms.proofs.parts.fold_parts.Given as goal

abbrev pub invariant-loop-step : goal.invariant-loop-step
invariant-loop-step g l =
    (f : _) → ((s : _) (x : _) (r : Option _) → goal.F-post g l.step s x r → r ≡ f s x)
    → through f g.T.Part.form l.fn.start (split 32 l.fn.field) ≡ through f g.T.Part.form l.so_far (split 32 l.rest)

abbrev pub decreases-loop-step : goal.decreases-loop-step
decreases-loop-step g l = length l.rest
