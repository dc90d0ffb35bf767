use Rattle.std.proofs.Common.{◌≡◌, None, sym, ◌∙◌, rules}
use Rattle.forms.specs.Cuts.{split}
use Rattle.forms.specs.Forms.{lead}
use Rattle.forms.proofs.Through.{through_none}
use Rattle.forms.proofs.parts.fold_parts.Goals as goal

pub returns-in_err-part : goal.returns-in_err-part
returns-in_err-part g c f h =
    let r : c.from_residual.result ≡ None = search rules in
    let e : lead g.T.Part.form (split 32 c.loop-step.rest.now) ≡ None = search rules in
    r ∙ sym (c.loop-step.invariant f h ∙ through_none f g.T.Part.form c.loop-step.so_far c.loop-step.rest.now e)
