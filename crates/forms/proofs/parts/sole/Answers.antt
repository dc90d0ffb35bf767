use Rattle.std.proofs.Common.{◌≡◌, not, is_some, length, ap, ◌∙◌, rules}
use Rattle.std.specs.Bool.{then_some}
use Rattle.forms.specs.Cuts.{split}
use Rattle.forms.proofs.Leading.{sole_left}
use Rattle.forms.proofs.parts.sole.Goals as goal

pub returns : goal.returns
returns g c =
    let text = c.args.field.now in let part = c.in_ok-part.part in let after = c.in_ok-part.after in
    let last : c.is_none.result ≡ not (is_some after) = search rules in
    c.then_some.ensures ∙ ap (λ b. then_some b part) last
    ∙ sole_left (λ s. s.now) g.T.Part.form (split 32 text) (length text) part after (search rules)
