use Rattle.std.proofs.Common.{◌≡◌, ◌∙◌, rules}
use Rattle.forms.specs.Cuts.{split}
use Rattle.forms.specs.Lists.{all_numbers, nine_of}
use Rattle.forms.proofs.Listing.{listed, all_through}
use Rattle.forms.proofs.lists.number_list.Goals as goal

pub returns : goal.returns
returns c =
    let e : c.fold_parts.result ≡ nine_of (all_numbers (split 32 c.args.field.now)) = c.fold_parts.ensures listed (λ s x r p. search rules) ∙ all_through (split 32 c.args.field.now) in
    search rules
