use Rattle.std.proofs.Common.{◌≡◌, ◌+◌, ◌*◌, ◌<◌, ◌≤◌, length, get_or, inl, inr, sym, ap, ◌∙◌, rules}
use Rattle.std.proofs.lemmas.Bool.{ltb-true}
use Rattle.forms.specs.Cuts.{split}
use Rattle.forms.specs.Forms.{lead, digits_of, alone}
use Rattle.forms.proofs.Leading.{digits_step, digits_stop, digits_stop_end, leads_by, rest, rest_within, same_length}
use Rattle.forms.proofs.numbers.+digits.Goals.{in_default-via-then-text-lt1, in_default-via-else-text-lt1+then-text-lt48, in_default-via-in-48-to-57+else-before-lt1000, in_default-via-else-text-lt1+else-text-lt48+else-text-lt58}
use Rattle.forms.proofs.numbers.+digits.Goals as goal

pub returns-in-48-to-57 : goal.returns-in-48-to-57
returns-in-48-to-57 t c =
    let xs = c.args.text.now in let some : 0 < length xs = search rules in
    let n = c.args.before in
    let step : lead (digits_of n) (split 32 xs) ≡ lead (digits_of (n * 10 + c.from.result)) (split 32 (rest xs)) =
    digits_step n xs some (search rules) (search rules) (search rules) ∙ ap (λ d. lead (digits_of (n * 10 + d)) (split 32 (rest xs))) (sym c.from.ensures) in
    leads_by (λ s. s.now) _ _ _ _ c.digits.result step (rest_within xs some) c.digits.ensures

pub returns-in_default : goal.returns-in_default
returns-in_default t c =
    let xs = c.args.text.now in let n = c.args.before in
    let same : lead (digits_of n) (split 32 xs) ≡ lead (alone n) (split 32 xs) = elim c.in_default.branch [
      | in_default-via-then-text-lt1 w ↦ search (rules, digits_stop_end, ltb-true)
      | in_default-via-else-text-lt1+then-text-lt48 w ↦ let h : get_or xs 0 0 < 48 = search (rules, ltb-true) in digits_stop n xs (search rules) (inl h)
      | in_default-via-in-48-to-57+else-before-lt1000 w ↦ let h : 1000 ≤ n = search rules in digits_stop n xs (search rules) (inr (inr h))
      | in_default-via-else-text-lt1+else-text-lt48+else-text-lt58 w ↦ let h : 57 < get_or xs 0 0 = search rules in digits_stop n xs (search rules) (inr (inl h))
    ] in
    leads_by (λ s. s.now) _ _ _ _ c.alone.result same (same_length xs) c.alone.ensures
