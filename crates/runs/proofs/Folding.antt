-- What a table of worlds answers.
use Rattle.std.proofs.Common.{◌≡◌, ℕ, ◌+◌, ◌-◌, ◌%◌, ◌<◌, ◌≤◌, ltb, Ok, refl, mod-eq_of_lt, arith}
use Rattle.std.proofs.lemmas.Bool.{le-ltb, lt-ltb, cond_both, ltb-false}
use Rattle.runs.specs.declared.table.WorldTable.{WorldTable}
use Rattle.runs.specs.Table.{folded, letter_in, means}
use Rattle.runs.specs.Letters.{letter_answer}

pub folded_low : (lead turn i : ℕ) → i < lead + turn → folded lead turn i ≡ i
folded_low lead turn i h = cond_both (ltb i lead) i (lead + (i - lead) % turn) (λ j. j ≡ i) (λ _. refl)
    (λ e. let a = ltb-false i lead e in let b : i - lead < turn = omega arith in omega (arith, mod-eq_of_lt b))

pub letter_is : (w : WorldTable) (k i : ℕ) → k ≤ 19 → i < w.lead + w.turn → Ok (letter_in w.worlds.at i k) ≡ letter_answer (means w) k i
letter_is w k i h l = rw (le-ltb 19 k h, lt-ltb i (w.lead + w.turn) l, folded_low w.lead w.turn i l)
