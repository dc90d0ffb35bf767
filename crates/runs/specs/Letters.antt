-- What a run source answers to the question for a letter at a moment.
use Rattle.std.specs.Prelude.{◌≡◌, ℕ, ◌<◌, ◌≤◌, Bool, cond, Ok, Err, Result, nat_lt}
use Rattle.clause.specs.declared.refusal.Fault.{Fault}
use Rattle.clause.specs.declared.refusal.Refusal.TheVariants.{LetterRange, OutOfRange}
use Rattle.clause.specs.Refusals.{plain}
use Rattle.runs.specs.Source.{Source, end_of}

abbrev pub letter_answer : Source → ℕ → ℕ → Result Bool Fault
letter_answer s k i = cond (nat_lt 19 k) (Err (plain LetterRange)) (cond (nat_lt i (end_of s)) (Ok (s.run i k)) (Err (plain OutOfRange)))

-- the letter is plain and the moment before the end; or the refusal
abbrev pub Tested : (k i end : ℕ) → Result Unit Fault → Type 0
Tested k i end (Ok _) = (k ≤ 19) × (i < end)
Tested k i end (Err f) = (f ≡ cond (nat_lt 19 k) (plain LetterRange) (plain OutOfRange)) × (k ≤ 19 → end ≤ i)
