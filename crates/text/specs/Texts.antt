-- The lines of a text, one by one.
use Rattle.std.specs.Prelude.{◌≡◌, ℕ, ◌+◌, ◌<◌, ◌≤◌, ◌⊎◌, [], ◌∷◌, length, Some, None, Ok, Err, Option, Result}
use Rattle.clause.specs.declared.refusal.Fault.{Fault}
use Rattle.clause.specs.declared.refusal.Refusal.TheVariants.{TextTooLong, TextEmpty}
use Rattle.clause.specs.Refusals.{plain}
use Rattle.text.specs.declared.text_lines.NumberedLine.{NumberedLine}
use Rattle.text.specs.declared.text_lines.TextLines.{TextLines}
use Rattle.text.specs.Reading.{lines}

-- a text that is too long or empty is refused
abbrev pub LengthChecked : ℕ → Result Unit Fault → Type 0
LengthChecked n (Ok _) = (1 ≤ n) × (n ≤ 65536)
LengthChecked n (Err f) = ((65536 < n) × (f ≡ plain TextTooLong)) ⊎ ((n ≡ 0) × (f ≡ plain TextEmpty))

-- a line was taken off the front
pub record LineTaken (s : TextLines) (l : NumberedLine) (s' : TextLines) : Type 0 where
  pub number : l.number ≡ s.number
  pub next_number : s.number < 65535 → s'.number ≡ s.number + 1
  pub front : lines s.rest.now ≡ (l.line.text.now, l.line.ended) ∷ lines s'.rest.now
  pub fewer : length s'.rest.now < length s.rest.now
  pub parted : 0 < length s'.rest.now → length l.line.text.now + 1 + length s'.rest.now ≡ length s.rest.now

abbrev pub NextLine : TextLines → Option NumberedLine → TextLines → Type 0
NextLine s None s' = (lines s.rest.now ≡ []) × (s' ≡ s)
NextLine s (Some l) s' = LineTaken s l s'
