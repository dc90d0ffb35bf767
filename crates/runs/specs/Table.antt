-- What a table of worlds means.
use Rattle.std.specs.Prelude.{◌≡◌, ℕ, ◌+◌, ◌-◌, ◌%◌, ◌<◌, ◌≤◌, Bool, false, cond, ◌&&◌, List, Ok, Err, Result, ◌==◌, nat_lt, slice_index_or}
use Rattle.std.proofs.Common.{ap, arith}
use Rattle.std.proofs.Math.Nat.{add-mod_right}
use Rattle.std.proofs.lemmas.Bool.{le-ltb}
use Rattle.runs.specs.Source.{Source}
use Rattle.runs.specs.declared.table.WorldTable.{WorldTable}
use Rattle.runs.specs.declared.world.World.{World}
use Rattle.clause.specs.Bit.{bit}
use Rattle.clause.specs.declared.refusal.Fault.{Fault}
use Rattle.clause.specs.declared.refusal.Refusal.TheVariants.{LetterRange, OutOfRange}
use Rattle.clause.specs.Refusals.{plain}

-- the world that a moment goes by
abbrev pub folded : (lead turn : ℕ) → ℕ → ℕ
folded lead turn i = cond (nat_lt i lead) i (lead + (i - lead) % turn)

-- the letter k of the world at i
abbrev pub letter_in : List World → ℕ → ℕ → Bool
letter_in ws i k = bit (slice_index_or ws i (record { letters = 0 })).letters k == 1

pub folds : (lead turn i : ℕ) → lead ≤ i → folded lead turn (i + turn) ≡ folded lead turn i
folds lead turn i h =
    let a : lead ≤ i + turn = omega arith in
    let e : (i + turn) - lead ≡ (i - lead) + turn = omega arith in
    rw (le-ltb (i + turn) lead a, le-ltb i lead h, e, add-mod_right (i - lead) turn)

abbrev pub means : WorldTable → Source
means w = record {
  run = λ i k. letter_in w.worlds.at (folded w.lead w.turn i) k;
  lead = w.lead;
  loop_length = w.turn;
  turns = w.turns;
  small = omega (arith, w.small);
  agrees = λ i k h. ap (λ j. letter_in w.worlds.at j k) (folds w.lead w.turn i h);
}

-- a table just made: all its letters are no
abbrev pub MadeTable : ℕ → ℕ → Result WorldTable Fault → Type 0
MadeTable lead turn (Ok w) = (w.lead ≡ lead) × (w.turn ≡ turn) × ((i k : ℕ) → letter_in w.worlds.at i k ≡ false)
MadeTable lead turn (Err f) = (¬ ((1 ≤ turn) × (lead + turn ≤ 64))) × (f ≡ plain OutOfRange)

-- the letter k of the world at i is b, and all else is as it was
abbrev pub Changed : ℕ → ℕ → Bool → List World → List World → Type 0
Changed i k b ws ws' = (j m : ℕ) → letter_in ws' j m ≡ cond (j == i && m == k) b (letter_in ws j m)

-- a letter of a table changed, or the refusal, which changes nothing
abbrev pub LetterSet : ℕ → ℕ → Bool → WorldTable → WorldTable → Result Unit Fault → Type 0
LetterSet i k b w w' (Ok _) = (k ≤ 19) × (i < w.lead + w.turn) × (w'.lead ≡ w.lead) × (w'.turn ≡ w.turn) × Changed i k b w.worlds.at w'.worlds.at
LetterSet i k b w w' (Err f) = (w' ≡ w) × (f ≡ cond (nat_lt 19 k) (plain LetterRange) (plain OutOfRange)) × (k ≤ 19 → w.lead + w.turn ≤ i)
