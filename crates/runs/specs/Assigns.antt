-- What a timetable is made from, and what setting a task does.
use Rattle.std.specs.Prelude.{◌≡◌, ℕ, ◌+◌, ◌<◌, ◌≤◌, ◌⊎◌, List, Some, None, Ok, Err, Option, Result, slice_set}
use Rattle.clause.specs.declared.refusal.Fault.{Fault}
use Rattle.clause.specs.declared.refusal.Refusal.TheVariants.{LetterRange, OutOfRange}
use Rattle.clause.specs.Refusals.{plain}
use Rattle.runs.specs.declared.task.Task.{Task}
use Rattle.runs.specs.declared.timetable.Timetable.{Timetable}
use Rattle.runs.specs.Loops.{Common, Least, greatest}

-- the lead-in is the greatest offset, and the loop the least common multiple of the periods
pub record Made (ts : List (Option Task)) (t : Timetable) : Type 0 where
  pub tasks : t.tasks ≡ ts
  pub lead : t.lead ≡ greatest ts
  pub turn : Least (Common ts) (Some t.turn)

-- too long a lead-in and loop
abbrev pub TooLong : List (Option Task) → Type 0
TooLong ts = (m : ℕ) → 1 ≤ m → Common ts m → 4096 < greatest ts + m

-- a timetable of the tasks, where there is one
abbrev pub MadeOf : List (Option Task) → Option Timetable → Type 0
MadeOf ts (Some t) = Made ts t
MadeOf ts None = TooLong ts

abbrev pub InRange : (offset period len : ℕ) → Type 0
InRange offset period len = (offset ≤ 255) × (1 ≤ period) × (period ≤ 64) × (len ≤ period)

pub record IsTask (offset period len : ℕ) (k : Task) : Type 0 where
  pub offset_is : k.offset ≡ offset
  pub period_is : k.period ≡ period
  pub length_is : k.length ≡ len

abbrev pub TaskOf : (offset period len : ℕ) → Option Task → Type 0
TaskOf offset period len (Some k) = InRange offset period len × IsTask offset period len k
TaskOf offset period len None = ¬ InRange offset period len

-- the tasks of a timetable with one of a letter set, the one that was there gone
abbrev pub Assigned : (letter offset period len : ℕ) → Timetable → Timetable → Result Unit Fault → Type 0
Assigned letter offset period len t t' (Ok _) =
    (letter ≤ 19) × InRange offset period len × ((k : Task) × IsTask offset period len k × Made (slice_set t.tasks letter (Some k)) t')
Assigned letter offset period len t t' (Err f) = (t' ≡ t) × (
    ((19 < letter) × (f ≡ plain LetterRange))
    ⊎ (((letter ≤ 19) × (¬ InRange offset period len) × (f ≡ plain OutOfRange))
    ⊎ ((letter ≤ 19) × ((k : Task) × IsTask offset period len k × TooLong (slice_set t.tasks letter (Some k))) × (f ≡ plain OutOfRange))))
