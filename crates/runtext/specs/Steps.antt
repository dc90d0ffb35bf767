-- What a record of a run text does.
use Rattle.std.specs.Prelude.{◌≡◌, ℕ, ◌+◌, ◌<◌, ◌≤◌, true, false, cond, ◌&&◌, ◌⊎◌, replicate, None, is_some, Ok, Err, Result, ◌==◌, nat_lt}
use Rattle.clause.specs.declared.refusal.Fault.{Fault}
use Rattle.clause.specs.declared.refusal.Refusal.TheVariants.{LetterRange, WrongState, OutOfRange}
use Rattle.clause.specs.Bit.{bit}
use Rattle.clause.specs.Refusals.{plain}
use Rattle.runs.specs.declared.table.WorldTable.{WorldTable}
use Rattle.runs.specs.declared.timetable.Timetable.{Timetable}
use Rattle.runs.specs.Table.{letter_in, MadeTable}
use Rattle.runs.specs.Assigns.{Made, Assigned}
use Rattle.forms.specs.declared.lists.Letters.{Letters}
use Rattle.records.specs.declared.record.RunRecord.{RunRecord}
use Rattle.records.specs.declared.record.RunRecord.TheVariants.{Worlds, World, Tasks, Task}
use Rattle.records.specs.Fields.{misread}
use Rattle.runtext.specs.declared.stage.RunStage.{RunStage}
use Rattle.runtext.specs.declared.stage.RunStage.TheVariants.{Start, Telling, Timing}

-- the letters of the world n are those of the mask, and all else is as it was
abbrev pub WorldTold : ℕ → ℕ → WorldTable → WorldTable → Type 0
WorldTold n m w w' =
    (w'.lead ≡ w.lead) × (w'.turn ≡ w.turn)
    × ((i k : ℕ) → letter_in w'.worlds.at i k ≡ cond (i == n && nat_lt k 20) (bit m k == 1) (letter_in w.worlds.at i k))

-- the size of a table
abbrev pub Begins : ℕ → ℕ → Result RunStage Fault → Type 0
Begins lead turn (Ok s) = (w : WorldTable) × MadeTable lead turn (Ok w) × (s ≡ Telling w 0)
Begins lead turn (Err f) = MadeTable lead turn (Err f)

abbrev pub Times : Result RunStage Fault → Type 0
Times (Ok s) = (t : Timetable) × Made (replicate 20 None) t × (s ≡ Timing t)
Times (Err f) = ⊥

-- the letters of the next world; a world too many does not fit
abbrev pub Tells : WorldTable → ℕ → Letters → Result RunStage Fault → Type 0
Tells w n ks (Ok s) = (n < w.lead + w.turn) × (is_some ks.over ≡ false) × ((w' : WorldTable) × WorldTold n ks.mask w w' × (s ≡ Telling w' (n + 1)))
Tells w n ks (Err f) = ((w.lead + w.turn ≤ n) × (f ≡ plain WrongState)) ⊎ ((n < w.lead + w.turn) × (is_some ks.over ≡ true) × (f ≡ misread LetterRange 2))

-- the field of a refused task
abbrev pub task_field : Fault → Fault → Type 0
task_field g f = ((g ≡ plain LetterRange) × (f ≡ misread LetterRange 2)) ⊎ ((g ≡ plain OutOfRange) × (f ≡ plain OutOfRange))

abbrev pub Assigns : Timetable → (k offset period len : ℕ) → Result RunStage Fault → Type 0
Assigns t k o p n (Ok s) = (t' : Timetable) × Assigned k o p n t t' (Ok tt) × (s ≡ Timing t')
Assigns t k o p n (Err f) = (g : Fault) × Assigned k o p n t t (Err g) × task_field g f

abbrev pub Unfitting : Result RunStage Fault → Type 0
Unfitting r = r ≡ Err (plain WrongState)

-- a record of a run text: D, U, H, K
abbrev pub RunStep : RunStage → RunRecord → Result RunStage Fault → Type 0
RunStep Start (Worlds a b) r = Begins a b r
RunStep Start (World ks) r = Unfitting r
RunStep Start Tasks r = Times r
RunStep Start (Task k o p n) r = Unfitting r
RunStep (Telling w n) (Worlds a b) r = Unfitting r
RunStep (Telling w n) (World ks) r = Tells w n ks r
RunStep (Telling w n) Tasks r = Unfitting r
RunStep (Telling w n) (Task k o p l) r = Unfitting r
RunStep (Timing t) (Worlds a b) r = Unfitting r
RunStep (Timing t) (World ks) r = Unfitting r
RunStep (Timing t) Tasks r = Unfitting r
RunStep (Timing t) (Task k o p l) r = Assigns t k o p l r
