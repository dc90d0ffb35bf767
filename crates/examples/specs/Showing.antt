-- What a run comes to on given clauses.
use Rattle.std.specs.Prelude.{◌≡◌, ℕ, zero, suc, ◌+◌, ◌-◌, ◌≤◌, true, List, [], ◌∷◌, ◌++◌, map, length, replicate, Some, None, Option, slice_index_or, refl}
use Rattle.std.proofs.Common.{arith}
use Rattle.clause.specs.declared.syntax.Clause.{Clause}
use Rattle.clause.specs.declared.syntax.Clause.TheVariants.{Global, Eventuality}
use Rattle.clause.specs.declared.refusal.Refusal.TheVariants.{RunBreaks}
use Rattle.clause.specs.Meaning.{none}
use Rattle.clause.specs.Refusals.{fault_at}
use Rattle.runs.specs.declared.task.Task.{Task}
use Rattle.runs.specs.declared.timetable.Timetable.{Timetable}
use Rattle.runs.specs.declared.world.World.{World}
use Rattle.runs.specs.Assigns.{Made}
use Rattle.runs.specs.Source.{Source}
use Rattle.runs.specs.Table.{means as table_means}
use Rattle.runs.specs.Tasks.{covers, Covered}
use Rattle.runs.specs.Times.{means as timetable_means}
use Rattle.protocol.specs.State.{State, sealed}
use Rattle.protocol.specs.Calls.{show, Answer, shown, refused}
use Rattle.protocol.specs.Answers.{derived, Answered}
use Rattle.examples.specs.Books.{set}

-- a sealed case with just these given lines
abbrev pub of_given : List Clause → State
of_given cs = record { stage = sealed; given = length cs; lines = map (λ c. derived c []) cs }

-- on these given lines, the run is answered so
abbrev pub On : List Clause → Source → Answer → Type 0
On cs x a = Answered (of_given cs) (show x) a (of_given cs)

-- the 64 worlds of a table, the first told by their masks; no letter is true in the others
abbrev pub world : ℕ → World
world m = record { letters = m }

abbrev pub worlds : List ℕ → List World
worlds ms = map world ms ++ replicate (64 - length ms) (world 0)

-- a table with a lead-in and a loop, as a run
abbrev pub table : (lead turn : ℕ) → 1 ≤ turn → lead + turn ≤ 64 → List ℕ → Source
table lead turn p q ms = table_means (record { worlds = record { at = worlds ms }; lead = lead; turn = turn; turns = p; small = q })

-- never letter 0 at two moments in a row
abbrev pub no_two : Clause
no_two = Global (set 0 1) (set 0 1)

-- letter 0 at moments 0 and 2 of a loop of 3: the loop's end meets its start
abbrev pub loop_of_3 : Source
loop_of_3 = table 0 3 (omega arith) (omega arith) (1 ∷ 0 ∷ 1 ∷ [])

abbrev pub MeetsStart : Type 0
MeetsStart = On (no_two ∷ []) loop_of_3 (refused (fault_at RunBreaks 1 2))

-- of a loop of 4: it does not
abbrev pub loop_of_4 : Source
loop_of_4 = table 0 4 (omega arith) (omega arith) (1 ∷ 0 ∷ 1 ∷ 0 ∷ [])

abbrev pub EndsFree : Type 0
EndsFree = On (no_two ∷ []) loop_of_4 (shown 0 4)

-- from each moment on, letter 0 comes
abbrev pub comes : Clause
comes = Eventuality none (record { letter = 0; positive = true })

-- letter 0 at moment 0 of a loop of 2: from moment 1 on it comes with the next turn
abbrev pub loop_of_2 : Source
loop_of_2 = table 0 2 (omega arith) (omega arith) (1 ∷ 0 ∷ [])

abbrev pub ComesAgain : Type 0
ComesAgain = On (comes ∷ []) loop_of_2 (shown 0 2)

-- letter 0 at moment 0 of the lead-in, and not in the loop: from moment 1 on it never comes
abbrev pub once : Source
once = table 1 1 (omega arith) (omega arith) (1 ∷ 0 ∷ [])

abbrev pub GoneForGood : Type 0
GoneForGood = On (comes ∷ []) once (refused (fault_at RunBreaks 1 1))

-- three tasks with the period 10: letters 0, 1 and 2, from offsets 0, 4 and 8 on
abbrev pub task : (offset len : ℕ) → len ≤ 10 → Task
task offset len p = record { offset = offset; period = 10; length = len; turns = omega arith; short = omega arith; part = p }

abbrev pub tasks : List (Option Task)
tasks = Some (task 0 4 (omega arith)) ∷ Some (task 4 4 (omega arith)) ∷ Some (task 8 3 (omega arith)) ∷ replicate 17 None

untold : (n k : ℕ) → covers 8 10 (slice_index_or (replicate n None) k None) ≡ true
untold zero k = refl
untold (suc n) zero = refl
untold (suc n) (suc k) = untold n k

pub tasks_covered : Covered tasks 8 10
tasks_covered zero = refl
tasks_covered (suc zero) = refl
tasks_covered (suc (suc zero)) = refl
tasks_covered (suc (suc (suc k))) = untold 17 k

abbrev pub timetable : Timetable
timetable = record { tasks = tasks; lead = 8; turn = 10; turns = omega arith; small = omega arith; covered = tasks_covered }

abbrev pub three_tasks : Source
three_tasks = timetable_means timetable

-- a lead-in of 8 and a loop of 10 are what these tasks have
abbrev pub HasLengths : Type 0
HasLengths = Made tasks timetable

-- no two of the letters 0, 1 and 2 at one moment
abbrev pub apart : List Clause
apart = Global (set 0 3) none ∷ Global (set 0 5) none ∷ Global (set 0 6) none ∷ []

-- the third task is one moment too long: at moment 10 it meets the first, in its second turn
abbrev pub TooLongByOne : Type 0
TooLongByOne = On apart three_tasks (refused (fault_at RunBreaks 2 10))

abbrev pub OnRuns : Type 0
OnRuns = MeetsStart × EndsFree × ComesAgain × GoneForGood × HasLengths × TooLongByOne
