-- What a line of a run text says.
use Rattle.std.specs.Prelude.{ℕ, Bool, cond, List, Result, ◌==◌}
use Rattle.clause.specs.declared.refusal.Fault.{Fault}
use Rattle.forms.specs.Cuts.{split}
use Rattle.forms.specs.Fields.{key_of}
use Rattle.forms.specs.Forms.{number_in}
use Rattle.forms.specs.Lists.{letters_in}
use Rattle.records.specs.declared.record.RunRecord.{RunRecord}
use Rattle.records.specs.declared.record.RunRecord.TheVariants.{Worlds, World, Tasks, Task}
use Rattle.records.specs.Fields.{unknown, keyed, letter_of, no_field, one_field, two_fields, four_fields}

abbrev pub RunRead : Type 0
RunRead = Result RunRecord Fault

abbrev pub worlds_of : List (List ℕ) → Bool → RunRead
worlds_of = two_fields number_in number_in Worlds

abbrev pub world_of : List (List ℕ) → Bool → RunRead
world_of = one_field letters_in World

abbrev pub tasks_of : List (List ℕ) → Bool → RunRead
tasks_of = no_field Tasks

abbrev pub task_of : List (List ℕ) → Bool → RunRead
task_of = four_fields letter_of number_in number_in number_in Task

-- by the key: D, U, H, K
abbrev pub run_by_key : ℕ → List (List ℕ) → Bool → RunRead
run_by_key k fs e =
    cond (k == 68) (worlds_of fs e)
    (cond (k == 85) (world_of fs e)
    (cond (k == 72) (tasks_of fs e)
    (cond (k == 75) (task_of fs e) unknown)))

-- the record of a line without its end, and whether the end is there
abbrev pub run_record_of : List ℕ → Bool → RunRead
run_record_of line e = keyed (key_of (split 9 line)) (λ k. run_by_key k (split 9 line) e)
