-- Lines of a run text.
use Rattle.std.proofs.Common.{◌≡◌, ℕ, Bool, List, replicate, None, Ok, Result, sym, refl, subst}
use Rattle.clause.specs.declared.refusal.Fault.{Fault}
use Rattle.runs.specs.declared.timetable.Timetable.{Timetable}
use Rattle.runs.specs.Assigns.{Made}
use Rattle.records.specs.declared.record.RunRecord.{RunRecord}
use Rattle.records.specs.declared.record.RunRecord.TheVariants.{Tasks}
use Rattle.runtext.specs.declared.stage.RunStage.{RunStage}
use Rattle.runtext.specs.declared.stage.RunStage.TheVariants.{Start, Timing}
use Rattle.runtext.specs.declared.stage.TextRun.{TextRun}
use Rattle.runtext.specs.Steps.{RunStep}
use Rattle.runtext.specs.Reading.{RunReads}

pub start_tasks : (s : RunStage) (w : RunRecord) (t : Timetable) → s ≡ Start → w ≡ Tasks → Made (replicate 20 None) t → RunStep s w (Ok (Timing t))
start_tasks s w t d e m = subst (λ (x : RunStage). RunStep x w (Ok (Timing t))) (sym d) (subst (λ (z : RunRecord). RunStep Start z (Ok (Timing t))) (sym e) (t, m, refl))

-- lines that are read from a number, and from one that is equal
pub reads_along : (n m : ℕ) (ls ms : List (List ℕ × Bool)) (s : RunStage) (r : Result TextRun Fault) → n ≡ m → ls ≡ ms → RunReads n ls s r → RunReads m ms s r
reads_along n m ls ms s r a b h = subst (λ (z : ℕ). RunReads z ms s r) a (subst (λ (z : List (List ℕ × Bool)). RunReads n z s r) b h)
