-- What a run text comes to.
use Rattle.std.specs.Prelude.{◌≡◌, ℕ, ◌+◌, Bool, cond, List, [], ◌∷◌, length, Ok, Err, MatchBool, Result, ◌==◌, nat_le}
use Rattle.clause.specs.declared.refusal.Fault.{Fault}
use Rattle.clause.specs.declared.refusal.Refusal.TheVariants.{TextTooLong, TextEmpty, WrongState}
use Rattle.clause.specs.Refusals.{plain, placed}
use Rattle.runs.specs.Source.{Source}
use Rattle.runs.specs.Table as table
use Rattle.runs.specs.Times as times
use Rattle.records.specs.declared.record.RunRecord.{RunRecord}
use Rattle.records.specs.RunRecords.{run_record_of}
use Rattle.text.specs.Reading.{lines}
use Rattle.runtext.specs.declared.stage.RunStage.{RunStage}
use Rattle.runtext.specs.declared.stage.RunStage.TheVariants.{Start, Telling, Timing}
use Rattle.runtext.specs.declared.stage.TextRun.{TextRun}
use Rattle.runtext.specs.declared.stage.TextRun.TheVariants.{Worlds, Times}
use Rattle.runtext.specs.Steps.{RunStep}

-- the run that a text describes
abbrev pub run_of : TextRun → Source
run_of (Worlds w) = table.means w
run_of (Times t) = times.means t

abbrev pub at_line : ℕ → Result RunStage Fault → Result RunStage Fault
at_line n (Ok s) = Ok s
at_line n (Err f) = Err (placed n f.field f)

abbrev pub RunJudged : ℕ → Result RunRecord Fault → RunStage → Result RunStage Fault → Type 0
RunJudged n (Err f) s r = r ≡ Err (placed n f.field f)
RunJudged n (Ok k) s r = (a : Result RunStage Fault) × RunStep s k a × (r ≡ at_line n a)

-- line n of a run text, without its end, and whether that is there
abbrev pub RunLine : ℕ → List ℕ → Bool → RunStage → Result RunStage Fault → Type 0
RunLine n line e s r = RunJudged n (run_record_of line e) s r

-- the end of a run text before line n: a world too few is refused
abbrev pub RunEnding : ℕ → RunStage → Result TextRun Fault → Type 0
RunEnding n Start r = r ≡ Err (placed n 0 (plain WrongState))
RunEnding n (Telling w k) r = r ≡ cond (k == w.lead + w.turn) (Ok (Worlds w)) (Err (placed n 0 (plain WrongState)))
RunEnding n (Timing t) r = r ≡ Ok (Times t)

-- the lines of a run text from line n on, one after another
pub data RunReads : ℕ → List (List ℕ × Bool) → RunStage → Result TextRun Fault → Type 0 where
  ends : {n : ℕ} {s : RunStage} {r : Result TextRun Fault} → RunEnding n s r → RunReads n [] s r
  stops : {n : ℕ} {l : List ℕ × Bool} {ls : List (List ℕ × Bool)} {s : RunStage} {f : Fault} → RunLine n l.0 l.1 s (Err f) → RunReads n (l ∷ ls) s (Err f)
  goes : {n : ℕ} {l : List ℕ × Bool} {ls : List (List ℕ × Bool)} {s t : RunStage} {r : Result TextRun Fault} → RunLine n l.0 l.1 s (Ok t) → RunReads (n + 1) ls t r → RunReads n (l ∷ ls) s r

-- a run text: what is refused before its lines, and what its lines come to
abbrev pub RunRead : List ℕ → Result TextRun Fault → Type 0
RunRead text r =
    MatchBool (nat_le 65537 (length text)) (r ≡ Err (plain TextTooLong))
    (MatchBool (length text == 0) (r ≡ Err (plain TextEmpty)) (RunReads 1 (lines text) Start r))
