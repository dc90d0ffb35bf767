-- What the calls of a loop answer.
use Rattle.std.specs.Prelude.{◌≡◌, ℕ, ◌+◌, ◌-◌, ◌≤◌, List, length, Ok, Err, Result, ◌≢◌}
use Rattle.clause.specs.declared.refusal.Fault.{Fault}
use Rattle.clause.specs.declared.refusal.Refusal.TheVariants.{WrongSize}
use Rattle.clause.specs.Refusals.{plain}
use Rattle.clause.specs.declared.syntax.LitSet.{LitSet}
use Rattle.clause.specs.declared.syntax.Literal.{Literal}
use Rattle.protocol.specs.State as model
use Rattle.protocol.specs.Calls.{Call, open_loop, close, abandon, Answer, number, refused}
use Rattle.protocol.specs.Causes.{First, NoneOf, causes, SomeOver}
use Rattle.protocol.specs.Answers.{Answered}
use Rattle.lines.specs.declared.line.Line.{Line}
use Rattle.lines.specs.View.{lines_of, Blanked}
use Rattle.lines.specs.Named.{at_stage}
use Rattle.case.specs.declared.stage.Body.{Body}
use Rattle.case.specs.declared.stage.OpenLoop.{OpenLoop}
use Rattle.case.specs.declared.stage.Sealed.{Sealed}
use Rattle.case.specs.View.{view_at, view_sealed, view_loop, guards_in, stage_of}
use Rattle.case.specs.Calling.{Placed, Onward}

abbrev pub OpenChecked : Body → Literal → List LitSet → Result Unit Fault → Type 0
OpenChecked b l gs (Ok _) = (l.letter ≤ 19) × (¬ SomeOver gs) × (1 ≤ length gs) × (length gs ≤ 8) × (b.last + length gs ≤ 1000)
OpenChecked b l gs (Err f) = (t : List Line) → length t ≡ 1000 → First (causes (view_at model.sealed b t) (open_loop l gs)) f

-- the open loop of a sealed case
pub record LoopOf (s : Sealed) (l : Literal) (gs : List LitSet) (o : OpenLoop) : Type 0 where
  pub first : o.first ≡ s.body.last + 1
  pub literal : o.literal ≡ l
  pub guards : guards_in o ≡ gs
  pub given : o.body.given ≡ s.body.given
  pub last : o.body.last ≡ s.body.last + length gs

-- the contract of a call that changes the stage: it hands on the new stage, or the old one with its fault
module _ {X Y : Type 0} (view : X → List Line → model.State) (view' : Y → List Line → model.State) where
  abbrev pub turned_answer : Result (Y × ℕ) (X × Fault) → Answer
  turned_answer (Ok p) = number p.1
  turned_answer (Err p) = refused p.1

  abbrev pub turned_view : Result (Y × ℕ) (X × Fault) → List Line → model.State
  turned_view (Ok p) t = view' p.0 t
  turned_view (Err p) t = view p.0 t

  -- a refused call hands its stage back as it was
  abbrev pub HandedBack : Result (Y × ℕ) (X × Fault) → X → Type 0
  HandedBack (Ok p) s = Unit {0}
  HandedBack (Err p) s = p.0 ≡ s

  pub record Turned (c : Call) (r : Result (Y × ℕ) (X × Fault)) (s : X) (t t' : List Line) : Type 0 where
    pub wrong : (length t ≢ 1000) → (r ≡ Err (s, plain WrongSize)) × (t' ≡ t)
    pub right : length t ≡ 1000 → Answered (view s t) c (turned_answer r) (turned_view r t')
    pub back : HandedBack r s
    pub onward : Onward c (turned_answer r) (view s t) t (turned_view r t') t'

abbrev pub Opened : Call → Result (OpenLoop × ℕ) (Sealed × Fault) → Sealed → List Line → List Line → Type 0
Opened c r s t t' = Turned view_sealed view_loop c r s t t' × Placed (turned_answer view_sealed view_loop r) (view_sealed s t) t (turned_view view_sealed view_loop r t') t'

abbrev pub Closed : Call → Result (Sealed × ℕ) (OpenLoop × Fault) → OpenLoop → List Line → List Line → Type 0
Closed c r o t t' = Turned view_loop view_sealed c r o t t' × Placed (turned_answer view_loop view_sealed r) (view_loop o t) t (turned_view view_loop view_sealed r t') t'

-- the table after an abandon: the places of the loop's lines are blank
abbrev pub TakenBack : Result (Sealed × ℕ) (OpenLoop × Fault) → OpenLoop → List Line → List Line → Type 0
TakenBack (Ok p) o t t' = Blanked (o.first - 1) o.body.last t t'
TakenBack (Err p) o t t' = t' ≡ t

abbrev pub Abandoned : Result (Sealed × ℕ) (OpenLoop × Fault) → OpenLoop → List Line → List Line → Type 0
Abandoned r o t t' = Turned view_loop view_sealed abandon r o t t' × TakenBack r o t t'

-- a close of a loop whose lines are these
abbrev pub CloseChecked : OpenLoop → List Line → List ℕ → Result Unit Fault → Type 0
CloseChecked o ls ns (Ok _) = length ls ≡ o.body.last → NoneOf (causes (at_stage (stage_of o) o.body.given (lines_of ls)) (close ns)) × (length ns ≡ length (guards_in o)) × (o.body.last + length ns ≤ 1000)
CloseChecked o ls ns (Err f) = length ls ≡ o.body.last → First (causes (at_stage (stage_of o) o.body.given (lines_of ls)) (close ns)) f
