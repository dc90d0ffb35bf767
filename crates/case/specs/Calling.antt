-- What the contract of a call on a case says.
use Rattle.std.specs.Prelude.{◌≡◌, ℕ, ◌+◌, ◌<◌, ◌≤◌, List, [], ◌∷◌, length, drop, Ok, Err, Result, ◌≢◌, slice_set}
use Rattle.clause.specs.declared.refusal.Fault.{Fault}
use Rattle.clause.specs.declared.refusal.Refusal.TheVariants.{WrongSize, NoRoom}
use Rattle.clause.specs.Refusals.{plain}
use Rattle.protocol.specs.State as model
use Rattle.protocol.specs.Calls.{Call, seal, Answer, number, core, shown, refused}
use Rattle.protocol.specs.Answers.{Answered, Adding}
use Rattle.protocol.specs.History.{History}
use Rattle.lines.specs.declared.line.Line.{Line}
use Rattle.lines.specs.View.{Written, Blanked, BlankFrom}
use Rattle.drafts.specs.Drafts.{Drafted}
use Rattle.case.specs.declared.stage.Body.{Body}
use Rattle.case.specs.declared.stage.Intake.{Intake}
use Rattle.case.specs.declared.stage.Sealed.{Sealed}
use Rattle.case.specs.View.{view_at, view_intake, view_sealed}

abbrev pub answer_of : Result ℕ Fault → Answer
answer_of (Ok n) = number n
answer_of (Err f) = refused f

-- a call on a table of another size is refused for it, and changes nothing; else it is answered as defined from the state that it met
pub record Exact {X : Type 0} (view : X → List Line → model.State) (c : Call) (a : Answer) (s : X) (t : List Line) (s' : X) (t' : List Line) : Type 0 where
  pub wrong : (length t ≢ 1000) → (a ≡ refused (plain WrongSize)) × (s' ≡ s) × (t' ≡ t)
  pub right : length t ≡ 1000 → Answered (view s t) c a (view s' t')

-- the table after a call that adds lines: those stand after the last line, and all other places are as they were
abbrev pub Placed : Answer → model.State → List Line → model.State → List Line → Type 0
Placed (number n) s t s' t' = Written (model.last s) t (drop (model.last s) s'.lines) t'
Placed (core row n) s t s' t' = t' ≡ t
Placed (shown i n) s t s' t' = t' ≡ t
Placed (refused f) s t s' t' = t' ≡ t

-- the calls of h led to this state, and all places after its last line are blank
pub record Led (h : List (Call × Answer)) (s : model.State) (t : List Line) : Type 0 where
  pub history : History h s
  pub blank : BlankFrom (model.last s) t

-- whatever calls led here, with this call they lead on
abbrev pub Onward : Call → Answer → model.State → List Line → model.State → List Line → Type 0
Onward c a s t s' t' = length t ≡ 1000 → (h : List (Call × Answer)) → Led h s t → Led ((c, a) ∷ h) s' t'

-- the contract of a call that leaves its case at the same stage: what it answers, the table after it, and what calls that led here lead on to
pub record Called {X : Type 0} (view : X → List Line → model.State) (c : Call) (a : Answer) (s : X) (t : List Line) (s' : X) (t' : List Line) : Type 0 where
  pub exact : Exact view c a s t s' t'
  pub place : Placed a (view s t) t (view s' t') t'
  pub onward : Onward c a (view s t) t (view s' t') t'

-- a line was put after the first n places, which are fewer than the limit, or there was no room
abbrev pub Put : ℕ → ℕ → List Line → Line → Result ℕ Fault → List Line → Type 0
Put limit n t x (Ok m) t' = (n < limit) × (m ≡ n + 1) × (t' ≡ slice_set t n x)
Put limit n t x (Err f) t' = (limit ≤ n) × (f ≡ plain NoRoom) × (t' ≡ t)

-- a call that adds the line drafted
pub record AddedBy (st : model.Stage) (c : Call) (a : Answer) (b : Body) (t : List Line) (b' : Body) (t' : List Line) : Type 0 where
  pub answered : Answered (view_at st b t) c a (view_at st b' t')
  pub place : Placed a (view_at st b t) t (view_at st b' t') t'
  pub blank : BlankFrom b.last t → BlankFrom b'.last t'

abbrev pub AddsDraft : Result Line Fault → Result ℕ Fault → Body → List Line → Body → List Line → Type 0
AddsDraft d r b t b' t' = (st : model.Stage) (c : Call) → Adding c → Drafted (view_at st b t) c d → AddedBy st c (answer_of r) b t b' t'

-- a case just made: its table blank, and no call yet
abbrev pub Begun : Result Intake Fault → List Line → List Line → Type 0
Begun (Ok s) t t' = (length t ≡ 1000) × (view_intake s t' ≡ model.fresh) × Blanked 0 1000 t t' × Led [] (view_intake s t') t'
Begun (Err f) t t' = (length t ≢ 1000) × (f ≡ plain WrongSize) × (t' ≡ t)

-- the sealed case of an intake, with every table of 1,000 places
pub record SealedAs (s : Intake) (t : List Line) (s' : Sealed) (n : ℕ) : Type 0 where
  pub exact : length t ≡ 1000 → Answered (view_intake s t) seal (number n) (view_sealed s' t)
  pub onward : Onward seal (number n) (view_intake s t) t (view_sealed s' t) t
