-- The call that a record makes, and what it is answered.
use Rattle.std.specs.Prelude.{◌≡◌, ℕ, min, List, [], ◌∷◌, take, Some, None, Err, Option, Result}
use Rattle.clause.specs.declared.refusal.Fault.{Fault}
use Rattle.clause.specs.declared.refusal.Refusal.TheVariants.{WrongState}
use Rattle.clause.specs.declared.syntax.LitSet.{LitSet}
use Rattle.clause.specs.Refusals.{plain}
use Rattle.rules.specs.ResolvingSound.{resolving}
use Rattle.rules.specs.TryingSound.{trying}
use Rattle.protocol.specs.State as model
use Rattle.protocol.specs.Calls.{Call, give, seal, infer, wait_line, wait_literal, open_loop, close, abandon, draw, draw_alone, refute, Answer}
use Rattle.protocol.specs.Answers.{Answered}
use Rattle.lines.specs.declared.line.Line.{Line}
use Rattle.case.specs.View.{view_intake, view_sealed, view_loop}
use Rattle.case.specs.Calling.{answer_of, Led}
use Rattle.case.specs.Verdict as case
use Rattle.forms.specs.declared.lists.Numbers.{Numbers}
use Rattle.records.specs.declared.record.Guards.{Guards}
use Rattle.records.specs.declared.record.Record.{Record}
use Rattle.records.specs.declared.record.Record.TheVariants.{Give, Seal, WaitLine, WaitLiteral, Resolve, Trial, OpenLoop, CloseLoop, Abandon, DrawFor, Draw, Refute}
use Rattle.text.specs.declared.stage.Stage.{Stage}
use Rattle.text.specs.declared.stage.Stage.TheVariants.{Taking, Working, Looping}

abbrev pub view : Stage → List Line → model.State
view (Taking i) t = view_intake i t
view (Working s) t = view_sealed s t
view (Looping o) t = view_loop o t

-- the numbers and the guards of a record
abbrev pub listed : Numbers → List ℕ
listed v = take (min v.count 9) v.at

abbrev pub guarded : Guards → List LitSet
guarded g = take (min g.count 9) g.at

-- the call that a record makes at a stage, if its key fits
abbrev pub call_of : model.Stage → Record → List ℕ → Option Call
call_of model.intake (Give c) row = Some (give c)
call_of model.intake Seal row = Some seal
call_of model.intake (WaitLine n) row = None
call_of model.intake (WaitLiteral l) row = None
call_of model.intake (Resolve a b k) row = None
call_of model.intake (Trial n x ns) row = None
call_of model.intake (OpenLoop l gs) row = None
call_of model.intake (CloseLoop ns) row = None
call_of model.intake Abandon row = None
call_of model.intake (DrawFor n m) row = None
call_of model.intake (Draw n) row = None
call_of model.intake (Refute n) row = None
call_of model.sealed (Give c) row = None
call_of model.sealed Seal row = None
call_of model.sealed (WaitLine n) row = Some (wait_line n)
call_of model.sealed (WaitLiteral l) row = Some (wait_literal l)
call_of model.sealed (Resolve a b k) row = Some (infer (resolving k) (a ∷ b ∷ []))
call_of model.sealed (Trial n x ns) row = Some (infer (trying (record { now = n; next = x })) (listed ns))
call_of model.sealed (OpenLoop l gs) row = Some (open_loop l (guarded gs))
call_of model.sealed (CloseLoop ns) row = None
call_of model.sealed Abandon row = None
call_of model.sealed (DrawFor n m) row = Some (draw n m)
call_of model.sealed (Draw n) row = Some (draw_alone n)
call_of model.sealed (Refute n) row = Some (refute n row)
call_of (model.loop f j hs) (Give c) row = None
call_of (model.loop f j hs) Seal row = None
call_of (model.loop f j hs) (WaitLine n) row = None
call_of (model.loop f j hs) (WaitLiteral l) row = None
call_of (model.loop f j hs) (Resolve a b k) row = Some (infer (resolving k) (a ∷ b ∷ []))
call_of (model.loop f j hs) (Trial n x ns) row = Some (infer (trying (record { now = n; next = x })) (listed ns))
call_of (model.loop f j hs) (OpenLoop l gs) row = None
call_of (model.loop f j hs) (CloseLoop ns) row = Some (close (listed ns))
call_of (model.loop f j hs) Abandon row = Some abandon
call_of (model.loop f j hs) (DrawFor n m) row = None
call_of (model.loop f j hs) (Draw n) row = None
call_of (model.loop f j hs) (Refute n) row = None

-- what the call answered, the row being as it is after it
abbrev pub answer : Record → List ℕ → Result ℕ Fault → Answer
answer (Give c) row r = answer_of r
answer Seal row r = answer_of r
answer (WaitLine n) row r = answer_of r
answer (WaitLiteral l) row r = answer_of r
answer (Resolve a b k) row r = answer_of r
answer (Trial n x ns) row r = answer_of r
answer (OpenLoop l gs) row r = answer_of r
answer (CloseLoop ns) row r = answer_of r
answer Abandon row r = answer_of r
answer (DrawFor n m) row r = answer_of r
answer (Draw n) row r = answer_of r
answer (Refute n) row r = case.core_answer row r

abbrev pub RowKept : Record → Result ℕ Fault → List ℕ → List ℕ → Type 0
RowKept (Give c) r row row' = row' ≡ row
RowKept Seal r row row' = row' ≡ row
RowKept (WaitLine n) r row row' = row' ≡ row
RowKept (WaitLiteral l) r row row' = row' ≡ row
RowKept (Resolve a b k) r row row' = row' ≡ row
RowKept (Trial n x ns) r row row' = row' ≡ row
RowKept (OpenLoop l gs) r row row' = row' ≡ row
RowKept (CloseLoop ns) r row row' = row' ≡ row
RowKept Abandon r row row' = row' ≡ row
RowKept (DrawFor n m) r row row' = row' ≡ row
RowKept (Draw n) r row row' = row' ≡ row
RowKept (Refute n) r row row' = case.RowKept r row row'

abbrev pub Did : Option Call → model.State → Record → List ℕ → Result ℕ Fault → model.State → List ℕ → Type 0
Did None s k row r s' row' = (r ≡ Err (plain WrongState)) × (s' ≡ s) × (row' ≡ row)
Did (Some c) s k row r s' row' = Answered s c (answer k row' r) s' × RowKept k r row row'

-- a record, from the state and the row that it finds to those that it leaves
abbrev pub Step : model.State → Record → List ℕ → Result ℕ Fault → model.State → List ℕ → Type 0
Step s k row r s' row' = Did (call_of s.stage k row) s k row r s' row'

-- calls led to this state, and the places after its last line are blank
abbrev pub LedTo : model.State → List Line → Type 0
LedTo s t = (h : List (Call × Answer)) × Led h s t

-- what calls led to goes on by calls
abbrev pub LeadsOn : model.State → List Line → model.State → List Line → Type 0
LeadsOn s t s' t' = (h : List (Call × Answer)) → Led h s t → LedTo s' t'
