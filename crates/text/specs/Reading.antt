-- What a case text comes to.
use Rattle.std.specs.Prelude.{◌≡◌, ℕ, ◌+◌, ◌-◌, Bool, true, false, cond, ◌&&◌, List, [], ◌∷◌, length, take, Some, None, Ok, Err, MatchBool, Option, Result, ◌==◌, nat_le}
use Rattle.clause.specs.declared.refusal.Fault.{Fault}
use Rattle.clause.specs.declared.refusal.Refusal.{Refusal}
use Rattle.clause.specs.declared.refusal.Refusal.TheVariants.{WrongSize, TextTooLong, TextEmpty, WrongState}
use Rattle.clause.specs.Refusals.{plain, placed}
use Rattle.protocol.specs.State as model
use Rattle.lines.specs.declared.line.Line.{Line}
use Rattle.lines.specs.View.{lines_of, BlankFrom}
use Rattle.case.specs.declared.stage.Sealed.{Sealed}
use Rattle.case.specs.View.{view_sealed}
use Rattle.forms.specs.Cuts.{split}
use Rattle.records.specs.declared.record.Record.{Record}
use Rattle.records.specs.declared.record.Record.TheVariants.{Give, Seal, WaitLine, WaitLiteral, Resolve, Trial, OpenLoop, CloseLoop, Abandon, DrawFor, Draw, Refute}
use Rattle.records.specs.Records.{record_of}
use Rattle.text.specs.declared.reading.Reading.{Reading}
use Rattle.text.specs.declared.stage.Refuted.{Refuted}
use Rattle.text.specs.declared.stage.Verdict.{Verdict}
use Rattle.text.specs.declared.stage.Verdict.TheVariants.{Open, Contradiction}
use Rattle.text.specs.Calls.{Step}
use Rattle.text.specs.Fields.{field_of}

-- the first line of the open loop
abbrev pub first_of : model.Stage → Option ℕ
first_of model.intake = None
first_of model.sealed = None
first_of (model.loop f l gs) = Some f

-- the last accepted refutation: its line, and the size of its core
abbrev pub Found : Type 0
Found = Option Refuted

abbrev pub found : Record → Found → ℕ → Found
found (Give c) v j = v
found Seal v j = v
found (WaitLine n) v j = v
found (WaitLiteral l) v j = v
found (Resolve a b k) v j = v
found (Trial n x ns) v j = v
found (OpenLoop l gs) v j = v
found (CloseLoop ns) v j = v
found Abandon v j = v
found (DrawFor n m) v j = v
found (Draw n) v j = v
found (Refute n) v j = Some (record { line = n; count = j })

abbrev pub told : ℕ → model.State → Record → Found → Result ℕ Fault → Result Found Fault
told n s k v (Ok m) = Ok (found k v m)
told n s k v (Err f) = Err (placed n (field_of s.lines (first_of s.stage) k f.refusal) f)

abbrev pub Judged : ℕ → Result Record Fault → Found → model.State → List ℕ → Result Found Fault → model.State → List ℕ → Type 0
Judged n (Err f) v s row r s' row' = (r ≡ Err (placed n f.field f)) × (s' ≡ s) × (row' ≡ row)
Judged n (Ok k) v s row r s' row' = (a : Result ℕ Fault) × Step s k row a s' row' × (r ≡ told n s k v a)

-- what a text has come to after a line, accepted or refused, and what that line tells
abbrev pub reached : Result Reading (Reading × Fault) → Reading
reached (Ok p) = p
reached (Err q) = q.0

abbrev pub known : Result Reading (Reading × Fault) → Result Found Fault
known (Ok p) = Ok p.found
known (Err q) = Err q.1

-- line n of a text, without its end, and whether that is there
abbrev pub LineRead : ℕ → List ℕ → Bool → Found → model.State → List ℕ → Result Found Fault → model.State → List ℕ → Type 0
LineRead n line e v s row r s' row' = Judged n (record_of line e) v s row r s' row'

-- the lines of a text, each with whether its end is there
abbrev pub lines_in : List (List ℕ) → List (List ℕ × Bool)
lines_in [] = []
lines_in (p ∷ []) = cond (length p == 0) [] ((p, false) ∷ [])
lines_in (p ∷ q ∷ ps) = (p, true) ∷ lines_in (q ∷ ps)

abbrev pub lines : List ℕ → List (List ℕ × Bool)
lines text = lines_in (split 10 text)

-- the verdict of a text whose last line number is n
abbrev pub verdict : Found → ℕ → Verdict
verdict None n = Open n
verdict (Some p) n = Contradiction p.line p.count

-- a case whose text was refused: its open loop is abandoned
abbrev pub left : model.Stage → model.State → model.State
left model.intake s = s
left model.sealed s = s
left (model.loop f l gs) s = record { stage = model.sealed; given = s.given; lines = take (f - 1) s.lines }

-- the end of a text before line n: one in intake is sealed, one in an open loop is refused
abbrev pub Ending : model.Stage → ℕ → Found → model.State → Result Verdict Fault → model.State → Type 0
Ending model.intake n v s r t = (t ≡ record { stage = model.sealed; given = s.given; lines = s.lines }) × (r ≡ Ok (verdict v (model.last t)))
Ending model.sealed n v s r t = (t ≡ s) × (r ≡ Ok (verdict v (model.last t)))
Ending (model.loop f l gs) n v s r t = (t ≡ left (model.loop f l gs) s) × (r ≡ Err (placed n 0 (plain WrongState)))

-- the lines of a text from line n on, one after another
pub data Reads : ℕ → List (List ℕ × Bool) → Found → model.State → List ℕ → Result Verdict Fault → model.State → List ℕ → Type 0 where
  ends : {n : ℕ} {v : Found} {s t : model.State} {row : List ℕ} {r : Result Verdict Fault} → Ending s.stage n v s r t → Reads n [] v s row r t row
  stops : {n : ℕ} {l : List ℕ × Bool} {ls : List (List ℕ × Bool)} {v : Found} {s u : model.State} {row row' : List ℕ} {f : Fault} (t : model.State)
      → LineRead n l.0 l.1 v s row (Err f) t row' → u ≡ left t.stage t → Reads n (l ∷ ls) v s row (Err f) u row'
  goes : {n : ℕ} {l : List ℕ × Bool} {ls : List (List ℕ × Bool)} {v w : Found} {s t u : model.State} {row row' row'' : List ℕ} {r : Result Verdict Fault}
      → LineRead n l.0 l.1 v s row (Ok w) t row' → Reads (n + 1) ls w t row' r u row'' → Reads n (l ∷ ls) v s row r u row''

-- the table holds the state's lines, and blank places after them
abbrev pub Held : model.State → List Line → Type 0
Held s t = (s.lines ≡ lines_of (take (model.last s) t)) × BlankFrom (model.last s) t

-- what an accepted text hands on: the sealed case, and its verdict
abbrev pub outcome : Result (Sealed × Verdict) Fault → Result Verdict Fault
outcome (Ok p) = Ok p.1
outcome (Err f) = Err f

abbrev pub IsCase : Result (Sealed × Verdict) Fault → model.State → List Line → Type 0
IsCase (Ok p) s t = view_sealed p.0 t ≡ s
IsCase (Err f) s t = Unit {0}

-- what the lines of a text come to
abbrev pub Comes : ℕ → List (List ℕ × Bool) → Found → model.State → List ℕ → Result (Sealed × Verdict) Fault → List Line → List ℕ → Type 0
Comes n ls v s row r t' row' = (u : model.State) × Reads n ls v s row (outcome r) u row' × Held u t' × IsCase r u t'

abbrev pub RefusedAtOnce : Refusal → List Line → List ℕ → Result (Sealed × Verdict) Fault → List Line → List ℕ → Type 0
RefusedAtOnce q t row r t' row' = (r ≡ Err (plain q)) × (t' ≡ t) × (row' ≡ row)

-- a case text: what is refused before its lines, and what its lines come to, from an empty case
abbrev pub TextRead : List ℕ → List Line → List ℕ → Result (Sealed × Verdict) Fault → List Line → List ℕ → Type 0
TextRead text t row r t' row' =
    MatchBool (length t == 1000 && length row == 200)
    (MatchBool (nat_le 65537 (length text)) (RefusedAtOnce TextTooLong t row r t' row')
    (MatchBool (length text == 0) (RefusedAtOnce TextEmpty t row r t' row') (Comes 1 (lines text) None model.fresh row r t' row')))
    (RefusedAtOnce WrongSize t row r t' row')
