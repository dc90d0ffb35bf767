-- Numbers of lines, and records that are answered.
use Rattle.std.proofs.Common.{◌≡◌, ℕ, List, length, take, Some, None, Ok, Err, Option, Result, refl, sym, ap, ◌∙◌, subst, arith}
use Rattle.clause.specs.Refusals.{placed}
use Rattle.std.proofs.lemmas.List.{length-map}
use Rattle.clause.specs.declared.refusal.Fault.{Fault}
use Rattle.protocol.specs.State as model
use Rattle.protocol.specs.Calls.{Call, Answer, number, refused}
use Rattle.protocol.specs.Answers.{Answered}
use Rattle.lines.specs.declared.line.Line.{Line}
use Rattle.lines.specs.View.{line_of, lines_of}
use Rattle.case.proofs.Growing.{front_length}
use Rattle.text.specs.declared.stage.Stage.{Stage}
use Rattle.text.specs.declared.stage.Stage.TheVariants.{Taking, Working, Looping}
use Rattle.records.specs.declared.record.Record.{Record}
use Rattle.records.specs.declared.record.Record.TheVariants.{Give, Seal, WaitLine, WaitLiteral, Resolve, Trial, OpenLoop, CloseLoop, Abandon, DrawFor, Draw, Refute}
use Rattle.text.specs.Calls.{view, call_of, answer, Did, Step}
use Rattle.text.specs.Fields.{field_of}
use Rattle.text.specs.Reading.{Found, Judged, first_of}

pub lines_length : (t : List Line) → length (lines_of t) ≡ length t
lines_length t = length-map t line_of

-- the number of the last line
abbrev pub number_of : Stage → ℕ
number_of (Taking i) = i.given
number_of (Working s) = s.body.last
number_of (Looping o) = o.body.last

pub view_last : (st : Stage) (t : List Line) → length t ≡ 1000 → model.last (view st t) ≡ number_of st
view_last (Taking i) t long = front_length i.given t (omega (arith, i.few))
view_last (Working s) t long = front_length s.body.last t (omega (arith, s.body.fits))
view_last (Looping o) t long = front_length o.body.last t (omega (arith, o.body.fits))

-- the lines of a stage stand in front of the table
pub view_lines : (st : Stage) (t : List Line) → length t ≡ 1000 → (view st t).lines ≡ lines_of (take (model.last (view st t)) t)
view_lines (Taking i) t long = ap (λ n. lines_of (take n t)) (sym (view_last (Taking i) t long))
view_lines (Working s) t long = ap (λ n. lines_of (take n t)) (sym (view_last (Working s) t long))
view_lines (Looping o) t long = ap (λ n. lines_of (take n t)) (sym (view_last (Looping o) t long))

abbrev pub at : model.Stage → ℕ → List model.Line → model.State
at st g ls = record { stage = st; given = g; lines = ls }

pub same_number : (a b : ℕ) → number a ≡ number b → a ≡ b
same_number a b e = cc

pub no_ok : {A : Type 0} {m : ℕ} {f : Fault} → ◌≡◌ {A = Result ℕ Fault} (Ok m) (Err f) → A
no_ok e = let z : ◌≡◌ {A = ℕ} 0 1 = cc in absurd (omega arith)

-- a refused record changes nothing
answer_refused : (w : Record) (row : List ℕ) (e : Fault) → answer w row (Err e) ≡ refused e
answer_refused (Give c) row e = refl
answer_refused Seal row e = refl
answer_refused (WaitLine n) row e = refl
answer_refused (WaitLiteral l) row e = refl
answer_refused (Resolve a b k) row e = refl
answer_refused (Trial n x ns) row e = refl
answer_refused (OpenLoop l gs) row e = refl
answer_refused (CloseLoop ns) row e = refl
answer_refused Abandon row e = refl
answer_refused (DrawFor n m) row e = refl
answer_refused (Draw n) row e = refl
answer_refused (Refute n) row e = refl

did_refused : (o : Option Call) (s t : model.State) (w : Record) (row row' : List ℕ) (e : Fault) → Did o s w row (Err e) t row' → t ≡ s
did_refused None s t w row row' e q = q.1
did_refused (Some c) s t w row row' e q = let a = subst (λ (z : Answer). Answered s c z t) (answer_refused w row' e) q.0 in a.1

pub refused_same : (s : model.State) (w : Record) (row row' : List ℕ) (e : Fault) (t : model.State) → Step s w row (Err e) t row' → t ≡ s
refused_same s w row row' e t q = did_refused (call_of s.stage w row) s t w row row' e q

-- a refused record, as code has it
pub taken_err : (s s' : model.State) (w : Record) (row row' : List ℕ) (n : ℕ) (v : Found) (a : Result ℕ Fault) (e y : Fault) → a ≡ Err e → Step s w row a s' row' → y ≡ placed n (field_of s'.lines (first_of s'.stage) w e.refusal) e
    → Judged n (Ok w) v s row (Err y) s' row'
taken_err s s' w row row' n v a e y ea q ey =
    let q' : Step s w row (Err e) s' row' = subst (λ (z : Result ℕ Fault). Step s w row z s' row') ea q in
    let same = refused_same s w row row' e s' q' in
    (Err e, q', ap Err (ey ∙ ap (λ (z : model.State). placed n (field_of z.lines (first_of z.stage) w e.refusal) e) same))
