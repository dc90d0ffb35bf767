-- Lines of a text, and what reading them comes to.
use Rattle.std.proofs.Common.{◌≡◌, ℕ, ◌+◌, ◌<◌, ◌≤◌, Bool, true, false, List, [], ◌∷◌, length, is_some, IfOk, MatchOption, Some, None, Ok, Err, Option, Result, sym, refl, ap, ◌∙◌, subst, ⊎_elim, arith}
use Rattle.std.specs.Borrow.{Bor}
use Rattle.std.specs.Option.{unwrap_or}
use Rattle.std.proofs.lemmas.Bool.{cond-false, ne_eqb, eq-eqb, lt-leb, le-leb}
use Rattle.clause.specs.declared.refusal.Fault.{Fault}
use Rattle.clause.specs.declared.refusal.Refusal.TheVariants.{UnknownKey, WrongState}
use Rattle.clause.specs.Refusals.{plain, placed}
use Rattle.protocol.specs.State as model
use Rattle.lines.specs.declared.line.Line.{Line}
use Rattle.case.specs.declared.stage.Intake.{Intake}
use Rattle.case.specs.declared.stage.Sealed.{Sealed}
use Rattle.case.specs.declared.stage.OpenLoop.{OpenLoop}
use Rattle.case.specs.View.{view_intake, view_sealed, view_loop, stage_of}
use Rattle.case.specs.Calling.{SealedAs}
use Rattle.forms.specs.Cuts.{split}
use Rattle.forms.proofs.Splits.{split_some}
use Rattle.records.specs.declared.record.Record.{Record}
use Rattle.records.specs.Fields.{misread}
use Rattle.records.specs.Records.{record_of}
use Rattle.text.specs.declared.stage.Stage.{Stage}
use Rattle.text.specs.declared.stage.Stage.TheVariants.{Taking, Working, Looping}
use Rattle.text.specs.declared.stage.Verdict.{Verdict}
use Rattle.text.specs.Calls.{view, LedTo}
use Rattle.text.specs.Reading.{Found, ends, stops, goes, verdict, lines, lines_in, LineRead, left, Held, Comes, TextRead}
use Rattle.text.specs.Texts.{LengthChecked}
use Rattle.text.proofs.Standings.{view_last, view_lines, same_number}

-- an empty line has an unknown key
pub some_line : (line : List ℕ) (e : Bool) (k : Record) → Ok k ≡ record_of line e → 0 < length line
some_line [] e k h = let q : record_of [] e ≡ Err (misread UnknownKey 0) = refl in let z : ◌≡◌ {A = ℕ} 0 1 = cc in absurd (omega arith)
some_line (x ∷ xs) e k h = omega arith

pub made_all : {A E : Type 0} (r : Result A E) (P : Type 0) → P → IfOk r (λ _. P)
made_all (Ok x) P p = p
made_all (Err e) P p = tt

in_more : (p : List ℕ) (ps : List (List ℕ)) → 0 < length ps → lines_in (p ∷ ps) ≡ (p, true) ∷ lines_in ps
in_more p [] h = absurd (omega arith)
in_more p (q ∷ ps) h = refl

lines_more : (text line rest : List ℕ) → split 10 text ≡ line ∷ split 10 rest → lines text ≡ (line, true) ∷ lines rest
lines_more text line rest e = ap lines_in e ∙ in_more line (split 10 rest) (split_some 10 rest)

lines_last : (text line : List ℕ) → split 10 text ≡ line ∷ [] → line ≡ text → (length text ≡ 0 → ⊥) → lines text ≡ (line, false) ∷ []
lines_last text line e q h = ap lines_in e ∙ cond-false _ _ _ (ne_eqb (length line) 0 (λ z. h (sym (ap length q) ∙ z)))

-- the first line of a text, cut off at its end, and what is left
pub first_line : (text line : List ℕ) (after : Option (Bor (List ℕ))) (nothing rest : Bor (List ℕ)) (ended : Bool)
    → rest ≡ unwrap_or after nothing → ended ≡ is_some after → nothing.now ≡ [] → (length text ≡ 0 → ⊥)
    → MatchOption after ((split 10 text ≡ line ∷ []) × (line ≡ text)) (λ s. (split 10 text ≡ line ∷ split 10 s.now) × (length line + 1 + length s.now ≡ length text))
    → (lines text ≡ (line, ended) ∷ lines rest.now) × (length rest.now < length text) × (0 < length rest.now → length line + 1 + length rest.now ≡ length text)
first_line text line None nothing rest ended r d e h q =
    let n : rest.now ≡ [] = ap (λ (z : Bor (List ℕ)). z.now) r ∙ e in let l : length rest.now ≡ 0 = ap length n in (
      lines_last text line q.0 q.1 h ∙ ap (λ (xs : List ℕ). (line, false) ∷ lines xs) (sym n) ∙ ap (λ b. (line, b) ∷ lines rest.now) (sym d),
      omega (arith, l, h),
      λ some. omega (arith, l, some),
    )
first_line text line (Some s) nothing rest ended r d e h q =
    let n : s.now ≡ rest.now = ap (λ (z : Bor (List ℕ)). z.now) (sym r) in let m : length line + 1 + length rest.now ≡ length text = ap (λ (xs : List ℕ). length line + 1 + length xs) (sym n) ∙ q.1 in (
      lines_more text line s.now q.0 ∙ ap (λ (xs : List ℕ). (line, true) ∷ lines xs) n ∙ ap (λ b. (line, b) ∷ lines rest.now) (sym d),
      omega (arith, m),
      λ _. m,
    )

-- a stage that calls led to stands in its table
pub held_view : (st : Stage) (t : List Line) → length t ≡ 1000 → LedTo (view st t) t → Held (view st t) t
held_view st t long led = (view_lines st t long, led.1.blank)

-- the end of a text
pub ends_taking : (i : Intake) (s : Sealed) (j n : ℕ) (v : Found) (x : Verdict) (t : List Line) (row : List ℕ) → length t ≡ 1000 → SealedAs i t s j → LedTo (view_intake i t) t → x ≡ verdict v j → Comes n [] v (view_intake i t) row (Ok (s, x)) t row
ends_taking i s j n v x t row long q led e =
    let a = q.exact long in
    (view_sealed s t, ends (a.1.1, ap Ok (e ∙ ap (verdict v) (same_number j _ a.1.0 ∙ ap (λ (z : model.State). model.last z) (sym a.1.1)))), held_view (Working s) t long (_, q.onward long led.0 led.1), refl)

pub ends_working : (s : Sealed) (j n : ℕ) (v : Found) (x : Verdict) (t : List Line) (row : List ℕ) → length t ≡ 1000 → j ≡ s.body.last → LedTo (view_sealed s t) t → x ≡ verdict v j → Comes n [] v (view_sealed s t) row (Ok (s, x)) t row
ends_working s j n v x t row long e led w = (view_sealed s t, ends (refl, ap Ok (w ∙ ap (verdict v) (e ∙ sym (view_last (Working s) t long)))), held_view (Working s) t long led, refl)

pub ends_looping : (o : OpenLoop) (n : ℕ) (v : Found) (f : Fault) (t t' : List Line) (row : List ℕ) → Held (left (stage_of o) (view_loop o t)) t' → f ≡ placed n 0 (plain WrongState) → Comes n [] v (view_loop o t) row (Err f) t' row
ends_looping o n v f t t' row h e = (left (stage_of o) (view_loop o t), ends (refl, ap Err e), h, tt)

-- a line that was refused, and one that was not
pub stops_by : (n : ℕ) (line : List ℕ) (e : Bool) (ls : List (List ℕ × Bool)) (v : Found) (s s' : model.State) (row row' : List ℕ) (f : Fault) (t' : List Line)
    → LineRead n line e v s row (Err f) s' row' → Held (left s'.stage s') t' → Comes n ((line, e) ∷ ls) v s row (Err f) t' row'
stops_by n line e ls v s s' row row' f t' q k = (left s'.stage s', stops s' q refl, k, tt)

pub goes_by : (n : ℕ) (line : List ℕ) (e : Bool) (ls : List (List ℕ × Bool)) (v w : Found) (s s' : model.State) (row row' row'' : List ℕ) (z : Result (Sealed × Verdict) Fault) (t'' : List Line)
    → LineRead n line e v s row (Ok w) s' row' → Comes (n + 1) ls w s' row' z t'' row'' → Comes n ((line, e) ∷ ls) v s row z t'' row''
goes_by n line e ls v w s s' row row' row'' z t'' q k = (k.0, goes q k.1, k.2, k.3)

-- the same from a number, lines and a state that are equal
pub comes_along : (n m : ℕ) (ls ms : List (List ℕ × Bool)) (v : Found) (s u : model.State) (row : List ℕ) (r : Result (Sealed × Verdict) Fault) (t' : List Line) (row' : List ℕ)
    → n ≡ m → ls ≡ ms → s ≡ u → Comes n ls v s row r t' row' → Comes m ms v u row r t' row'
comes_along n m ls ms v s u row r t' row' a b e h =
    subst (λ (z : ℕ). Comes z ms v u row r t' row') a (subst (λ (z : List (List ℕ × Bool)). Comes n z v u row r t' row') b (subst (λ (z : model.State). Comes n ls v z row r t' row') e h))

-- the same of a stage that is known
pub finish_taking : (st : Stage) (i : Intake) (s : Sealed) (j n : ℕ) (v : Found) (x : Verdict) (t : List Line) (row : List ℕ) → st ≡ Taking i → length t ≡ 1000 → SealedAs i t s j → LedTo (view st t) t → x ≡ verdict v j → Comes n [] v (view st t) row (Ok (s, x)) t row
finish_taking st i s j n v x t row e long q led w = subst (λ (z : Stage). Comes n [] v (view z t) row (Ok (s, x)) t row) (sym e) (ends_taking i s j n v x t row long q (subst (λ (z : Stage). LedTo (view z t) t) e led) w)

pub finish_working : (st : Stage) (s : Sealed) (j n : ℕ) (v : Found) (x : Verdict) (t : List Line) (row : List ℕ) → st ≡ Working s → length t ≡ 1000 → j ≡ s.body.last → LedTo (view st t) t → x ≡ verdict v j → Comes n [] v (view st t) row (Ok (s, x)) t row
finish_working st s j n v x t row e long last led w =
    subst (λ (z : Stage). Comes n [] v (view z t) row (Ok (s, x)) t row) (sym e) (ends_working s j n v x t row long last (subst (λ (z : Stage). LedTo (view z t) t) e led) w)

pub finish_looping : (st : Stage) (o : OpenLoop) (n : ℕ) (v : Found) (f : Fault) (t t' : List Line) (row : List ℕ) → st ≡ Looping o → Held (left (stage_of o) (view_loop o t)) t' → f ≡ placed n 0 (plain WrongState) → Comes n [] v (view st t) row (Err f) t' row
finish_looping st o n v f t t' row e h w = subst (λ (z : Stage). Comes n [] v (view z t) row (Err f) t' row) (sym e) (ends_looping o n v f t t' row h w)

-- a text whose lines are read
pub whole_read : (text : List ℕ) (t : List Line) (row : List ℕ) (r : Result (Sealed × Verdict) Fault) (t' : List Line) (row' : List ℕ)
    → length t ≡ 1000 → length row ≡ 200 → length text ≤ 65536 → (length text ≡ 0 → ⊥) → Comes 1 (lines text) None model.fresh row r t' row' → TextRead text t row r t' row'
whole_read text t row r t' row' a b c d h = rw (eq-eqb (length t) 1000 a, eq-eqb (length row) 200 b, lt-leb 65537 (length text) (omega arith), ne_eqb (length text) 0 d) h

-- a text that is refused before its lines
pub whole_refused : (text : List ℕ) (t : List Line) (row : List ℕ) (r : Result (Sealed × Verdict) Fault) (t' : List Line) (f : Fault)
    → length t ≡ 1000 → length row ≡ 200 → t' ≡ t → r ≡ Err f → LengthChecked (length text) (Err f) → TextRead text t row r t' row
whole_refused text t row r t' f a b e q h = rw (eq-eqb (length t) 1000 a, eq-eqb (length row) 200 b) (⊎_elim
    (λ w. rw (le-leb 65537 (length text) (omega (arith, w.0))) (q ∙ ap Err w.1, e, refl))
    (λ w. rw (lt-leb 65537 (length text) (omega (arith, w.0)), eq-eqb (length text) 0 w.0) (q ∙ ap Err w.1, e, refl))
    h)

pub made_part : {A E : Type 0} (r : Result A E) (P Q : A → Type 0) → ((x : A) → P x → Q x) → IfOk r P → IfOk r Q
made_part (Ok x) P Q f h = f x h
made_part (Err e) P Q f h = tt
