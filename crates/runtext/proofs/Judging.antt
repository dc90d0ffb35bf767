-- A run that is kept.
use Rattle.std.proofs.Common.{◌≡◌, ℕ, ◌≤◌, List, length, IfOk, Ok, Err, Result, sym, subst, ⊎_elim, arith}
use Rattle.std.proofs.lemmas.Bool.{cases_eq}
use Rattle.clause.specs.declared.refusal.Fault.{Fault}
use Rattle.clause.specs.declared.syntax.Clause.{Clause}
use Rattle.clause.specs.Meaning.{Keeps}
use Rattle.lines.specs.declared.line.Line.{Line}
use Rattle.case.specs.declared.stage.Sealed.{Sealed}
use Rattle.case.specs.View.{view_sealed}
use Rattle.case.specs.Verdict.{Shown}
use Rattle.text.specs.declared.stage.Verdict.{Verdict}
use Rattle.text.specs.declared.stage.Verdict.TheVariants.{Open, Contradiction}
use Rattle.text.specs.Promise.{Agrees, NoRun}
use Rattle.runtext.specs.declared.stage.TextRun.{TextRun}
use Rattle.runtext.specs.Reading.{run_of, RunRead}
use Rattle.runtext.specs.Judging.{Showing, ShownText, KeptBy, NotContradiction}

no_err : {A : Type 0} (p : ℕ × ℕ) (f : Fault) → ◌≡◌ {A = Result (ℕ × ℕ) Fault} (Ok p) (Err f) → A
no_err p f e = let z : ◌≡◌ {A = ℕ} 0 1 = cc in absurd (omega arith)

kept_here : (cs : List Clause) (text : List ℕ) (x : TextRun) (s : Sealed) (t : List Line) (p : ℕ × ℕ) → RunRead text (Ok x) → Shown (run_of x) (Ok p) s t → Agrees (view_sealed s t) cs → length t ≡ 1000 → KeptBy cs text p
kept_here cs text x s t p rd q a long =
    let v = q.verdict long in
    (x, rd, v.0, λ m h k. let e = a.0 in let k' : m ≤ (view_sealed s t).given = omega arith in subst (Keeps (run_of x).run) (a.1 m h k') (v.1 m h k'))

kept_shown : (cs : List Clause) (text : List ℕ) (x : TextRun) (s : Sealed) (t : List Line) (r : Result (ℕ × ℕ) Fault) → RunRead text (Ok x) → Shown (run_of x) r s t → Agrees (view_sealed s t) cs → IfOk r (KeptBy cs text)
kept_shown cs text x s t (Ok p) rd q a = ⊎_elim (kept_here cs text x s t p rd q a) (λ n. no_err p _ (q.wrong n)) (cases_eq (length t) 1000)
kept_shown cs text x s t (Err f) rd q a = tt

kept_showing : (cs : List Clause) (text : List ℕ) (b : Result TextRun Fault) (s : Sealed) (t : List Line) (r : Result (ℕ × ℕ) Fault) → RunRead text b → Showing b s t r → Agrees (view_sealed s t) cs → IfOk r (KeptBy cs text)
kept_showing cs text (Ok x) s t r rd q a = kept_shown cs text x s t r rd q a
kept_showing cs text (Err f) s t r rd q a = subst (λ (z : Result (ℕ × ℕ) Fault). IfOk z (KeptBy cs text)) (sym q) tt

pub kept_text : (cs : List Clause) (text : List ℕ) (s : Sealed) (t : List Line) (r : Result (ℕ × ℕ) Fault) → ShownText text s t r → Agrees (view_sealed s t) cs → IfOk r (KeptBy cs text)
kept_text cs text s t r q a = kept_showing cs text q.0 s t r q.1 q.2 a

apart_by : (cs : List Clause) (text : List ℕ) (p : ℕ × ℕ) (x : Verdict) → NoRun cs x → KeptBy cs text p → NotContradiction x
apart_by cs text p (Open n) h k = tt
apart_by cs text p (Contradiction n count) h k = h (run_of k.0).run k.3

pub never_both : (cs : List Clause) (text : List ℕ) (r : Result (ℕ × ℕ) Fault) → IfOk r (KeptBy cs text) → (x : Verdict) → NoRun cs x → IfOk r (λ _. NotContradiction x)
never_both cs text (Ok p) k x h = apart_by cs text p x h k
never_both cs text (Err f) k x h = tt
