-- What a refute answers.
use Rattle.std.proofs.Common.{◌≡◌, ℕ, ◌<◌, ◌≤◌, List, length, take, Ok, Err, Result, refl, ap, subst, inl, inr, arith}
use Rattle.std.proofs.lemmas.List.{length-take-le, length-map}
use Rattle.clause.specs.declared.refusal.Fault.{Fault}
use Rattle.clause.specs.declared.refusal.Refusal.TheVariants.{WrongSize, NoSuchLine}
use Rattle.clause.specs.Refusals.{plain}
use Rattle.protocol.specs.State as model
use Rattle.protocol.specs.Calls.{Call, Answer, refute, core}
use Rattle.protocol.specs.Answers.{Answered}
use Rattle.protocol.proofs.Causing.{not_if}
use Rattle.protocol.proofs.Histories.{promise}
use Rattle.lines.specs.declared.line.Line.{Line}
use Rattle.lines.specs.View.{line_of, lines_of}
use Rattle.cores.specs.Cored.{FitsRow, Cored}
use Rattle.case.specs.declared.stage.Sealed.{Sealed}
use Rattle.case.specs.View.{view_sealed}
use Rattle.case.specs.Verdict.{Refuted, Refutable, RefuteVerdict, RowKept, core_answer}
use Rattle.case.specs.Calling.{Led}
use Rattle.case.proofs.Growing.{leads}

module _ (n : ℕ) (s : Sealed) (t : List Line) (row row' : List ℕ) (long : length t ≡ 1000) where
  pub refuted_call : (r : Result ℕ Fault) → RowKept r row row' → Answered (view_sealed s t) (refute n row) (core_answer row' r) (view_sealed s t) → Refuted n r s t row row'
  refuted_call r k w = record {
    wrong = λ z. absurd (z long);
    right = λ _. w;
    kept = k;
    onward = λ _. leads (refute n row) (core_answer row' r) (view_sealed s t) t (view_sealed s t) t tt w (λ b. b);
    verdict = λ _ h l. verdict r w h l;
  }
    where
      verdict : (r : Result ℕ Fault) → Answered (view_sealed s t) (refute n row) (core_answer row' r) (view_sealed s t) → (h : List (Call × Answer)) → Led h (view_sealed s t) t → RefuteVerdict (view_sealed s t) n row' r
      verdict (Ok count) w h l = (promise.1 h (view_sealed s t) l.history).refuted n count row row' (view_sealed s t) tt w
      verdict (Err f) w h l = tt

  few : length (take s.body.last t) ≤ 1000
  few = omega (arith, length-take-le s.body.last t (omega (arith, s.body.fits)), s.body.fits)

  pub refute_err : length row ≡ 200 → (f : Fault) (ls : List Line) → ls ≡ take s.body.last t → Refutable ls n (Err f) → row' ≡ row → Refuted n (Err f) s t row row'
  refute_err sized f ls e q k = refuted_call (Err f) k (inr (not_if _ WrongSize (λ z. z sized), subst (λ (xs : List Line). Refutable xs n (Err f)) e q s.body.given few), refl)

  pub refute_ok : length row ≡ 200 → (count : ℕ) (ls : List Line) → ls ≡ take s.body.last t → Refutable ls n (Ok tt) → (FitsRow ls n s.body.given row → Cored ls n s.body.given count row') → Refuted n (Ok count) s t row row'
  refute_ok sized count ls e q k =
      let fr = take s.body.last t in
      let w = subst (λ (xs : List Line). Refutable xs n (Ok tt)) e q s.body.given few in
      let in' : ¬ (length (lines_of fr) < n) = λ h. w.0 (plain NoSuchLine) (inl (inr h), refl) in
      let k' = subst (λ (xs : List Line). FitsRow xs n s.body.given row → Cored xs n s.body.given count row') e k (few, omega (arith, length-map fr line_of), s.body.few, sized) in
      refuted_call (Ok count) tt (
        (not_if _ WrongSize (λ z. z sized), w),
        (k'.0, k'.1 model.sealed, (λ i. core (k'.2 i) (k'.3 i)), refl),
      )

pub refute_size : (n : ℕ) (s : Sealed) (t : List Line) (row : List ℕ) (f : Fault) → length t ≡ 1000 → (length row ≡ 200 → ⊥) → f ≡ plain WrongSize → Refuted n (Err f) s t row row
refute_size n s t row f long z e = refuted_call n s t row row long (Err f) refl (inl (z, e), refl)
