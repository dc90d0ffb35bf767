-- The states of a case that is played through, from answer to answer.
use Rattle.std.proofs.Common.{◌≡◌, ℕ, ◌+◌, ◌≤◌, List, [], ◌∷◌, ◌++◌, length, Ok, Err, Result, sym, refl, subst, ⊎_elim, arith}
use Rattle.std.proofs.lemmas.Bool.{cases_eq}
use Rattle.clause.specs.declared.refusal.Fault.{Fault}
use Rattle.clause.specs.declared.syntax.Clause.{Clause}
use Rattle.clause.specs.Meaning.{Keeps}
use Rattle.rules.specs.Books.{Consult}
use Rattle.protocol.specs.State.{Line, State, intake, sealed, fresh, clause_at}
use Rattle.protocol.specs.Calls.{give, seal, infer, number}
use Rattle.protocol.specs.Answers.{added, derived, Answered}
use Rattle.protocol.specs.Promise.{Contradiction}
use Rattle.lines.specs.declared.line.Line.{Line as Place}
use Rattle.case.specs.declared.stage.Intake.{Intake}
use Rattle.case.specs.declared.stage.Sealed.{Sealed}
use Rattle.case.specs.View.{view_intake, view_sealed}
use Rattle.case.specs.Calling.{Begun, Called, SealedAs}
use Rattle.case.specs.Verdict.{RefuteVerdict, RowKept, Refuted}
use Rattle.weakening.specs.Ends.{given_at, Refutes, Ends}

abbrev two : Clause → Clause → State
two a b = record { stage = intake; given = 2; lines = derived a [] ∷ derived b [] ∷ [] }

-- two given lines and one more
abbrev three : Clause → Clause → Line → State
three a b y = record { stage = sealed; given = 2; lines = derived a [] ∷ derived b [] ∷ y ∷ [] }

module _ (a b : Clause) (k : Consult) (ns : List ℕ) where
  played : (s s1 s2 s3 s4 : State) (n1 n2 n3 n4 : ℕ) → s ≡ fresh → Answered s (give a) (number n1) s1 → Answered s1 (give b) (number n2) s2
      → Answered s2 seal (number n3) s3 → Answered s3 (infer k ns) (number n4) s4 → (y : Line) × (s4 ≡ three a b y)
  played s s1 s2 s3 s4 n1 n2 n3 n4 e p q u v =
      let e1 = subst (λ z. s1 ≡ record { stage = intake; given = z.given + 1; lines = z.lines ++ (derived a [] ∷ []) }) e p.1.1 in
      let e2 = subst (λ z. s2 ≡ record { stage = intake; given = z.given + 1; lines = z.lines ++ (derived b [] ∷ []) }) e1 q.1.1 in
      let e3 = subst (λ z. s3 ≡ record { stage = sealed; given = z.given; lines = z.lines }) e2 u.1.1 in
      (v.1.0, subst (λ z. s4 ≡ added z (v.1.0 ∷ [])) e3 v.1.3)

clause_is : (a b : Clause) (y : Line) (m : ℕ) → 1 ≤ m → m ≤ 2 → given_at a b m ≡ clause_at (three a b y).lines m
clause_is a b y m h l = ⊎_elim
    (λ e. subst (λ k. given_at a b k ≡ clause_at (three a b y).lines k) (sym e) refl)
    (λ n. let e : 2 ≡ m = omega arith in subst (λ k. given_at a b k ≡ clause_at (three a b y).lines k) e refl)
    (cases_eq m 1)

refutes : (a b : Clause) (y : Line) (n : ℕ) (row : List ℕ) (count : ℕ) → Contradiction (three a b y) n row count → Refutes a b row count
refutes a b y n row count (ns, is, row_is, long, count_is, none) = record {
  core = ns;
  rising = is.rising;
  own = λ m h. let w = is.within m h in (w.0, w.1);
  row_is = row_is;
  long = long;
  count_is = count_is;
  kept_by_none = λ r k. none r (λ m h. let w = is.within m h in subst (Keeps r) (clause_is a b y m w.0 w.1) (k m h));
}

ends : (a b : Clause) (y : Line) (s : State) (n : ℕ) (row row' : List ℕ) (r : Result ℕ Fault) → s ≡ three a b y → RefuteVerdict s n row' r → RowKept r row row' → Ends a b row row' r
ends a b y s n row row' (Ok count) e v k = refutes a b y n row' count (subst (λ z. Contradiction z n row' count) e v)
ends a b y s n row row' (Err f) e v k = k

-- two clauses given, the case sealed, a line added by a book, and a line refuted: with each call, what led here leads on
pub play_ends : (a b : Clause) (k : Consult) (ns : List ℕ) (n : ℕ) (row row' : List ℕ) (r : Result ℕ Fault) (i i1 i2 : Intake) (x x1 : Sealed) (t t0 t1 t2 t3 : List Place) (n1 n2 n3 n4 : ℕ)
    → Begun (Ok i) t t0 → length t0 ≡ length t
    → Called view_intake (give a) (number n1) i t0 i1 t1 → length t1 ≡ length t
    → Called view_intake (give b) (number n2) i1 t1 i2 t2 → length t2 ≡ length t
    → SealedAs i2 t2 x n3
    → Called view_sealed (infer k ns) (number n4) x t2 x1 t3 → length t3 ≡ length t
    → Refuted n r x1 t3 row row' → Ends a b row row' r
play_ends a b k ns n row row' r i i1 i2 x x1 t t0 t1 t2 t3 n1 n2 n3 n4 w l0 g l1 h l2 s f l3 v =
    let m0 : length t0 ≡ 1000 = omega (arith, w.0) in
    let m1 : length t1 ≡ 1000 = omega (arith, w.0) in
    let m2 : length t2 ≡ 1000 = omega (arith, w.0) in
    let m3 : length t3 ≡ 1000 = omega (arith, w.0) in
    let y = played a b k ns _ _ _ _ _ n1 n2 n3 n4 w.1 (g.exact.right m0) (h.exact.right m1) (s.exact m2) (f.exact.right m2) in
    let led = f.onward m2 _ (s.onward m2 _ (h.onward m1 _ (g.onward m0 _ w.3))) in
    ends a b y.0 (view_sealed x1 t3) n row row' r y.1 (v.verdict m3 _ led) v.kept
