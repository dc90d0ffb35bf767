-- The given lines put to a run.
use Rattle.std.proofs.Common.{◌≡◌, ℕ, ◌+◌, ◌-◌, ◌<◌, ◌≤◌, List, [], ◌∷◌, ◌++◌, length, get_or, take, Some, None, Ok, Err, Result, sym, refl, ap, ◌∙◌, subst, inl, ⊎_elim, arith}
use lib.Bits.{bit_or}
use Rattle.std.proofs.lemmas.List.{get_or-take, get_or_append_left, take-map, map_push, length-append, length-map, length-take-le}
use Rattle.std.proofs.Math.Seq.{get_or-append_seam}
use Rattle.std.proofs.lemmas.Bool.{cases_eq}
use Rattle.clause.specs.declared.refusal.Fault.{Fault}
use Rattle.clause.specs.declared.refusal.Refusal.TheVariants.{RunBreaks}
use Rattle.clause.specs.Refusals.{fault_at}
use Rattle.clause.specs.declared.syntax.Clause.{Clause}
use Rattle.clause.specs.Bit.{In}
use Rattle.clause.specs.Meaning.{Run, Broken, Unbroken, Keeps}
use Rattle.clause.specs.Sets.{literal_of}
use Rattle.clause.proofs.Masks.{in_left, in_right}
use Rattle.runs.specs.Source.{Source}
use Rattle.runs.specs.Breaks.{FirstBreak}
use Rattle.runs.specs.Moments.{asks}
use Rattle.protocol.specs.State as model
use Rattle.protocol.specs.Calls.{show, shown, refused}
use Rattle.protocol.specs.Answers.{Answered}
use Rattle.protocol.proofs.Histories.{kept_at}
use Rattle.lines.specs.declared.line.Line.{Line}
use Rattle.lines.specs.View.{line_of, lines_of}
use Rattle.lines.proofs.Placing.{line_here}
use Rattle.case.specs.declared.stage.Sealed.{Sealed}
use Rattle.case.specs.View.{front, view_sealed}
use Rattle.case.specs.Verdict.{AllAsked, KeptTo, Lowest, Shown, ShowVerdict, shown_answer}
use Rattle.case.proofs.Growing.{leads}

-- a line of a front of the table
pub cut_clause : (m n : ℕ) (t : List Line) → 1 ≤ n → n ≤ m → model.clause_at (lines_of (take m t)) n ≡ model.clause_at (lines_of t) n
cut_clause m n t h k = ap (λ (l : model.Line). l.clause) (ap (λ (ls : List model.Line). get_or ls (n - 1) model.blank) (sym (take-map line_of m t)) ∙ get_or-take m (lines_of t) (n - 1) model.blank (omega arith))

pub clause_here : (t : List Line) (i : ℕ) (x : Line) → i < length t → x ≡ get_or t i x → x.clause ≡ model.clause_at (lines_of t) (i + 1)
clause_here t i x h e = ap (λ (l : model.Line). l.clause) (line_here t (i + 1) i x (omega arith) h e)

front_count : (m : ℕ) (t : List Line) → m ≤ length t → length (lines_of (take m t)) ≡ m
front_count m t h = length-map (take m t) line_of ∙ length-take-le m t h

pub none_asked : (asked : ℕ) → AllAsked [] asked
none_asked asked n low high k b = omega arith

-- what one line more asks for
pub asked_more : (ys : List Line) (asked r : ℕ) (x : Line) → AllAsked (lines_of ys) asked → (a : ℕ) → ((literal_of x.clause).letter < 64 → a ≡ asks x.clause) → r ≡ bit_or asked a → AllAsked (lines_of (ys ++ (x ∷ []))) r
asked_more ys asked r x q a w er n low high k b =
    let ea : a ≡ asks x.clause = w (let v = x.narrow.2 in omega arith) in
    let ls : lines_of (ys ++ (x ∷ [])) ≡ lines_of ys ++ (line_of x ∷ []) = map_push line_of ys x in
    let count = length-map ys line_of in
    let top : n ≤ length ys + 1 = omega (arith, length-map (ys ++ (x ∷ [])) line_of, length-append ys (x ∷ [])) in
    let bx = subst (λ (l : model.Line). In k (asks l.clause)) (ap (λ (zs : List model.Line). get_or zs (n - 1) model.blank) ls) b in
    subst (In k) (sym er) (⊎_elim
    (λ e. in_right asked a k (subst (In k) (sym ea) (subst (λ (l : model.Line). In k (asks l.clause)) (ap (λ m. get_or (lines_of ys ++ (line_of x ∷ [])) m model.blank) (let z : n - 1 ≡ length (lines_of ys) = omega (arith, count) in z) ∙ get_or-append_seam (lines_of ys) (line_of x) [] model.blank) bx)))
    (λ e. in_left asked a k (q n low (omega (arith, count)) k (subst (λ (l : model.Line). In k (asks l.clause)) (get_or_append_left (lines_of ys) (line_of x ∷ []) model.blank (n - 1) (omega (arith, count))) bx)))
    (cases_eq n (length ys + 1)))

pub letters_asked : (t : List Line) (i : ℕ) (x : Line) (asked : ℕ) → i < length t → x ≡ get_or t i x → AllAsked (lines_of t) asked → (k : ℕ) → In k (asks x.clause) → In k asked
letters_asked t i x asked h is q k b = q (i + 1) (omega arith) (omega (arith, length-map t line_of)) k (subst (λ (c : Clause). In k (asks c)) (clause_here t i x h is) b)

pub all_lines : (t : List Line) → length (lines_of t) ≡ length t
all_lines t = length-map t line_of

-- one line more
module _ (r : Run) (t : List Line) (i : ℕ) (x : Line) (h : i < length t) (is : x ≡ get_or t i x) (q : KeptTo r (lines_of t) i) where
  pub kept_more : FirstBreak r x.clause None → KeptTo r (lines_of t) (i + 1)
  kept_more k m a b = ⊎_elim
      (λ e. subst (Keeps r) (clause_here t i x h is ∙ ap (model.clause_at (lines_of t)) (sym e)) k)
      (λ e. q m a (omega arith))
      (cases_eq m (i + 1))

  pub lowest_here : (n j : ℕ) → n ≡ i + 1 → FirstBreak r x.clause (Some j) → Lowest r (lines_of t) (Some (n, j))
  lowest_here n j e k =
      let l = length-map t line_of in
      let c : x.clause ≡ model.clause_at (lines_of t) n = clause_here t i x h is ∙ ap (model.clause_at (lines_of t)) (sym e) in
      (omega arith, omega arith, subst (Broken r j) c k.0, (λ m b. subst (Unbroken r m) c (k.1 m b)), λ m a b. q m a (omega arith))

-- the given lines among all
module _ (s : Sealed) (t : List Line) (x : Source) (long : length t ≡ 1000) where
  same_clause : (m : ℕ) → 1 ≤ m → m ≤ s.body.given → model.clause_at (lines_of (take s.body.given t)) m ≡ model.clause_at (front s.body.last t) m
  same_clause m a b = cut_clause s.body.given m t a b ∙ sym (cut_clause s.body.last m t a (omega (arith, s.body.own)))

  given_count : length (lines_of (take s.body.given t)) ≡ s.body.given
  given_count = front_count s.body.given t (omega (arith, s.body.few))

  pub show_broken : (n i : ℕ) (f : Fault) → f ≡ fault_at RunBreaks n i → Lowest x.run (lines_of (take s.body.given t)) (Some (n, i)) → Answered (view_sealed s t) (show x) (refused f) (view_sealed s t)
  show_broken n i f e q =
      let top : n ≤ s.body.given = omega (arith, q.1, given_count) in
      let c = same_clause n q.0 top in
      (inl (n, i, (q.0, top, subst (Broken x.run i) c q.2, (λ j b. subst (Unbroken x.run j) c (q.3 j b)), λ m a b. subst (Keeps x.run) (same_clause m a (omega arith)) (q.4 m a b)), e), refl)

  pub show_kept : (a b : ℕ) → a ≡ x.lead → b ≡ x.loop_length → Lowest x.run (lines_of (take s.body.given t)) None → Answered (view_sealed s t) (show x) (shown a b) (view_sealed s t)
  show_kept a b ea eb q = (
    (λ g w. subst (Keeps x.run) (same_clause w.0 w.2.0 w.2.1) (q w.0 w.2.0 (omega (arith, given_count, w.2.1))) w.1 w.2.2, tt),
    ((λ i. shown (ea i) (eb i)), refl),
  )

  pub verdict_show : (r : Result (ℕ × ℕ) Fault) → Answered (view_sealed s t) (show x) (shown_answer r) (view_sealed s t) → ShowVerdict (view_sealed s t) x r
  verdict_show (Ok p) w =
      let z : shown p.0 p.1 ≡ shown x.lead x.loop_length = w.1.0 in
      let a : p.0 ≡ x.lead = cc in let b : p.1 ≡ x.loop_length = cc in
      ((λ i. (a i, b i)), (kept_at (view_sealed s t) x (shown p.0 p.1) _ w).0 z)
  verdict_show (Err f) w = λ k.
      let z : refused f ≡ shown x.lead x.loop_length = (kept_at (view_sealed s t) x (refused f) _ w).1 k in
      let o : ◌≡◌ {A = ℕ} 0 1 = cc in omega arith

  pub shown_call : (r : Result (ℕ × ℕ) Fault) → Answered (view_sealed s t) (show x) (shown_answer r) (view_sealed s t) → Shown x r s t
  shown_call r w = record {
    wrong = λ z. absurd (z long);
    right = λ _. w;
    onward = λ _. leads (show x) (shown_answer r) (view_sealed s t) t (view_sealed s t) t tt w (λ b. b);
    verdict = λ _. verdict_show r w;
  }
