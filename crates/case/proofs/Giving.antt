-- What the intake's calls are in the protocol.
use Rattle.std.proofs.Common.{◌≡◌, ℕ, zero, suc, ◌+◌, ◌-◌, ◌≤◌, List, [], ◌∷◌, ◌++◌, length, take, drop, replicate, Ok, Err, Result, sym, ap, ◌∙◌, subst, inl, inr, arith}
use Rattle.std.specs.List.{AllByRecursion}
use Rattle.std.proofs.lemmas.List.{length-take-le, length-set}
use Rattle.clause.specs.declared.refusal.Fault.{Fault}
use Rattle.clause.specs.declared.refusal.Refusal.TheVariants.{LetterRange, NoRoom}
use Rattle.clause.specs.Refusals.{plain}
use Rattle.clause.specs.declared.syntax.Clause.{Clause}
use Rattle.protocol.specs.State as model
use Rattle.protocol.specs.Calls.{give, seal, number, refused}
use Rattle.protocol.specs.Causes.{OverGiven}
use Rattle.protocol.specs.Answers.{Answered, derived}
use Rattle.protocol.proofs.Causing.{not_if}
use Rattle.lines.specs.declared.line.Line.{Line}
use Rattle.lines.specs.View.{line_of, Tidy, Written, Blanked, BlankFrom, IsBlank}
use Rattle.lines.proofs.Writing.{written_lines}
use Rattle.case.specs.declared.stage.Intake.{Intake}
use Rattle.case.specs.declared.stage.Sealed.{Sealed}
use Rattle.case.specs.View.{front, view_intake, view_sealed}
use Rattle.case.specs.Calling.{answer_of, Put, Called, SealedAs}
use Rattle.case.proofs.Growing.{front_length, new_lines, blank_after, set_written, leads, refused_call}

all_same : {X : Type 0} (P : X → Type 0) (n : ℕ) (x : X) (ys : List X) → P x → AllByRecursion P ys → AllByRecursion P (replicate n x ++ ys)
all_same P zero x ys p q = q
all_same P (suc n) x ys p q = (p, all_same P n x ys p q)

-- where the places from e on were blank, those from n on are now
pub blanked_from : (n e : ℕ) (t t' : List Line) → n ≤ length t → Blanked n e t t' → BlankFrom e t → BlankFrom n t'
blanked_from n e t t' h b z = subst (AllByRecursion IsBlank) (sym (new_lines n (take n t) (replicate (e - n) b.place ++ drop e t) t' (length-take-le n t h) b.table_is)) (all_same IsBlank (e - n) b.place (drop e t) b.is_blank z)

module _ (s : Intake) (t : List Line) (long : length t ≡ 1000) where
  given_is : model.last (view_intake s t) ≡ s.given
  given_is = front_length s.given t (omega (arith, s.few))

  -- a given clause refused for want of room
  pub full_intake : (k : Clause) (r : Result ℕ Fault) (f : Fault) (t' : List Line) → ¬ OverGiven k → (g : Fault) × (r ≡ Err g) × (g ≡ f) → 200 ≤ s.given → f ≡ plain NoRoom → t' ≡ t → Called view_intake (give k) (answer_of r) s t s t'
  full_intake k r f t' o p h e same =
      subst (λ (u : Result ℕ Fault). Called view_intake (give k) (answer_of u) s t s t') (sym p.1) (subst (λ (g : Fault). Called view_intake (give k) (refused g) s t s t') (sym p.2) (subst (Called view_intake (give k) (refused f) s t s) (sym same)
      (refused_call view_intake (give k) f s t long tt (inr (not_if _ LetterRange o, inl (h, e))))))

  pub given_call : (k : Clause) (x : Line) (n : ℕ) (s' : Intake) (t' : List Line) → ¬ OverGiven k → line_of x ≡ derived k [] → Tidy x → Put 200 s.given t x (Ok n) t' → s'.given ≡ n → Called view_intake (give k) (number n) s t s' t'
  given_call k x n s' t' o is ty p en =
      let h = p.0 in
      let same : length t' ≡ length t = ap length p.2 ∙ length-set t s.given x in
      let next : s'.given ≡ s.given + 1 = en ∙ p.1 in
      let w : Written s.given t (derived k [] ∷ []) t' = subst (λ (l : model.Line). Written s.given t (l ∷ []) t') is (subst (Written s.given t (line_of x ∷ [])) (sym p.2) (set_written s.given t x (omega arith) ty)) in
      let ls : front s'.given t' ≡ front s.given t ++ (derived k [] ∷ []) = ap (λ j. front j t') next ∙ written_lines s.given t (derived k [] ∷ []) t' (omega arith) w in
      let vw : view_intake s' t' ≡ record { stage = model.intake; given = s.given + 1; lines = front s.given t ++ (derived k [] ∷ []) } = λ i. record { stage = model.intake; given = next i; lines = ls i } in
      let a : Answered (view_intake s t) (give k) (number n) (view_intake s' t') = ((not_if _ LetterRange o, (not_if _ NoRoom (λ q. omega arith), tt)), (ap number (p.1 ∙ ap (λ j. j + 1) (sym given_is)), vw)) in
      record {
        exact = record { wrong = λ z. absurd (z long); right = λ _. a };
        place = subst (λ j. Written j t (drop j (front s'.given t')) t') (sym given_is)
            (subst (λ (ms : List model.Line). Written s.given t ms t') (sym (new_lines s.given (front s.given t) (derived k [] ∷ []) _ given_is ls)) w);
        onward = λ _. leads (give k) (number n) (view_intake s t) t (view_intake s' t') t' tt a
            (λ b. subst (λ j. BlankFrom j t') (sym (front_length s'.given t' (omega (arith, s'.few)) ∙ next)) (blank_after s.given t (derived k [] ∷ []) t' (omega arith) w (subst (λ j. BlankFrom j t) given_is b)));
      }

pub sealed_as : (s : Intake) (t : List Line) (s' : Sealed) → s'.body.last ≡ s.given → s'.body.given ≡ s.given → SealedAs s t s' s.given
sealed_as s t s' e g = record {
  exact = answered;
  onward = λ long. leads seal (number s.given) (view_intake s t) t (view_sealed s' t) t tt (answered long) (λ b. subst (λ n. BlankFrom n t) (sym (ap (λ j. length (front j t)) e)) b);
}
  where
    answered : length t ≡ 1000 → Answered (view_intake s t) seal (number s.given) (view_sealed s' t)
    answered long = (tt, (ap number (sym (given_is s t long)), λ i. record { stage = model.sealed; given = g i; lines = front (e i) t }))
