-- A history with a loop that ends in an accepted refute.
use Rattle.std.proofs.Common.{◌≡◌, ℕ, ◌≤◌, true, false, List, [], ◌∷◌, sym, refl, subst, inl, inr, ⊎_elim, arith}
use Rattle.std.proofs.lemmas.Bool.{false≢true, true≢false, cases_eq}
use Rattle.clause.proofs.Masks.{not_in_zero, in_below}
use Rattle.clause.specs.Bit.{bit}
use Rattle.clause.specs.Meaning.{none}
use Rattle.clause.specs.Sets.{Over}
use Rattle.clause.specs.declared.syntax.Clause.TheVariants.{Global, Eventuality, Assumption, Never}
use Rattle.rules.specs.Books.{globally, here, everywhere}
use Rattle.rules.specs.ResolvingSound.{resolving, low_none}
use Rattle.protocol.specs.Answers.{derived, Answered}
use Rattle.protocol.specs.Calls.{give, seal, infer, open_loop, close, draw, refute, number, core}
use Rattle.protocol.specs.Causes.{RestEverywhere}
use Rattle.protocol.specs.Cores.{Reaches, itself, through, IsCore}
use Rattle.protocol.specs.History.{History, begun, then}
use Rattle.protocol.specs.State.{Line, Stage, intake, sealed, loop, State, fresh}
use Rattle.examples.specs.Books.{set}
use Rattle.examples.specs.Refuting.{plus_0, zeros, one_two, refutation, ReachesContradiction}

abbrev l1 : Line
l1 = derived (Eventuality none plus_0) []

abbrev l2 : Line
l2 = derived (Global none (set 0 1)) []

abbrev l3 : Line
l3 = record { clause = Assumption (set 1 0); cites = []; resting = true }

abbrev l4 : Line
l4 = record { clause = Global none none; cites = 3 ∷ 2 ∷ []; resting = true }

abbrev l5 : Line
l5 = record { clause = Never none plus_0; cites = 4 ∷ []; resting = false }

abbrev l6 : Line
l6 = derived (Global (set 1 0) none) (5 ∷ 1 ∷ [])

abbrev l7 : Line
l7 = derived (Global none none) (6 ∷ 2 ∷ [])

abbrev at : Stage → ℕ → List Line → State
at st g ls = record { stage = st; given = g; lines = ls }

abbrev s1 : State
s1 = at intake 1 (l1 ∷ [])

abbrev s2 : State
s2 = at intake 2 (l1 ∷ l2 ∷ [])

abbrev s3 : State
s3 = at sealed 2 (l1 ∷ l2 ∷ [])

abbrev s4 : State
s4 = at (loop 3 plus_0 (none ∷ [])) 2 (l1 ∷ l2 ∷ l3 ∷ [])

abbrev s5 : State
s5 = at (loop 3 plus_0 (none ∷ [])) 2 (l1 ∷ l2 ∷ l3 ∷ l4 ∷ [])

abbrev s6 : State
s6 = at sealed 2 (l1 ∷ l2 ∷ l3 ∷ l4 ∷ l5 ∷ [])

abbrev s7 : State
s7 = at sealed 2 (l1 ∷ l2 ∷ l3 ∷ l4 ∷ l5 ∷ l6 ∷ [])

abbrev s8 : State
s8 = at sealed 2 (l1 ∷ l2 ∷ l3 ∷ l4 ∷ l5 ∷ l6 ∷ l7 ∷ [])

low_minus : ¬ Over 19 (set 0 1)
low_minus w = ⊎_elim (not_in_zero w.0) (λ h. let b = in_below 1 1 w.0 (omega arith) h in omega (arith, w.1)) w.2

a1 : Answered fresh (give (Eventuality none plus_0)) (number 1) s1
a1 = (((λ _ q. ⊎_elim (low_none 19) (λ h. omega arith) q.0), ((λ _ q. omega (arith, q.0)), tt)), (refl, refl))

a2 : Answered s1 (give (Global none (set 0 1))) (number 2) s2
a2 = (((λ _ q. ⊎_elim (low_none 19) low_minus q.0), ((λ _ q. omega (arith, q.0)), tt)), (refl, refl))

a3 : Answered s2 seal (number 2) s3
a3 = (tt, (refl, refl))

a4 : Answered s3 (open_loop plus_0 (none ∷ [])) (number 3) s4
a4 = (
  (
    (λ _ q. ⊎_elim (λ h. omega arith) (⊎_elim (low_none 59) (λ y. y)) q.0),
    (
      (λ _ q. ⊎_elim (λ h. omega arith) (λ h. omega arith) q.0),
      ((λ _ q. omega (arith, q.0)), tt),
    ),
  ),
  (refl, refl),
)

a5 : Answered s4 (infer (resolving 0) (3 ∷ 2 ∷ [])) (number 4) s5
unfolding bit
a5 = (
  (
    (λ _ q. let e = q.1 in let z : ◌≡◌ {A = ℕ} 0 1 = cc in omega arith),
    (
      (λ _ q. ⊎_elim (⊎_elim (λ o. omega arith) (λ o. omega arith)) (⊎_elim (⊎_elim (λ o. omega arith) (λ o. omega arith)) (λ y. y)) q.0),
      (
        (λ _ q. ⊎_elim (λ d. true≢false d.1) (⊎_elim (λ d. false≢true d.0) (λ y. y)) q.0),
        (
          (λ _ q. let e = q.1 in let z : ◌≡◌ {A = ℕ} 0 1 = cc in omega arith),
          (
            (λ _ q. let e = q.0.2 in let f : here ∷ here ∷ [] ≡ q.0.1 = cc in subst (RestEverywhere s4.lines (3 ∷ 2 ∷ [])) (sym f) q.0.3),
            ((λ _ q. omega (arith, q.0)), tt),
          ),
        ),
      ),
    ),
  ),
  (l4, (globally none none, here ∷ here ∷ [], refl, refl), refl, refl),
)

a6 : Answered s5 (close (4 ∷ [])) (number 5) s6
a6 = (
  (
    (λ _ q. q.0 refl),
    (
      (λ _ q. ⊎_elim (⊎_elim (λ o. omega arith) (λ o. omega arith)) (λ y. y) q.0),
      (
        (λ _ q. ⊎_elim (λ d. true≢false d.1) (λ y. y) q.0),
        (
          (λ _ q. ⊎_elim (λ y. y) (λ y. y) q.0),
          (
            (λ _ q. ⊎_elim (λ u. u.0 (refl, λ k. ((λ h. h), (λ h. h)))) (λ u. u.1) q.1),
            ((λ _ q. omega (arith, q.0)), tt),
          ),
        ),
      ),
    ),
  ),
  (refl, refl),
)

a7 : Answered s6 (draw 5 1) (number 6) s7
a7 = (
  (
    (λ _ q. ⊎_elim (⊎_elim (λ o. omega arith) (λ o. omega arith)) (⊎_elim (⊎_elim (λ o. omega arith) (λ o. omega arith)) (λ y. y)) q.0),
    (
      (λ _ q. ⊎_elim (λ d. false≢true d.0) (⊎_elim (λ d. false≢true d.0) (λ y. y)) q.0),
      (
        (λ _ q. ⊎_elim (λ y. y) (λ y. y) q.0),
        (
          (λ _ q. q.0 refl),
          ((λ _ q. omega (arith, q.0)), tt),
        ),
      ),
    ),
  ),
  (l6, refl, refl, refl),
)

a8 : Answered s7 (infer (resolving 0) (6 ∷ 2 ∷ [])) (number 7) s8
unfolding bit
a8 = (
  (
    (λ _ q. let e = q.1 in let z : ◌≡◌ {A = ℕ} 0 1 = cc in omega arith),
    (
      (λ _ q. ⊎_elim (⊎_elim (λ o. omega arith) (λ o. omega arith)) (⊎_elim (⊎_elim (λ o. omega arith) (λ o. omega arith)) (λ y. y)) q.0),
      (
        (λ _ q. ⊎_elim (λ d. false≢true d.0) (⊎_elim (λ d. false≢true d.0) (λ y. y)) q.0),
        (
          (λ _ q. let e = q.1 in let z : ◌≡◌ {A = ℕ} 0 1 = cc in omega arith),
          (
            (λ _ q. let e = q.0.2 in let f : everywhere ∷ here ∷ [] ≡ q.0.1 = cc in
                ⊎_elim false≢true (λ y. y) (subst (RestEverywhere s7.lines (6 ∷ 2 ∷ [])) (sym f) q.0.3)),
            ((λ _ q. omega (arith, q.0)), tt),
          ),
        ),
      ),
    ),
  ),
  (l7, (globally none none, everywhere ∷ here ∷ [], refl, refl), refl, refl),
)

the_core : IsCore s8 7 (1 ∷ 2 ∷ [])
the_core = record {
  rising = (omega arith, tt);
  within = λ m. elim [
    | inl e ↦ subst (λ k. (1 ≤ k) × (k ≤ 2) × Reaches s8.lines 7 k) e (omega arith, omega arith, through {n = 7} {m = 6} (inl refl, omega arith) (through {n = 6} {m = 1} (inr (inl refl), omega arith) itself))
    | inr (inl e) ↦ subst (λ k. (1 ≤ k) × (k ≤ 2) × Reaches s8.lines 7 k) e (omega arith, omega arith, through {n = 7} {m = 2} (inr (inl refl), omega arith) itself)
    | inr (inr y) ↦ absurd y
  ];
  whole = λ m h k _. ⊎_elim (λ e. inl (sym e)) (λ e. let f : 2 ≡ m = omega arith in inr (inl f)) (cases_eq m 1);
}

a9 : Answered s8 (refute 7 zeros) (core one_two 2) s8
a9 = (
  (
    (λ _ q. q.0 refl),
    (
      (λ _ q. ⊎_elim (⊎_elim (λ o. omega arith) (λ o. omega arith)) (λ y. y) q.0),
      (
        (λ _ q. ⊎_elim (λ d. false≢true d.0) (λ y. y) q.0),
        (
          (λ _ q. q.0),
          ((λ _ q. q.0 (refl, refl)), tt),
        ),
      ),
    ),
  ),
  (1 ∷ 2 ∷ [], the_core, refl, refl),
)

led : History refutation s8
led =
    let t3 = then seal (number 2) s3 (then (give (Global none (set 0 1))) (number 2) s2 (then (give (Eventuality none plus_0)) (number 1) s1 begun tt a1) tt a2) tt a3 in
    let t6 = then (close (4 ∷ [])) (number 5) s6 (then (infer (resolving 0) (3 ∷ 2 ∷ [])) (number 4) s5 (then (open_loop plus_0 (none ∷ [])) (number 3) s4 t3 tt a4) tt a5) tt a6 in
    then (refute 7 zeros) (core one_two 2) s8 (then (infer (resolving 0) (6 ∷ 2 ∷ [])) (number 7) s8 (then (draw 5 1) (number 6) s7 t6 tt a7) tt a8) tt a9

pub reaches_contradiction : ReachesContradiction
reaches_contradiction = (s8, led, inl refl)
