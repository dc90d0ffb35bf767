-- A trial accepts just what follows, and refuses as refuted just what has a counterexample.
use Rattle.std.proofs.Common.{◌≡◌, ℕ, zero, suc, ◌<◌, ◌≤◌, Bool, true, false, cond, not, ◌&&◌, ltb, leb, List, [], ◌∷◌, length, replicate, sym, refl, ap, ◌∙◌, subst, ⊎_elim}
use Rattle.std.specs.List.{AllByRecursion}
use Rattle.std.proofs.lemmas.Bool.{cond_both, cond-true, cond-false, and_parts, and_from, or_parts, or_from, not-true, not_from_false, ltb-false, le-ltb, lt-ltb, leb-true, le-leb, cases_Bool}
use Rattle.clause.specs.declared.syntax.LitSet.{LitSet}
use Rattle.clause.specs.declared.syntax.Clause.{Clause}
use Rattle.clause.specs.declared.syntax.Clause.TheVariants.{Initial, Global, Eventuality, Assumption, Never}
use Rattle.clause.specs.declared.refusal.Refusal.TheVariants.{TooManyAtoms, Counterexample}
use Rattle.clause.specs.Sets.{Over, reaches}
use Rattle.rules.specs.declared.trial.Claim.{Claim}
use Rattle.rules.specs.Kinds.{Ever}
use Rattle.rules.specs.Books.{here, globally, Outcome, refuses, gives, marks_of}
use Rattle.rules.specs.Trying.{claimed, Follows, Refuted, atoms, Ready, Judged}
use Rattle.rules.specs.Deciding.{now_atoms, next_atoms, countered, is_ever, all_ever, wide_claim, suited, late_trial, Sub, counter_at}
use Rattle.rules.specs.TryingSound.{masks_from, countered_for, wide_over, wide_not, all_from, follows_from, countered_from}

slim_to : (s : LitSet) → (¬ Over 59 s) → reaches 60 s ≡ false
slim_to s n = ⊎_elim (λ t. absurd (n (wide_over s t))) (λ t. t) (cases_Bool (reaches 60 s))

ever_to : (c : Clause) → Ever c → is_ever c ≡ true
ever_to (Initial _) p = absurd p
ever_to (Global _ _) p = refl
ever_to (Eventuality _ _) p = absurd p
ever_to (Assumption _) p = refl
ever_to (Never _ _) p = absurd p

all_to : (cs : List Clause) → AllByRecursion Ever cs → all_ever cs ≡ true
all_to [] p = refl
all_to (c ∷ cs) p = and_from (is_ever c) (all_ever cs) (ever_to c p.0) (all_to cs p.1)

suited_to : (e : Claim) (cs : List Clause) → Ready e cs → suited e cs ≡ true
suited_to e cs r = and_from (not (wide_claim e)) (leb (length cs) 4 && all_ever cs)
    (not_from_false _ (or_from (reaches 60 e.now) (reaches 60 e.next) (slim_to e.now r.slim_now) (slim_to e.next r.slim_next)))
    (and_from _ _ (le-leb (length cs) 4 r.few_lines) (all_to cs r.kinds))

ready_from : (e : Claim) (cs : List Clause) → suited e cs ≡ true → ltb 10 (atoms e cs) ≡ false → Ready e cs
ready_from e cs s t =
    let q = and_parts (not (wide_claim e)) (leb (length cs) 4 && all_ever cs) s in
    let k = and_parts (leb (length cs) 4) (all_ever cs) q.1 in
    let w = or_parts (reaches 60 e.now) (reaches 60 e.next) (not-true _ q.0) in
    record {
      slim_now = wide_not e.now w.0;
      slim_next = wide_not e.next w.1;
      few_lines = leb-true (length cs) 4 k.0;
      kinds = all_from cs k.1;
      few_atoms = ltb-false 10 (atoms e cs) t;
    }

-- what an outcome says
abbrev Means : Claim → List Clause → Outcome → Type 0
Means e cs (refuses f) = f ≡ Counterexample → Ready e cs × Refuted cs (claimed e)
Means e cs (gives c ms) = Ready e cs × Follows cs (claimed e)

means : (e : Claim) (cs : List Clause) → Means e cs (late_trial e cs)
means e cs = cond_both (suited e cs) _ _ (Means e cs)
    (λ s. cond_both (ltb 10 (atoms e cs)) _ _ (Means e cs) (λ _ q. cc)
    (λ t. cond_both (countered (now_atoms e cs) (next_atoms e cs) (claimed e) cs) _ _ (Means e cs)
    (λ f _. (ready_from e cs s t, countered_from (now_atoms e cs) (next_atoms e cs) (claimed e) cs f))
    (λ f. (ready_from e cs s t, follows_from e cs f))))
    (λ _ q. cc)

tried : (e : Claim) (cs : List Clause) → Ready e cs → (b : Bool) → countered (now_atoms e cs) (next_atoms e cs) (claimed e) cs ≡ b
    → late_trial e cs ≡ cond b (refuses Counterexample) (gives (globally e.now e.next) (replicate (length cs) here))
tried e cs r b t = cond-true (suited e cs) _ _ (suited_to e cs r) ∙ cond-false (ltb 10 (atoms e cs)) _ _ (le-ltb 10 (atoms e cs) r.few_atoms)
    ∙ ap (λ b. cond b (refuses Counterexample) (gives (globally e.now e.next) (replicate (length cs) here))) t

pub judged : (e : Claim) (cs : List Clause) → Judged e cs (late_trial e cs)
judged e cs = record {
  accepts = λ r f. ⊎_elim
      (λ t. let w = countered_from (now_atoms e cs) (next_atoms e cs) (claimed e) cs t in absurd (w.3 (f w.0 w.1 w.2)))
      (λ t. tried e cs r false t) (cases_Bool (countered (now_atoms e cs) (next_atoms e cs) (claimed e) cs));
  accepted = λ c ms q. subst (Means e cs) q (means e cs);
  refutes = λ r w. ⊎_elim (λ t. tried e cs r true t)
      (λ t. absurd (w.3 (follows_from e cs t w.0 w.1 w.2))) (cases_Bool (countered (now_atoms e cs) (next_atoms e cs) (claimed e) cs));
  refuted = λ q. subst (Means e cs) q (means e cs) refl;
}

pub judged_as : (e : Claim) (cs : List Clause) (o : Outcome) → late_trial e cs ≡ o → Judged e cs o
judged_as e cs o q = subst (Judged e cs) q (judged e cs)

-- the search among masks of the atoms
abbrev Found : Claim → List Clause → ℕ → ℕ → Type 0
Found e cs a b = (y : ℕ) × Sub y b × (x : ℕ) × Sub x a × (counter_at x y (claimed e) cs ≡ true)

pub found : (e : Claim) (cs : List Clause) (a b : ℕ) → a ≡ now_atoms e cs → b ≡ next_atoms e cs → Found e cs a b → countered (now_atoms e cs) (next_atoms e cs) (claimed e) cs ≡ true
found e cs a b p q w = countered_for e cs w.2 w.0 (subst (Sub w.2) p w.3) (subst (Sub w.0) q w.1) w.4

pub not_found : (e : Claim) (cs : List Clause) (a b : ℕ) → a ≡ now_atoms e cs → b ≡ next_atoms e cs → (Found e cs a b → ⊥) → countered (now_atoms e cs) (next_atoms e cs) (claimed e) cs ≡ false
not_found e cs a b p q n = ⊎_elim
    (λ t. let w = masks_from e cs (countered_from (now_atoms e cs) (next_atoms e cs) (claimed e) cs t) in
    absurd (n (w.0, subst (Sub w.0) (sym q) w.1, w.2, subst (Sub w.2) (sym p) w.3, w.4)))
    (λ t. t) (cases_Bool (countered (now_atoms e cs) (next_atoms e cs) (claimed e) cs))

pub late_tried : (e : Claim) (cs : List Clause) (b : Bool) → suited e cs ≡ true → atoms e cs ≤ 10 → countered (now_atoms e cs) (next_atoms e cs) (claimed e) cs ≡ b
    → late_trial e cs ≡ cond b (refuses Counterexample) (gives (globally e.now e.next) (replicate (length cs) here))
late_tried e cs b s h t = tried e cs (ready_from e cs s (le-ltb 10 (atoms e cs) h)) b t

pub late_many : (e : Claim) (cs : List Clause) → suited e cs ≡ true → 10 < atoms e cs → late_trial e cs ≡ refuses TooManyAtoms
late_many e cs s h = cond-true (suited e cs) _ _ s ∙ cond-true (ltb 10 (atoms e cs)) _ _ (lt-ltb 10 (atoms e cs) h)

pub all_here : (n : ℕ) → replicate n here ≡ marks_of n 0
all_here zero = refl
all_here (suc n) = ap (λ ms. here ∷ ms) (all_here n)
