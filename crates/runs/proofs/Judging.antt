-- From what the worlds tell of a clause to where the run first breaks it.
use Rattle.std.proofs.Common.{◌≡◌, ℕ, ◌+◌, ◌-◌, ◌<◌, ◌≤◌, true, false, ltb, MatchOption, ◌↔◌, List, length, get_or, Some, None, Option, sym, refl, ◌∙◌, subst, inl, inr, ⊎_elim, arith}
use Rattle.std.specs.Bool.{then_some}
use Rattle.std.proofs.lemmas.Bool.{cases_eq, cases_lt, eq-eqb, ne_eqb, le-ltb, lt-ltb, both_ways}
use Rattle.clause.specs.declared.syntax.Literal.{Literal}
use Rattle.clause.specs.declared.syntax.LitSet.{LitSet}
use Rattle.clause.specs.declared.syntax.Clause.{Clause}
use Rattle.clause.specs.declared.syntax.Clause.TheVariants.{Initial, Global, Eventuality, Assumption, Never}
use Rattle.clause.specs.Bit.{bit, In}
use Rattle.clause.specs.Meaning.{Run, PlainTrue, Untrue, Broken}
use Rattle.clause.specs.Sets.{Over, Narrow, UntrueIn, letters_of}
use Rattle.clause.proofs.Masks.{in_left, in_right, in_pow, not_in_zero}
use Rattle.clause.proofs.Truths.{plain_letter}
use Rattle.runs.specs.Source.{Source, end_of}
use Rattle.runs.specs.Breaks.{FirstBreak, FirstIn, successor}
use Rattle.runs.specs.Moments.{World, asks, true_in, LastTrue, BreaksAt, Comes, Gone, Judged}
use Rattle.runs.proofs.Seeing.{true_from, true_to, untrue_to}
use Rattle.runs.proofs.Turns.{like, again, turned, Follows, true_moves, untrue_moves, broken_moves, Late}

-- what a search over the moments finds
pub first_found : (P : ℕ → Type 0) (a e : ℕ) (o : Option ℕ)
    → MatchOption o ((i : ℕ) → a ≤ i → i < e → ¬ P i) (λ i. (a ≤ i) × (i < e) × P i × ((j : ℕ) → a ≤ j → j < i → ¬ P j)) → FirstIn P a e o
first_found P a e None f = f
first_found P a e (Some i) f = f

-- the last place where the literal is true
pub last_true : (ws : List ℕ) (lead : ℕ) (l : Literal) (i : ℕ) → i < length ws → true_in (get_or ws i 0) l ≡ true
    → ((j : ℕ) → i < j → j < length ws → true_in (get_or ws j 0) l ≡ false) → LastTrue ws lead l (then_some (ltb i lead) (i + 1))
last_true ws lead l i h t f = ⊎_elim
    (λ b. rw (lt-ltb i lead b) (inr (omega arith, omega arith, omega arith, let e : i ≡ i + 1 - 1 = omega arith in subst (λ n. true_in (get_or ws n 0) l ≡ true) e t), λ j a q. f j (omega arith) q))
    (λ b. rw (le-ltb i lead b) (i, b, h, t))
    (cases_lt i lead)

-- the same moments by another word for what is sought
pub first_map : (P Q : ℕ → Type 0) (e : ℕ) (o : Option ℕ) → ((i : ℕ) → i < e → P i ↔ Q i) → FirstIn P 0 e o → FirstIn Q 0 e o
first_map P Q e None f p = λ i a b q. p i a b ((f i b).1 q)
first_map P Q e (Some i) f p = (p.0, p.1, (f i p.1).0 p.2, λ j a b q. p.3 j a b ((f j (omega (arith, p.1))).1 q))

-- the first among the moments of lead-in and loop is the first of all
pub first_of : (x : Source) (c : Clause) (o : Option ℕ) → Late x.run c → FirstIn (λ i. Broken x.run i c) 0 (end_of x) o → FirstBreak x.run c o
first_of x c None late f = λ i b. let w = like x i in f w.0 (omega arith) w.1.below (broken_moves x.run i w.0 w.1.same c late b)
first_of x c (Some i) late f = (f.2, λ j b. f.3 j (omega arith) b)

-- sets whose letters are asked for
abbrev pub Asked : ℕ → LitSet → Type 0
Asked asked s = (k : ℕ) → (In k s.plus → In k asked × (k < 60)) × (In k s.minus → In k asked × (k < 60))

pub asked_from : (asked : ℕ) (s : LitSet) → ¬ Over 59 s → ((k : ℕ) → In k (letters_of s) → In k asked) → Asked asked s
asked_from asked s o p k = (
  (λ h. (p k (in_left s.plus s.minus k h), ⊎_elim (λ z. z) (λ z. absurd (o (k, omega arith, inl h))) (cases_lt k 60))),
  λ h. (p k (in_right s.plus s.minus k h), ⊎_elim (λ z. z) (λ z. absurd (o (k, omega arith, inr h))) (cases_lt k 60)),
)

untrue_is : (r : Run) (asked i w : ℕ) (s : LitSet) → World r asked i w → Asked asked s → UntrueIn w s ↔ Untrue r i s
untrue_is r asked i w s q a = (
  (λ u k. (
    (λ h t. let b = (a k).0 h in (u k).0 h ((q k b.1 b.0).1 t)),
    λ h n. let b = (a k).1 h in n ((q k b.1 b.0).0 ((u k).1 h)),
  )),
  λ u k. (
    (λ h m. let b = (a k).0 h in (u k).0 h ((q k b.1 b.0).0 m)),
    λ h. let b = (a k).1 h in ⊎_elim (λ e. e) (λ n. absurd ((u k).1 h (λ t. n ((q k b.1 b.0).1 t)))) (cases_eq (bit w k) 1),
  ),
)

module _ (x : Source) (asked : ℕ) (ws : List ℕ) (n : length ws ≡ end_of x) (q : (i : ℕ) → i < end_of x → World x.run asked i (get_or ws i 0)) where
  next_world : (i : ℕ) → i < end_of x → (j : ℕ) × (j < end_of x) × (successor x.lead (length ws) i ≡ j) × Follows x.run (i + 1) j
  next_world i b = ⊎_elim
      (λ e. let t = x.turns in (
        x.lead,
        omega arith,
        rw (eq-eqb (i + 1) (length ws) (e ∙ sym n)) refl,
        subst (λ m. Follows x.run m x.lead) (sym e) (turned x x.lead (omega arith)),
      ))
      (λ z. (
        i + 1,
        omega arith,
        rw (ne_eqb (i + 1) (length ws) (λ e. z (e ∙ n))) refl,
        λ d k. refl,
      ))
      (cases_eq (i + 1) (end_of x))

  next_is : (i : ℕ) → i < end_of x → (s : LitSet) → Asked asked s → UntrueIn (get_or ws (successor x.lead (length ws) i) 0) s ↔ Untrue x.run (i + 1) s
  next_is i b s a =
      let w = next_world i b in
      let f = untrue_is x.run asked w.0 (get_or ws w.0 0) s (q w.0 w.1) a in
      subst (λ j. UntrueIn (get_or ws j 0) s ↔ Untrue x.run (i + 1) s) (sym w.2) (
        (λ u. untrue_moves x.run w.0 (i + 1) (λ d k. sym (w.3 d k)) s (f.0 u)),
        λ u. f.1 (untrue_moves x.run (i + 1) w.0 w.3 s u),
      )

  breaks_is : (m s : LitSet) → Asked asked m → Asked asked s → (i : ℕ) → i < end_of x → BreaksAt ws x.lead m s i ↔ Broken x.run i (Global m s)
  breaks_is m s a a' i b =
      let f = untrue_is x.run asked i (get_or ws i 0) m (q i b) a in
      let g = next_is i b s a' in
      ((λ u. (f.0 u.0, g.0 u.1)), λ u. (f.1 u.0, g.1 u.1))

  module _ (l : Literal) (low : l.letter ≤ 19) (al : In l.letter asked) where
    letter_is : (i : ℕ) → i < end_of x → In l.letter (get_or ws i 0) ↔ (x.run i l.letter ≡ true)
    letter_is i b = subst (λ (P : Type 0). In l.letter (get_or ws i 0) ↔ P) (plain_letter x.run i l.letter low) (q i b l.letter (omega arith) al)

    gone_is : (i : ℕ) → i < end_of x → Gone ws x.lead l i ↔ ((j : ℕ) → i ≤ j → ¬ PlainTrue x.run j l)
    gone_is i b = (
      (λ g j h t. let w = like x j in let j' = w.0 in let lt = w.1.below in
          both_ways (true_in (get_or ws j' 0) l)
          (g j' (omega arith) (⊎_elim (λ z. inl (w.1.above i (omega arith) h)) (λ z. inr (w.1.above x.lead (omega arith) (omega arith))) (cases_lt i (x.lead + 1))))
          (true_to x.run j' (get_or ws j' 0) l (letter_is j' lt) (true_moves x.run j j' w.1.same l t))),
      λ f j h c. let lt : j < end_of x = omega arith in untrue_to x.run j (get_or ws j 0) l (letter_is j lt)
          (λ t. ⊎_elim (λ z. f j z t) (λ z. let w = again x j i z in f w.0 w.1 (w.3 l.letter ∙ t)) c),
    )

    comes_is : (i : ℕ) → i < end_of x → Comes ws x.lead l i ↔ ((j : ℕ) × (i < j) × PlainTrue x.run j l)
    comes_is i b = (
      (λ (j, h, c, t). let lt : j < end_of x = omega arith in let p = true_from x.run j (get_or ws j 0) l (letter_is j lt) t in
          ⊎_elim (λ z. (j, z, p)) (λ z. let w = again x j (i + 1) z in (w.0, omega (arith, w.1), w.3 l.letter ∙ p)) c),
      λ (j, h, t). let w = like x j in let j' = w.0 in let lt = w.1.below in (
        j',
        omega arith,
        ⊎_elim (λ z. inl (omega (arith, w.1.above (i + 1) (omega arith) (omega arith)))) (λ z. inr (w.1.above x.lead (omega arith) (omega arith))) (cases_lt i x.lead),
        true_to x.run j' (get_or ws j' 0) l (letter_is j' lt) (true_moves x.run j j' w.1.same l t),
      ),
    )

  both_are : {P P' Q Q' : Type 0} → P ↔ P' → Q ↔ Q' → (P × Q) ↔ (P' × Q')
  both_are f g = ((λ p. (f.0 p.0, g.0 p.1)), λ p. (f.1 p.0, g.1 p.1))

  set_is : (m : LitSet) → Asked asked m → (i : ℕ) → i < end_of x → UntrueIn (get_or ws i 0) m ↔ Untrue x.run i m
  set_is m a i b = untrue_is x.run asked i (get_or ws i 0) m (q i b) a

  -- the first break by the worlds, where the clause has a moment after the first
  late_first : (c : Clause) (P : ℕ → Type 0) (o : Option ℕ) → Late x.run c → ((i : ℕ) → i < end_of x → P i ↔ Broken x.run i c) → FirstIn P 0 (length ws) o → FirstBreak x.run c o
  late_first c P o late f p = first_of x c o late (first_map P (λ i. Broken x.run i c) (end_of x) o f (subst (λ e. FirstIn P 0 e o) n p))

  initial_first : (m : LitSet) (o : Option ℕ) → Asked asked m → FirstIn (λ i. UntrueIn (get_or ws i 0) m) 0 1 o → FirstBreak x.run (Initial m) o
  initial_first m None a f = λ i b. f 0 (omega arith) (omega arith) ((set_is m a 0 (omega (arith, x.turns))).1 (subst (λ j. Untrue x.run j m) b.0 b.1))
  initial_first m (Some i) a f = let z : i ≡ 0 = omega (arith, f.1) in ((z, (set_is m a i (omega (arith, x.turns))).0 f.2), λ j b. absurd (omega arith))

  pub judged_first : (c : Clause) (o : Option ℕ) → Narrow c → ((k : ℕ) → In k (asks c) → In k asked) → Judged ws x.lead c o → FirstBreak x.run c o
  judged_first (Initial m) o w p j = initial_first m o (asked_from asked m w.0 p) j
  judged_first (Global m s) o w p j = late_first (Global m s) _ o tt (breaks_is m s (asked_from asked m w.0 (λ k h. p k (in_left _ _ k h))) (asked_from asked s w.1 (λ k h. p k (in_right _ _ k h)))) j
  judged_first (Eventuality m l) o w p j =
      let low : l.letter ≤ 19 = plain l w.2 in
      late_first (Eventuality m l) _ o tt
      (λ i b. both_are (set_is m (asked_from asked m w.0 (λ k h. p k (in_left _ _ k h))) i b) (gone_is l low (p l.letter (in_right _ _ l.letter (in_pow l.letter))) i b)) j
    where
      plain : (l : Literal) → ¬ (19 < l.letter) → l.letter ≤ 19
      plain l h = omega arith
  judged_first (Assumption s) o w p j = late_first (Assumption s) _ o tt
      (λ i b. let f = next_is i b s (asked_from asked s w.1 p) in ((λ u. f.0 u.1), λ u. ((λ k. ((λ h _. not_in_zero k h), λ h. absurd (not_in_zero k h))), f.1 u))) j
  judged_first (Never m l) o w p j =
      let low : l.letter ≤ 19 = plain l w.2 in
      late_first (Never m l) _ o tt
      (λ i b. both_are (set_is m (asked_from asked m w.0 (λ k h. p k (in_left _ _ k h))) i b) (comes_is l low (p l.letter (in_right _ _ l.letter (in_pow l.letter))) i b)) j
    where
      plain : (l : Literal) → ¬ (19 < l.letter) → l.letter ≤ 19
      plain l h = omega arith
