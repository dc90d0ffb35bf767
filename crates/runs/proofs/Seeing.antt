-- The plain letters of a world, and then its waiting letters.
use Rattle.std.proofs.Common.{◌≡◌, ℕ, zero, suc, ◌+◌, ◌-◌, ◌/◌, ◌^◌, ◌<◌, ◌≤◌, Bool, true, false, not, ◌&&◌, eqb, ◌↔◌, get_or, Some, None, Option, sym, refl, ap, ◌∙◌, subst, ⊎_elim, add-one, arith}
use Rattle.std.proofs.lemmas.Bool.{cases_eq, cases_lt, cases_Bool, eq-eqb, ne_eqb, eqb-true, false≢true, lt-ltb, ltb-true, and_parts, and_from, not-true, not_from_false, le-ltb, both_ways}
use Rattle.clause.specs.declared.syntax.Literal.{Literal}
use Rattle.clause.specs.Bit.{bit, In}
use Rattle.clause.specs.Meaning.{Run, PlainTrue, Waits, waited}
use Rattle.clause.proofs.Masks.{in_pow, in_left, in_right, in_noted, bit_shift, not_in_zero}
use Rattle.clause.proofs.Telling.{beq_true, beq_same, same_tests}
use Rattle.clause.proofs.Truths.{plain_letter, high_letter}
use Rattle.runs.specs.Source.{Source, end_of}
use Rattle.runs.specs.Breaks.{Horizon}
use Rattle.runs.specs.Moments.{World, noted, seen, wanted, waits_in, comes_after, true_in, Spans, NotedBelow}
use Rattle.runs.specs.declared.moments.Moments.{Moments}

module _ (r : Run) (asked i k w w' : ℕ) (q : w ≡ seen r asked i k) where
  pub seen_hit : bit asked k ≡ 1 → w' ≡ noted (r i k) k w → w' ≡ seen r asked i (k + 1)
  unfolding seen
  seen_hit a e = rw (add-one k, eq-eqb (bit asked k) 1 a) (e ∙ ap (noted (r i k) k) q)

  pub seen_miss : ¬ (bit asked k ≡ 1) → w ≡ seen r asked i (k + 1)
  unfolding seen
  seen_miss a = rw (add-one k, ne_eqb (bit asked k) 1 a) q

pub seen_none : (r : Run) (asked i w : ℕ) → w ≡ 0 → w ≡ seen r asked i 0
unfolding seen
seen_none r asked i w e = e

-- a letter noted
in_noted_other : (b : Bool) (k j w : ℕ) → ¬ (j ≡ k) → In j (noted b k w) ↔ In j w
in_noted_other true k j w n = ((λ h. in_noted w k j h n), λ h. in_left w (2 ^ k) j h)
in_noted_other false k j w n = ((λ h. h), λ h. h)

in_noted_same : (b : Bool) (k w : ℕ) → ¬ In k w → In k (noted b k w) ↔ (b ≡ true)
in_noted_same true k w n = ((λ _. refl), λ _. in_right w (2 ^ k) k (in_pow k))
in_noted_same false k w n = ((λ h. absurd (n h)), λ e. absurd (false≢true e))

pub seen_high : (r : Run) (asked i k j : ℕ) → k ≤ j → ¬ In j (seen r asked i k)
unfolding seen
seen_high r asked i zero j h = not_in_zero j
seen_high r asked i (suc k) j h = λ q. seen_high r asked i k j (omega arith) ((in_noted_other (eqb (bit asked k) 1 && r i k) k j (seen r asked i k) (λ e. omega arith)).0 q)

pub seen_is : (r : Run) (asked i k j : ℕ) → j < k → In j asked → In j (seen r asked i k) ↔ (r i j ≡ true)
unfolding seen
seen_is r asked i zero j h a = absurd (omega arith)
seen_is r asked i (suc k) j h a = ⊎_elim
    (λ e. let w = in_noted_same (eqb (bit asked k) 1 && r i k) k (seen r asked i k) (seen_high r asked i k k (omega arith)) in
    let a' : In k asked = subst (λ m. In m asked) e a in (
      (λ q. subst (λ m. r i m ≡ true) (sym e) (and_parts (eqb (bit asked k) 1) (r i k) (w.0 (subst (λ m. In m (noted (eqb (bit asked k) 1 && r i k) k (seen r asked i k))) e q))).1),
      λ q. subst (λ m. In m (noted (eqb (bit asked k) 1 && r i k) k (seen r asked i k))) (sym e) (w.1 (and_from _ _ (eq-eqb (bit asked k) 1 a') (subst (λ m. r i m ≡ true) e q))),
    ))
    (λ n. let w = in_noted_other (eqb (bit asked k) 1 && r i k) k j (seen r asked i k) n in
    let v = seen_is r asked i k j (omega arith) a in
    ((λ q. v.0 (w.0 q)), λ q. w.1 (v.1 q)))
    (cases_eq j k)

-- the worlds with the plain letters wanted
pub below_plain : (x : Source) (asked : ℕ) (m : Moments) → Spans x m → ((i : ℕ) → i < end_of x → get_or m.worlds.at i 0 ≡ seen x.run (wanted asked) i 20) → NotedBelow x asked 20 m
below_plain x asked m s q = record {
  spans = s;
  noted_at = λ i h j. (
    (λ l a. subst (λ n. In j n ↔ (x.run i j ≡ true)) (sym (q i h)) (seen_is x.run (wanted asked) i 20 j l a)),
    (λ l l'. absurd (omega arith)),
    λ l _ b. seen_high x.run (wanted asked) i 20 j l (subst (In j) (q i h) b),
  );
}

-- a literal in a world that has its letter
module _ (r : Run) (i w : ℕ) (l : Literal) (q : In l.letter w ↔ (r i l.letter ≡ true)) where
  bit_is : eqb (bit w l.letter) 1 ≡ r i l.letter
  bit_is = same_tests _ _ (λ e. q.0 (eqb-true _ 1 e)) (λ e. eq-eqb _ 1 (q.1 e))

  pub true_from : true_in w l ≡ true → PlainTrue r i l
  true_from e = sym bit_is ∙ beq_true _ _ e

  pub true_to : PlainTrue r i l → true_in w l ≡ true
  true_to e = beq_same _ _ (bit_is ∙ e)

  pub untrue_to : ¬ PlainTrue r i l → true_in w l ≡ false
  untrue_to n = ⊎_elim (λ e. absurd (n (true_from e))) (λ e. e) (cases_Bool (true_in w l))

-- a literal that is true later
pub comes_from : (r : Run) (l : Literal) (o : Option ℕ) (i : ℕ) → Horizon r l o → comes_after o i ≡ true → (j : ℕ) × (i < j) × PlainTrue r j l
comes_from r l None i h e = let w = h (i + 1) in (w.0, omega (arith, w.1), w.2)
comes_from r l (Some n) i h e = let b = ltb-true (i + 1) n e in ⊎_elim (λ z. absurd (omega arith)) (λ t. (n - 1, omega arith, t)) h.0

pub comes_to : (r : Run) (l : Literal) (o : Option ℕ) (i : ℕ) → Horizon r l o → (j : ℕ) × (i < j) × PlainTrue r j l → comes_after o i ≡ true
comes_to r l None i h w = refl
comes_to r l (Some n) i h w = ⊎_elim (λ b. lt-ltb (i + 1) n b) (λ b. absurd (h.1 w.0 (omega (arith, w.1)) w.2)) (cases_lt (i + 1) n)

pub waits_is : (r : Run) (i w : ℕ) (l : Literal) (o : Option ℕ) → (In l.letter w ↔ (r i l.letter ≡ true)) → Horizon r l o → (waits_in o l i w ≡ true) ↔ Waits r i l
waits_is r i w l o q h = (
  (λ e. let p = and_parts (not (true_in w l)) (comes_after o i) e in
      ((λ t. both_ways (true_in w l) (not-true _ p.0) (true_to r i w l q t)), comes_from r l o i h p.1)),
  λ e. and_from (not (true_in w l)) (comes_after o i) (not_from_false _ (untrue_to r i w l q e.0)) (comes_to r l o i h e.1),
)

-- the plain letters of a waiting letter asked for are wanted
pub want_plain : (asked k : ℕ) → In k asked → In k (wanted asked)
want_plain asked k a = in_left asked _ k a

want_shifted : (asked m k : ℕ) → m ≤ k → In k asked → In (k - m) (asked / 2 ^ m)
want_shifted asked m k h a = let e : m + (k - m) ≡ k = omega arith in bit_shift asked m (k - m) ∙ ap (bit asked) e ∙ a

pub want_waited : (asked k : ℕ) → 20 ≤ k → In k asked → In (waited k).letter (wanted asked)
want_waited asked k h a = ⊎_elim
    (λ l. subst (λ n. In n (wanted asked)) (sym (ap (λ (z : Literal). z.letter) (low l))) (in_right asked _ (k - 20) (in_left (asked / 2 ^ 20) _ (k - 20) (want_shifted asked 20 k h a))))
    (λ l. subst (λ n. In n (wanted asked)) (sym (ap (λ (z : Literal). z.letter) (high l))) (in_right asked _ (k - 40) (in_right (asked / 2 ^ 20) _ (k - 40) (want_shifted asked 40 k l a))))
    (cases_lt k 40)
  where
    low : k < 40 → waited k ≡ record { letter = k - 20; positive = true }
    low l = rw (lt-ltb k 40 l, waited) refl

    high : 40 ≤ k → waited k ≡ record { letter = k - 40; positive = false }
    high l = rw (le-ltb k 40 l, waited) refl

-- one waiting letter more
module _ (x : Source) (asked k : ℕ) (m : Moments) (h : 20 ≤ k) (q : NotedBelow x asked k m) where
  pub below_hit : (m' : Moments) (o : Option ℕ) (l : Literal) → l ≡ waited k → l.letter < 20 → In k asked → Horizon x.run l o → Spans x m'
      → ((i : ℕ) → i < end_of x → get_or m'.worlds.at i 0 ≡ noted (waits_in o l i (get_or m.worlds.at i 0)) k (get_or m.worlds.at i 0)) → NotedBelow x asked (k + 1) m'
  below_hit m' o l is low a hz s e = record {
    spans = s;
    noted_at = λ i b j.
        let w = get_or m.worlds.at i 0 in
        let t = waits_in o l i w in
        let to : (z : ℕ) (P : Type 0) → In z (noted t k w) ↔ P → In z (get_or m'.worlds.at i 0) ↔ P = λ z P f. subst (λ n. In z n ↔ P) (sym (e i b)) f in
        let pl : In l.letter w ↔ (x.run i l.letter ≡ true) = (q.noted_at i b l.letter).0 low (subst (λ (z : Literal). In z.letter (wanted asked)) (sym is) (want_waited asked k h a)) in
        let here = waits_is x.run i w l o pl hz in
        let same = in_noted_same t k w ((q.noted_at i b k).2 (omega arith) h) in (
          (λ z v. let n : ¬ (j ≡ k) = λ y. omega arith in let f = in_noted_other t k j w n in let f' = (q.noted_at i b j).0 z v in to j _ ((λ y. f'.0 (f.0 y)), λ y. f.1 (f'.1 y))),
          (λ z z' v. ⊎_elim
              (λ y. subst (λ n. In n (get_or m'.worlds.at i 0) ↔ Waits x.run i (waited n)) (sym y)
              (to k _ ((λ p. subst (Waits x.run i) is (here.0 (same.0 p))), λ p. same.1 (here.1 (subst (Waits x.run i) (sym is) p)))))
              (λ n. let f = in_noted_other t k j w n in let f' = (q.noted_at i b j).1 z (omega arith) v in to j _ ((λ y. f'.0 (f.0 y)), λ y. f.1 (f'.1 y)))
              (cases_eq j k)),
          λ z z' p. let n : ¬ (j ≡ k) = λ y. omega arith in (q.noted_at i b j).2 (omega arith) z' ((in_noted_other t k j w n).0 (subst (In j) (e i b) p)),
        );
  }

  pub below_miss : ¬ In k asked → NotedBelow x asked (k + 1) m
  below_miss a = record {
    spans = q.spans;
    noted_at = λ i b j. (
      (q.noted_at i b j).0,
      (λ z z' v. ⊎_elim (λ y. absurd (a (subst (λ n. In n asked) y v))) (λ n. (q.noted_at i b j).1 z (omega arith) v) (cases_eq j k)),
      λ z z' p. (q.noted_at i b j).2 (omega arith) z' p,
    );
  }

-- all letters noted
pub world_is : (x : Source) (asked : ℕ) (m : Moments) → NotedBelow x asked 60 m → (i : ℕ) → i < end_of x → World x.run asked i (get_or m.worlds.at i 0)
world_is x asked m q i b k h a = ⊎_elim
    (λ l. subst (λ (P : Type 0). In k (get_or m.worlds.at i 0) ↔ P) (sym (plain_letter x.run i k (omega arith))) ((q.noted_at i b k).0 l (want_plain asked k a)))
    (λ l. subst (λ (P : Type 0). In k (get_or m.worlds.at i 0) ↔ P) (sym (high_letter x.run i k l)) ((q.noted_at i b k).1 l h a))
    (cases_lt k 20)
