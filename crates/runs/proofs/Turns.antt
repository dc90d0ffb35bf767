-- A run that repeats: every moment goes on like one of the lead-in or the loop.
use Rattle.std.proofs.Common.{◌≡◌, ℕ, zero, suc, ◌+◌, ◌-◌, ◌<◌, ◌≤◌, true, ◌↔◌, List, length, get_or, take, Some, None, Option, sym, refl, ap, ◌∙◌, subst, inl, inr, ⊎_elim, arith}
use Rattle.std.proofs.lemmas.List.{get_or-take, length-take-le}
use Rattle.std.proofs.lemmas.Bool.{cases_lt, both_ways}
use Rattle.clause.specs.declared.syntax.Literal.{Literal}
use Rattle.clause.specs.declared.syntax.LitSet.{LitSet}
use Rattle.clause.specs.declared.syntax.Clause.{Clause}
use Rattle.clause.specs.declared.syntax.Clause.TheVariants.{Initial, Global, Eventuality, Assumption, Never}
use Rattle.clause.specs.Meaning.{Run, PlainTrue, Waits, waited, LetterTrue, Untrue, Broken}
use Rattle.clause.proofs.Truths.{plain_letter, high_letter}
use Rattle.runs.specs.Source.{Source, end_of}
use Rattle.clause.specs.Bit.{In}
use Rattle.runs.specs.Breaks.{Horizon}
use Rattle.runs.specs.Moments.{true_in, LastTrue, noted, waits_in, wanted, worlds_of, Spans, NotedBelow}
use Rattle.runs.specs.declared.moments.Moments.{Moments}
use Rattle.runs.proofs.Seeing.{true_from, true_to, below_hit, want_waited}

-- from i on the run goes as it does from j on
abbrev pub Follows : Run → ℕ → ℕ → Type 0
Follows r i j = (d k : ℕ) → r (i + d) k ≡ r (j + d) k

module _ (r : Run) where
  pub follows_on : (i j : ℕ) → Follows r i j → Follows r (i + 1) (j + 1)
  follows_on i j f d k =
      let e : (i + 1) + d ≡ i + (1 + d) = omega arith in
      let e' : (j + 1) + d ≡ j + (1 + d) = omega arith in
      ap (λ m. r m k) e ∙ f (1 + d) k ∙ sym (ap (λ m. r m k) e')

  pub follows_back : (i j : ℕ) → Follows r i j → Follows r j i
  follows_back i j f d k = sym (f d k)

  -- a moment from i on, seen from j
  pub shifted : (i j : ℕ) → Follows r i j → (l : Literal) (m : ℕ) → i ≤ m → PlainTrue r m l → PlainTrue r (j + (m - i)) l
  shifted i j f l m h t = let e : i + (m - i) ≡ m = omega arith in sym (f (m - i) l.letter) ∙ ap (λ n. r n l.letter) e ∙ t

  pub true_moves : (i j : ℕ) → Follows r i j → (l : Literal) → PlainTrue r i l → PlainTrue r j l
  true_moves i j f l t = let e : j + (i - i) ≡ j = omega arith in subst (λ n. PlainTrue r n l) e (shifted i j f l i (omega arith) t)

  later_moves : (i j : ℕ) → Follows r i j → (l : Literal) → (m : ℕ) × (i < m) × PlainTrue r m l → (m : ℕ) × (j < m) × PlainTrue r m l
  later_moves i j f l w = (j + (w.0 - i), omega (arith, w.1), shifted i j f l w.0 (omega (arith, w.1)) w.2)

  waits_moves : (i j : ℕ) → Follows r i j → (l : Literal) → Waits r i l → Waits r j l
  waits_moves i j f l w = ((λ t. w.0 (true_moves j i (follows_back i j f) l t)), later_moves i j f l w.1)

  letter_moves : (i j : ℕ) → Follows r i j → (k : ℕ) → LetterTrue r i k → LetterTrue r j k
  letter_moves i j f k t = ⊎_elim
      (λ l. subst (λ (P : Type 0). P) (sym (plain_letter r j k (omega arith))) (true_moves i j f (record { letter = k; positive = true }) (subst (λ (P : Type 0). P) (plain_letter r i k (omega arith)) t)))
      (λ l. subst (λ (P : Type 0). P) (sym (high_letter r j k l)) (waits_moves i j f (waited k) (subst (λ (P : Type 0). P) (high_letter r i k l) t)))
      (cases_lt k 20)

  pub untrue_moves : (i j : ℕ) → Follows r i j → (s : LitSet) → Untrue r i s → Untrue r j s
  untrue_moves i j f s u k = (
    (λ b t. (u k).0 b (letter_moves j i (follows_back i j f) k t)),
    λ b n. (u k).1 b (λ t. n (letter_moves i j f k t)),
  )

  abbrev pub Late : Clause → Type 0
  Late (Initial _) = ⊥
  Late (Global _ _) = Unit {0}
  Late (Eventuality _ _) = Unit {0}
  Late (Assumption _) = Unit {0}
  Late (Never _ _) = Unit {0}

  pub broken_moves : (i j : ℕ) → Follows r i j → (c : Clause) → Late c → Broken r i c → Broken r j c
  broken_moves i j f (Initial _) late b = absurd late
  broken_moves i j f (Global n x) late b = (untrue_moves i j f n b.0, untrue_moves (i + 1) (j + 1) (follows_on i j f) x b.1)
  broken_moves i j f (Eventuality n l) late b = (
    untrue_moves i j f n b.0,
    λ m h t. b.1 (i + (m - j)) (omega arith) (shifted j i (follows_back i j f) l m h t),
  )
  broken_moves i j f (Assumption x) late b = untrue_moves (i + 1) (j + 1) (follows_on i j f) x b
  broken_moves i j f (Never n l) late b = (untrue_moves i j f n b.0, later_moves i j f l b.1)

-- a moment below the end that i goes on like
pub record Like (x : Source) (i j : ℕ) : Type 0 where
  pub below : j < end_of x
  pub same : Follows x.run i j
  pub above : (a : ℕ) → a ≤ x.lead → a ≤ i → a ≤ j

module _ (x : Source) where
  pub turned : (i : ℕ) → x.lead ≤ i → Follows x.run (i + x.loop_length) i
  turned i h d k = let e : (i + x.loop_length) + d ≡ (i + d) + x.loop_length = omega arith in ap (λ m. x.run m k) e ∙ x.agrees (i + d) k (omega arith)

  like_back : (i j : ℕ) → end_of x ≤ i → Like x (i - x.loop_length) j → Like x i j
  like_back i j h q =
      let b = x.turns in
      let m = i - x.loop_length in
      let l : x.lead ≤ m = omega arith in
      let e : m + x.loop_length ≡ i = omega arith in
      record {
        below = q.below;
        same = λ d k. subst (λ n. x.run (n + d) k ≡ x.run (m + d) k) e (turned m l d k) ∙ q.same d k;
        above = λ a p _. q.above a p (omega arith);
      }

  like_within : (n i : ℕ) → i < n + end_of x → (j : ℕ) × Like x i j
  like_within zero i h = (i, record { below = omega arith; same = λ d k. refl; above = λ a _ q. q })
  like_within (suc n) i h = ⊎_elim (λ l. (i, record { below = l; same = λ d k. refl; above = λ a _ q. q }))
      (λ l. let b = x.turns in let w = like_within n (i - x.loop_length) (omega arith) in (w.0, like_back i w.0 l w.1))
      (cases_lt i (end_of x))

  pub like : (i : ℕ) → (j : ℕ) × Like x i j
  like i = like_within i i (omega (arith, x.turns))

  -- what is so once from the lead-in on is so again
  pub again : (j i : ℕ) → x.lead ≤ j → (m : ℕ) × (i ≤ m) × (x.lead ≤ m) × ((k : ℕ) → x.run m k ≡ x.run j k)
  again j zero h = (j, omega arith, h, λ k. refl)
  again j (suc i) h =
      let w = again j i h in let b = x.turns in
      (w.0 + x.loop_length, omega (arith, w.1), omega (arith, w.2), λ k. x.agrees w.0 k w.2 ∙ w.3 k)

-- where the worlds have the literal last
pub horizon_is : (x : Source) (l : Literal) (ws : List ℕ) (o : Option ℕ) → length ws ≡ end_of x
    → ((i : ℕ) → i < end_of x → In l.letter (get_or ws i 0) ↔ (x.run i l.letter ≡ true)) → LastTrue ws x.lead l o → Horizon x.run l o
horizon_is x l ws None n q (j, h, b, t) = λ m.
    let w = again x j m h in
    (w.0, w.1, w.3 l.letter ∙ true_from x.run j (get_or ws j 0) l (q j (omega arith)) t)
horizon_is x l ws (Some h) n q t = (
  ⊎_elim (λ e. inl e) (λ e. let b = x.turns in inr (true_from x.run (h - 1) (get_or ws (h - 1) 0) l (q (h - 1) (omega (arith, e.0, e.1))) e.3)) t.0,
  λ j b p. let w = like x j in
      let low : h ≤ x.lead = ⊎_elim (λ e. omega arith) (λ e. e.0) t.0 in
      let j' = w.0 in let lt = w.1.below in
      both_ways (true_in (get_or ws j' 0) l) (t.1 j' (w.1.above h low b) (omega arith)) (true_to x.run j' (get_or ws j' 0) l (q j' lt) (true_moves x.run j j' w.1.same l p)),
)

-- a part of the worlds from the first on
pub part_world : (ws : List ℕ) (e i : ℕ) → e ≤ length ws → i < e → get_or (take e ws) i 0 ≡ get_or ws i 0
part_world ws e i h b = get_or-take e ws i 0 b

pub one_more : (x : Source) (asked k : ℕ) (m m' : Moments) (o : Option ℕ) (l : Literal) → 20 ≤ k → l ≡ waited k → l.letter < 20 → In k asked
    → LastTrue (worlds_of m) m.lead l o → Spans x m'
    → ((i : ℕ) → i < m.end → get_or m'.worlds.at i 0 ≡ noted (waits_in o l i (get_or m.worlds.at i 0)) k (get_or m.worlds.at i 0)) → NotedBelow x asked k m → NotedBelow x asked (k + 1) m'
one_more x asked k m m' o l h is low a t s' e q =
    let s = q.spans in
    let n : end_of x ≤ length m.worlds.at = omega (arith, s.room, x.small) in
    below_hit x asked k m h q m' o l is low a
    (horizon_is x l (take (end_of x) m.worlds.at) o (length-take-le (end_of x) m.worlds.at n)
    (λ i b. subst (λ w. In l.letter w ↔ (x.run i l.letter ≡ true)) (sym (part_world m.worlds.at (end_of x) i n b))
    ((q.noted_at i b l.letter).0 low (subst (λ (z : Literal). In z.letter (wanted asked)) (sym is) (want_waited asked k h a))))
    (subst (λ d. LastTrue (take (end_of x) m.worlds.at) d l o) s.lead_is (subst (λ d. LastTrue (take d m.worlds.at) m.lead l o) s.end_is t)))
    s' (λ i b. e i (omega (arith, s.end_is)))
