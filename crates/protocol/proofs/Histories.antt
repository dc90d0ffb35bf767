-- The promise, over every story.
use Rattle.std.proofs.Common.{◌≡◌, ℕ, zero, suc, ◌-◌, ◌<◌, ◌≤◌, ◌↔◌, List, [], ◌∷◌, length, replicate, sym, refl, ap, ◌∙◌, subst, inl, inr, ⊎_elim, arith}
use Rattle.std.proofs.lemmas.List.{length-append, length-replicate}
use Rattle.clause.proofs.Truths.{untrue_none}
use Rattle.clause.specs.Meaning.{Run, Untrue, Broken, Unbroken, Keeps, none}
use Rattle.clause.specs.Sets.{now_of, next_of}
use Rattle.clause.specs.declared.refusal.Refusal.TheVariants.{NoSuchLine, NotInForce, WrongKind, NotEmpty}
use Rattle.clause.specs.declared.syntax.Clause.{Clause}
use Rattle.clause.specs.declared.syntax.Clause.TheVariants.{Initial, Global, Eventuality, Assumption, Never}
use Rattle.protocol.proofs.Invariant.{IsIntake, Inv}
use Rattle.protocol.proofs.Rules.{inside, awake}
use Rattle.protocol.proofs.Room.{Room, room_step}
use Rattle.protocol.proofs.Unique.{one_answer, rising_tail, above}
use Rattle.protocol.proofs.Steps.{Frozen, Next, not_due, fresh_inv, step}
use Rattle.protocol.specs.Answers.{Answered}
use Rattle.protocol.specs.Calls.{Call, refute, show, Answer, number, core, shown, refused, Exists}
use Rattle.protocol.specs.Causes.{NoneOf, causes, LowestBroken, NotRefutable, SomeIn}
use Rattle.protocol.specs.History.{History, begun, then, Happened, calls_of}
use Rattle.protocol.specs.Promise.{Contradiction, KeepsGiven, KeepsAll, Verdicts, Promise}
use Rattle.protocol.specs.Cores.{IsCore, Rising, padded}
use Rattle.protocol.specs.State.{Line, Stage, intake, sealed, loop, State, clause_at}
use Rattle.runs.specs.Source.{Source}

pub holds : {h : List (Call × Answer)} {s : State} → History h s → Inv s.stage s.given s.lines
holds begun = fresh_inv
holds (then {s = s} c a t st x q) = (step s c a t (holds st) x q).holds

-- at most 200 given lines and 1,000 lines
pub roomy : {h : List (Call × Answer)} {s : State} → History h s → Room s
roomy begun = (omega arith, omega arith)
roomy (then {s = s} c a t st x q) = room_step s c a t (holds st) x q (roomy st)

-- an accepted refute
empty_broken : (r : Run) (c : Clause) → ¬ NotRefutable c → now_of c ≡ none → next_of c ≡ none → Broken r 0 c
empty_broken r (Initial s) n e f = (refl, subst (Untrue r 0) (sym e) (untrue_none r 0))
empty_broken r (Global s x) n e f = (subst (Untrue r 0) (sym e) (untrue_none r 0), subst (Untrue r 1) (sym f) (untrue_none r 1))
empty_broken r (Eventuality _ _) n e f = absurd (n tt)
empty_broken r (Assumption _) n e f = absurd (n tt)
empty_broken r (Never _ _) n e f = absurd (n tt)

abbrev Refutes : State → ℕ → List ℕ → ℕ → Type 0
Refutes s n row count = (ns : List ℕ) × IsCore s n ns × (row ≡ padded ns) × (count ≡ length ns) × ((r : Run) → ¬ KeepsAll s ns r)

contradiction : (st : Stage) (g : ℕ) (ls : List Line) → Inv st g ls → (n count : ℕ) (before row : List ℕ) (t : State) → Exists st (refute n before)
    → Answered (record { stage = st; given = g; lines = ls }) (refute n before) (core row count) t
    → Refutes (record { stage = st; given = g; lines = ls }) n row count
contradiction intake g ls inv n count before row t x q = absurd x
contradiction sealed g ls inv n count before row t x q =
    let d = q.0 in
    let ns = q.1.0 in
    let e = q.1.2 in
    let w = inside sealed g ls n (λ o. not_due _ NoSuchLine d.1.0 (inl o)) in (
      ns,
      q.1.1,
      cc,
      cc,
      λ r k. not_due _ NotEmpty d.1.1.1.1.0 (λ z.
          inv.sound n w.0 w.1 (awake ls n (λ o. not_due _ NotInForce d.1.1.0 (inl o))) r (λ m h h' p. k m (q.1.1.whole m h h' p)) 0
          (empty_broken r (clause_at ls n) (not_due _ WrongKind d.1.1.1.0) z.0 z.1)),
    )
contradiction (loop _ _ _) g ls inv n count before row t x q = absurd x

-- a show
module _ (s : State) (r : Run) (no : ¬ ((n i : ℕ) × LowestBroken s r n i)) where
  from_below : (n : ℕ) → 1 ≤ n → n ≤ s.given → ((m : ℕ) → 1 ≤ m → m < n → Keeps r (clause_at s.lines m)) → (top i : ℕ) → i < top → Unbroken r i (clause_at s.lines n)
  from_below n h k f zero i q b = omega arith
  from_below n h k f (suc top) i q b = no (n, i, (h, k, b, (λ j q'. from_below n h k f top j (omega arith)), f))

  keeps_below : (top n : ℕ) → n < top → 1 ≤ n → n ≤ s.given → Keeps r (clause_at s.lines n)
  keeps_below zero n q h k i = absurd (omega arith)
  keeps_below (suc top) n q h k i = from_below n h k (λ m h' q'. keeps_below top m (omega arith) h' (omega arith)) (suc i) i (omega arith)

  none_broken : KeepsGiven s r
  none_broken n h k = keeps_below (suc n) n (omega arith) h k

shown_keeps : (s : State) (x : Source) → NoneOf (causes s (show x)) → KeepsGiven s x.run
shown_keeps s x n = none_broken s x.run (λ b. n.0 _ (b.0, b.1, b.2, refl))

pub kept_at : (s : State) (x : Source) (a : Answer) (t : State) → Answered s (show x) a t → (a ≡ shown x.lead x.loop_length) ↔ KeepsGiven s x.run
kept_at s x (refused f) t q = (
  (λ e. let z : ◌≡◌ {A = ℕ} 0 1 = cc in absurd (omega arith)),
  λ k. ⊎_elim (λ b. absurd (k b.0 b.2.0 b.2.1 b.1 b.2.2)) (λ b. absurd b.1) q.0,
)
kept_at s x (number n) t q = ((λ _. shown_keeps s x q.0), λ _. q.1.0)
kept_at s x (core row n) t q = ((λ _. shown_keeps s x q.0), λ _. q.1.0)
kept_at s x (shown i n) t q = ((λ _. shown_keeps s x q.0), λ _. q.1.0)

-- what earlier verdicts say of the given clauses now
record Claims (h : List (Call × Answer)) (s : State) : Type 0 where
  refutes : (n count : ℕ) (before row : List ℕ) → Happened h (refute n before) (core row count) → (¬ IsIntake s.stage) × ((r : Run) → ¬ KeepsGiven s r)
  shows : (x : Source) → Happened h (show x) (shown x.lead x.loop_length) → (¬ IsIntake s.stage) × KeepsGiven s x.run

frozen_back : (s t : State) (r : Run) → Frozen s t → KeepsGiven t r → KeepsGiven s r
frozen_back s t r f k n h q = let e = f.1 in subst (Keeps r) (f.2 n h q) (k n h (omega arith))

frozen_on : (s t : State) (r : Run) → Frozen s t → KeepsGiven s r → KeepsGiven t r
frozen_on s t r f k n h q = let e = f.1 in let q' : n ≤ s.given = omega arith in subst (Keeps r) (sym (f.2 n h q')) (k n h q')

late_refute : (st : Stage) (n : ℕ) (before : List ℕ) → Exists st (refute n before) → ¬ IsIntake st
late_refute intake n before x = λ _. x
late_refute sealed n before x = λ y. y
late_refute (loop _ _ _) n before x = λ y. y

late_show : (st : Stage) (x : Source) → Exists st (show x) → ¬ IsIntake st
late_show intake x y = λ _. y
late_show sealed x y = λ z. z
late_show (loop _ _ _) x y = λ z. z

after : {h : List (Call × Answer)} (s : State) (c : Call) (a : Answer) (t : State) → Inv s.stage s.given s.lines → Claims h s → Exists s.stage c → Answered s c a t → Claims ((c, a) ∷ h) t
after s c a t inv old x q = record {
  refutes = λ n count before row. ⊎_elim
      (λ e. let x' = subst (λ y. Exists s.stage y.0) e x in
      let q' = subst (λ y. Answered s y.0 y.1 t) e q in
      let late = late_refute s.stage n before x' in
      let f = next.frozen late in
      let k = contradiction s.stage s.given s.lines inv n count before row t x' q' in
      (f.0, λ r w. k.4 r (λ m y. let b = k.1.within m y in frozen_back s t r f w m b.0 b.1)))
      (λ y. let o = old.refutes n count before row y in let f = next.frozen o.0 in (f.0, λ r w. o.1 r (frozen_back s t r f w)));
  shows = λ z. ⊎_elim
      (λ e. let x' = subst (λ y. Exists s.stage y.0) e x in
      let q' = subst (λ y. Answered s y.0 y.1 t) e q in
      let f = next.frozen (late_show s.stage z x') in
      (f.0, frozen_on s t z.run f (shown_keeps s z q'.0)))
      (λ y. let o = old.shows z y in let f = next.frozen o.0 in (f.0, frozen_on s t z.run f o.1));
}
  where
    next : Next s t
    next = step s c a t inv x q

claims : {h : List (Call × Answer)} {s : State} → History h s → Claims h s
claims begun = record { refutes = λ _ _ _ _ y. absurd y; shows = λ _ y. absurd y }
claims (then {s = s} c a t st x q) = after s c a t (holds st) (claims st) x q

-- a core is a part of the given lines, and so fits its row
rising_few : (low n : ℕ) (ns : List ℕ) → Rising ns → ((m : ℕ) → SomeIn (λ k. k ≡ m) ns → (low < m) × (m ≤ n)) → length ns ≤ n - low
rising_few low n [] r w = omega arith
rising_few low n (m ∷ ms) r w =
    let b = w m (inl refl) in
    let tail = rising_few m n ms (rising_tail m ms r) (λ k h. (above m ms r k h, (w k (inr h)).1)) in
    omega (arith, b.0, b.1)

row_long : (s : State) (n : ℕ) (ns : List ℕ) → s.given ≤ 200 → IsCore s n ns → length (padded ns) ≡ 200
row_long s n ns h c =
    let few = rising_few 0 s.given ns c.rising (λ m p. let b = c.within m p in (omega (arith, b.0), b.1)) in
    omega (arith, length-append ns (replicate (200 - length ns) 0), length-replicate {A = ℕ} (200 - length ns) 0)

contradicts : {h : List (Call × Answer)} {s : State} → History h s → (n count : ℕ) (before row : List ℕ) (t : State) → Exists s.stage (refute n before)
    → Answered s (refute n before) (core row count) t → Contradiction s n row count
contradicts {s = s} st n count before row t x q =
    let k = contradiction s.stage s.given s.lines (holds st) n count before row t x q in
    (k.0, k.1, k.2, ap length k.2 ∙ row_long s n k.0 (roomy st).0 k.1, k.3, k.4)

verdicts : (h : List (Call × Answer)) (s : State) → History h s → Verdicts h s
verdicts h s st = record {
  few_given = (roomy st).0;
  few_lines = (roomy st).1;
  own = (holds st).fits;
  narrow = (holds st).narrow;
  follows = (holds st).sound;
  refuted = contradicts st;
  kept = λ x a t _ q. kept_at s x a t q;
  never_both = λ n count before row x y z. ((claims st).refutes n count before row y).1 x.run ((claims st).shows x z).1;
}

-- the same calls have the same answers
pub alone : (h h' : List (Call × Answer)) (s s' : State) → History h s → History h' s' → calls_of h ≡ calls_of h' → (h ≡ h') × (s ≡ s')
alone h h' s s' begun begun e = (refl, refl)
alone h h' s s' begun (then c a t st x q) e = let z : ◌≡◌ {A = ℕ} 0 1 = cc in absurd (omega arith)
alone h h' s s' (then c a t st x q) begun e = let z : ◌≡◌ {A = ℕ} 0 1 = cc in absurd (omega arith)
alone _ _ _ _ (then {h = h} {s = s} c a t st x q) (then {h = h'} {s = s'} c' a' t' st' x' q') e =
    let ec : c ≡ c' = cc in
    let eh : calls_of h ≡ calls_of h' = cc in
    let w = alone h h' s s' st st' eh in
    let es = w.1 in
    let q'' : Answered s c a' t' = subst (λ (u : State). Answered u c a' t') (sym es) (subst (λ (d : Call). Answered s' d a' t') (sym ec) q') in
    let o = one_answer s c a a' t t' q q'' in
    let hh = w.0 in let aa = o.0 in
    (cc, o.1)

pub promise : Promise
promise = (alone, verdicts)
