-- The line that each call adds is one that may be added.
use Rattle.std.proofs.Common.{◌≡◌, ℕ, ◌+◌, ◌<◌, ◌≤◌, true, false, List, [], ◌∷◌, map, length, sym, refl, subst, inl, inr, ⊎_elim, arith}
use Rattle.std.proofs.lemmas.Bool.{cases_Bool, true≢false, false≢true}
use Rattle.std.proofs.ByRecursion.{All-weaker}
use Rattle.std.specs.List.{AllByRecursion}
use Rattle.clause.proofs.Truths.{untrue_none, untrue_within}
use Rattle.clause.specs.Meaning.{Run, Untrue, Broken, Unbroken, Keeps, Within, none, just, ◌∪◌}
use Rattle.clause.specs.Sets.{Over, Narrow, literal_of, now_of, next_of, waits_set, waits_not_set}
use Rattle.clause.specs.declared.syntax.Clause.{Clause}
use Rattle.clause.specs.declared.syntax.Clause.TheVariants.{Initial, Global, Eventuality, Assumption, Never}
use Rattle.clause.specs.declared.syntax.LitSet.{LitSet}
use Rattle.clause.specs.declared.syntax.Literal.{Literal}
use Rattle.protocol.proofs.Invariant.{Stands, Inv, New, small_at}
use Rattle.protocol.proofs.Narrow.{narrow_waited, narrow_waits, narrow_drawn, narrow_alone, narrow_assumed, narrow_never}
use Rattle.protocol.proofs.Laws.{wait_law, wait_literal_law, draw_law, draw_alone_law, close_law, Stand}
use Rattle.protocol.proofs.Lines.{none_in, all_both, none_resting, RestsOn}
use Rattle.protocol.specs.Answers.{derived, assumed, nevers}
use Rattle.protocol.specs.Causes.{SomeIn, Outside, NotEventuality, NotNever, NotGlobal, Unfit, RestEverywhere}
use Rattle.protocol.specs.State.{Line, Stage, sealed, loop, line_at, clause_at, clauses_at, in_loop, any_resting}
use Rattle.rules.specs.Books.{Conclusion, Consult, Mark, here, everywhere, concluded, gives, Used, Sound}

abbrev pub Inside : List Line → ℕ → Type 0
Inside ls n = (1 ≤ n) × (n ≤ length ls)

-- resting, and its loop not open
abbrev pub Sleeps : Stage → List Line → ℕ → Type 0
Sleeps st ls n = ((line_at ls n).resting ≡ true) × (in_loop st n ≡ false)

pub inside : (st : Stage) (g : ℕ) (ls : List Line) (n : ℕ) → ¬ Outside (record { stage = st; given = g; lines = ls }) n → Inside ls n
inside st g ls n h =
    let a : ¬ (n ≡ 0) = λ e. h (inl e) in
    let b : ¬ (length ls < n) = λ q. h (inr q) in
    (omega arith, omega arith)

pub insides : (st : Stage) (g : ℕ) (ls : List Line) (ns : List ℕ) → ¬ SomeIn (Outside (record { stage = st; given = g; lines = ls })) ns → AllByRecursion (Inside ls) ns
insides st g ls ns h = All-weaker _ _ (λ n. inside st g ls n) ns (none_in _ ns h)

module _ (st : Stage) (g : ℕ) (ls : List Line) (inv : Inv st g ls) where
  -- a line in force
  unbroken_here : (n : ℕ) → Inside ls n → ¬ Sleeps st ls n → (r : Run) (i : ℕ) → RestsOn r g ls n → Stands r i st → Unbroken r i (clause_at ls n)
  unbroken_here n h a r i s st = ⊎_elim
      (λ e. ⊎_elim (λ l. inv.sound_here n h.0 h.1 e l r i s st) (λ l. absurd (a (e, l))) (cases_Bool (in_loop _ n)))
      (λ e. inv.sound n h.0 h.1 e r s i)
      (cases_Bool (line_at ls n).resting)

  -- infer
  Fit : Run → ℕ → ℕ → Type 0
  Fit r i n = Unbroken r i (clause_at ls n) × ((line_at ls n).resting ≡ false → Keeps r (clause_at ls n))

  used : (r : Run) (i : ℕ) (ns : List ℕ) (ms : List Mark) → AllByRecursion (Fit r i) ns → ¬ RestEverywhere ls ns ms → Used r i (clauses_at ls ns) ms
  unfolding Fit
  used r i [] ms a n = tt
  used r i (k ∷ ks) [] a n = tt
  used r i (k ∷ ks) (here ∷ ms) a n = (a.0.0, used r i ks ms a.1 n)
  used r i (k ∷ ks) (everywhere ∷ ms) a n =
      (⊎_elim (λ e. absurd (n (inl e))) a.0.1 (cases_Bool (line_at ls k).resting), used r i ks ms a.1 (λ q. n (inr q)))

  narrow_all : (ns : List ℕ) → AllByRecursion (Inside ls) ns → AllByRecursion Narrow (clauses_at ls ns)
  narrow_all [] a = tt
  narrow_all (n ∷ ns) a = (inv.narrow n a.0.0 a.0.1, narrow_all ns a.1)

  pub infer_new : (b : Consult) (ns : List ℕ) (k : Conclusion) (ms : List Mark) → b.late (clauses_at ls ns) ≡ gives k ms
      → AllByRecursion (Inside ls) ns → AllByRecursion (λ n. ¬ Sleeps st ls n) ns → ¬ RestEverywhere ls ns ms
      → New st g ls (record { clause = concluded k; cites = ns; resting = any_resting ls ns })
  unfolding Fit
  infer_new b ns k ms e is aw re = record {
    low = is;
    narrow = b.narrow _ k ms (narrow_all ns is) e;
    sound = λ q r s i. subst (Sound (clauses_at ls ns)) e (b.sound (clauses_at ls ns)) r i (used r i ns ms
        (All-weaker _ _ (λ n p. let w = inv.sound n p.0.0 p.0.1 p.1.1 r p.1.0 in (w i, λ _. w)) ns
        (all_both _ _ ns is (all_both _ _ ns s (none_resting ls ns q)))) re);
    sound_here = λ q r i s a. subst (Sound (clauses_at ls ns)) e (b.sound (clauses_at ls ns)) r i (used r i ns ms
        (All-weaker _ _ (λ n p. (unbroken_here n p.0 p.1.0 r i p.1.1 a, λ z. inv.sound n p.0.0 p.0.1 z r p.1.1)) ns
        (all_both _ _ ns is (all_both _ _ ns aw s))) re);
  }

-- outside a loop, a line in force does not rest
pub awake : (ls : List Line) (n : ℕ) → ¬ Sleeps sealed ls n → (line_at ls n).resting ≡ false
awake ls n a = ⊎_elim (λ e. absurd (a (e, refl))) (λ e. e) (cases_Bool (line_at ls n).resting)

wait_clause : (r : Run) (c : Clause) → ¬ NotEventuality c → (literal_of c).letter ≤ 19 → Keeps r c → Keeps r (Global (now_of c ∪ (just (literal_of c) ∪ waits_set (literal_of c))) none)
wait_clause r (Initial _) n h k = absurd (n tt)
wait_clause r (Global _ _) n h k = absurd (n tt)
wait_clause r (Eventuality c l) n h k = wait_law r c l h k
wait_clause r (Assumption _) n h k = absurd (n tt)
wait_clause r (Never _ _) n h k = absurd (n tt)

alone_clause : (r : Run) (c : Clause) → ¬ NotNever c → (literal_of c).letter ≤ 19 → Keeps r c → Keeps r (Global (waits_not_set (literal_of c)) (just (literal_of c) ∪ now_of c))
alone_clause r (Initial _) n h k = absurd (n tt)
alone_clause r (Global _ _) n h k = absurd (n tt)
alone_clause r (Eventuality _ _) n h k = absurd (n tt)
alone_clause r (Assumption _) n h k = absurd (n tt)
alone_clause r (Never g l) n h k = draw_alone_law r g l h k

draw_eventuality : (r : Run) (g : LitSet) (l : Literal) (d : Clause) → ¬ NotEventuality d → l ≡ literal_of d → (literal_of d).letter ≤ 19 → Keeps r (Never g l) → Keeps r d
    → Keeps r (Global (now_of d ∪ (just (literal_of d) ∪ g)) none)
draw_eventuality r g l (Initial _) n e h k k' = absurd (n tt)
draw_eventuality r g l (Global _ _) n e h k k' = absurd (n tt)
draw_eventuality r g l (Eventuality c l') n e h k k' = draw_law r g c l' h (subst (λ x. Keeps r (Never g x)) e k) k'
draw_eventuality r g l (Assumption _) n e h k k' = absurd (n tt)
draw_eventuality r g l (Never _ _) n e h k k' = absurd (n tt)

draw_clause : (r : Run) (c d : Clause) → ¬ NotNever c → ¬ NotEventuality d → ¬ (¬ (literal_of c ≡ literal_of d)) → (literal_of d).letter ≤ 19 → Keeps r c → Keeps r d
    → Keeps r (Global (now_of d ∪ (just (literal_of d) ∪ now_of c)) none)
draw_clause r (Initial _) d n m e h k k' = absurd (n tt)
draw_clause r (Global _ _) d n m e h k k' = absurd (n tt)
draw_clause r (Eventuality _ _) d n m e h k k' = absurd (n tt)
draw_clause r (Assumption _) d n m e h k k' = absurd (n tt)
draw_clause r (Never g l) d n m e h k k' = λ i b. e (λ e'. draw_eventuality r g l d m e' h k k' i b)

module _ (g : ℕ) (ls : List Line) (inv : Inv sealed g ls) where
  kept_line_at : (r : Run) (n : ℕ) → Inside ls n → ¬ Sleeps sealed ls n → RestsOn r g ls n → Keeps r (clause_at ls n)
  kept_line_at r n h a s = inv.sound n h.0 h.1 (awake ls n a) r s

  pub wait_new : (n : ℕ) → Inside ls n → ¬ Sleeps sealed ls n → ¬ NotEventuality (clause_at ls n)
      → New sealed g ls (derived (Global (now_of (clause_at ls n) ∪ (just (literal_of (clause_at ls n)) ∪ waits_set (literal_of (clause_at ls n)))) none) (n ∷ []))
  wait_new n h a e = record {
    low = (h, tt);
    narrow = narrow_waited (clause_at ls n) (inv.narrow n h.0 h.1);
    sound = λ _ r s. wait_clause r (clause_at ls n) e (small_at inv n h.0 h.1) (kept_line_at r n h a s.0);
    sound_here = λ q. absurd (false≢true q);
  }

  pub wait_literal_new : (l : Literal) → l.letter ≤ 19 → New sealed g ls (derived (Global (waits_not_set l) (just l ∪ waits_set l)) [])
  wait_literal_new l h = record {
    low = tt;
    narrow = narrow_waits l h;
    sound = λ _ r s. wait_literal_law r l h;
    sound_here = λ q. absurd (false≢true q);
  }

  pub draw_new : (n m : ℕ) → Inside ls n → Inside ls m → ¬ Sleeps sealed ls n → ¬ Sleeps sealed ls m → ¬ NotNever (clause_at ls n) → ¬ NotEventuality (clause_at ls m)
      → ¬ (¬ (literal_of (clause_at ls n) ≡ literal_of (clause_at ls m)))
      → New sealed g ls (derived (Global (now_of (clause_at ls m) ∪ (just (literal_of (clause_at ls m)) ∪ now_of (clause_at ls n))) none) (n ∷ m ∷ []))
  draw_new n m h h' a a' v e q = record {
    low = (h, (h', tt));
    narrow = narrow_drawn (clause_at ls n) (inv.narrow n h.0 h.1) (clause_at ls m) (inv.narrow m h'.0 h'.1);
    sound = λ _ r s. draw_clause r (clause_at ls n) (clause_at ls m) v e q (small_at inv m h'.0 h'.1) (kept_line_at r n h a s.0) (kept_line_at r m h' a' s.1.0);
    sound_here = λ q. absurd (false≢true q);
  }

  pub draw_alone_new : (n : ℕ) → Inside ls n → ¬ Sleeps sealed ls n → ¬ NotNever (clause_at ls n)
      → New sealed g ls (derived (Global (waits_not_set (literal_of (clause_at ls n))) (just (literal_of (clause_at ls n)) ∪ now_of (clause_at ls n))) (n ∷ []))
  draw_alone_new n h a e = record {
    low = (h, tt);
    narrow = narrow_alone (clause_at ls n) (inv.narrow n h.0 h.1);
    sound = λ _ r s. alone_clause r (clause_at ls n) e (small_at inv n h.0 h.1) (kept_line_at r n h a s.0);
    sound_here = λ q. absurd (false≢true q);
  }

-- the assumptions of a loop that is opened
pub assumed_new : (f g : ℕ) (l : Literal) (gs : List LitSet) (ls : List Line) (hs : List LitSet) → l.letter ≤ 19 → AllByRecursion (λ x. ¬ Over 59 x) hs → ((r : Run) (i : ℕ) → Stand r i l gs → Stand r i l hs)
    → AllByRecursion (New (loop f l gs) g ls) (map (assumed l) hs)
assumed_new f g l gs ls [] h o w = tt
assumed_new f g l gs ls (x ∷ hs) h o w = (
  record { low = tt; narrow = narrow_assumed l h x o.0; sound = λ q. absurd (true≢false q); sound_here = λ q r i s a. (w r i a).0 },
  assumed_new f g l gs ls hs h o.1 (λ r i a. (w r i a).1),
)

-- the lines of a loop that is closed
nevers_new : (g : ℕ) (l : Literal) (ls : List Line) (ns : List ℕ) → l.letter ≤ 19 → AllByRecursion (Inside ls) ns → (hs : List LitSet) → AllByRecursion (λ x. ¬ Over 59 x) hs
    → ((r : Run) → AllByRecursion (RestsOn r g ls) ns → AllByRecursion (λ x. Keeps r (Never x l)) hs)
    → AllByRecursion (New sealed g ls) (map (nevers l ns) hs)
nevers_new g l ls ns h is [] o w = tt
nevers_new g l ls ns h is (x ∷ hs) o w = (
  record { low = is; narrow = narrow_never l h x o.0; sound = λ _ r s. (w r s).0; sound_here = λ q. absurd (false≢true q) },
  nevers_new g l ls ns h is hs o.1 (λ r s. (w r s).1),
)

cover_broken : (r : Run) (i : ℕ) (x : LitSet) (c : Clause) → ¬ NotGlobal c → next_of c ≡ none → Within (now_of c) x → Untrue r i x → Broken r i c
cover_broken r i x (Initial _) n e w u = absurd (n tt)
cover_broken r i x (Global a b) n e w u = (untrue_within r i a x w u, subst (Untrue r (i + 1)) (sym e) (untrue_none r (i + 1)))
cover_broken r i x (Eventuality _ _) n e w u = absurd (n tt)
cover_broken r i x (Assumption _) n e w u = absurd (n tt)
cover_broken r i x (Never _ _) n e w u = absurd (n tt)

stable : (r : Run) (A : ℕ → Type 0) (hs : List LitSet) → ¬ (¬ AllByRecursion (λ x. (i : ℕ) → Untrue r i x → ¬ A i) hs) → AllByRecursion (λ x. (i : ℕ) → Untrue r i x → ¬ A i) hs
stable r A [] n = tt
stable r A (x ∷ hs) n = (λ i u a. n (λ p. p.0 i u a), stable r A hs (λ q. n (λ p. q p.1)))

covered : (ls : List Line) (r : Run) (A : ℕ → Type 0) (k : ℕ) (ns : List ℕ) (hs : List LitSet) → length ns ≡ length hs
    → AllByRecursion (λ n. (¬ NotGlobal (clause_at ls n)) × ((i : ℕ) → A i → Unbroken r i (clause_at ls n))) ns
    → ¬ ((p : ℕ) × Unfit ls k ns hs p) → AllByRecursion (λ x. (i : ℕ) → Untrue r i x → ¬ A i) hs
covered ls r A k ns [] e a u = tt
covered ls r A k [] (x ∷ hs) e a u = absurd (omega arith)
covered ls r A k (n ∷ ns) (x ∷ hs) e a u = (
  λ i v b. u (k, inl ((λ f. a.0.1 i b (cover_broken r i x (clause_at ls n) a.0.0 f.0 f.1 v)), refl)),
  stable r A hs (λ q. u (k, inl ((λ f. q (covered ls r A (k + 1) ns hs (omega arith) a.1 (λ p. u (p.0, inr (f, p.1))))), refl))),
)

pub close_new : (f g : ℕ) (l : Literal) (gs : List LitSet) (ls : List Line) → Inv (loop f l gs) g ls → (ns : List ℕ) → length ns ≡ length gs
    → AllByRecursion (Inside ls) ns → AllByRecursion (λ n. ¬ Sleeps (loop f l gs) ls n) ns → AllByRecursion (λ n. ¬ NotGlobal (clause_at ls n)) ns → ¬ ((p : ℕ) × Unfit ls 1 ns gs p)
    → AllByRecursion (New sealed g ls) (map (nevers l ns) gs)
close_new f g l gs ls inv ns e is aw gl u = nevers_new g l ls ns inv.loop_small is gs inv.loop_narrow (λ r s. close_law r l inv.loop_small gs
    (covered ls r (λ i. Stand r i l gs) 1 ns gs e
    (All-weaker _ _ (λ n p. (p.0, λ i a. unbroken_here (loop f l gs) g ls inv n p.1.0 p.1.1.0 r i p.1.1.1 a)) ns
    (all_both _ _ ns gl (all_both _ _ ns is (all_both _ _ ns aw s)))) u))
