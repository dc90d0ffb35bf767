-- Each call keeps the invariant, and after the intake leaves the given clauses alone.
use Rattle.std.proofs.Common.{◌≡◌, ℕ, ◌+◌, ◌-◌, ◌<◌, ◌≤◌, false, List, [], ◌∷◌, ◌++◌, map, length, take, sym, refl, ap, subst, inl, inr, ⊎_elim, arith}
use Rattle.std.proofs.lemmas.Bool.{cases_lt, cases_eq, leb-true, false≢true}
use Rattle.std.proofs.lemmas.List.{length-append, length-take-le, length_push}
use Rattle.std.specs.List.{AllByRecursion}
use Rattle.clause.specs.Meaning.{Keeps}
use Rattle.clause.specs.Refusals.{plain}
use Rattle.clause.specs.Sets.{Over, Narrow}
use Rattle.clause.specs.declared.refusal.Refusal.{Refusal}
use Rattle.clause.specs.declared.refusal.Refusal.TheVariants.{LetterRange, WrongCount, NoSuchLine, NotInForce, WrongKind, RestingEverywhere, LiteralsDiffer}
use Rattle.protocol.proofs.Narrow.{narrow_given}
use Rattle.clause.specs.declared.refusal.Fault.{Fault}
use Rattle.clause.specs.declared.syntax.Clause.{Clause}
use Rattle.clause.specs.declared.syntax.LitSet.{LitSet}
use Rattle.clause.specs.declared.syntax.Literal.{Literal}
use Rattle.protocol.proofs.Invariant.{IsIntake, Inv, New, extended, pushed}
use Rattle.protocol.proofs.Lines.{none_in, old_line, new_line, kept_line, rests_cut}
use Rattle.protocol.proofs.Rules.{inside, insides, infer_new, wait_new, wait_literal_new, draw_new, draw_alone_new, assumed_new, close_new}
use Rattle.protocol.specs.Answers.{Result, Answered, derived, assumed, nevers, Adds, Added}
use Rattle.protocol.specs.Calls.{Call, give, seal, infer, wait_line, wait_literal, open_loop, close, abandon, draw, draw_alone, refute, show, Answer, number, core, shown, refused, Exists}
use Rattle.protocol.specs.Causes.{if, NoneOf, causes, OverGiven, SomeOver}
use Rattle.protocol.specs.Cores.{itself}
use Rattle.protocol.specs.State.{Line, Stage, intake, sealed, loop, State, clause_at}

abbrev pub Frozen : State → State → Type 0
Frozen s t = (¬ IsIntake t.stage) × (t.given ≡ s.given) × ((n : ℕ) → 1 ≤ n → n ≤ s.given → clause_at t.lines n ≡ clause_at s.lines n)

pub record Next (s t : State) : Type 0 where
  pub holds : Inv t.stage t.given t.lines
  pub frozen : ¬ IsIntake s.stage → Frozen s t

pub not_due : (P : Type 0) (r : Refusal) → ((f : Fault) → ¬ if P r f) → ¬ P
not_due P r h p = h (plain r) (p, refl)

pub no_guard_over : (gs : List LitSet) → ¬ SomeOver gs → AllByRecursion (λ x. ¬ Over 59 x) gs
no_guard_over [] o = tt
no_guard_over (g ∷ gs) o = (λ z. o (inl z), no_guard_over gs (λ z. o (inr z)))

pub fresh_inv : Inv intake 0 []
fresh_inv = record {
  fits = omega arith;
  all_given = λ _. refl;
  low = λ n h k. absurd (omega arith);
  narrow = λ n h k. absurd (omega arith);
  sound = λ n h k. absurd (omega arith);
  sound_here = λ n h k. absurd (omega arith);
  loop_small = omega arith;
  loop_narrow = tt;
  placed = tt;
}

give_inv : (g : ℕ) (ls : List Line) (c : Clause) → Inv intake g ls → ¬ OverGiven c → Inv intake (g + 1) (ls ++ (derived c [] ∷ []))
give_inv g ls c inv o =
    let x = derived c [] in
    let e = inv.all_given tt in
    let f = length_push ls x in
    record {
      fits = omega arith;
      all_given = λ _. omega arith;
      low = λ n h k. ⊎_elim
          (λ q. new_line ls (x ∷ []) (λ y. AllByRecursion (λ m. (1 ≤ m) × (m < n)) y.cites) n q k (tt, tt))
          (λ q. subst (λ y. AllByRecursion (λ m. (1 ≤ m) × (m < n)) y.cites) (sym (old_line ls (x ∷ []) n h q)) (inv.low n h q))
          (cases_lt (length ls) n);
      narrow = λ n h k. ⊎_elim
          (λ q. new_line ls (x ∷ []) (λ y. Narrow y.clause) n q k (narrow_given c o, tt))
          (λ q. subst (λ y. Narrow y.clause) (sym (old_line ls (x ∷ []) n h q)) (inv.narrow n h q))
          (cases_lt (length ls) n);
      sound = λ n h k _ r s. s n h (omega arith) itself;
      sound_here = λ n h k _ q. absurd (false≢true q);
      loop_small = omega arith;
      loop_narrow = tt;
      placed = tt;
    }

seal_inv : (g : ℕ) (ls : List Line) → Inv intake g ls → Inv sealed g ls
seal_inv g ls inv = record {
  fits = inv.fits;
  all_given = λ y. absurd y;
  low = inv.low;
  narrow = inv.narrow;
  sound = inv.sound;
  sound_here = λ n h k _ q. absurd (false≢true q);
  loop_small = omega arith;
  loop_narrow = tt;
  placed = tt;
}

cut_inv : (f g : ℕ) (l : Literal) (gs : List LitSet) (ls : List Line) → Inv (loop f l gs) g ls → Inv sealed g (take (f - 1) ls)
cut_inv f g l gs ls inv =
    let p : g < f = inv.placed.0 in
    let p' : f ≤ length ls + 1 = inv.placed.1 in
    let c = f - 1 in
    let q : c ≤ length ls = omega arith in
    let e = length-take-le c ls q in
    record {
      fits = omega arith;
      all_given = λ y. absurd y;
      low = λ n h k. let k' : n ≤ c = omega arith in subst (λ y. AllByRecursion (λ m. (1 ≤ m) × (m < n)) y.cites) (sym (kept_line ls c q n h k')) (inv.low n h (omega arith));
      narrow = λ n h k. let k' : n ≤ c = omega arith in subst (λ y. Narrow y.clause) (sym (kept_line ls c q n h k')) (inv.narrow n h (omega arith));
      sound = λ n h k z r s. let k' : n ≤ c = omega arith in
          subst (λ y. y.resting ≡ false → Keeps r y.clause) (sym (kept_line ls c q n h k'))
          (λ z'. inv.sound n h (omega arith) z' r (rests_cut r g ls c n q (omega arith) inv.low h k' s)) z;
      sound_here = λ n h k _ y. absurd (false≢true y);
      loop_small = omega arith;
      loop_narrow = tt;
      placed = tt;
    }

-- the given clauses stand where lines are added
added_next : (st st' : Stage) (g : ℕ) (ls xs : List Line) → Inv st g ls → ¬ IsIntake st' → Inv st' g (ls ++ xs)
    → Next (record { stage = st; given = g; lines = ls }) (record { stage = st'; given = g; lines = ls ++ xs })
added_next st st' g ls xs inv late inv' = record {
  holds = inv';
  frozen = λ _. (late, refl, λ n h k. let f = inv.fits in ap (λ y. y.clause) (old_line ls xs n h (omega arith)));
}

pushed_next : (st : Stage) (g : ℕ) (ls : List Line) (x : Line) → Inv st g ls → ¬ IsIntake st → New st g ls x
    → Next (record { stage = st; given = g; lines = ls }) (record { stage = st; given = g; lines = ls ++ (x ∷ []) })
pushed_next st g ls x inv late n = added_next st st g ls (x ∷ []) inv late (pushed st g ls x inv late n)

-- a call that adds a line
added_step : (st : Stage) (g : ℕ) (ls : List Line) (c : Call) (a : Answer) (t : State) → Inv st g ls → ¬ IsIntake st → Added (record { stage = st; given = g; lines = ls }) c a t
    → ((y : Line) → Adds (record { stage = st; given = g; lines = ls }) c y → New st g ls y) → Next (record { stage = st; given = g; lines = ls }) t
added_step st g ls c a t inv late q f = subst (Next _) (sym q.3) (pushed_next st g ls q.0 inv late (f q.0 q.1))

same_next : (s : State) → Inv s.stage s.given s.lines → Next s s
same_next s inv = record { holds = inv; frozen = λ late. (late, refl, λ _ _ _. refl) }

accepted : (st : Stage) (g : ℕ) (ls : List Line) (c : Call) (a : Answer) (t : State) → Inv st g ls → Exists st c
    → NoneOf (causes (record { stage = st; given = g; lines = ls }) c) → Result (record { stage = st; given = g; lines = ls }) c a t
    → Next (record { stage = st; given = g; lines = ls }) t
accepted intake g ls (give c) a t inv x n q = subst (Next _) (sym q.1) (record { holds = give_inv g ls c inv (not_due _ LetterRange n.0); frozen = λ late. absurd (late tt) })
accepted intake g ls seal a t inv x n q = subst (Next _) (sym q.1) (record { holds = seal_inv g ls inv; frozen = λ late. absurd (late tt) })
accepted intake g ls (infer _ _) a t inv x n q = absurd x
accepted intake g ls (wait_line _) a t inv x n q = absurd x
accepted intake g ls (wait_literal _) a t inv x n q = absurd x
accepted intake g ls (open_loop _ _) a t inv x n q = absurd x
accepted intake g ls (close _) a t inv x n q = absurd x
accepted intake g ls abandon a t inv x n q = absurd x
accepted intake g ls (draw _ _) a t inv x n q = absurd x
accepted intake g ls (draw_alone _) a t inv x n q = absurd x
accepted intake g ls (refute _ _) a t inv x n q = absurd x
accepted intake g ls (show _) a t inv x n q = absurd x
accepted sealed g ls (give _) a t inv x n q = absurd x
accepted sealed g ls seal a t inv x n q = absurd x
accepted sealed g ls (infer b ns) a t inv x n q = added_step sealed g ls (infer b ns) a t inv (λ y. y) q (λ y w. subst (New sealed g ls) (sym w.3)
    (infer_new sealed g ls inv b ns w.0 w.1 w.2 (insides sealed g ls ns (not_due _ NoSuchLine n.1.0)) (none_in _ ns (not_due _ NotInForce n.1.1.0))
    (λ v. not_due _ RestingEverywhere n.1.1.1.1.0 (w.0, w.1, w.2, v))))
accepted sealed g ls (wait_line m) a t inv x n q = added_step sealed g ls (wait_line m) a t inv (λ y. y) q (λ y w. subst (New sealed g ls) (sym w)
    (wait_new g ls inv m (inside sealed g ls m (λ o. not_due _ NoSuchLine n.0 (inl o))) (λ o. not_due _ NotInForce n.1.0 (inl o)) (not_due _ WrongKind n.1.1.0)))
accepted sealed g ls (wait_literal l) a t inv x n q = added_step sealed g ls (wait_literal l) a t inv (λ y. y) q (λ y w. subst (New sealed g ls) (sym w)
    (let h : ¬ (19 < l.letter) = not_due _ LetterRange n.0 in wait_literal_new g ls inv l (omega arith)))
accepted sealed g ls (open_loop l gs) a t inv x n q = subst (Next _) (sym q.1) (added_next sealed (loop (length ls + 1) l gs) g ls (map (assumed l) gs) inv (λ y. y)
    (extended sealed (loop (length ls + 1) l gs) g ls (map (assumed l) gs) inv
    (assumed_new (length ls + 1) g l gs ls gs (let h : ¬ (19 < l.letter) = λ p. not_due _ LetterRange n.0 (inl p) in omega arith) (no_guard_over gs (λ p. not_due _ LetterRange n.0 (inr p))) (λ r i s. s)) (λ y. y)
    (λ m h e. absurd (omega (arith, leb-true (length ls + 1) m e)))
    (let h : ¬ (19 < l.letter) = λ p. not_due _ LetterRange n.0 (inl p) in omega arith) (no_guard_over gs (λ p. not_due _ LetterRange n.0 (inr p)))
    (let f = inv.fits in let w = length-append ls (map (assumed l) gs) in (omega arith, omega arith))))
accepted sealed g ls (close _) a t inv x n q = absurd x
accepted sealed g ls abandon a t inv x n q = absurd x
accepted sealed g ls (draw k m) a t inv x n q = added_step sealed g ls (draw k m) a t inv (λ y. y) q (λ y w. subst (New sealed g ls) (sym w)
    (draw_new g ls inv k m
    (inside sealed g ls k (λ o. not_due _ NoSuchLine n.0 (inl o))) (inside sealed g ls m (λ o. not_due _ NoSuchLine n.0 (inr (inl o))))
    (λ o. not_due _ NotInForce n.1.0 (inl o)) (λ o. not_due _ NotInForce n.1.0 (inr (inl o)))
    (λ o. not_due _ WrongKind n.1.1.0 (inl o)) (λ o. not_due _ WrongKind n.1.1.0 (inr o))
    (not_due _ LiteralsDiffer n.1.1.1.0)))
accepted sealed g ls (draw_alone m) a t inv x n q = added_step sealed g ls (draw_alone m) a t inv (λ y. y) q (λ y w. subst (New sealed g ls) (sym w)
    (draw_alone_new g ls inv m (inside sealed g ls m (λ o. not_due _ NoSuchLine n.0 (inl o))) (λ o. not_due _ NotInForce n.1.0 (inl o)) (not_due _ WrongKind n.1.1.0)))
accepted sealed g ls (refute _ _) a t inv x n q = subst (Next _) (sym q.3) (same_next _ inv)
accepted sealed g ls (show _) a t inv x n q = subst (Next _) (sym q.1) (same_next _ inv)
accepted (loop f l gs) g ls (give _) a t inv x n q = absurd x
accepted (loop f l gs) g ls seal a t inv x n q = absurd x
accepted (loop f l gs) g ls (infer b ns) a t inv x n q = added_step (loop f l gs) g ls (infer b ns) a t inv (λ y. y) q (λ y w. subst (New (loop f l gs) g ls) (sym w.3)
    (infer_new (loop f l gs) g ls inv b ns w.0 w.1 w.2 (insides (loop f l gs) g ls ns (not_due _ NoSuchLine n.1.0)) (none_in _ ns (not_due _ NotInForce n.1.1.0))
    (λ v. not_due _ RestingEverywhere n.1.1.1.1.0 (w.0, w.1, w.2, v))))
accepted (loop f l gs) g ls (wait_line _) a t inv x n q = absurd x
accepted (loop f l gs) g ls (wait_literal _) a t inv x n q = absurd x
accepted (loop f l gs) g ls (open_loop _ _) a t inv x n q = absurd x
accepted (loop f l gs) g ls (close ns) a t inv x n q = subst (Next _) (sym q.1) (added_next (loop f l gs) sealed g ls (map (nevers l ns) gs) inv (λ y. y)
    (extended (loop f l gs) sealed g ls (map (nevers l ns) gs) inv
    (close_new f g l gs ls inv ns (⊎_elim (λ e. e) (λ e. absurd (not_due _ WrongCount n.0 e)) (cases_eq (length ns) (length gs)))
    (insides (loop f l gs) g ls ns (not_due _ NoSuchLine n.1.0)) (none_in _ ns (not_due _ NotInForce n.1.1.0)) (none_in _ ns (not_due _ WrongKind n.1.1.1.0))
    (λ p. n.1.1.1.1.0 _ (p.0, p.1, refl)))
    (λ y. y) (λ m h e. absurd (false≢true e)) (omega arith) tt tt))
accepted (loop f l gs) g ls abandon a t inv x n q = subst (Next _) (sym q.1) (record {
  holds = cut_inv f g l gs ls inv;
  frozen = λ _. (
    (λ y. y),
    refl,
    λ n h k. let p : g < f = inv.placed.0 in let p' : f ≤ length ls + 1 = inv.placed.1 in
        ap (λ y. y.clause) (kept_line ls (f - 1) (omega arith) n h (omega arith)),
  );
})
accepted (loop f l gs) g ls (draw _ _) a t inv x n q = absurd x
accepted (loop f l gs) g ls (draw_alone _) a t inv x n q = absurd x
accepted (loop f l gs) g ls (refute _ _) a t inv x n q = absurd x
accepted (loop f l gs) g ls (show _) a t inv x n q = absurd x

pub step : (s : State) (c : Call) (a : Answer) (t : State) → Inv s.stage s.given s.lines → Exists s.stage c → Answered s c a t → Next s t
step s c (refused f) t inv x q = subst (Next s) (sym q.1) (same_next s inv)
step s c (number n) t inv x q = accepted s.stage s.given s.lines c (number n) t inv x q.0 q.1
step s c (core row n) t inv x q = accepted s.stage s.given s.lines c (core row n) t inv x q.0 q.1
step s c (shown i n) t inv x q = accepted s.stage s.given s.lines c (shown i n) t inv x q.0 q.1
