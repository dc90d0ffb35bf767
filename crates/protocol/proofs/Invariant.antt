-- What holds of the state after every call.
use Rattle.std.proofs.Common.{◌≡◌, ℕ, ◌+◌, ◌<◌, ◌≤◌, true, false, List, [], ◌∷◌, ◌++◌, length, sym, subst, ⊎_elim, arith}
use Rattle.std.proofs.lemmas.Bool.{cases_lt}
use Rattle.std.proofs.lemmas.List.{length-append, length_push}
use Rattle.std.proofs.ByRecursion.{All-weaker}
use Rattle.std.specs.List.{AllByRecursion}
use Rattle.clause.specs.Meaning.{Run, Unbroken, Keeps}
use Rattle.clause.specs.Sets.{Over, Narrow, literal_of}
use Rattle.protocol.proofs.Narrow.{small_of}
use Rattle.protocol.proofs.Laws.{Stand}
use Rattle.protocol.proofs.Lines.{old_line, new_line, Low, RestsOn, rests_old, rests_cited}
use Rattle.protocol.specs.State.{Line, Stage, intake, sealed, loop, line_at, clause_at, in_loop, guards_of, loop_literal}

abbrev pub IsIntake : Stage → Type 0
IsIntake intake = Unit {0}
IsIntake sealed = ⊥
IsIntake (loop _ _ _) = ⊥

-- the assumptions of the open loop stand at i
abbrev pub Stands : Run → ℕ → Stage → Type 0
Stands r i st = Stand r i (loop_literal st) (guards_of st)

abbrev pub Placed : Stage → ℕ → ℕ → Type 0
Placed intake g n = Unit {0}
Placed sealed g n = Unit {0}
Placed (loop f _ _) g n = (g < f) × (f ≤ n + 1)

pub record Inv (st : Stage) (g : ℕ) (ls : List Line) : Type 0 where
  pub fits : g ≤ length ls
  pub all_given : IsIntake st → g ≡ length ls
  pub low : Low ls
  pub narrow : (n : ℕ) → 1 ≤ n → n ≤ length ls → Narrow (clause_at ls n)
  pub sound : (n : ℕ) → 1 ≤ n → n ≤ length ls → (line_at ls n).resting ≡ false → (r : Run) → RestsOn r g ls n → Keeps r (clause_at ls n)
  pub sound_here : (n : ℕ) → 1 ≤ n → n ≤ length ls → (line_at ls n).resting ≡ true → in_loop st n ≡ true → (r : Run) (i : ℕ) → RestsOn r g ls n → Stands r i st → Unbroken r i (clause_at ls n)
  pub loop_small : (loop_literal st).letter ≤ 19
  pub loop_narrow : AllByRecursion (λ x. ¬ Over 59 x) (guards_of st)
  pub placed : Placed st g (length ls)

-- what a line must be to be added at a stage
pub record New (st : Stage) (g : ℕ) (ls : List Line) (x : Line) : Type 0 where
  pub low : AllByRecursion (λ m. (1 ≤ m) × (m ≤ length ls)) x.cites
  pub narrow : Narrow x.clause
  pub sound : x.resting ≡ false → (r : Run) → AllByRecursion (RestsOn r g ls) x.cites → Keeps r x.clause
  pub sound_here : x.resting ≡ true → (r : Run) (i : ℕ) → AllByRecursion (RestsOn r g ls) x.cites → Stands r i st → Unbroken r i x.clause

-- from st to st' with the lines xs added
module _ (st st' : Stage) (g : ℕ) (ls xs : List Line) (inv : Inv st g ls) (new : AllByRecursion (New st' g ls) xs) where
  at_new : (n : ℕ) → length ls < n → n ≤ length (ls ++ xs) → New st' g ls (line_at (ls ++ xs) n)
  at_new n h k = new_line ls xs (New st' g ls) n h k new

  rests_new : (r : Run) (n : ℕ) → length ls < n → n ≤ length (ls ++ xs) → RestsOn r g (ls ++ xs) n → AllByRecursion (RestsOn r g ls) (line_at (ls ++ xs) n).cites
  rests_new r n h k s = All-weaker _ _ (λ m. rests_old r g ls xs m inv.fits) _ (rests_cited r g (ls ++ xs) n (All-weaker _ _ (λ m b. omega arith) _ (at_new n h k).low) s)

  low_more : Low (ls ++ xs)
  low_more n h k = ⊎_elim
      (λ q. All-weaker _ _ (λ m b. (b.0, omega arith)) _ (at_new n q k).low)
      (λ q. subst (λ x. AllByRecursion (λ m. (1 ≤ m) × (m < n)) x.cites) (sym (old_line ls xs n h q)) (inv.low n h q))
      (cases_lt (length ls) n)

  narrow_more : (n : ℕ) → 1 ≤ n → n ≤ length (ls ++ xs) → Narrow (clause_at (ls ++ xs) n)
  narrow_more n h k = ⊎_elim
      (λ q. (at_new n q k).narrow)
      (λ q. subst (λ x. Narrow x.clause) (sym (old_line ls xs n h q)) (inv.narrow n h q))
      (cases_lt (length ls) n)

  sound_more : (n : ℕ) → 1 ≤ n → n ≤ length (ls ++ xs) → (line_at (ls ++ xs) n).resting ≡ false → (r : Run) → RestsOn r g (ls ++ xs) n → Keeps r (clause_at (ls ++ xs) n)
  sound_more n h k e r s = ⊎_elim
      (λ q. (at_new n q k).sound e r (rests_new r n q k s))
      (λ q. subst (λ x. x.resting ≡ false → Keeps r x.clause) (sym (old_line ls xs n h q)) (λ e'. inv.sound n h q e' r (rests_old r g ls xs n inv.fits s)) e)
      (cases_lt (length ls) n)

  here_more : ((n : ℕ) → n ≤ length ls → in_loop st' n ≡ true → (in_loop st n ≡ true) × ((r : Run) (i : ℕ) → Stands r i st' → Stands r i st))
      → (n : ℕ) → 1 ≤ n → n ≤ length (ls ++ xs) → (line_at (ls ++ xs) n).resting ≡ true → in_loop st' n ≡ true → (r : Run) (i : ℕ) → RestsOn r g (ls ++ xs) n → Stands r i st' → Unbroken r i (clause_at (ls ++ xs) n)
  here_more older n h k e l r i s a = ⊎_elim
      (λ q. (at_new n q k).sound_here e r i (rests_new r n q k s) a)
      (λ q. subst (λ x. x.resting ≡ true → Unbroken r i x.clause) (sym (old_line ls xs n h q))
      (λ e'. inv.sound_here n h q e' (older n q l).0 r i (rests_old r g ls xs n inv.fits s) ((older n q l).1 r i a)) e)
      (cases_lt (length ls) n)

  pub extended : ¬ IsIntake st'
      → ((n : ℕ) → n ≤ length ls → in_loop st' n ≡ true → (in_loop st n ≡ true) × ((r : Run) (i : ℕ) → Stands r i st' → Stands r i st))
      → (loop_literal st').letter ≤ 19 → AllByRecursion (λ x. ¬ Over 59 x) (guards_of st') → Placed st' g (length (ls ++ xs)) → Inv st' g (ls ++ xs)
  extended late older lit gu pl = record {
    fits = omega (arith, length-append ls xs, inv.fits);
    all_given = λ y. absurd (late y);
    low = low_more;
    narrow = narrow_more;
    sound = sound_more;
    sound_here = here_more older;
    loop_small = lit;
    loop_narrow = gu;
    placed = pl;
  }

placed_more : (st : Stage) (g m n : ℕ) → m ≤ n → Placed st g m → Placed st g n
placed_more intake g m n h p = tt
placed_more sealed g m n h p = tt
placed_more (loop f _ _) g m n h p = (p.0, omega arith)

-- one line more, at the same stage
pub pushed : (st : Stage) (g : ℕ) (ls : List Line) (x : Line) → Inv st g ls → ¬ IsIntake st → New st g ls x → Inv st g (ls ++ (x ∷ []))
pushed st g ls x inv late n =
    extended st st g ls (x ∷ []) inv (n, tt) late (λ k h e. (e, λ r i a. a)) inv.loop_small inv.loop_narrow
    (placed_more st g (length ls) _ (omega (arith, length_push ls x)) inv.placed)

pub small_at : {st : Stage} {g : ℕ} {ls : List Line} → Inv st g ls → (n : ℕ) → 1 ≤ n → n ≤ length ls → (literal_of (clause_at ls n)).letter ≤ 19
small_at {ls = ls} inv n h k = small_of (clause_at ls n) (inv.narrow n h k)
