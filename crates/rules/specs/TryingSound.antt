-- That a trial is a book: what it gives follows, since no choice is a counterexample.
use Rattle.std.specs.Prelude.{◌≡◌, ℕ, zero, suc, ◌+◌, ◌*◌, ◌/◌, ◌%◌, ◌^◌, ◌<◌, ◌≤◌, min, Bool, true, false, cond, not, ◌&&◌, ◌||◌, List, [], ◌∷◌, length, replicate, Some, ◌==◌, ◌≢◌, bit_or, nat_le, nat_lt, refl}
use Rattle.std.proofs.Common.{sym, ap, subst, ◌∙◌, inl, inr, ⊎_elim, arith}
use Rattle.std.proofs.Math.Nat.{pow-succ'}
use Rattle.std.specs.Int.Bits.{bit_and}
use Rattle.std.proofs.lemmas.Nat.{and_le_l, and_le_r}
use Rattle.std.proofs.lemmas.List.{length-replicate}
use Rattle.std.specs.List.{AllByRecursion}
use Rattle.std.proofs.lemmas.Bool.{cond_both, cond-true, and_parts, and_from, and_cases, or_cases, or_left, or_right, or_parts, not-true, not-false, not_from_false, eqb-true, eqb-false, eq-eqb, ltb-true, ltb-false, lt-ltb, cases_Bool, cases_lt, cases_eq, both_ways}
use Rattle.clause.specs.declared.syntax.LitSet.{LitSet}
use Rattle.clause.specs.declared.syntax.Clause.{Clause}
use Rattle.clause.specs.declared.syntax.Clause.TheVariants.{Initial, Global, Eventuality, Assumption, Never}
use Rattle.clause.specs.declared.refusal.Refusal.{Refusal}
use Rattle.clause.specs.declared.refusal.Refusal.TheVariants.{LetterRange, WrongCount}
use Rattle.clause.specs.Bit.{bit, In}
use Rattle.clause.specs.Tests.{Tells}
use Rattle.clause.specs.Meaning.{Run, LetterTrue, Untrue, Broken, Unbroken}
use Rattle.clause.specs.Sets.{Over, letters_of, reaches, now_of, next_of}
use Rattle.clause.proofs.Telling.{tells, tells_eqb}
use Rattle.clause.proofs.Masks.{bit-bit_and, bit_lt, bit_zero, bit_suc, zero_bit, bits_same, within_from, within_to, in_left, in_right, in_below, shifted_some}
use Rattle.rules.specs.declared.trial.Claim.{Claim}
use Rattle.rules.specs.Kinds.{Ever}
use Rattle.rules.specs.Books.{Consult, here, Used}
use Rattle.rules.specs.BookLaws.{Right, right_sound, Early}
use Rattle.rules.specs.Trying.{claimed, Choice, Fails, Breaks, BreaksOne, Follows, Refuted, atoms}
use Rattle.rules.specs.Deciding.{letters_with, now_atoms, next_atoms, untrue_at, broken_at, one_broken_at, counter_at, Sub, some_to, countered, is_ever, all_ever, wide_claim, early_trial, suited, late_trial}

-- numbers up to a bound
pub some_from : (n : ℕ) (p : ℕ → Bool) → some_to n p ≡ true → (k : ℕ) × (k ≤ n) × (p k ≡ true)
unfolding some_to
some_from zero p e = (0, omega arith, e)
some_from (suc n) p e = ⊎_elim (λ h. (suc n, omega arith, h)) (λ h. let w = some_from n p h in (w.0, omega (arith, w.1), w.2)) (or_cases (p (suc n)) (some_to n p) e)

pub some_for : (n : ℕ) (p : ℕ → Bool) (k : ℕ) → k ≤ n → p k ≡ true → some_to n p ≡ true
unfolding some_to
some_for zero p k h e = subst (λ m. p m ≡ true) (let z : k ≡ 0 = omega arith in z) e
some_for (suc n) p k h e = ⊎_elim
    (λ z. or_left (p (suc n)) (some_to n p) (subst (λ m. p m ≡ true) z e))
    (λ z. or_right (p (suc n)) (some_to n p) (some_for n p k (omega arith) e))
    (cases_eq k (suc n))

-- a bound on a number's letters
pub below_power : (n : ℕ) → n < 2 ^ n
below_power zero = omega arith
below_power (suc n) = omega (arith, below_power n, pow-succ' 2 n)

-- the letters of a set are in a mask
abbrev pub Among : ℕ → LitSet → Type 0
Among m s = (k : ℕ) → (In k s.plus → In k m) × (In k s.minus → In k m)

-- a mask agrees with a choice on the letters of m
abbrev pub Agrees : ℕ → ℕ → Choice → Type 0
Agrees m x v = (k : ℕ) → In k m → Tells (v k) (In k x)

told : (b : Bool) (P : Type 0) → Tells b P → b ≡ true → P
told b P t e = subst (λ c. Tells c P) e t

untold : (b : Bool) (P : Type 0) → Tells b P → b ≡ false → ¬ P
untold b P t e = subst (λ c. Tells c P) e t

pub fails_from : (m x : ℕ) (v : Choice) (s : LitSet) → Among m s → Agrees m x v → untrue_at x s ≡ true → Fails v s
fails_from m x v s a g e k =
    let q = and_parts (bit_and s.plus x == 0) (bit_and s.minus x == s.minus) e in (
      λ h. ⊎_elim (λ t. let i = told (v k) (In k x) (g k ((a k).0 h)) t in absurd (omega (arith, bit-bit_and s.plus x k, ap (λ n. bit n k) (eqb-true _ _ q.0), zero_bit k)))
          (λ t. t) (cases_Bool (v k)),
      λ h. ⊎_elim (λ t. t) (λ t. absurd (untold (v k) (In k x) (g k ((a k).1 h)) t (within_from s.minus x (eqb-true _ _ q.1) k h))) (cases_Bool (v k)),
    )

low : (p q : ℕ) → q < 2 → (q ≢ 1) → min p q ≡ 0
low p q h n = omega arith

low_left : (p q : ℕ) → p < 2 → (p ≢ 1) → min p q ≡ 0
low_left p q h n = omega arith

pub fails_to : (m x : ℕ) (v : Choice) (s : LitSet) → Among m s → Agrees m x v → Fails v s → untrue_at x s ≡ true
fails_to m x v s a g f = and_from _ _
    (eq-eqb _ _ (bits_same s.plus (bit_and s.plus x) 0 (omega (arith, and_le_l s.plus x, below_power s.plus)) (omega (arith, below_power s.plus)) (λ k.
    bit-bit_and s.plus x k ∙ ⊎_elim
    (λ h. low (bit s.plus k) (bit x k) (bit_lt x k) (untold (v k) (In k x) (g k ((a k).0 h)) ((f k).0 h)) ∙ sym (zero_bit k))
    (λ h. low_left (bit s.plus k) (bit x k) (bit_lt s.plus k) h ∙ sym (zero_bit k))
    (cases_eq (bit s.plus k) 1))))
    (eq-eqb _ _ (within_to s.minus s.minus x (below_power s.minus) (λ k h. told (v k) (In k x) (g k ((a k).1 h)) ((f k).1 h))))

-- a mask and a choice break a line alike
abbrev pub Alike : ℕ → ℕ → Choice → Choice → Clause → Type 0
Alike x y v w c = (broken_at x y c ≡ true → Breaks v w c) × (Breaks v w c → broken_at x y c ≡ true)

alike : (m n x y : ℕ) (v w : Choice) (c : Clause) → Among m (now_of c) → Among n (next_of c) → Agrees m x v → Agrees n y w → Alike x y v w c
alike m n x y v w c a b g h = (
  λ e. let q = and_parts (untrue_at x (now_of c)) (untrue_at y (next_of c)) e in (fails_from m x v (now_of c) a g q.0, fails_from n y w (next_of c) b h q.1),
  λ f. and_from _ _ (fails_to m x v (now_of c) a g f.0) (fails_to n y w (next_of c) b h f.1),
)

one_from : (x y : ℕ) (v w : Choice) (cs : List Clause) → AllByRecursion (Alike x y v w) cs → one_broken_at x y cs ≡ true → BreaksOne v w cs
one_from x y v w [] a e = cc
one_from x y v w (c ∷ cs) a e = ⊎_elim (λ h. inl (a.0.0 h)) (λ h. inr (one_from x y v w cs a.1 h)) (or_cases (broken_at x y c) (one_broken_at x y cs) e)

one_to : (x y : ℕ) (v w : Choice) (cs : List Clause) → AllByRecursion (Alike x y v w) cs → BreaksOne v w cs → one_broken_at x y cs ≡ true
one_to x y v w [] a b = absurd b
one_to x y v w (c ∷ cs) a (inl b) = or_left (broken_at x y c) (one_broken_at x y cs) (a.0.1 b)
one_to x y v w (c ∷ cs) a (inr b) = or_right (broken_at x y c) (one_broken_at x y cs) (one_to x y v w cs a.1 b)

-- the letters of the claim and of each line are atoms
kept : (part : Clause → LitSet) (m k : ℕ) (cs : List Clause) → In k m → In k (letters_with part m cs)
kept part m k [] h = h
kept part m k (c ∷ cs) h = kept part (bit_or m (letters_of (part c))) k cs (in_left m (letters_of (part c)) k h)

among_own : (s : LitSet) → Among (letters_of s) s
among_own s k = (in_left s.plus s.minus k, in_right s.plus s.minus k)

among_more : (m n : ℕ) (s : LitSet) → ((k : ℕ) → In k m → In k n) → Among m s → Among n s
among_more m n s f a k = (λ h. f k ((a k).0 h), λ h. f k ((a k).1 h))

among_lines : (part : Clause → LitSet) (m : ℕ) (cs : List Clause) → AllByRecursion (λ c. Among (letters_with part m cs) (part c)) cs
among_lines part m [] = tt
among_lines part m (c ∷ cs) = let l = letters_of (part c) in
    (among_more l (letters_with part (bit_or m l) cs) (part c) (λ k h. kept part (bit_or m l) k cs (in_right m l k h)) (among_own (part c)), among_lines part (bit_or m l) cs)

among_first : (part : Clause → LitSet) (s : LitSet) (cs : List Clause) → Among (letters_with part (letters_of s) cs) s
among_first part s cs = among_more (letters_of s) (letters_with part (letters_of s) cs) s (λ k h. kept part (letters_of s) k cs h) (among_own s)

all_alike : (m n x y : ℕ) (v w : Choice) (cs : List Clause) → Agrees m x v → Agrees n y w → AllByRecursion (λ c. Among m (now_of c)) cs → AllByRecursion (λ c. Among n (next_of c)) cs → AllByRecursion (Alike x y v w) cs
all_alike m n x y v w [] g h a b = tt
all_alike m n x y v w (c ∷ cs) g h a b = (alike m n x y v w c a.0 b.0 g h, all_alike m n x y v w cs g h a.1 b.1)

-- a mask as a choice
abbrev pub choice_of : ℕ → Choice
choice_of x k = bit x k == 1

own_alike : (x y : ℕ) (c : Clause) → Alike x y (choice_of x) (choice_of y) c
own_alike x y c = alike (letters_of (now_of c)) (letters_of (next_of c)) x y (choice_of x) (choice_of y) c (among_own (now_of c)) (among_own (next_of c)) (λ k _. tells_eqb (bit x k) 1) (λ k _. tells_eqb (bit y k) 1)

own_all : (x y : ℕ) (cs : List Clause) → AllByRecursion (Alike x y (choice_of x) (choice_of y)) cs
own_all x y [] = tt
own_all x y (c ∷ cs) = (own_alike x y c, own_all x y cs)

-- a counterexample by masks is one by choices
pub refuted_from : (x y : ℕ) (c : Clause) (cs : List Clause) → counter_at x y c cs ≡ true → Refuted cs c
refuted_from x y c cs e = let q = and_parts (broken_at x y c) (not (one_broken_at x y cs)) e in
    (choice_of x, choice_of y, (own_alike x y c).0 q.0, λ b. both_ways _ (not-true _ q.1) (one_to x y (choice_of x) (choice_of y) cs (own_all x y cs) b))

-- a choice as a mask of the letters of a
abbrev pub pick : ℕ → ℕ → Choice → ℕ
pick zero a v = 0
pick (suc n) a v = cond (v 0) (a % 2) 0 + 2 * pick n (a / 2) (λ k. v (suc k))

part_le : (b : Bool) (n : ℕ) → cond b n 0 ≤ n
part_le true n = omega arith
part_le false n = omega arith

pub pick_le : (n a : ℕ) (v : Choice) → pick n a v ≤ a
pick_le zero a v = omega arith
pick_le (suc n) a v = omega (arith, part_le (v 0) (a % 2), pick_le n (a / 2) (λ k. v (suc k)))

pick_bit : (n a : ℕ) (v : Choice) (k : ℕ) → a < 2 ^ n → bit (pick n a v) k ≡ cond (v k) (bit a k) 0
pick_bit zero a v k h = zero_bit k ∙ cond_both (v k) (bit a k) 0 (λ m. 0 ≡ m) (λ _. let z : a ≡ 0 = omega arith in sym (ap (λ m. bit m k) z ∙ zero_bit k)) (λ _. refl)
pick_bit (suc n) a v zero h = bit_zero (pick (suc n) a v) ∙ omega (arith, part_le (v 0) (a % 2)) ∙ ap (λ m. cond (v 0) m 0) (sym (bit_zero a))
pick_bit (suc n) a v (suc k) h =
    let w = pow-succ' 2 n in
    let p = pick n (a / 2) (λ j. v (suc j)) in
    let half : pick (suc n) a v / 2 ≡ p = omega (arith, part_le (v 0) (a % 2)) in
    bit_suc (pick (suc n) a v) k ∙ ap (λ m. bit m k) half ∙ pick_bit n (a / 2) (λ j. v (suc j)) k (omega arith) ∙ ap (λ m. cond (v (suc k)) m 0) (sym (bit_suc a k))

pub pick_agrees : (a : ℕ) (v : Choice) → Agrees a (pick a a v) v
pick_agrees a v k h = tells (v k) _
    (λ t. pick_bit a a v k (below_power a) ∙ ap (λ b. cond b (bit a k) 0) t ∙ h)
    (λ t i. omega (arith, sym (pick_bit a a v k (below_power a) ∙ ap (λ b. cond b (bit a k) 0) t) ∙ i))

pub pick_sub : (a : ℕ) (v : Choice) → Sub (pick a a v) a
pick_sub a v = within_to a (pick a a v) a (omega (arith, pick_le a a v, below_power a)) (λ k i.
    ⊎_elim (λ t. sym (pick_bit a a v k (below_power a) ∙ ap (λ b. cond b (bit a k) 0) t) ∙ i)
    (λ t. absurd (omega (arith, sym (pick_bit a a v k (below_power a) ∙ ap (λ b. cond b (bit a k) 0) t) ∙ i)))
    (cases_Bool (v k)))

-- a counterexample by choices is one by masks of the atoms
pub counter_to : (e : Claim) (cs : List Clause) (v w : Choice) → Breaks v w (claimed e) → (one_broken_at (pick (now_atoms e cs) (now_atoms e cs) v) (pick (next_atoms e cs) (next_atoms e cs) w) cs ≡ false)
    → counter_at (pick (now_atoms e cs) (now_atoms e cs) v) (pick (next_atoms e cs) (next_atoms e cs) w) (claimed e) cs ≡ true
counter_to e cs v w b f = let a = now_atoms e cs in let n = next_atoms e cs in
    and_from _ _ ((alike a n (pick a a v) (pick n n w) v w (claimed e) (among_first now_of e.now cs) (among_first next_of e.next cs) (pick_agrees a v) (pick_agrees n w)).1 b) (not_from_false _ f)

picked_alike : (e : Claim) (cs : List Clause) (v w : Choice) → AllByRecursion (Alike (pick (now_atoms e cs) (now_atoms e cs) v) (pick (next_atoms e cs) (next_atoms e cs) w) v w) cs
picked_alike e cs v w = let a = now_atoms e cs in let n = next_atoms e cs in
    all_alike a n (pick a a v) (pick n n w) v w cs (pick_agrees a v) (pick_agrees n w) (among_lines now_of (letters_of e.now) cs) (among_lines next_of (letters_of e.next) cs)

pub masks_from : (e : Claim) (cs : List Clause) → Refuted cs (claimed e) → (y : ℕ) × Sub y (next_atoms e cs) × (x : ℕ) × Sub x (now_atoms e cs) × (counter_at x y (claimed e) cs ≡ true)
masks_from e cs (v, w, b, n) = let a = now_atoms e cs in let d = next_atoms e cs in
    (pick d d w, pick_sub d w, pick a a v, pick_sub a v, counter_to e cs v w b (⊎_elim (λ t. absurd (n (one_from _ _ v w cs (picked_alike e cs v w) t))) (λ t. t) (cases_Bool (one_broken_at (pick a a v) (pick d d w) cs))))

counted : (a b x y : ℕ) (c : Clause) (cs : List Clause) → x ≤ a → y ≤ b → counter_at x y c cs ≡ true → countered a b c cs ≡ true
counted a b x y c cs h g e = some_for b _ y g (some_for a (λ x. counter_at x y c cs) x h e)

sub_le : (x a : ℕ) → Sub x a → x ≤ a
sub_le x a e = omega (arith, and_le_r x a)

pub countered_for : (e : Claim) (cs : List Clause) (x y : ℕ) → Sub x (now_atoms e cs) → Sub y (next_atoms e cs) → counter_at x y (claimed e) cs ≡ true → countered (now_atoms e cs) (next_atoms e cs) (claimed e) cs ≡ true
countered_for e cs x y p q t = counted (now_atoms e cs) (next_atoms e cs) x y (claimed e) cs (sub_le x (now_atoms e cs) p) (sub_le y (next_atoms e cs) q) t

pub countered_from : (a b : ℕ) (c : Clause) (cs : List Clause) → countered a b c cs ≡ true → Refuted cs c
countered_from a b c cs t = let p = some_from b _ t in let q = some_from a (λ x. counter_at x p.0 c cs) p.2 in refuted_from q.0 p.0 c cs q.2

-- where no choice is a counterexample the claim follows
pub follows_from : (e : Claim) (cs : List Clause) → countered (now_atoms e cs) (next_atoms e cs) (claimed e) cs ≡ false → Follows cs (claimed e)
follows_from e cs t v w b = let a = now_atoms e cs in let d = next_atoms e cs in
    ⊎_elim (λ h. one_from _ _ v w cs (picked_alike e cs v w) h)
    (λ h. absurd (both_ways _ t (countered_for e cs (pick a a v) (pick d d w) (pick_sub a v) (pick_sub d w) (counter_to e cs v w b h))))
    (cases_Bool (one_broken_at (pick a a v) (pick d d w) cs))

-- At a moment of a run the letters may be undecided, but not for the worse: what fails for every choice fails.
abbrev put : Choice → ℕ → Bool → Choice
put v n b k = cond (k == n) b (v k)

put_tells : (v : Choice) (n : ℕ) (b : Bool) (P : ℕ → Type 0) → ((k : ℕ) → k < n → Tells (v k) (P k)) → Tells b (P n) → (k : ℕ) → k < suc n → Tells (put v n b k) (P k)
put_tells v n b P h t k l = cond_both (k == n) b (v k) (λ c. Tells c (P k))
    (λ e. subst (λ m. Tells b (P m)) (sym (eqb-true k n e)) t)
    (λ e. ⊎_elim (λ g. h k g) (λ g. absurd (eqb-false k n e (omega arith))) (cases_lt k n))

decided : (n : ℕ) (P : ℕ → Type 0) → ((v : Choice) → ((k : ℕ) → k < n → Tells (v k) (P k)) → ⊥) → ⊥
decided zero P f = f (λ _. false) (λ k h. absurd (omega arith))
decided (suc n) P f = decided n P (λ v h. f (put v n false) (put_tells v n false P h (λ p. f (put v n true) (put_tells v n true P h p))))

untrue_fails : (m : ℕ) (r : Run) (i : ℕ) (v : Choice) (s : LitSet) → Among m s → ((k : ℕ) → In k m → Tells (v k) (LetterTrue r i k)) → Untrue r i s → Fails v s
untrue_fails m r i v s a g u k = (
  λ h. ⊎_elim (λ t. absurd ((u k).0 h (told (v k) (LetterTrue r i k) (g k ((a k).0 h)) t))) (λ t. t) (cases_Bool (v k)),
  λ h. ⊎_elim (λ t. t) (λ t. absurd ((u k).1 h (untold (v k) (LetterTrue r i k) (g k ((a k).1 h)) t))) (cases_Bool (v k)),
)

fails_untrue : (m : ℕ) (r : Run) (i : ℕ) (v : Choice) (s : LitSet) → Among m s → ((k : ℕ) → In k m → Tells (v k) (LetterTrue r i k)) → Fails v s → Untrue r i s
fails_untrue m r i v s a g f k = (
  λ h. untold (v k) (LetterTrue r i k) (g k ((a k).0 h)) ((f k).0 h),
  λ h n. n (told (v k) (LetterTrue r i k) (g k ((a k).1 h)) ((f k).1 h)),
)

broken_ever : (r : Run) (i : ℕ) (c : Clause) → Ever c → Untrue r i (now_of c) → Untrue r (i + 1) (next_of c) → Broken r i c
broken_ever r i (Initial _) p u t = absurd p
broken_ever r i (Global _ _) p u t = (u, t)
broken_ever r i (Eventuality _ _) p u t = absurd p
broken_ever r i (Assumption _) p u t = t
broken_ever r i (Never _ _) p u t = absurd p

none_breaks : (m n : ℕ) (r : Run) (i : ℕ) (v w : Choice) (cs : List Clause) → AllByRecursion Ever cs → AllByRecursion (λ c. Among m (now_of c)) cs → AllByRecursion (λ c. Among n (next_of c)) cs
    → ((k : ℕ) → In k m → Tells (v k) (LetterTrue r i k)) → ((k : ℕ) → In k n → Tells (w k) (LetterTrue r (i + 1) k)) → Used r i cs (replicate (length cs) here) → BreaksOne v w cs → ⊥
none_breaks m n r i v w [] p a b g h u o = o
none_breaks m n r i v w (c ∷ cs) p a b g h u (inl o) = u.0 (broken_ever r i c p.0 (fails_untrue m r i v (now_of c) a.0 g o.0) (fails_untrue n r (i + 1) w (next_of c) b.0 h o.1))
none_breaks m n r i v w (c ∷ cs) p a b g h u (inr o) = none_breaks m n r i v w cs p.1 a.1 b.1 g h u.1 o

pub follows_sound : (e : Claim) (cs : List Clause) → AllByRecursion Ever cs → Follows cs (claimed e) → (r : Run) (i : ℕ) → Used r i cs (replicate (length cs) here) → Unbroken r i (claimed e)
follows_sound e cs p f r i u b = let a = now_atoms e cs in let d = next_atoms e cs in
    decided a (LetterTrue r i) (λ v g. decided d (LetterTrue r (i + 1)) (λ w h.
    let g' : (k : ℕ) → In k a → Tells (v k) (LetterTrue r i k) = λ k l. g k (in_below a a k (below_power a) l) in
    let h' : (k : ℕ) → In k d → Tells (w k) (LetterTrue r (i + 1) k) = λ k l. h k (in_below d d k (below_power d) l) in
    none_breaks a d r i v w cs p (among_lines now_of (letters_of e.now) cs) (among_lines next_of (letters_of e.next) cs) g' h' u
    (f v w (untrue_fails a r i v e.now (among_first now_of e.now cs) g' b.0, untrue_fails d r (i + 1) w e.next (among_first next_of e.next cs) h' b.1))))

-- what is asked before
pub wide_over : (s : LitSet) → reaches 60 s ≡ true → Over 59 s
wide_over s e = ⊎_elim
    (λ p. let w = over s.plus (ltb-false _ _ p) in (w.0, w.1, inl w.2))
    (λ p. let w = over s.minus (ltb-false _ _ p) in (w.0, w.1, inr w.2))
    (and_cases (nat_lt s.plus (2 ^ 60)) (nat_lt s.minus (2 ^ 60)) (not-true _ e))
  where
    over : (n : ℕ) → 2 ^ 60 ≤ n → (k : ℕ) × (59 < k) × In k n
    over n h = shifted_some n n 59 (below_power n) (λ z. omega arith)

pub wide_not : (s : LitSet) → reaches 60 s ≡ false → ¬ Over 59 s
wide_not s e w =
    let q = and_parts (nat_lt s.plus (2 ^ 60)) (nat_lt s.minus (2 ^ 60)) (not-false _ e) in
    ⊎_elim (λ i. omega (arith, w.1, in_below 60 s.plus w.0 (ltb-true _ _ q.0) i)) (λ i. omega (arith, w.1, in_below 60 s.minus w.0 (ltb-true _ _ q.1) i)) w.2

ever_from : (c : Clause) → is_ever c ≡ true → Ever c
ever_from (Initial _) e = cc
ever_from (Global _ _) e = tt
ever_from (Eventuality _ _) e = cc
ever_from (Assumption _) e = tt
ever_from (Never _ _) e = cc

pub all_from : (cs : List Clause) → all_ever cs ≡ true → AllByRecursion Ever cs
all_from [] e = tt
all_from (c ∷ cs) e = let q = and_parts (is_ever c) (all_ever cs) e in (ever_from c q.0, all_from cs q.1)

pub right_trial : (e : Claim) (cs : List Clause) → Right cs (late_trial e cs)
right_trial e cs = cond_both (suited e cs) _ _ (Right cs)
    (λ s.
    let q = and_parts (not (wide_claim e)) (nat_le (length cs) 4 && all_ever cs) s in
    let k = and_parts (nat_le (length cs) 4) (all_ever cs) q.1 in
    let w = or_parts (reaches 60 e.now) (reaches 60 e.next) (not-true _ q.0) in
    cond_both (nat_lt 10 (atoms e cs)) _ _ (Right cs) (λ _. (omega arith, omega arith))
    (λ _. cond_both (countered (now_atoms e cs) (next_atoms e cs) (claimed e) cs) _ _ (Right cs) (λ _. (omega arith, omega arith))
    (λ f. (
      length-replicate (length cs) here,
      (λ _. (wide_not e.now w.0, wide_not e.next w.1, λ h. omega arith)),
      follows_sound e cs (all_from cs k.1) (follows_from e cs f),
    ))))
    (λ _. (omega arith, omega arith))

pub early_trial_right : (e : Claim) (n : ℕ) → Early (early_trial e n)
early_trial_right e n = cond_both (wide_claim e) _ _ Early (λ _. inl refl) (λ _. cond_both (n == 0 || nat_lt 4 n) _ _ Early (λ _. inr refl) (λ _. tt))

pub early_trial_many : (e : Claim) (n : ℕ) → 4 < n → (f : Refusal) × (early_trial e n ≡ Some f)
early_trial_many e n h = cond_both (wide_claim e) _ _ (λ o. (f : Refusal) × (o ≡ Some f)) (λ _. (LetterRange, refl)) (λ _. (WrongCount, cond-true (n == 0 || nat_lt 4 n) _ _ (or_right (n == 0) (nat_lt 4 n) (lt-ltb 4 n h))))

-- a trial of the claim
abbrev pub trying : Claim → Consult
trying e = record {
  most = 4;
  few = omega arith;
  early = early_trial e;
  early_number = λ n f q. subst Early q (early_trial_right e n);
  too_many = early_trial_many e;
  late = late_trial e;
  late_number = λ cs f q. subst (Right cs) q (right_trial e cs);
  all_marked = λ cs c ms q. (subst (Right cs) q (right_trial e cs)).0;
  sound = λ cs. right_sound cs (late_trial e cs) (right_trial e cs);
  narrow = λ cs c ms a q. (subst (Right cs) q (right_trial e cs)).1 a;
}
