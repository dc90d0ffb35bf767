-- Lines of a list, lists of numbers, and what a line reaches.
use Rattle.std.proofs.Common.{◌≡◌, ℕ, ◌-◌, ◌<◌, ◌≤◌, false, List, [], ◌∷◌, ◌++◌, length, take, refl, subst, inl, inr, ⊎_elim, arith}
use Rattle.std.proofs.lemmas.Bool.{cases_lt, or_parts}
use Rattle.std.proofs.lemmas.List.{length-append, get_or_append_left, get_or-append_right, get_or-take, get_or_past}
use Rattle.std.proofs.ByRecursion.{All-get_or}
use Rattle.std.specs.List.{AllByRecursion}
use Rattle.clause.specs.Meaning.{Run, Keeps}
use Rattle.protocol.specs.Causes.{SomeIn}
use Rattle.protocol.specs.Cores.{Cites, Reaches, itself, through}
use Rattle.protocol.specs.State.{Line, line_at, clause_at, any_resting}

-- lists of numbers
pub none_in : (P : ℕ → Type 0) (ns : List ℕ) → ¬ SomeIn P ns → AllByRecursion (λ n. ¬ P n) ns
none_in P [] h = tt
none_in P (n ∷ ns) h = (λ p. h (inl p), none_in P ns (λ p. h (inr p)))

pub all_since : (P : ℕ → Type 0) (ns : List ℕ) → ((m : ℕ) → SomeIn (λ k. k ≡ m) ns → P m) → AllByRecursion P ns
all_since P [] f = tt
all_since P (n ∷ ns) f = (f n (inl refl), all_since P ns (λ m h. f m (inr h)))

pub all_one : (P : ℕ → Type 0) (ns : List ℕ) (m : ℕ) → AllByRecursion P ns → SomeIn (λ k. k ≡ m) ns → P m
all_one P [] m a s = absurd s
all_one P (n ∷ ns) m a (inl e) = subst P e a.0
all_one P (n ∷ ns) m a (inr s) = all_one P ns m a.1 s

pub all_both : {X : Type 0} (P Q : X → Type 0) (ns : List X) → AllByRecursion P ns → AllByRecursion Q ns → AllByRecursion (λ n. P n × Q n) ns
all_both P Q [] a b = tt
all_both P Q (n ∷ ns) a b = ((a.0, b.0), all_both P Q ns a.1 b.1)

pub none_resting : (ls : List Line) (ns : List ℕ) → any_resting ls ns ≡ false → AllByRecursion (λ n. (line_at ls n).resting ≡ false) ns
none_resting ls [] e = tt
none_resting ls (n ∷ ns) e = let p = or_parts (line_at ls n).resting (any_resting ls ns) e in (p.0, none_resting ls ns p.1)

-- lines after an append
module _ (ls xs : List Line) where
  pub old_line : (n : ℕ) → 1 ≤ n → n ≤ length ls → line_at (ls ++ xs) n ≡ line_at ls n
  old_line n h k = get_or_append_left ls xs _ (n - 1) (omega arith)

  pub new_line : (P : Line → Type 0) (n : ℕ) → length ls < n → n ≤ length (ls ++ xs) → AllByRecursion P xs → P (line_at (ls ++ xs) n)
  new_line P n h k a = rw (get_or-append_right ls xs (length ls) (n - 1) _ refl (omega arith)) (All-get_or P xs (n - 1 - length ls) _ (omega (arith, length-append ls xs)) a)

  cites_more : (n m : ℕ) → Cites ls n m → Cites (ls ++ xs) n m
  cites_more n m c = ⊎_elim
      (λ h. (rw (get_or_append_left ls xs _ (n - 1) h) c.0, c.1))
      (λ h. absurd (rw (get_or_past ls (n - 1) _ h) at c.0))
      (cases_lt (n - 1) (length ls))

  pub reaches_more : {n m : ℕ} → Reaches ls n m → Reaches (ls ++ xs) n m
  reaches_more itself = itself
  reaches_more (through {n = n} {m = m} c q) = through (cites_more n m c) (reaches_more q)

-- lines after a cut
abbrev pub Low : List Line → Type 0
Low ls = (n : ℕ) → 1 ≤ n → n ≤ length ls → AllByRecursion (λ m. (1 ≤ m) × (m < n)) (line_at ls n).cites

module _ (ls : List Line) (c : ℕ) (fits : c ≤ length ls) where
  pub kept_line : (n : ℕ) → 1 ≤ n → n ≤ c → line_at (take c ls) n ≡ line_at ls n
  kept_line n h k = get_or-take c ls (n - 1) _ (omega arith)

  pub reaches_less : Low ls → {n m : ℕ} → 1 ≤ n → n ≤ c → Reaches ls n m → Reaches (take c ls) n m
  reaches_less low h k itself = itself
  reaches_less low h k (through {n = n} {m = m} q p) =
      let b = all_one (λ m. (1 ≤ m) × (m < n)) (line_at ls n).cites m (low n h (omega arith)) q.0 in
      through (rw (kept_line n h k) q.0, q.1) (reaches_less low b.0 (omega arith) p)

-- the given lines that line n reaches are kept
abbrev pub RestsOn : Run → ℕ → List Line → ℕ → Type 0
RestsOn r g ls n = (m : ℕ) → 1 ≤ m → m ≤ g → Reaches ls n m → Keeps r (clause_at ls m)

pub rests_old : (r : Run) (g : ℕ) (ls xs : List Line) (n : ℕ) → g ≤ length ls → RestsOn r g (ls ++ xs) n → RestsOn r g ls n
rests_old r g ls xs n f s m h k q = subst (λ x. Keeps r x.clause) (old_line ls xs m h (omega arith)) (s m h k (reaches_more ls xs q))

pub rests_cited : (r : Run) (g : ℕ) (ls : List Line) (n : ℕ) → AllByRecursion (λ m. m < n) (line_at ls n).cites → RestsOn r g ls n → AllByRecursion (RestsOn r g ls) (line_at ls n).cites
rests_cited r g ls n low s = all_since _ _ (λ m c k h h' q. s k h h' (through (c, all_one (λ m. m < n) _ m low c) q))

pub rests_cut : (r : Run) (g : ℕ) (ls : List Line) (c n : ℕ) → c ≤ length ls → g ≤ c → Low ls → 1 ≤ n → n ≤ c → RestsOn r g (take c ls) n → RestsOn r g ls n
rests_cut r g ls c n f f' low h k s m h' k' q = subst (λ x. Keeps r x.clause) (kept_line ls c f m h' (omega arith)) (s m h' k' (reaches_less ls c f low h k q))
