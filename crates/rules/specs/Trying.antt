-- Trial: a claim is a line where every choice that breaks it breaks a cited line.
use Rattle.std.specs.Prelude.{◌≡◌, ℕ, zero, suc, ◌+◌, ◌≤◌, Bool, true, false, cond, ◌||◌, ◌⊎◌, List, [], ◌∷◌, length, replicate, ◌==◌}
use Rattle.std.specs.List.{AllByRecursion, list_any}
use Rattle.clause.specs.declared.syntax.LitSet.{LitSet}
use Rattle.clause.specs.declared.syntax.Clause.{Clause}
use Rattle.clause.specs.declared.syntax.Clause.TheVariants.{Global}
use Rattle.clause.specs.declared.refusal.Refusal.TheVariants.{Counterexample}
use Rattle.clause.specs.Bit.{bit, In}
use Rattle.clause.specs.Sets.{Over, now_of, next_of}
use Rattle.rules.specs.declared.trial.Claim.{Claim}
use Rattle.rules.specs.Kinds.{Ever}
use Rattle.rules.specs.Books.{Mark, here, Conclusion, globally, Outcome, refuses, gives}

abbrev pub claimed : Claim → Clause
claimed e = Global e.now e.next

-- A choice says yes or no of each letter, v now and w next. It breaks a line if it makes each of its literals untrue.
abbrev pub Choice : Type 0
Choice = ℕ → Bool

abbrev pub Fails : Choice → LitSet → Type 0
Fails v s = (k : ℕ) → (In k s.plus → v k ≡ false) × (In k s.minus → v k ≡ true)

abbrev pub Breaks : Choice → Choice → Clause → Type 0
Breaks v w c = Fails v (now_of c) × Fails w (next_of c)

abbrev pub BreaksOne : Choice → Choice → List Clause → Type 0
BreaksOne v w [] = ⊥
BreaksOne v w (c ∷ cs) = Breaks v w c ⊎ BreaksOne v w cs

abbrev pub Follows : List Clause → Clause → Type 0
Follows cs c = (v w : Choice) → Breaks v w c → BreaksOne v w cs

abbrev pub Refuted : List Clause → Clause → Type 0
Refuted cs c = (v : Choice) × (w : Choice) × Breaks v w c × (¬ BreaksOne v w cs)

-- An atom is a letter that occurs, with either sign, in the claim or a line: now, or next.
abbrev pub occurs : ℕ → LitSet → Bool
occurs k s = bit s.plus k == 1 || bit s.minus k == 1

abbrev pub occurs_now : ℕ → List Clause → Bool
occurs_now k cs = list_any (λ c. occurs k (now_of c)) cs

abbrev pub occurs_next : ℕ → List Clause → Bool
occurs_next k cs = list_any (λ c. occurs k (next_of c)) cs

-- of how many of the numbers below n does p hold?
unfoldable pub how_many : ℕ → (ℕ → Bool) → ℕ
how_many zero p = 0
how_many (suc n) p = cond (p n) 1 0 + how_many n p

-- the number of atoms: a mask has 64 letters
abbrev pub atoms : Claim → List Clause → ℕ
atoms e cs = how_many 64 (λ k. occurs_now k (claimed e ∷ cs)) + how_many 64 (λ k. occurs_next k (claimed e ∷ cs))

-- what a trial asks before it tries a choice
pub record Ready (e : Claim) (cs : List Clause) : Type 0 where
  pub slim_now : ¬ Over 59 e.now
  pub slim_next : ¬ Over 59 e.next
  pub few_lines : length cs ≤ 4
  pub kinds : AllByRecursion Ever cs
  pub few_atoms : atoms e cs ≤ 10

-- the claim is accepted just where it follows, and has a counterexample just where some choice breaks it and no line
pub record Judged (e : Claim) (cs : List Clause) (o : Outcome) : Type 0 where
  pub accepts : Ready e cs → Follows cs (claimed e) → o ≡ gives (globally e.now e.next) (replicate (length cs) here)
  pub accepted : (c : Conclusion) (ms : List Mark) → o ≡ gives c ms → Ready e cs × Follows cs (claimed e)
  pub refutes : Ready e cs → Refuted cs (claimed e) → o ≡ refuses Counterexample
  pub refuted : o ≡ refuses Counterexample → Ready e cs × Refuted cs (claimed e)
