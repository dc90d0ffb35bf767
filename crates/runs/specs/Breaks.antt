-- Where a run first breaks a clause.
use Rattle.std.specs.Prelude.{◌≡◌, ℕ, ◌+◌, ◌-◌, ◌<◌, ◌≤◌, cond, ◌⊎◌, Some, None, Option, ◌==◌}
use Rattle.clause.specs.declared.syntax.Literal.{Literal}
use Rattle.clause.specs.declared.syntax.Clause.{Clause}
use Rattle.clause.specs.Meaning.{Run, PlainTrue, Broken, Unbroken, Keeps}

-- none, and the run keeps the clause for ever; or the least moment at which it is broken
abbrev pub FirstBreak : Run → Clause → Option ℕ → Type 0
FirstBreak r c None = Keeps r c
FirstBreak r c (Some i) = Broken r i c × ((j : ℕ) → j < i → Unbroken r j c)

-- none, and the literal is true again and again; or the moment from which on it is untrue, the least
abbrev pub Horizon : Run → Literal → Option ℕ → Type 0
Horizon r l None = (m : ℕ) → (j : ℕ) × (m ≤ j) × PlainTrue r j l
Horizon r l (Some h) = ((h ≡ 0) ⊎ PlainTrue r (h - 1) l) × ((j : ℕ) → h ≤ j → ¬ PlainTrue r j l)

-- the first moment from a on and below e with P
abbrev pub FirstIn : (ℕ → Type 0) → ℕ → ℕ → Option ℕ → Type 0
FirstIn P a e None = (i : ℕ) → a ≤ i → i < e → ¬ P i
FirstIn P a e (Some i) = (a ≤ i) × (i < e) × P i × ((j : ℕ) → a ≤ j → j < i → ¬ P j)

-- the moment that follows i, folded into the loop
abbrev pub successor : (lead end : ℕ) → ℕ → ℕ
successor lead end i = cond (i + 1 == end) lead (i + 1)
