-- What a line reaches, and its core.
use Rattle.std.specs.Prelude.{◌≡◌, ℕ, ◌-◌, ◌<◌, ◌≤◌, List, [], ◌∷◌, ◌++◌, length, replicate}
use Rattle.protocol.specs.State.{Line, State, line_at}
use Rattle.protocol.specs.Causes.{SomeIn}

-- line n cites the earlier line m
abbrev pub Cites : List Line → ℕ → ℕ → Type 0
Cites ls n m = SomeIn (λ k. k ≡ m) (line_at ls n).cites × (m < n)

pub data Reaches (ls : List Line) : ℕ → ℕ → Type 0 where
  itself : {n : ℕ} → Reaches ls n n
  through : {n m k : ℕ} → Cites ls n m → Reaches ls m k → Reaches ls n k

abbrev pub Rising : List ℕ → Type 0
Rising [] = Unit {0}
Rising (n ∷ []) = Unit {0}
Rising (n ∷ m ∷ ms) = (n < m) × Rising (m ∷ ms)

-- ns is the core of line n: the given lines that it reaches, in rising order
pub record IsCore (s : State) (n : ℕ) (ns : List ℕ) : Type 0 where
  pub rising : Rising ns
  pub within : (m : ℕ) → SomeIn (λ k. k ≡ m) ns → (1 ≤ m) × (m ≤ s.given) × Reaches s.lines n m
  pub whole : (m : ℕ) → 1 ≤ m → m ≤ s.given → Reaches s.lines n m → SomeIn (λ k. k ≡ m) ns

-- a row of 200 numbers with ns in front and zeros after
abbrev pub padded : List ℕ → List ℕ
padded ns = ns ++ replicate (200 - length ns) 0
