-- Marks on numbers.
use Rattle.std.specs.Prelude.{◌≡◌, ℕ, zero, suc, ◌<◌, Bool, true, false, cond, ◌⊎◌, List, [], ◌∷◌, ◌++◌, slice_index_or}
use Rattle.protocol.specs.State.{Line}
use Rattle.protocol.specs.Causes.{SomeIn}
use Rattle.protocol.specs.Cores.{Reaches}

abbrev pub Marked : List Bool → ℕ → Type 0
Marked ms m = slice_index_or ms m false ≡ true

abbrev pub IsIn : List ℕ → ℕ → Type 0
IsIn ns m = SomeIn (λ k. k ≡ m) ns

-- the numbers of cs below k are marked too
pub record MarkedToo (cs : List ℕ) (k : ℕ) (ms ms' : List Bool) : Type 0 where
  pub kept : (m : ℕ) → Marked ms m → Marked ms' m
  pub more : (m : ℕ) → IsIn cs m → m < k → Marked ms' m
  pub only : (m : ℕ) → Marked ms' m → Marked ms m ⊎ (IsIn cs m × (m < k))

-- the marked numbers from 1 to n, rising
abbrev pub marked_to : List Bool → ℕ → List ℕ
marked_to ms zero = []
marked_to ms (suc n) = marked_to ms n ++ cond (slice_index_or ms (suc n) false) (suc n ∷ []) []

-- the marked numbers are those that line n reaches
pub record Reached (ls : List Line) (n : ℕ) (ms : List Bool) : Type 0 where
  pub only : (m : ℕ) → Marked ms m → Reaches ls n m
  pub whole : (m : ℕ) → Reaches ls n m → Marked ms m
