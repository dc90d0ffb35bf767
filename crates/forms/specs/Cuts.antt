-- A text cut at a byte.
use Rattle.std.specs.Prelude.{ℕ, List, ◌==◌}
use Rattle.std.specs.List.{slice_split}

-- the pieces between the bytes b: one more than there are such bytes
abbrev pub split : ℕ → List ℕ → List (List ℕ)
split b = slice_split (λ x. x == b)
