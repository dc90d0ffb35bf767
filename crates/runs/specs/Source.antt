-- What a run source means: a run, a lead-in and a loop.
use Rattle.std.specs.Prelude.{◌≡◌, ℕ, ◌+◌, ◌≤◌}
use Rattle.clause.specs.Meaning.{Run}

pub record Source : Type 0 where
  pub run : Run
  pub lead : ℕ
  pub loop_length : ℕ
  pub turns : 1 ≤ loop_length
  pub small : lead + loop_length ≤ 4096
  pub agrees : (i k : ℕ) → lead ≤ i → run (i + loop_length) k ≡ run i k

-- one past the last moment of the loop
abbrev pub end_of : Source → ℕ
end_of x = x.lead + x.loop_length
