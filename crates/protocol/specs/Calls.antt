-- The calls on a case, what they are answered, and which exist at which stage.
use Rattle.std.specs.Prelude.{ℕ, List}
use Rattle.clause.specs.declared.syntax.Literal.{Literal}
use Rattle.clause.specs.declared.syntax.LitSet.{LitSet}
use Rattle.clause.specs.declared.syntax.Clause.{Clause}
use Rattle.clause.specs.declared.refusal.Fault.{Fault}
use Rattle.rules.specs.Books.{Consult}
use Rattle.runs.specs.Source.{Source}
use Rattle.protocol.specs.State.{Stage, intake, sealed, loop}

pub data Call : Type 0 where
  give : Clause → Call
  seal : Call
  infer : Consult → List ℕ → Call
  wait_line : ℕ → Call
  wait_literal : Literal → Call
  open_loop : Literal → List LitSet → Call
  close : List ℕ → Call
  abandon : Call
  draw : ℕ → ℕ → Call
  draw_alone : ℕ → Call
  refute : ℕ → (row : List ℕ) → Call
  show : Source → Call

pub data Answer : Type 0 where
  number : ℕ → Answer
  core : (row : List ℕ) (count : ℕ) → Answer
  shown : (lead loop_length : ℕ) → Answer
  refused : Fault → Answer

-- which calls exist at which stage
abbrev pub Exists : Stage → Call → Type 0
Exists intake (give _) = Unit {0}
Exists intake seal = Unit {0}
Exists intake (infer _ _) = ⊥
Exists intake (wait_line _) = ⊥
Exists intake (wait_literal _) = ⊥
Exists intake (open_loop _ _) = ⊥
Exists intake (close _) = ⊥
Exists intake abandon = ⊥
Exists intake (draw _ _) = ⊥
Exists intake (draw_alone _) = ⊥
Exists intake (refute _ _) = ⊥
Exists intake (show _) = ⊥
Exists sealed (give _) = ⊥
Exists sealed seal = ⊥
Exists sealed (infer _ _) = Unit {0}
Exists sealed (wait_line _) = Unit {0}
Exists sealed (wait_literal _) = Unit {0}
Exists sealed (open_loop _ _) = Unit {0}
Exists sealed (close _) = ⊥
Exists sealed abandon = ⊥
Exists sealed (draw _ _) = Unit {0}
Exists sealed (draw_alone _) = Unit {0}
Exists sealed (refute _ _) = Unit {0}
Exists sealed (show _) = Unit {0}
Exists (loop _ _ _) (give _) = ⊥
Exists (loop _ _ _) seal = ⊥
Exists (loop _ _ _) (infer _ _) = Unit {0}
Exists (loop _ _ _) (wait_line _) = ⊥
Exists (loop _ _ _) (wait_literal _) = ⊥
Exists (loop _ _ _) (open_loop _ _) = ⊥
Exists (loop _ _ _) (close _) = Unit {0}
Exists (loop _ _ _) abandon = Unit {0}
Exists (loop _ _ _) (draw _ _) = ⊥
Exists (loop _ _ _) (draw_alone _) = ⊥
Exists (loop _ _ _) (refute _ _) = ⊥
Exists (loop _ _ _) (show _) = ⊥
