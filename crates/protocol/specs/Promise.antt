-- What holds after every list of calls on a case just made, for every rule book and every run source.
use Rattle.std.specs.Prelude.{◌≡◌, ℕ, ◌≤◌, false, ◌↔◌, List, length}
use Rattle.clause.specs.Meaning.{Run, Keeps}
use Rattle.clause.specs.Sets.{Narrow}
use Rattle.runs.specs.Source.{Source}
use Rattle.protocol.specs.State.{State, line_at, clause_at, last}
use Rattle.protocol.specs.Calls.{Call, Answer, refute, show, core, shown, Exists}
use Rattle.protocol.specs.Causes.{SomeIn}
use Rattle.protocol.specs.Cores.{IsCore, Reaches, padded}
use Rattle.protocol.specs.Answers.{Answered}
use Rattle.protocol.specs.History.{History, Happened, calls_of}

-- the run keeps every given clause
abbrev pub KeepsGiven : State → Run → Type 0
KeepsGiven s r = (n : ℕ) → 1 ≤ n → n ≤ s.given → Keeps r (clause_at s.lines n)

-- the run keeps every clause that ns names
abbrev pub KeepsAll : State → List ℕ → Run → Type 0
KeepsAll s ns r = (m : ℕ) → SomeIn (λ k. k ≡ m) ns → Keeps r (clause_at s.lines m)

-- a refute just accepted: its row of 200 numbers holds the core and zeros after it, its answer is the count, and no run keeps every given clause of the core
abbrev pub Contradiction : State → ℕ → List ℕ → ℕ → Type 0
Contradiction s n row count =
    (ns : List ℕ) × IsCore s n ns × (row ≡ padded ns) × (length row ≡ 200) × (count ≡ length ns) × ((r : Run) → ¬ KeepsAll s ns r)

-- line n follows from the given lines that it reaches
abbrev pub Follows : State → ℕ → Type 0
Follows s n = (r : Run) → ((m : ℕ) → 1 ≤ m → m ≤ s.given → Reaches s.lines n m → Keeps r (clause_at s.lines m)) → Keeps r (clause_at s.lines n)

pub record Verdicts (h : List (Call × Answer)) (s : State) : Type 0 where
  pub few_given : s.given ≤ 200
  pub few_lines : last s ≤ 1000
  pub own : s.given ≤ last s
  pub narrow : (n : ℕ) → 1 ≤ n → n ≤ last s → Narrow (clause_at s.lines n)
  pub follows : (n : ℕ) → 1 ≤ n → n ≤ last s → (line_at s.lines n).resting ≡ false → Follows s n
  pub refuted : (n count : ℕ) (before row : List ℕ) (t : State) → Exists s.stage (refute n before) → Answered s (refute n before) (core row count) t → Contradiction s n row count
  pub kept : (x : Source) (a : Answer) (t : State) → Exists s.stage (show x) → Answered s (show x) a t → (a ≡ shown x.lead x.loop_length) ↔ KeepsGiven s x.run
  pub never_both : (n count : ℕ) (before row : List ℕ) (x : Source) → Happened h (refute n before) (core row count) → ¬ Happened h (show x) (shown x.lead x.loop_length)

-- answers and state come from the calls alone: the same calls have had the same answers, and led to the same state
abbrev pub ByCallsAlone : Type 0
ByCallsAlone = (h h' : List (Call × Answer)) (s s' : State) → History h s → History h' s' → calls_of h ≡ calls_of h' → (h ≡ h') × (s ≡ s')

abbrev pub Promise : Type 0
Promise = ByCallsAlone × ((h : List (Call × Answer)) (s : State) → History h s → Verdicts h s)
