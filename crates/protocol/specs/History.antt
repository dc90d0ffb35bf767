-- Lists of calls on a case just made.
use Rattle.std.specs.Prelude.{◌≡◌, ◌⊎◌, List, [], ◌∷◌, map}
use Rattle.protocol.specs.State.{State, fresh}
use Rattle.protocol.specs.Calls.{Call, Answer, Exists}
use Rattle.protocol.specs.Answers.{Answered}

-- the calls so far with their answers, the newest first: each existed where it stands, and was answered from the state that the calls before it left
pub data History : List (Call × Answer) → State → Type 0 where
  begun : History [] fresh
  then : {h : List (Call × Answer)} {s : State} (c : Call) (a : Answer) (t : State) → History h s → Exists s.stage c → Answered s c a t → History ((c, a) ∷ h) t

-- the calls alone
abbrev pub calls_of : List (Call × Answer) → List Call
calls_of h = map (λ (e : Call × Answer). e.0) h

abbrev pub Happened : List (Call × Answer) → Call → Answer → Type 0
Happened [] c a = ⊥
Happened (e ∷ es) c a = (e ≡ (c, a)) ⊎ Happened es c a
