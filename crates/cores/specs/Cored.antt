-- What a core is written into, and what it is.
use Rattle.std.specs.Prelude.{◌≡◌, ℕ, ◌≤◌, List, length}
use Rattle.protocol.specs.State as model
use Rattle.protocol.specs.Cores.{IsCore, padded}
use Rattle.lines.specs.declared.line.Line.{Line}
use Rattle.lines.specs.View.{lines_of}
use Rattle.lines.specs.Named.{at_stage}

-- line n is there, and the row has its length
abbrev pub FitsRow : List Line → ℕ → ℕ → List ℕ → Type 0
FitsRow t n given row = (length t ≤ 1000) × (n ≤ length t) × (given ≤ 200) × (length row ≡ 200)

-- the row holds the core of line n and zeros after it, and the answer is its count
abbrev pub Cored : List Line → ℕ → ℕ → ℕ → List ℕ → Type 0
Cored t n given count row = (ns : List ℕ) × ((st : model.Stage) → IsCore (at_stage st given (lines_of t)) n ns) × (row ≡ padded ns) × (count ≡ length ns)
