-- What a test's answer says.
use Rattle.std.specs.Prelude.{Bool, true, false}

abbrev pub Tells : Bool → Type 0 → Type 0
Tells true P = P
Tells false P = P → ⊥
