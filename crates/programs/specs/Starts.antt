-- What a program's arguments ask for.
use Rattle.std.specs.Prelude.{Bool, false, List, [], ◌∷◌, String, codes, bytes_eq, string_bytes}

-- the first path is `--help`
abbrev pub asks_for_help : {Z : Type 0} → List (String Z) → Bool
asks_for_help [] = false
asks_for_help (path ∷ rest) = bytes_eq (string_bytes path) (codes "--help")
