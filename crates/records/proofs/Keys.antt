-- A key that no record of a case text has.
use Rattle.std.proofs.Common.{◌≡◌, ℕ, Bool, List, refl}
use Rattle.std.proofs.lemmas.Bool.{ne_eqb}
use Rattle.records.specs.Fields.{unknown}
use Rattle.records.specs.Records.{by_key}

pub no_key : (k : ℕ) (fs : List (List ℕ)) (e : Bool) → (k ≡ 73 → ⊥) → (k ≡ 71 → ⊥) → (k ≡ 69 → ⊥) → (k ≡ 83 → ⊥) → (k ≡ 87 → ⊥) → (k ≡ 86 → ⊥) → (k ≡ 82 → ⊥) → (k ≡ 84 → ⊥) → (k ≡ 79 → ⊥)
    → (k ≡ 67 → ⊥) → (k ≡ 65 → ⊥) → (k ≡ 78 → ⊥) → (k ≡ 77 → ⊥) → (k ≡ 88 → ⊥) → by_key k fs e ≡ unknown
no_key k fs e a b c d f g h i j l m n o p =
    rw (ne_eqb k 73 a, ne_eqb k 71 b, ne_eqb k 69 c, ne_eqb k 83 d, ne_eqb k 87 f, ne_eqb k 86 g, ne_eqb k 82 h, ne_eqb k 84 i, ne_eqb k 79 j, ne_eqb k 67 l, ne_eqb k 65 m, ne_eqb k 78 n, ne_eqb k 77 o, ne_eqb k 88 p) refl
