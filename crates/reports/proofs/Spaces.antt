-- Numbers parted by spaces, with one more at the end.
use Rattle.std.proofs.Common.{◌≡◌, ℕ, List, [], ◌∷◌, ◌++◌, decimal, refl, sym, ap, ◌∙◌, append_assoc}
use Rattle.reports.specs.Lines.{spaced}

pub spaced_more : (n : ℕ) (ns : List ℕ) (m : ℕ) → spaced (n ∷ (ns ++ (m ∷ []))) ≡ spaced (n ∷ ns) ++ (32 ∷ decimal m)
spaced_more n [] m = refl
spaced_more n (k ∷ ns) m = ap (λ (l : List ℕ). decimal n ++ (32 ∷ l)) (spaced_more k ns m) ∙ sym (append_assoc (decimal n) (32 ∷ spaced (k ∷ ns)) (32 ∷ decimal m))
