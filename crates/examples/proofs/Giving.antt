-- The highest letter of a given clause.
use Rattle.std.proofs.Common.{◌^◌, refl, inl, ⊎_elim, arith}
use Rattle.clause.proofs.Masks.{in_pow, in_below, not_in_zero}
use Rattle.examples.specs.Giving.{Taken, TooHigh, OnGiving}

taken : Taken
taken = (
  (
    (λ _ q. ⊎_elim (λ h. let b = in_below 20 (2 ^ 19) q.0.0 (omega arith) h in omega (arith, q.0.1)) (not_in_zero q.0.0) q.0.2),
    ((λ _ q. omega (arith, q.0)), tt),
  ),
  (refl, refl),
)

too_high : TooHigh
too_high = (inl ((20, omega arith, inl (in_pow 20)), refl), refl)

pub on_giving : OnGiving
on_giving = (taken, too_high)
