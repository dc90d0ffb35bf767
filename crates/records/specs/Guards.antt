-- The guards of an open line, each a field.
use Rattle.std.specs.Prelude.{ℕ, ◌+◌, min, Bool, cond, ◌||◌, List, [], ◌∷◌, replicate, Some, None, Option, Ok, Result, nat_le, slice_index_or, slice_set}
use Rattle.clause.specs.declared.refusal.Fault.{Fault}
use Rattle.clause.specs.declared.syntax.LitSet.{LitSet}
use Rattle.clause.specs.Meaning.{none, ◌∪◌}
use Rattle.records.specs.declared.record.Guards.{Guards}
use Rattle.records.specs.Fields.{and_so, set_at}

-- a letter above 59 in a set
abbrev pub wide : LitSet → Bool
wide s = nat_le 1152921504606846976 s.plus || nat_le 1152921504606846976 s.minus

abbrev pub no_guards : Guards
no_guards = record { at = replicate 9 none; count = 0; over = None }

-- the field after k; past 65,535 fields are not told apart
abbrev pub after : ℕ → ℕ
after k = min (k + 1) 65535

-- the first field with a letter above 59: the one that is known, or k
abbrev pub first_over : Option ℕ → ℕ → LitSet → Option ℕ
first_over None k s = cond (wide s) (Some k) None
first_over (Some j) k s = Some j

-- one guard more, in the field k: in the next of nine places, or joined to what stands in the last
abbrev pub with_guard : Guards → ℕ → LitSet → Guards
with_guard g k s = record {
  at = slice_set g.at (min g.count 8) (slice_index_or g.at (min g.count 8) none ∪ s);
  count = min (g.count + 1) 9;
  over = first_over g.over k s;
}

-- the guards of these fields after those of g, the first in the field k; and the field after the last
abbrev pub guards_from : Guards → ℕ → List (List ℕ) → Result (Guards × ℕ) Fault
guards_from g k [] = Ok (g, k)
guards_from g k (f ∷ fs) = and_so (set_at k f) (λ s. guards_from (with_guard g k s) (after k) fs)
