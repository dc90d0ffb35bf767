-- Fields that hold more than one number.
use Rattle.std.specs.Prelude.{ℕ, ◌+◌, ◌-◌, ◌^◌, min, cond, List, [], ◌∷◌, ◌++◌, length, take, replicate, Some, None, Option, bit_or, nat_lt, slice_set}
use Rattle.std.specs.Option.{option_or}
use Rattle.forms.specs.declared.lists.Numbers.{Numbers}
use Rattle.forms.specs.declared.lists.Letters.{Letters}
use Rattle.forms.specs.Cuts.{split}
use Rattle.forms.specs.Fields.{and_then}
use Rattle.forms.specs.Forms.{number_of, rising, is_dot}

-- the numbers of the parts, if each is one
abbrev pub all_numbers : List (List ℕ) → Option (List ℕ)
all_numbers [] = Some []
all_numbers (p ∷ ps) = and_then (number_of p) (λ n. and_then (all_numbers ps) (λ ns. Some (n ∷ ns)))

-- the numbers of a field: parted by single spaces, `.` for none
abbrev pub numbers_in : List ℕ → Option (List ℕ)
numbers_in field = cond (is_dot field) (Some []) (all_numbers (split 32 field))

-- the first nine of them, zeros after the last: nine stand for nine or more
abbrev pub first_nine : List ℕ → Numbers
first_nine ns = record { at = take 9 ns ++ replicate (9 - length ns) 0; count = min (length ns) 9 }

-- one number more, where there is a place for it
abbrev pub with_number : Numbers → ℕ → Numbers
with_number v n = cond (nat_lt v.count 9) (record { at = slice_set v.at v.count n; count = v.count + 1 }) v

abbrev pub nine_of : Option (List ℕ) → Option Numbers
nine_of None = None
nine_of (Some ns) = Some (first_nine ns)

-- one letter more: from 0 to 19 in the mask; the first one above stands beside it
abbrev pub with_letter : Letters → ℕ → Letters
with_letter s n = cond (nat_lt n 20) (record { mask = bit_or s.mask (2 ^ n); over = s.over }) (record { mask = s.mask; over = option_or s.over (Some n) })

abbrev pub no_letters : Letters
no_letters = record { mask = 0; over = None }

-- the letters of a field: they rise, parted by single spaces, `.` for none
abbrev pub letters_in : List ℕ → Option Letters
letters_in field = cond (is_dot field) (Some no_letters) (rising (λ n. n) with_letter number_of no_letters (split 32 field))
