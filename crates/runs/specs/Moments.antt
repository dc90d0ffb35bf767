-- The letters of a run, read into a mask for each moment of its lead-in and its loop.
use Rattle.std.specs.Prelude.{◌≡◌, ℕ, zero, suc, ◌+◌, ◌-◌, ◌/◌, ◌^◌, ◌<◌, ◌≤◌, Bool, true, false, cond, not, ◌&&◌, ◌⊎◌, ◌↔◌, List, length, take, Some, None, Option, ◌==◌, bit_or, nat_lt, slice_index}
use Rattle.std.specs.Bool.{beq}
use Rattle.clause.specs.declared.syntax.LitSet.{LitSet}
use Rattle.clause.specs.declared.syntax.Literal.{Literal}
use Rattle.clause.specs.declared.syntax.Clause.{Clause}
use Rattle.clause.specs.declared.syntax.Clause.TheVariants.{Initial, Global, Eventuality, Assumption, Never}
use Rattle.clause.specs.Bit.{In, bit}
use Rattle.clause.specs.Meaning.{Run, LetterTrue, Waits, waited, none}
use Rattle.clause.specs.Sets.{UntrueIn, letters_of}
use Rattle.runs.specs.Source.{Source, end_of}
use Rattle.runs.specs.Breaks.{successor, FirstIn}
use Rattle.runs.specs.declared.moments.Moments.{Moments}

-- the letters that a clause asks for, as a mask
abbrev pub asks : Clause → ℕ
asks (Initial n) = letters_of n
asks (Global n x) = bit_or (letters_of n) (letters_of x)
asks (Eventuality n l) = bit_or (letters_of n) (2 ^ l.letter)
asks (Assumption x) = letters_of x
asks (Never n l) = bit_or (letters_of n) (2 ^ l.letter)

-- w has each letter asked for, of the 60 that a line can hold, exactly where it is true at moment i
abbrev pub World : Run → ℕ → ℕ → ℕ → Type 0
World r asked i w = (k : ℕ) → k < 60 → In k asked → In k w ↔ LetterTrue r i k

abbrev pub worlds_of : Moments → List ℕ
worlds_of m = take m.end m.worlds.at

-- the moments of a source, read for the letters asked for
pub record Read (x : Source) (asked : ℕ) (m : Moments) : Type 0 where
  pub room : length m.worlds.at ≡ 4096
  pub lead_is : m.lead ≡ x.lead
  pub end_is : m.end ≡ end_of x
  pub worlds_are : (i : ℕ) → i < end_of x → World x.run asked i (slice_index m.worlds.at i)

-- the literal is true in the world w
abbrev pub true_in : ℕ → Literal → Bool
true_in w l = beq (bit w l.letter == 1) l.positive

-- w with the letter k where b
abbrev pub noted : Bool → ℕ → ℕ → ℕ
noted b k w = cond b (bit_or w (2 ^ k)) w

-- the plain letters below k that are asked for and true at moment i
unfoldable pub seen : Run → ℕ → ℕ → ℕ → ℕ
seen r asked i zero = 0
seen r asked i (suc k) = noted (bit asked k == 1 && r i k) k (seen r asked i k)

-- where the literal is last true, by the worlds: none, if that is in the loop; or the place after it
abbrev pub LastTrue : List ℕ → ℕ → Literal → Option ℕ → Type 0
LastTrue ws lead l None = (j : ℕ) × (lead ≤ j) × (j < length ws) × (true_in (slice_index ws j) l ≡ true)
LastTrue ws lead l (Some h) = ((h ≡ 0) ⊎ ((h ≤ lead) × (1 ≤ h) × (h ≤ length ws) × (true_in (slice_index ws (h - 1)) l ≡ true)))
    × ((j : ℕ) → h ≤ j → j < length ws → true_in (slice_index ws j) l ≡ false)

-- is the literal true at a later moment than i, by where it is last true?
abbrev pub comes_after : Option ℕ → ℕ → Bool
comes_after None i = true
comes_after (Some h) i = nat_lt (i + 1) h

-- is the literal waited for in the world w at moment i?
abbrev pub waits_in : Option ℕ → Literal → ℕ → ℕ → Bool
waits_in o l i w = not (true_in w l) && comes_after o i

-- by the worlds, a global clause is broken at i
abbrev pub BreaksAt : List ℕ → ℕ → LitSet → LitSet → ℕ → Type 0
BreaksAt ws lead n x i = UntrueIn (slice_index ws i) n × UntrueIn (slice_index ws (successor lead (length ws) i)) x

-- the plain letters that the letters asked for speak of
abbrev pub wanted : ℕ → ℕ
wanted asked = bit_or asked (bit_or (asked / 2 ^ 20) (asked / 2 ^ 40))

-- the moments are those of the source's lead-in and loop
pub record Spans (x : Source) (m : Moments) : Type 0 where
  pub room : length m.worlds.at ≡ 4096
  pub lead_is : m.lead ≡ x.lead
  pub end_is : m.end ≡ end_of x

-- the letter k noted in each of the worlds before the end where the test gives true
pub record Noted (Test : ℕ → ℕ → Bool → Type 0) (end k : ℕ) (ws ws' : List ℕ) : Type 0 where
  pub room : length ws' ≡ length ws
  pub noted_at : (i : ℕ) → i < end → (b : Bool) × Test i (slice_index ws i) b × (slice_index ws' i ≡ noted b k (slice_index ws i))

-- the worlds of a source with the plain letters wanted, and the waiting letters below k asked for, noted
pub record NotedBelow (x : Source) (asked k : ℕ) (m : Moments) : Type 0 where
  pub spans : Spans x m
  pub noted_at : (i : ℕ) → i < end_of x → (j : ℕ) →
      (j < 20 → In j (wanted asked) → In j (slice_index m.worlds.at i) ↔ (x.run i j ≡ true))
      × (20 ≤ j → j < k → In j asked → In j (slice_index m.worlds.at i) ↔ Waits x.run i (waited j))
      × (k ≤ j → 20 ≤ j → In j (slice_index m.worlds.at i) → ⊥)

-- by the worlds, the literal is true after moment i; or it is untrue from i on
abbrev pub Comes : List ℕ → ℕ → Literal → ℕ → Type 0
Comes ws lead l i = (j : ℕ) × (j < length ws) × ((i < j) ⊎ (lead ≤ j)) × (true_in (slice_index ws j) l ≡ true)

abbrev pub Gone : List ℕ → ℕ → Literal → ℕ → Type 0
Gone ws lead l i = (j : ℕ) → j < length ws → (i ≤ j) ⊎ (lead ≤ j) → true_in (slice_index ws j) l ≡ false

-- what the worlds tell of a clause: none, or the first moment at which they break it
abbrev pub Judged : List ℕ → ℕ → Clause → Option ℕ → Type 0
Judged ws lead (Initial n) o = FirstIn (λ i. UntrueIn (slice_index ws i) n) 0 1 o
Judged ws lead (Global n x) o = FirstIn (BreaksAt ws lead n x) 0 (length ws) o
Judged ws lead (Eventuality n l) o = FirstIn (λ i. UntrueIn (slice_index ws i) n × Gone ws lead l i) 0 (length ws) o
Judged ws lead (Assumption x) o = FirstIn (BreaksAt ws lead none x) 0 (length ws) o
Judged ws lead (Never n l) o = FirstIn (λ i. UntrueIn (slice_index ws i) n × Comes ws lead l i) 0 (length ws) o
