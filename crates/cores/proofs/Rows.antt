-- The row of marked numbers.
use Rattle.std.proofs.Common.{◌≡◌, ℕ, zero, suc, ◌+◌, ◌-◌, ◌<◌, ◌≤◌, Bool, false, cond, List, [], ◌∷◌, ◌++◌, length, get_or, take, drop, set, replicate, sym, refl, ap, ◌∙◌, subst, inl, inr, ⊎_elim, add-one, arith}
use borrow.Rule.Slice.PartMut.{put_mid}
use Rattle.std.proofs.lemmas.List.{append-nil, drop_all, length-replicate, length-take-le, length-drop, length_push, take_more_set}
use Rattle.std.proofs.lemmas.List.Edits.{paste_all}
use Rattle.std.proofs.lemmas.Slice.{put_mid-paste}
use Rattle.std.proofs.lemmas.Bool.{cases_Bool, cases_eq}
use Rattle.protocol.specs.Cores.{Rising, padded}
use Rattle.cores.specs.Marks.{Marked, IsIn, marked_to}
use Rattle.cores.proofs.Marking.{in_left, in_last, in_push}

-- one more number, marked or not
pub to_marked : (ms : List Bool) (n : ℕ) → Marked ms (n + 1) → marked_to ms (n + 1) ≡ marked_to ms n ++ ((n + 1) ∷ [])
to_marked ms n p = rw (add-one n) (ap (λ (b : Bool). marked_to ms n ++ cond b (suc n ∷ []) []) (subst (Marked ms) (add-one n) p))

pub to_unmarked : (ms : List Bool) (n : ℕ) → get_or ms (n + 1) false ≡ false → marked_to ms (n + 1) ≡ marked_to ms n
to_unmarked ms n p = rw (add-one n) (ap (λ (b : Bool). marked_to ms n ++ cond b (suc n ∷ []) []) (subst (λ m. get_or ms m false ≡ false) (add-one n) p) ∙ append-nil (marked_to ms n))

-- what the numbers are
pub to_low : (ms : List Bool) (n m : ℕ) → IsIn (marked_to ms n) m → (1 ≤ m) × (m ≤ n) × Marked ms m
to_low ms zero m p = absurd p
to_low ms (suc n) m p = ⊎_elim
    (λ e. ⊎_elim (λ q. let r = to_low ms n m q in (r.0, omega arith, r.2)) (λ q. (omega arith, omega arith, subst (Marked ms) q e))
    (in_push (marked_to ms n) (suc n) m (subst (λ (b : Bool). IsIn (marked_to ms n ++ cond b (suc n ∷ []) []) m) e p)))
    (λ e. let r = to_low ms n m (subst (λ ns. IsIn ns m) (append-nil _) (subst (λ (b : Bool). IsIn (marked_to ms n ++ cond b (suc n ∷ []) []) m) e p)) in (r.0, omega arith, r.2))
    (cases_Bool (get_or ms (suc n) false))

pub to_whole : (ms : List Bool) (n m : ℕ) → 1 ≤ m → m ≤ n → Marked ms m → IsIn (marked_to ms n) m
to_whole ms zero m h k p = omega arith
to_whole ms (suc n) m h k p = ⊎_elim
    (λ e. subst (λ (b : Bool). IsIn (marked_to ms n ++ cond b (suc n ∷ []) []) m) (sym (subst (Marked ms) e p)) (in_last (marked_to ms n) (suc n) m (sym e)))
    (λ e. let q = to_whole ms n m h (omega arith) p in ⊎_elim
    (λ b. subst (λ (b : Bool). IsIn (marked_to ms n ++ cond b (suc n ∷ []) []) m) (sym b) (in_left (marked_to ms n) (suc n) m q))
    (λ b. subst (λ (b : Bool). IsIn (marked_to ms n ++ cond b (suc n ∷ []) []) m) (sym b) (subst (λ ns. IsIn ns m) (sym (append-nil _)) q))
    (cases_Bool (get_or ms (suc n) false)))
    (cases_eq m (suc n))

rising_push : (ns : List ℕ) (x : ℕ) → Rising ns → ((m : ℕ) → IsIn ns m → m < x) → Rising (ns ++ (x ∷ []))
rising_push [] x r h = tt
rising_push (n ∷ []) x r h = (h n (inl refl), tt)
rising_push (n ∷ m ∷ ms) x r h = (r.0, rising_push (m ∷ ms) x r.1 (λ k p. h k (inr p)))

pub to_rising : (ms : List Bool) (n : ℕ) → Rising (marked_to ms n)
to_rising ms zero = tt
to_rising ms (suc n) = ⊎_elim
    (λ b. subst (λ (b : Bool). Rising (marked_to ms n ++ cond b (suc n ∷ []) [])) (sym b) (rising_push (marked_to ms n) (suc n) (to_rising ms n) (λ m p. let q = to_low ms n m p in omega arith)))
    (λ b. subst (λ (b : Bool). Rising (marked_to ms n ++ cond b (suc n ∷ []) [])) (sym b) (subst Rising (sym (append-nil (marked_to ms n))) (to_rising ms n)))
    (cases_Bool (get_or ms (suc n) false))

-- a row whose first places hold the marked numbers to n
abbrev pub Holding : List Bool → ℕ → ℕ → List ℕ → Type 0
Holding ms n count row = (count ≤ n) × (count ≡ length (marked_to ms n)) × (take count row ≡ marked_to ms n)

module _ (ms : List Bool) (m count : ℕ) (row : List ℕ) (h : 1 ≤ m) (q : Holding ms (m - 1) count row) where
  pub holding_more : Marked ms m → count < length row → Holding ms (m + 1 - 1) (count + 1) (set row count m)
  holding_more p l =
      let n = m - 1 in
      let e : m ≡ n + 1 = omega arith in
      let z : n + 1 ≡ m + 1 - 1 = omega arith in
      let em = to_marked ms n (subst (Marked ms) e p) in
      let len = length_push (marked_to ms n) (n + 1) in
      subst (λ k. Holding ms k (count + 1) (set row count m)) z (
        omega arith,
        omega (arith, ap length em),
        take_more_set row count m l ∙ ap (λ ns. ns ++ (m ∷ [])) q.2 ∙ ap (λ x. marked_to ms n ++ (x ∷ [])) e ∙ sym em,
      )

  pub holding_same : get_or ms m false ≡ false → Holding ms (m + 1 - 1) count row
  holding_same p =
      let n = m - 1 in
      let e : m ≡ n + 1 = omega arith in
      let z : n + 1 ≡ m + 1 - 1 = omega arith in
      let em = to_unmarked ms n (subst (λ k. get_or ms k false ≡ false) e p) in
      subst (λ k. Holding ms k count row) z (omega arith, q.1 ∙ sym (ap length em), q.2 ∙ sym em)

-- zeros in all places after these
pub row_filled : (row ys ns : List ℕ) (count : ℕ) → length row ≡ 200 → count ≤ 200 → count ≡ length ns → ys ≡ replicate (length (take (length row - count) (drop count row))) 0 → take count row ≡ ns → put_mid count (length row - count) row ys ≡ padded ns
row_filled row ys ns count l h e w f =
    let k = length row - count in
    let m : length (take k (drop count row)) ≡ k = length-take-le k (drop count row) (omega (arith, length-drop count row)) in
    let z : count + k ≡ length row = omega arith in
    let d : k ≡ 200 - length ns = omega arith in
    put_mid-paste count k row ys (replicate k 0) k (w ∙ ap (λ j. replicate j 0) m) refl (sym (length-replicate k 0))
    ∙ paste_all row count (replicate k 0) k (sym (length-replicate k 0))
    ∙ ap (λ zs. take count row ++ (replicate k 0 ++ zs)) (drop_all (count + k) row (omega arith))
    ∙ ap (λ zs. take count row ++ zs) (append-nil (replicate k 0))
    ∙ ap (λ zs. zs ++ replicate k 0) f ∙ ap (λ j. ns ++ replicate j 0) d
