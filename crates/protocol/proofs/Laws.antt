-- Why each rule is sound of every run.
use Rattle.std.proofs.Common.{◌≡◌, ℕ, zero, suc, ◌+◌, ◌-◌, ◌≤◌, List, [], ◌∷◌, arith}
use Rattle.std.proofs.ByRecursion.{All-weaker}
use Rattle.std.specs.List.{AllByRecursion}
use Rattle.clause.specs.Sets.{waits_set, waits_not_set}
use Rattle.clause.proofs.Truths.{untrue_left, untrue_right, untrue_just, untrue_waits, untrue_waits_not, later}
use Rattle.clause.specs.Meaning.{Run, PlainTrue, Untrue, Unbroken, Keeps, none, just, ◌∪◌}
use Rattle.clause.specs.declared.syntax.Clause.TheVariants.{Global, Eventuality, Assumption, Never}
use Rattle.clause.specs.declared.syntax.LitSet.{LitSet}
use Rattle.clause.specs.declared.syntax.Literal.{Literal}

-- the rules
pub wait_law : (r : Run) (c : LitSet) (l : Literal) → l.letter ≤ 19 → Keeps r (Eventuality c l) → Keeps r (Global (c ∪ (just l ∪ waits_set l)) none)
wait_law r c l h k i b =
    let uc = untrue_left r i c (just l ∪ waits_set l) b.0 in
    let ur = untrue_right r i c (just l ∪ waits_set l) b.0 in
    let nl = untrue_just r i l h (untrue_left r i (just l) (waits_set l) ur) in
    let nw = untrue_waits r i l h (untrue_right r i (just l) (waits_set l) ur) in
    k i (uc, λ j q p. nw (nl, (j, later r i j l nl q p, p)))

pub wait_literal_law : (r : Run) (l : Literal) → l.letter ≤ 19 → Keeps r (Global (waits_not_set l) (just l ∪ waits_set l))
wait_literal_law r l h i b =
    let nl = untrue_just r (i + 1) l h (untrue_left r (i + 1) (just l) (waits_set l) b.1) in
    let nw = untrue_waits r (i + 1) l h (untrue_right r (i + 1) (just l) (waits_set l) b.1) in
    untrue_waits_not r i l h b.0 (λ w. nw (nl, (w.1.0, later r (i + 1) w.1.0 l nl (omega arith) w.1.2, w.1.2)))

pub draw_law : (r : Run) (g c : LitSet) (l : Literal) → l.letter ≤ 19 → Keeps r (Never g l) → Keeps r (Eventuality c l) → Keeps r (Global (c ∪ (just l ∪ g)) none)
draw_law r g c l h kn ke i b =
    let uc = untrue_left r i c (just l ∪ g) b.0 in
    let ur = untrue_right r i c (just l ∪ g) b.0 in
    let nl = untrue_just r i l h (untrue_left r i (just l) g ur) in
    let ug = untrue_right r i (just l) g ur in
    ke i (uc, λ j q p. kn i (ug, (j, later r i j l nl q p, p)))

pub draw_alone_law : (r : Run) (g : LitSet) (l : Literal) → l.letter ≤ 19 → Keeps r (Never g l) → Keeps r (Global (waits_not_set l) (just l ∪ g))
draw_alone_law r g l h kn i b =
    let nl = untrue_just r (i + 1) l h (untrue_left r (i + 1) (just l) g b.1) in
    let ug = untrue_right r (i + 1) (just l) g b.1 in
    untrue_waits_not r i l h b.0 (λ w. kn (i + 1) (ug, (w.1.0, later r (i + 1) w.1.0 l nl (omega arith) w.1.2, w.1.2)))

-- the loop rule: where a guard of the loop is untrue, not all of the loop's assumptions stand
abbrev pub Stand : Run → ℕ → Literal → List LitSet → Type 0
Stand r i l gs = AllByRecursion (λ g. Unbroken r i (Assumption (g ∪ just l))) gs

abbrev pub Covered : Run → Literal → List LitSet → LitSet → Type 0
Covered r l gs g = (i : ℕ) → Untrue r i g → ¬ Stand r i l gs

all_of : {X : Type 0} (P : X → Type 0) → ((x : X) → P x) → (xs : List X) → AllByRecursion P xs
all_of P f [] = tt
all_of P f (x ∷ xs) = (f x, all_of P f xs)

away : (r : Run) (l : Literal) → l.letter ≤ 19 → (gs : List LitSet) → AllByRecursion (Covered r l gs) gs → (d : ℕ) → AllByRecursion (λ g. (i : ℕ) → Untrue r i g → ¬ PlainTrue r (i + 1 + d) l) gs
away r l h gs cs zero = All-weaker _ _ (λ g c i u p. c i u (all_of _ (λ g' b. untrue_just r (i + 1) l h (untrue_right r (i + 1) g' (just l) b) (rw (← at_zero i) p)) gs)) gs cs
  where
    at_zero : (i : ℕ) → i + 1 + 0 ≡ i + 1
    at_zero i = omega arith
away r l h gs cs (suc d) = All-weaker _ _ (λ g c i u p. c i u (All-weaker _ _ (λ g' n b. n (i + 1) (untrue_left r (i + 1) g' (just l) b) (rw (← at_suc i) p)) gs (away r l h gs cs d))) gs cs
  where
    at_suc : (i : ℕ) → i + 1 + suc d ≡ i + 1 + 1 + d
    at_suc i = omega arith

pub close_law : (r : Run) (l : Literal) → l.letter ≤ 19 → (gs : List LitSet) → AllByRecursion (Covered r l gs) gs → AllByRecursion (λ g. Keeps r (Never g l)) gs
close_law r l h gs cs = all_of_all gs (away r l h gs cs)
  where
    one : (g : LitSet) → ((d i : ℕ) → Untrue r i g → ¬ PlainTrue r (i + 1 + d) l) → Keeps r (Never g l)
    one g f i b =
        let j = b.1.0 in
        let e : i + 1 + (j - (i + 1)) ≡ j = omega arith in
        f (j - (i + 1)) i b.0 (rw e b.1.2)

    all_of_all : (xs : List LitSet) → ((d : ℕ) → AllByRecursion (λ g. (i : ℕ) → Untrue r i g → ¬ PlainTrue r (i + 1 + d) l) xs) → AllByRecursion (λ g. Keeps r (Never g l)) xs
    all_of_all [] f = tt
    all_of_all (x ∷ xs) f = (one x (λ d. (f d).0), all_of_all xs (λ d. (f d).1))
