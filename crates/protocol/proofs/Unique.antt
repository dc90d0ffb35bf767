-- Every call has at most one answer, and leaves at most one state (no part of the promise: a check of the definitions).
use Rattle.std.proofs.Common.{◌≡◌, ℕ, ◌+◌, ◌<◌, ◌≤◌, ◌⊎◌, List, [], ◌∷◌, length, sym, refl, ap, ◌∙◌, subst, inl, inr, ⊎_elim, arith}
use Rattle.std.proofs.lemmas.Bool.{cases_order}
use Rattle.clause.specs.Meaning.{Run}
use Rattle.clause.specs.declared.refusal.Fault.{Fault}
use Rattle.clause.specs.declared.refusal.Refusal.{Refusal}
use Rattle.clause.specs.declared.syntax.LitSet.{LitSet}
use Rattle.protocol.specs.Answers.{Result, Answered, Adds, Added, added}
use Rattle.protocol.specs.Calls.{Call, Answer, give, seal, infer, wait_line, wait_literal, open_loop, close, abandon, draw, draw_alone, refute, show, number, core, shown, refused}
use Rattle.protocol.specs.Causes.{Cause, if, First, NoneOf, causes, SomeIn, Unfit, LowestBroken}
use Rattle.protocol.specs.Cores.{Rising, IsCore, padded}
use Rattle.protocol.specs.State.{Line, State}

abbrev Sharp : List Cause → Type 0
Sharp [] = Unit {0}
Sharp (P ∷ Ps) = ((f g : Fault) → P f → P g → f ≡ g) × Sharp Ps

one_fault : (Ps : List Cause) → Sharp Ps → (f g : Fault) → First Ps f → First Ps g → f ≡ g
one_fault [] s f g a b = absurd a
one_fault (P ∷ Ps) s f g (inl a) (inl b) = s.0 f g a b
one_fault (P ∷ Ps) s f g (inl a) (inr b) = absurd (b.0 f a)
one_fault (P ∷ Ps) s f g (inr a) (inl b) = absurd (a.0 g b)
one_fault (P ∷ Ps) s f g (inr a) (inr b) = one_fault Ps s.1 f g a.1 b.1

not_both : (Ps : List Cause) (f : Fault) → First Ps f → NoneOf Ps → ⊥
not_both [] f a n = a
not_both (P ∷ Ps) f (inl a) n = n.0 f a
not_both (P ∷ Ps) f (inr a) n = not_both Ps f a.1 n.1

sharp_if : (P : Type 0) (n : Refusal) (f g : Fault) → if P n f → if P n g → f ≡ g
sharp_if P n f g a b = a.1 ∙ sym b.1

one_unfit : (ls : List Line) (k : ℕ) (ns : List ℕ) (gs : List LitSet) (p q : ℕ) → Unfit ls k ns gs p → Unfit ls k ns gs q → p ≡ q
one_unfit ls k [] gs p q a b = absurd a
one_unfit ls k (n ∷ ns) [] p q a b = absurd a
one_unfit ls k (n ∷ ns) (g ∷ gs) p q (inl a) (inl b) = a.1 ∙ sym b.1
one_unfit ls k (n ∷ ns) (g ∷ gs) p q (inl a) (inr b) = absurd (a.0 b.0)
one_unfit ls k (n ∷ ns) (g ∷ gs) p q (inr a) (inl b) = absurd (b.0 a.0)
one_unfit ls k (n ∷ ns) (g ∷ gs) p q (inr a) (inr b) = one_unfit ls (k + 1) ns gs p q a.1 b.1

one_line : (s : State) (r : Run) (n i m j : ℕ) → LowestBroken s r n i → LowestBroken s r m j → n ≡ m
one_line s r n i m j a b = ⊎_elim (λ e. e) (⊎_elim (λ h. absurd (b.4 n a.0 h i a.2)) (λ h. absurd (a.4 m b.0 h j b.2))) (cases_order n m)

one_moment : (s : State) (r : Run) (n i j : ℕ) → LowestBroken s r n i → LowestBroken s r n j → i ≡ j
one_moment s r n i j a b = ⊎_elim (λ e. e) (⊎_elim (λ h. absurd (b.3 i h a.2)) (λ h. absurd (a.3 j h b.2))) (cases_order i j)

sharp : (s : State) (c : Call) → Sharp (causes s c)
sharp s (give c) = (sharp_if _ _, (sharp_if _ _, tt))
sharp s seal = tt
sharp s (infer b ns) = (
  (λ f g x y. let e = x.1 in let e' = y.1 in let u = x.2 in let v = y.2 in cc),
  (
    sharp_if _ _,
    (
      sharp_if _ _,
      ((λ f g x y. let e = x.1 in let e' = y.1 in let u = x.2 in let v = y.2 in cc), (sharp_if _ _, (sharp_if _ _, tt))),
    ),
  ),
)
sharp s (wait_line _) = (sharp_if _ _, (sharp_if _ _, (sharp_if _ _, (sharp_if _ _, tt))))
sharp s (wait_literal _) = (sharp_if _ _, (sharp_if _ _, tt))
sharp s (open_loop _ _) = (sharp_if _ _, (sharp_if _ _, (sharp_if _ _, tt)))
sharp s (close ns) = (
  sharp_if _ _,
  (
    sharp_if _ _,
    (
      sharp_if _ _,
      (
        sharp_if _ _,
        ((λ f g x y. let e = one_unfit s.lines 1 ns _ x.0 y.0 x.1 y.1 in let u = x.2 in let v = y.2 in cc), (sharp_if _ _, tt)),
      ),
    ),
  ),
)
sharp s abandon = tt
sharp s (draw _ _) = (sharp_if _ _, (sharp_if _ _, (sharp_if _ _, (sharp_if _ _, (sharp_if _ _, tt)))))
sharp s (draw_alone _) = (sharp_if _ _, (sharp_if _ _, (sharp_if _ _, (sharp_if _ _, tt))))
sharp s (refute _ _) = (sharp_if _ _, (sharp_if _ _, (sharp_if _ _, (sharp_if _ _, (sharp_if _ _, tt)))))
sharp s (show x) = (
  (λ f g a b.
      let e = one_line s x.run a.0 a.1 b.0 b.1 a.2 b.2 in
      let e' = one_moment s x.run b.0 a.1 b.1 (subst (λ n. LowestBroken s x.run n a.1) e a.2) b.2 in
      let u = a.3 in let v = b.3 in cc),
  tt,
)

-- rising lists with the same elements
abbrev Has : List ℕ → ℕ → Type 0
Has ns m = SomeIn (λ k. k ≡ m) ns

pub rising_tail : (n : ℕ) (ns : List ℕ) → Rising (n ∷ ns) → Rising ns
rising_tail n [] r = tt
rising_tail n (m ∷ ms) r = r.1

pub above : (n : ℕ) (ns : List ℕ) → Rising (n ∷ ns) → (m : ℕ) → Has ns m → n < m
above n [] r m h = absurd h
above n (k ∷ ks) r m (inl e) = let q = r.0 in omega arith
above n (k ∷ ks) r m (inr h) = let q = r.0 in omega (arith, above k ks r.1 m h)

same_rising : (ns ms : List ℕ) → Rising ns → Rising ms → ((k : ℕ) → Has ns k → Has ms k) → ((k : ℕ) → Has ms k → Has ns k) → ns ≡ ms
same_rising [] [] r q f g = refl
same_rising [] (m ∷ ms) r q f g = absurd (g m (inl refl))
same_rising (n ∷ ns) [] r q f g = absurd (f n (inl refl))
same_rising (n ∷ ns) (m ∷ ms) r q f g =
    let a : n ≤ m = ⊎_elim (λ e. omega arith) (λ h. omega (arith, above n ns r m h)) (g m (inl refl)) in
    let b : m ≤ n = ⊎_elim (λ e. omega arith) (λ h. omega (arith, above m ms q n h)) (f n (inl refl)) in
    let e : n ≡ m = omega arith in
    let t = same_rising ns ms (rising_tail n ns r) (rising_tail m ms q)
    (λ k h. ⊎_elim (λ z. absurd (omega (arith, above n ns r k h))) (λ z. z) (f k (inr h)))
    (λ k h. ⊎_elim (λ z. absurd (omega (arith, above m ms q k h))) (λ z. z) (g k (inr h))) in
    cc

one_core : (s : State) (n : ℕ) (ns ms : List ℕ) → IsCore s n ns → IsCore s n ms → ns ≡ ms
one_core s n ns ms a b = same_rising ns ms a.rising b.rising
    (λ k h. let w = a.within k h in b.whole k w.0 w.1 w.2)
    (λ k h. let w = b.within k h in a.whole k w.0 w.1 w.2)

one_added : (s : State) (c : Call) → ((y z : Line) → Adds s c y → Adds s c z → y ≡ z) → (a b : Answer) (t u : State) → Added s c a t → Added s c b u → (a ≡ b) × (t ≡ u)
one_added s c f a b t u x y = (x.2 ∙ sym y.2, x.3 ∙ ap (λ (l : Line). added s (l ∷ [])) (f x.0 y.0 x.1 y.1) ∙ sym y.3)

one_result : (s : State) (c : Call) (a b : Answer) (t u : State) → Result s c a t → Result s c b u → (a ≡ b) × (t ≡ u)
one_result s (give c) a b t u x y = (x.0 ∙ sym y.0, x.1 ∙ sym y.1)
one_result s seal a b t u x y = (x.0 ∙ sym y.0, x.1 ∙ sym y.1)
one_result s (infer k ns) a b t u x y = one_added s (infer k ns) (λ v w p q. let e = p.2 in let e' = q.2 in let f = p.3 in let f' = q.3 in cc) a b t u x y
one_result s (wait_line n) a b t u x y = one_added s (wait_line n) (λ v w p q. p ∙ sym q) a b t u x y
one_result s (wait_literal l) a b t u x y = one_added s (wait_literal l) (λ v w p q. p ∙ sym q) a b t u x y
one_result s (open_loop l gs) a b t u x y = (x.0 ∙ sym y.0, x.1 ∙ sym y.1)
one_result s (close ns) a b t u x y = (x.0 ∙ sym y.0, x.1 ∙ sym y.1)
one_result s abandon a b t u x y = (x.0 ∙ sym y.0, x.1 ∙ sym y.1)
one_result s (draw n m) a b t u x y = one_added s (draw n m) (λ v w p q. p ∙ sym q) a b t u x y
one_result s (draw_alone n) a b t u x y = one_added s (draw_alone n) (λ v w p q. p ∙ sym q) a b t u x y
one_result s (refute n row) a b t u x y =
    let e = one_core s n x.0 y.0 x.1 y.1 in
    (x.2 ∙ ap (λ ns. core (padded ns) (length ns)) e ∙ sym y.2, x.3 ∙ sym y.3)
one_result s (show z) a b t u x y = (x.0 ∙ sym y.0, x.1 ∙ sym y.1)

Taken : State → Call → Answer → State → Type 0
Taken s c a t = ((f : Fault) × (a ≡ refused f) × First (causes s c) f × (t ≡ s)) ⊎ (NoneOf (causes s c) × Result s c a t)

taken : (s : State) (c : Call) (a : Answer) (t : State) → Answered s c a t → Taken s c a t
unfolding Taken
taken s c (refused f) t q = inl (f, refl, q.0, q.1)
taken s c (number n) t q = inr q
taken s c (core r n) t q = inr q
taken s c (shown i n) t q = inr q

pub one_answer : (s : State) (c : Call) (a b : Answer) (t u : State) → Answered s c a t → Answered s c b u → (a ≡ b) × (t ≡ u)
unfolding Taken
one_answer s c a b t u x y = go (taken s c a t x) (taken s c b u y)
  where
    go : Taken s c a t → Taken s c b u → (a ≡ b) × (t ≡ u)
    go (inl p) (inl q) = (p.1 ∙ ap refused (one_fault (causes s c) (sharp s c) p.0 q.0 p.2 q.2) ∙ sym q.1, p.3 ∙ sym q.3)
    go (inl p) (inr q) = absurd (not_both (causes s c) p.0 p.2 q.0)
    go (inr p) (inl q) = absurd (not_both (causes s c) q.0 q.2 p.0)
    go (inr p) (inr q) = one_result s c a b t u p.1 q.1
