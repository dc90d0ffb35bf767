-- The sweep from line n down.
use Rattle.std.proofs.Common.{◌≡◌, ℕ, ◌-◌, ◌<◌, ◌≤◌, Bool, true, false, List, length, get_or, set, replicate, sym, refl, subst, ⊎_elim, arith}
use Rattle.std.proofs.lemmas.List.{length-replicate, get_or-replicate, get_or_past}
use Rattle.std.proofs.lemmas.Bool.{cases_eq, cases_lt, both_ways}
use Rattle.protocol.specs.State.{Line, line_at}
use Rattle.protocol.specs.Cores.{Cites, Reaches, itself, through}
use Rattle.cores.specs.Marks.{Marked, IsIn, MarkedToo, Reached}
use Rattle.cores.proofs.Marking.{marked_set, marked_set_only}

-- the lines above k are swept
pub record Swept (ls : List Line) (n k : ℕ) (ms : List Bool) : Type 0 where
  pub start : Marked ms n
  pub only : (m : ℕ) → Marked ms m → Reaches ls n m
  pub closed : (j m : ℕ) → k < j → Marked ms j → Cites ls j m → Marked ms m

reaches_push : (ls : List Line) {n m : ℕ} (k : ℕ) → Reaches ls n m → Cites ls m k → Reaches ls n k
reaches_push ls k itself c = through c itself
reaches_push ls k (through a q) c = through a (reaches_push ls k q c)

none_marked : (c m : ℕ) → ¬ Marked (replicate c false) m
none_marked c m p = ⊎_elim
    (λ h. both_ways _ (get_or-replicate c m false false h) p)
    (λ h. both_ways _ (get_or_past (replicate c false) m false (omega (arith, length-replicate c false))) p)
    (cases_lt m c)

module _ (ls : List Line) (n : ℕ) where
  pub sweep_start : (c : ℕ) → n < c → Swept ls n n (set (replicate c false) n true)
  sweep_start c h =
      let l : n < length (replicate c false) = omega (arith, length-replicate c false) in
      let one : (m : ℕ) → Marked (set (replicate c false) n true) m → n ≡ m = λ m p. ⊎_elim (λ q. absurd (none_marked c m q)) (λ e. e) (marked_set_only _ n m l p) in
      record {
        start = marked_set _ n n l refl;
        only = λ m p. subst (Reaches ls n) (one m p) itself;
        closed = λ j m q p. absurd (omega (arith, one j p));
      }

  pub sweep_skip : (k : ℕ) (ms : List Bool) → 1 ≤ k → get_or ms k false ≡ false → Swept ls n k ms → Swept ls n (k - 1) ms
  sweep_skip k ms h e q = record {
    start = q.start;
    only = q.only;
    closed = λ j m l p c. ⊎_elim (λ z. absurd (both_ways _ e (subst (Marked ms) z p))) (λ z. q.closed j m (omega arith) p c) (cases_eq j k);
  }

  pub sweep_mark : (k : ℕ) (cs : List ℕ) (ms ms' : List Bool) → 1 ≤ k → Marked ms k → cs ≡ (line_at ls k).cites → MarkedToo cs k ms ms' → Swept ls n k ms → Swept ls n (k - 1) ms'
  sweep_mark k cs ms ms' h e is too q = record {
    start = too.kept n q.start;
    only = λ m p. ⊎_elim (λ p'. q.only m p') (λ c. reaches_push ls m (q.only k e) (subst (λ ns. IsIn ns m) is c.0, c.1)) (too.only m p);
    closed = λ j m l p c. ⊎_elim
        (λ z. too.more m (subst (λ ns. IsIn ns m) (sym is) (subst (λ i. Cites ls i m) z c).0) (omega arith))
        (λ z. ⊎_elim (λ p'. too.kept m (q.closed j m (omega arith) p' c)) (λ b. absurd (omega arith)) (too.only j p))
        (cases_eq j k);
  }

  all_closed : (ms : List Bool) → ((j m : ℕ) → 0 < j → Marked ms j → Cites ls j m → Marked ms m) → {a b : ℕ} → Reaches ls a b → Marked ms a → Marked ms b
  all_closed ms f itself p = p
  all_closed ms f (through {n = a} {m = m} c q) p = all_closed ms f q (f a m (omega arith) p c)

  pub sweep_end : (k : ℕ) (ms : List Bool) → k ≡ 0 → Swept ls n k ms → Reached ls n ms
  sweep_end k ms e q = record { only = q.only; whole = λ m p. all_closed ms (λ j m' h. q.closed j m' (omega arith)) p q.start }
