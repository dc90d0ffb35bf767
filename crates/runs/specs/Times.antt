-- What a timetable means.
use Rattle.std.specs.Prelude.{◌≡◌, ℕ, ◌+◌, ◌-◌, ◌*◌, ◌/◌, ◌%◌, ◌≤◌, true, Some, None, Option, ◌==◌, nat_le, slice_index_or, refl}
use Rattle.std.proofs.Common.{ap, ◌∙◌, arith, div-add-mod'}
use Rattle.std.proofs.Math.Nat.{add-mul-mod_self_right}
use Rattle.std.proofs.lemmas.Bool.{le-leb, leb-true, eqb-true, and_parts}
use Rattle.runs.specs.Source.{Source}
use Rattle.runs.specs.declared.task.Task.{Task}
use Rattle.runs.specs.declared.timetable.Timetable.{Timetable}
use Rattle.runs.specs.Tasks.{due_at, covers}

mod_multiple : (a m p : ℕ) → m % p ≡ 0 → (a + m) % p ≡ a % p
mod_multiple a m p h = let e : m ≡ m / p * p = omega (arith, div-add-mod' m p) in ap (λ n. (a + n) % p) e ∙ add-mul-mod_self_right a (m / p) p

pub again_due : (o : Option Task) (lead turn i : ℕ) → covers lead turn o ≡ true → lead ≤ i → due_at o (i + turn) ≡ due_at o i
again_due None lead turn i c h = refl
again_due (Some t) lead turn i c h =
    let p = and_parts (nat_le t.offset lead) (turn % t.period == 0) c in
    let a = leb-true t.offset lead p.0 in
    let l : t.offset ≤ i = omega arith in
    let l' : t.offset ≤ i + turn = omega arith in
    let e : (i + turn) - t.offset ≡ (i - t.offset) + turn = omega arith in
    rw (le-leb t.offset (i + turn) l', le-leb t.offset i l, e, mod_multiple (i - t.offset) turn t.period (eqb-true _ 0 p.1))

abbrev pub means : Timetable → Source
means t = record {
  run = λ i k. due_at (slice_index_or t.tasks k None) i;
  lead = t.lead;
  loop_length = t.turn;
  turns = t.turns;
  small = t.small;
  agrees = λ i k h. again_due (slice_index_or t.tasks k None) t.lead t.turn i (t.covered k) h;
}
