-- Given lines stay at most 200, and lines at most 1,000.
use Rattle.std.proofs.Common.{◌≡◌, ℕ, ◌+◌, ◌-◌, ◌<◌, ◌≤◌, List, [], ◌∷◌, ◌++◌, map, length, sym, refl, ◌∙◌, subst, ⊎_elim, arith}
use Rattle.std.proofs.lemmas.Bool.{cases_eq}
use Rattle.clause.specs.declared.syntax.Clause.{Clause}
use Rattle.std.proofs.lemmas.List.{length-append, length-map, length-take}
use Rattle.clause.specs.declared.refusal.Refusal.TheVariants.{NoRoom, WrongCount}
use Rattle.protocol.specs.State.{Line, Stage, intake, sealed, loop, State, last, guards_of, loop_literal, loop_first}
use Rattle.protocol.specs.Calls.{Call, give, seal, infer, wait_line, wait_literal, open_loop, close, abandon, draw, draw_alone, refute, show, Answer, number, core, shown, refused, Exists}
use Rattle.protocol.specs.Causes.{NoneOf, causes}
use Rattle.protocol.specs.Answers.{Result, Answered, assumed, nevers}
use Rattle.protocol.proofs.Invariant.{IsIntake, Inv}
use Rattle.protocol.proofs.Steps.{not_due}

abbrev pub Room : State → Type 0
Room s = (s.given ≤ 200) × (last s ≤ 1000)

-- lines added where there was room for them
added_room : (st : Stage) (g m : ℕ) (ls xs : List Line) → ¬ (1000 < length ls + m) → length xs ≡ m → g ≤ 200 → Room (record { stage = st; given = g; lines = ls ++ xs })
added_room st g m ls xs n e h = (h, omega (arith, length-append ls xs))

give_room : (st : Stage) (g : ℕ) (ls : List Line) (x : Line) → Inv st g ls → IsIntake st → ¬ (200 ≤ g) → Room (record { stage = intake; given = g + 1; lines = ls ++ (x ∷ []) })
give_room st g ls x inv i n = let e = inv.all_given i in (omega arith, omega (arith, length-append ls (x ∷ [])))

given_in : (st : Stage) (c : Clause) → Exists st (give c) → IsIntake st
given_in intake c x = tt
given_in sealed c x = absurd x
given_in (loop _ _ _) c x = absurd x

accepted_room : (s : State) (c : Call) (a : Answer) (t : State) → Inv s.stage s.given s.lines → Exists s.stage c → NoneOf (causes s c) → Result s c a t → Room s → Room t
accepted_room s (give c) a t inv x n q m = subst Room (sym q.1) (give_room s.stage s.given s.lines _ inv (given_in s.stage c x) (not_due _ NoRoom n.1.0))
accepted_room s seal a t inv x n q m = subst Room (sym q.1) m
accepted_room s (infer b ns) a t inv x n q m = subst Room (sym q.3) (added_room sealed s.given 1 s.lines _ (not_due _ NoRoom n.1.1.1.1.1.0) refl m.0)
accepted_room s (wait_line k) a t inv x n q m = subst Room (sym q.3) (added_room sealed s.given 1 s.lines _ (not_due _ NoRoom n.1.1.1.0) refl m.0)
accepted_room s (wait_literal l) a t inv x n q m = subst Room (sym q.3) (added_room sealed s.given 1 s.lines _ (not_due _ NoRoom n.1.0) refl m.0)
accepted_room s (open_loop l gs) a t inv x n q m = subst Room (sym q.1) (added_room sealed s.given (length gs) s.lines (map (assumed l) gs) (not_due _ NoRoom n.1.1.0) (length-map gs (assumed l)) m.0)
accepted_room s (close ns) a t inv x n q m =
    let gs = guards_of s.stage in
    subst Room (sym q.1) (added_room sealed s.given (length ns) s.lines (map (nevers (loop_literal s.stage) ns) gs) (not_due _ NoRoom n.1.1.1.1.1.0)
    (⊎_elim (λ e. length-map gs (nevers (loop_literal s.stage) ns) ∙ sym e) (λ e. absurd (not_due _ WrongCount n.0 e)) (cases_eq (length ns) (length gs))) m.0)
accepted_room s abandon a t inv x n q m = subst Room (sym q.1) (m.0, omega (arith, m.1, length-take (loop_first s.stage - 1) s.lines))
accepted_room s (draw k l) a t inv x n q m = subst Room (sym q.3) (added_room sealed s.given 1 s.lines _ (not_due _ NoRoom n.1.1.1.1.0) refl m.0)
accepted_room s (draw_alone k) a t inv x n q m = subst Room (sym q.3) (added_room sealed s.given 1 s.lines _ (not_due _ NoRoom n.1.1.1.0) refl m.0)
accepted_room s (refute k row) a t inv x n q m = subst Room (sym q.3) m
accepted_room s (show y) a t inv x n q m = subst Room (sym q.1) m

pub room_step : (s : State) (c : Call) (a : Answer) (t : State) → Inv s.stage s.given s.lines → Exists s.stage c → Answered s c a t → Room s → Room t
room_step s c (refused f) t inv x q m = subst Room (sym q.1) m
room_step s c (number n) t inv x q m = accepted_room s c (number n) t inv x q.0 q.1 m
room_step s c (core row n) t inv x q m = accepted_room s c (core row n) t inv x q.0 q.1 m
room_step s c (shown i n) t inv x q m = accepted_room s c (shown i n) t inv x q.0 q.1 m
