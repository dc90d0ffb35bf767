-- What a line of a case text says.
use Rattle.std.specs.Prelude.{ℕ, Bool, cond, List, [], ◌∷◌, Err, Result, ◌==◌}
use Rattle.clause.specs.declared.refusal.Fault.{Fault}
use Rattle.clause.specs.declared.refusal.Refusal.TheVariants.{FieldCount}
use Rattle.clause.specs.declared.syntax.Literal.{Literal}
use Rattle.clause.specs.declared.syntax.Clause.TheVariants.{Initial, Global, Eventuality}
use Rattle.forms.specs.Cuts.{split}
use Rattle.forms.specs.Fields.{key_of}
use Rattle.forms.specs.Forms.{number_in, set_in}
use Rattle.records.specs.declared.record.Record.{Record}
use Rattle.records.specs.declared.record.Record.TheVariants.{Give, Seal, WaitLine, WaitLiteral, Resolve, Trial, OpenLoop, CloseLoop, Abandon, DrawFor, Draw, Refute}
use Rattle.records.specs.Fields.{misread, formed, and_so, closed, unknown, keyed, literal_of, letter_of, numbers_of, no_field, one_field, two_fields, three_fields}
use Rattle.records.specs.Guards.{no_guards, guards_from}

abbrev pub Read : Type 0
Read = Result Record Fault

abbrev pub initial_of : List (List ℕ) → Bool → Read
initial_of = one_field set_in (λ s. Give (Initial s))

abbrev pub global_of : List (List ℕ) → Bool → Read
global_of = two_fields set_in set_in (λ s x. Give (Global s x))

abbrev pub eventuality_of : List (List ℕ) → Bool → Read
eventuality_of = two_fields set_in literal_of (λ s l. Give (Eventuality s l))

abbrev pub wait_line_of : List (List ℕ) → Bool → Read
wait_line_of = one_field number_in WaitLine

abbrev pub wait_literal_of : List (List ℕ) → Bool → Read
wait_literal_of = one_field literal_of WaitLiteral

abbrev pub resolve_of : List (List ℕ) → Bool → Read
resolve_of = three_fields number_in number_in letter_of Resolve

abbrev pub trial_of : List (List ℕ) → Bool → Read
trial_of = three_fields set_in set_in numbers_of Trial

-- an open line from its guards on
abbrev pub guarded : Literal → List (List ℕ) → Bool → Read
guarded l gs e = and_so (guards_from no_guards 3 gs) (λ p. closed e p.1 (OpenLoop l p.0))

-- two fields or more: the literal and the guards
abbrev pub open_of : List (List ℕ) → Bool → Read
open_of [] e = Err (misread FieldCount 0)
open_of (k ∷ []) e = Err (misread FieldCount 0)
open_of (k ∷ l ∷ gs) e = and_so (formed 2 (literal_of l)) (λ x. guarded x gs e)

abbrev pub close_of : List (List ℕ) → Bool → Read
close_of = one_field numbers_of CloseLoop

abbrev pub draw_for_of : List (List ℕ) → Bool → Read
draw_for_of = two_fields number_in number_in DrawFor

abbrev pub draw_of : List (List ℕ) → Bool → Read
draw_of = one_field number_in Draw

abbrev pub refute_of : List (List ℕ) → Bool → Read
refute_of = one_field number_in Refute

-- by the key: I, G, E, S, W, V, R, T, O, C, A, N, M, X
abbrev pub by_key : ℕ → List (List ℕ) → Bool → Read
by_key k fs e =
    cond (k == 73) (initial_of fs e)
    (cond (k == 71) (global_of fs e)
    (cond (k == 69) (eventuality_of fs e)
    (cond (k == 83) (no_field Seal fs e)
    (cond (k == 87) (wait_line_of fs e)
    (cond (k == 86) (wait_literal_of fs e)
    (cond (k == 82) (resolve_of fs e)
    (cond (k == 84) (trial_of fs e)
    (cond (k == 79) (open_of fs e)
    (cond (k == 67) (close_of fs e)
    (cond (k == 65) (no_field Abandon fs e)
    (cond (k == 78) (draw_for_of fs e)
    (cond (k == 77) (draw_of fs e)
    (cond (k == 88) (refute_of fs e) unknown)))))))))))))

-- the record of a line without its end, and whether the end is there
abbrev pub record_of : List ℕ → Bool → Read
record_of line e = keyed (key_of (split 9 line)) (λ k. by_key k (split 9 line) e)
