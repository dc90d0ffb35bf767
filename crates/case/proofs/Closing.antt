-- The causes of a close.
use Rattle.std.proofs.Common.{◌≡◌, ℕ, ◌+◌, ◌<◌, ◌≤◌, List, ◌++◌, length, Some, refl, inl, inr, arith}
use Rattle.std.proofs.lemmas.List.{length-map}
use Rattle.clause.specs.declared.refusal.Fault.{Fault}
use Rattle.clause.specs.declared.refusal.Refusal.TheVariants.{WrongCount, WrongKind, CoverMisfit, NoRoom}
use Rattle.clause.specs.Refusals.{plain, fault_at}
use Rattle.protocol.specs.State as model
use Rattle.protocol.specs.Calls.{close}
use Rattle.protocol.specs.Causes.{Cause, First, NoneOf, SomeIn, NotGlobal, Unfit, named, covering, full, causes}
use Rattle.protocol.proofs.Causing.{none_both, first_after, first_left, not_if}
use Rattle.lines.specs.declared.line.Line.{Line}
use Rattle.lines.specs.View.{line_of, lines_of}
use Rattle.lines.specs.Named.{LoopFrom, at_stage}
use Rattle.case.specs.declared.stage.OpenLoop.{OpenLoop}
use Rattle.case.specs.View.{stage_of, guards_in}

module _ (o : OpenLoop) (ls : List Line) (ns : List ℕ) (same : length ns ≡ length (guards_in o)) where
  abbrev here : model.State
  here = at_stage (stage_of o) o.body.given (lines_of ls)

  abbrev later : List Cause
  later = covering (lines_of ls) ns (guards_in o) ++ full here (length ns)

  counted : (f : Fault) → First (named here ns ++ later) f → First (causes here (close ns)) f
  counted f q = inr (not_if _ WrongCount (λ z. z same), q)

  pub close_lines : (f : Fault) → ((st : model.Stage) (g : ℕ) → LoopFrom (Some o.first) (length ls) st → First (named (at_stage st g (lines_of ls)) ns) f) → First (causes here (close ns)) f
  close_lines f q = counted f (first_left (named here ns) later f (q (stage_of o) o.body.given (λ n h. refl)))

  module _ (passed : (st : model.Stage) (g : ℕ) → LoopFrom (Some o.first) (length ls) st → NoneOf (named (at_stage st g (lines_of ls)) ns)) where
    past : (f : Fault) → First later f → First (causes here (close ns)) f
    past f q = counted f (first_after (named here ns) later f (passed (stage_of o) o.body.given (λ n h. refl)) q)

    pub close_kind : (f : Fault) → SomeIn (λ n. NotGlobal (model.clause_at (lines_of ls) n)) ns → f ≡ plain WrongKind → First (causes here (close ns)) f
    close_kind f q e = past f (inl (q, e))

    module _ (kinds : ¬ SomeIn (λ n. NotGlobal (model.clause_at (lines_of ls) n)) ns) where
      pub close_misfit : (f : Fault) (p : ℕ) → Unfit (lines_of ls) 1 ns (guards_in o) p → f ≡ fault_at CoverMisfit 0 p → First (causes here (close ns)) f
      close_misfit f p q e = past f (inr (not_if _ WrongKind kinds, inl (p, q, e)))

      module _ (fit : (p : ℕ) → ¬ Unfit (lines_of ls) 1 ns (guards_in o) p) where
        none_covering : NoneOf (covering (lines_of ls) ns (guards_in o))
        none_covering = (not_if _ WrongKind kinds, ((λ g q. fit q.0 q.1), tt))

        pub close_full : (f : Fault) → 1000 < length ls + length ns → f ≡ plain NoRoom → First (causes here (close ns)) f
        close_full f h e = past f (first_after (covering (lines_of ls) ns (guards_in o)) (full here (length ns)) f none_covering (inl (omega (arith, length-map ls line_of), e)))

        pub close_none : length ls + length ns ≤ 1000 → NoneOf (causes here (close ns))
        close_none h = (
          not_if _ WrongCount (λ z. z same),
          none_both (named here ns) later (passed (stage_of o) o.body.given (λ n h. refl))
              (none_both (covering (lines_of ls) ns (guards_in o)) (full here (length ns)) none_covering (not_if _ NoRoom (λ q. omega (arith, length-map ls line_of)), tt)),
        )
