use Rattle.std.proofs.Common.{true, false, length, Ok, sym, ap, ◌∙◌, subst, arith, pow_pos}
use Rattle.std.proofs.lemmas.Bool.{false≢true}
use Rattle.rules.specs.Books.{gives, globally, outcome_of, Tidy}
use Rattle.rules.proofs.Counting.{atoms_count}
use Rattle.rules.proofs.Judging.{found, not_found, late_tried, late_many, all_here}
use Rattle.rules.proofs.trial.attempt.Goals as goal

pub returns-then-count-gt-MOST_ATOMS : goal.returns-then-count-gt-MOST_ATOMS
returns-then-count-gt-MOST_ATOMS c =
    let e = c.args.claim in
    let cs = c.args.cited.now in
    let a = c.of-atoms.ensures in
    record {
      answer = late_many e cs (sym c.if-not-suits.ensures) (omega (arith, atoms_count e cs _ _ (omega arith) (omega arith) a.now a.next));
      tidy = tt;
    }

pub returns-then-has_counterexample : goal.returns-then-has_counterexample
returns-then-has_counterexample c =
    let e = c.args.claim in
    let cs = c.args.cited.now in
    let a = c.of-atoms.ensures in
    record {
      answer = late_tried e cs true (sym c.if-not-suits.ensures) (omega (arith, atoms_count e cs _ _ (omega arith) (omega arith) a.now a.next))
          (found e cs _ _ a.now a.next c.if-has_counterexample.ensures);
      tidy = tt;
    }

pub returns : goal.returns
returns c =
    let e = c.args.claim in
    let cs = c.args.cited.now in
    let a = c.of-atoms.ensures in
    let p = sym c.globally.ensures in
    record {
      answer = late_tried e cs false (sym c.if-not-suits.ensures) (omega (arith, atoms_count e cs _ _ (omega arith) (omega arith) a.now a.next))
          (not_found e cs _ _ a.now a.next c.if-has_counterexample.ensures)
          ∙ ap (gives (globally e.now e.next)) (all_here (length cs)) ∙ ap (λ m. outcome_of (length cs) (Ok m)) p;
      tidy = subst (λ m. Tidy (length cs) (Ok m)) p (pow_pos (length cs), λ f. absurd (false≢true f));
    }
