use Rattle.std.proofs.Common.{◌≡◌, ◌<◌, Bool, true, false, ◌&&◌, eqb, Some, None, cond, refl, sym, ap, ◌∙◌, arith}
use Rattle.std.specs.Bool.{then_some}
use Rattle.std.proofs.lemmas.Bool.{eqb-true, eq-eqb, and_parts}
use Rattle.clause.specs.declared.syntax.LitSet.{LitSet}
use Rattle.clause.specs.Bit.{bit, In}
use Rattle.clause.specs.Meaning.{◌∪◌}
use Rattle.clause.specs.Sets.{◌∖◌}
use Rattle.clause.proofs.Masks.{in_below}
use Rattle.rules.specs.Resolving.{clash, rest_of}
use Rattle.rules.proofs.Testing.{told_as}
use Rattle.rules.proofs.resolution.resolvent.Goals as goal
use Rattle.rules.proofs.resolution.resolvent.Goals.{then-has, else-has}

some_where : (b : Bool) (u v : LitSet) → (b ≡ true → u ≡ v) → then_some b u ≡ cond b (Some v) None
some_where true u v f = ap Some (f refl)
some_where false u v f = refl

pub returns : goal.returns
returns c =
    let s = c.args.s in
    let t = c.args.t in
    let k = c.args.k in
    let plus = told_as c.has.result (eqb (bit s.plus k) 1) (In k s.plus) c.has.ensures (eq-eqb _ 1) (eqb-true _ 1) in
    let same : c.if-has.clash ≡ clash k s t = elim c.if-has.branch [
      | then-has w ↦ w.clash-is ∙ told_as w.has-clash.result (eqb (bit t.minus k) 1) (In k t.minus) w.has-clash.ensures (eq-eqb _ 1) (eqb-true _ 1)
          ∙ ap (λ b. b && eqb (bit t.minus k) 1) (sym w.if-has.true ∙ plus)
      | else-has w ↦ w.clash-is ∙ w.if-has.false ∙ ap (λ b. b && eqb (bit t.minus k) 1) (sym w.if-has.false ∙ plus)
    ] in
    c.then_some.ensures ∙ ap (λ b. then_some b c.union-rest.result) same ∙ some_where (clash k s t) c.union-rest.result (rest_of k s t) (λ e.
    let b : k < 64 = in_below 64 s.plus k (omega arith) (eqb-true _ 1 (and_parts (eqb (bit s.plus k) 1) (eqb (bit t.minus k) 1) e).0) in
    c.union-rest.ensures ∙ (λ j. (c.without.ensures ∙ ap (λ m. s ∖ m) (c.of.ensures.low b)) j ∪ (c.without-2.ensures ∙ ap (λ m. t ∖ m) (c.of-2.ensures.low b)) j))
