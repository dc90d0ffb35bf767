use Rattle.std.proofs.Common.{◌≡◌, length, arith}
use Rattle.lines.proofs.Placing.{front_padded, front_full}
use Rattle.lines.proofs.places.first_8.Goals as goal

pub returns : goal.returns
returns g c = record {
  few = λ h. let e : c.min.result ≡ length c.args.items.now = omega arith in
      front_padded c.args.filler c.args.items.now c.copy_from_slice.new.self c.min.result h e c.copy_from_slice.ensures.after;
  many = λ h. let e : c.min.result ≡ 8 = omega arith in
      front_full c.args.filler c.args.items.now c.copy_from_slice.new.self c.min.result h e c.copy_from_slice.ensures.after;
}
