-- Calls that add one line.
use Rattle.std.proofs.Common.{◌≡◌, refl}
use Rattle.protocol.specs.State.{State}
use Rattle.protocol.specs.Calls.{Call, give, seal, infer, wait_line, wait_literal, open_loop, close, abandon, draw, draw_alone, refute, show, Answer}
use Rattle.protocol.specs.Causes.{places, full}
use Rattle.protocol.specs.Answers.{Adding, Added, Result}

pub one_place : (s : State) (c : Call) → Adding c → places s c ≡ full s 1
one_place s (give c) a = absurd a
one_place s seal a = absurd a
one_place s (infer b ns) a = refl
one_place s (wait_line n) a = refl
one_place s (wait_literal l) a = refl
one_place s (open_loop l gs) a = absurd a
one_place s (close ns) a = absurd a
one_place s abandon a = absurd a
one_place s (draw n m) a = refl
one_place s (draw_alone n) a = refl
one_place s (refute n row) a = absurd a
one_place s (show x) a = absurd a

pub adding_result : (s : State) (c : Call) (a : Answer) (t : State) → Adding c → Added s c a t → Result s c a t
adding_result s (give c) a t h q = absurd h
adding_result s seal a t h q = absurd h
adding_result s (infer b ns) a t h q = q
adding_result s (wait_line n) a t h q = q
adding_result s (wait_literal l) a t h q = q
adding_result s (open_loop l gs) a t h q = absurd h
adding_result s (close ns) a t h q = absurd h
adding_result s abandon a t h q = absurd h
adding_result s (draw n m) a t h q = q
adding_result s (draw_alone n) a t h q = q
adding_result s (refute n row) a t h q = absurd h
adding_result s (show x) a t h q = absurd h
