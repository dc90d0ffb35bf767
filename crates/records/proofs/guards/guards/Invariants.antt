use Rattle.std.proofs.Common.{◌≡◌}
use Rattle.records.specs.Guards.{no_guards, guards_from}
use Rattle.records.proofs.guards.guards.Given as goal

abbrev pub invariant-loop-text : goal.invariant-loop-text
invariant-loop-text l = guards_from no_guards 3 l.fn.fields ≡ guards_from l.found l.k l.text-iterator
