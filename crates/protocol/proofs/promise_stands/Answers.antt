use Rattle.protocol.proofs.Histories.{promise}
use Rattle.protocol.proofs.promise_stands.Goals as goal

pub returns : goal.returns
returns c = promise
