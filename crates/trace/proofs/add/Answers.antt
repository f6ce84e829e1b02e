-- `trace::add` meets its contract. Assumes nothing.
use Rattle.trace.proofs.Tallies.{added}
use Rattle.trace.proofs.add.Goals as goal

pub returns : goal.returns
returns c = λ trace m is. added trace m _ is _ _ (c.gain.ensures.gains trace m is)
