-- One of the four tests, or none. Assumes nothing.
use Rattle.run.proofs.Ranges.{counts_fit}
use Rattle.run.proofs.counts_fit.Goals as goal

pub returns : goal.returns
returns c = counts_fit _ _
