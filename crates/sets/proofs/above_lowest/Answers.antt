use Rattle.sets.proofs.Ends.{above-lowest}
use Rattle.sets.proofs.above_lowest.Goals as goal

pub returns : goal.returns
returns c = above-lowest _
