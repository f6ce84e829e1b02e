use Rattle.sets.proofs.Ends.{trailing_lowest}
use Rattle.sets.proofs.lowest.Goals as goal

pub returns : goal.returns
returns c = trailing_lowest c.args.s c.requires c.ranges.s.fits
