use Rattle.sets.proofs.Ends.{highest_is}
use Rattle.sets.proofs.highest.Goals as goal

pub returns : goal.returns
returns c = highest_is _ c.requires c.ranges.s.fits
