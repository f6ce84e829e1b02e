use Rattle.sets.proofs.Members.{ones_members}
use Rattle.sets.proofs.count.Goals as goal

pub returns : goal.returns
returns c = ones_members 64 c.args.s c.ranges.s.fits
