use Rattle.sets.proofs.Laws.{minus_without}
use Rattle.sets.proofs.without.Goals as goal

pub returns : goal.returns
returns c = rw c.one.ensures.is (minus_without c.args.s c.args.b c.ranges.s.fits c.requires)
