use Rattle.sets.proofs.Bits.{ones_below}
use Rattle.sets.proofs.all_below.Goals as goal

pub returns-then-n-eq64 : goal.returns-then-n-eq64
returns-then-n-eq64 c = rw c.if-n-eq64.true (ones_below 64)

pub returns : goal.returns
returns c = rw c.one.ensures.is (ones_below c.args.n)
