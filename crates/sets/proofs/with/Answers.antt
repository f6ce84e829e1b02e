use Rattle.sets.specs.Sets.{plus}
use Rattle.sets.proofs.Laws.{plus_with}
use Rattle.sets.proofs.with.Goals as goal

pub returns : goal.returns
unfolding plus
returns c = rw c.one.ensures.is (plus_with c.args.s c.args.b)
