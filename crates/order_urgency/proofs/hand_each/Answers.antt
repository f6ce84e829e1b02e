use Rattle.order_urgency.proofs.Handing.{handing_end}
use Rattle.order_urgency.proofs.hand_each.Goals as goal

pub returns : goal.returns
returns c = handing_end (rw c.loop-t-test.false at c.loop-t.invariant)
