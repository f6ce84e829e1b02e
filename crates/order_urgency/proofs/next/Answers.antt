use Rattle.order_urgency.proofs.Picking.{best_end}
use Rattle.order_urgency.proofs.next.Goals as goal

pub returns : goal.returns
returns c = best_end _ (rw c.loop-t-test.false at c.loop-t.invariant)
