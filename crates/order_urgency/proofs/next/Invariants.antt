use Rattle.order_urgency.proofs.Picking.{Best}
use Rattle.order_urgency.proofs.next.Given as goal

abbrev pub invariant-loop-t : goal.invariant-loop-t
invariant-loop-t l = Best l.urgency l.among l.t l.best

abbrev pub decreases-loop-t : goal.decreases-loop-t
decreases-loop-t l = l.t
