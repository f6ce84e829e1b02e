use Rattle.order_urgency.proofs.Handing.{Handing}
use Rattle.order_urgency.proofs.hand_each.Given as goal

abbrev pub invariant-loop-t : goal.invariant-loop-t
invariant-loop-t l = Handing l.to l.x l.initial.u l.u l.t

abbrev pub decreases-loop-t : goal.decreases-loop-t
decreases-loop-t l = l.t
