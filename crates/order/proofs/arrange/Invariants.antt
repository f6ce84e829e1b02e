use Prim.Native.Nat.{◌-◌}
use Rattle.order.proofs.Placing.{Placing}
use Rattle.order.proofs.arrange.Given as goal

abbrev pub invariant-loop-k : goal.invariant-loop-k
invariant-loop-k l = Placing l.n l.masks l.urgency l.order l.waiting l.done l.free l.k

abbrev pub decreases-loop-k : goal.decreases-loop-k
decreases-loop-k l = l.n - l.k
