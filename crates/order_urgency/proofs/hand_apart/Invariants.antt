use Prim.Native.Nat.{◌^◌, ◌<◌}
use Rattle.order_urgency.proofs.Apart.{Passing}
use Rattle.order_urgency.proofs.hand_apart.Given as goal

abbrev pub invariant-loop-t : goal.invariant-loop-t
invariant-loop-t l = (l.t < 2 ^ 64) × Passing l.masks l.to l.x l.initial.u l.u l.t

abbrev pub decreases-loop-t : goal.decreases-loop-t
decreases-loop-t l = l.t
