use Prim.Native.Nat.{ℕ}
use lib.ListN.{length}
use Rattle.sets.specs.Sets.{Below}
use Rattle.order.specs.Lent.{Masked}
use Rattle.order.specs.Arranged.{Parted}
use Rattle.order.proofs.release.Given as goal

abbrev pub invariant-loop-t : goal.invariant-loop-t
invariant-loop-t l = Below l.t (length l.masks)
    × ((n : ℕ) → Masked n l.masks → Parted n l.masks l.done l.free l.from l.initial.waiting → Parted n l.masks l.done l.r l.t l.waiting)

abbrev pub decreases-loop-t : goal.decreases-loop-t
decreases-loop-t l = l.t
