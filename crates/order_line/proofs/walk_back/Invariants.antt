use mathlib.Core.Path.{◌≡◌}
use Prim.Native.Nat.{◌+◌, ◌-◌, ◌*◌}
use lib.ListN.{length}
use Rattle.order_line.proofs.Walking.{Lining, Walk}
use Rattle.order_line.proofs.walk_back.Given as goal

abbrev pub invariant-loop-left : goal.invariant-loop-left
invariant-loop-left l =
    Lining l.n l.masks l.at l.left l.k × (length l.path ≡ 64) × ((l.left ≡ 0 → ⊥) → Walk l.n l.masks l.path l.left l.depth l.a)

-- a place is taken, or the walk goes back and has less far to go
abbrev pub decreases-loop-left : goal.decreases-loop-left
decreases-loop-left l = l.left * 65 + (64 - l.depth)
