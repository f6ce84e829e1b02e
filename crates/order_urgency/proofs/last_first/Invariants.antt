use Prim.Native.Nat.{◌<◌}
use lib.ListN.{get_or}
use Rattle.rules.specs.Order.{Order, Permitted}
use Rattle.sets.specs.Sets.{comes_before}
use Rattle.order_line.specs.Line.{Lists}
use Rattle.order_urgency.proofs.Turns.{Turns}
use Rattle.order_urgency.proofs.last_first.Given as goal

abbrev pub invariant-loop-k : goal.invariant-loop-k
invariant-loop-k l =
    ((o : Order l.n) → Permitted (comes_before l.masks) o → Lists l.order o → Turns l.n l.masks (λ a. get_or l.initial.u a 0) (λ a. o.pos a < l.k) l.u)
