use mathlib.Core.List.{[]}
use Prim.Native.Nat.{◌*◌, ◌≤◌}
use lib.ListN.{get_or}
use Rattle.rules.specs.Image.{due}
use Rattle.order.specs.Lent.{lent_profile}
use Rattle.order.proofs.Ending.{Ending}
use Rattle.order.proofs.fit.Given as goal

abbrev pub invariant-loop-k : goal.invariant-loop-k
invariant-loop-k l =
    (l.k ≤ l.n) × Ending (due (lent_profile l.n l.cycle [] l.deadlines [] 0)) (λ a. get_or l.worst (a * l.stride) 0) l.order l.k l.end
