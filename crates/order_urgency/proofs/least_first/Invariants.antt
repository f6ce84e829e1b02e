use mathlib.Core.Path.{◌≡◌}
use mathlib.Core.Bool.{true}
use Prim.Native.Nat.{ℕ}
use lib.ListN.{get_or}
use Rattle.rules.specs.Image.{has}
use Rattle.sets.specs.Sets.{Below}
use Rattle.order_urgency.specs.Spread.{Foremost}
use Rattle.order_urgency.proofs.Turns.{Turns}
use Rattle.order_urgency.proofs.least_first.Given as goal

abbrev pub invariant-loop-left : goal.invariant-loop-left
invariant-loop-left l =
    Below l.left l.n × Turns l.n l.masks (λ a. get_or l.initial.u a 0) (λ a. has l.left a ≡ true) l.u × ((a : ℕ) → has l.front a ≡ true → Foremost l.u l.left a)

abbrev pub decreases-loop-left : goal.decreases-loop-left
decreases-loop-left l = l.left
