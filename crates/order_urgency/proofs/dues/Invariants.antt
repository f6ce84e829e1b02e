use mathlib.Core.Path.{◌≡◌}
use mathlib.Core.List.{[]}
use lib.ListN.{length}
use Rattle.rules.specs.Image.{due}
use Rattle.order_urgency.specs.Lent.{lent_profile}
use Rattle.sets.proofs.Lists.{Filled}
use Rattle.order_urgency.proofs.dues.Given as goal

abbrev pub invariant-loop-a : goal.invariant-loop-a
invariant-loop-a l = (length l.u ≡ 64) × Filled (due (lent_profile l.n l.cycle [] l.deadlines [] 0)) l.a l.u
