use mathlib.Core.Path.{◌≡◌}
use mathlib.Core.List.{[]}
use Rattle.rules.specs.Image.{due}
use Rattle.order_line.proofs.Numbering.{Tested}
use Rattle.order_urgency.specs.Lent.{lent_profile}
use Rattle.order_urgency.proofs.one_deadline.Given as goal

abbrev pub invariant-loop-a : goal.invariant-loop-a
invariant-loop-a l = Tested (λ b. due (lent_profile l.n l.cycle [] l.deadlines [] 0) b ≡ l.first) l.a l.other
