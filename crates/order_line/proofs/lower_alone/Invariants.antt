use lib.ListN.{get_or}
use Rattle.sets.specs.Sets.{Below}
use Rattle.order_line.proofs.Numbering.{Tested}
use Rattle.order_line.proofs.lower_alone.Given as goal

abbrev pub invariant-loop-a : goal.invariant-loop-a
invariant-loop-a l = Tested (λ b. Below (get_or l.masks b 0) b) l.a l.higher
