use native.Mathlib.Omega.{arith}
use lib.ListN.{length-set}
use Rattle.rules.specs.Image.{due}
use Rattle.sets.proofs.Lists.{filled_more}
use Rattle.order_urgency.proofs.dues.Goals as goal

pub loop-a-preserved : goal.loop-a-preserved
unfolding due
loop-a-preserved c = (
  simp length-set c.loop-a.invariant.0,
  filled_more _ c.loop-a.a c.due.result c.loop-a.u (omega (arith, c.loop-a.invariant.0)) c.loop-a.invariant.1 c.due.ensures,
)
