use Rattle.order_loops.proofs.Closing.{rows_start}
use Rattle.order_loops.proofs.closed.Goals as goal

pub loop-k-init : goal.loop-k-init
loop-k-init c = rows_start _ c.copied-all.ensures.long c.copied-all.ensures.each

pub loop-k-preserved : goal.loop-k-preserved
loop-k-preserved c = c.through.ensures _ c.loop-k.invariant
