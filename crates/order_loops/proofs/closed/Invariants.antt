use Rattle.order_loops.specs.Looped.{Rows}
use Rattle.order_loops.proofs.closed.Given as goal

abbrev pub invariant-loop-k : goal.invariant-loop-k
invariant-loop-k l = Rows l.masks l.n l.k l.all
