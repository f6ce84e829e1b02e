use Rattle.rules.specs.Order.{OnLoop}
use Rattle.sets.specs.Sets.{comes_before}
use Rattle.order_loops.proofs.Collecting.{Collected}
use Rattle.order_loops.proofs.looped.Given as goal

abbrev pub invariant-loop-a : goal.invariant-loop-a
invariant-loop-a l = Collected (OnLoop l.n (comes_before l.masks)) l.a l.set
