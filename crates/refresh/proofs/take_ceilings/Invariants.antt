use Prim.Native.Nat.{◌≤◌}
use Rattle.refresh.specs.Refresh.{Ceiled}
use Rattle.refresh.proofs.take_ceilings.Given as goal

abbrev pub invariant-loop-a : goal.invariant-loop-a
invariant-loop-a l = (l.a ≤ l.n) × Ceiled l.image l.a l.levels l.ceilings
