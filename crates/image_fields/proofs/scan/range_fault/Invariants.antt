use Prim.Native.Nat.{◌≤◌}
use lib.ListN.{get_or}
use Rattle.rules.specs.Refusals.{OutOfRange}
use Rattle.rules.proofs.Faults.{Faultless}
use Rattle.image_fields.proofs.scan.range_fault.Given as goal

abbrev pub invariant-loop-a : goal.invariant-loop-a
invariant-loop-a l = (l.a ≤ l.n) × Faultless (λ k. OutOfRange l.n l.cycle (get_or l.masks k 0) (get_or l.deadlines k 0)) l.a
