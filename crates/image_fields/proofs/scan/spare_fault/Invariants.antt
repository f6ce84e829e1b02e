use Prim.Native.Nat.{◌≤◌}
use Rattle.rules.specs.Refusals.{SpareFault}
use Rattle.rules.proofs.Faults.{Faultless}
use Rattle.image_fields.proofs.scan.spare_fault.Given as goal

abbrev pub invariant-loop-a : goal.invariant-loop-a
invariant-loop-a l = (l.a ≤ l.n) × Faultless (SpareFault l.image) l.a
