use Prim.Native.Nat.{◌≤◌}
use Rattle.rules.specs.Image.{average_of, worst_of}
use Rattle.rules.specs.Refusals.{RowBreaks}
use Rattle.rules.proofs.Faults.{Faultless}
use Rattle.image_fields.proofs.scan.table_fault.Given as goal

abbrev pub invariant-loop-a : goal.invariant-loop-a
invariant-loop-a l = (l.a ≤ l.n) × Faultless (λ k. RowBreaks l.levels (average_of l.image k) (worst_of l.image k)) l.a
