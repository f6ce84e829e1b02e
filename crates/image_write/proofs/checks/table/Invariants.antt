use Prim.Native.Nat.{◌≤◌}
use Rattle.rules.specs.Image.{time_at}
use Rattle.rules.specs.Refusals.{RowBreaks}
use Rattle.rules.proofs.Faults.{Faultless}
use Rattle.image_write.proofs.checks.table.Given as goal

abbrev pub invariant-loop-a : goal.invariant-loop-a
invariant-loop-a l =
    (l.a ≤ l.n) × Faultless (λ k. RowBreaks l.levels (time_at l.levels l.averages k) (time_at l.levels l.worst k)) l.a
